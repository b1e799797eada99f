-- The lemmas in reading order: each module stands on those above it.
mod Prelude
pub mod SeenTexts
pub mod ValidMerged
pub mod JoinedForms
pub mod MergedGroups
pub mod MessagesOnce
pub mod InputEntries
pub mod GroupsByIndex
pub mod MessageLinks
pub mod LinesOfDefinitions
pub mod EntryLaws
pub mod OneDefinition
pub mod MergedMessages
pub mod SameInput
pub mod Runs
