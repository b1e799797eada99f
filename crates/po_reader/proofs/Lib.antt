-- The lemmas in reading order: each module stands on those above it.
mod Prelude
pub mod ReaderSteps
pub mod FromSpelling
pub mod MisplacedItems
pub mod ToSpelling
pub mod FirstFaults
pub mod CommentFields
pub mod EntryTexts
pub mod ValidEntries
pub mod OneOutcome
pub mod Pieces
