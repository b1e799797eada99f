-- The lemmas in reading order: each module stands on those above it.
mod Prelude
pub mod AdmittedTexts
pub mod TextLists
pub mod EntryLayout
pub mod CommentElements
pub mod EntryRows
pub mod Headers
pub mod Statistics
pub mod Duplicates
pub mod JoinedLists
pub mod MessageNumbers
pub mod MessageKeys
