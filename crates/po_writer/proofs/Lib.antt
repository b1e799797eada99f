-- The lemmas in reading order: each module stands on those above it.
mod Prelude
pub mod Utf8Lines
pub mod WrittenLines
pub mod Comments
pub mod KeywordLines
pub mod WrittenLists
pub mod WrittenEntries
pub mod WrittenTexts
