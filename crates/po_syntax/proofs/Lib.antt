-- The lemmas in reading order: each module stands on those above it.
mod Prelude
pub mod Searches
pub mod Faults
pub mod Escapes
pub mod StringsRead
pub mod QuotedForms
pub mod LineNumbers
pub mod Keywords
pub mod Lines
pub mod OneLine
pub mod Utf8Lines
pub mod OneOutcome
pub mod ItemTexts
pub mod PieceLines
pub mod PieceTexts
