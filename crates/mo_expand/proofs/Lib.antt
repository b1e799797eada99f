-- The lemmas in reading order: each module stands on those above it.
mod Prelude
pub mod AddedMessages
pub mod ExpandedFiles
pub mod MessageOrder
pub mod SegmentTexts
pub mod SystemMessages
pub mod Examples
