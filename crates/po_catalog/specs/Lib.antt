-- The definitions in reading order: each module stands on those above it.
pub mod EntryView
pub mod JoinedView
pub mod Prelude
