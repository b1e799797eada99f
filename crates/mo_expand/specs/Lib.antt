-- The definitions in reading order: each module stands on those above it.
pub mod Segments
pub mod Expanding
pub mod ExpandedFile
pub mod SortedFile
pub mod Laws
pub mod Internal
pub mod Prelude
