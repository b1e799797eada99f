-- The definitions in reading order: each module stands on those above it.
pub mod PieceRead
pub mod Internal
pub mod Prelude
