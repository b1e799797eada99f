-- The definitions in reading order: each module stands on those above it.
pub mod Token
pub mod Item
pub mod Escape
pub mod Line
pub mod LineFaults
pub mod PoText
pub mod Pieces
pub mod Quoting
pub mod Laws
pub mod Internal
pub mod Facts
pub mod Examples
pub mod Prelude
