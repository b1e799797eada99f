-- The definitions in reading order: each module stands on those above it.
pub mod Pairs
pub mod Key
pub mod MessageParts
pub mod ByteOrder
pub mod FileHeader
pub mod Strings
pub mod Fault
pub mod View
pub mod Writing
pub mod Building
pub mod Laws
pub mod Internal
pub mod Examples
pub mod Prelude
