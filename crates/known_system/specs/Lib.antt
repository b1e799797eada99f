-- The definitions in reading order: each module stands on those above it.
pub mod CallCode
pub mod Noted
pub mod Source
pub mod Replay
pub mod Stored
pub mod Contents
pub mod AskedCode
pub mod Questioned
pub mod Prelude
