-- The definitions in reading order: each module stands on those above it.
pub mod Reference
pub mod Replacements
pub mod Substituter
pub mod Holding
pub mod WholeInput
pub mod Variable
pub mod Arguments
pub mod ByArguments
pub mod Laws
pub mod Internal
pub mod Prelude
