-- The lemmas in reading order: each module stands on those above it.
mod Prelude
pub mod SpeltTrees
pub mod Tokens
pub mod Programs
pub mod ParserSteps
pub mod HeaderRules
pub mod Evaluation
