-- The definitions in reading order: each module stands on those above it.
pub mod Operator
pub mod Lexer
pub mod Evaluator
pub mod Parser
pub mod Header
pub mod Instruction
pub mod Rule
pub mod Internal
pub mod Examples
pub mod Prelude
