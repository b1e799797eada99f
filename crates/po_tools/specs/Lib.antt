-- The definitions in reading order: each module stands on those above it.
pub mod NamedInputs
pub mod RunLaws
pub mod ToolRun
pub mod RunsOver
pub mod ChainLaws
pub mod Prelude
