-- The lemmas in reading order: each module stands on those above it.
mod Prelude
pub mod KeyPrefixes
pub mod JoinedRows
pub mod DistinctKeys
pub mod CompiledMessages
pub mod Meaning
pub mod SortedMessages
pub mod CollectedInputs
pub mod OneOutcome
pub mod FileLimit
