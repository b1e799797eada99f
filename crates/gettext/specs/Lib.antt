-- The definitions in reading order: each module stands on those above it.
pub mod Count
pub mod Escape
pub mod Environment
pub mod Candidates
pub mod Paths
pub mod Catalogues
pub mod Plan
pub mod Arguments
pub mod WholeRun
pub mod Internal
pub mod Prelude
