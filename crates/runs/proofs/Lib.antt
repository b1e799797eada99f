-- The lemmas in reading order: each module stands on those above it.
mod Prelude
mod Paths
mod KeptRights
pub mod OutputsInPlace
mod NewFileOutputs
pub mod Devices
pub mod AskedInputs
