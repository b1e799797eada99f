-- Facts about lists and values, with their proofs, which any crate may cite.
pub mod Runs
pub mod AllAppend
pub mod Cuts
pub mod Filters
pub mod LinesWithEnds
pub mod Mapped
pub mod Once
pub mod Zips
