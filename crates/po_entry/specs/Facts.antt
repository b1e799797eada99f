-- Facts about entries, and about what stands twice in a list, with their proofs, which any crate may cite.
pub mod EqualityLaws
pub mod FirstRepeats
