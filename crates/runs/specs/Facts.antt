-- Facts of runs that every crate may cite, over any plan.
pub mod RunEnds
