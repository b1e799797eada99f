-- What private functions and proofs cite; no clause of a public function does.
pub mod Plan
