-- What private functions, proofs and laws cite; no clause of a public function does.
pub mod Unformatting
