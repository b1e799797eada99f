-- What private functions, proofs and laws cite; no clause of a public function does.
pub mod Stage
pub mod Turn
pub mod Reads
pub mod ReaderView
pub mod Keeping
