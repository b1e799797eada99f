-- What private functions, proofs and laws cite; no clause of a public function does.
pub mod Lexer
pub mod Evaluator
pub mod Parser
pub mod Pending
pub mod ParserState
