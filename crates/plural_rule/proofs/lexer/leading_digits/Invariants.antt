use Rattle.plural_rule.proofs.Prelude.{get_or, is_ascii_digit, true, ℕ, ◌<◌, ◌≡◌}
use Rattle.plural_rule.proofs.lexer.leading_digits.Given as goal

abbrev pub invariant-loop-index : goal.invariant-loop-index
invariant-loop-index l = (k : ℕ) → k < l.index → is_ascii_digit (get_or l.text k 0) ≡ true
