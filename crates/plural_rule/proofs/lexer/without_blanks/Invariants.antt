use Rattle.plural_rule.proofs.Prelude.{get_or, is_blank, true, ℕ, ◌<◌, ◌≡◌}
use Rattle.plural_rule.proofs.lexer.without_blanks.Given as goal

abbrev pub invariant-loop-index : goal.invariant-loop-index
invariant-loop-index l = (k : ℕ) → k < l.index → is_blank (get_or l.text k 0) ≡ true
