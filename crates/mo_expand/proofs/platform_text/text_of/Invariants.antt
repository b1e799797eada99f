use Rattle.mo_expand.proofs.Prelude.{drop, text_of, ◌≡◌}
use Rattle.mo_expand.proofs.platform_text.text_of.Given as goal

abbrev pub invariant-loop-it : goal.invariant-loop-it
invariant-loop-it l = text_of l.texts l.name ≡ text_of (drop l.it-index l.texts) l.name
