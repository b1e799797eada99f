use Rattle.mo_expand.proofs.Prelude.{refl, string_at}
use Rattle.mo_expand.proofs.any_order.string_at.Goals as goal

pub returns : goal.returns
unfolding string_at
returns c = rw (c.word.ensures, c.word-start.ensures) refl
