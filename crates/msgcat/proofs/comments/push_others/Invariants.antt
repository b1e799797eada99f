use Rattle.msgcat.proofs.Prelude.{length, texts_left, ◌≡◌}
use Rattle.msgcat.proofs.SeenTexts.{AreTaken}
use Rattle.msgcat.proofs.comments.push_others.Given as goal

-- the texts up to those that are left were taken
abbrev pub invariant-loop-text : goal.invariant-loop-text
invariant-loop-text l = record {
  taken : AreTaken l.initial.done l.initial.seen (texts_left l.fn.others) l.done l.seen (texts_left l.text-iterator);
  earlier : l.earlier ≡ length l.initial.seen;
}
