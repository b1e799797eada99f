use Rattle.msgcat.proofs.Prelude.{HaveSameTexts, collected, named_entries, take, texts_of, ◌≡◌}
use Rattle.msgcat.proofs.comments.comment_of.Given as goal

-- the texts of the definitions so far are collected, and they were seen
abbrev pub invariant-loop-definition : goal.invariant-loop-definition
invariant-loop-definition l = record {
  are_collected : l.all ≡ collected (texts_of l.kind) (named_entries (take l.definition-index l.definitions));
  met : HaveSameTexts l.seen l.all;
}
