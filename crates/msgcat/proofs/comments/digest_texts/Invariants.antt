use Rattle.msgcat.proofs.Prelude.{fold, texts_left, ◌≡◌}
use Rattle.std.specs.Hash.DefaultHasher.{write}
use Rattle.msgcat.proofs.comments.digest_texts.Given as goal

-- the texts that are left are what is to be digested
abbrev pub invariant-loop-text : goal.invariant-loop-text
invariant-loop-text l =
    fold write l.digest (texts_left l.text-iterator) ≡ fold write l.initial.digest (texts_left l.fn.texts)
