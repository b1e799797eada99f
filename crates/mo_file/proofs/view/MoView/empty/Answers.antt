use Rattle.mo_file.proofs.Prelude.{arith, messages_of, refl, word_at, word_bytes, ℕ, ◌+◌, ◌<◌}
use Rattle.mo_file.proofs.view.MoView.empty.Goals as goal

none_below : (i : ℕ) → i < 0 → ⊥
none_below i under = omega (arith, under)

pub invariant_of-result : goal.invariant_of-result
unfolding word_at
invariant_of-result c = record {
  read = record {
    long = omega (arith);
    shows = refl;
    known = omega (arith);
    count = refl;
    originals = refl;
    translations = refl;
    originals_inside = omega (arith);
    translations_inside = omega (arith);
  };
  strings = record { inside = λ i under _. none_below i under; terminated = λ i under _. none_below i under };
  sorted = λ i under _. none_below (i + 1) under;
}

pub returns-clause-messages : goal.returns-clause-messages
unfolding messages_of word_at
returns-clause-messages c = refl

pub returns-clause-bytes : goal.returns-clause-bytes
unfolding word_bytes
returns-clause-bytes c = refl
