use Rattle.msgcat.proofs.Prelude.{form_lists, joined_at, length, rests, take, ◌≡◌}
use Rattle.msgcat.proofs.joined_translations.joined_form.Given as goal

-- the next forms of the translations so far are joined, and what is left of them stands there
abbrev pub invariant-loop-translation : goal.invariant-loop-translation
invariant-loop-translation l = record {
  are_joined : l.joined.items ≡ joined_at 0 (form_lists (take (length l.yielded) l.fn.translations.items));
  left : form_lists l.rest.items ≡ rests (form_lists (take (length l.yielded) l.fn.translations.items));
}
