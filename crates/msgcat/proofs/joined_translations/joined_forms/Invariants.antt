use Rattle.msgcat.proofs.Prelude.{form_lists, joined_at, length, map, most_forms, range_with_len, texts, ℕ, ◌+◌, ◌≡◌}
use Rattle.msgcat.proofs.joined_translations.joined_forms.Given as goal

-- the forms so far are joined, and the translations that are left make the others
abbrev pub invariant-loop-forms : goal.invariant-loop-forms
invariant-loop-forms l = record {
  are_joined : texts l.forms.items ≡ map (λ i. joined_at i (form_lists l.fn.translations.items))
      (range_with_len 0 (length l.forms.items));
  others : (j : ℕ) → joined_at j (form_lists l.left.items)
      ≡ joined_at (length l.forms.items + j) (form_lists l.fn.translations.items);
  counted : most_forms (form_lists l.left.items) + length l.forms.items
      ≡ most_forms (form_lists l.fn.translations.items);
}

abbrev pub decreases-loop-forms : goal.decreases-loop-forms
decreases-loop-forms l = most_forms (form_lists l.left.items)
