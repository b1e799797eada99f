use Rattle.po_writer.proofs.Prelude.{List, Option, Some, ap, append_assoc, ap₂, codes, form_lines, keyword_lines, on_ok_weaker, translation_lines, ℕ, ◌++◌, ◌∙◌, ◌≡◌}
use Rattle.po_writer.proofs.entry_lines.push_translation.Goals as goal

with_plural : (old key new prefix text : List ℕ) (plural : Option (List ℕ)) (left forms : List (List ℕ))
    → Some text ≡ plural → left ≡ forms → key ≡ old ++ keyword_lines prefix (codes "msgid_plural") text
    → new ≡ key ++ form_lines prefix 0 left → new ≡ old ++ translation_lines prefix plural forms
with_plural old key new prefix text plural left forms is are first more =
    more ∙ ap (λ l. l ++ form_lines prefix 0 left) first
    ∙ append_assoc old (keyword_lines prefix (codes "msgid_plural") text) (form_lines prefix 0 left)
    ∙ ap₂ (λ (p : Option (List ℕ)) (fs : List (List ℕ)). old ++ translation_lines prefix p fs) is are

pub returns-in-Some : goal.returns-in-Some
returns-in-Some c = record {
  appended = on_ok_weaker c.push_forms.result
      (λ more. with_plural _ _ _ _ _ _ _ _ c.in-Some.ensures c.forms.ensures c.in_ok-push_keyword.ensures.appended more)
      c.push_forms.ensures.appended;
}
