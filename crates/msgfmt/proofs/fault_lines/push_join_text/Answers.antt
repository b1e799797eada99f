use Rattle.msgfmt.proofs.Prelude.{OnOk, ap, append-nil, append_assoc, ap₂, codes, decimal, rules, slice_texts, subst, ◌++◌, ◌∙◌, ◌∷◌, ◌≡◌}
use Rattle.runs.specs.Prelude.{duplicate_text}
use Rattle.msgfmt.specs.Msgfmt.{join_text}
use Rattle.msgfmt.proofs.fault_lines.push_join_text.Goals as goal

pub returns-in_ok-extend_from_slice-in-Duplicate-2 : goal.returns-in_ok-extend_from_slice-in-Duplicate-2
returns-in_ok-extend_from_slice-in-Duplicate-2 c =
    let out = c.args.out.now.items in
    let text = codes "duplicate of the message at " in
    let file = c.input_name.result.now in
    let rest = 58 ∷ decimal c.in-Duplicate.line in
    let joined : duplicate_text file c.in-Duplicate.line ≡ join_text (slice_texts c.args.names.now) c.args.error =
    search rules in
    let is : c.extend_from_slice-in-Duplicate.new.self.items ++ rest ≡ out ++ (text ++ (file ++ rest)) =
    ap (λ l. l ++ rest)
    (c.in_ok-extend_from_slice-in-Duplicate-2.ensures.items
    ∙ ap₂ (λ a b. a ++ b) c.in_ok-extend_from_slice-in-Duplicate.ensures.items c.as_bytes.ensures.value)
    ∙ append_assoc (out ++ text) file rest ∙ append_assoc out text (file ++ rest) in
    let numbered = c.push_numbered.ensures in
    subst (λ l. OnOk c.push_numbered.result (c.push_numbered.new.out.items ≡ l)) (is ∙ ap (λ l. out ++ l) joined)
    (rw (c.into.ensures, append-nil (decimal c.in-Duplicate.line)) at numbered)
