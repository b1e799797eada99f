use Rattle.po_writer.proofs.Prelude.{List, ap, append_assoc, arith, codes, decimal, form_lines, forms_left, keyword_lines, length, length-append, rules, sym, ℕ, ◌++◌, ◌+◌, ◌∙◌, ◌∷◌, ◌≡◌, ◌≤◌}
use Rattle.po_writer.proofs.WrittenLists.{keyword_some}
use Rattle.po_writer.proofs.entry_lines.push_forms.Goals as goal

-- one form more
module _ (index : ℕ) (out new prefix form : List ℕ)
    (more : new ≡ out ++ keyword_lines prefix (codes "msgstr[" ++ decimal index ++ codes "]") form) where
  abbrev here : List ℕ
  here = keyword_lines prefix (codes "msgstr[" ++ decimal index ++ codes "]") form

  longer : index ≤ length out → index + 1 ≤ length new
  longer below =
      omega (
        arith,
        below,
        ap length more,
        length-append out here,
        keyword_some prefix (codes "msgstr[" ++ decimal index ++ codes "]") form,
      )

  further : (all : List ℕ) (left after : List (List ℕ)) → left ≡ form ∷ after
      → out ++ form_lines prefix index left ≡ all → new ++ form_lines prefix (index + 1) after ≡ all
  further all left after step so_far =
      ap (λ l. l ++ form_lines prefix (index + 1) after) more
      ∙ append_assoc out here (form_lines prefix (index + 1) after)
      ∙ ap (λ forms. out ++ form_lines prefix index forms) (sym step) ∙ so_far

pub loop-form-preserved : goal.loop-form-preserved
loop-form-preserved c =
    let form = c.in-Some.form.now in
    let more : c.push_text.new.out.items
    ≡ c.loop-form.out.items
    ++ keyword_lines c.args.prefix.now (codes "msgstr[" ++ decimal c.loop-form.index ++ codes "]") form =
    search (rules, append_assoc) in
    let step : forms_left c.loop-form.form-iterator ≡ form ∷ forms_left c.next.new.self = search rules in
    let before = c.loop-form.invariant in
    record {
      written = further c.loop-form.index c.loop-form.out.items c.push_text.new.out.items c.args.prefix.now form more
          _ (forms_left c.loop-form.form-iterator) (forms_left c.next.new.self) step before.written;
      below = longer c.loop-form.index c.loop-form.out.items c.push_text.new.out.items c.args.prefix.now form more
          before.below;
    }

pub overflow_add-index : goal.overflow_add-index
overflow_add-index c =
    let out = c.loop-form.out in omega (arith, c.loop-form.invariant.below, out.ok.0, out.ok.1, out.small)
