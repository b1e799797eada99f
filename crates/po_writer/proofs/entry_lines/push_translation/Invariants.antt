use Rattle.po_writer.proofs.Prelude.{codes, flat_map, forms_left, keyword_lines, ◌++◌, ◌≡◌}
use Rattle.po_writer.proofs.entry_lines.push_translation.Given as goal

abbrev pub invariant-loop-form : goal.invariant-loop-form
invariant-loop-form l =
    l.out.items ++ flat_map (keyword_lines l.prefix (codes "msgstr")) (forms_left l.form-iterator)
    ≡ l.initial.out.items ++ flat_map (keyword_lines l.prefix (codes "msgstr")) l.entry.forms
