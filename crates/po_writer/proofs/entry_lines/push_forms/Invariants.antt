use Rattle.po_writer.proofs.Prelude.{form_lines, forms_left, length, ◌++◌, ◌≡◌, ◌≤◌}
use Rattle.po_writer.proofs.entry_lines.push_forms.Given as goal

abbrev pub invariant-loop-form : goal.invariant-loop-form
invariant-loop-form l = record {
  written : l.out.items ++ form_lines l.prefix l.index (forms_left l.form-iterator) ≡ l.initial.out.items
      ++ form_lines l.prefix 0 (forms_left l.initial.forms);
  below : l.index ≤ length l.out.items;
}
