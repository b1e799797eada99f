use Rattle.po_entry.proofs.Prelude.{Grows, after_nul, flat_map, take, texts, ◌++◌, ◌≡◌}
use Rattle.po_entry.proofs.layout.add_entry.Given as goal

abbrev pub invariant-loop-form : goal.invariant-loop-form
invariant-loop-form l = record {
  added : l.bytes.items ≡ l.initial.bytes.items ++ flat_map after_nul (texts (take l.form-index l.fields.forms.items));
  grows : Grows l.fn.bytes.items l.bytes.items;
}
