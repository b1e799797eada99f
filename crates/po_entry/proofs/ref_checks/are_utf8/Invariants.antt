use Rattle.po_entry.proofs.Prelude.{All, forms_left}
use Rattle.std.specs.Prelude.{IsUtf8}
use Rattle.po_entry.proofs.ref_checks.are_utf8.Given as goal

abbrev pub invariant-loop-form : goal.invariant-loop-form
invariant-loop-form l = record {
  all : All IsUtf8 (forms_left l.form-iterator) → All IsUtf8 (forms_left l.fn.forms);
  rest : All IsUtf8 (forms_left l.fn.forms) → All IsUtf8 (forms_left l.form-iterator);
}
