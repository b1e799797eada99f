use Rattle.mo_lookup.proofs.Prelude.{drop, forms, length, slice_get, ◌-◌, ◌≡◌, ◌≤◌}
use Rattle.mo_lookup.proofs.forms.form.Given as goal

abbrev pub invariant-loop : goal.invariant-loop
invariant-loop l =
    (l.start ≤ length l.translation)
    × (slice_get (forms (drop l.start l.translation)) (l.index - l.counter) ≡ slice_get (forms l.translation) l.index)
