use Rattle.po_syntax.proofs.Prelude.{digits_value, take, ◌<◌, ◌^◌, ◌≡◌}
use Rattle.po_syntax.proofs.escape.number_of.Given as goal

abbrev pub invariant-loop-digit : goal.invariant-loop-digit
invariant-loop-digit l =
    (l.number ≡ digits_value l.base (take l.digit-index l.digits)) × (l.number < 2 ^ 32)
