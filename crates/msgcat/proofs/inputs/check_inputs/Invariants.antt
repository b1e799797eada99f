use Rattle.msgcat.proofs.Prelude.{AreNumberedInputs, AreUpTo, List, Named, TextEntry, length, ◌-◌, ◌≤◌}
use Rattle.msgcat.proofs.InputEntries.{AreLeft}
use Rattle.msgcat.proofs.inputs.check_inputs.Given as goal

-- the inputs so far have no duplicate, and the places and numbers of the others are left
abbrev pub invariant-loop-input : goal.invariant-loop-input
invariant-loop-input l = record {
  most : length l.places_left ≤ length l.places;
  unseen : AreUpTo (length l.places - length l.places_left) l.seen.items;
  left : (read : List Named) (part : List TextEntry) → AreNumberedInputs read part l.inputs l.places l.numbers
      → AreLeft read part l.input-index l.places_left l.numbers_left;
}
