use Rattle.po_entry.proofs.Prelude.{AreUpTo, DifferUpTo, EntryPlace, get_or, is_looked_at, true, ℕ, ◌+◌, ◌<◌, ◌≡◌}
use Rattle.po_entry.proofs.repeats.first_repeat.Given as goal

-- the live entries so far differ, and the table has their indexes and no others of this list
abbrev pub invariant-loop-later : goal.invariant-loop-later
invariant-loop-later l = record {
  kept : (number index : ℕ) → get_or l.seen.items number 0 ≡ l.start + index + 1
      → (index < l.later) × (get_or l.numbers index 0 ≡ number)
      × ((d : EntryPlace) → is_looked_at (get_or l.places index d) ≡ true);
  met : (index : ℕ) → index < l.later → (d : EntryPlace) → is_looked_at (get_or l.places index d) ≡ true
      → l.start < get_or l.seen.items (get_or l.numbers index 0) 0;
  differ : DifferUpTo is_looked_at l.numbers l.places l.later;
  up_to : AreUpTo (l.start + l.later) l.seen.items;
}
