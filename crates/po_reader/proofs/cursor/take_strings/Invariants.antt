use Rattle.po_reader.proofs.Prelude.{Bool, In, Keyword, List, SoFar, [], begins_string, comes, false, length, true, ℕ, ◌++◌, ◌≡◌, ◌≤◌}
use Rattle.po_reader.proofs.cursor.take_strings.Given as goal

abbrev pub invariant-loop-bytes : goal.invariant-loop-bytes
invariant-loop-bytes l = record {
  reads : (some : Bool) × (text : List ℕ) × (l.out.items ≡ l.initial.out.items ++ text)
      × (some ≡ true → begins_string l.rest.items ≡ true)
      × ((read : SoFar) (keyword : Keyword)
      → comes (In read keyword l.marks false []) l.fn.rest
      ≡ comes (In read keyword l.marks some text) l.rest);
  fewer : length l.rest.items ≤ length l.fn.rest.items;
}

abbrev pub decreases-loop-bytes : goal.decreases-loop-bytes
decreases-loop-bytes l = length l.rest.items
