use Rattle.msgcat.proofs.Prelude.{AreReadInputs, List, Named, all_entries, get_or, length, no_input, take, ◌-◌, ◌<◌, ◌≤◌}
use Rattle.msgcat.proofs.merge_inputs.name_at.Given as goal

-- the entry stands in one of these inputs
abbrev pub invariant-loop-end : goal.invariant-loop-end
invariant-loop-end l = record {
  inside : l.end ≤ length l.inputs;
  some : l.first ≤ l.end;
  begins : (read : List Named) → AreReadInputs read l.inputs → l.fn.index < length (all_entries read)
      → (l.first < l.end) × ((get_or l.inputs l.first no_input).start ≤ l.fn.index)
      × (l.fn.index < length (all_entries (take l.end read)));
}

abbrev pub decreases-loop-end : goal.decreases-loop-end
decreases-loop-end l = l.end - l.first
