use Rattle.po_reader.proofs.Prelude.{Before, Between, Form, List, SoFar, [], after_nul, comes, flat_map, length, with_forms, ℕ, ◌++◌, ◌+◌, ◌≡◌, ◌≤◌}
use Rattle.po_reader.proofs.body.take_forms.Given as goal

abbrev pub invariant-loop-rest : goal.invariant-loop-rest
invariant-loop-rest l = record {
  reads : (forms : List (List ℕ)) × (l.out.items ≡ l.fn.out.items ++ flat_map after_nul forms)
      × ((read : SoFar) → read.own.obsolete ≡ l.obsolete
      → comes (Between (Before (with_forms read []) (Form 0))) l.fn.rest
      ≡ comes (Between (Before (with_forms read forms) (Form l.index))) l.rest);
  fewer : length l.rest.items + l.index ≤ length l.fn.rest.items;
}

abbrev pub decreases-loop-rest : goal.decreases-loop-rest
decreases-loop-rest l = length l.rest.items
