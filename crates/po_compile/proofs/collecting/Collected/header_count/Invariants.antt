use Rattle.po_compile.proofs.Prelude.{count_by, has_no_key, take, ◌≡◌}
use Rattle.po_compile.proofs.collecting.Collected.header_count.Given as goal

abbrev pub invariant-loop-index : goal.invariant-loop-index
invariant-loop-index l = l.count ≡ count_by has_no_key (take l.index l.self)
