use Rattle.mo_file.proofs.Prelude.{drop, length, map, strings_of, table, take, terminated, ◌*◌, ◌++◌, ◌+◌, ◌≡◌}
use Rattle.mo_file.proofs.writing.put_table.Given as goal

abbrev pub invariant-loop-pair : goal.invariant-loop-pair
invariant-loop-pair g l =
    let rest = strings_of l.part (map g.P.StringPair.message (drop l.pair-index l.pairs)) in
    let all = strings_of l.part (map g.P.StringPair.message l.pairs) in
    record {
      entries : take l.end l.file ++ table g.O.FileOrder.order l.next rest
          ≡ take l.at l.initial.file ++ table g.O.FileOrder.order l.offset all;
      offsets : l.next + length (terminated rest) ≡ l.offset + length (terminated all);
      ends : l.end ≡ l.at + 8 * l.pair-index;
    }
