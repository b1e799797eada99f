use Rattle.mo_file.proofs.Prelude.{drop, length, map, strings_of, take, terminated, ◌++◌, ◌+◌, ◌≡◌}
use Rattle.mo_file.proofs.writing.put_strings.Given as goal

abbrev pub invariant-loop-pair : goal.invariant-loop-pair
invariant-loop-pair g l =
    let rest = terminated (strings_of l.part (map g.P.StringPair.message (drop l.pair-index l.pairs))) in
    let all = terminated (strings_of l.part (map g.P.StringPair.message l.pairs)) in
    record {
      strings : take l.end l.file ++ rest ≡ take l.at l.initial.file ++ all;
      ends : l.end + length rest ≡ l.at + length all;
    }
