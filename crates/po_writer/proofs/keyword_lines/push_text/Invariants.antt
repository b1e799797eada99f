use Rattle.po_writer.proofs.Prelude.{flat_map, length, lines_with_ends, string_line, ◌++◌, ◌≡◌}
use Rattle.po_writer.proofs.keyword_lines.push_text.Given as goal

abbrev pub invariant-loop-rest : goal.invariant-loop-rest
invariant-loop-rest l = l.out.items ++ flat_map (string_line l.prefix) (lines_with_ends l.rest) ≡ l.initial.out.items
    ++ flat_map (string_line l.prefix) (lines_with_ends l.text)

abbrev pub decreases-loop-rest : goal.decreases-loop-rest
decreases-loop-rest l = length l.rest
