use Rattle.command_line.proofs.Prelude.{flat_map, lines_with_ends, option_map, own_tip, reworded_line, split_inclusive_pattern, split_inclusive_text, string_bytes, ◌++◌, ◌≡◌}
use Rattle.command_line.proofs.usage.reworded.Given as goal

abbrev pub invariant-loop-line : goal.invariant-loop-line
invariant-loop-line l = record {
  can : (goal.iterator-loop-line).can_next l.line-iterator;
  finite : (goal.iterator-loop-line).is_finite l.line-iterator;
  feed : split_inclusive_pattern l.line-iterator ≡ 10;
  own : option_map string_bytes l.tip ≡ own_tip l.tool l.text;
  so_far :
      string_bytes l.answer ++ flat_map (reworded_line l.tool (own_tip l.tool l.text))
      (lines_with_ends (split_inclusive_text l.line-iterator))
      ≡ flat_map (reworded_line l.tool (own_tip l.tool l.text)) (lines_with_ends l.text);
}
