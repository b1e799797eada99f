use Rattle.command_line.proofs.Prelude.{flat_map, lines_with_ends, single_spaced, spaced_line, split_inclusive_pattern, split_inclusive_text, string_bytes, zip, ◌++◌, ◌∷◌, ◌≡◌}
use denote.Text.{Utf8}
use denote.Shadow.{shadow}
use Rattle.command_line.proofs.usage.single_spaced.Given as goal

abbrev pub invariant-loop-line : goal.invariant-loop-line
invariant-loop-line l = record {
  can : (goal.iterator-loop-line).can_next l.line-iterator;
  finite : (goal.iterator-loop-line).is_finite l.line-iterator;
  utf8 : shadow (Utf8 l.before);
  feed : split_inclusive_pattern l.line-iterator ≡ 10;
  so_far :
      string_bytes l.answer
      ++ flat_map spaced_line (zip (l.before ∷ lines_with_ends (split_inclusive_text l.line-iterator))
      (lines_with_ends (split_inclusive_text l.line-iterator)))
      ≡ single_spaced l.text;
}
