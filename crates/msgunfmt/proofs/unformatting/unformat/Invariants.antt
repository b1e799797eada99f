use Rattle.msgunfmt.proofs.Prelude.{All, HasAdmittedCharset, IsEntry, false, take, true, unformatted, written_text, ◌≡◌}
use Rattle.msgunfmt.proofs.unformatting.unformat.Given as goal

-- the entries so far are written, and it is known whether each charset is admitted
abbrev pub invariant-loop-i : goal.invariant-loop-i
invariant-loop-i l = record {
  written : l.text.items ≡ written_text (take l.i (unformatted l.view.messages));
  valid : All IsEntry (take l.i (unformatted l.view.messages));
  admitted : l.is_admitted ≡ true → All HasAdmittedCharset (take l.i (unformatted l.view.messages));
  foreign : l.is_admitted ≡ false → All HasAdmittedCharset (unformatted l.view.messages) → ⊥;
}
