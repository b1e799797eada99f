use Rattle.po_reader.proofs.Prelude.{All, CharsetFault, EntriesStop, HasAdmittedCharset, PoFault, drop, entries_in, entry_at, map, take, ℕ}
use Rattle.po_reader.proofs.items.check_drafts.Given as goal

abbrev pub invariant-loop-row : goal.invariant-loop-row
invariant-loop-row l = record {
  admitted : All HasAdmittedCharset (map (entry_at l.drafts.bytes.items) (take l.row-index l.drafts.rows.items));
  stops : (fault : PoFault) (line : ℕ)
      → EntriesStop HasAdmittedCharset CharsetFault
      (map (entry_at l.drafts.bytes.items) (drop l.row-index l.drafts.rows.items)) fault line
      → EntriesStop HasAdmittedCharset CharsetFault (entries_in l.drafts) fault line;
}
