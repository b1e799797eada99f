use Rattle.po_reader.proofs.Prelude.{All, EntriesStop, EntryTextFault, HasTexts, PoFault, drop, entries_in, entry_at, map, take, ℕ}
use Rattle.po_reader.proofs.items.check_texts.Given as goal

abbrev pub invariant-loop-row : goal.invariant-loop-row
invariant-loop-row l = record {
  passed : All HasTexts (map (entry_at l.drafts.bytes.items) (take l.row-index l.drafts.rows.items));
  stops : (fault : PoFault) (line : ℕ)
      → EntriesStop HasTexts EntryTextFault
      (map (entry_at l.drafts.bytes.items) (drop l.row-index l.drafts.rows.items)) fault line
      → EntriesStop HasTexts EntryTextFault (entries_in l.drafts) fault line;
}
