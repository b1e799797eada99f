use Rattle.known_system.proofs.Prelude.{entry_texts, map, take, ◌≡◌}
use Rattle.known_system.proofs.source.KnownSourceEntrySource.read_entries.Given as goal

abbrev pub invariant-loop-entry : goal.invariant-loop-entry
invariant-loop-entry l =
    map (λ entry. entry.items) l.entries.items ≡ entry_texts (take l.entry-index l.entry-items)
