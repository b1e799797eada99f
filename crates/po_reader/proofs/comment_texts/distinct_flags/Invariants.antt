use Rattle.po_reader.proofs.Prelude.{[], drop, flat_map, fold, listed_flags, slice_texts, with_flag, ◌≡◌}
use Rattle.po_reader.proofs.comment_texts.distinct_flags.Given as goal

-- the flags that were seen, with those of the texts that are left
abbrev pub invariant-loop-text : goal.invariant-loop-text
invariant-loop-text l =
    fold with_flag l.seen (flat_map listed_flags (slice_texts (drop l.text-index l.texts)))
    ≡ fold with_flag [] (flat_map listed_flags (slice_texts l.texts))
