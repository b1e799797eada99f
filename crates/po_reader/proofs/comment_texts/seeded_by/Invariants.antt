use Rattle.po_reader.proofs.Prelude.{digest_of, slice_texts, take, ◌≡◌}
use Rattle.po_reader.proofs.comment_texts.seeded_by.Given as goal

-- the texts so far are digested
abbrev pub invariant-loop-text : goal.invariant-loop-text
invariant-loop-text l = l.digest ≡ digest_of (slice_texts (take l.text-index l.texts))
