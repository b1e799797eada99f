use Rattle.po_compile.proofs.Prelude.{digest_of, flat_map, key_writes, slice_texts, take, ◌≡◌}
use Rattle.po_compile.proofs.repeats.digest_of.Given as goal

-- the keys so far are digested
abbrev pub invariant-loop-key : goal.invariant-loop-key
invariant-loop-key l = l.digest ≡ digest_of (flat_map key_writes (slice_texts (take l.key-index l.keys)))
