use Rattle.po_entry.proofs.Prelude.{digest_of, keys_writes, take, ◌≡◌}
use Rattle.po_entry.proofs.keys.digest_of.Given as goal

-- the keys so far are digested
abbrev pub invariant-loop-index : goal.invariant-loop-index
invariant-loop-index l = l.digest ≡ digest_of (keys_writes (take l.index l.store))
