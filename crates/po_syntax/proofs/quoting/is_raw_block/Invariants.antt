use Rattle.po_syntax.proofs.Prelude.{is_raw, length, prefix_len, take, true, ◌≡◌}
use Rattle.po_syntax.proofs.quoting.is_raw_block.Given as goal

abbrev pub invariant-loop-byte : goal.invariant-loop-byte
invariant-loop-byte l = l.are_raw ≡ true
    → prefix_len is_raw (take l.byte-index l.block) ≡ length (take l.byte-index l.block)
