use Rattle.mo_file.proofs.Prelude.{sym}
use Rattle.mo_file.proofs.KeyComparison.{decided_keys}
use Rattle.mo_file.proofs.key.compare_originals.Goals as goal

pub returns : goal.returns
returns c =
    rw (c.cmp.ensures, c.byte_at.ensures, c.byte_at-2.ensures)
    (sym (decided_keys _ _ _ c.long_common_prefix_len-at.ensures))
