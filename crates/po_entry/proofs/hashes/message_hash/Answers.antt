use Rattle.po_entry.proofs.Prelude.{ap, finish, initial, message_hash, write}
use Rattle.po_entry.proofs.hashes.message_hash.Goals as goal

pub returns : goal.returns
unfolding message_hash
returns c =
    rw (c.finish.ensures, c.write.ensures, c.new-hasher.ensures)
    (ap (λ key. finish (write initial key)) c.key.ensures)
