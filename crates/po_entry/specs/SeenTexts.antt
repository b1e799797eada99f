-- Texts in the order in which each is seen first.
use Rattle.std.specs.Prelude.{ℕ, List, [], ◌∷◌, ◌++◌, bytes_eq, if◌then◌else◌, ◌≡◌, codes, fold}
use Rattle.std.specs.List.{list_any}
use Rattle.std.specs.Hash.{HashWrites, le_bytes, u64, u8}
use Rattle.std.specs.Hash.DefaultHasher.{finish, initial, round, write, write_byte, write_word}
use Rattle.std.specs.declared.hash.DefaultHasher.{DefaultHasher}
use Rattle.std.proofs.Common.{refl}

-- the texts that were seen, with one more, unless it is among them
abbrev pub with_seen : List (List ℕ) → List ℕ → List (List ℕ)
with_seen seen text = if list_any (bytes_eq text) seen then seen else seen ++ text ∷ []

-- How the hashes of an index begin, so that no choice of what it holds makes it slow: with a digest of all that it holds.
-- From no section of the manual.

-- the digest of what is written, one after another
abbrev pub digest_of : HashWrites → DefaultHasher
digest_of writes = fold write initial writes

-- each hash begins with two words: the digest, and the digest with a byte 1 behind it
abbrev pub seed_of : DefaultHasher → DefaultHasher
seed_of digest = digest_of (u64 (finish digest) ++ u64 (finish (fold write digest (u8 1))))

-- the hash of nothing, seeded by what `Open` is digested to, as Rust's own `DefaultHasher` gives it
pub seeded_by_open : finish (seed_of (digest_of (codes "Open" ∷ []))) ≡ 379759757535564864
unfolding finish round write_word write write_byte initial le_bytes
seeded_by_open = refl
