-- The key by which a message is looked up (manual, "The Format of GNU MO Files"): the msgid, or the
-- context, a byte 4 (EOT) and the msgid. In an original a NUL and the plural may follow the key.
use Rattle.std.specs.Prelude.{◌≡◌, ℕ, ◌+◌, ◌<◌, ◌==◌, Bool, List, [], ◌∷◌, ◌++◌, length, map, slice_index_or, Option, None, Some}
use Rattle.std.specs.Ordering.{nat_cmp}
use Rattle.std.specs.declared.cmp.Ordering.{Ordering}
use Rattle.std.specs.declared.cmp.Ordering.TheVariants.{Less}
use Rattle.std.specs.Cmp.Lexicographic.{slice_cmp}
use Rattle.std.specs.List.{before_first}
use Rattle.mo_file.specs.Pairs.{Message}

abbrev pub is_nul : ℕ → Bool
is_nul byte = byte == 0

-- the key of an original: its bytes before its first NUL, or all of them
abbrev pub key_of : List ℕ → List ℕ
key_of original = before_first is_nul original

-- the key of a query or an entry, by its context, where it has one, and its msgid; an empty context
-- is one
abbrev pub query_key : Option (List ℕ) → List ℕ → List ℕ
query_key None id = id
query_key (Some context) id = context ++ 4 ∷ id

-- how two keys compare: by unsigned bytes, a prefix before what is longer
abbrev pub key_cmp : List ℕ → List ℕ → Ordering
key_cmp x y = slice_cmp nat_cmp x y

-- the keys of a list of messages
abbrev pub keys : List Message → List (List ℕ)
keys messages = map (λ m. key_of m.original) messages

-- the key at an index, counted from 0
abbrev pub key_at : List (List ℕ) → ℕ → List ℕ
key_at ks i = slice_index_or ks i []

-- each key is above the one before it, so no two are equal
pub record AreRising (ks : List (List ℕ)) : Type 0 where
  pub next : (i : ℕ) → i + 1 < length ks → key_cmp (key_at ks i) (key_at ks (i + 1)) ≡ Less
