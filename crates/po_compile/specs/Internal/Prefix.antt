-- The beginning of a key as a number, which orders keys as they are ordered wherever two such
-- numbers differ.
use Rattle.std.specs.Prelude.{ℕ, zero, suc, ◌+◌, ◌*◌, ◌^◌, List, [], ◌∷◌, drop}

-- the first bytes as so many digits of base 256; a shorter text goes on with zeros
abbrev pub digits : ℕ → List ℕ → ℕ
digits zero text = 0
digits (suc n) [] = 0
digits (suc n) (byte ∷ text) = byte * 256 ^ n + digits n text

-- the first sixteen bytes
abbrev pub prefix_of : List ℕ → ℕ
prefix_of key = digits 16 key

-- the sixteen bytes after them
abbrev pub second_prefix_of : List ℕ → ℕ
second_prefix_of key = digits 16 (drop 16 key)
