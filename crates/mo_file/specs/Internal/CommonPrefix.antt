-- Internal: the common prefix of two texts, which ends before the first byte that stops it.
use Rattle.std.specs.Prelude.{◌≡◌, ℕ, ◌+◌, ◌<◌, ◌≤◌, ◌==◌, ◌||◌, not, Bool, true, false, List, length, slice_index}
use Rattle.std.specs.Prelude.{if◌then◌else◌}
use Rattle.std.specs.Int.{w64, trailing_zeros}

-- the texts differ at an index, or have there the byte that stops the prefix
abbrev pub differs_or_stops_at : ℕ → List ℕ → List ℕ → ℕ → Bool
differs_or_stops_at stop x y k = not (slice_index x k == slice_index y k) || slice_index x k == stop

-- the texts differ or stop at no index from i up to j
abbrev pub AreEqualBetween : ℕ → List ℕ → List ℕ → ℕ → ℕ → Type 0
AreEqualBetween stop x y i j = (k : ℕ) → i ≤ k → k < j → differs_or_stops_at stop x y k ≡ false

-- of the n bytes from i on, the texts have so many in common, up to the first where they differ or
-- stop
pub record IsCommonPrefixIn (stop : ℕ) (x y : List ℕ) (i n many : ℕ) : Type 0 where
  pub within : many ≤ n
  pub equal : AreEqualBetween stop x y i (i + many)
  pub ends : many < n → differs_or_stops_at stop x y (i + many) ≡ true

-- the common prefix of the texts has so many bytes, up to the first where they differ or stop, or
-- one of them ends
pub record IsCommonPrefix (stop : ℕ) (x y : List ℕ) (many : ℕ) : Type 0 where
  pub within_first : many ≤ length x
  pub within_second : many ≤ length y
  pub equal : AreEqualBetween stop x y 0 many
  pub ends : many < length x → many < length y → differs_or_stops_at stop x y many ≡ true

-- the index of the lowest bit that is set, or n
abbrev pub first_set : ℕ → ℕ → ℕ
first_set mask n = if mask == 0 then n else trailing_zeros w64 mask
