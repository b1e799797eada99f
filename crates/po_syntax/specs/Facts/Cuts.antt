-- The first part of a text that is cut where a byte passes a test.
use Rattle.std.proofs.Common.{◌≡◌, ℕ, ◌<◌, ◌≤◌, Bool, not, List, [], ◌∷◌, length, take, drop, Some, None, position, arith}
use Rattle.std.specs.List.{position_or_len, slice_split}
use Rattle.std.proofs.lemmas.Bool.{not-true}
use Rattle.std.proofs.lemmas.Grind.{common_steps}
use Rattle.std.proofs.lemmas.List.{drop-drop}
use Rattle.std.proofs.lemmas.List.Quantifiers.{position-Some}
use Rattle.std.proofs.lemmas.List.Splits.{slice_split_none, slice_split_first}
use Rattle.std.proofs.lemmas.List.Sums.{prefix_len_passes}

pub cut_none : (p : ℕ → Bool) (xs : List ℕ) → position p xs ≡ None → slice_split p xs ≡ xs ∷ []
cut_none p xs e =
    let past : length xs ≤ position_or_len p xs = grind (arith, common_steps) in
    slice_split_none p xs (λ k d inside. not-true _ (prefix_len_passes (λ x. not (p x)) xs k d (omega arith)))

pub cut_found : (p : ℕ → Bool) (xs : List ℕ) (i : ℕ) → position p xs ≡ Some i
    → slice_split p xs ≡ take i xs ∷ slice_split p (drop 1 (drop i xs))
cut_found p xs i e =
    let same : i ≡ position_or_len p xs = grind (arith, common_steps) in
    let inside : position_or_len p xs < length xs = omega (arith, (position-Some p xs i 0 e).0) in
    rw (drop-drop, same) (slice_split_first p xs 0 inside)
