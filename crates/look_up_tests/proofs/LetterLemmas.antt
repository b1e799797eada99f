-- The keys of a test: every second letter.
use Rattle.std.proofs.Common.{◌≡◌, ℕ, ◌+◌, ◌*◌, ◌<◌, List, [], ◌∷◌, length, map, sym, ap, arith}
use Rattle.std.specs.List.{range_with_len}
use Rattle.std.specs.Ordering.{ordering_then}
use Rattle.std.specs.declared.cmp.Ordering.TheVariants.{Less, Equal}
use Rattle.std.specs.Cmp.{nat_cmp_is}
use Rattle.std.proofs.lemmas.List.FromFn.{get_or-map-range_with_len, length-map-range_with_len}
use Rattle.mo_file.specs.Prelude.{AreRising, key_at, key_cmp}

abbrev pub letters : ℕ → List (List ℕ)
letters many = map (λ i. (98 + 2 * i) ∷ []) (range_with_len 0 many)

pub length-letters : (many : ℕ) → length (letters many) ≡ many
length-letters many = length-map-range_with_len (λ i. (98 + 2 * i) ∷ []) 0 many

pub key_at-letters : (many i : ℕ) → i < many → key_at (letters many) i ≡ (98 + 2 * i) ∷ []
key_at-letters many i inside = get_or-map-range_with_len (λ i. (98 + 2 * i) ∷ []) 0 many i i [] inside (omega arith)

one-less : (x y : ℕ) → x < y → key_cmp (x ∷ []) (y ∷ []) ≡ Less
one-less x y lt = ap (λ order. ordering_then order Equal) (sym (nat_cmp_is x y Less lt))

pub letters-rising : (many : ℕ) → AreRising (letters many)
letters-rising many = record {
  next = λ i inside.
      let here = key_at-letters many i (omega (arith, length-letters many)) in
      let after = key_at-letters many (i + 1) (omega (arith, length-letters many)) in
      rw (here, after) (one-less (98 + 2 * i) (98 + 2 * (i + 1)) (omega arith));
}
