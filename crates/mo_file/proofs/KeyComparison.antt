-- How the keys of two texts compare, by where their common prefix ends.
use Rattle.mo_file.proofs.Prelude.{AreEqualBetween, Bool, Equal, Greater, IsCommonPrefix, IsCommonPrefixIn, Less, List, None, Option, Ordering, Some, [], ap, append-nil, arith, bit_or, cases_eq, cases_lt, cond, differs_or_stops_at, drop, drop_all, eq-eqb, false, first_set, get_or, get_or-drop, inl, inr, is_nul, key_cmp, key_of, length, length-drop, length-map, map, nat_cmp, ne_eqb, not, not-false, not-true, ordering_then, prefix_len, prefix_len-le-length, prefix_len_passes, prefix_len_stops, refl, replicate, slice_get, slice_range, suc, sym, take, take_all, true, unwrap_or-slice_get, zero, ℕ, ◌%◌, ◌++◌, ◌+◌, ◌-◌, ◌<◌, ◌==◌, ◌^◌, ◌||◌, ◌∙◌, ◌∷◌, ◌≡◌, ◌≢◌, ◌≤◌}
use Rattle.std.proofs.lemmas.Simd.{first_set_mask_l, get_or-chunk, get_or-replicate, get_or-zip2, length-chunk, length-replicate, length-zip2, mask_l-mod}
use lib.Lanes.{chunk, mask_l, top, zip2}
use Rattle.std.specs.Cmp.{nat_cmp_is}
use Rattle.std.specs.Option.{unwrap_or}

module _ (stop : ℕ) (or ne eq : ℕ → ℕ → ℕ)
    (tops : (a b : ℕ) → top 7 (or (ne a b) (eq a stop)) ≡ (not (a == b) || a == stop))
    (x y : List ℕ) (i n r : ℕ) (room_x : i + n ≤ length x) (room_y : i + n ≤ length y) (few : n ≤ 64) where
  abbrev lanes : List ℕ
  lanes = zip2 or (zip2 ne (chunk i n x) (chunk i n y)) (zip2 eq (chunk i n x) (replicate n stop))

  long_x : length (chunk i n x) ≡ n
  long_x = length-chunk i n x room_x

  long_y : length (chunk i n y) ≡ n
  long_y = length-chunk i n y room_y

  long_ne : length (zip2 ne (chunk i n x) (chunk i n y)) ≡ n
  long_ne = length-zip2 ne (chunk i n x) (chunk i n y) (long_x ∙ sym long_y) ∙ long_x

  long_eq : length (zip2 eq (chunk i n x) (replicate n stop)) ≡ n
  long_eq = length-zip2 eq (chunk i n x) (replicate n stop) (long_x ∙ sym (length-replicate {A = ℕ} n stop)) ∙ long_x

  long : length lanes ≡ n
  long = length-zip2 or _ _ (long_ne ∙ sym long_eq) ∙ long_ne

  -- a lane is set where the texts differ or stop
  lane : (k : ℕ) → k < n → top 7 (get_or lanes k 0) ≡ differs_or_stops_at stop x y (i + k)
  lane k below =
      let at_x = get_or-chunk i n x k 0 below in
      let at_y = get_or-chunk i n y k 0 below in
      let first : get_or (zip2 ne (chunk i n x) (chunk i n y)) k 0 ≡ ne (get_or x (i + k) 0) (get_or y (i + k) 0) =
      get_or-zip2 ne (chunk i n x) (chunk i n y) k 0 0 0 (omega (arith, long_x)) (omega (arith, long_y))
      ∙ rw (at_x, at_y) refl in
      let second : get_or (zip2 eq (chunk i n x) (replicate n stop)) k 0 ≡ eq (get_or x (i + k) 0) stop =
      get_or-zip2 eq (chunk i n x) (replicate n stop) k 0 0 0 (omega (arith, long_x))
      (omega (arith, length-replicate {A = ℕ} n stop))
      ∙ rw (at_x, get_or-replicate {A = ℕ} n k stop 0 below) refl in
      let both : get_or lanes k 0 ≡ or (ne (get_or x (i + k) 0) (get_or y (i + k) 0)) (eq (get_or x (i + k) 0) stop) =
      get_or-zip2 or (zip2 ne (chunk i n x) (chunk i n y)) (zip2 eq (chunk i n x) (replicate n stop)) k 0 0 0
      (omega (arith, long_ne)) (omega (arith, long_eq)) ∙ rw (first, second) refl in
      ap (top 7) both ∙ tops (get_or x (i + k) 0) (get_or y (i + k) 0)

  abbrev unset : ℕ → Bool
  unset v = not (top 7 v)

  module _ (found : r ≡ first_set (mask_l (map (top 7) lanes) % 2 ^ 64) n) where
    counted : r ≡ prefix_len unset lanes
    counted =
        found
        ∙ ap (λ m. first_set m n) (mask_l-mod (map (top 7) lanes) 64 (omega (arith, length-map lanes (top 7), long)))
        ∙ first_set_mask_l (top 7) lanes n long few

    -- so the first lane that is set is where the common prefix ends
    pub common_prefix_in : IsCommonPrefixIn stop x y i n r
    common_prefix_in = record {
      within = omega (arith, counted, long, prefix_len-le-length unset lanes);
      equal = λ k from to.
          let back : i + (k - i) ≡ k = omega arith in
          let inside : k - i < prefix_len unset lanes = omega (arith, counted) in
          let low : k - i < n = omega (arith, counted, long, prefix_len-le-length unset lanes) in
          sym (lane (k - i) low ∙ ap (differs_or_stops_at stop x y) back)
          ∙ not-true _ (prefix_len_passes unset lanes (k - i) 0 inside);
      ends = λ short.
          let stops = not-false _ (prefix_len_stops unset lanes 0 (omega (arith, counted, long))) in
          sym (lane r short) ∙ ap (λ k. top 7 (get_or lanes k 0)) counted ∙ stops;
    }

-- a lane of the two comparisons joined
pub set_where : (same nul : Bool) → top 7 (bit_or (cond (not same) 255 0) (cond nul 255 0)) ≡ (not same || nul)
set_where true true = refl
set_where true false = refl
set_where false true = refl
set_where false false = refl

-- How the keys of two texts compare, by where their common prefix ends.

key_of-cut : (a : ℕ) (xs : List ℕ) (b : Bool) → (a == 0) ≡ b
    → key_of (a ∷ xs) ≡ take (cond (not b) (1 + prefix_len (λ x. not (is_nul x)) xs) 0) (a ∷ xs)
key_of-cut a xs b is = ap (λ c. take (cond (not c) (1 + prefix_len (λ x. not (is_nul x)) xs) 0) (a ∷ xs)) is

-- a byte that isn't NUL is the first of its key
key_of-cons : (a : ℕ) (xs : List ℕ) → (a ≡ 0 → ⊥) → key_of (a ∷ xs) ≡ a ∷ key_of xs
key_of-cons a xs other =
    let after = prefix_len (λ x. not (is_nul x)) xs in
    let one : 1 + after ≡ suc after = omega arith in
    key_of-cut a xs false (ne_eqb a 0 other) ∙ ap (λ n. take n (a ∷ xs)) one

-- and before a NUL there is no key
key_of-nul : (a : ℕ) (xs : List ℕ) → a ≡ 0 → key_of (a ∷ xs) ≡ []
key_of-nul a xs nul = key_of-cut a xs true (eq-eqb a 0 nul)

-- a NUL ends the key, so what stands after it is of no account
pub key_of-before : (n : ℕ) (xs : List ℕ) → get_or xs n 0 ≡ 0 → key_of xs ≡ key_of (take n xs)
key_of-before n [] nul = ap key_of (sym (take_all n [] (omega arith)))
key_of-before zero (a ∷ xs) nul = key_of-nul a xs nul
key_of-before (suc n) (a ∷ xs) nul =
    elim (cases_eq a 0) [
      | inl at_once ↦ key_of-nul a xs at_once ∙ sym (key_of-nul a (take n xs) at_once)
      | inr live ↦
          key_of-cons a xs live ∙ ap (λ k. a ∷ k) (key_of-before n xs nul) ∙ sym (key_of-cons a (take n xs) live)
    ]

pub some_nul : (x : ℕ) → ¬ (Some x ≢ Some 0) → x ≡ 0
some_nul x terminated =
    elim (cases_eq x 0) [ inl nul ↦ nul | inr other ↦ absurd (terminated (λ is. other (cc))) ]

nul_at : (found : Option ℕ) → ¬ (found ≢ Some 0) → unwrap_or found 0 ≡ 0
nul_at None terminated = refl
nul_at (Some x) terminated = some_nul x terminated

-- the key of a string that a NUL follows is that of the file from there on
pub key_of_rest : (bytes : List ℕ) (start end : ℕ) → start ≤ end → ¬ (slice_get bytes end ≢ Some 0) →
    key_of (slice_range bytes start (length bytes)) ≡ key_of (slice_range bytes start end)
key_of_rest bytes start end ordered terminated =
    let back : start + (end - start) ≡ end = omega arith in
    ap key_of (take_all (length bytes - start) (drop start bytes) (omega (arith, length-drop start bytes)))
    ∙ key_of-before (end - start) (drop start bytes)
    (
    get_or-drop start bytes (end - start) 0
    ∙ ap (λ k. get_or bytes k 0) back
    ∙ sym (unwrap_or-slice_get bytes end 0)
    ∙ nul_at (slice_get bytes end) terminated
    )

cmp-same : (a b : ℕ) → a ≡ b → nat_cmp a b ≡ Equal
cmp-same a b same = sym (nat_cmp_is a b Equal same)

cmp-less : (a b : ℕ) → a < b → nat_cmp a b ≡ Less
cmp-less a b less = sym (nat_cmp_is a b Less less)

cmp-greater : (a b : ℕ) → b < a → nat_cmp a b ≡ Greater
cmp-greater a b greater = sym (nat_cmp_is a b Greater greater)

then-unequal : (a b : ℕ) (c d : Ordering) → (a ≡ b → ⊥) → ordering_then (nat_cmp a b) c ≡ ordering_then (nat_cmp a b) d
then-unequal a b c d other =
    elim (cases_lt a b) [
      | inl less ↦ rw (cmp-less a b less) refl
      | inr not_less ↦ rw (cmp-greater a b (grind (arith, other, not_less))) refl
    ]

-- the first bytes where they neither differ nor stop
alike : (a b : ℕ) → (not (a == b) || a == 0) ≡ false → (a ≡ b) × (a ≡ 0 → ⊥)
alike a b none =
    elim (cases_eq a b) [
      | inl same ↦ (
        same,
        λ nul. (let ends : (not (a == b) || a == 0) ≡ true = rw (eq-eqb a b same, eq-eqb a 0 nul) refl in
            absurd (cc)),
      )
      | inr other ↦ let ends : (not (a == b) || a == 0) ≡ true = rw (ne_eqb a b other) refl in absurd (cc)
    ]

-- and where they do
unlike : (a b : ℕ) → (not (a == b) || a == 0) ≡ true → (a ≡ 0 → ⊥) → a ≡ b → ⊥
unlike a b ends live same =
    let none : (not (a == b) || a == 0) ≡ false = rw (eq-eqb a b same, ne_eqb a 0 live) refl in
    cc

-- what is equal doesn't decide
pub skip : (n : ℕ) (x y more : List ℕ) → AreEqualBetween 0 x y 0 n → n ≤ length x → n ≤ length y →
    key_cmp (key_of x) (y ++ more) ≡ key_cmp (key_of (drop n x)) (drop n y ++ more)
skip zero x y more equal in_x in_y = refl
skip (suc n) [] y more equal in_x in_y = absurd (omega arith)
skip (suc n) (a ∷ xs) [] more equal in_x in_y = absurd (omega arith)
skip (suc n) (a ∷ xs) (b ∷ ys) more equal in_x in_y =
    let first = alike a b (equal 0 (omega arith) (omega arith)) in
    ap (λ k. key_cmp k (b ∷ (ys ++ more))) (key_of-cons a xs first.1)
    ∙ ap (λ o. ordering_then o (key_cmp (key_of xs) (ys ++ more))) (cmp-same a b first.0)
    ∙ skip n xs ys more (λ k from to. equal (suc k) (omega arith) (omega arith)) (omega arith) (omega arith)

pub skip_keys : (n : ℕ) (x y : List ℕ) → AreEqualBetween 0 x y 0 n → n ≤ length x → n ≤ length y →
    key_cmp (key_of x) (key_of y) ≡ key_cmp (key_of (drop n x)) (key_of (drop n y))
skip_keys zero x y equal in_x in_y = refl
skip_keys (suc n) [] y equal in_x in_y = absurd (omega arith)
skip_keys (suc n) (a ∷ xs) [] equal in_x in_y = absurd (omega arith)
skip_keys (suc n) (a ∷ xs) (b ∷ ys) equal in_x in_y =
    let first = alike a b (equal 0 (omega arith) (omega arith)) in
    let live : b ≡ 0 → ⊥ = λ nul. first.1 (first.0 ∙ nul) in
    (λ i. key_cmp (key_of-cons a xs first.1 i) (key_of-cons b ys live i))
    ∙ ap (λ o. ordering_then o (key_cmp (key_of xs) (key_of ys))) (cmp-same a b first.0)
    ∙ skip_keys n xs ys (λ k from to. equal (suc k) (omega arith) (omega arith)) (omega arith) (omega arith)

least : (a b : ℕ) → a ≡ 0 → Less ≡ ordering_then (nat_cmp a b) Less
least a b nul =
    elim (cases_lt a b) [
      | inl above ↦ rw (cmp-less a b above) refl
      | inr at ↦ rw (cmp-same a b (omega (arith, nul, at))) refl
    ]

-- a text against bytes of which the first is b, where they differ or stop at once
before_byte : (x : List ℕ) (b : ℕ) (more : List ℕ)
    → (0 < length x → (not (get_or x 0 0 == b) || get_or x 0 0 == 0) ≡ true) →
    key_cmp (key_of x) (b ∷ more) ≡ ordering_then (nat_cmp (get_or x 0 0) b) Less
before_byte [] b more ends = least 0 b refl
before_byte (a ∷ xs) b more ends =
    elim (cases_eq a 0) [
      | inl nul ↦ ap (λ k. key_cmp k (b ∷ more)) (key_of-nul a xs nul) ∙ least a b nul
      | inr live ↦
          ap (λ k. key_cmp k (b ∷ more)) (key_of-cons a xs live)
          ∙ then-unequal a b (key_cmp (key_of xs) more) Less (unlike a b (ends (omega arith)) live)
    ]

-- a text against no bytes
before_end : (x : List ℕ) → key_cmp (key_of x) [] ≡ nat_cmp (get_or x 0 0) 0
before_end [] = sym (cmp-same 0 0 refl)
before_end (a ∷ xs) =
    elim (cases_eq a 0) [
      | inl nul ↦ ap (λ k. key_cmp k []) (key_of-nul a xs nul) ∙ sym (cmp-same a 0 nul)
      | inr live ↦ ap (λ k. key_cmp k []) (key_of-cons a xs live) ∙ sym (cmp-greater a 0 (omega (arith, live)))
    ]

-- a text against a byte that isn't NUL, and what stands after each of them
before_separator : (x : List ℕ) (b : ℕ) (more : List ℕ) → 0 < b →
    key_cmp (key_of x) (b ∷ more) ≡ ordering_then (nat_cmp (get_or x 0 0) b) (key_cmp (key_of (drop 1 x)) more)
before_separator [] b more live = rw (cmp-less 0 b live) refl
before_separator (a ∷ xs) b more live =
    elim (cases_eq a 0) [
      | inl nul ↦ ap (λ k. key_cmp k (b ∷ more)) (key_of-nul a xs nul) ∙ rw (cmp-less a b (omega (arith, nul))) refl
      | inr other ↦ ap (λ k. key_cmp k (b ∷ more)) (key_of-cons a xs other)
    ]

then-other : (a b : ℕ) → (a ≡ b → ⊥) → ordering_then (nat_cmp a b) Less ≡ nat_cmp a b
then-other a b other =
    elim (cases_lt a b) [
      | inl less ↦ rw (cmp-less a b less) refl
      | inr not_less ↦ rw (cmp-greater a b (grind (arith, other, not_less))) refl
    ]

-- what isn't equal decides
kept-unequal : (a b : Ordering) → (a ≡ Equal → ⊥) → a ≡ ordering_then a b
kept-unequal Less b unequal = refl
kept-unequal Equal b unequal = absurd (unequal refl)
kept-unequal Greater b unequal = refl

-- two texts that differ or stop at once
before_text : (x y : List ℕ)
    → (0 < length x → 0 < length y → (not (get_or x 0 0 == get_or y 0 0) || get_or x 0 0 == 0) ≡ true) →
    key_cmp (key_of x) (key_of y) ≡ nat_cmp (get_or x 0 0) (get_or y 0 0)
before_text x [] ends = before_end x
before_text [] (b ∷ ys) ends =
    elim (cases_eq b 0) [
      | inl nul ↦ ap (key_cmp []) (key_of-nul b ys nul) ∙ sym (cmp-same 0 b (sym nul))
      | inr live ↦ ap (key_cmp []) (key_of-cons b ys live) ∙ sym (cmp-less 0 b (omega (arith, live)))
    ]
before_text (a ∷ xs) (b ∷ ys) ends =
    elim (cases_eq b 0) [
      | inl nul ↦ ap (key_cmp (key_of (a ∷ xs))) (key_of-nul b ys nul) ∙ before_end (a ∷ xs) ∙ ap (nat_cmp a) (sym nul)
      | inr live ↦
          let first = ends (omega arith) (omega arith) in
          ap (key_cmp (key_of (a ∷ xs))) (key_of-cons b ys live)
          ∙ before_byte (a ∷ xs) b (key_of ys) (λ _. first)
          ∙ then-other a b (λ same. unlike a b first (λ nul. live (sym same ∙ nul)) same)
    ]

at-drop : (n : ℕ) (x : List ℕ) → get_or (drop n x) 0 0 ≡ get_or x n 0
at-drop n x =
    let same : n + 0 ≡ n = omega arith in
    get_or-drop n x 0 0 ∙ ap (λ k. get_or x k 0) same

drop_after : (n : ℕ) (x : List ℕ) → drop 1 (drop n x) ≡ drop (n + 1) x
drop_after zero x = refl
drop_after (suc n) [] = let e : suc n + 1 ≡ suc (n + 1) = omega arith in rw e refl
drop_after (suc n) (a ∷ xs) = let e : suc n + 1 ≡ suc (n + 1) = omega arith in rw e (drop_after n xs)

-- the two rests after the common prefix differ or stop at once, where neither is empty
part_after : (x y : List ℕ) (n : ℕ) → IsCommonPrefix 0 x y n → 0 < length (drop n x) → 0 < length (drop n y) →
    (not (get_or (drop n x) 0 0 == get_or (drop n y) 0 0) || get_or (drop n x) 0 0 == 0) ≡ true
part_after x y n is some_x some_y =
    rw (at-drop n x, at-drop n y) (is.ends (omega (arith, length-drop n x)) (omega (arith, length-drop n y)))

before_some : (x y more : List ℕ) → 0 < length y
    → (0 < length x → 0 < length y → (not (get_or x 0 0 == get_or y 0 0) || get_or x 0 0 == 0) ≡ true) →
    key_cmp (key_of x) (y ++ more) ≡ ordering_then (nat_cmp (get_or x 0 0) (get_or y 0 0)) Less
before_some x [] more some ends = absurd (omega arith)
before_some x (b ∷ ys) more some ends = before_byte x b (ys ++ more) (λ some_x. ends some_x (omega arith))

module _ (x y : List ℕ) (n : ℕ) (is : IsCommonPrefix 0 x y n) where
  -- where the second text goes on, its next byte decides
  pub decided_within : (more : List ℕ) → n < length y →
      key_cmp (key_of x) (y ++ more) ≡ ordering_then (nat_cmp (get_or x n 0) (get_or y n 0)) Less
  decided_within more below =
      skip n x y more is.equal is.within_first is.within_second
      ∙ before_some (drop n x) (drop n y) more (omega (arith, length-drop n y)) (part_after x y n is)
      ∙ rw (at-drop n x, at-drop n y) refl

  pub decided_before_end : n < length y
      → key_cmp (key_of x) y ≡ ordering_then (nat_cmp (get_or x n 0) (get_or y n 0)) Less
  decided_before_end below = ap (key_cmp (key_of x)) (sym (append-nil y)) ∙ decided_within [] below

  -- where it ends, the key is it, or longer
  pub decided_at_end : n ≡ length y → key_cmp (key_of x) y ≡ nat_cmp (get_or x n 0) 0
  decided_at_end end =
      ap (key_cmp (key_of x)) (sym (append-nil y))
      ∙ skip n x y [] is.equal is.within_first is.within_second
      ∙ ap (λ l. key_cmp (key_of (drop n x)) (l ++ [])) (drop_all n y (omega arith))
      ∙ before_end (drop n x)
      ∙ ap (λ a. nat_cmp a 0) (at-drop n x)

  -- and where more follows after an EOT, that decides
  decided_after : (more : List ℕ) → n ≡ length y →
      key_cmp (key_of x) (y ++ 4 ∷ more) ≡ ordering_then (nat_cmp (get_or x n 0) 4)
      (key_cmp (key_of (drop (n + 1) x)) more)
  decided_after more end =
      skip n x y (4 ∷ more) is.equal is.within_first is.within_second
      ∙ ap (λ l. key_cmp (key_of (drop n x)) (l ++ 4 ∷ more)) (drop_all n y (omega arith))
      ∙ before_separator (drop n x) 4 more (omega arith)
      ∙ rw (at-drop n x, drop_after n x) refl

  pub decided_equal : (more : List ℕ) → n ≡ length y → Equal ≡ nat_cmp (get_or x n 0) 4 →
      key_cmp (key_of x) (y ++ 4 ∷ more) ≡ key_cmp (key_of (slice_range x (n + 1) (length x))) more
  decided_equal more end equal =
      decided_after more end
      ∙ ap (λ o. ordering_then o (key_cmp (key_of (drop (n + 1) x)) more)) (sym equal)
      ∙ ap (λ l. key_cmp (key_of l) more)
      (sym (take_all (length x - (n + 1)) (drop (n + 1) x) (omega (arith, length-drop (n + 1) x))))

  pub decided_unequal : (more : List ℕ) (order : Ordering) → n ≡ length y → order ≡ nat_cmp (get_or x n 0) 4 →
      (order ≡ Equal → ⊥) → order ≡ key_cmp (key_of x) (y ++ 4 ∷ more)
  decided_unequal more order end is unequal =
      kept-unequal order (key_cmp (key_of (drop (n + 1) x)) more) unequal
      ∙ ap (λ o. ordering_then o (key_cmp (key_of (drop (n + 1) x)) more)) is
      ∙ sym (decided_after more end)

  -- two keys
  pub decided_keys : key_cmp (key_of x) (key_of y) ≡ nat_cmp (get_or x n 0) (get_or y n 0)
  decided_keys =
      skip_keys n x y is.equal is.within_first is.within_second
      ∙ before_text (drop n x) (drop n y) (part_after x y n is)
      ∙ rw (at-drop n x, at-drop n y) refl
