-- The binary search: its comparisons, their bound, and what holds of a range of rising keys.
use Rattle.mo_lookup.proofs.Prelude.{AreRising, Equal, Greater, IsIndexOf, Less, List, Ordering, Some, [], ap, arith, cases_lt, comparisons, comparisons_within, drop, drop-drop, drop-take, equal_is_same, get_or-drop, get_or-take, greater_is_less, half, halvings_within, inl, inr, key_at, key_cmp, keys_left, length, length-take, less_is_other, max, one-add, refl, rising_between, search_bound, subst, suc, sym, take, take-take, zero, ℕ, ◌*◌, ◌+◌, ◌-◌, ◌/◌, ◌<◌, ◌^◌, ◌∙◌, ◌∷◌, ◌≡◌, ◌≢◌, ◌≤◌}
use Rattle.std.proofs.Math.Nat.{pow-succ'}
use Rattle.std.proofs.lemmas.List.{length-drop}
use Rattle.std.proofs.lemmas.Cmp.{nat_list_cmp_total}

within_same : (most more n : ℕ) → n ≤ most → n ≤ more → halvings_within most n ≡ halvings_within more n
within_same zero zero n _ _ = refl
within_same zero (suc more) zero _ _ = refl
within_same zero (suc more) (suc n) short _ = absurd (omega arith)
within_same (suc most) zero zero _ _ = refl
within_same (suc most) zero (suc n) _ short = absurd (omega arith)
within_same (suc most) (suc more) zero _ _ = refl
within_same (suc most) (suc more) (suc n) a b =
    ap (λ m. 1 + m) (within_same most more (suc n / 2) (omega arith) (omega arith))

within_rises : (most a b : ℕ) → a ≤ b → halvings_within most a ≤ halvings_within most b
within_rises zero a b _ = omega arith
within_rises (suc most) zero zero _ = omega arith
within_rises (suc most) zero (suc b) _ = omega arith
within_rises (suc most) (suc a) zero le = absurd (omega arith)
within_rises (suc most) (suc a) (suc b) le =
    let rest : halvings_within most (suc a / 2) ≤ halvings_within most (suc b / 2) =
    within_rises most (suc a / 2) (suc b / 2) (omega arith) in
    omega arith

pub search_bound-zero : search_bound 0 ≡ 0
unfolding search_bound
search_bound-zero = refl

pub search_bound-halves : (n : ℕ) → 0 < n → search_bound n ≡ 1 + search_bound (n / 2)
unfolding search_bound
search_bound-halves zero positive = absurd (omega arith)
search_bound-halves (suc n) _ = ap (λ m. 1 + m) (within_same n (suc n / 2) (suc n / 2) (omega arith) (omega arith))

pub search_bound-rises : (a b : ℕ) → a ≤ b → search_bound a ≤ search_bound b
unfolding search_bound
search_bound-rises a b le =
    let more : halvings_within a a ≡ halvings_within b a = within_same a b a (omega arith) le in
    let rest : halvings_within b a ≤ halvings_within b b = within_rises b a b le in
    omega arith

-- 32 comparisons at most where the number of keys fits 32 bits
pub search_bound-at_most_32 : (n : ℕ) → n < 2 ^ 32 → search_bound n ≤ 32
unfolding search_bound
search_bound-at_most_32 n short =
    let largest : halvings_within 4294967295 4294967295 ≡ 32 = refl in
    let more : halvings_within n n ≡ halvings_within 4294967295 n =
    within_same n 4294967295 n (omega arith) (omega arith) in
    let rest : halvings_within 4294967295 n ≤ halvings_within 4294967295 4294967295 =
    within_rises 4294967295 n 4294967295 (omega arith) in
    omega arith

-- both halves of the logarithm, without its lower end's division
twice : (k : ℕ) → 2 ^ (1 + k) ≡ 2 * 2 ^ k
twice k = rw (one-add k) (pow-succ' 2 k)

within_above : (most n : ℕ) → n ≤ most → n < 2 ^ halvings_within most n
within_above zero n short = omega arith
within_above (suc most) zero short = omega arith
within_above (suc most) (suc n) short =
    let rest : suc n / 2 < 2 ^ halvings_within most (suc n / 2) = within_above most (suc n / 2) (omega arith) in
    rw (twice (halvings_within most (suc n / 2))) (omega arith)

within_below : (most n : ℕ) → n ≤ most → 2 ^ halvings_within most n ≤ max 1 (2 * n)
within_below zero n short = omega arith
within_below (suc most) zero short = omega arith
within_below (suc most) (suc n) short =
    let rest : 2 ^ halvings_within most (suc n / 2) ≤ max 1 (2 * (suc n / 2)) =
    within_below most (suc n / 2) (omega arith) in
    rw (twice (halvings_within most (suc n / 2))) (omega arith)

pub search_bound-above : (n : ℕ) → n < 2 ^ search_bound n
unfolding search_bound
search_bound-above n = within_above n n (omega arith)

below-half : (n : ℕ) → 0 < n → 2 ^ search_bound (n / 2) ≤ n
unfolding search_bound
below-half n positive =
    let rest : 2 ^ halvings_within (n / 2) (n / 2) ≤ max 1 (2 * (n / 2)) = within_below (n / 2) (n / 2) (omega arith) in
    omega arith

pub search_bound-below : (n : ℕ) → 0 < n → 2 ^ (search_bound n - 1) ≤ n
search_bound-below n positive =
    let halves : search_bound n ≡ 1 + search_bound (n / 2) = search_bound-halves n positive in
    let less : search_bound n - 1 ≡ search_bound (n / 2) = omega arith in
    rw less (below-half n positive)

-- The comparisons of a binary search: among a range of keys, and at most the bound.

half-short : (order : Ordering) (ks : List (List ℕ)) → length (half order ks) ≤ length ks / 2
half-short Less ks = omega (arith, length-drop (length ks / 2 + 1) ks)
half-short Equal ks = omega arith
half-short Greater ks = omega (arith, length-take (length ks / 2) ks)

left-short : (ks : List (List ℕ)) (key : List ℕ) → length (keys_left ks key) ≤ length ks / 2
left-short ks key = half-short (key_cmp (key_at ks (length ks / 2)) key) ks

within-same : (most more : ℕ) (ks : List (List ℕ)) (key : List ℕ) → length ks ≤ most → length ks ≤ more →
    comparisons_within most ks key ≡ comparisons_within more ks key
within-same zero zero ks key _ _ = refl
within-same zero (suc more) [] key _ _ = refl
within-same zero (suc more) (k ∷ ks) key short _ = absurd (omega arith)
within-same (suc most) zero [] key _ _ = refl
within-same (suc most) zero (k ∷ ks) key _ short = absurd (omega arith)
within-same (suc most) (suc more) [] key _ _ = refl
within-same (suc most) (suc more) (k ∷ ks) key a b =
    let short = left-short (k ∷ ks) key in
    ap (λ m. 1 + m) (within-same most more (keys_left (k ∷ ks) key) key (omega arith) (omega arith))

pub comparisons-none : (key : List ℕ) → comparisons [] key ≡ 0
unfolding comparisons
comparisons-none key = refl

pub comparisons-halves : (ks : List (List ℕ)) (key : List ℕ) → 0 < length ks
    → comparisons ks key ≡ 1 + comparisons (keys_left ks key) key
unfolding comparisons
comparisons-halves [] key some = absurd (omega arith)
comparisons-halves (k ∷ ks) key some =
    let short = left-short (k ∷ ks) key in
    ap (λ m. 1 + m) (within-same (length ks) (length (keys_left (k ∷ ks) key)) (keys_left (k ∷ ks) key) key
    (omega arith) (omega arith))

bounded : (most : ℕ) (ks : List (List ℕ)) (key : List ℕ) → length ks ≤ most
    → comparisons ks key ≤ search_bound (length ks)
bounded most [] key short = omega (arith, comparisons-none key)
bounded zero (k ∷ ks) key short = absurd (omega arith)
bounded (suc most) (k ∷ ks) key short =
    let fewer = left-short (k ∷ ks) key in
    let one : comparisons (k ∷ ks) key ≡ 1 + comparisons (keys_left (k ∷ ks) key) key =
    comparisons-halves (k ∷ ks) key (omega arith) in
    let rest : comparisons (keys_left (k ∷ ks) key) key ≤ search_bound (length (keys_left (k ∷ ks) key)) =
    bounded most (keys_left (k ∷ ks) key) key (omega arith) in
    let rises : search_bound (length (keys_left (k ∷ ks) key)) ≤ search_bound (length (k ∷ ks) / 2) =
    search_bound-rises (length (keys_left (k ∷ ks) key)) (length (k ∷ ks) / 2) fewer in
    let halves : search_bound (length (k ∷ ks)) ≡ 1 + search_bound (length (k ∷ ks) / 2) =
    search_bound-halves (length (k ∷ ks)) (omega arith) in
    omega arith

pub comparisons-bound : (ks : List (List ℕ)) (key : List ℕ) → comparisons ks key ≤ search_bound (length ks)
comparisons-bound ks key = bounded (length ks) ks key (omega arith)

-- the keys of a range
abbrev pub between : List (List ℕ) → ℕ → ℕ → List (List ℕ)
between ks low high = take (high - low) (drop low ks)

between-length : (ks : List (List ℕ)) (low high : ℕ) → high ≤ length ks → length (between ks low high) ≡ high - low
between-length ks low high inside = omega (arith, length-take (high - low) (drop low ks), length-drop low ks)

between-none : (ks : List (List ℕ)) (key : List ℕ) (low high : ℕ) → high ≤ low
    → comparisons (between ks low high) key ≡ 0
between-none ks key low high end =
    let none : high - low ≡ 0 = omega arith in
    ap (λ n. comparisons (take n (drop low ks)) key) none ∙ comparisons-none key

-- in a range the key in its middle is compared, and then those of a half
between-halves : (ks : List (List ℕ)) (key : List ℕ) (low high middle : ℕ) → low < high → high ≤ length ks
    → middle ≡ low + (high - low) / 2 →
    comparisons (between ks low high) key
    ≡ 1 + comparisons (half (key_cmp (key_at ks middle) key) (between ks low high)) key
between-halves ks key low high middle some inside in_middle =
    let long : length (between ks low high) ≡ high - low = between-length ks low high inside in
    let at : key_at (between ks low high) (length (between ks low high) / 2) ≡ key_at ks middle =
    ap (λ n. key_at (between ks low high) (n / 2)) long
    ∙ get_or-take (high - low) (drop low ks) ((high - low) / 2) [] (omega arith)
    ∙ get_or-drop low ks ((high - low) / 2) [] ∙ ap (key_at ks) (sym in_middle) in
    comparisons-halves (between ks low high) key (omega arith)
    ∙ ap (λ k. 1 + comparisons (half (key_cmp k key) (between ks low high)) key) at

-- the half after the middle
between-after : (ks : List (List ℕ)) (low high middle : ℕ) → low < high → high ≤ length ks
    → middle ≡ low + (high - low) / 2 →
    half Less (between ks low high) ≡ between ks (middle + 1) high
between-after ks low high middle some inside in_middle =
    let long : length (between ks low high) ≡ high - low = between-length ks low high inside in
    let parts : high - low ≡ (high - low) / 2 + 1 + (high - (middle + 1)) = omega arith in
    let start : low + ((high - low) / 2 + 1) ≡ middle + 1 = omega arith in
    ap (λ n. drop (n / 2 + 1) (between ks low high)) long
    ∙ ap (λ n. drop ((high - low) / 2 + 1) (take n (drop low ks))) parts
    ∙ drop-take ((high - low) / 2 + 1) (high - (middle + 1)) (drop low ks)
    ∙ ap (take (high - (middle + 1))) (drop-drop ((high - low) / 2 + 1) low ks ∙ ap (λ n. drop n ks) start)

-- the half before it
between-before : (ks : List (List ℕ)) (low high middle : ℕ) → low < high → high ≤ length ks
    → middle ≡ low + (high - low) / 2 →
    half Greater (between ks low high) ≡ between ks low middle
between-before ks low high middle some inside in_middle =
    let long : length (between ks low high) ≡ high - low = between-length ks low high inside in
    let width : (high - low) / 2 ≡ middle - low = omega arith in
    ap (λ n. take (n / 2) (between ks low high)) long
    ∙ take-take ((high - low) / 2) (high - low) (drop low ks) (omega arith)
    ∙ ap (λ n. take n (drop low ks)) width

-- what is counted up to a range, and the comparisons that the range takes, are those of all keys
pub record AreCompared (ks : List (List ℕ)) (key : List ℕ) (began counted low high : ℕ) : Type 0 where
  pub left : counted + comparisons (between ks low high) key ≡ began + comparisons ks key

pub AreCompared-less : (ks : List (List ℕ)) (key : List ℕ) (began counted low high middle : ℕ)
    → AreCompared ks key began counted low high →
    low < high → high ≤ length ks → middle ≡ low + (high - low) / 2 → key_cmp (key_at ks middle) key ≡ Less →
    AreCompared ks key began (counted + 1) (middle + 1) high
AreCompared-less ks key began counted low high middle are some inside in_middle less =
    let one = between-halves ks key low high middle some inside in_middle in
    let rest : comparisons (half (key_cmp (key_at ks middle) key) (between ks low high)) key
    ≡ comparisons (between ks (middle + 1) high) key =
    ap (λ o. comparisons (half o (between ks low high)) key) less
    ∙ ap (λ l. comparisons l key) (between-after ks low high middle some inside in_middle) in
    let left = are.left in
    record { left = omega arith }

pub AreCompared-greater : (ks : List (List ℕ)) (key : List ℕ) (began counted low high middle : ℕ)
    → AreCompared ks key began counted low high →
    low < high → high ≤ length ks → middle ≡ low + (high - low) / 2 → key_cmp (key_at ks middle) key ≡ Greater →
    AreCompared ks key began (counted + 1) low middle
AreCompared-greater ks key began counted low high middle are some inside in_middle greater =
    let one = between-halves ks key low high middle some inside in_middle in
    let rest : comparisons (half (key_cmp (key_at ks middle) key) (between ks low high)) key
    ≡ comparisons (between ks low middle) key =
    ap (λ o. comparisons (half o (between ks low high)) key) greater
    ∙ ap (λ l. comparisons l key) (between-before ks low high middle some inside in_middle) in
    let left = are.left in
    record { left = omega arith }

pub AreCompared-equal : (ks : List (List ℕ)) (key : List ℕ) (began counted low high middle : ℕ)
    → AreCompared ks key began counted low high →
    low < high → high ≤ length ks → middle ≡ low + (high - low) / 2 → key_cmp (key_at ks middle) key ≡ Equal →
    counted + 1 ≡ began + comparisons ks key
AreCompared-equal ks key began counted low high middle are some inside in_middle equal =
    let one = between-halves ks key low high middle some inside in_middle in
    let rest : comparisons (half (key_cmp (key_at ks middle) key) (between ks low high)) key ≡ 0 =
    ap (λ o. comparisons (half o (between ks low high)) key) equal ∙ comparisons-none key in
    let left = are.left in
    omega arith

pub AreCompared-none : (ks : List (List ℕ)) (key : List ℕ) (began counted low high : ℕ)
    → AreCompared ks key began counted low high → high ≤ low →
    counted ≡ began + comparisons ks key
AreCompared-none ks key began counted low high are end =
    let none = between-none ks key low high end in
    let left = are.left in
    omega arith

-- where key m is below another key, none up to m is that key
pub none_up_to : (ks : List (List ℕ)) (key : List ℕ) (m : ℕ) → AreRising ks → m < length ks
    → key_cmp (key_at ks m) key ≡ Less →
    (i : ℕ) → i < m + 1 → key_at ks i ≢ key
none_up_to ks key m rising inside less i before =
    elim (cases_lt i m) [
      | inl under ↦
          less_is_other (key_at ks i) key
          (nat_list_cmp_total.trans (key_at ks i) (key_at ks m) key (rising_between ks rising i m under inside) less)
      | inr at ↦ let same : m ≡ i = omega arith in let P : ℕ → Type 0 =
          λ k. key_at ks k ≢ key in subst P same (less_is_other (key_at ks m) key less)
    ]

-- where key m is above another key, none from m on is that key
pub none_from : (ks : List (List ℕ)) (key : List ℕ) (m : ℕ) → AreRising ks → key_cmp (key_at ks m) key ≡ Greater →
    (i : ℕ) → m ≤ i → i < length ks → key_at ks i ≢ key
none_from ks key m rising greater i after inside =
    let less : key_cmp key (key_at ks m) ≡ Less = greater_is_less (key_at ks m) key greater in
    let other : key ≢ key_at ks i =
    elim (cases_lt m i) [
      | inl over ↦
          less_is_other key (key_at ks i)
          (nat_list_cmp_total.trans key (key_at ks m) (key_at ks i) less (rising_between ks rising m i over inside))
      | inr at ↦ let same : m ≡ i = omega arith in let P : ℕ → Type 0 =
          λ k. key ≢ key_at ks k in subst P same (less_is_other key (key_at ks m) less)
    ] in
    λ same. other (sym same)

-- The binary search: what holds of a range of keys, at its start and after each comparison.

-- no key outside the range from low to high is the one, and what was counted leaves the comparisons
-- of the range
pub record IsSearch (ks : List (List ℕ)) (key : List ℕ) (now : List (List ℕ))
    (began counted low high : ℕ) : Type 0 where
  pub same : now ≡ ks
  pub rising : AreRising ks
  pub short : length ks < 2 ^ 32
  pub ordered : low ≤ high
  pub inside : high ≤ length ks
  pub below : (i : ℕ) → i < low → key_at ks i ≢ key
  pub above : (i : ℕ) → high ≤ i → i < length ks → key_at ks i ≢ key
  pub never_falls : began ≤ counted
  pub compared : AreCompared ks key began counted low high

-- a comparison, as one with the list at the start
at-start : (ks now : List (List ℕ)) (key : List ℕ) (middle : ℕ) (order : Ordering) → now ≡ ks →
    order ≡ key_cmp (key_at now middle) key → key_cmp (key_at ks middle) key ≡ order
at-start ks now key middle order same is = rw (← same) (sym is)

-- key `middle` is below the one: the search goes on after it
pub IsSearch-less : (ks : List (List ℕ)) (key : List ℕ) (now after : List (List ℕ)) (began counted low high middle : ℕ)
    →
    IsSearch ks key now began counted low high → low < high → middle ≡ low + (high - low) / 2 →
    Less ≡ key_cmp (key_at now middle) key → after ≡ now →
    IsSearch ks key after began (counted + 1) (middle + 1) high
IsSearch-less ks key now after began counted low high middle is some in_middle less unchanged = record {
  same = unchanged ∙ is.same;
  rising = is.rising;
  short = is.short;
  ordered = omega arith;
  inside = is.inside;
  below = none_up_to ks key middle is.rising (omega arith) (at-start ks now key middle Less is.same less);
  above = is.above;
  never_falls = omega arith;
  compared =
      AreCompared-less ks key began counted low high middle is.compared some is.inside in_middle
      (at-start ks now key middle Less is.same less);
}

-- key `middle` is above the one: the search goes on before it
pub IsSearch-greater : (ks : List (List ℕ)) (key : List ℕ) (now after : List (List ℕ))
    (began counted low high middle : ℕ) →
    IsSearch ks key now began counted low high → low < high → middle ≡ low + (high - low) / 2 →
    Greater ≡ key_cmp (key_at now middle) key → after ≡ now →
    IsSearch ks key after began (counted + 1) low middle
IsSearch-greater ks key now after began counted low high middle is some in_middle greater unchanged = record {
  same = unchanged ∙ is.same;
  rising = is.rising;
  short = is.short;
  ordered = omega arith;
  inside = omega arith;
  below = is.below;
  above = none_from ks key middle is.rising (at-start ks now key middle Greater is.same greater);
  never_falls = omega arith;
  compared =
      AreCompared-greater ks key began counted low high middle is.compared some is.inside in_middle
      (at-start ks now key middle Greater is.same greater);
}

-- what was counted is within the bound
pub record IsCounted (ks : List (List ℕ)) (began counted : ℕ) : Type 0 where
  pub bound : counted ≤ began + search_bound (length ks)
  pub at_most_32 : counted ≤ began + 32

counted-within : (ks : List (List ℕ)) (key : List ℕ) (began counted : ℕ) → length ks < 2 ^ 32
    → counted ≤ began + comparisons ks key →
    IsCounted ks began counted
counted-within ks key began counted short within =
    let at_most_32 : search_bound (length ks) ≤ 32 = search_bound-at_most_32 (length ks) short in
    let bound : comparisons ks key ≤ search_bound (length ks) = comparisons-bound ks key in
    record { bound = omega arith; at_most_32 = omega arith }

pub IsSearch-counted : (ks : List (List ℕ)) (key : List ℕ) (now : List (List ℕ)) (began counted low high : ℕ) →
    IsSearch ks key now began counted low high → IsCounted ks began counted
IsSearch-counted ks key now began counted low high is =
    let left = is.compared.left in
    counted-within ks key began counted is.short (omega arith)

-- where no keys are left, what was counted are the comparisons of all keys
pub IsSearch-none : (ks : List (List ℕ)) (key : List ℕ) (now : List (List ℕ)) (began counted low high : ℕ) →
    IsSearch ks key now began counted low high → high ≤ low → counted ≡ began + comparisons ks key
IsSearch-none ks key now began counted low high is end = AreCompared-none ks key began counted low high is.compared end

-- where key `middle` is the one, the comparison with it is the last of them
pub IsSearch-last : (ks : List (List ℕ)) (key : List ℕ) (now : List (List ℕ)) (began counted low high middle : ℕ) →
    IsSearch ks key now began counted low high → low < high → middle ≡ low + (high - low) / 2
    → Equal ≡ key_cmp (key_at now middle) key →
    counted + 1 ≡ began + comparisons ks key
IsSearch-last ks key now began counted low high middle is some in_middle equal =
    AreCompared-equal ks key began counted low high middle is.compared some is.inside in_middle
    (at-start ks now key middle Equal is.same equal)

-- and it is within the bound
pub IsSearch-compared : (ks : List (List ℕ)) (key : List ℕ) (now : List (List ℕ)) (began counted low high middle : ℕ) →
    IsSearch ks key now began counted low high → low < high → middle ≡ low + (high - low) / 2
    → Equal ≡ key_cmp (key_at now middle) key →
    IsCounted ks began (counted + 1)
IsSearch-compared ks key now began counted low high middle is some in_middle equal =
    let last = IsSearch-last ks key now began counted low high middle is some in_middle equal in
    counted-within ks key began (counted + 1) is.short (omega arith)

pub IsSearch-found : (ks : List (List ℕ)) (key : List ℕ) (now : List (List ℕ)) (began counted low high middle : ℕ) →
    IsSearch ks key now began counted low high → middle < high → Equal ≡ key_cmp (key_at now middle) key →
    IsIndexOf ks key (Some middle)
IsSearch-found ks key now began counted low high middle is inside equal =
    let end = is.inside in
    (omega arith, equal_is_same (key_at ks middle) key (at-start ks now key middle Equal is.same equal))
