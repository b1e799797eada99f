-- How many keys the binary search compares (manual, "The Format of GNU MO Files"). The key in the
-- middle of a list is that at half its length, rounded down, counted from 0.
use Rattle.std.specs.Prelude.{ℕ, suc, ◌+◌, ◌-◌, ◌/◌, ◌^◌, ◌<◌, ◌≤◌, ◌≡◌, List, [], ◌∷◌, length, take, drop, if◌then◌else◌, ◌≢◌, Option, MatchOption}
use Rattle.std.specs.declared.cmp.Ordering.{Ordering}
use Rattle.std.specs.declared.cmp.Ordering.TheVariants.{Less, Equal, Greater}
use Rattle.mo_file.specs.Prelude.{Message, key_at, key_cmp, keys, query_key}
use Rattle.mo_lookup.specs.Query.{Query, can_be_key}

-- The bound of the binary search: how often a list can be halved (manual, "The Format of GNU MO
-- Files").

-- how often n can be halved, rounded down, until it is 0, up to `most` times
abbrev pub halvings_within : ℕ → ℕ → ℕ
halvings_within (suc most) (suc n) = 1 + halvings_within most (suc n / 2)
halvings_within most n = 0

-- The most comparisons that a binary search of n keys makes. More than n halvings are never needed.
-- For n above 0 it is floor(log2 n) + 1.
unfoldable pub search_bound : ℕ → ℕ
search_bound n = halvings_within n n

-- no comparison for no keys, and one more than for half as many
abbrev pub BoundHalves : Type 0
BoundHalves = (search_bound 0 ≡ 0) × ((n : ℕ) → 0 < n → search_bound n ≡ 1 + search_bound (n / 2))

-- so it is floor(log2 n) + 1
abbrev pub BoundIsLogarithm : Type 0
BoundIsLogarithm = (n : ℕ) → 0 < n → (2 ^ (search_bound n - 1) ≤ n) × (n < 2 ^ search_bound n)

-- where the key in the middle is below the one that is searched, the keys after it; where it is
-- above, those before it; and none where it is the one
abbrev pub half : Ordering → List (List ℕ) → List (List ℕ)
half Less ks = drop (length ks / 2 + 1) ks
half Equal ks = []
half Greater ks = take (length ks / 2) ks

-- the keys that can still be the one, when the key in the middle has been compared
abbrev pub keys_left : List (List ℕ) → List ℕ → List (List ℕ)
keys_left ks key = half (key_cmp (key_at ks (length ks / 2)) key) ks

-- how many keys are compared, up to `most`, until it is found or none is left
abbrev pub comparisons_within : ℕ → List (List ℕ) → List ℕ → ℕ
comparisons_within (suc most) (k ∷ ks) key = 1 + comparisons_within most (keys_left (k ∷ ks) key) key
comparisons_within most ks key = 0

-- how many of these keys a binary search compares with the one that is searched
unfoldable pub comparisons : List (List ℕ) → List ℕ → ℕ
comparisons ks key = comparisons_within (length ks) ks key

-- none of no keys; else the one in the middle, and those that the search among the keys left
-- compares
abbrev pub SearchHalves : Type 0
SearchHalves =
    ((key : List ℕ) → comparisons [] key ≡ 0)
    × ((ks : List (List ℕ)) (key : List ℕ) → 0 < length ks
    → comparisons ks key ≡ 1 + comparisons (keys_left ks key) key)

-- never more than the bound
abbrev pub SearchIsBounded : Type 0
SearchIsBounded = (ks : List (List ℕ)) (key : List ℕ) → comparisons ks key ≤ search_bound (length ks)

-- how many keys of a catalogue are compared for a query: none where it can't be a key
abbrev pub query_comparisons : List Message → Query → ℕ
query_comparisons messages query =
    if can_be_key query.context query.id then comparisons (keys messages) (query_key query.context query.id) else 0

-- Where a key stands in a list of keys.

-- the index of the key, or none where no key is it
abbrev pub IsIndexOf : List (List ℕ) → List ℕ → Option ℕ → Type 0
IsIndexOf ks key index =
    MatchOption index ((i : ℕ) → i < length ks → key_at ks i ≢ key) (λ i. (i < length ks) × (key_at ks i ≡ key))
