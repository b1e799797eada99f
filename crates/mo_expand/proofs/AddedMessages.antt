-- A message that is added to a list whose keys rise.
use Rattle.mo_expand.proofs.Prelude.{AreRising, BorrowedPair, Contains, Equal, Greater, IsInOrder, IsNonDecreasingBy, IsPartitionPoint, IsPermutation, IsPermutation-cons, IsPermutation-middle, IsPermutation-refl, IsPermutation-trans, IsSortedBy, Less, List, Message, MessageIsAddedInOrder, None, Option, Ordering, Some, [], ap, append_assoc, arith, beside, borrowed_message, copy_within, drop, drop-map, drop-take, exact_bytes, get_or, get_or_default, greater_is_less, inl, inr, is_lt, key-by, key_at, key_cmp, key_of, keys, length, length-append, length-drop, length-keys, length-map, length-take, map-append, messages_of_borrowed, nat_list_cmp_total, none-some, ordering_index, ordering_reverse, originals, refl, rising_between, searchable_from_sorted, set_at, slice_get, slice_set, subst, suc, sym, take, take-map, take-take, take_at, take_more, take_more_set, tied_itself, translations, with_message, with_messages, zero, ℕ, ◌++◌, ◌+◌, ◌-◌, ◌<◌, ◌∙◌, ◌∷◌, ◌≡◌, ◌≢◌, ◌≤◌, ◌⊎◌}

-- a key is below the first of others, if there is one
abbrev IsBelow : List ℕ → List (List ℕ) → Type 0
IsBelow key ks = 0 < length ks → key_cmp key (key_at ks 0) ≡ Less

rising-cons-at : (key : List ℕ) (ks : List (List ℕ)) → IsBelow key ks → AreRising ks → (i : ℕ)
    → i + 1 < length (key ∷ ks) → key_cmp (key_at (key ∷ ks) i) (key_at (key ∷ ks) (i + 1)) ≡ Less
rising-cons-at key ks below rising zero inside = below (omega (arith, inside))
rising-cons-at key ks below rising (suc i) inside =
    let e : suc i + 1 ≡ suc (i + 1) = omega arith in
    rw e (rising.next i (omega (arith, inside)))

rising-cons : (key : List ℕ) (ks : List (List ℕ)) → IsBelow key ks → AreRising ks → AreRising (key ∷ ks)
rising-cons key ks below rising = record { next = rising-cons-at key ks below rising }

pub rising-rest : (key : List ℕ) (ks : List (List ℕ)) → AreRising (key ∷ ks) → AreRising ks
rising-rest key ks rising = record {
  next = λ i inside.
      let e : suc i + 1 ≡ suc (i + 1) = omega arith in
      let P : ℕ → Type 0 = λ n. key_cmp (key_at ks i) (key_at (key ∷ ks) n) ≡ Less in
      subst P e (rising.next (suc i) (omega (arith, inside)));
}

rising-first : (key : List ℕ) (ks : List (List ℕ)) → AreRising (key ∷ ks) → IsBelow key ks
rising-first key ks rising inside = rising.next 0 (omega (arith, inside))

-- a key below a message and below the first of others is below the first of both
below-beside : (key : List ℕ) (m other : Message) (others with_others : List Message) (o : Ordering)
    → key_cmp key (key_of m.original) ≡ Less → IsBelow key (keys (other ∷ others))
    → IsBelow key (keys (beside o m other others with_others))
below-beside key m other others with_others Less less below inside = below (omega arith)
below-beside key m other others with_others Equal less below inside = below (omega arith)
below-beside key m other others with_others Greater less below inside = less

below-with : (key : List ℕ) (m : Message) (others : List Message) → key_cmp key (key_of m.original) ≡ Less
    → IsBelow key (keys others) → IsBelow key (keys (with_message m others))
unfolding with_message
below-with key m [] less below inside = less
below-with key m (other ∷ others) less below inside =
    below-beside key m other others (with_message m others)
    (key_cmp (key_of other.original) (key_of m.original)) less below inside

rising-beside : (m other : Message) (others with_others : List Message) (o : Ordering)
    → key_cmp (key_of other.original) (key_of m.original) ≡ o → AreRising (keys (other ∷ others))
    → AreRising (keys with_others)
    → (key_cmp (key_of other.original) (key_of m.original) ≡ Less
    → IsBelow (key_of other.original) (keys with_others)) →
    AreRising (keys (beside o m other others with_others))
rising-beside m other others with_others Less e rising with_rising below =
    rising-cons (key_of other.original) (keys with_others) (below e) with_rising
rising-beside m other others with_others Equal e rising with_rising below = rising
rising-beside m other others with_others Greater e rising with_rising below =
    rising-cons (key_of m.original) (keys (other ∷ others))
    (λ inside. greater_is_less (key_of other.original) (key_of m.original) e) rising

pub rising-with_message : (m : Message) (messages : List Message) → AreRising (keys messages)
    → AreRising (keys (with_message m messages))
unfolding with_message
rising-with_message m [] rising = rising-cons (key_of m.original) [] (λ inside. absurd (omega (arith, inside))) rising
rising-with_message m (other ∷ others) rising =
    rising-beside m other others (with_message m others)
    (key_cmp (key_of other.original) (key_of m.original)) refl rising
    (rising-with_message m others (rising-rest (key_of other.original) (keys others) rising))
    (λ less. below-with (key_of other.original) m others less
    (rising-first (key_of other.original) (keys others) rising))

pub rising-with_messages : (messages : List Message) (added : List (Option Message)) → AreRising (keys messages)
    → AreRising (keys (with_messages messages added))
unfolding with_messages
rising-with_messages messages [] rising = rising
rising-with_messages messages (None ∷ more) rising = rising-with_messages messages more rising
rising-with_messages messages (Some m ∷ more) rising =
    rising-with_messages (with_message m messages) more (rising-with_message m messages rising)

-- Messages in a list, and the place of one that is added.

pub with_message-cons : (m other : Message) (others : List Message) (o : Ordering)
    → key_cmp (key_of other.original) (key_of m.original) ≡ o
    → with_message m (other ∷ others) ≡ beside o m other others (with_message m others)
unfolding with_message
with_message-cons m other others o e = ap (λ p. beside p m other others (with_message m others)) e

pub with_message-none : (m : Message) → with_message m [] ≡ m ∷ []
unfolding with_message
with_message-none m = refl

-- a list of the messages of a file, one message longer
pub next-message : (ms : List Message) (i : ℕ) (o t : List ℕ) → slice_get (originals ms) i ≡ Some o
    → slice_get (translations ms) i ≡ Some t
    → take (i + 1) ms ≡ take i ms ++ record { original = o; translation = t } ∷ []
next-message [] i o t is_o is_t = absurd (none-some o is_o)
next-message (m ∷ ms) zero o t is_o is_t = let p = is_o in let q = is_t in grind arith
next-message (m ∷ ms) (suc i) o t is_o is_t = let e : suc i + 1 ≡ suc (i + 1) =
    omega arith in rw e (ap (λ l. m ∷ l) (next-message ms i o t is_o is_t))

pub listed-next : (listed : List BorrowedPair) (i : ℕ) (ms : List Message) (x : BorrowedPair) → i < length listed
    → messages_of_borrowed (take i listed) ≡ take i ms → slice_get (originals ms) i ≡ Some x.original.now
    → slice_get (translations ms) i ≡ Some x.translation.now
    → messages_of_borrowed (take (i + 1) (slice_set listed i x)) ≡ take (i + 1) ms
listed-next listed i ms x inside is is_o is_t =
    ap messages_of_borrowed (take_more_set listed i x inside)
    ∙ map-append borrowed_message (take i listed) (x ∷ [])
    ∙ ap (λ l. l ++ borrowed_message x ∷ []) is
    ∙ sym (next-message ms i x.original.now x.translation.now is_o is_t)

moves : (listed : List BorrowedPair) (at count : ℕ)
    → copy_within listed at count (at + 1) ≡ take (at + 1) listed
    ++ (take (count - at) (drop at listed) ++ drop (at + 1 + (count - at)) listed)
moves listed at count = append_assoc (take (at + 1) listed) (take (count - at) (drop at listed))
    (drop (at + 1 + (count - at)) listed)

-- a list with a message at its place
pub inserted : (listed : List BorrowedPair) (count at : ℕ) (x : BorrowedPair) → at ≤ count → count < length listed
    → with_message (borrowed_message x) (messages_of_borrowed (take count listed))
    ≡ take at (messages_of_borrowed (take count listed)) ++ borrowed_message x
    ∷ drop at (messages_of_borrowed (take count listed)) →
    messages_of_borrowed (take (count + 1) (slice_set (copy_within listed at count (at + 1)) at x))
    ≡ with_message (borrowed_message x) (messages_of_borrowed (take count listed))
inserted listed count at x low high place =
    let middle = take (count - at) (drop at listed) in
    let tail = drop (at + 1 + (count - at)) listed in
    let y = get_or listed at x in
    let before : length (take at listed) ≡ at = omega (arith, length-take at listed, low, high) in
    let split : take (at + 1) listed ≡ take at listed ++ y ∷ [] = take_more listed at x (omega arith) in
    let moved : copy_within listed at count (at + 1) ≡ take at listed ++ y ∷ (middle ++ tail) =
    moves listed at count ∙ ap (λ l. l ++ (middle ++ tail)) split
    ∙ append_assoc (take at listed) (y ∷ []) (middle ++ tail) in
    let put : slice_set (copy_within listed at count (at + 1)) at x ≡ (take at listed ++ x ∷ middle) ++ tail =
    ap (λ l. slice_set l at x) moved
    ∙ set_at (take at listed) y (middle ++ tail) x at before
    ∙ sym (append_assoc (take at listed) (x ∷ middle) tail) in
    let moved_len : length middle ≡ count - at =
    omega (arith, length-take (count - at) (drop at listed), length-drop at listed, low, high) in
    let len : length (take at listed ++ x ∷ middle) ≡ count + 1 =
    omega (arith, length-append (take at listed) (x ∷ middle), before, moved_len, low) in
    let sum : at + (count - at) ≡ count = omega arith in
    let after : drop at (messages_of_borrowed (take count listed)) ≡ messages_of_borrowed middle =
    drop-map borrowed_message at (take count listed)
    ∙ ap messages_of_borrowed (sym (ap (λ n. drop at (take n listed)) sum) ∙ drop-take at (count - at) listed) in
    let first : take at (messages_of_borrowed (take count listed)) ≡ messages_of_borrowed (take at listed) =
    take-map borrowed_message at (take count listed) ∙ ap messages_of_borrowed (take-take at count listed low) in
    ap (λ l. messages_of_borrowed (take (count + 1) l)) put
    ∙ ap messages_of_borrowed (take_at (take at listed ++ x ∷ middle) tail (count + 1) len)
    ∙ map-append borrowed_message (take at listed) (x ∷ middle)
    ∙ sym (place ∙ rw (first, after) refl)

-- The search for the place of a message in a list whose keys rise.

reversed : (x y : List ℕ) (o : Ordering) → key_cmp x y ≡ o → key_cmp y x ≡ ordering_reverse o
reversed x y o e = nat_list_cmp_total.antisymm y x ∙ ap ordering_reverse e

-- where all keys before a place are below a key, and the one there above it, the message comes there
place-is : (m : Message) (ms : List Message) (at : ℕ) → at ≤ length ms
    → ((k : ℕ) → k < at → key_cmp (key_at (keys ms) k) (key_of m.original) ≡ Less)
    → (at < length ms → key_cmp (key_at (keys ms) at) (key_of m.original) ≡ Greater) →
    with_message m ms ≡ take at ms ++ m ∷ drop at ms
place-is m [] zero inside below above = with_message-none m
place-is m [] (suc at) inside below above = absurd (omega (arith, inside))
place-is m (x ∷ xs) zero inside below above = with_message-cons m x xs Greater (above (omega arith))
place-is m (x ∷ xs) (suc at) inside below above =
    with_message-cons m x xs Less (below 0 (omega arith))
    ∙ ap (λ l. x ∷ l) (place-is m xs at (omega (arith, inside)) (λ k before. below (suc k) (omega (arith, before)))
    (λ lt. above (omega (arith, lt))))

-- where a key is there already, nothing is added
taken : (m : Message) (ms : List Message) (at : ℕ) → at < length ms
    → ((k : ℕ) → k < at → key_cmp (key_at (keys ms) k) (key_of m.original) ≡ Less)
    → key_cmp (key_at (keys ms) at) (key_of m.original) ≡ Equal → with_message m ms ≡ ms
taken m [] at inside below equal = absurd (omega (arith, inside))
taken m (x ∷ xs) zero inside below equal = with_message-cons m x xs Equal equal
taken m (x ∷ xs) (suc at) inside below equal =
    with_message-cons m x xs Less (below 0 (omega arith))
    ∙ ap (λ l. x ∷ l) (taken m xs at (omega (arith, inside)) (λ k before. below (suc k) (omega (arith, before))) equal)

sorted-listed : (listed : List BorrowedPair) → AreRising (keys (messages_of_borrowed listed)) →
    IsSortedBy (λ a b. is_lt (key_cmp (key_of a.original.now) (key_of b.original.now))) listed
sorted-listed listed rising = λ k d low inside.
    let next = rising.next k
    (omega (arith, length-keys borrowed_message listed, inside)) in
    let less = rw (
      key-by borrowed_message listed k d (omega (arith, inside)),
      key-by borrowed_message listed (k + 1) d inside,
    ) at next in
    ap is_lt (reversed (key_of (get_or listed k d).original.now)
    (key_of (get_or listed (k + 1) d).original.now) Less less)

-- what a search finds
module _ (listed : List BorrowedPair) (m : BorrowedPair) (rising : AreRising (keys (messages_of_borrowed listed))) where
  abbrev against : BorrowedPair → Ordering
  against it = key_cmp (key_of it.original.now) (key_of m.original.now)

  against-key : (i : ℕ) → i < length listed →
      key_cmp (key_at (keys (messages_of_borrowed listed)) i) (key_of m.original.now) ≡ against (get_or listed i m)
  against-key i inside = ap (λ k. key_cmp k (key_of m.original.now)) (key-by borrowed_message listed i m inside)

  pub listed-found : (at : ℕ) → at < length listed →
      key_cmp (key_of (get_or listed at m).original.now) (key_of m.original.now) ≡ Equal →
      with_message (borrowed_message m) (messages_of_borrowed listed) ≡ messages_of_borrowed listed
  listed-found at inside equal =
      let ks = keys (messages_of_borrowed listed) in
      let here = against-key at inside ∙ equal in
      let within : at < length (messages_of_borrowed listed) =
      omega (arith, length-map listed borrowed_message, inside) in
      let among : at < length ks = omega (arith, length-keys borrowed_message listed, inside) in
      taken (borrowed_message m) (messages_of_borrowed listed) at within
      (λ k before. subst (λ key. key_cmp (key_at ks k) key ≡ Less)
      (exact_bytes (key_at ks at) (key_of m.original.now) here)
      (rising_between ks rising k at before among)) here

  pub listed-place : (at : ℕ) → at ≤ length listed →
      (IsNonDecreasingBy (λ it. ordering_index (key_cmp (key_of it.original.now) (key_of m.original.now))) listed →
      IsPartitionPoint (λ it. key_cmp (key_of it.original.now) (key_of m.original.now) ≡ Less)
      (λ it. key_cmp (key_of it.original.now) (key_of m.original.now) ≡ Greater) listed at) →
      with_message (borrowed_message m) (messages_of_borrowed listed)
      ≡ take at (messages_of_borrowed listed) ++ borrowed_message m ∷ drop at (messages_of_borrowed listed)
  listed-place at inside found =
      let point = found (searchable_from_sorted nat_list_cmp_total
      (λ (it : BorrowedPair). key_of it.original.now) listed
      (key_of m.original.now) (sorted-listed listed rising)) in
      let len = length-map listed borrowed_message in
      place-is (borrowed_message m) (messages_of_borrowed listed) at (omega (arith, len, inside))
      (λ k before. against-key k (omega (arith, before, inside)) ∙ point.0 k m (omega arith) before)
      (λ lt.
      let here : at < length listed = omega (arith, len, lt) in
      against-key at here ∙ point.1 at m (omega arith) here)

-- A message that is added to messages in order.

abbrev key : Message → List ℕ
key m = key_of m.original

not-itself : (x : List ℕ) (o : Ordering) → o ≢ Equal → key_cmp x x ≡ o → ⊥
not-itself x o other is = other (sym is ∙ tied_itself nat_list_cmp_total x)

-- a key of the list is the first one or one of the rest
first-key : (x : List ℕ) (xs : List (List ℕ)) (k : List ℕ) → Contains (x ∷ xs) k → (k ≡ x) ⊎ Contains xs k
first-key x xs k (zero, inside, is) = inl (sym is)
first-key x xs k (suc i, inside, is) = inr (i, omega (arith, inside), is)

-- the first key is below those of the rest
below-keys : (x : List ℕ) (xs : List (List ℕ)) → AreRising (x ∷ xs) → (k : List ℕ) → Contains xs k
    → key_cmp x k ≡ Less
below-keys x xs rises k (i, inside, is) =
    let below = rising_between (x ∷ xs) rises 0 (suc i) (omega arith) (omega (arith, inside)) in
    subst (λ other. key_cmp x other ≡ Less) (get_or_default xs i [] k inside ∙ is) below

abbrev Outcome : Message → List Message → Type 0
Outcome m messages =
    (Contains (keys messages) (key m) × (with_message m messages ≡ messages))
    ⊎ ((¬ Contains (keys messages) (key m)) × IsInOrder (m ∷ messages) (with_message m messages))

pub message_is_added_in_order : MessageIsAddedInOrder
message_is_added_in_order m [] rises =
    inr (
      λ among. let inside = among.1 in absurd (omega (arith, inside)),
      record {
        all = subst (λ ms. IsPermutation (m ∷ []) ms) (sym (with_message-none m)) (IsPermutation-refl (m ∷ []));
        rising = rising-with_message m [] rises;
      },
    )
message_is_added_in_order m (other ∷ others) rises =
    by_case (key_cmp (key other) (key m)) refl
    (message_is_added_in_order m others (rising-rest (key other) (keys others) rises)) where
      risen : AreRising (keys (with_message m (other ∷ others)))
      risen = rising-with_message m (other ∷ others) rises

      by_case : (o : Ordering) → key_cmp (key other) (key m) ≡ o → Outcome m others → Outcome m (other ∷ others)
      by_case Less e (inl (among, stays)) =
          inl (
            (suc among.0, omega (arith, among.1), among.2),
            with_message-cons m other others Less e ∙ ap (λ ms. other ∷ ms) stays,
          )
      by_case Less e (inr (absent, placed)) =
          inr (
            λ among. elim (first-key (key other) (keys others) (key m) among) [
              | inl is ↦ not-itself (key m) Less (λ same. cc) (ap (λ k. key_cmp k (key m)) is ∙ e)
              | inr later ↦ absent later
            ],
            record {
              all = subst (λ ms. IsPermutation (m ∷ other ∷ others) ms) (sym (with_message-cons m other others Less e))
                  (IsPermutation-trans _ _ _ (IsPermutation-middle (m ∷ []) other others)
                  (IsPermutation-cons other _ _ placed.all));
              rising = risen;
            },
          )
      by_case Equal e outcome =
          inl ((0, omega arith, exact_bytes (key other) (key m) e), with_message-cons m other others Equal e)
      by_case Greater e outcome =
          let below : key_cmp (key m) (key other) ≡ Less =
          nat_list_cmp_total.antisymm (key m) (key other) ∙ ap ordering_reverse e in
          inr (
            λ among. elim (first-key (key other) (keys others) (key m) among) [
              | inl is ↦ not-itself (key m) Greater (λ same. cc) (ap (λ k. key_cmp k (key m)) is ∙ e)
              | inr later ↦ not-itself (key m) Less (λ same. cc)
                  (nat_list_cmp_total.trans (key m) (key other) (key m) below
                  (below-keys (key other) (keys others) rises (key m) later))
            ],
            record {
              all = subst (λ ms. IsPermutation (m ∷ other ∷ others) ms)
                  (sym (with_message-cons m other others Greater e))
                  (IsPermutation-refl (m ∷ other ∷ others));
              rising = risen;
            },
          )
