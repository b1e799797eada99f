-- The messages of a file, whose keys rise: which of them is below which.
use Rattle.mo_file.proofs.Prelude.{AllPairs, AreRising, AreRisingBelow, Bool, Equal, FileHeader, Greater, IsAllAdjacentAnswer, IsChecked, IsStringAt, IsTrue, Less, List, Message, None, Option, Order, Ordering, Some, [], ap, ap₂, arith, end_at, false, get_or, get_or-map, get_or_from_slice_get, inl, inr, is_lt, key_at, key_cmp, key_of, keys, length, length-map, map, message_at, message_count, messages_of, offset_at, option_map, ordering_reverse, original_at, refl, slice_get, slice_get-get_or, slice_get-map, slice_get_within, slice_range, string_at, subst, suc, sym, translation_at, true, zero, ℕ, ◌+◌, ◌-◌, ◌<◌, ◌↔◌, ◌∙◌, ◌∷◌, ◌≡◌, ◌≢◌, ◌≤◌}
use Rattle.std.specs.List.Sorted.{IsSortedBy}
use Rattle.std.proofs.lemmas.Cmp.{nat_list_cmp_total, tied_itself}
use Rattle.std.proofs.lemmas.Map.Lookups.{exact_bytes}
use Rattle.std.proofs.lemmas.List.FromFn.{get_or-map-range_with_len, length-map-range_with_len}
use Rattle.mo_file.proofs.KeyComparison.{some_nul}

pub equal_is_same : (x y : List ℕ) → key_cmp x y ≡ Equal → x ≡ y
equal_is_same x y equal = exact_bytes x y equal

pub less_is_other : (x y : List ℕ) → key_cmp x y ≡ Less → x ≢ y
less_is_other x y less same =
    let itself : key_cmp y y ≡ Equal = tied_itself nat_list_cmp_total y in
    let P : List ℕ → Type 0 = λ z. key_cmp z y ≡ Less in
    let other : key_cmp y y ≡ Less = subst P same less in
    (cc)

pub greater_is_less : (x y : List ℕ) → key_cmp x y ≡ Greater → key_cmp y x ≡ Less
greater_is_less x y greater = nat_list_cmp_total.antisymm y x ∙ ap ordering_reverse greater

rising_apart : (ks : List (List ℕ)) → AreRising ks → (i gap : ℕ) → i + 1 + gap < length ks →
    key_cmp (key_at ks i) (key_at ks (i + 1 + gap)) ≡ Less
rising_apart ks rising i zero inside =
    let e : i + 1 + 0 ≡ i + 1 = omega arith in
    rw e (rising.next i (omega arith))
rising_apart ks rising i (suc gap) inside =
    let e : i + 1 + suc gap ≡ i + 1 + gap + 1 = omega arith in
    rw e
    (
    nat_list_cmp_total.trans (key_at ks i) (key_at ks (i + 1 + gap)) (key_at ks (i + 1 + gap + 1))
    (rising_apart ks rising i gap (omega arith)) (rising.next (i + 1 + gap) (omega arith))
    )

-- key i is below key j wherever i is below j
pub rising_between : (ks : List (List ℕ)) → AreRising ks → (i j : ℕ) → i < j → j < length ks
    → key_cmp (key_at ks i) (key_at ks j) ≡ Less
rising_between ks rising i j before inside =
    let e : i + 1 + (j - (i + 1)) ≡ j = omega arith in
    let P : ℕ → Type 0 = λ k. key_cmp (key_at ks i) (key_at ks k) ≡ Less in
    subst P e (rising_apart ks rising i (j - (i + 1)) (omega arith))

is_less : (o : Ordering) → true ≡ is_lt o → o ≡ Less
is_less Less is = refl
is_less Equal is = cc
is_less Greater is = cc

isnt_less : (o : Ordering) → false ≡ is_lt o → o ≢ Less
isnt_less Less is = cc
isnt_less Equal is = λ less. cc
isnt_less Greater is = λ less. cc

pub not_above : (o : Ordering) → is_lt (ordering_reverse o) ≡ false → o ≢ Equal → o ≡ Less
not_above Less h other = refl
not_above Equal h other = absurd (other refl)
not_above Greater h other = cc

pub first_of : {X : Type 0} (xs : List X) → 0 < length xs → X
first_of [] some = absurd (omega (arith, some))
first_of (x ∷ xs) some = x

-- a list of what has keys
module _ {X : Type 0} (key : X → List ℕ) where
  -- whether the keys rise, by what is answered of each two neighbours
  pub rising-answered : (xs : List X) (r : Bool)
      → IsAllAdjacentAnswer (λ a b answer. answer ≡ is_lt (key_cmp (key a) (key b))) xs r
      → IsTrue r ↔ AreRising (map key xs)
  rising-answered xs true answers = (
    λ _. record {
      next = λ i inside.
          let within : i + 1 < length xs = omega (arith, inside, length-map xs key) in
          let d = first_of xs (omega (arith, within)) in
          ap₂ key_cmp (get_or-map key xs i d [] (omega (arith, within))) (get_or-map key xs (i + 1) d [] within)
          ∙ is_less _ (answers i d within);
    },
    λ _. refl,
  )
  rising-answered xs false answers = (
    λ no. absurd (cc),
    λ rising.
        let i = answers.0 in
        let within = answers.1 in
        let d = first_of xs (omega (arith, within)) in
        absurd (isnt_less _ (answers.2 d)
        (ap₂ key_cmp (sym (get_or-map key xs i d [] (omega (arith, within))))
        (sym (get_or-map key xs (i + 1) d [] within)) ∙ rising.next i (omega (arith, within, length-map xs key)))),
  )

  -- sorted keys rise where no two are equal
  pub rising-from_sorted : (xs : List X) → IsSortedBy (λ a b. is_lt (key_cmp (key a) (key b))) xs
      → AllPairs (λ a b. a ≢ b) (map key xs) → AreRising (map key xs)
  rising-from_sorted xs sorted apart = record {
    next = λ i inside.
        let within : i + 1 < length xs = omega (arith, inside, length-map xs key) in
        let d = first_of xs (omega (arith, within)) in
        let here = get_or-map key xs i d [] (omega (arith, within)) in
        let next = get_or-map key xs (i + 1) d [] within in
        let a = key (get_or xs i d) in
        let b = key (get_or xs (i + 1) d) in
        ap₂ key_cmp here next
        ∙ not_above (key_cmp a b)
        (subst (λ o. is_lt o ≡ false) (nat_list_cmp_total.antisymm b a) (sorted i d (omega arith) within))
        (λ equal. apart i (i + 1) [] (omega arith) (omega (arith, inside)) (here ∙ exact_bytes a b equal ∙ sym next));
  }

-- pairs of any kind, as messages
module _ {P : Type 0} (f : P → Message) where
  -- the key of a pair
  abbrev pub key_by : P → List ℕ
  key_by pair = key_of (f pair).original

  pub keys-by : (pairs : List P) → keys (map f pairs) ≡ map key_by pairs
  keys-by [] = refl
  keys-by (p ∷ ps) = ap (λ ks. key_by p ∷ ks) (keys-by ps)

  pub key-by : (pairs : List P) (i : ℕ) (d : P) → i < length pairs
      → key_at (keys (map f pairs)) i ≡ key_by (get_or pairs i d)
  key-by pairs i d inside = rw (keys-by pairs) (get_or-map key_by pairs i d [] inside)

  pub length-keys : (pairs : List P) → length (keys (map f pairs)) ≡ length pairs
  length-keys pairs = rw (keys-by pairs) (length-map pairs key_by)

-- The messages of a file: how many they are, what stands at an index, and that their keys rise.

not_unequal : (order : Ordering) → ¬ (order ≢ Less) → order ≡ Less
not_unequal Less less = refl
not_unequal Equal less = absurd (less (λ is. cc))
not_unequal Greater less = absurd (less (λ is. cc))

module _ (order : Order) (bytes : List ℕ) where
  pub length-messages_of : length (messages_of order bytes) ≡ message_count order bytes
  unfolding messages_of
  length-messages_of = length-map-range_with_len (message_at order bytes) 0 (message_count order bytes)

  -- message i is what the tables have at i
  pub messages_of-at : (i : ℕ) → i < message_count order bytes →
      slice_get (messages_of order bytes) i ≡ Some (message_at order bytes i)
  unfolding messages_of
  messages_of-at i lt =
      slice_get-get_or (messages_of order bytes) i (message_at order bytes i) (omega (arith, length-messages_of))
      ∙ ap Some (get_or-map-range_with_len (message_at order bytes) 0 (message_count order bytes) i i
      (message_at order bytes i) lt (omega arith))

  module _ {A : Type 0} (f : Message → A) where
    -- what is read of each message, at an index
    pub map-messages_of-at : (i : ℕ) → i < message_count order bytes →
        slice_get (map f (messages_of order bytes)) i ≡ Some (f (message_at order bytes i))
    map-messages_of-at i lt = slice_get-map f (messages_of order bytes) i ∙ ap (option_map f) (messages_of-at i lt)

  pub keys-at : (i : ℕ) → i < message_count order bytes →
      key_at (keys (messages_of order bytes)) i ≡ key_of (original_at order bytes i)
  keys-at i lt = get_or_from_slice_get (keys (messages_of order bytes)) i _ []
      (map-messages_of-at (λ m. key_of m.original) i lt)

  pub length-keys-messages_of : length (keys (messages_of order bytes)) ≡ message_count order bytes
  length-keys-messages_of = length-map (messages_of order bytes) (λ m. key_of m.original) ∙ length-messages_of

  pub AreRising-messages_of : AreRisingBelow order bytes (message_count order bytes) →
      AreRising (keys (messages_of order bytes))
  AreRising-messages_of sorted = record {
    next = λ i lt.
        let inside : i + 1 < message_count order bytes = omega (arith, length-keys-messages_of) in
        rw (keys-at i (omega arith), keys-at (i + 1) inside) (not_unequal _ (sorted i inside));
  }

some_zero : (found : Option ℕ) → ¬ (found ≢ Some 0) → found ≡ Some 0
some_zero None terminated = absurd (terminated (λ is. cc))
some_zero (Some x) terminated = ap Some (some_nul x terminated)

-- a string inside the file that a NUL follows
pub string_at_end : (bytes : List ℕ) (start end : ℕ) → start ≤ end → ¬ (slice_get bytes end ≢ Some 0) →
    IsStringAt bytes start end (slice_range bytes start end)
string_at_end bytes start end ordered terminated =
    record { order = ordered; text = refl; terminated = some_zero _ terminated }

pub string-within : (bytes : List ℕ) (start end : ℕ) (string : List ℕ) → IsStringAt bytes start end string →
    end < length bytes
string-within bytes start end string is = slice_get_within bytes end 0 is.terminated

-- where the strings of a message stand
module _ (header : FileHeader) (bytes : List ℕ) (checked : IsChecked header bytes) (i : ℕ)
    (counted : i < header.count) where
  abbrev inside : i < message_count header.order bytes
  inside = rw checked.read.count at counted

  pub original-stands : IsStringAt bytes (offset_at header.order bytes header.originals i)
      (end_at header.order bytes header.originals i) (original_at header.order bytes i)
  unfolding string_at
  original-stands =
      rw checked.read.originals
      (string_at_end bytes _ _ (omega arith) (λ other. checked.strings.terminated i inside (inl other)))

  pub translation-stands : IsStringAt bytes (offset_at header.order bytes header.translations i)
      (end_at header.order bytes header.translations i) (translation_at header.order bytes i)
  unfolding string_at
  translation-stands =
      rw checked.read.translations
      (string_at_end bytes _ _ (omega arith) (λ other. checked.strings.terminated i inside (inr other)))
