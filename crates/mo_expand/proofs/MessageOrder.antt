-- Messages in order: they are the only ones, and under each key the same is found.
use Rattle.mo_expand.proofs.Prelude.{All, All-contains, All-permutation, AreRising, Bool, Contains, Contains-permutation, HaveDistinctKeys, IsInOrder, IsPermutation-refl, IsPermutation-sym, Less, List, Message, MoFileIsInOrder, None, OneOrder, Option, SameMessageUnderKey, Some, SortedFileIsMoFile, [], ap, ap₂, arith, bytes_eq, bytes_eq-Decides, cases_lt, fails_before_first, false, find, get_or, get_or-map, get_or_default, get_or_from_slice_get, inl, inr, key_cmp, key_of, keys, layout_is_mo_file, length-map, less_is_other, nat_list_cmp_total, none-some, passes_at_first, position_or_len, refl, rising_between, slice_get-get_or, slice_get_within, subst, suc, sym, true, zero, ℕ, ◌<◌, ◌∙◌, ◌∷◌, ◌≡◌, ◌≤◌, ◌⊎◌}
use Rattle.std.proofs.lemmas.List.Folds.{find_at}
use Rattle.mo_expand.proofs.ExpandedFiles.{distinct-permuted, rising}
use Rattle.mo_expand.proofs.AddedMessages.{rising-rest}

abbrev key : Message → List ℕ
key m = key_of m.original

-- the first key is below those of the rest
below-rest : (x : Message) (xs : List Message) → AreRising (keys (x ∷ xs)) → (m : Message) → Contains xs m
    → key_cmp (key x) (key m) ≡ Less
below-rest x xs rises m (k, inside, is) =
    let at : get_or (keys xs) k [] ≡ key m = get_or-map key xs k m [] inside ∙ ap key is in
    let P : List ℕ → Type 0 = λ other. key_cmp (key x) other ≡ Less in
    subst P at (rising_between (keys (x ∷ xs)) rises 0 (suc k) (omega arith)
    (omega (arith, inside, length-map xs key)))

first-or-rest : (y : Message) (ys : List Message) (m : Message) → Contains (y ∷ ys) m → (m ≡ y) ⊎ Contains ys m
first-or-rest y ys m (zero, inside, is) = inl (sym is)
first-or-rest y ys m (suc k, inside, is) = inr (k, omega (arith, inside), is)

in-rest : (y : Message) (ys : List Message) (m : Message) → Contains ys m → Contains (y ∷ ys) m
in-rest y ys m (k, inside, is) = (suc k, omega (arith, inside), is)

abbrev Includes : List Message → List Message → Type 0
Includes xs ys = (m : Message) → Contains xs m → Contains ys m

same-first : (x y : Message) (xs ys : List Message) → AreRising (keys (x ∷ xs)) → AreRising (keys (y ∷ ys))
    → Includes (x ∷ xs) (y ∷ ys) → Includes (y ∷ ys) (x ∷ xs) → x ≡ y
same-first x y xs ys rises rises' to from =
    elim (first-or-rest y ys x (to x (0, omega arith, refl))) [
      | inl is ↦ is
      | inr later ↦ elim (first-or-rest x xs y (from y (0, omega arith, refl))) [
        | inl is ↦ sym is
        | inr later' ↦ absurd (less_is_other (key x) (key x)
            (nat_list_cmp_total.trans (key x) (key y) (key x) (below-rest x xs rises y later')
            (below-rest y ys rises' x later)) refl)
      ]
    ]

-- what the first list has after its first message, the second has after its own
rest-includes : (x y : Message) (xs ys : List Message) → AreRising (keys (x ∷ xs)) → x ≡ y
    → Includes (x ∷ xs) (y ∷ ys) → Includes xs ys
rest-includes x y xs ys rises same to m among =
    elim (first-or-rest y ys m (to m (in-rest x xs m among))) [
      | inl is ↦ absurd (less_is_other (key x) (key m) (below-rest x xs rises m among) (ap key (same ∙ sym is)))
      | inr later ↦ later
    ]

same-messages : (xs ys : List Message) → AreRising (keys xs) → AreRising (keys ys) → Includes xs ys → Includes ys xs
    → xs ≡ ys
same-messages [] [] rises rises' to from = refl
same-messages [] (y ∷ ys) rises rises' to from = absurd
    (let inside = (from y (0, omega arith, refl)).1 in omega (arith, inside))
same-messages (x ∷ xs) [] rises rises' to from = absurd
    (let inside = (to x (0, omega arith, refl)).1 in omega (arith, inside))
same-messages (x ∷ xs) (y ∷ ys) rises rises' to from =
    let first = same-first x y xs ys rises rises' to from in
    ap₂ (λ m ms. m ∷ ms) first
    (same-messages xs ys (rising-rest (key x) (keys xs) rises) (rising-rest (key y) (keys ys) rises')
    (rest-includes x y xs ys rises first to) (rest-includes y x ys xs rises' (sym first) from))

includes : (messages sorted others : List Message) → IsInOrder messages sorted → IsInOrder messages others
    → Includes sorted others
includes messages sorted others is is' m among =
    Contains-permutation messages others m is'.all
    (Contains-permutation sorted messages m (IsPermutation-sym messages sorted is.all) among)

distinct-rising : (messages : List Message) → AreRising (keys messages) → HaveDistinctKeys messages
distinct-rising messages rises i j d before inside =
    less_is_other (get_or (keys messages) i d) (get_or (keys messages) j d)
    (ap₂ key_cmp (get_or_default (keys messages) i d [] (omega (arith, before, inside)))
    (get_or_default (keys messages) j d [] inside)
    ∙ rising_between (keys messages) rises i j before inside)

pub one_order : OneOrder
one_order messages sorted others is = (
  distinct-permuted sorted messages (IsPermutation-sym messages sorted is.all) (distinct-rising sorted is.rising),
  λ is'. same-messages sorted others is.rising is'.rising (includes messages sorted others is is')
      (includes messages others sorted is' is),
)

pub sorted_file_is_mo_file : SortedFileIsMoFile
sorted_file_is_mo_file order messages sorted is fits = layout_is_mo_file order sorted is.rising fits

pub mo_file_is_in_order : MoFileIsInOrder
mo_file_is_in_order order bytes messages is = (
  record { shows = is.shows; faults = λ f has. absurd (is.faultless f has); lists = is.lists },
  record { all = IsPermutation-refl messages; rising = rising order bytes messages is },
)

-- what a search finds is in the list and passes the test
found : (test : Message → Bool) (xs : List Message) (x : Message) → find test xs ≡ Some x
    → Contains xs x × (test x ≡ true)
found test xs x e =
    let place = position_or_len test xs in
    let at = sym (find_at test xs) ∙ e in
    let inside = slice_get_within xs place x at in
    let is = get_or_from_slice_get xs place x x at in
    ((place, inside, is), sym (ap test is) ∙ passes_at_first test xs x inside)

-- where it finds none, none passes
missed : (test : Message → Bool) (xs : List Message) → find test xs ≡ None → All (λ y. test y ≡ false) xs
missed test xs e k d inside = fails_before_first test xs k d (before (cases_lt k (position_or_len test xs))) where
  before : (k < position_or_len test xs) ⊎ (position_or_len test xs ≤ k) → k < position_or_len test xs
  before (inl is) = is
  before (inr past) = absurd
      (none-some (get_or xs (position_or_len test xs) d)
      (sym e ∙ find_at test xs ∙ slice_get-get_or xs (position_or_len test xs) d (omega (arith, past, inside))))

-- messages with rising keys that have one key are one
one-message : (sorted : List Message) → AreRising (keys sorted) → (m n : Message) → Contains sorted m
    → Contains sorted n → key m ≡ key n → m ≡ n
one-message [] rises m n among among' same = absurd (let inside = among.1 in omega (arith, inside))
one-message (x ∷ xs) rises m n among among' same =
    elim (first-or-rest x xs m among) [
      | inl is ↦ elim (first-or-rest x xs n among') [
        | inl is' ↦ is ∙ sym is'
        | inr later' ↦ absurd (less_is_other (key x) (key n) (below-rest x xs rises n later')
            (ap key (sym is) ∙ same))
      ]
      | inr later ↦ elim (first-or-rest x xs n among') [
        | inl is' ↦ absurd
            (less_is_other (key x) (key m) (below-rest x xs rises m later) (ap key (sym is') ∙ sym same))
        | inr later' ↦ one-message xs (rising-rest (key x) (keys xs) rises) m n later later' same
      ]
    ]

module _ (messages sorted : List Message) (wanted : List ℕ) (is : IsInOrder messages sorted) where
  abbrev has_key : Message → Bool
  has_key m = bytes_eq (key_of m.original) wanted

  same-found : (a : Option Message) → find has_key messages ≡ a → (b : Option Message) → find has_key sorted ≡ b
      → b ≡ a
  same-found None ea None eb = refl
  same-found None ea (Some y) eb =
      let of_sorted = found has_key sorted y eb in
      let fails = All-contains (λ m. has_key m ≡ false) sorted y
      (All-permutation (λ m. has_key m ≡ false) messages sorted is.all (missed has_key messages ea)) of_sorted.0 in
      let passes = of_sorted.1 in cc (fails, passes)
  same-found (Some x) ea None eb =
      let of_messages = found has_key messages x ea in
      let fails = All-contains (λ m. has_key m ≡ false) sorted x (missed has_key sorted eb)
      (Contains-permutation messages sorted x is.all of_messages.0) in
      let passes = of_messages.1 in cc (fails, passes)
  same-found (Some x) ea (Some y) eb =
      let of_messages = found has_key messages x ea in
      let of_sorted = found has_key sorted y eb in
      ap Some (one-message sorted is.rising y x of_sorted.0
      (Contains-permutation messages sorted x is.all of_messages.0)
      ((bytes_eq-Decides (key y) wanted).0 of_sorted.1 ∙ sym ((bytes_eq-Decides (key x) wanted).0 of_messages.1)))

pub same_message_under_key : SameMessageUnderKey
same_message_under_key messages sorted wanted is =
    same-found messages sorted wanted is (find (has_key messages sorted wanted is) messages) refl
    (find (has_key messages sorted wanted is) sorted) refl
