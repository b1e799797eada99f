-- The rows of the joined list, input by input, and filters of them.
use Rattle.po_compile.proofs.Prelude.{All, All-append, All-head, All-nil, All-tail, Bool, InputEntry, InputMessage, IsCatalogueEntry, IsPermutation, IsPermutation-append_comm, IsPermutation-append_left, IsPermutation-append_right, IsPermutation-keeps, IsPermutation-refl, IsPermutation-trans, List, LiveMessage, None, Option, Some, TextEntry, [], all_messages, all_pass, ap, append_assoc, ap₂, arith, cond, entries_of, entries_of_input, false, filter, filter-append, filter_agree, filter_map, filter_twice, first_of, get_or, has_no_key, in_input, in_input_message, input_message, is_header, is_joined, is_live, is_live_header, is_none, joined, joined_entries, joined_from, joined_messages, kept_entries, length, list_any, live_entries, live_message, live_messages, map, map-append, map-map, ne_eqb, not, query_key, refl, set, subst, suc, swap, sym, true, zero, ℕ, ◌&&◌, ◌++◌, ◌+◌, ◌<◌, ◌==◌, ◌||◌, ◌∙◌, ◌∷◌, ◌≡◌}
use Rattle.std.proofs.lemmas.List.Edits.{swap_is}
use Rattle.po_entry.proofs.JoinedLists.{kept_valid}

within : (a b : Bool) → (a ≡ false → b ≡ false) → a && b ≡ b
within true b only = refl
within false b only = sym (only refl)

module _ {X : Type 0} where
  -- what passes the second test passes the first
  pub filter_within : (p q : X → Bool) → ((x : X) → p x ≡ false → q x ≡ false) → (xs : List X)
      → filter q (filter p xs) ≡ filter q xs
  filter_within p q only xs =
      filter_twice p q xs ∙ filter_agree (λ x. p x && q x) q (λ x. within (p x) (q x) (only x)) xs

module _ {X : Type 0} (p : X → Bool) where
  -- the element, if it passes
  abbrev passed : X → List X
  passed x = cond (p x) (x ∷ []) []

  filter_cons : (x : X) (xs : List X) → filter p (x ∷ xs) ≡ passed x ++ filter p xs
  filter_cons x xs = by_test (p x) where
    by_test : (b : Bool) → cond b (x ∷ filter p xs) (filter p xs) ≡ cond b (x ∷ []) [] ++ filter p xs
    by_test true = refl
    by_test false = refl

  -- the first part of two goes after the second
  exchanged : (a b c : List X) → IsPermutation (a ++ (b ++ c)) (b ++ (a ++ c))
  exchanged a b c =
      subst (λ (l : List X). IsPermutation l (b ++ (a ++ c))) (append_assoc a b c)
      (subst (λ (l : List X). IsPermutation ((a ++ b) ++ c) l) (append_assoc b a c)
      (IsPermutation-append_left c (a ++ b) (b ++ a) (IsPermutation-append_comm a b)))

  -- another element in the place of one
  put : (xs : List X) (i : ℕ) (x d : X) → i < length xs
      → IsPermutation (passed x ++ filter p xs) (passed (get_or xs i d) ++ filter p (set xs i x))
  put [] i x d inside = absurd (omega arith)
  put (y ∷ xs) zero x d inside =
      rw (filter_cons y xs, filter_cons x xs) (exchanged (passed x) (passed y) (filter p xs))
  put (y ∷ xs) (suc i) x d inside =
      let other = get_or xs i d in
      let later = put xs i x d (omega arith) in
      let first : IsPermutation (passed x ++ (passed y ++ filter p xs)) (passed y ++ (passed x ++ filter p xs)) =
      exchanged (passed x) (passed y) (filter p xs) in
      let middle : IsPermutation (passed y ++ (passed x ++ filter p xs))
      (passed y ++ (passed other ++ filter p (set xs i x))) = IsPermutation-append_right (passed y) _ _ later in
      let last : IsPermutation (passed y ++ (passed other ++ filter p (set xs i x)))
      (passed other ++ (passed y ++ filter p (set xs i x))) =
      exchanged (passed y) (passed other) (filter p (set xs i x)) in
      rw (filter_cons y xs, filter_cons y (set xs i x))
      (IsPermutation-trans _ _ _ first (IsPermutation-trans _ _ _ middle last))

  swapped : (xs : List X) (i j : ℕ) (d : X) → i < length xs → j < length xs
      → IsPermutation (filter p xs) (filter p (set (set xs i (get_or xs j d)) j (get_or xs i d)))
  swapped [] i j d inside within = absurd (omega arith)
  swapped (x ∷ xs) zero zero d inside within = IsPermutation-refl _
  swapped (x ∷ xs) zero (suc j) d inside within =
      rw (filter_cons x xs, filter_cons (get_or xs j d) (set xs j x)) (put xs j x d (omega arith))
  swapped (x ∷ xs) (suc i) zero d inside within =
      rw (filter_cons x xs, filter_cons (get_or xs i d) (set xs i x)) (put xs i x d (omega arith))
  swapped (x ∷ xs) (suc i) (suc j) d inside within =
      rw (filter_cons x xs, filter_cons x (set (set xs i (get_or xs j d)) j (get_or xs i d)))
      (IsPermutation-append_right (passed x) _ _ (swapped xs i j d (omega arith) (omega arith)))

  pub IsPermutation-filter : (xs ys : List X) → IsPermutation xs ys → IsPermutation (filter p xs) (filter p ys)
  IsPermutation-filter xs ys permuted =
      IsPermutation-keeps xs (λ l. IsPermutation (filter p xs) (filter p l)) (IsPermutation-refl (filter p xs))
      (λ l i j inside within so_far.
      let d = first_of l (omega (arith, inside)) in
      let moved : IsPermutation (filter p l) (filter p (swap l i j)) =
      subst (λ (m : List X). IsPermutation (filter p l) (filter p m)) (swap_is l i j d inside within)
      (swapped l i j d inside within) in
      IsPermutation-trans _ _ _ so_far moved) ys permuted

-- The rows of the joined list, input by input.

-- one more row, or none, before those that are left
pub rows_more : (input : ℕ) (headed : Bool) (old new : List InputMessage) (row : InputMessage) (m : LiveMessage)
    (rest : List LiveMessage) → row ≡ in_input_message input m
    → new ≡ old ++ filter (λ m. is_joined headed m.message) (row ∷ [])
    → new ++ map (in_input_message input) (filter (is_joined headed) rest) ≡ old
    ++ map (in_input_message input) (filter (is_joined headed) (m ∷ rest))
rows_more input headed old new row m rest is made =
    let later = map (in_input_message input) (filter (is_joined headed) rest) in
    ap (λ l. l ++ later) (made ∙ ap (λ (r : InputMessage). old ++ filter (λ m. is_joined headed m.message) (r ∷ [])) is)
    ∙ append_assoc old (filter (λ m. is_joined headed m.message) (in_input_message input m ∷ [])) later
    ∙ ap (λ l. old ++ l) (one (is_joined headed m)) where
      one : (t : Bool) → cond t (in_input_message input m ∷ []) []
          ++ map (in_input_message input) (filter (is_joined headed) rest)
          ≡ map (in_input_message input)
          (cond t (m ∷ filter (is_joined headed) rest) (filter (is_joined headed) rest))
      one true = refl
      one false = refl

-- only a header has an empty key
no_key : (context id : List ℕ) → (length (context ++ 4 ∷ id) == 0) ≡ false
no_key context id = ne_eqb (length (context ++ 4 ∷ id)) 0 (λ e. none context e) where
  none : (c : List ℕ) → length (c ++ 4 ∷ id) ≡ 0 → ⊥
  none [] e = omega (arith, e)
  none (b ∷ c) e = omega (arith, e)

header_key : (context : Option (List ℕ)) (id : List ℕ)
    → (length (query_key context id) == 0) ≡ (is_none context && length id == 0)
header_key None id = refl
header_key (Some context) id = no_key context id

pub header_seen : (use_fuzzy : Bool) (entry : TextEntry) → has_no_key (live_message use_fuzzy entry) ≡ is_header entry
header_seen use_fuzzy entry = header_key entry.context entry.id

tests_exchanged : (live header : Bool) → (live && not header) ≡ (not (header && live) && live)
tests_exchanged true true = refl
tests_exchanged true false = refl
tests_exchanged false true = refl
tests_exchanged false false = refl

module _ (use_fuzzy : Bool) where
  -- whether an input has a live header
  any_header : (entries : List TextEntry)
      → list_any has_no_key (live_messages use_fuzzy entries) ≡ list_any is_live_header entries
  any_header [] = refl
  any_header (entry ∷ entries) =
      one (is_live entry) (is_header entry) (header_seen use_fuzzy entry) (any_header entries) where
        one : (live header : Bool) → has_no_key (live_message use_fuzzy entry) ≡ header
            → list_any has_no_key (live_messages use_fuzzy entries) ≡ list_any is_live_header entries
            → list_any has_no_key (map (live_message use_fuzzy)
            (cond live (entry ∷ filter is_live entries) (filter is_live entries)))
            ≡ ((header && live) || list_any is_live_header entries)
        one true true is more = ap₂ (λ a b. a || b) is more
        one true false is more = ap₂ (λ a b. a || b) is more
        one false true is more = more
        one false false is more = more

  -- the live entries of an input that the joined list has
  kept_live : (headed : Bool) (entries : List TextEntry)
      → filter (λ e. is_joined headed (live_message use_fuzzy e)) (filter is_live entries)
      ≡ filter is_live (kept_entries headed entries)
  kept_live false entries =
      all_pass (λ e. is_joined false (live_message use_fuzzy e)) (filter is_live entries) (λ k d below. refl)
  kept_live true entries =
      let joins : TextEntry → Bool = λ e. is_joined true (live_message use_fuzzy e) in
      let stays : TextEntry → Bool = λ e. not (is_live_header e) in
      filter_twice is_live joins entries
      ∙ filter_agree (λ e. is_live e && joins e) (λ e. stays e && is_live e)
      (λ e. ap (λ h. is_live e && not h) (header_seen use_fuzzy e) ∙ tests_exchanged (is_live e) (is_header e)) entries
      ∙ sym (filter_twice stays is_live entries)

  -- the live entries of one input
  pub of_input : (input : ℕ) (entries : List TextEntry)
      → map (in_input_message input) (live_messages use_fuzzy entries)
      ≡ map (input_message use_fuzzy) (live_entries (map (in_input input) entries))
  of_input input entries =
      map-map (in_input_message input) (live_message use_fuzzy) (filter is_live entries)
      ∙ sym (map-map (input_message use_fuzzy) (in_input input) (filter is_live entries))
      ∙ sym (ap (map (input_message use_fuzzy)) (filter_map (λ e. is_live e.entry) (in_input input) entries))

  kept_of_input : (input : ℕ) (headed : Bool) (entries : List TextEntry)
      → map (in_input_message input) (filter (is_joined headed) (live_messages use_fuzzy entries))
      ≡ map (input_message use_fuzzy) (live_entries (map (in_input input) (kept_entries headed entries)))
  kept_of_input input headed entries =
      ap (map (in_input_message input))
      (filter_map (is_joined headed) (live_message use_fuzzy) (filter is_live entries)
      ∙ ap (map (live_message use_fuzzy)) (kept_live headed entries))
      ∙ of_input input (kept_entries headed entries)

  joined_are : (input : ℕ) (headed : Bool) (catalogues : List (List TextEntry))
      → joined_messages input headed (map (live_messages use_fuzzy) catalogues)
      ≡ map (input_message use_fuzzy) (live_entries (joined_from input headed catalogues))
  joined_are input headed [] = refl
  joined_are input headed (entries ∷ catalogues) =
      let kept = map (in_input input) (kept_entries headed entries) in
      let rest = joined_from (input + 1) (headed || list_any is_live_header entries) catalogues in
      ap₂ (λ a b. a ++ b) (kept_of_input input headed entries)
      (ap (λ h. joined_messages (input + 1) (headed || h) (map (live_messages use_fuzzy) catalogues))
      (any_header entries) ∙ joined_are (input + 1) (headed || list_any is_live_header entries) catalogues)
      ∙ sym (ap (map (input_message use_fuzzy)) (filter-append (λ e. is_live e.entry) kept rest)
      ∙ map-append (input_message use_fuzzy) (live_entries kept) (live_entries rest))

  -- the messages of the joined list are those of its live entries
  pub all_are : (catalogues : List (List TextEntry))
      → all_messages (map (live_messages use_fuzzy) catalogues)
      ≡ map (input_message use_fuzzy) (live_entries (joined catalogues))
  all_are catalogues = joined_are 0 false catalogues

valid_from : (input : ℕ) (headed : Bool) (catalogues : List (List TextEntry)) → All (All IsCatalogueEntry) catalogues
    → All IsCatalogueEntry (entries_of (joined_from input headed catalogues))
valid_from input headed [] valid = All-nil IsCatalogueEntry
valid_from input headed (entries ∷ catalogues) valid =
    let kept = kept_entries headed entries in
    let then = headed || list_any is_live_header entries in
    let rest = joined_from (input + 1) then catalogues in
    let split : entries_of (map (in_input input) kept ++ rest) ≡ kept ++ entries_of rest =
    map-append (λ (e : InputEntry). e.entry) (map (in_input input) kept) rest
    ∙ ap (λ l. l ++ entries_of rest) (entries_of_input input kept) in
    subst (All IsCatalogueEntry) (sym split)
    (All-append IsCatalogueEntry kept (entries_of rest)
    (kept_valid headed entries (All-head (All IsCatalogueEntry) entries catalogues valid))
    (valid_from (input + 1) then catalogues (All-tail (All IsCatalogueEntry) entries catalogues valid)))

-- the joined list of entries that can stand in a catalogue
pub joined_valid : (catalogues : List (List TextEntry)) → All (All IsCatalogueEntry) catalogues
    → All IsCatalogueEntry (joined_entries catalogues)
joined_valid catalogues valid = valid_from 0 false catalogues valid
