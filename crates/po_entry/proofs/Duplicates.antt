-- A list of entries has no duplicate, or one first duplicate, with an earlier entry of its message.
use Rattle.po_entry.proofs.Prelude.{AllDiffer, AllPairs, AllPairs-filter, Bool, DifferUpTo, Err, FaultNamesEarlier, HasNoDuplicate, InputEntry, IsDuplicateFault, IsFirstDuplicate, IsFirstRepeat, IsOkUnless, IsSameMessage, JoinError, List, MatchResult, NamesEarlier, None, Ok, Option, RepeatsAt, Result, Some, TextEntry, [], ap, append_assoc, ap₂, arith, bytes_eq, bytes_eq-Decides, cases_Bool, cond, drop, drop-cons, duplicate_fault, entries_of, false, false≢true, filter, filter-append, filter_map, filter_passes, get_or, get_or-map, get_or-take, in_input, inl, inr, is_live, join_out_of_memory, length, length-take, live_entries, map, none_or_first_repeat, none_repeats, not-true, one_repeat, pairs_map, pairs_of_map, refl, rules, subst, suc, sym, take, take-append-drop, take_all, true, ℕ, ⊎_elim, ◌++◌, ◌<◌, ◌∙◌, ◌∷◌, ◌≡◌, ◌≢◌, ◌≤◌, ◌⊎◌}

-- an element that passes a test, among those that do
passing_at : {X : Type 0} (p : X → Bool) (xs : List X) (i : ℕ) (d : X) → i < length xs → p (get_or xs i d) ≡ true
    → filter p xs ≡ filter p (take i xs) ++ get_or xs i d ∷ filter p (drop (suc i) xs)
passing_at p xs i d inside passes =
    let after = filter p (drop (suc i) xs) in
    ap (filter p) (sym (take-append-drop i xs) ∙ ap (λ l. take i xs ++ l) (drop-cons xs i d inside))
    ∙ filter-append p (take i xs) (get_or xs i d ∷ drop (suc i) xs)
    ∙ ap (λ (b : Bool). filter p (take i xs) ++ cond b (get_or xs i d ∷ after) after) passes

-- things that stand for elements, of which those that pass a test are live
module _ {X T : Type 0} (number_of : X → ℕ) (p : X → Bool) (live : T → Bool) (xs : List X) (things : List T)
    (numbers : List ℕ) (numbers_are : numbers ≡ map number_of xs)
    (lives : (i : ℕ) (d : T) (e : X) → i < length xs → live (get_or things i d) ≡ p (get_or xs i e)) (none : T) where
  numbered : (i : ℕ) (d : X) → i < length xs → get_or numbers i 0 ≡ number_of (get_or xs i d)
  numbered i d inside = ap (λ l. get_or l i 0) numbers_are ∙ get_or-map number_of xs i d 0 inside

  differ_of : (n : ℕ) → n ≤ length xs → DifferUpTo live numbers things n
      → AllPairs (λ a b. number_of a ≢ number_of b) (filter p (take n xs))
  differ_of n most differ i j d below inside =
      AllPairs-filter (λ a b. p a ≡ true → p b ≡ true → number_of a ≢ number_of b) p (take n xs)
      (λ i j d below inside first later same.
      let within : j < n = omega (arith, inside, length-take n xs) in
      let at : (k : ℕ) → k < n → get_or (take n xs) k d ≡ get_or xs k d = λ k less. get_or-take n xs k d less in
      let here : (k : ℕ) → k < n → p (get_or (take n xs) k d) ≡ true → live (get_or things k none) ≡ true =
      λ k less passes. lives k none d (omega (arith, less, most)) ∙ ap p (sym (at k less)) ∙ passes in
      let number : (k : ℕ) → k < n → get_or numbers k 0 ≡ number_of (get_or (take n xs) k d) =
      λ k less. numbered k d (omega (arith, less, most)) ∙ ap number_of (sym (at k less)) in
      differ i j none below within (here i (omega (arith, below, within)) first) (here j within later)
      (number i (omega (arith, below, within)) ∙ same ∙ sym (number j within)))
      i j d below inside (filter_passes p (take n xs) i d (omega (arith, below, inside)))
      (filter_passes p (take n xs) j d inside)

  pub all_differ : (n : ℕ) → n ≡ length xs → DifferUpTo live numbers things n
      → AllPairs (λ a b. number_of a ≢ number_of b) (filter p xs)
  all_differ n whole differ =
      subst (λ l. AllPairs (λ a b. number_of a ≢ number_of b) (filter p l)) (take_all n xs (omega (arith, whole)))
      (differ_of n (omega (arith, whole)) differ)

  pub repeat_of : (i j : ℕ) (a b : X) → j < length xs → a ≡ get_or xs i a → b ≡ get_or xs j b
      → RepeatsAt live numbers things i j → IsFirstRepeat (λ x y. number_of x ≡ number_of y) (filter p xs) a b
  repeat_of i j a b inside at_a at_b found =
      let below = found.earlier in
      let within : i < length xs = omega (arith, below, inside) in
      let at : get_or (take j xs) i a ≡ a = get_or-take j xs i a below ∙ sym at_a in
      let first : p (get_or (take j xs) i a) ≡ true =
      ap p (get_or-take j xs i a below) ∙ sym (lives i none a within) ∙ found.first_live none in
      let later : p (get_or xs j b) ≡ true = sym (lives j none b inside) ∙ found.later_live none in
      let front = passing_at p (take j xs) i a (omega (arith, below, inside, length-take j xs)) first
      ∙ ap (λ x. filter p (take i (take j xs)) ++ x ∷ filter p (drop (suc i) (take j xs))) at in
      let after = filter p (drop (suc j) xs) in
      record {
        before = filter p (take i (take j xs));
        between = filter p (drop (suc i) (take j xs));
        after = after;
        order = passing_at p xs j b inside later ∙ ap₂ (λ l x. l ++ x ∷ after) front (sym at_b);
        same = ap number_of at_a ∙ sym (numbered i a within) ∙ found.same ∙ numbered j b inside
            ∙ sym (ap number_of at_b);
        differ = subst (AllPairs (λ x y. number_of x ≢ number_of y)) front
            (differ_of j (omega (arith, inside)) found.differ);
      }

pub live_of_entries : (xs : List InputEntry) → filter is_live (entries_of xs) ≡ entries_of (live_entries xs)
live_of_entries xs = filter_map is_live (λ (e : InputEntry). e.entry) xs

-- where no two live ones are of one message, none stands twice
pub live_differ : (xs : List InputEntry) → AllPairs (λ a b. ¬ IsSameMessage a.entry b.entry) (live_entries xs)
    → HasNoDuplicate (entries_of xs)
live_differ xs apart = subst AllDiffer (sym (live_of_entries xs))
    (pairs_map (λ a b. ¬ IsSameMessage a b) (λ (e : InputEntry). e.entry) (live_entries xs) apart)

pub entries_of_input : (input : ℕ) (xs : List TextEntry) → entries_of (map (in_input input) xs) ≡ xs
entries_of_input input [] = refl
entries_of_input input (x ∷ xs) = ap (λ l. x ∷ l) (entries_of_input input xs)

-- a list without a duplicate has no first duplicate
pub distinct_has_no_first : (xs : List InputEntry) (first later : InputEntry) → HasNoDuplicate (entries_of xs)
    → IsFirstDuplicate xs first later → ⊥
distinct_has_no_first xs first later none =
    none_repeats (λ a b. IsSameMessage a.entry b.entry) (live_entries xs) first later
    (pairs_of_map (λ a b. ¬ IsSameMessage a b) (λ (e : InputEntry). e.entry) (live_entries xs)
    (subst AllDiffer (live_of_entries xs) none))

-- so what refuses it is an allocation that failed
pub distinct_needs_memory : (xs : List InputEntry) (error : JoinError) → HasNoDuplicate (entries_of xs)
    → IsDuplicateFault xs error → error ≡ join_out_of_memory
distinct_needs_memory xs error none fault =
    ⊎_elim (λ e. e) (λ found. absurd (distinct_has_no_first xs found.0 found.1 none found.2)) fault

pub only_memory : (xs : List InputEntry) (r : Result (Unit {0}) JoinError)
    → MatchResult r (λ _. HasNoDuplicate (entries_of xs)) (IsDuplicateFault xs)
    → HasNoDuplicate (entries_of xs) → IsOkUnless r join_out_of_memory
only_memory xs (Ok done) exact none = tt
only_memory xs (Err error) exact none = distinct_needs_memory xs error none exact

text_is : (a b : List ℕ) → (a ≡ b) ⊎ (a ≡ b → ⊥)
text_is a b = elim (cases_Bool (bytes_eq a b)) [
  | inl same ↦ inl ((bytes_eq-Decides a b).0 same)
  | inr other ↦ inr (λ same. false≢true (sym other ∙ (bytes_eq-Decides a b).1 same))
]

optional_is : (a b : Option (List ℕ)) → (a ≡ b) ⊎ (a ≡ b → ⊥)
optional_is None None = inl refl
optional_is None (Some b) = inr (λ same. cc)
optional_is (Some a) None = inr (λ same. cc)
optional_is (Some a) (Some b) =
    elim (text_is a b) [ inl same ↦ inl (ap (λ (x : List ℕ). Some x) same) | inr other ↦ inr (λ same. other cc) ]

message_is : (a b : TextEntry) → IsSameMessage a b ⊎ (IsSameMessage a b → ⊥)
message_is a b = elim (optional_is a.context b.context) [
  | inl context ↦ elim (text_is a.id b.id) [ inl id ↦ inl (context, id) | inr other ↦ inr (λ same. other same.1) ]
  | inr other ↦ inr (λ same. other same.0)
]

abbrev Alike : InputEntry → InputEntry → Type 0
Alike a b = IsSameMessage a.entry b.entry

pub none_or_first : (entries : List InputEntry)
    → HasNoDuplicate (entries_of entries) ⊎ ((first later : InputEntry) × IsFirstDuplicate entries first later)
none_or_first entries = elim (none_or_first_repeat Alike (λ a b. message_is a.entry b.entry) (live_entries entries)) [
  | inl differ ↦ inl (subst AllDiffer (sym (live_of_entries entries))
      (pairs_map (λ a b. ¬ IsSameMessage a b) (λ (e : InputEntry). e.entry) (live_entries entries) differ))
  | inr found ↦ inr found
]

pub first_once : (entries : List InputEntry) (first later other last : InputEntry)
    → IsFirstDuplicate entries first later → IsFirstDuplicate entries other last
    → (first ≡ other) × (later ≡ last)
first_once entries = one_repeat Alike (λ a b c first later. (first.0 ∙ sym later.0, first.1 ∙ sym later.1))
    (live_entries entries)

-- The two entries of a duplicate, where they stand in the list.

-- where an element that passes a test stands, and what passes it before and after
record StandsAt {X : Type 0} (p : X → Bool) (xs before : List X) (x : X) (after : List X) : Type 0 where
  left : List X
  right : List X
  order : xs ≡ left ++ x ∷ right
  left_passes : filter p left ≡ before
  right_passes : filter p right ≡ after
  passes : p x ≡ true

module _ {X : Type 0} (p : X → Bool) where
  stands_at : (xs before : List X) (x : X) (after : List X) → filter p xs ≡ before ++ x ∷ after
      → StandsAt p xs before x after
  stands_at [] [] x after e = absurd (cc)
  stands_at [] (b ∷ before) x after e = absurd (cc)
  stands_at (y ∷ xs) before x after e = by (p y) refl e (λ before e. stands_at xs before x after e) where
    by : (b : Bool) → p y ≡ b → cond b (y ∷ filter p xs) (filter p xs) ≡ before ++ x ∷ after
        → ((before : List X) → filter p xs ≡ before ++ x ∷ after → StandsAt p xs before x after)
        → StandsAt p (y ∷ xs) before x after
    by false skips e more =
        let later = more before e in
        record {
          left = y ∷ later.left;
          right = later.right;
          order = ap (λ l. y ∷ l) later.order;
          left_passes = ap (λ (b : Bool). cond b (y ∷ filter p later.left) (filter p later.left)) skips
              ∙ later.left_passes;
          right_passes = later.right_passes;
          passes = later.passes;
        }
    by true passes e more = first before e where
      first : (before : List X) → y ∷ filter p xs ≡ before ++ x ∷ after → StandsAt p (y ∷ xs) before x after
      first [] e =
          let same : y ≡ x = cc in
          record {
            left = [];
            right = xs;
            order = ap (λ z. z ∷ xs) same;
            left_passes = refl;
            right_passes = cc;
            passes =
                sym (ap p same) ∙ passes;
          }
      first (b ∷ before) e =
          let same : y ≡ b = cc in
          let later = more before (cc) in
          record {
            left = y ∷ later.left;
            right = later.right;
            order = ap (λ l. y ∷ l) later.order;
            left_passes = ap (λ (t : Bool). cond t (y ∷ filter p later.left) (filter p later.left)) passes
                ∙ ap (λ z. z ∷ filter p later.left) same ∙ ap (λ l. b ∷ l) later.left_passes;
            right_passes = later.right_passes;
            passes = later.passes;
          }

earlier : (entries : List InputEntry) (first later : InputEntry) → IsFirstDuplicate entries first later
    → NamesEarlier entries (duplicate_fault first later)
earlier entries first later h =
    let one = stands_at (λ e. is_live e.entry) entries h.before first (h.between ++ later ∷ h.after)
    (h.order ∙ append_assoc h.before (first ∷ h.between) (later ∷ h.after)) in
    let two = stands_at (λ e. is_live e.entry) one.right h.between later h.after one.right_passes in
    record {
      before = one.left;
      between = two.left;
      after = two.right;
      named = first;
      reported = later;
      order = one.order ∙ ap (λ l. one.left ++ first ∷ l) two.order;
      named_line = refl;
      named_input = refl;
      reported_line = refl;
      reported_input = refl;
      one_message = h.same;
      named_live = not-true first.entry.obsolete one.passes;
      reported_live = not-true later.entry.obsolete two.passes;
    }

pub fault_names_earlier : (entries : List InputEntry) (error : JoinError) → FaultNamesEarlier entries error
fault_names_earlier entries error (inl memory) some = absurd (some memory)
fault_names_earlier entries error (inr found) some = search (rules, earlier)
