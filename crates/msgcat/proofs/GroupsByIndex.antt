-- The groups of entries, by the indexes of the entries and the numbers of their messages.
use Rattle.msgcat.proofs.Prelude.{All, All-cons, All-filter, All-head, All-map, All-nil, All-tail, Bool, CanBeMerged, GroupsByNumber, IsEquivalence, IsGroup, List, Message, Named, NamedEntry, [], all_entries, ap, append_assoc, ap₂, arith, by_number, cond, cond_ap, cond_both, count_messages, definitions, entries_at, entry_message, entry_messages, eq-eqb, eqb_tells, false, filter, filter_agree, first_ones, get_or, get_or-map, get_or-range_with_len, get_or_at, groups, if◌then◌else◌, indexes_by, inl, inr, is_live, length, length-append, length-map, length-range_with_len, map, map-map, message_numbers, messages, named_messages, ne_eqb, no_entry, not, position_or_len, range_with_len, refl, same_message, subst, suc, sym, true, unnamed, with_number, zero, ℕ, ◌++◌, ◌+◌, ◌<◌, ◌==◌, ◌∙◌, ◌∷◌, ◌≡◌}
use Rattle.po_entry.specs.Prelude.{first_ones as firsts_of, same_message as one_message}
use Rattle.msgcat.proofs.SeenTexts.{Apart, apart_first_ones, first_ones-map, group_of, none_all, place-map, same_message_laws}
use Rattle.msgcat.proofs.MergedGroups.{groups_valid}
use Rattle.msgcat.proofs.InputEntries.{all_at}

same_next : (p j : ℕ) → (1 + p == suc j) ≡ (p == j)
same_next p j = elim (eqb_tells p j) [
  | inl h ↦ let same : 1 + p ≡ suc j = omega (arith, h.1) in eq-eqb (1 + p) (suc j) same ∙ sym h.0
  | inr h ↦ ne_eqb (1 + p) (suc j) (λ same. h.1 (omega (arith, same))) ∙ sym h.0
]

module _ {X : Type 0} (alike : X → X → Bool) (laws : IsEquivalence alike) where
  -- where no two are alike, one stands at a place exactly if it is like the one there
  place_tells : (x : X) (fs : List X) (k : ℕ) (d : X) → Apart alike fs → k < length fs
      → (position_or_len (alike x) fs == k) ≡ alike x (get_or fs k d)
  place_tells x [] k d apart inside = absurd (omega (arith, inside))
  place_tells x (f ∷ fs) zero d apart inside = found (alike x f) where
    found : (b : Bool) → (cond (not b) (1 + position_or_len (alike x) fs) 0 == 0) ≡ b
    found true = refl
    found false = ne_eqb (1 + position_or_len (alike x) fs) 0 (λ e. omega (arith, e))
  place_tells x (f ∷ fs) (suc k) d apart inside = found (alike x f) refl (place_tells x fs k d apart.1 below) where
    below : k < length fs
    below = omega (arith, inside)

    found : (b : Bool) → alike x f ≡ b → (position_or_len (alike x) fs == k) ≡ alike x (get_or fs k d)
        → (cond (not b) (1 + position_or_len (alike x) fs) 0 == suc k) ≡ alike x (get_or fs k d)
    found true e more = ne_eqb 0 (suc k) (λ z. omega (arith, z))
        ∙ sym (laws.congr x f (get_or fs k d) e ∙ none_all (alike f) fs apart.0 k d below)
    found false e more = same_next (position_or_len (alike x) fs) k ∙ more

-- of things that are numbered by a function, those with this number
pub with_number-map : {X : Type 0} (number_of : X → ℕ) (n : ℕ) (xs : List X)
    → with_number n (map number_of xs) xs ≡ filter (λ x. number_of x == n) xs
with_number-map number_of n [] = refl
with_number-map number_of n (x ∷ xs) = ap (λ l. cond (number_of x == n) (x ∷ l) l) (with_number-map number_of n xs)

-- what things are mapped to is grouped as they are
with_number-mapped : {X Y : Type 0} (f : X → Y) (n : ℕ) (ns : List ℕ) (xs : List X)
    → map f (with_number n ns xs) ≡ with_number n ns (map f xs)
with_number-mapped f n [] xs = refl
with_number-mapped f n (k ∷ ns) [] = refl
with_number-mapped f n (k ∷ ns) (x ∷ xs) =
    sym (cond_ap (map f) (k == n) (x ∷ with_number n ns xs) (with_number n ns xs))
    ∙ ap (λ l. cond (k == n) (f x ∷ l) l) (with_number-mapped f n ns xs)

pub by_number-mapped : {X Y : Type 0} (f : X → Y) (count : ℕ) (ns : List ℕ) (xs : List X)
    → map (map f) (by_number count ns xs) ≡ by_number count ns (map f xs)
by_number-mapped f count ns xs = map-map (map f) (λ n. with_number n ns xs) (range_with_len 0 count)
    ∙ (λ i. map (λ n. with_number-mapped f n ns xs i) (range_with_len 0 count))

module _ (es : List NamedEntry) where
  abbrev F : List NamedEntry
  F = first_ones same_message es

  abbrev number_of : NamedEntry → ℕ
  number_of e = position_or_len (same_message e) F

  group_is : (before : List NamedEntry) (f : NamedEntry) (after : List NamedEntry) → F ≡ before ++ f ∷ after
      → filter (λ e. number_of e == length before) es ≡ group_of same_message es f
  group_is before f after split =
      let inside : length before < length F = omega (arith, ap length split, length-append before (f ∷ after)) in
      let at : get_or F (length before) f ≡ f =
      ap (λ (l : List NamedEntry). get_or l (length before) f) split
      ∙ get_or_at before f after f (length before) refl in
      filter_agree (λ e. number_of e == length before) (λ e. same_message e f)
      (λ e. place_tells same_message same_message_laws e F (length before) f
      (apart_first_ones same_message same_message_laws es) inside ∙ ap (same_message e) at) es

  groups_from : (ns : List ℕ) → ns ≡ map number_of es → (before after : List NamedEntry) (m : ℕ) → F ≡ before ++ after
      → length after ≡ m
      → map (λ n. with_number n ns es) (range_with_len (length before) m) ≡ map (group_of same_message es) after
  groups_from ns are before [] zero split long = refl
  groups_from ns are before [] (suc m) split long = absurd (omega (arith, long))
  groups_from ns are before (f ∷ after) zero split long = absurd (omega (arith, long))
  groups_from ns are before (f ∷ after) (suc m) split long =
      let next : length (before ++ f ∷ []) ≡ length before + 1 = omega (arith, length-append before (f ∷ [])) in
      let less : length after ≡ m = omega (arith, long) in
      ap₂ (λ (g : List NamedEntry) (gs : List (List NamedEntry)). g ∷ gs)
      (ap (λ l. with_number (length before) l es) are ∙ with_number-map number_of (length before) es
      ∙ group_is before f after split)
      (ap (λ (n : ℕ). map (λ k. with_number k ns es) (range_with_len n m)) (sym next)
      ∙ groups_from ns are (before ++ f ∷ []) after m (split ∙ sym (append_assoc before (f ∷ []) after)) less)

  abbrev message : NamedEntry → Message
  message e = entry_message e.entry

  numbers_are : message_numbers es ≡ map number_of es
  numbers_are =
      let firsts : firsts_of one_message (named_messages es) ≡ map message F = first_ones-map message one_message es in
      map-map (λ m. position_or_len (one_message m) (firsts_of one_message (named_messages es))) message es
      ∙ ap (λ (fs : List Message). map (λ e. position_or_len (one_message (message e)) fs) es) firsts
      ∙ (λ i. map (λ e. place-map message one_message (message e) F i) es)

  pub groups_by_number : GroupsByNumber es
  groups_by_number =
      let count : length (firsts_of one_message (named_messages es)) ≡ length F =
      ap length (first_ones-map message one_message es) ∙ length-map F message in
      ap (λ n. by_number n (message_numbers es) es) count
      ∙ groups_from (message_numbers es) numbers_are [] F (length F) refl refl

-- The groups of the entries of inputs, by the indexes of their entries.

-- the messages of the entries of inputs
pub messages_of : (entries : List NamedEntry) → entry_messages (unnamed entries) ≡ named_messages entries
messages_of entries = map-map entry_message (λ (e : NamedEntry). e.entry) entries

numbered_all : {X : Type 0} (P : X → Type 0) (n : ℕ) (ns : List ℕ) (xs : List X) → All P xs
    → All P (with_number n ns xs)
numbered_all P n [] xs h = All-nil P
numbered_all P n (k ∷ ns) [] h = All-nil P
numbered_all P n (k ∷ ns) (x ∷ xs) h = found (k == n) (numbered_all P n ns xs (All-tail P x xs h)) where
  found : (b : Bool) → All P (with_number n ns xs)
      → All P (if b then x ∷ with_number n ns xs else with_number n ns xs)
  found true rest = All-cons P x (with_number n ns xs) (All-head P x xs h) rest
  found false rest = rest

indexes_below : (count n k d : ℕ) → count ≡ n → k < length (range_with_len 0 count)
    → get_or (range_with_len 0 count) k d < n
indexes_below count n k d same inside =
    let within : k < count = omega (arith, inside, length-range_with_len 0 count) in
    omega (arith, get_or-range_with_len 0 count k d within, within, same)

module _ (all : List NamedEntry) where
  abbrev numbers : List ℕ
  numbers = message_numbers all

  abbrev pub groups_at : List (List ℕ)
  groups_at = indexes_by (count_messages all) numbers

  as_many : length numbers ≡ length all
  as_many =
      length-map (named_messages all) (λ m. position_or_len (one_message m)
      (firsts_of one_message (named_messages all)))
      ∙ length-map all (λ (e : NamedEntry). entry_message e.entry)

  groups_are : map (entries_at all) groups_at ≡ groups all
  groups_are =
      by_number-mapped (λ k. get_or all k no_entry) (count_messages all) numbers (range_with_len 0 (length numbers))
      ∙ ap (by_number (count_messages all) numbers) (all_at all (length numbers) (sym as_many))
      ∙ groups_by_number all

  all_inside : All (All (λ k. k < length all)) groups_at
  all_inside =
      let list = range_with_len 0 (length numbers) in
      All-map (All (λ n. n < length all)) (λ n. with_number n numbers list) (range_with_len 0 (count_messages all))
      (λ j e less. numbered_all (λ n. n < length all) (get_or (range_with_len 0 (count_messages all)) j e) numbers list
      (λ k d inside. indexes_below (length numbers) (length all) k d as_many inside))

  pub groups_counted : length (groups all) ≡ length groups_at
  groups_counted = sym (ap length groups_are) ∙ length-map groups_at (entries_at all)

  -- the indexes of the entries of a group
  module _ (i : ℕ) (inside : i < length (groups all)) where
    below : i < length groups_at
    below = omega (arith, inside, groups_counted)

    pub entries_here : entries_at all (get_or groups_at i []) ≡ get_or (groups all) i []
    entries_here = sym (get_or-map (entries_at all) groups_at i [] [] below) ∙ ap (λ l. get_or l i []) groups_are

    pub indexes_here : All (λ k. k < length all) (get_or groups_at i [])
    indexes_here = all_inside i [] below

-- what holds of all entries holds of those of a group
group_all : (P : NamedEntry → Type 0) (all : List NamedEntry) (i : ℕ) → All P all → i < length (groups all)
    → All P (get_or (groups all) i [])
group_all P all i h inside =
    All-map (All P) (group_of same_message all) (first_ones same_message all)
    (λ k f below. All-filter (λ e. same_message e (get_or (first_ones same_message all) k f)) P all h) i [] inside

-- what defines a message, by its number
module _ (read : List Named) (i : ℕ) (group : List NamedEntry) (inside : i < length (messages read))
    (is : group ≡ get_or (groups (all_entries read)) i []) where
  within : i < length (groups (all_entries read))
  within = omega (arith, inside, length-map (groups (all_entries read)) definitions)

  pub message_at : definitions group ≡ get_or (messages read) i []
  message_at = ap definitions is ∙ sym (get_or-map definitions (groups (all_entries read)) i [] [] within)

  pub group_valid : All CanBeMerged (all_entries read) → IsGroup group
  group_valid can =
      subst IsGroup (sym is) (groups_valid (all_entries read) (λ k d less. (can k d less).valid) i [] within)

  pub message_can : All CanBeMerged (all_entries read) → All CanBeMerged (definitions group)
  message_can can =
      let here = subst (All CanBeMerged) (sym is) (group_all CanBeMerged (all_entries read) i can within) in
      cond_both _ _ group (All CanBeMerged) (λ _. All-filter (λ d. is_live d.entry) CanBeMerged group here) (λ _. here)
