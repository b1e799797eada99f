-- The numbers of messages, and the first entry of each.
use Rattle.po_entry.proofs.Prelude.{All-filter, All-head, All-map, All-tail, AllPairs, AreNumbered, Bool, DifferUpTo, Duplicate, EntryPlace, InputEntry, IsEquivalence, IsFirstDuplicate, IsFirstRepeat, IsNumbered, IsSameMessage, List, Message, None, Option, Repeats, RepeatsAt, RepeatsOnLines, Some, TextEntry, [], all_of_both, and_parts, ap, append-nil, append_assoc, ap₂, are_placed, arith, bytes_eq, bytes_eq-Decides, common_steps, cond, drop, drop-cons, entry_message, entry_messages, false, filter, filter_map, first_ones, fold, fold_push, get_or, get_or-map, get_or_at, group_numbers, if◌then◌else◌, in_input, is_live, is_looked_at, length, length-map, length-take, list_any, list_any-append, list_any_at, live_entries, map, map-append, not, number_in, or-false, or-true, or_assoc, passes_at_first, place_of, position_or_len, position_or_len_push, refl, repeat_by, repeat_map, rules, same_message, subst, suc, sym, take, take-append-drop, true, with_new, ℕ, ◌++◌, ◌+◌, ◌<◌, ◌||◌, ◌↔◌, ◌∙◌, ◌∷◌, ◌≡◌, ◌≢◌}
use Rattle.std.proofs.Common.{All}
use Rattle.std.specs.Option.{option_eq}
use Rattle.std.proofs.lemmas.Simd.{map-map}
use Rattle.po_syntax.specs.declared.fault.PoError.{PoError}
use Rattle.po_entry.proofs.Duplicates.{all_differ, repeat_of}

module _ {X : Type 0} (p : X → Bool) where
  pub found_within : (xs : List X) → list_any p xs ≡ true → position_or_len p xs < length xs
  found_within [] h = cc
  found_within (x ∷ xs) h = by (p x) (found_within xs) h where
    by : (b : Bool) → (list_any p xs ≡ true → position_or_len p xs < length xs) → (b || list_any p xs) ≡ true
        → cond (not b) (1 + position_or_len p xs) 0 < length (x ∷ xs)
    by true rest e = omega arith
    by false rest e = let less = rest e in omega (arith, less)

  pub unfound : (xs : List X) → list_any p xs ≡ false → position_or_len p xs ≡ length xs
  unfound [] h = refl
  unfound (x ∷ xs) h = by (p x) (unfound xs) h where
    by : (b : Bool) → (list_any p xs ≡ false → position_or_len p xs ≡ length xs) → (b || list_any p xs) ≡ false
        → cond (not b) (1 + position_or_len p xs) 0 ≡ length (x ∷ xs)
    by true rest e = cc
    by false rest e = let same = rest e in omega (arith, same)

  found_stays : (xs : List X) (x : X) → position_or_len p xs < length xs
      → position_or_len p (xs ++ x ∷ []) ≡ position_or_len p xs
  found_stays xs x less = let more = position_or_len_push p xs x in grind (arith, more)

  first_at_end : (xs : List X) (x : X) → position_or_len p xs ≡ length xs → p x ≡ true
      → position_or_len p (xs ++ x ∷ []) ≡ length xs
  first_at_end xs x none passes = let more = position_or_len_push p xs x in grind (arith, more)

module _ {X : Type 0} (alike : X → X → Bool) (laws : IsEquivalence alike) where
  pub any_alike : (a b : X) → alike a b ≡ true → (xs : List X) → list_any (alike a) xs ≡ list_any (alike b) xs
  any_alike a b e [] = refl
  any_alike a b e (x ∷ xs) = ap₂ (λ (s t : Bool). s || t) (laws.congr a b x e) (any_alike a b e xs)

  any_with_new : (e : X) (xs : List X) (x : X)
      → list_any (alike e) (with_new alike xs x) ≡ (list_any (alike e) xs || alike e x)
  any_with_new e xs x = found (list_any (alike x) xs) refl (alike e x) refl where
    found : (b : Bool) → list_any (alike x) xs ≡ b → (c : Bool) → alike e x ≡ c
        → list_any (alike e) (if b then xs else xs ++ x ∷ []) ≡ (list_any (alike e) xs || c)
    found true h true g = any_alike e x g xs ∙ h ∙ sym (or-true (list_any (alike e) xs))
    found true h false g = sym (or-false (list_any (alike e) xs))
    found false h c g = list_any-append (alike e) xs (x ∷ [])
        ∙ ap (λ (t : Bool). list_any (alike e) xs || t) (or-false (alike e x) ∙ g)

  any_fold : (e : X) (xs ys : List X)
      → list_any (alike e) (fold (with_new alike) xs ys) ≡ (list_any (alike e) xs || list_any (alike e) ys)
  any_fold e xs [] = sym (or-false (list_any (alike e) xs))
  any_fold e xs (y ∷ ys) = any_fold e (with_new alike xs y) ys
      ∙ ap (λ (t : Bool). t || list_any (alike e) ys) (any_with_new e xs y)
      ∙ or_assoc (list_any (alike e) xs) (alike e y) (list_any (alike e) ys)

  -- an element is like a first one exactly where it is like one of the list
  pub any_first_ones : (e : X) (xs : List X) → list_any (alike e) (first_ones alike xs) ≡ list_any (alike e) xs
  any_first_ones e xs = any_fold e [] xs

  -- the first ones, with one more element
  pub firsts_push : (xs : List X) (x : X) → first_ones alike (xs ++ x ∷ []) ≡ with_new alike (first_ones alike xs) x
  firsts_push xs x = fold_push (with_new alike) [] xs x

  module _ (firsts : List X) (x : X) where
    number_stays : (y : X) → list_any (alike y) firsts ≡ true
        → position_or_len (alike y) (with_new alike firsts x) ≡ position_or_len (alike y) firsts
    number_stays y there = by (list_any (alike x) firsts) where
      by : (b : Bool) → position_or_len (alike y) (if b then firsts else firsts ++ x ∷ [])
          ≡ position_or_len (alike y) firsts
      by true = refl
      by false = found_stays (alike y) firsts x (found_within (alike y) firsts there)

    number_of_new : position_or_len (alike x) (with_new alike firsts x) ≡ position_or_len (alike x) firsts
    number_of_new = by (list_any (alike x) firsts) refl where
      by : (b : Bool) → list_any (alike x) firsts ≡ b
          → position_or_len (alike x) (if b then firsts else firsts ++ x ∷ []) ≡ position_or_len (alike x) firsts
      by true e = refl
      by false e = let none = unfound (alike x) firsts e in first_at_end (alike x) firsts x none (laws.refl x)
          ∙ sym none

    numbers_stay : (ys : List X) → All (λ y. list_any (alike y) firsts ≡ true) ys
        → map (λ y. position_or_len (alike y) (with_new alike firsts x)) ys
        ≡ map (λ y. position_or_len (alike y) firsts) ys
    numbers_stay [] h = refl
    numbers_stay (y ∷ ys) h =
        ap₂ (λ (n : ℕ) (ns : List ℕ). n ∷ ns) (number_stays y (All-head (λ z. list_any (alike z) firsts ≡ true) y ys h))
        (numbers_stay ys (All-tail (λ z. list_any (alike z) firsts ≡ true) y ys h))

  -- each element is like a first one
  pub all_are_found : (xs : List X) → All (λ y. list_any (alike y) (first_ones alike xs) ≡ true) xs
  all_are_found xs k d below =
      any_first_ones (get_or xs k d) xs ∙ list_any_at (alike (get_or xs k d)) xs k d below (laws.refl (get_or xs k d))

  -- so each number is below their count
  pub numbers_below : (xs : List X) → All (λ n. n < length (first_ones alike xs)) (group_numbers alike xs)
  numbers_below xs =
      let firsts = first_ones alike xs in
      All-map (λ n. n < length firsts) (λ x. position_or_len (alike x) firsts) xs
      (λ k d below. found_within (alike (get_or xs k d)) firsts (all_are_found xs k d below))

  -- the numbers, with one more element
  pub numbers_push : (xs : List X) (x : X)
      → group_numbers alike (xs ++ x ∷ []) ≡ group_numbers alike xs ++ position_or_len (alike x) (first_ones alike xs)
      ∷ []
  numbers_push xs x =
      let firsts = first_ones alike xs in
      ap (λ (fs : List X). map (λ y. position_or_len (alike y) fs) (xs ++ x ∷ [])) (firsts_push xs x)
      ∙ map-append (λ y. position_or_len (alike y) (with_new alike firsts x)) xs (x ∷ [])
      ∙ ap₂ (λ (ns : List ℕ) (n : ℕ). ns ++ n ∷ []) (numbers_stay firsts x xs (all_are_found xs))
      (number_of_new firsts x)

  -- the numbers of more elements go on from those of fewer
  more_numbers : (xs ys : List X) → (rest : List ℕ) × (group_numbers alike (xs ++ ys) ≡ group_numbers alike xs ++ rest)
  more_numbers xs [] = ([], ap (group_numbers alike) (append-nil xs) ∙ sym (append-nil (group_numbers alike xs)))
  more_numbers xs (y ∷ ys) =
      let n = position_or_len (alike y) (first_ones alike xs) in
      let more = more_numbers (xs ++ y ∷ []) ys in (
        n ∷ more.0,
        ap (group_numbers alike) (sym (append_assoc xs (y ∷ []) ys)) ∙ more.1
            ∙ ap (λ (l : List ℕ). l ++ more.0) (numbers_push xs y)
            ∙ append_assoc (group_numbers alike xs) (n ∷ []) more.0,
      )

  -- the number of an element is its place among the first ones before it
  pub number_at : (xs : List X) (i : ℕ) (d : X) → i < length xs
      → get_or (group_numbers alike xs) i 0 ≡ position_or_len (alike (get_or xs i d)) (first_ones alike (take i xs))
  number_at xs i d inside =
      let x = get_or xs i d in
      let n = position_or_len (alike x) (first_ones alike (take i xs)) in
      let more = more_numbers (take i xs ++ x ∷ []) (drop (suc i) xs) in
      let whole : xs ≡ (take i xs ++ x ∷ []) ++ drop (suc i) xs =
      sym (take-append-drop i xs) ∙ ap (λ (l : List X). take i xs ++ l) (drop-cons xs i d inside)
      ∙ sym (append_assoc (take i xs) (x ∷ []) (drop (suc i) xs)) in
      let long : length (group_numbers alike (take i xs)) ≡ i =
      omega (
        arith,
        length-map (take i xs) (λ y. position_or_len (alike y) (first_ones alike (take i xs))),
        length-take i xs,
        inside,
      ) in
      ap (λ (l : List ℕ). get_or l i 0)
      (ap (group_numbers alike) whole ∙ more.1 ∙ ap (λ (l : List ℕ). l ++ more.0) (numbers_push (take i xs) x)
      ∙ append_assoc (group_numbers alike (take i xs)) (n ∷ []) more.0)
      ∙ get_or_at (group_numbers alike (take i xs)) n more.0 0 i long

  -- elements with one number are alike
  pub one_number : (xs : List X) (i j : ℕ) (d : X) → i < length xs → j < length xs
      → get_or (group_numbers alike xs) i 0 ≡ get_or (group_numbers alike xs) j 0
      → alike (get_or xs i d) (get_or xs j d) ≡ true
  one_number xs i j d a b same =
      let firsts = first_ones alike xs in
      let number : X → ℕ = λ y. position_or_len (alike y) firsts in
      let x = get_or xs i d in
      let y = get_or xs j d in
      let equal : number x ≡ number y = sym (get_or-map number xs i d 0 a) ∙ same ∙ get_or-map number xs j d 0 b in
      let found : number x < length firsts = found_within (alike x) firsts (all_are_found xs i d a) in
      let found_too : number y < length firsts = found_within (alike y) firsts (all_are_found xs j d b) in
      let at_x : alike x (get_or firsts (number x) d) ≡ true = passes_at_first (alike x) firsts d found in
      let at_y : alike y (get_or firsts (number y) d) ≡ true = passes_at_first (alike y) firsts d found_too in
      laws.congr x (get_or firsts (number x) d) y at_x ∙ ap (λ (n : ℕ). alike (get_or firsts n d) y) equal
      ∙ laws.symm (get_or firsts (number y) d) y ∙ at_y

pub same_message_laws : IsEquivalence same_message
same_message_laws = search rules

pub contexts_are : (a b : Option (List ℕ)) → option_eq bytes_eq a b ≡ true → a ≡ b
contexts_are None None h = refl
contexts_are None (Some y) h = cc
contexts_are (Some x) None h = cc
contexts_are (Some x) (Some y) h = ap (λ (t : List ℕ). Some t) ((bytes_eq-Decides x y).0 h)

pub message_made : (a b : Message) → a.context ≡ b.context → a.id ≡ b.id → a ≡ b
message_made a b context id = grind (arith, common_steps)

pub messages_are : (a b : Message) → same_message a b ≡ true → a ≡ b
messages_are a b h = grind (arith, common_steps, and_parts, message_made, contexts_are, bytes_eq-Decides)

-- messages have one number exactly where they are the same
pub numbers_tell : (ms : List Message) (i j : ℕ) (d : Message) → i < length ms → j < length ms
    → (get_or (group_numbers same_message ms) i 0 ≡ get_or (group_numbers same_message ms) j 0)
    ↔ (get_or ms i d ≡ get_or ms j d)
numbers_tell ms i j d a b = (
  λ same. messages_are (get_or ms i d) (get_or ms j d) (one_number same_message same_message_laws ms i j d a b same),
  λ same.
      let number : Message → ℕ = λ m. position_or_len (same_message m) (first_ones same_message ms) in
      get_or-map number ms i d 0 a ∙ ap number same ∙ sym (get_or-map number ms j d 0 b),
)

-- Entries by the numbers of their messages: which are of one message, and the first that repeats an earlier one.

-- all of the entries are among their messages, and have these numbers
pub all_numbered : (entries : List TextEntry) → All (IsNumbered entries) entries
all_numbered entries k d below = (
  k,
  omega (arith, below, length-map entries entry_message),
  get_or-map entry_message entries k d (entry_message (get_or entries k d)) below,
)

pub are_numbered : (entries : List TextEntry) (numbers : List ℕ)
    → numbers ≡ group_numbers same_message (entry_messages entries) → AreNumbered entries entries numbers
are_numbered entries numbers is = record {
  among = all_numbered entries;
  numbers_are = is ∙ map-map
      (λ m. position_or_len (same_message m) (first_ones same_message (entry_messages entries))) entry_message entries;
}

module _ (all : List TextEntry) where
  first_of : (a : TextEntry) (d : Message) → IsNumbered all a
      → entry_message a ≡ get_or (first_ones same_message (entry_messages all)) (number_in all a) d
  first_of a d among =
      let m = entry_message a in
      let firsts = first_ones same_message (entry_messages all) in
      let met = any_first_ones same_message same_message_laws m (entry_messages all)
      ∙ list_any_at (same_message m) (entry_messages all) among.0 m among.1
      (ap (same_message m) among.2 ∙ same_message_laws.refl m) in
      messages_are m (get_or firsts (number_in all a) d)
      (passes_at_first (same_message m) firsts d (found_within (same_message m) firsts met))

  same_number : (a b : TextEntry) → IsNumbered all a → IsNumbered all b → number_in all a ≡ number_in all b
      → IsSameMessage a b
  same_number a b first later same =
      let d = entry_message a in
      let one = first_of a d first ∙ ap (λ n. get_or (first_ones same_message (entry_messages all)) n d) same
      ∙ sym (first_of b d later) in
      (ap (λ m. m.context) one, ap (λ m. m.id) one)

  number_same : (a b : TextEntry) → IsSameMessage a b → number_in all a ≡ number_in all b
  number_same a b same = ap (λ m. position_or_len (same_message m) (first_ones same_message (entry_messages all)))
      (message_made (entry_message a) (entry_message b) same.0 same.1)

  -- numbers that stand twice are those of messages that do
  module _ {X : Type 0} (entry : X → TextEntry) (xs : List X) where
    pub messages_differ : AllPairs (λ a b. number_in all (entry a) ≢ number_in all (entry b)) xs
        → AllPairs (λ a b. ¬ IsSameMessage (entry a) (entry b)) xs
    messages_differ differ i j d below inside same =
        differ i j d below inside (number_same (entry (get_or xs i d)) (entry (get_or xs j d)) same)

    pub message_repeats : (a b : X) → All (λ x. IsNumbered all (entry x)) xs
        → IsFirstRepeat (λ x y. number_in all (entry x) ≡ number_in all (entry y)) xs a b
        → IsFirstRepeat (λ x y. IsSameMessage (entry x) (entry y)) xs a b
    message_repeats a b among h =
        let both = all_of_both (λ x y. number_in all (entry x) ≡ number_in all (entry y))
        (λ x. IsNumbered all (entry x)) xs a b among h in
        repeat_by (λ x y. number_in all (entry x) ≡ number_in all (entry y))
        (λ x y. IsSameMessage (entry x) (entry y)) xs a b (same_number (entry a) (entry b) both.0 both.1)
        (λ x y. number_same (entry x) (entry y)) h

no_place : EntryPlace
no_place = record { line = 0; is_live = false }

-- things with an entry each, by the numbers of these among all, and where these stand
module _ {X : Type 0} (entry : X → TextEntry) (xs : List X) (entries : List TextEntry) (of_xs : entries ≡ map entry xs)
    (all : List TextEntry) (is_there : TextEntry → Bool) (numbers : List ℕ) (places : List EntryPlace)
    (are : AreNumbered all entries numbers) (placed : places ≡ are_placed is_there entries) where
  abbrev number : X → ℕ
  number x = number_in all (entry x)

  numbers_are : numbers ≡ map number xs
  numbers_are = are.numbers_are ∙ ap (map (number_in all)) of_xs ∙ map-map (number_in all) entry xs

  places_are : places ≡ map (λ x. place_of is_there (entry x)) xs
  places_are = placed ∙ ap (are_placed is_there) of_xs ∙ map-map (place_of is_there) entry xs

  pub as_many : length places ≡ length xs
  as_many = ap length places_are ∙ length-map xs (λ x. place_of is_there (entry x))

  pub place_at : (i : ℕ) (d : EntryPlace) (e : X) → i < length xs
      → get_or places i d ≡ place_of is_there (entry (get_or xs i e))
  place_at i d e inside = ap (λ l. get_or l i d) places_are
      ∙ get_or-map (λ x. place_of is_there (entry x)) xs i e d inside

  -- where no live ones have one number, no message stands twice
  pub none_twice : DifferUpTo is_looked_at numbers places (length places)
      → AllPairs (λ a b. ¬ IsSameMessage (entry a) (entry b)) (filter (λ x. is_there (entry x)) xs)
  none_twice differ =
      messages_differ all entry (filter (λ x. is_there (entry x)) xs)
      (all_differ number (λ x. is_there (entry x)) is_looked_at xs places numbers numbers_are
      (λ k d e below. ap is_looked_at (place_at k d e below)) no_place (length places) as_many differ)

  -- the first that has the number of an earlier one
  pub first_twice : (i j : ℕ) (a b : X) → j < length xs → a ≡ get_or xs i a → b ≡ get_or xs j b
      → RepeatsAt is_looked_at numbers places i j
      → IsFirstRepeat (λ x y. IsSameMessage (entry x) (entry y)) (filter (λ x. is_there (entry x)) xs) a b
  first_twice i j a b inside at_a at_b found =
      let known : All (λ x. IsNumbered all (entry x)) xs =
      λ k d below. subst (IsNumbered all) (get_or-map entry xs k d (entry d) below)
      ((subst (All (IsNumbered all)) of_xs are.among) k (entry d) (omega (arith, below, length-map xs entry))) in
      message_repeats all entry (filter (λ x. is_there (entry x)) xs) a b
      (All-filter (λ x. is_there (entry x)) (λ x. IsNumbered all (entry x)) xs known)
      (repeat_of number (λ x. is_there (entry x)) is_looked_at xs places numbers numbers_are
      (λ k d e below. ap is_looked_at (place_at k d e below)) no_place i j a b inside at_a at_b found)

live_in : (input : ℕ) (entries : List TextEntry)
    → live_entries (map (in_input input) entries) ≡ map (in_input input) (filter is_live entries)
live_in input entries = filter_map (λ (e : InputEntry). is_live e.entry) (in_input input) entries

-- the first duplicate of the entries of an input
pub duplicate_in : (input : ℕ) (entries : List TextEntry) (first later : TextEntry)
    → IsFirstRepeat IsSameMessage (filter is_live entries) first later
    → IsFirstDuplicate (map (in_input input) entries) (in_input input first) (in_input input later)
duplicate_in input entries first later h =
    let Alike : InputEntry → InputEntry → Type 0 = λ a b. IsSameMessage a.entry b.entry in
    subst (λ l. IsFirstRepeat Alike l (in_input input first) (in_input input later)) (sym (live_in input entries))
    (repeat_map Alike (in_input input) (filter is_live entries) first later h)

pub repeats_of : (entries : List TextEntry) (lines : ℕ × ℕ) (error : PoError)
    → RepeatsOnLines (filter is_live entries) lines → error ≡ record { kind = Duplicate lines.0; line = lines.1 }
    → Repeats entries error
repeats_of entries lines error found error_is = (
  in_input 0 found.0,
  in_input 0 found.1,
  duplicate_in 0 entries found.0 found.1 found.2,
  error_is
      ∙ ap (λ (l : ℕ × ℕ). record { kind = Duplicate l.0; line = l.1 }) found.3,
)
