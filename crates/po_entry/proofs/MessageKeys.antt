-- The keys of messages, their digests, and the numbers that messages have by them.
use Rattle.po_entry.proofs.Prelude.{All, All-head, All-nil, All-push, All-tail, AllPairs, AllPairs-from_increasing, Bool, IfSome, IsAllAdjacentAnswer, IsCatalogueEntry, IsNonDecreasingBy-from_sort, IsPermutation, IsPermutation-sym, IsSorted, IsStrictlyIncreasing, IsTrue, Lacks, List, Message, None, Option, Some, TextEntry, [], answer, ap, append-nil, ap₂, arith, bytes_eq, bytes_eq-Decides, common_steps, cond, digest_of, entry_message, entry_messages, eq-eqb, eqb, eqb-true, false, first_ones, flat_map, flat_map-append, fold, fold-append, get_or, group_numbers, if◌then◌else◌, key_bytes, length, length-map, list_any, lt-ltb, ltb-true, map, map-append, nat_eq_equiv, nat_list_eq_equiv, nat_lt, not, position_or_len, refl, rules, same_message, subst, sym, take, take_more, true, with_new, write, ℕ, ◌++◌, ◌+◌, ◌<◌, ◌||◌, ◌↔◌, ◌∙◌, ◌∷◌, ◌≡◌, ◌≢◌}
use Rattle.std.specs.Hash.{HashWrites}
use Rattle.std.proofs.Common.{Decides}
use Rattle.std.specs.Ordering.{nat_cmp}
use Rattle.std.proofs.lemmas.Map.Keys.{IsDistinct-IsPermutation, IsStrictlyIncreasing-from_distinct}
use Rattle.std.proofs.lemmas.Map.Made.{AllPairs-from_IsDistinct, IsDistinct-from_AllPairs}
use Rattle.po_entry.proofs.MessageNumbers.{firsts_push, message_made, messages_are, numbers_push, same_message_laws}

pub digest_more : {X : Type 0} (writes : X → HashWrites) (before after : List X) (x : X) → after ≡ before ++ x ∷ []
    → digest_of (flat_map writes after) ≡ fold write (digest_of (flat_map writes before)) (writes x)
digest_more writes before after x is = grind (arith, common_steps, flat_map-append, fold-append, append-nil)

decides : (a b : ℕ) → Decides (eqb a b) (a ≡ b)
decides a b = (eqb-true a b, eq-eqb a b)

module _ (xs ys : List ℕ) (permuted : IsPermutation xs ys) where
  pub rising_from_differ : IsSorted nat_cmp ys → AllPairs (λ a b. a ≢ b) xs → IsStrictlyIncreasing ys
  rising_from_differ sorted differ =
      IsStrictlyIncreasing-from_distinct ys (IsNonDecreasingBy-from_sort (λ n. n) ys sorted)
      (IsDistinct-IsPermutation eqb nat_eq_equiv.symm xs ys permuted (IsDistinct-from_AllPairs decides xs differ))

  pub differ_from_rising : IsStrictlyIncreasing ys → AllPairs (λ a b. a ≢ b) xs
  differ_from_rising rising =
      let below = AllPairs-from_increasing ys rising in
      AllPairs-from_IsDistinct decides xs
      (IsDistinct-IsPermutation eqb nat_eq_equiv.symm ys xs (IsPermutation-sym xs ys permuted)
      (IsDistinct-from_AllPairs decides ys (λ i j d less inside same. omega (arith, below i j d less inside, same))))

-- whether numbers rise, by what is answered of each two neighbours
pub rising_answered : (xs : List ℕ) (r : Bool) → IsAllAdjacentAnswer (λ a b answer. answer ≡ nat_lt a b) xs r
    → IsTrue r ↔ IsStrictlyIncreasing xs
rising_answered xs true answers = (λ _ k inside. ltb-true _ _ (sym (answers k 0 inside)), λ _. refl)
rising_answered xs false answers = (
  λ no. absurd (cc),
  λ rising. absurd
      (let less = lt-ltb _ _ (rising answers.0 answers.1) in let isnt = answers.2 0 in cc (less, isnt)),
)

-- The numbers of messages by the keys of their entries.

-- two ways to see elements, by which the same ones are alike
module _ {X Y Z : Type 0} (a : Y → Y → Bool) (b : Z → Z → Bool) (f : X → Y) (g : X → Z) (P : X → Type 0)
    (agree : (x y : X) → P x → P y → a (f x) (f y) ≡ b (g x) (g y)) where
  any_agree : (x : X) → P x → (xs : List X) → All P xs → list_any (a (f x)) (map f xs) ≡ list_any (b (g x)) (map g xs)
  any_agree x p [] all = refl
  any_agree x p (y ∷ xs) all =
      ap₂ (λ (s t : Bool). s || t) (agree x y p (All-head P y xs all)) (any_agree x p xs (All-tail P y xs all))

  place_agree : (x : X) → P x → (xs : List X) → All P xs
      → position_or_len (a (f x)) (map f xs) ≡ position_or_len (b (g x)) (map g xs)
  place_agree x p [] all = refl
  place_agree x p (y ∷ xs) all =
      ap₂ (λ (t : Bool) (n : ℕ). cond (not t) (1 + n) 0) (agree x y p (All-head P y xs all))
      (place_agree x p xs (All-tail P y xs all))

  -- the first ones are of the same elements
  record AreFirsts (ys : List Y) (zs : List Z) : Type 0 where
    ones : List X
    all : All P ones
    seen_as : ys ≡ map f ones
    and_as : zs ≡ map g ones

  with_one : (x : X) → P x → (ones : List X) → All P ones
      → AreFirsts (with_new a (map f ones) (f x)) (with_new b (map g ones) (g x))
  with_one x p ones all = found (list_any (a (f x)) (map f ones)) refl where
    found : (t : Bool) → list_any (a (f x)) (map f ones) ≡ t
        → AreFirsts (with_new a (map f ones) (f x)) (with_new b (map g ones) (g x))
    found true e = record {
      ones = ones;
      all = all;
      seen_as = ap (λ (t : Bool). if t then map f ones else map f ones ++ f x ∷ []) e;
      and_as = ap (λ (t : Bool). if t then map g ones else map g ones ++ g x ∷ [])
          (sym (any_agree x p ones all) ∙ e);
    }
    found false e = record {
      ones = ones ++ x ∷ [];
      all = All-push P ones x all p;
      seen_as = ap (λ (t : Bool). if t then map f ones else map f ones ++ f x ∷ []) e
          ∙ sym (map-append f ones (x ∷ []));
      and_as = ap (λ (t : Bool). if t then map g ones else map g ones ++ g x ∷ [])
          (sym (any_agree x p ones all) ∙ e)
          ∙ sym (map-append g ones (x ∷ []));
    }

  firsts_from : (ys : List Y) (zs : List Z) → AreFirsts ys zs → (xs : List X) → All P xs
      → AreFirsts (fold (with_new a) ys (map f xs)) (fold (with_new b) zs (map g xs))
  firsts_from ys zs so_far [] all = so_far
  firsts_from ys zs so_far (x ∷ xs) all =
      let p = All-head P x xs all in
      let one : AreFirsts (with_new a ys (f x)) (with_new b zs (g x)) =
      subst (λ l. AreFirsts (with_new a l (f x)) (with_new b zs (g x))) (sym so_far.seen_as)
      (subst (λ l. AreFirsts (with_new a (map f so_far.ones) (f x)) (with_new b l (g x))) (sym so_far.and_as)
      (with_one x p so_far.ones so_far.all)) in
      firsts_from (with_new a ys (f x)) (with_new b zs (g x)) one xs (All-tail P x xs all)

  firsts_agree : (xs : List X) → All P xs → AreFirsts (first_ones a (map f xs)) (first_ones b (map g xs))
  firsts_agree xs all =
      firsts_from [] [] (record { ones = []; all = All-nil P; seen_as = refl; and_as = refl }) xs all

  places_agree : (ys : List Y) (zs : List Z) → AreFirsts ys zs → (xs : List X) → All P xs
      → map (λ y. position_or_len (a y) ys) (map f xs) ≡ map (λ z. position_or_len (b z) zs) (map g xs)
  places_agree ys zs firsts [] all = refl
  places_agree ys zs firsts (x ∷ xs) all =
      ap₂ (λ (n : ℕ) (ns : List ℕ). n ∷ ns)
      (ap (position_or_len (a (f x))) firsts.seen_as
      ∙ place_agree x (All-head P x xs all) firsts.ones firsts.all
      ∙ sym (ap (position_or_len (b (g x))) firsts.and_as))
      (places_agree ys zs firsts xs (All-tail P x xs all))

  pub numbers_agree : (xs : List X) → All P xs → group_numbers a (map f xs) ≡ group_numbers b (map g xs)
  numbers_agree xs all =
      places_agree (first_ones a (map f xs)) (first_ones b (map g xs)) (firsts_agree xs all) xs all

  pub counts_agree : (xs : List X) → All P xs → length (first_ones a (map f xs)) ≡ length (first_ones b (map g xs))
  counts_agree xs all =
      let firsts = firsts_agree xs all in
      ap length firsts.seen_as ∙ length-map firsts.ones f ∙ sym (ap length firsts.and_as ∙ length-map firsts.ones g)

-- the key of an entry
abbrev pub entry_key : TextEntry → List ℕ
entry_key entry = key_bytes entry.context entry.id

-- what stands before the first EOT of keys, and after it
cut_eot : (a b c d : List ℕ) → Lacks 4 a → Lacks 4 c → a ++ 4 ∷ b ≡ c ++ 4 ∷ d → (a ≡ c) × (b ≡ d)
cut_eot [] b [] d la lc e = (refl, cc)
cut_eot [] b (y ∷ c) d la lc e = absurd (All-head (λ n. n ≢ 4) y c lc (cc))
cut_eot (x ∷ a) b [] d la lc e = absurd (All-head (λ n. n ≢ 4) x a la (cc))
cut_eot (x ∷ a) b (y ∷ c) d la lc e =
    search (rules, All-tail, cut_eot a b c d (All-tail (λ n. n ≢ 4) x a la) (All-tail (λ n. n ≢ 4) y c lc) (cc))

has_eot : (a b : List ℕ) → Lacks 4 (a ++ 4 ∷ b) → ⊥
has_eot [] b l = All-head (λ n. n ≢ 4) 4 b l refl
has_eot (x ∷ a) b l = has_eot a b (All-tail (λ n. n ≢ 4) x (a ++ 4 ∷ b) l)

-- keys are equal exactly where contexts and msgids are
keys_are : (c d : Option (List ℕ)) (i j : List ℕ) → IfSome c (Lacks 4) → IfSome d (Lacks 4) → Lacks 4 i → Lacks 4 j
    → key_bytes c i ≡ key_bytes d j → (c ≡ d) × (i ≡ j)
keys_are None None i j c_lacks d_lacks i_lacks j_lacks e = (refl, e)
keys_are None (Some d) i j c_lacks d_lacks i_lacks j_lacks e = absurd (has_eot d j (subst (Lacks 4) e i_lacks))
keys_are (Some c) None i j c_lacks d_lacks i_lacks j_lacks e = absurd (has_eot c i (subst (Lacks 4) (sym e) j_lacks))
keys_are (Some c) (Some d) i j c_lacks d_lacks i_lacks j_lacks e =
    let both = cut_eot c i d j c_lacks d_lacks e in
    (ap (λ (t : List ℕ). Some t) both.0, both.1)

-- entries of a catalogue have one key exactly where they are of one message
keys_agree : (d e : TextEntry) → IsCatalogueEntry d → IsCatalogueEntry e
    → bytes_eq (entry_key d) (entry_key e) ≡ same_message (entry_message d) (entry_message e)
keys_agree d e one other = answer (bytes_eq (entry_key d) (entry_key e))
    (same_message (entry_message d) (entry_message e))
    (λ same.
    let both = keys_are d.context e.context d.id e.id one.valid.context other.valid.context one.valid.id other.valid.id
    ((bytes_eq-Decides (entry_key d) (entry_key e)).0 same) in
    sym (ap (same_message (entry_message d)) (message_made (entry_message d) (entry_message e) both.0 both.1))
    ∙ same_message_laws.refl (entry_message d))
    (λ same.
    let one_message = messages_are (entry_message d) (entry_message e) same in
    (bytes_eq-Decides (entry_key d) (entry_key e)).1
    (ap (λ (m : Message). key_bytes m.context m.id) one_message))

-- the keys so far were seen, and are numbered
pub record AreSeen (entries : List TextEntry) (seen : List (List ℕ)) (numbers : List ℕ) : Type 0 where
  pub valid : All IsCatalogueEntry entries
  pub firsts : seen ≡ first_ones bytes_eq (map entry_key entries)
  pub numbers_are : numbers ≡ group_numbers bytes_eq (map entry_key entries)

pub seen_more : (entries : List TextEntry) (i : ℕ) (entry : TextEntry) (seen new : List (List ℕ)) (numbers : List ℕ)
    (key : List ℕ) (number : ℕ) → i < length entries → AreSeen (take i entries) seen numbers
    → entry ≡ get_or entries i entry → IsCatalogueEntry entry → key ≡ entry_key entry
    → new ≡ with_new bytes_eq seen key → number ≡ position_or_len (bytes_eq key) seen
    → AreSeen (take (i + 1) entries) new (numbers ++ number ∷ [])
seen_more entries i entry seen new numbers key number inside so_far here one key_is new_is number_is =
    let before = map entry_key (take i entries) in
    let taken : take (i + 1) entries ≡ take i entries ++ entry ∷ [] =
    take_more entries i entry inside ∙ ap (λ (e : TextEntry). take i entries ++ e ∷ []) (sym here) in
    let more : map entry_key (take (i + 1) entries) ≡ before ++ key ∷ [] =
    ap (map entry_key) taken ∙ map-append entry_key (take i entries) (entry ∷ [])
    ∙ ap (λ (k : List ℕ). before ++ k ∷ []) (sym key_is) in
    record {
      valid = subst (All IsCatalogueEntry) (sym taken)
          (All-push IsCatalogueEntry (take i entries) entry so_far.valid one);
      firsts = new_is ∙ ap (λ (l : List (List ℕ)). with_new bytes_eq l key) so_far.firsts
          ∙ sym (ap (first_ones bytes_eq) more ∙ firsts_push bytes_eq nat_list_eq_equiv before key);
      numbers_are = ap₂ (λ (ns : List ℕ) (n : ℕ). ns ++ n ∷ []) so_far.numbers_are
          (number_is ∙ ap (position_or_len (bytes_eq key)) so_far.firsts)
          ∙ sym (ap (group_numbers bytes_eq) more ∙ numbers_push bytes_eq nat_list_eq_equiv before key);
    }

module _ (entries : List TextEntry) (seen : List (List ℕ)) (numbers : List ℕ) (are : AreSeen entries seen numbers) where
  pub all_numbered : numbers ≡ group_numbers same_message (entry_messages entries)
  all_numbered = are.numbers_are
      ∙ numbers_agree bytes_eq same_message entry_key entry_message IsCatalogueEntry keys_agree entries are.valid

  pub all_counted : length seen ≡ length (first_ones same_message (entry_messages entries))
  all_counted = ap length are.firsts
      ∙ counts_agree bytes_eq same_message entry_key entry_message IsCatalogueEntry keys_agree entries are.valid
