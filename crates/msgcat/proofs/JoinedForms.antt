-- The forms of translations, joined index by index, and those that were seen.
use Rattle.msgcat.proofs.Prelude.{All, All-head, All-tail, All-take, All-weaker, Bool, Bor, FormList, HasTranslations, IsDefinition, IsText, Lacks, List, NamedEntry, [], ap, ap₂, arith, bytes_eq, bytes_eq-Decides, cases_Bool, cond, false, false_from_ne_true, false≢true, fold, form_count, get_or, get_or-map, inl, inr, is_at, join_with_byte, joined_at, joined_form, joined_forms, joined_lists, length, length-map, list_any, list_any-append, map, marked, max, most_forms, named_entries, named_entry, named_forms, nat_cmp, nat_list_eq_equiv, ne_eqb, option_map_or, or-false, or-true, pred, quoted_parts, range_with_len, refl, rest_of, rests, same_forms, slice_cmp, split_forms, subst, suc, sym, take, take-map, texts_eq, texts_ties, translation_bytes, translations, true, zero, ℕ, ◌++◌, ◌+◌, ◌<◌, ◌==◌, ◌||◌, ◌∙◌, ◌∷◌, ◌≡◌, ◌≤◌}
use Rattle.std.specs.Prelude.{slice_get}
use Rattle.std.specs.BTreeSet.{BTreeSet, contains}
use Rattle.std.proofs.lemmas.List.Splits.{slice_split_at, slice_split_none}
use Rattle.po_entry.specs.Facts.EqualityLaws.{texts_decide}
use Rattle.msgcat.specs.declared.definition.NamedEntry.{NamedEntry as BorrowedEntry}
use Rattle.msgcat.proofs.ValidMerged.{translations_all}

joined_named : (ts : List NamedEntry) (i : ℕ) → joined_at i (map named_forms ts) ≡ joined_form ts i
joined_named [] i = refl
joined_named (t ∷ ts) i = ap (λ l. option_map_or (marked t.name) (slice_get t.entry.forms i) [] ++ l)
    (joined_named ts i)

abbrev most_from : ℕ → List FormList → ℕ
most_from n lists = fold (λ count l. max count (length l.forms)) n lists

most_named : (n : ℕ) (ts : List NamedEntry)
    → most_from n (map named_forms ts) ≡ fold (λ count t. max count (length t.entry.forms)) n ts
most_named n [] = refl
most_named n (t ∷ ts) = most_named (max n (length t.entry.forms)) ts

-- the forms of all translations, joined
pub joined_lists_named : (ts : List NamedEntry) → joined_lists (map named_forms ts) ≡ joined_forms ts
joined_lists_named ts =
    ap (λ n. map (λ i. joined_at i (map named_forms ts)) (range_with_len 0 n)) (most_named 0 ts)
    ∙ (λ j. map (λ i. joined_named ts i j) (range_with_len 0 (form_count ts)))

-- the forms of an index are those of the index before, where the first ones are gone
pub joined_rests : (i : ℕ) (lists : List FormList) → joined_at i (rests lists) ≡ joined_at (suc i) lists
joined_rests i [] = refl
joined_rests i (l ∷ lists) = by l.forms (joined_rests i lists) where
  by : (forms : List (List ℕ)) → joined_at i (rests lists) ≡ joined_at (suc i) lists
      → joined_at i (rest_of l.name forms ++ rests lists)
      ≡ option_map_or (marked l.name) (slice_get forms (suc i)) [] ++ joined_at (suc i) lists
  by [] more = more
  by (form ∷ forms) more = ap (λ r. option_map_or (marked l.name) (slice_get forms i) [] ++ r) more

less_one : (n : ℕ) (lists : List FormList) → most_from (pred n) (rests lists) ≡ pred (most_from n lists)
less_one n [] = refl
less_one n (l ∷ lists) = by l.forms (less_one (max n (length l.forms)) lists) where
  by : (forms : List (List ℕ))
      → most_from (pred (max n (length forms))) (rests lists) ≡ pred (most_from (max n (length forms)) lists)
      → most_from (pred n) (rest_of l.name forms ++ rests lists) ≡ pred (most_from (max n (length forms)) lists)
  by [] more = let same : n ≡ max n 0 = omega arith in ap (λ k. most_from (pred k) (rests lists)) same ∙ more
  by (form ∷ forms) more =
      let same : max (pred n) (length forms) ≡ pred (max n (suc (length forms))) = omega arith in
      ap (λ k. most_from k (rests lists)) same ∙ more

at_least : (n : ℕ) (lists : List FormList) → n ≤ most_from n lists
at_least n [] = omega arith
at_least n (l ∷ lists) = let more = at_least (max n (length l.forms)) lists in omega (arith, more)

-- where no list has a form
none_from : (n : ℕ) (lists : List FormList) → length (rests lists) ≡ 0 → most_from n lists ≡ n
none_from n [] none = refl
none_from n (l ∷ lists) none = by l.forms none (none_from (max n (length l.forms)) lists) where
  by : (forms : List (List ℕ)) → length (rest_of l.name forms ++ rests lists) ≡ 0
      → (length (rests lists) ≡ 0 → most_from (max n (length forms)) lists ≡ max n (length forms))
      → most_from (max n (length forms)) lists ≡ n
  by [] h more = let same : max n 0 ≡ n = omega arith in more h ∙ same
  by (form ∷ forms) h more = absurd (omega (arith, h))

pub none_left : (lists : List FormList) → length (rests lists) ≡ 0 → most_forms lists ≡ 0
none_left lists none = none_from 0 lists none

some_from : (lists : List FormList) → most_forms lists ≡ 0 → length (rests lists) ≡ 0
some_from [] none = refl
some_from (l ∷ lists) none = by l.forms none (some_from lists) where
  by : (forms : List (List ℕ)) → most_from (max 0 (length forms)) lists ≡ 0
      → (most_forms lists ≡ 0 → length (rests lists) ≡ 0) → length (rest_of l.name forms ++ rests lists) ≡ 0
  by [] h more = more h
  by (form ∷ forms) h more = let least = at_least (max 0 (suc (length forms))) lists in absurd (omega (arith, least, h))

-- where a list has a form, one less is left
pub one_less : (lists : List FormList) → 0 < length (rests lists) → most_forms (rests lists) + 1 ≡ most_forms lists
one_less lists some = by (most_forms lists) refl where
  by : (n : ℕ) → most_forms lists ≡ n → most_forms (rests lists) + 1 ≡ most_forms lists
  by zero e = let none = some_from lists e in absurd (omega (arith, none, some))
  by (suc n) e = let less = less_one 0 lists in omega (arith, less, e)

-- Sets of translations, which tell whether a definition has forms that were seen.

without : (text : List ℕ) → Lacks 0 text → All (λ b. (b == 0) ≡ false) text
without text h = All-weaker (λ b. b ≡ 0 → ⊥) (λ b. (b == 0) ≡ false) (λ b none. ne_eqb b 0 none) text h

-- forms without a NUL are split from where they are joined by NULs
forms_split : (form : List ℕ) (forms : List (List ℕ)) → All IsText (form ∷ forms)
    → split_forms (join_with_byte 0 (form ∷ forms)) ≡ form ∷ forms
forms_split form [] h = slice_split_none (λ b. b == 0) form (without form (All-head IsText form [] h).no_nul)
forms_split form (next ∷ forms) h =
    slice_split_at (λ b. b == 0) form 0 (join_with_byte 0 (next ∷ forms))
    (without form (All-head IsText form (next ∷ forms) h).no_nul) refl
    ∙ ap (λ l. form ∷ l) (forms_split next forms (All-tail IsText form (next ∷ forms) h))

split_back : (forms : List (List ℕ)) → 0 < length forms → All IsText forms
    → split_forms (join_with_byte 0 forms) ≡ forms
split_back [] some h = absurd (omega (arith, some))
split_back (form ∷ forms) some h = forms_split form forms h

-- definitions have the same forms exactly if they have the same translation
alike : (a b : NamedEntry) → IsDefinition a → IsDefinition b
    → bytes_eq (translation_bytes a.entry) (translation_bytes b.entry) ≡ same_forms a b
alike a b h g =
    let one = a.entry.forms in
    let other = b.entry.forms in
    let first = split_back one h.valid.some_form (quoted_parts IsText a.entry h.valid.quoted_texts).forms in
    let second = split_back other g.valid.some_form (quoted_parts IsText b.entry g.valid.quoted_texts).forms in
    let same = bytes_eq-Decides (join_with_byte 0 one) (join_with_byte 0 other) in
    let equal = texts_decide one other in
    elim (cases_Bool (bytes_eq (join_with_byte 0 one) (join_with_byte 0 other))) [
      | inl e ↦ e ∙ sym (equal.1 (sym first ∙ ap split_forms (same.0 e) ∙ second))
      | inr e ↦ e ∙ sym (false_from_ne_true (texts_eq one other)
          (λ f. false≢true (sym e ∙ same.1 (ap (join_with_byte 0) (equal.0 f)))))
    ]

-- whether a definition's forms are among those that were seen
pub seen_alike : (d : NamedEntry) (ds : List NamedEntry) → IsDefinition d → All IsDefinition ds
    → list_any (λ e. bytes_eq (translation_bytes d.entry) (translation_bytes e.entry)) ds ≡ list_any (same_forms d) ds
seen_alike d [] h g = refl
seen_alike d (e ∷ ds) h g = ap₂ (λ (a b : Bool). a || b) (alike d e h (All-head IsDefinition e ds g))
    (seen_alike d ds h (All-tail IsDefinition e ds g))

cond_or : (a c : Bool) → cond a true c ≡ (c || a)
cond_or true c = sym (or-true c)
cond_or false c = sym (or-false c)

pub one_translation_more : (old new : BTreeSet (Bor (List ℕ))) (k : Bor (List ℕ)) (d : NamedEntry)
    (found : List NamedEntry) → HasTranslations old found → k.now ≡ translation_bytes d.entry
    → ((q : Bor (List ℕ))
    → contains (λ x y. slice_cmp nat_cmp x.now y.now) new q
    ≡ cond (is_at (λ y. slice_cmp nat_cmp k.now y.now) q) true
    (contains (λ x y. slice_cmp nat_cmp x.now y.now) old q))
    → HasTranslations new (found ++ d ∷ [])
one_translation_more old new k d found h is updated q =
    let tests : Bool = bytes_eq q.now (translation_bytes d.entry) in
    updated q ∙ cond_or (is_at (λ y. slice_cmp nat_cmp k.now y.now) q)
    (contains (λ x y. slice_cmp nat_cmp x.now y.now) old q)
    ∙ ap₂ (λ (s t : Bool). s || t) (h q) (sym (texts_ties k.now q.now) ∙ nat_list_eq_equiv.symm k.now q.now
    ∙ ap (bytes_eq q.now) is ∙ sym (or-false tests))
    ∙ sym (list_any-append (λ e. bytes_eq q.now (translation_bytes e.entry)) found (d ∷ []))

-- whether the forms of a definition are among those of the definitions before it
pub seen_here : (seen : BTreeSet (Bor (List ℕ))) (ds : List BorrowedEntry) (i : ℕ) (d : BorrowedEntry)
    (k : Bor (List ℕ)) → All IsDefinition (named_entries ds) → i < length ds → d ≡ get_or ds i d
    → k.now ≡ translation_bytes d.entry → HasTranslations seen (translations (named_entries (take i ds)))
    → contains (λ x y. slice_cmp nat_cmp x.now y.now) seen k
    ≡ list_any (same_forms (named_entry d)) (translations (named_entries (take i ds)))
seen_here seen ds i d k valid inside here is met =
    let T = translations (named_entries (take i ds)) in
    let within : i < length (named_entries ds) = omega (arith, inside, length-map ds named_entry) in
    let own : IsDefinition (named_entry d) =
    subst IsDefinition (get_or-map named_entry ds i d (named_entry d) inside ∙ ap named_entry (sym here))
    (valid i (named_entry d) within) in
    let earlier : All IsDefinition (named_entries (take i ds)) =
    subst (All IsDefinition) (take-map named_entry i ds) (All-take IsDefinition i (named_entries ds) valid) in
    met k ∙ ap (λ t. list_any (λ e. bytes_eq t (translation_bytes e.entry)) T) is
    ∙ seen_alike (named_entry d) T own (translations_all IsDefinition (named_entries (take i ds)) earlier)
