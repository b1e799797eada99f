-- The forms of a translation, and where each stands in the file.
use Rattle.mo_lookup.proofs.Prelude.{All-from_get_or, Bool, FileView, IsFormAt, IsPlace, IsStringAt, IsTranslationAt, List, None, NoneBefore, Nowhere, Option, Passes, Query, Some, [], ap, arith, cases_eq, drop, drop-drop, false, false_from_ne_true, form_at, forms, get_or, get_or-drop, get_or-take, get_or_from_slice_get, if◌then◌else◌, inl, inr, is_byte, is_nul, length, length-drop, length-take, located_view, ne_eqb, option_map_or, position_or_len, position_or_len_is, refl, slice_get, slice_get-get_or, slice_get_within, slice_range, subst, suc, sym, take, take-take, take_rest, translations, true, untranslated_place, untranslated_text, unwrap_or, zero, ℕ, ◌+◌, ◌-◌, ◌<◌, ◌==◌, ◌∙◌, ◌∷◌, ◌≡◌, ◌≤◌, ◌⊎◌}
use Rattle.std.proofs.lemmas.List.Splits.{length-slice_split, slice_split_first, slice_split_none}
use Rattle.std.proofs.lemmas.Slice.{between_is}
use Rattle.mo_lookup.specs.declared.place.Located.{Located}
use Rattle.mo_lookup.specs.declared.place.Place.TheVariants.{Id, Plural}

-- a translation with a NUL: its first form stands before it, the others are the forms of what
-- stands after it
pub forms-first : (text : List ℕ) (end : ℕ) → NoneBefore (Passes (is_byte 0) text) 0 (length text) end
    → Passes (is_byte 0) text end →
    forms text ≡ take end text ∷ forms (drop (end + 1) text)
forms-first text end none here =
    let inside = none.high in
    let index : position_or_len is_nul text ≡ end =
    position_or_len_is is_nul text end 0 (omega arith) (λ k lt. false_from_ne_true _ (none.before k (omega arith) lt))
    (λ _. here) in
    slice_split_first is_nul text 0 (omega arith) ∙ ap (λ n. take n text ∷ forms (drop (n + 1) text)) index

-- a translation without NUL is its one form
pub forms-one : (text : List ℕ) → Nowhere (Passes (is_byte 0) text) 0 (length text) → forms text ≡ text ∷ []
forms-one text none =
    slice_split_none is_nul text
    (All-from_get_or (λ byte. is_nul byte ≡ false) text 0
    (λ i inside. false_from_ne_true _ (none i (omega arith) inside)))

-- the byte at a place that passes as NUL
nul_there : (x : ℕ) → (x == 0) ≡ true → x ≡ 0
nul_there x passes = elim (cases_eq x 0) [ inl nul ↦ nul | inr other ↦ absurd (cc (passes, ne_eqb x 0 other)) ]

module _ (text : List ℕ) (start : ℕ) (inside : start ≤ length text) where
  abbrev pub rest : List ℕ
  rest = slice_range text start (length text)

  rest_is : rest ≡ drop start text
  rest_is = take_rest text start

  -- the first of the forms from a byte on ends at the first NUL after it
  pub first-at : (len : ℕ) → NoneBefore (Passes (is_byte 0) rest) 0 (length rest) len → Passes (is_byte 0) rest len →
      IsFormAt text start (start + len) (form_at (forms (drop start text)) 0)
  first-at len none here =
      let none' = rw rest_is at none in
      let here' = rw rest_is at here in
      let short : len < length text - start = omega (arith, none'.high, length-drop start text) in
      let same : len ≡ start + len - start = omega arith in
      record {
        order = omega arith;
        inside = omega arith;
        text = ap (λ fs. form_at fs 0) (forms-first (drop start text) len none' here')
            ∙ ap (λ n. take n (drop start text)) same;
        ends = inr
            (
            slice_get-get_or text (start + len) 0 (omega arith)
            ∙ ap Some (sym (get_or-drop start text len 0) ∙ nul_there _ here')
            );
      }

  -- or with the translation
  pub first-last : Nowhere (Passes (is_byte 0) rest) 0 (length rest) →
      IsFormAt text start (length text) (form_at (forms (drop start text)) 0)
  first-last none =
      let none' = rw rest_is at none in
      record {
        order = inside;
        inside = omega arith;
        text = ap (λ fs. form_at fs 0) (forms-one (drop start text) none') ∙ sym rest_is;
        ends = inl refl;
      }

  -- the second one begins after that NUL
  pub second-at : (len : ℕ) → NoneBefore (Passes (is_byte 0) rest) 0 (length rest) len → Passes (is_byte 0) rest len →
      (start + len + 1 ≤ length text)
      × (forms (drop start text) ≡ form_at (forms (drop start text)) 0 ∷ forms (drop (start + len + 1) text))
  second-at len none here =
      let none' = rw rest_is at none in
      let here' = rw rest_is at here in
      let cut : forms (drop start text) ≡ take len (drop start text) ∷ forms (drop (len + 1) (drop start text)) =
      forms-first (drop start text) len none' here' in
      let there : drop (len + 1) (drop start text) ≡ drop (start + len + 1) text =
      drop-drop (len + 1) start text
      ∙ ap (λ n. drop n text) {x = start + (len + 1)} {y = start + len + 1} (omega arith) in (
        omega (arith, none'.high, length-drop start text),
        rw there at (cut ∙ ap (λ f. f ∷ forms (drop (len + 1) (drop start text))) (sym (ap (λ fs. form_at fs 0) cut))),
      )

  -- if there is one
  pub second-none : Nowhere (Passes (is_byte 0) rest) 0 (length rest) → forms (drop start text) ≡ drop start text ∷ []
  second-none none = forms-one (drop start text) (rw rest_is at none)

-- there is always a first form
pub form-zero : (text : List ℕ) (index : ℕ) → index ≡ 0 → slice_get (forms text) index ≡ Some (form_at (forms text) 0)
form-zero text index none = rw none (slice_get-get_or (forms text) 0 [] (omega (arith, length-slice_split is_nul text)))

-- where a list has no element at an index, reading it there gives the default
pub get_or-none : (fs : List (List ℕ)) (index : ℕ) (d : List ℕ) → slice_get fs index ≡ None → get_or fs index d ≡ d
get_or-none [] index d none = refl
get_or-none (f ∷ fs) zero d none = absurd cc
get_or-none (f ∷ fs) (suc index) d none = get_or-none fs index d none

-- Where a form of a translation stands in the file.

-- a part without its first bytes
drop-slice_range : (xs : List ℕ) (s e a : ℕ) → drop a (slice_range xs s e) ≡ slice_range xs (s + a) e
drop-slice_range xs s e a =
    ap (drop a) (between_is xs s e) ∙ drop-drop a s (take e xs) ∙ sym (between_is xs (s + a) e)

-- a part of a part
part-of-part : (xs : List ℕ) (s e a b : ℕ) → a ≤ b → s + b ≤ e
    → slice_range (slice_range xs s e) a b ≡ slice_range xs (s + a) (s + b)
part-of-part xs s e a b ordered inside =
    let same : b - a ≡ s + b - (s + a) = omega arith in
    ap (take (b - a)) (drop-slice_range xs s e a)
    ∙ take-take (b - a) (e - (s + a)) (drop (s + a) xs) (omega arith)
    ∙ ap (λ n. take n (drop (s + a) xs)) same

-- what stands in a part
get-part : (xs : List ℕ) (s e b : ℕ) → s + b < e → e ≤ length xs → slice_get (slice_range xs s e) b ≡ Some 0
    → slice_get xs (s + b) ≡ Some 0
get-part xs s e b inside within found =
    slice_get-get_or xs (s + b) 0 (omega arith)
    ∙ ap Some
    (
    sym (get_or-drop s xs b 0) ∙ sym (get_or-take (e - s) (drop s xs) b 0 (omega arith))
    ∙ get_or_from_slice_get (slice_range xs s e) b 0 0 found
    )

-- how long a part is
length-part : (xs : List ℕ) (s e : ℕ) → e ≤ length xs → length (slice_range xs s e) ≡ e - s
length-part xs s e inside = length-take (e - s) (drop s xs) ∙ (omega (arith, length-drop s xs))

module _ (bytes translation form : List ℕ) (start end a b : ℕ) (there : IsStringAt bytes start end translation) where
  within : end < length bytes
  within = slice_get_within bytes end 0 there.terminated

  pub length-there : length translation ≡ end - start
  length-there = ap length there.text ∙ length-part bytes start end (omega (arith, within))

  -- a form is in the file where it is in the translation, and a NUL follows it there
  pub form-in-file : IsFormAt translation a b form → IsStringAt bytes (start + a) (start + b) form
  form-in-file at =
      let ordered = at.order in
      let short = at.inside in
      let begins = there.order in
      record {
        order = omega arith;
        text = at.text ∙ ap (λ t. slice_range t a b) there.text
            ∙ part-of-part bytes start end a b ordered (omega (arith, length-there));
        terminated = elim at.ends [
          | inl last ↦
              let same : start + b ≡ end = omega (arith, length-there) in
              ap (slice_get bytes) same ∙ there.terminated
          | inr nul ↦
              let low = slice_get_within translation b 0 nul in
              get-part bytes start end b (omega (arith, length-there)) (omega (arith, within))
              (ap (λ t. slice_get t b) (sym there.text) ∙ nul)
        ];
      }

-- and so of the translation that stands there
pub form-placed : (file : FileView) (i start end a b : ℕ) (translation form : List ℕ) → IsTranslationAt file i start end
    →
    slice_get (translations file.messages) i ≡ Some translation → IsFormAt translation a b form →
    IsStringAt file.bytes (start + a) (start + b) form
form-placed file i start end a b translation form there is at =
    let same : there.0 ≡ translation = ap (λ t. unwrap_or t translation) (sym there.1 ∙ is) in
    form-in-file file.bytes translation form start end a b (subst (IsStringAt file.bytes start end) same there.2) at

at_id : (id : List ℕ) (plural : Option (List ℕ × ℕ)) → untranslated_place plural ≡ Id → untranslated_text id plural ≡ id
at_id id None is = refl
at_id id (Some p) is = by_count (p.1 == 1) is where
  by_count : (one : Bool) → (if one then Id else Plural) ≡ Id → (if one then id else p.0) ≡ id
  by_count true is = refl
  by_count false is = absurd (cc)

at_plural : (id : List ℕ) (plural : Option (List ℕ × ℕ)) → untranslated_place plural ≡ Plural
    → untranslated_text id plural ≡ option_map_or (λ p. p.0) plural []
at_plural id None is = absurd (cc)
at_plural id (Some p) is = by_count (p.1 == 1) is where
  by_count : (one : Bool) → (if one then Id else Plural) ≡ Plural → (if one then id else p.0) ≡ p.0
  by_count true is = absurd (cc)
  by_count false is = refl

-- where the text isn't in the file it is the msgid or the plural
pub untranslated_view : (bytes : List ℕ) (query : Query) (located : Located) → IsPlace bytes query.plural located.place
    → (located.place ≡ Id) ⊎ (located.place ≡ Plural)
    → record { text = untranslated_text query.id query.plural; found = false; steps = located.steps }
    ≡ located_view bytes query located
untranslated_view bytes query located placed (inl is) =
    rw (is, at_id query.id query.plural (subst (IsPlace bytes query.plural) is placed)) refl
untranslated_view bytes query located placed (inr is) =
    rw (is, at_plural query.id query.plural (subst (IsPlace bytes query.plural) is placed)) refl
