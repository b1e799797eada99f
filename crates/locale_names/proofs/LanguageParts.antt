-- The parts of LANGUAGE, between its colons.
use Rattle.locale_names.proofs.Prelude.{Bool, IsFirstByte, List, None, Option, Some, [], ap, arith, both_ways, cases_Bool, cond, drop, drop_all, eqb, eqb-true, false, false_from_ne_true, filter, inl, inr, is_byte, is_c_locale, is_path_part, language_parts, length, not, onto_first, position_or_len, position_or_len_is, refl, slice_split, subst, suc, sym, take, take_while-cons, true, unwrap_or, ℕ, ◌+◌, ◌<◌, ◌∙◌, ◌∷◌, ◌≡◌}
use Rattle.std.specs.Prelude.{take_while}
use Rattle.std.proofs.lemmas.List.Splits.{slice_split-cons_no, slice_split_first}

-- what a search finds is the index of the first one, or the end
pub first-or_len : (a : ℕ) (bs : List ℕ) (r : Option ℕ) → IsFirstByte (is_byte a) bs r
    → unwrap_or r (length bs) ≡ position_or_len (is_byte a) bs
first-or_len a bs None none =
    sym (position_or_len_is (is_byte a) bs (length bs) 0 (omega arith)
    (λ k l. false_from_ne_true _ (none k (omega arith) l)) (λ l. absurd (omega arith)))
first-or_len a bs (Some k) first =
    sym (position_or_len_is (is_byte a) bs k 0 (omega arith)
    (λ j l. false_from_ne_true _ (first.0.before j (omega arith) l)) (λ l. first.1))

pub byte-here : (a b : ℕ) (bs : List ℕ) → eqb b a ≡ true → position_or_len (is_byte a) (b ∷ bs) ≡ 0
byte-here a b bs e = ap (λ t. cond (not t) (1 + position_or_len (is_byte a) bs) 0) e

pub byte-later : (a b : ℕ) (bs : List ℕ) → eqb b a ≡ false
    → position_or_len (is_byte a) (b ∷ bs) ≡ suc (position_or_len (is_byte a) bs)
byte-later a b bs e = ap (λ t. cond (not t) (1 + position_or_len (is_byte a) bs) 0) e ∙ omega arith

next-suc : (n : ℕ) → suc (n + 1) ≡ suc n + 1
next-suc n = omega arith

-- at its first index the byte stands
pub byte-next : (a : ℕ) (bs : List ℕ) → position_or_len (is_byte a) bs < length bs
    → drop (position_or_len (is_byte a) bs) bs ≡ a ∷ drop (position_or_len (is_byte a) bs + 1) bs
byte-next a [] l = absurd (omega arith)
byte-next a (b ∷ bs) l = elim (cases_Bool (eqb b a)) [
  | inl e ↦ subst (λ n. drop n (b ∷ bs) ≡ a ∷ drop (n + 1) (b ∷ bs)) (sym (byte-here a b bs e))
      (ap (λ c. c ∷ bs) (eqb-true b a e))
  | inr e ↦ subst (λ n. drop n (b ∷ bs) ≡ a ∷ drop (n + 1) (b ∷ bs)) (sym (byte-later a b bs e))
      (byte-next a bs (omega (arith, byte-later a b bs e))
      ∙ ap (λ (n : ℕ). a ∷ drop n (b ∷ bs)) (next-suc (position_or_len (is_byte a) bs)))
]

-- the index as a number of its own
pub byte-at : (a : ℕ) (bs : List ℕ) (n : ℕ) → n ≡ position_or_len (is_byte a) bs → n < length bs
    → drop n bs ≡ a ∷ drop (n + 1) bs
byte-at a bs n index l =
    subst (λ m. drop m bs ≡ a ∷ drop (m + 1) bs) (sym index) (byte-next a bs (omega (arith, index)))

-- a text is empty just where its length is 0
pub nil-from_length : (bs : List ℕ) → eqb (length bs) 0 ≡ true → bs ≡ []
nil-from_length [] h = refl
nil-from_length (b ∷ bs) h = absurd (omega (arith, eqb-true (length (b ∷ bs)) 0 h))

pub some-from_length : (bs : List ℕ) → eqb (length bs) 0 ≡ false → bs ≡ [] → ⊥
some-from_length bs h none = both_ways (eqb (length bs) 0) h (ap (λ l. eqb (length l) 0) none)

-- the parts of a text, up to the first separator and after it
split-next : (bs : List ℕ) (n : ℕ) → n ≡ position_or_len (is_byte 58) bs → n < length bs
    → slice_split (is_byte 58) bs ≡ take n bs ∷ slice_split (is_byte 58) (drop (n + 1) bs)
split-next bs n index l =
    slice_split_first (is_byte 58) bs 0 (omega (arith, index))
    ∙ ap (λ m. take m bs ∷ slice_split (is_byte 58) (drop (m + 1) bs)) (sym index)

split-last : (bs : List ℕ) → position_or_len (is_byte 58) bs ≡ length bs → slice_split (is_byte 58) bs ≡ bs ∷ []
split-last [] e = refl
split-last (b ∷ bs) e = elim (cases_Bool (eqb b 58)) [
  | inl here ↦ absurd (omega (arith, e, byte-here 58 b bs here))
  | inr later ↦ slice_split-cons_no (is_byte 58) b bs later
      ∙ ap (onto_first b) (split-last bs (omega (arith, e, byte-later 58 b bs later)))
]

abbrev counts : List ℕ → Bool
counts part = not (is_c_locale part)

-- the parts that count of a part and those after it
kept : (untranslated fits : Bool) (part : List ℕ) (parts : List (List ℕ)) → untranslated ≡ is_c_locale part
    → fits ≡ is_path_part part
    → filter is_path_part (take_while counts (part ∷ parts))
    ≡ cond untranslated [] (cond fits (part ∷ filter is_path_part (take_while counts parts))
    (filter is_path_part (take_while counts parts)))
kept true fits part parts u f =
    ap (filter is_path_part)
    (take_while-cons counts part parts ∙ ap (λ t. cond (not t) (part ∷ take_while counts parts) []) (sym u))
kept false fits part parts u f =
    ap (filter is_path_part)
    (take_while-cons counts part parts ∙ ap (λ t. cond (not t) (part ∷ take_while counts parts) []) (sym u))
    ∙ ap (λ t. cond t (part ∷ filter is_path_part (take_while counts parts))
    (filter is_path_part (take_while counts parts))) (sym f)

-- a part that ends at a separator, and those after it
pub parts-next : (bs : List ℕ) (n : ℕ) → n ≡ position_or_len (is_byte 58) bs → n < length bs
    → language_parts bs ≡ cond (is_c_locale (take n bs)) []
    (cond (is_path_part (take n bs)) (take n bs ∷ language_parts (drop (n + 1) bs))
    (language_parts (drop (n + 1) bs)))
unfolding language_parts is_c_locale
parts-next bs n index l =
    ap (λ parts. filter is_path_part (take_while counts parts)) (split-next bs n index l)
    ∙ kept _ _ (take n bs) (slice_split (is_byte 58) (drop (n + 1) bs)) refl refl

-- the last part
pub parts-last : (bs : List ℕ) (n : ℕ) → n ≡ position_or_len (is_byte 58) bs → n ≡ length bs
    → language_parts bs ≡ cond (is_c_locale bs) []
    (cond (is_path_part bs) (bs ∷ language_parts (drop n bs)) (language_parts (drop n bs)))
unfolding language_parts is_c_locale
parts-last bs n index end =
    ap (λ parts. filter is_path_part (take_while counts parts)) (split-last bs (sym index ∙ end))
    ∙ kept _ _ bs [] refl refl
    ∙ ap (λ later. cond (is_c_locale bs) []
    (cond (is_path_part bs) (bs ∷ language_parts later) (language_parts later)))
    (sym (drop_all n bs (omega (arith, end))))

-- without a text there is no part
pub parts-none : language_parts [] ≡ []
unfolding language_parts is_c_locale
parts-none = refl
