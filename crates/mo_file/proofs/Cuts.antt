-- What stands before the first byte of a kind, and after it.
use Rattle.mo_file.proofs.Prelude.{All, Bool, IsCut, Lacks, List, MatchOption, None, Option, Some, [], after_first, ap, append_assoc, arith, before_first, cond, context_of, drop, drop_at, false, false_from_ne_true, forms, get_or, get_or_append_left, get_or_at, id_of, is_eot, length, length-append, list_any, plural_of, position_or_len, position_or_len_is, refl, slice_split, sym, take, take_all, true, ℕ, ◌++◌, ◌+◌, ◌<◌, ◌==◌, ◌∙◌, ◌∷◌, ◌≡◌, ◌≢◌}
use Rattle.std.proofs.Common.{slice_get}
use Rattle.std.specs.Borrow.{Bor}
use Rattle.std.proofs.Math.Seq.{take-append_seam}
use Rattle.std.proofs.lemmas.Bool.Decides.{Decides-eqb}
use Rattle.std.proofs.lemmas.List.Elements.{All-weaker}
use Rattle.std.proofs.lemmas.List.Folds.{list_any_at, list_any_none}
use Rattle.std.proofs.lemmas.List.Splits.{slice_split_at, slice_split_none}
use Rattle.std.specs.Prelude.{slice_index_or}

module _ (byte : ℕ) where
  abbrev is : ℕ → Bool
  is b = b == byte

  no_such : (text : List ℕ) → Lacks byte text → All (λ b. is b ≡ false) text
  no_such text lacks =
      All-weaker (λ b. b ≢ byte) (λ b. is b ≡ false)
      (λ b other. false_from_ne_true (is b) (λ e. other ((Decides-eqb b byte).0 e))) text lacks

  module _ (before after : List ℕ) (lacks : Lacks byte before) where
    abbrev whole : List ℕ
    whole = before ++ byte ∷ after

    inside : length before < length whole
    inside = omega (arith, length-append before (byte ∷ after))

    at_place : is (get_or whole (length before) 0) ≡ true
    at_place = ap is (get_or_at before byte after 0 (length before) refl) ∙ (Decides-eqb byte byte).1 refl

    place : position_or_len is whole ≡ length before
    place =
        position_or_len_is is whole (length before) 0 (omega (arith, inside))
        (λ k below. ap is (get_or_append_left before (byte ∷ after) 0 k below) ∙ no_such before lacks k 0 below)
        (λ _. at_place)

    pub before_is : before_first is whole ≡ before
    before_is = ap (λ n. take n whole) place ∙ take-append_seam before (byte ∷ after)

    pub after_is : after_first is whole ≡ after
    after_is =
        let prefix = before ++ byte ∷ [] in
        ap (λ n. drop (n + 1) whole) place ∙ ap (drop (length before + 1)) (sym (append_assoc before (byte ∷ []) after))
        ∙ drop_at prefix after (length before + 1) (length-append before (byte ∷ []))

    pub some_such : list_any is whole ≡ true
    some_such = list_any_at is whole (length before) 0 inside at_place

    pub split_cut : slice_split is whole ≡ before ∷ slice_split is after
    split_cut = slice_split_at is before byte after (no_such before lacks) ((Decides-eqb byte byte).1 refl)

  module _ (text : List ℕ) (lacks : Lacks byte text) where
    pub before_all : before_first is text ≡ text
    before_all =
        ap (λ n. take n text) (position_or_len_is is text (length text) 0 (omega arith)
        (λ k below. no_such text lacks k 0 below) (λ past. absurd (omega (arith, past))))
        ∙ take_all (length text) text (omega arith)

    pub none_such : list_any is text ≡ false
    none_such = list_any_none is text (no_such text lacks)

    pub split_none : slice_split is text ≡ text ∷ []
    split_none = slice_split_none is text (no_such text lacks)

module _ (context id : List ℕ) (lacks : Lacks 4 context) where
  pub context_cut : context_of (context ++ 4 ∷ id) ≡ Some context
  context_cut =
      let key = context ++ 4 ∷ id in
      ap (λ t. cond t (Some (before_first is_eot key)) None) (some_such 4 context id lacks)
      ∙ ap Some (before_is 4 context id lacks)

  pub id_cut : id_of (context ++ 4 ∷ id) ≡ id
  id_cut =
      let key = context ++ 4 ∷ id in
      ap (λ t. cond t (after_first is_eot key) key) (some_such 4 context id lacks) ∙ after_is 4 context id lacks

module _ (id : List ℕ) (lacks : Lacks 4 id) where
  pub context_none : context_of id ≡ None
  context_none = ap (λ t. cond t (Some (before_first is_eot id)) None) (none_such 4 id lacks)

  pub id_all : id_of id ≡ id
  id_all = ap (λ t. cond t (after_first is_eot id) id) (none_such 4 id lacks)

first_of : (pieces : List (List ℕ)) (piece : List ℕ) → take 1 pieces ≡ piece ∷ [] → slice_get pieces 0 ≡ Some piece
first_of [] piece e = cc
first_of (p ∷ pieces) piece e = ap (λ l. slice_get l 0) e

module _ (key rest : List ℕ) (lacks : Lacks 0 key) where
  pub plural_cut : (plural : List ℕ) → take 1 (forms rest) ≡ plural ∷ [] → plural_of (key ++ 0 ∷ rest) ≡ Some plural
  plural_cut plural first = ap (λ l. slice_get l 1) (split_cut 0 key rest lacks) ∙ first_of (forms rest) plural first

  pub first_cut : take 1 (forms (key ++ 0 ∷ rest)) ≡ key ∷ []
  first_cut = ap (take 1) (split_cut 0 key rest lacks)

module _ (text : List ℕ) (lacks : Lacks 0 text) where
  pub plural_none : plural_of text ≡ None
  plural_none = ap (λ l. slice_get l 1) (split_none 0 text lacks)

  pub first_all : take 1 (forms text) ≡ text ∷ []
  first_all = ap (take 1) (split_none 0 text lacks)

pub first_taken : (texts : List (List ℕ)) (first : List ℕ) → take 1 texts ≡ first ∷ []
    → first ≡ slice_index_or texts 0 []
first_taken [] first is = absurd (cc)
first_taken (text ∷ texts) first is = ap (λ l. get_or l 0 []) (sym is)

pub form_split : (text : List ℕ) (result : Option (Bor (List ℕ) × Bor (List ℕ))) → IsCut 0 text result
    → MatchOption result (forms text ≡ text ∷ []) (λ parts. forms text ≡ parts.0.now ∷ forms parts.1.now)
form_split text None lacks = split_none 0 text lacks
form_split text (Some parts) is = ap forms is.0 ∙ split_cut 0 parts.0.now parts.1.now is.1
