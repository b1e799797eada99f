-- The names that a locale's name still gives.
use Rattle.locale_names.proofs.Prelude.{List, MatchOption, None, Option, Some, [], ap, arith, before, candidates, candidates_of_name, cond, cond-false, cond-true, drop, drop-cons, drop-drop, drop_all, false, flat_map, from_first, is_untranslated, language_parts, languages, length, names_from, names_left, refl, slice_get, suc, sym, text_of, true, ℕ, ◌++◌, ◌+◌, ◌==◌, ◌∙◌, ◌∷◌, ◌≡◌, ◌≤◌}
use Rattle.std.proofs.lemmas.Option.{get_or_from_slice_get, slice_get_within}
use Rattle.locale_names.specs.declared.name.Candidate.{Candidate}
use Rattle.locale_names.specs.declared.position.Position.{Position}

next-of : (names : List (List ℕ)) (n : ℕ) (text : List ℕ) → slice_get names n ≡ Some text
    → drop n names ≡ text ∷ drop (n + 1) names
next-of names n text is =
    let after : suc n ≡ n + 1 = omega arith in
    drop-cons names n [] (slice_get_within names n text is)
    ∙ ap (λ t. t ∷ drop (suc n) names) (get_or_from_slice_get names n text [] is)
    ∙ ap (λ (k : ℕ). text ∷ drop k names) after

-- the next name, and those after it
pub one-given : (name : List ℕ) (n : ℕ) (text : List ℕ) (later : List (List ℕ))
    → slice_get (candidates_of_name name) n ≡ Some text
    → drop n (candidates_of_name name) ++ later ≡ text ∷ (drop (n + 1) (candidates_of_name name) ++ later)
one-given name n text later is = ap (λ names. names ++ later) (next-of (candidates_of_name name) n text is)

-- the second and the third candidate of a name
pub second-name : (name modifier unmodified base : List ℕ) (n : ℕ) → modifier ≡ from_first 64 name
    → unmodified ≡ before 64 name → base ≡ before 46 unmodified → n ≡ 1
    → slice_get (candidates_of_name name) n ≡ Some (base ++ modifier)
unfolding candidates_of_name
second-name name modifier unmodified base n m u b i =
    let joined : before 46 (before 64 name) ++ from_first 64 name ≡ base ++ modifier = cc in
    ap (slice_get (candidates_of_name name)) i ∙ ap Some joined

pub third-name : (name modifier unmodified base language : List ℕ) (n : ℕ) → modifier ≡ from_first 64 name
    → unmodified ≡ before 64 name → base ≡ before 46 unmodified → language ≡ before 95 base → n ≡ 2
    → slice_get (candidates_of_name name) n ≡ Some (language ++ modifier)
unfolding candidates_of_name
third-name name modifier unmodified base language n m u b l i =
    let joined : before 95 (before 46 (before 64 name)) ++ from_first 64 name ≡ language ++ modifier = cc in
    ap (slice_get (candidates_of_name name)) i ∙ ap Some joined

-- the names left of languages
pub past-five : (name : List ℕ) (n : ℕ) (later : List (List ℕ)) → 5 ≤ n
    → drop n (candidates_of_name name) ++ later ≡ later
unfolding candidates_of_name
past-five name n later l = ap (λ names. names ++ later) (drop_all n (candidates_of_name name) l)

pub no-language-left : (names : List (List ℕ)) (n : ℕ) → names ≡ [] → names_left n names ≡ []
unfolding names_left
no-language-left names n none = ap (names_left n) none

pub next-given : (names : List (List ℕ)) (n : ℕ) (name text : List ℕ) (later : List (List ℕ)) → names ≡ name ∷ later
    → slice_get (candidates_of_name name) n ≡ Some text
    → names_left n names ≡ text ∷ names_left (n + 1) names
unfolding names_left
next-given names n name text later is at =
    ap (names_left n) is ∙ one-given name n text (flat_map candidates_of_name later) at
    ∙ ap (λ names. text ∷ names_left (n + 1) names) (sym is)

pub first-given : (names : List (List ℕ)) (name text : List ℕ) (later : List (List ℕ)) → names ≡ name ∷ later
    → slice_get (candidates_of_name name) 0 ≡ Some text
    → flat_map candidates_of_name names ≡ text ∷ names_left 1 names
unfolding names_left
first-given names name text later is at =
    ap (flat_map candidates_of_name) is ∙ one-given name 0 text (flat_map candidates_of_name later) at
    ∙ ap (λ names. text ∷ names_left 1 names) (sym is)

pub language-passed : (language name : List ℕ) (offset len n : ℕ)
    → language_parts (drop offset language) ≡ name ∷ language_parts (drop len (drop offset language)) → 5 ≤ n
    → names_left n (language_parts (drop offset language))
    ≡ flat_map candidates_of_name (language_parts (drop (offset + len) language))
unfolding names_left
language-passed language name offset len n is five =
    ap (names_left n) is ∙ past-five name n _ five
    ∙ ap (λ rest. flat_map candidates_of_name (language_parts rest)) (drop-drop len offset language)

-- what is said of the names left of one list holds of one that is the same at each position
pub matched-left : (names left : Position → List (List ℕ)) → ((p : Position) → names p ≡ left p)
    → (at : Position) (next : Option (Candidate × Position))
    → MatchOption next (left at ≡ []) (λ n. left at ≡ text_of n.0 ∷ left n.1)
    → MatchOption next (names at ≡ []) (λ n. names at ≡ text_of n.0 ∷ names n.1)
matched-left names left same at None none = same at ∙ none
matched-left names left same at (Some n) is = same at ∙ is ∙ ap (λ later. text_of n.0 ∷ later) (sym (same n.1))

-- the names from a position on
pub barred-from : (locale language : List ℕ) (at : Position) → is_untranslated locale ≡ true
    → names_from locale language at ≡ []
unfolding names_from
barred-from locale language at is = cond-true (is_untranslated locale) [] _ is

not-barred-from : (locale language : List ℕ) (at : Position) → is_untranslated locale ≡ false
    → names_from locale language at
    ≡ names_left at.given (cond (length language == 0) (locale ∷ []) (language_parts (drop at.offset language)))
unfolding names_from
not-barred-from locale language at fine = cond-false (is_untranslated locale) [] _ fine

pub from-locale : (locale language : List ℕ) → is_untranslated locale ≡ false → (length language == 0) ≡ true
    → (at : Position)
    → names_from locale language at ≡ names_left at.given (locale ∷ [])
from-locale locale language fine unset at =
    not-barred-from locale language at fine
    ∙ ap (names_left at.given)
    (cond-true (length language == 0) (locale ∷ []) (language_parts (drop at.offset language)) unset)

pub from-language : (locale language : List ℕ) → is_untranslated locale ≡ false → (length language == 0) ≡ false
    → (at : Position)
    → names_from locale language at ≡ names_left at.given (language_parts (drop at.offset language))
from-language locale language fine set at =
    not-barred-from locale language at fine
    ∙ ap (names_left at.given)
    (cond-false (length language == 0) (locale ∷ []) (language_parts (drop at.offset language)) set)

all-left : (names : List (List ℕ)) → names_left 0 names ≡ flat_map candidates_of_name names
unfolding names_left
all-left [] = refl
all-left (name ∷ names) = refl

-- at the beginning all are left
pub from-start : (locale language : List ℕ) (at : Position) → at.offset ≡ 0 → at.given ≡ 0
    → names_from locale language at ≡ candidates locale language
unfolding names_from
from-start locale language at offset given =
    let bar = is_untranslated locale in
    ap (λ (o : ℕ). cond bar []
    (names_left at.given (cond (length language == 0) (locale ∷ []) (language_parts (drop o language))))) offset
    ∙ ap (λ (g : ℕ). cond bar [] (names_left g (languages locale language))) given
    ∙ ap (λ names. cond bar [] names) (all-left (languages locale language))
