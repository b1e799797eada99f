-- The count that a text gives is that of its digits.
use Rattle.gettext.proofs.Prelude.{GivesCount, List, SpellsAfter, SpellsNumber, [], and_from, and_parts, ap, are_digits, arith, both_ways, cases_Bool, cond-false, cond-true, cond_both, count_in, digit_from_value, digit_value, digits_value, digits_value_after, eqb, false, false_from_ne_true, get_or, inl, inr, is_count, is_digit, length, lt-ltb, ltb, ltb-false, ltb-true, ne_eqb, nil-from_length, not, not-true, refl, some-from_length, subst, sym, true, ℕ, ◌&&◌, ◌*◌, ◌+◌, ◌<◌, ◌^◌, ◌↔◌, ◌∙◌, ◌∷◌, ◌≡◌, ◌≤◌}
use Rattle.std.proofs.Common.{Err, Ok, Result, nat_eq}
use Rattle.std.proofs.lemmas.Bool.{eqb-true}
use Rattle.std.specs.List.{starts_with}
use Rattle.std.proofs.lemmas.Bool.Decides.{nat_tests}
use Rattle.std.specs.Result.{OkIff, result_unwrap_or}
use Rattle.std.specs.Str.{IsUtf8}
use Rattle.std.specs.Str.Parse.{AllDigits, ParsesUnsigned}
use Rattle.std.proofs.lemmas.Fmt.{IsAscii-from_digits}
use Rattle.std.proofs.lemmas.Str.{IsUtf8-from_ascii, digit_value_digit}
use Rattle.std.proofs.lemmas.Str.Parse.{numerals_by_value, parse_plain, tells_digits}
use Rattle.gettext.specs.Count.{digit, no_digit, number, other}

all_digits : (text : List ℕ) → are_digits text ≡ true → AllDigits 10 text
all_digits [] e = tt
all_digits (c ∷ text) e =
    let p = and_parts (is_digit c 10) (are_digits text) e in (ltb-true (digit_value c) 10 p.0, all_digits text p.1)

from_digits : (text : List ℕ) → AllDigits 10 text → are_digits text ≡ true
from_digits [] all = refl
from_digits (c ∷ text) all =
    and_from (is_digit c 10) (are_digits text) (lt-ltb (digit_value c) 10 all.0) (from_digits text all.1)

-- a text that isn't digits alone
other_count : (text : List ℕ) → (AllDigits 10 text → ⊥) → 99 ≡ count_in text
unfolding count_in
other_count text fails =
    sym (cond-false (is_count text) _ _ (false_from_ne_true (is_count text)
    (λ e. let p = and_parts (not (eqb (length text) 0) && are_digits text)
    (ltb (digits_value 10 text) 18446744073709551616) e in
    fails (all_digits text (and_parts (not (eqb (length text) 0)) (are_digits text) p.0).1))))

pub count-no_utf8 : (text : List ℕ) → (IsUtf8 text → ⊥) → 99 ≡ count_in text
count-no_utf8 text none = other_count text (λ all. none (IsUtf8-from_ascii text (IsAscii-from_digits text all)))

pub count-sign : (text : List ℕ) → starts_with nat_eq text (43 ∷ []) ≡ true → 99 ≡ count_in text
count-sign [] sign = absurd cc
count-sign (c ∷ text) sign =
    let is = eqb-true 43 c (and_parts (eqb 43 c) _ sign).0 in
    other_count (c ∷ text) (λ all. omega (arith, digit_from_value c all.0, is))

no_sign : (text : List ℕ) → starts_with nat_eq text (43 ∷ []) ≡ false → get_or text 0 0 ≡ 43 → ⊥
no_sign [] plain is = cc
no_sign (c ∷ text) plain is = let sign = rw is at plain in cc

pub count-parsed : {E : Type 0} (text : List ℕ) (r : Result ℕ E) → starts_with nat_eq text (43 ∷ []) ≡ false
    → ParsesUnsigned 64 10 text r → result_unwrap_or r 99 ≡ count_in text
unfolding count_in
count-parsed {E} text r plain parses =
    by r (parse_plain (numerals_by_value (AllDigits 10) tells_digits) 64 text r parses (no_sign text plain)) where
      by : (r : Result ℕ E) → OkIff r (AllDigits 10 text × (0 < length text) × (digits_value 10 text < 2 ^ 64))
          (digits_value 10 text) → result_unwrap_or r 99 ≡ count_in text
      by (Ok v) is = is.1 ∙ sym (cond-true (is_count text) _ _
          (and_from _ _ (and_from _ _ (ap not (ne_eqb (length text) 0 (λ none. omega (arith, is.0.1, none))))
          (from_digits text is.0.0))
          (lt-ltb (digits_value 10 text) 18446744073709551616 is.0.2)))
      by (Err e) fails = sym (cond-false (is_count text) _ _ (false_from_ne_true (is_count text) (λ counts.
          let p = and_parts (not (eqb (length text) 0) && are_digits text)
          (ltb (digits_value 10 text) 18446744073709551616) counts in
          let q = and_parts (not (eqb (length text) 0)) (are_digits text) p.0 in
          let some = not-true (eqb (length text) 0) q.0 in
          fails (
            all_digits text q.1,
            grind (arith, nat_tests, some),
            ltb-true (digits_value 10 text) 18446744073709551616 p.1,
          ))))

-- The count that a text gives is that of its digits.

-- the byte of a digit
digit_byte : (c : ℕ) → digit_value c < 10 → c ≡ 48 + digit_value c
digit_byte c small = let is = digit_value_digit c (digit_from_value c small) in omega (arith, is)

value_of_digit : (a : ℕ) → a < 10 → digit_value (48 + a) ≡ a
value_of_digit a small = let is = digit_value_digit (48 + a) (omega arith, omega (arith, small)) in omega (arith, is)

spelt : (first : ℕ) (text : List ℕ) → are_digits text ≡ true → SpellsAfter first text (digits_value_after 10 first text)
spelt first [] e = no_digit
spelt first (c ∷ text) e =
    let p = and_parts (is_digit c 10) (are_digits text) e in
    let small = ltb-true (digit_value c) 10 p.0 in
    subst (λ b. SpellsAfter first (b ∷ text) (digits_value_after 10 (first * 10 + digit_value c) text))
    (sym (digit_byte c small))
    (digit (digit_value c) small (spelt (first * 10 + digit_value c) text p.1))

-- what is spelt is digits alone, of this value
abbrev Digits : ℕ → List ℕ → ℕ → Type 0
Digits first text n = (are_digits text ≡ true) × (digits_value_after 10 first text ≡ n)

digits : {first n : ℕ} {text : List ℕ} → SpellsAfter first text n → Digits first text n
digits no_digit = (refl, refl)
digits (digit {first = first} {number = n} {text = text} a small more) =
    let is = value_of_digit a small in
    let rest = digits more in (
      and_from (is_digit (48 + a) 10) (are_digits text)
          (lt-ltb (digit_value (48 + a)) 10 (omega (arith, is, small))) rest.0,
      ap (λ d. digits_value_after 10 (first * 10 + d) text) is ∙ rest.1,
    )

-- a text gives its number
counts : (text : List ℕ) (n : ℕ) → SpellsNumber text n → n < 2 ^ 64 → is_count text ≡ true
counts text n h small =
    let d = digits h.digits in
    and_from (not (eqb (length text) 0) && are_digits text) (ltb (digits_value 10 text) 18446744073709551616)
    (and_from (not (eqb (length text) 0)) (are_digits text)
    (ap not (false_from_ne_true (eqb (length text) 0) (λ e. h.some (nil-from_length text e)))) d.0)
    (lt-ltb (digits_value 10 text) 18446744073709551616 (omega (arith, d.1, small)))

spells : (text : List ℕ) → is_count text ≡ true
    → SpellsNumber text (digits_value 10 text) × (digits_value 10 text < 2 ^ 64)
spells text e =
    let p = and_parts (not (eqb (length text) 0) && are_digits text)
    (ltb (digits_value 10 text) 18446744073709551616) e in
    let q = and_parts (not (eqb (length text) 0)) (are_digits text) p.0 in (
      record { some = some-from_length text (not-true (eqb (length text) 0) q.0); digits = spelt 0 text q.1 },
      ltb-true (digits_value 10 text) 18446744073709551616 p.1,
    )

count_given : (text : List ℕ) → GivesCount text (count_in text)
unfolding count_in
count_given text =
    cond_both (is_count text) (digits_value 10 text) 99 (GivesCount text) (λ e. let s = spells text e in number s.0 s.1)
    (λ e. other (λ n h. large n h e)) where
      large : (n : ℕ) → SpellsNumber text n → is_count text ≡ false → 2 ^ 64 ≤ n
      large n h e = elim (cases_Bool (ltb n 18446744073709551616)) [
        | inl l ↦ absurd (both_ways (is_count text) e (counts text n h (ltb-true n 18446744073709551616 l)))
        | inr l ↦ ltb-false n 18446744073709551616 l
      ]

is_given : (text : List ℕ) (count : ℕ) → GivesCount text count → count ≡ count_in text
unfolding count_in
is_given text count (number h small) =
    sym (cond-true (is_count text) (digits_value 10 text) 99 (counts text count h small) ∙ (digits h.digits).1)
is_given text count (other large) =
    sym (cond-false (is_count text) (digits_value 10 text) 99
    (false_from_ne_true (is_count text)
    (λ e. let s = spells text e in omega (arith, s.1, large (digits_value 10 text) s.0))))

pub counts_given : (text : List ℕ) (count : ℕ) → (count ≡ count_in text) ↔ GivesCount text count
counts_given text count = (λ is. subst (GivesCount text) (sym is) (count_given text), λ h. is_given text count h)
