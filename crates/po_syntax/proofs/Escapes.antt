-- An escape: it is read as the byte that it spells, or as its fault, and what is read spells its byte.
use Rattle.po_syntax.proofs.Prelude.{AllDigits, BadEscape, Bool, Byte, End, EscapeFault, ForbiddenByte, IsByteNumber, IsNumeral, List, NoDigitFirst, None, NumberFault, Option, PoFault, Some, SpellsEscape, SpellsString, Step, Stop, [], ap, arith, at_end, closed, cond, cond-false, cond_both, digit_count, digit_value, digits_value, drop, drop-append_seam, eqb-false, eqb-true, escape, escape_at, escape_letter, escape_letters, false, find, hexadecimal, hexadecimal_digits, inl, inr, is_digit, large, le-ltb, length, length-append, length-take, letter, letter_step, letter_value, lt-ltb, ltb-false, ltb-true, nat_lt, ne_eqb, no_digit, no_escape, number_step, numbered, octal, option_map, plain, refl, rules, subst, suc, sym, take, take-append-drop, take-append_seam, true, zero, ℕ, ◌++◌, ◌+◌, ◌<◌, ◌==◌, ◌∙◌, ◌∷◌, ◌≡◌, ◌≤◌, ◌⊎◌}
use Rattle.po_syntax.specs.LineFaults.{nul, octal as octal_fault}

-- what holds where a byte is this one, and where it is another
pub by_byte : {A : Type 0} (P : ℕ → A → Type 0) (b k : ℕ) {x y : A} → P k x → ((b == k) ≡ false → P b y)
    → P b (cond (b == k) x y)
by_byte P b k {x} {y} is other = cond_both (b == k) x y (P b) (λ e. subst (λ a. P a x) (sym (eqb-true b k e)) is) other

-- as many digits as there are, up to so many
pub count_prefix : (base most : ℕ) (digits rest : List ℕ) → AllDigits base digits → length digits ≤ most
    → (length digits ≡ most) ⊎ NoDigitFirst base rest → digit_count base (take most (digits ++ rest)) ≡ length digits
count_prefix base zero [] rest all within end = refl
count_prefix base (suc most) [] rest all within (inl full) = absurd (omega (arith, full))
count_prefix base (suc most) [] [] all within (inr none) = refl
count_prefix base (suc most) [] (b ∷ rest) all within (inr none) = rw none refl
count_prefix base zero (d ∷ digits) rest all within end = absurd (omega (arith, within))
count_prefix base (suc most) (d ∷ digits) rest all within (inl full) =
    rw (lt-ltb (digit_value d) base all.0)
    (omega (arith, count_prefix base most digits rest all.1 (omega (arith, within)) (inl (omega (arith, full)))))
count_prefix base (suc most) (d ∷ digits) rest all within (inr none) =
    rw (lt-ltb (digit_value d) base all.0)
    (omega (arith, count_prefix base most digits rest all.1 (omega (arith, within)) (inr none)))

-- as many digits as there are
pub count_all : (base : ℕ) (digits rest : List ℕ) → AllDigits base digits → NoDigitFirst base rest
    → digit_count base (digits ++ rest) ≡ length digits
count_all base [] [] all none = refl
count_all base [] (b ∷ rest) all none = rw none refl
count_all base (d ∷ digits) rest all none =
    rw (lt-ltb (digit_value d) base all.0) (omega (arith, count_all base digits rest all.1 none))

number_read : (base : ℕ) (digits rest : List ℕ) → IsByteNumber (digits_value base digits)
    → number_step base (length digits) (digits ++ rest) ≡ Byte (digits_value base digits) rest
number_read base digits rest small =
    rw (
      take-append_seam digits rest,
      drop-append_seam digits rest,
      ne_eqb (digits_value base digits) 0 (λ none. omega (arith, small.0, none)),
      lt-ltb (digits_value base digits) 256 small.1,
    ) refl

-- what an escape of digits is read as: the byte with their number, or a fault
pub octal_at : (digits rest : List ℕ) → IsNumeral 8 digits → length digits ≤ 3
    → (length digits ≡ 3) ⊎ NoDigitFirst 8 rest
    → escape_at (digits ++ rest) ≡ number_step 8 (length digits) (digits ++ rest)
unfolding escape_at
octal_at [] rest numeral within end = absurd (omega (arith, numeral.0))
octal_at (d ∷ digits) rest numeral within end =
    rw (count_prefix 8 3 (d ∷ digits) rest numeral.1 within end, lt-ltb (digit_value d) 8 numeral.1.0) refl

pub hexadecimal_at : (digits rest : List ℕ) → IsNumeral 16 digits → NoDigitFirst 16 rest
    → escape_at (120 ∷ digits ++ rest) ≡ number_step 16 (length digits) (digits ++ rest)
unfolding escape_at
hexadecimal_at digits rest numeral none =
    rw (count_all 16 digits rest numeral.1 none, ne_eqb (length digits) 0 (λ same. omega (arith, same, numeral.0))) refl

-- what holds of each row of a table
abbrev OfEach : (ℕ × ℕ → Type 0) → List (ℕ × ℕ) → Type 0
OfEach P [] = Unit {0}
OfEach P (row ∷ table) = P row × OfEach P table

-- what holds of each row holds of what stands in the row of a key
of_found : (key value : ℕ × ℕ → ℕ) (P : ℕ → ℕ → Type 0) (k v : ℕ) (table : List (ℕ × ℕ))
    → OfEach (λ row. P (key row) (value row)) table
    → option_map value (find (λ row. k == key row) table) ≡ Some v → P k v
of_found key value P k v [] each e = absurd (cc)
of_found key value P k v (row ∷ table) each e = at (k == key row) refl e (of_found key value P k v table each.1) where
  at : (test : Bool) → (k == key row) ≡ test
      → option_map value (cond test (Some row) (find (λ other. k == key other) table)) ≡ Some v
      → (option_map value (find (λ other. k == key other) table) ≡ Some v → P k v) → P k v
  at true is same later = let found : value row ≡ v =
      cc in subst (P k) found (subst (λ x. P x (value row)) (sym (eqb-true k (key row) is)) each.0)
  at false other same later = later same

-- what holds of each escape's byte and its letter, and of each letter and its byte
pub of_each_byte : (P : ℕ → ℕ → Type 0) (b key : ℕ) → OfEach (λ row. P row.1 row.0) escape_letters
    → escape_letter b ≡ Some key → P b key
of_each_byte P b key each e = of_found (λ row. row.1) (λ row. row.0) P b key escape_letters each e

pub of_each_letter : (P : ℕ → ℕ → Type 0) (b value : ℕ) → OfEach (λ row. P row.0 row.1) escape_letters
    → letter_value b ≡ Some value → P b value
of_each_letter P b value each e = of_found (λ row. row.0) (λ row. row.1) P b value escape_letters each e

pub letter_read : (b value : ℕ) (rest : List ℕ) → letter_value b ≡ Some value → escape_at (b ∷ rest) ≡ Byte value rest
unfolding escape_at
letter_read b value rest e = of_each_letter (λ a v. escape_at (a ∷ rest) ≡ Byte v rest) b value (search rules) e

pub escape_read : {text rest : List ℕ} {b : ℕ} → SpellsEscape text b rest → escape_at text ≡ Byte b rest
escape_read (letter {b = b} {value = value} {rest = rest} e) = letter_read b value rest e
escape_read (octal digits {rest = rest} numeral within end small) =
    octal_at digits rest numeral within end ∙ number_read 8 digits rest small
escape_read (hexadecimal digits {rest = rest} numeral none small) =
    hexadecimal_at digits rest numeral none ∙ number_read 16 digits rest small

number_stops : {number : ℕ} {fault : PoFault} (rest : List ℕ) → NumberFault number fault
    → numbered number rest ≡ Stop fault
number_stops rest nul = refl
number_stops rest (large {number = number} past) =
    rw (ne_eqb number 0 (λ none. omega (arith, past, none)), le-ltb number 256 past) refl

digits_stop : {fault : PoFault} (base : ℕ) (digits rest : List ℕ) → NumberFault (digits_value base digits) fault
    → number_step base (length digits) (digits ++ rest) ≡ Stop fault
digits_stop base digits rest h = rw (take-append_seam digits rest, drop-append_seam digits rest) (number_stops rest h)

pub escape_stops : {text : List ℕ} {fault : PoFault} → EscapeFault text fault → escape_at text ≡ Stop fault
unfolding escape_at
escape_stops at_end = refl
escape_stops (no_escape {b = b} {text = text} other no_x none) =
    cond-false (is_digit b 8) _ _ other ∙ cond-false (b == 120) _ _ (ne_eqb b 120 no_x)
    ∙ ap (λ v. letter_step v text) none
escape_stops (octal_fault digits rest numeral within end h) =
    octal_at digits rest numeral within end ∙ digits_stop 8 digits rest h
escape_stops (no_digit {rest = rest} none) = rw (count_all 16 [] rest tt none) refl
escape_stops (hexadecimal_digits digits rest numeral none h) =
    hexadecimal_at digits rest numeral none ∙ digits_stop 16 digits rest h

-- What is read after a backslash is what spells its byte, or has a fault.

-- the first n bytes are digits, at most so many, and no digit follows where there are fewer
abbrev ArePrefix : ℕ → ℕ → List ℕ → ℕ → Type 0
ArePrefix base most text n = AllDigits base (take n text) × (length (take n text) ≤ most)
    × ((length (take n text) ≡ most) ⊎ NoDigitFirst base (drop n text))

prefix_step : (base most b : ℕ) (text : List ℕ) (n more : ℕ) (test : Bool) → more ≡ suc n → is_digit b base ≡ test
    → ArePrefix base most text n → ArePrefix base (suc most) (b ∷ text) (cond test more 0)
prefix_step base most b text n more true same e h =
    rw same (
      (ltb-true (digit_value b) base e, h.0),
      omega (arith, h.1),
      elim (h.2) [ inl all ↦ inl (omega (arith, all)) | inr none ↦ inr none ],
    )
prefix_step base most b text n more false same e h = (tt, omega arith, inr e)

prefix : (base most : ℕ) (text : List ℕ) → ArePrefix base most text (digit_count base (take most text))
prefix base zero text = (tt, omega arith, inl refl)
prefix base (suc most) [] = (tt, omega arith, inr tt)
prefix base (suc most) (b ∷ text) =
    prefix_step base most b text (digit_count base (take most text)) (1 + digit_count base (take most text))
    (is_digit b base) (omega arith) refl (prefix base most text)

-- the first n bytes are digits, and no digit follows
abbrev pub AreAll : ℕ → List ℕ → ℕ → Type 0
AreAll base text n = AllDigits base (take n text) × (n ≤ length (take n text)) × NoDigitFirst base (drop n text)

all_step : (base b : ℕ) (text : List ℕ) (n more : ℕ) (test : Bool) → more ≡ suc n → is_digit b base ≡ test
    → AreAll base text n → AreAll base (b ∷ text) (cond test more 0)
all_step base b text n more true same e h =
    rw same ((ltb-true (digit_value b) base e, h.0), omega (arith, h.1), h.2)
all_step base b text n more false same e h = (tt, omega arith, e)

pub all_digits : (base : ℕ) (text : List ℕ) → AreAll base text (digit_count base text)
all_digits base [] = (tt, omega arith, tt)
all_digits base (b ∷ text) =
    all_step base b text (digit_count base text) (1 + digit_count base text) (is_digit b base) (omega arith) refl
    (all_digits base text)

-- what a step after a backslash says of the text
abbrev pub EscapeSays : List ℕ → Step → Type 0
EscapeSays text (End rest) = ⊥
EscapeSays text (Byte b rest) = SpellsEscape text b rest
EscapeSays text (Stop fault) = EscapeFault text fault

positive : (n : ℕ) → (n == 0) ≡ false → 0 < n
positive zero e = absurd (cc)
positive (suc n) e = omega arith

-- the number of a prefix of digits, where the escape that it numbers is spelt, or has a fault
number_says : (base count : ℕ) (text whole : List ℕ)
    → ((0 < digits_value base (take count text)) × (digits_value base (take count text) < 256)
    → SpellsEscape whole (digits_value base (take count text)) (drop count text))
    → ((fault : PoFault) → NumberFault (digits_value base (take count text)) fault → EscapeFault whole fault)
    → EscapeSays whole (number_step base count text)
number_says base count text whole spells stops =
    let number = digits_value base (take count text) in
    cond_both (number == 0) _ _ (EscapeSays whole)
    (λ none. stops ForbiddenByte (subst (λ n. NumberFault n ForbiddenByte) (sym (eqb-true number 0 none)) nul))
    (λ other.
    cond_both (nat_lt number 256) (Byte number (drop count text)) (Stop BadEscape) (EscapeSays whole)
    (λ less. spells (positive number other, ltb-true number 256 less))
    (λ past. stops BadEscape (large (ltb-false number 256 past))))

octal_says : (b : ℕ) (text : List ℕ) → is_digit b 8 ≡ true
    → EscapeSays (b ∷ text) (number_step 8 (digit_count 8 (take 3 (b ∷ text))) (b ∷ text))
octal_says b text e =
    let count = digit_count 8 (take 3 (b ∷ text)) in
    let read = take count (b ∷ text) in
    let rest = drop count (b ∷ text) in
    let digits = prefix 8 3 (b ∷ text) in
    let counted : 0 < count = rw e (omega arith) in
    let some : 0 < length read = omega (arith, counted, length-take count (b ∷ text)) in
    let whole : read ++ rest ≡ b ∷ text = take-append-drop count (b ∷ text) in
    number_says 8 count (b ∷ text) (b ∷ text)
    (λ small. subst (λ t. SpellsEscape t (digits_value 8 read) rest) whole
    (octal read (some, digits.0) digits.1 digits.2 small))
    (λ fault h. subst (λ t. EscapeFault t fault) whole (octal_fault read rest (some, digits.0) digits.1 digits.2 h))

hexadecimal_says : (text : List ℕ) → (digit_count 16 text == 0) ≡ false
    → EscapeSays (120 ∷ text) (number_step 16 (digit_count 16 text) text)
hexadecimal_says text other =
    let count = digit_count 16 text in
    let read = take count text in
    let rest = drop count text in
    let digits = all_digits 16 text in
    let some : 0 < length read = omega (arith, positive count other, digits.1) in
    let whole : read ++ rest ≡ text = take-append-drop count text in
    number_says 16 count text (120 ∷ text)
    (λ small. subst (λ t. SpellsEscape (120 ∷ t) (digits_value 16 read) rest) whole
    (hexadecimal read (some, digits.0) digits.2 small))
    (λ fault h. subst (λ t. EscapeFault (120 ∷ t) fault) whole
    (hexadecimal_digits read rest (some, digits.0) digits.2 h))

no_digit_says : (text : List ℕ) → (digit_count 16 text == 0) ≡ true → EscapeFault (120 ∷ text) BadEscape
no_digit_says text none =
    let count : digit_count 16 text ≡ 0 = eqb-true (digit_count 16 text) 0 none in
    no_digit (subst (λ n. NoDigitFirst 16 (drop n text)) count (all_digits 16 text).2)

letter_says : (b : ℕ) (text : List ℕ) → is_digit b 8 ≡ false → (b == 120) ≡ false → (value : Option ℕ)
    → letter_value b ≡ value → EscapeSays (b ∷ text) (letter_step value text)
letter_says b text no_octal no_x None e = no_escape no_octal (eqb-false b 120 no_x) e
letter_says b text no_octal no_x (Some value) e = letter e

pub escape_says : (text : List ℕ) → EscapeSays text (escape_at text)
unfolding escape_at
escape_says [] = at_end
escape_says (b ∷ text) =
    cond_both (is_digit b 8) _ _ (EscapeSays (b ∷ text)) (λ e. octal_says b text e) (λ no_octal.
    by_byte (λ x s. EscapeSays (x ∷ text) s) b 120
    (cond_both (digit_count 16 text == 0) (Stop BadEscape) _ (EscapeSays (120 ∷ text)) (no_digit_says text)
    (hexadecimal_says text))
    (λ no_x. letter_says b text no_octal no_x (letter_value b) refl))

-- what stands after an escape is shorter
pub escape_shorter : {text rest : List ℕ} {b : ℕ} → SpellsEscape text b rest → length rest < length text
escape_shorter (octal digits {rest = rest} numeral few ends byte) = omega (arith, numeral.0, length-append digits rest)
escape_shorter (hexadecimal digits {rest = rest} numeral ends byte) = omega (arith, length-append digits rest)
escape_shorter _ = omega arith

-- what stands after a quoted string is shorter
pub string_shorter : {text bytes rest : List ℕ} → SpellsString text bytes rest → length rest < length text
string_shorter closed = omega arith
string_shorter (plain p q s) = omega (arith, string_shorter s)
string_shorter (escape e s) = omega (arith, escape_shorter e, string_shorter s)
