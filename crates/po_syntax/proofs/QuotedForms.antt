-- The quoted form of a text: it spells the text, is UTF-8 as the text is, and holds no byte below space.
use Rattle.po_syntax.proofs.Prelude.{All, All-append, All-cons, All-head, All-tail, Bool, IsAscii, IsAscii-cons, IsUtf8, IsUtf8-append, IsUtf8-from_ascii, IsUtf8-nil, List, None, Option, Some, SpellsString, WritesByte, WritesQuoted, WritesString, [], and_parts, ap, append-nil, append_assoc, arith, byte as writes_byte, cases_lt, closed, closing_quote, cond, cond-true, cond_both, control, delete, digit_char, digit_value, digit_value-digit_char, digits_value, encode_ascii, eqb-false, eqb-true, escape, escape_letter, false, flat_map-append, get_or, if◌then◌else◌, inl, inr, inside_one, is_control, is_raw, length, length_push, letter_value, lt-ltb, ltb-false, ltb-true, nat_lt, nat_tests, octal, octal_escape, or_parts, prefix_len, prefix_len-le-length, prefix_len_passes, quoted, refl, rules, subst, suc, sym, take, take_all, take_more, true, written_byte, written_bytes, zero, ℕ, ◌%◌, ◌++◌, ◌+◌, ◌/◌, ◌<◌, ◌==◌, ◌||◌, ◌∙◌, ◌∷◌, ◌≡◌, ◌≢◌, ◌≤◌}
use Rattle.std.specs.Option.{option_map_or}
use Rattle.po_syntax.specs.Quoting.{letter, plain}
use Rattle.po_syntax.specs.Escape.{letter as letter_escape, plain as plain_byte}
use Rattle.po_syntax.proofs.Escapes.{of_each_byte}
use lib.Utf8.{encode, encodes, scalar, scalars}

written_raw : (b : ℕ) → is_raw b ≡ true → written_byte b ≡ b ∷ []
unfolding written_byte
written_raw b raw = grind (arith, nat_tests)

-- none of the first n bytes of the text needs an escape
abbrev pub AreRaw : ℕ → List ℕ → Type 0
AreRaw n text = (k : ℕ) → k < n → is_raw (get_or text k 0) ≡ true

pub written_run : (n : ℕ) (text : List ℕ) → AreRaw n text → n ≤ length text → written_bytes (take n text) ≡ take n text
written_run zero text raw within = refl
written_run (suc n) [] raw within = absurd (omega arith)
written_run (suc n) (b ∷ text) raw within =
    rw (written_raw b (raw 0 (omega arith)), written_run n text (λ k less. raw (suc k) (omega arith)) (omega arith))

pub written_prefix : (text : List ℕ) (n : ℕ) → n ≡ prefix_len is_raw text
    → written_bytes (take n text) ≡ take n text
written_prefix text n e =
    written_run n text (λ k less. prefix_len_passes is_raw text k 0 (omega (arith, e, less)))
    (omega (arith, e, prefix_len-le-length is_raw text))

-- bytes that are all written as they are, and further ones
pub raw_append : (xs ys : List ℕ) → prefix_len is_raw xs ≡ length xs
    → prefix_len is_raw (xs ++ ys) ≡ length xs + prefix_len is_raw ys
raw_append [] ys h = omega arith
raw_append (x ∷ xs) ys h = found (is_raw x) h (raw_append xs ys) where
  found : (b : Bool) → cond b (1 + prefix_len is_raw xs) 0 ≡ suc (length xs)
      → (prefix_len is_raw xs ≡ length xs → prefix_len is_raw (xs ++ ys) ≡ length xs + prefix_len is_raw ys)
      → cond b (1 + prefix_len is_raw (xs ++ ys)) 0 ≡ suc (length xs) + prefix_len is_raw ys
  found true e more =
      let fewer : prefix_len is_raw xs ≡ length xs = omega (arith, e) in
      omega (arith, more fewer)
  found false e more = absurd (omega (arith, e))

-- one byte more of them
pub raw_more : (xs : List ℕ) (i d : ℕ) → i < length xs → prefix_len is_raw (take i xs) ≡ length (take i xs)
    → is_raw (get_or xs i d) ≡ true → prefix_len is_raw (take (i + 1) xs) ≡ length (take (i + 1) xs)
raw_more xs i d below h raw =
    subst (λ (l : List ℕ). prefix_len is_raw l ≡ length l) (sym (take_more xs i d below))
    (raw_append (take i xs) (get_or xs i d ∷ []) h ∙ ap (λ (b : Bool). length (take i xs) + cond b 1 0) raw
    ∙ sym (length_push (take i xs) (get_or xs i d)))

pub digit_is : (d : ℕ) → d < 10 → digit_char d ≡ 48 + d
digit_is d less = cond-true (nat_lt d 10) (48 + d) (87 + d) (lt-ltb d 10 less)

low_octal : (b : ℕ) → b < 32 → octal_escape b ≡ 92 ∷ 48 ∷ (48 + b / 8) ∷ (48 + b % 8) ∷ []
low_octal b low =
    let high : b / 64 ≡ 0 = omega (arith, low) in
    let middle : (b / 8) % 8 ≡ b / 8 = omega (arith, low) in
    let last : b % 8 < 10 = omega arith in
    let fits : b / 8 < 10 = omega (arith, low) in
    rw (high, middle, digit_is (b / 8) fits, digit_is (b % 8) last) refl

control_writes : (b : ℕ) → escape_letter b ≡ None → is_control b ≡ true → WritesByte b (octal_escape b)
control_writes b none is = by (nat_lt b 32) refl is where
  by : (low : Bool) → nat_lt b 32 ≡ low → (low || b == 127) ≡ true → WritesByte b (octal_escape b)
  by true e h = let less = ltb-true b 32 e in subst (WritesByte b) (sym (low_octal b less)) (control less none)
  by false e h = subst (λ x. WritesByte x (octal_escape x)) (sym (eqb-true b 127 h)) delete

pub byte_written : (b : ℕ) → WritesByte b (written_byte b)
unfolding written_byte
byte_written b = by (escape_letter b) refl where
  by : (found : Option ℕ) → escape_letter b ≡ found
      → WritesByte b (option_map_or (λ l. 92 ∷ l ∷ []) found (if is_control b then octal_escape b else b ∷ []))
  by (Some l) e = letter e
  by None e =
      cond_both (is_control b) (octal_escape b) (b ∷ []) (WritesByte b) (control_writes b e) (λ no_control.
      let parts = or_parts (nat_lt b 32) (b == 127) no_control in
      plain (ltb-false b 32 parts.0) e (eqb-false b 127 parts.1))

string_written : (bytes : List ℕ) → WritesString bytes (written_bytes bytes ++ 34 ∷ [])
string_written [] = closing_quote
string_written (b ∷ bytes) =
    subst (WritesString (b ∷ bytes)) (sym (append_assoc (written_byte b) (written_bytes bytes) (34 ∷ [])))
    (writes_byte (byte_written b) (string_written bytes))

pub quoted_written : (bytes : List ℕ) → WritesQuoted bytes (quoted bytes)
quoted_written bytes = (written_bytes bytes ++ 34 ∷ [], refl, string_written bytes)

digit : (d : ℕ) → d < 8 → digit_value (48 + d) ≡ d
digit d small = subst (λ c. digit_value c ≡ d) (digit_is d (omega arith)) (digit_value-digit_char d (omega arith))

-- before a text that spells some bytes, what is written for a byte spells it and then these
byte_spells : {b : ℕ} {written : List ℕ} → 0 < b → WritesByte b written → {text bytes rest : List ℕ}
    → SpellsString text bytes rest
    → SpellsString (written ++ text) (b ∷ bytes) rest
byte_spells {b} positive (letter {letter = l} e) more =
    escape (letter_escape (of_each_byte (λ v key. letter_value key ≡ Some v) b l (search rules) e)) more
byte_spells positive delete more =
    escape (octal (49 ∷ 55 ∷ 55 ∷ []) (omega arith, (omega arith, (omega arith, (omega arith, tt)))) (omega arith)
    (inl refl) (omega arith, omega arith)) more
byte_spells {b} positive (control low none) {text} {bytes} {rest} more =
    let high = digit (b / 8) (omega arith) in
    let last = digit (b % 8) (omega arith) in
    let digits = 48 ∷ (48 + b / 8) ∷ (48 + b % 8) ∷ [] in
    let value : digits_value 8 digits ≡ b = rw (high, last) (omega arith) in
    subst (λ x. SpellsString (92 ∷ digits ++ text) (x ∷ bytes) rest) value
    (escape (octal digits (omega arith, (omega arith, (omega (arith, high), (omega (arith, last), tt)))) (omega arith)
    (inl refl) (omega (arith, value), omega (arith, value))) more)
byte_spells {b} positive (plain high none no_delete) more =
    plain_byte (other 34 (λ e. cc)) (other 92 (λ e. cc)) more where
      other : (v : ℕ) → escape_letter v ≢ None → b ≢ v
      other v has is = has (subst (λ x. escape_letter x ≡ None) is none)

pub bytes_spell : (bytes rest : List ℕ) → All (λ b. (0 < b) × (b < 256)) bytes
    → SpellsString (written_bytes bytes ++ 34 ∷ rest) bytes rest
bytes_spell [] rest h = closed
bytes_spell (b ∷ bytes) rest h =
    rw append_assoc (byte_spells (h 0 0 (omega arith)).0 (byte_written b)
    (bytes_spell bytes rest (λ k d inside. h (suc k) d (omega arith))))

-- The quoted form of a UTF-8 text is UTF-8, and holds no byte below space.

-- a byte that is no control byte, and below a bound
abbrev Shown : ℕ → ℕ → Type 0
Shown most b = (32 ≤ b) × (b < most)

none_shown : (most : ℕ) → All (Shown most) []
none_shown most = λ k d inside. absurd (omega arith)

one_shown : (most b : ℕ) → Shown most b → All (Shown most) (b ∷ [])
one_shown most b shown = All-cons (Shown most) b [] shown (none_shown most)

-- a backslash and three digits
escape_shown : (most : ℕ) → 128 ≤ most → (x y z : ℕ) → 32 ≤ x → x < 128 → 32 ≤ y → y < 128 → 32 ≤ z → z < 128
    → All (Shown most) (92 ∷ x ∷ y ∷ z ∷ [])
escape_shown most bound x y z a b c d e f =
    All-cons (Shown most) 92 (x ∷ y ∷ z ∷ []) (omega arith, omega arith)
    (All-cons (Shown most) x (y ∷ z ∷ []) (a, omega arith)
    (All-cons (Shown most) y (z ∷ []) (c, omega arith) (one_shown most z (e, omega arith))))

-- what is written for a byte, or an ASCII byte
written_shown : (most : ℕ) → 128 ≤ most → {b : ℕ} {text : List ℕ} → b < most → WritesByte b text → All (Shown most) text
written_shown most bound {b} less (letter {letter = l} e) =
    let range = of_each_byte (λ _ key. (32 ≤ key) × (key < 128)) b l (search (rules, arith)) e in
    All-cons (Shown most) 92 (l ∷ []) (omega arith, omega arith) (one_shown most l (range.0, omega arith))
written_shown most bound less delete =
    escape_shown most bound 49 55 55 (omega arith) (omega arith) (omega arith) (omega arith) (omega arith) (omega arith)
written_shown most bound {b} less (control low none) =
    escape_shown most bound 48 (48 + b / 8) (48 + b % 8) (omega arith) (omega arith) (omega arith) (omega arith)
    (omega arith) (omega arith)
written_shown most bound {b} less (plain high none no_delete) = one_shown most b (high, less)

-- bytes that are no control bytes
bytes_shown : (bytes : List ℕ) → All (λ b. b < 256) bytes → All (Shown 256) (written_bytes bytes)
bytes_shown [] h = none_shown 256
bytes_shown (b ∷ bytes) h =
    All-append (Shown 256) (written_byte b) (written_bytes bytes)
    (written_shown 256 (omega arith) (All-head (λ c. c < 256) b bytes h) (byte_written b))
    (bytes_shown bytes (All-tail (λ c. c < 256) b bytes h))

ascii_from_shown : (bytes : List ℕ) → All (Shown 128) bytes → IsAscii bytes
ascii_from_shown [] h = λ k. omega arith
ascii_from_shown (b ∷ bytes) h =
    IsAscii-cons b bytes (All-head (Shown 128) b bytes h).1 (ascii_from_shown bytes (All-tail (Shown 128) b bytes h))

raw_high : (b : ℕ) → 128 ≤ b → is_raw b ≡ true
raw_high b h = grind (arith, nat_tests)

-- a byte of a character above ASCII
high_byte : (c k : ℕ) → 128 ≤ c → k < length (encode c) → 128 ≤ get_or (encode c) k 0
high_byte c k high inside =
    elim (cases_lt (get_or (encode c) k 0) 128) [
      | inl low ↦ absurd (omega (arith, inside_one c [] (encode c) k (sym (append-nil (encode c))) inside low))
      | inr
          above ↦ above
    ]

-- what is written for a character
char_written : (c : ℕ) → scalar c ≡ true → IsUtf8 (written_bytes (encode c))
char_written c is =
    elim (cases_lt c 128) [
      | inl low ↦ rw (encode_ascii c low, append-nil)
          (IsUtf8-from_ascii _ (ascii_from_shown _ (written_shown 128 (omega arith) low (byte_written c))))
      | inr high ↦
          let run = written_run (length (encode c)) (encode c) (λ k inside. raw_high _ (high_byte c k high inside))
          (omega arith) in
          let same = rw (take_all (length (encode c)) (encode c) (omega arith)) at run in
          rw same (c ∷ [], (rw is refl, append-nil (encode c)))
    ]

chars_written : (cs : List ℕ) → scalars cs ≡ true → IsUtf8 (written_bytes (encodes cs))
chars_written [] h = IsUtf8-nil
chars_written (c ∷ cs) h =
    let parts = and_parts (scalar c) (scalars cs) h in
    rw (flat_map-append written_byte (encode c) (encodes cs))
    (IsUtf8-append _ _ (char_written c parts.0) (chars_written cs parts.1))

quote_utf8 : IsUtf8 (34 ∷ [])
quote_utf8 = IsUtf8-from_ascii (34 ∷ []) (IsAscii-cons 34 [] (omega arith) (λ k. omega arith))

pub quoted_utf8 : (bytes : List ℕ) → IsUtf8 bytes → IsUtf8 (quoted bytes)
quoted_utf8 bytes h =
    let written : IsUtf8 (written_bytes bytes) =
    subst (λ text. IsUtf8 (written_bytes text)) h.1.1 (chars_written h.0 h.1.0) in
    IsUtf8-append (34 ∷ []) (written_bytes bytes ++ 34 ∷ []) quote_utf8
    (IsUtf8-append (written_bytes bytes) (34 ∷ []) written quote_utf8)

pub quoted_shown : (bytes : List ℕ) → All (λ b. b < 256) bytes → All (λ b. 32 ≤ b) (quoted bytes)
quoted_shown bytes h =
    let quote = All-cons (Shown 256) 34 [] (omega arith, omega arith) (none_shown 256) in
    let after = All-append (Shown 256) (written_bytes bytes) (34 ∷ []) (bytes_shown bytes h) quote in
    let all = All-cons (Shown 256) 34 (written_bytes bytes ++ 34 ∷ []) (omega arith, omega arith) after in
    λ k d inside. (all k d inside).0
