-- Lines of UTF-8 without NUL, as their text is, and what is left of one after a token.
use Rattle.po_syntax.proofs.Prelude.{All, All-append, All-cons, All-drop, All-head, All-nil, All-tail, All-take, AllDigits, CommentLine, IsAscii-cons, IsAscii-nil, IsBlank, IsCharBoundary-after_ascii, IsCharBoundary-before_ascii, IsCleanLine, IsText, IsUtf8, IsUtf8-append, IsUtf8-drop, IsUtf8-from_ascii, IsUtf8-nil, IsUtf8-past_char, IsUtf8-take, Keyword, KeywordToken, List, Marks, NoShape, None, OpeningQuote, Shape, Some, SpellsEscape, SpellsKeyword, SpellsString, Tokens, [], all_lines, ap, append_assoc, arith, bytes_eq-Decides, cases_lt, closed, codes, comment_shape, cond-true, cond_both, digit_value, drop, drop-append_seam, eqb-false, escape, first_shape, form, get_or, hash_shape, hexadecimal, inl, inr, length, length-append, letter, letter_value, lines_len, lines_of, lt-ltb, marked_text, msgctxt, msgid, msgid_plural, msgstr, nat_eq, nat_tests, not, not-true, obsolete_shape, octal, plain, position, position_or_len, prefix_len_passes, refl, rules, shape_of, skip_blanks, starts_with, subst, suc, sum_by-cons, sym, take, take-append-add, take-append-drop, take-append_seam, take_all, tilde_shape, token_at, without_byte_order_mark, zero, ℕ, ◌++◌, ◌+◌, ◌<◌, ◌==◌, ◌↔◌, ◌∙◌, ◌∷◌, ◌≡◌, ◌≢◌, ◌≤◌}
use Rattle.po_syntax.proofs.Escapes.{by_byte, of_each_letter}
use Rattle.po_syntax.proofs.Keywords.{of_blank, says, skips}
use Rattle.po_syntax.proofs.Lines.{CommentSays, comment_says, lines_len-lines_of}
use lib.Utf8.{encode}
use Rattle.po_syntax.proofs.LineNumbers.{Cut, cut, first_line, only_line, text_after_mark}

-- the byte at which a text is cut
byte_at : (own rest : List ℕ) (b : ℕ) → get_or (own ++ b ∷ rest) (length own) 0 ≡ b
byte_at [] rest b = refl
byte_at (c ∷ own) rest b = byte_at own rest b

pub before-utf8 : (own rest : List ℕ) (b : ℕ) → b < 128 → IsUtf8 (own ++ b ∷ rest) → IsUtf8 own
before-utf8 own rest b low utf8 =
    let text = own ++ b ∷ rest in
    let inside : length own < length text = omega (arith, length-append own (b ∷ rest)) in
    let cut = IsCharBoundary-before_ascii text (length own) inside (omega (arith, low, byte_at own rest b)) in
    subst IsUtf8 (take-append_seam own (b ∷ rest)) (IsUtf8-take text (length own) utf8 cut)

pub rest-utf8 : (own rest : List ℕ) (b : ℕ) → b < 128 → IsUtf8 (own ++ b ∷ rest) → IsUtf8 rest
rest-utf8 own rest b low utf8 =
    let text = own ++ b ∷ rest in
    let begin = own ++ b ∷ [] in
    let inside : length own < length text = omega (arith, length-append own (b ∷ rest)) in
    let cut = IsCharBoundary-after_ascii text (length own) utf8 inside (omega (arith, low, byte_at own rest b)) in
    let count : length own + 1 ≡ length begin = omega (arith, length-append own (b ∷ [])) in
    let after : drop (length own + 1) text ≡ rest =
    rw (count, ← append_assoc own (b ∷ []) rest) (drop-append_seam begin rest) in
    subst IsUtf8 after (IsUtf8-drop text (length own + 1) utf8 cut)

pub blank_low : (b : ℕ) → IsBlank b → b < 128
blank_low b is = of_blank (λ a. a < 128) (omega arith) (omega arith) (omega arith) (omega arith) (omega arith) b is

after_blanks : (blanks text : List ℕ) → All IsBlank blanks → IsUtf8 (blanks ++ text) → IsUtf8 text
after_blanks [] text all utf8 = utf8
after_blanks (b ∷ blanks) text all utf8 =
    after_blanks blanks text (All-tail IsBlank b blanks all)
    (rest-utf8 [] (blanks ++ text) b (blank_low b (All-head IsBlank b blanks all)) utf8)

skipped : (text : List ℕ) → IsUtf8 text → IsUtf8 (skip_blanks text)
skipped text utf8 =
    let parts = skips text in
    after_blanks parts.blanks (skip_blanks text) parts.are_blanks (subst IsUtf8 (sym parts.whole) utf8)

after_keyword : {text rest : List ℕ} {word : Keyword} → SpellsKeyword text word rest → IsUtf8 text → IsUtf8 rest
after_keyword (msgctxt {rest = rest} ends) = rest-utf8 (codes "msgctx") rest 116 (omega arith)
after_keyword (msgid {rest = rest} ends) = rest-utf8 (codes "msgi") rest 100 (omega arith)
after_keyword (msgid_plural {rest = rest} ends) = rest-utf8 (codes "msgid_plura") rest 108 (omega arith)
after_keyword (msgstr {rest = rest} ends none) = rest-utf8 (codes "msgst") rest 114 (omega arith)
after_keyword (form before inside digits after {rest = rest} p q numeral fits r) = λ utf8.
    rest-utf8 (codes "msgstr" ++ (before ++ 91 ∷ (inside ++ (digits ++ after)))) rest 93 (omega arith)
    (simp append_assoc utf8)

pub token_rest-utf8 : (text : List ℕ) {word : Keyword} {rest : List ℕ} → token_at text ≡ KeywordToken word rest
    → IsUtf8 text → IsUtf8 rest
token_rest-utf8 text e utf8 = after_keyword (says text e) (skipped text utf8)

pub inside-utf8 : (text : List ℕ) {inside : List ℕ} → token_at text ≡ OpeningQuote inside → IsUtf8 text
    → IsUtf8 inside
inside-utf8 text {inside} e utf8 =
    rest-utf8 [] inside 34 (omega arith) (subst IsUtf8 (says text e) (skipped text utf8))

-- a digit is ASCII, as other bytes have no value below 36
digit_low : (c : ℕ) → digit_value c < 36 → c < 128
digit_low c small = grind (arith, nat_tests, small)

after_digits : (base : ℕ) (digits text : List ℕ) → base ≤ 36 → AllDigits base digits → IsUtf8 (digits ++ text)
    → IsUtf8 text
after_digits base [] text within all utf8 = utf8
after_digits base (d ∷ digits) text within all utf8 =
    after_digits base digits text within all.1
    (rest-utf8 [] (digits ++ text) d (digit_low d (omega (arith, all.0, within))) utf8)

letter_low : (b value : ℕ) → letter_value b ≡ Some value → b < 128
letter_low b value e = of_each_letter (λ a v. a < 128) b value (search rules) e

-- what stands after an escape, whose text is ASCII
pub escape_rest-utf8 : {text rest : List ℕ} {b : ℕ} → SpellsEscape text b rest → IsUtf8 text → IsUtf8 rest
escape_rest-utf8 (letter {b = b} {value = value} {rest = rest} e) utf8 = rest-utf8 [] rest b (letter_low b value e) utf8
escape_rest-utf8 (octal digits {rest = rest} numeral few ends byte) utf8 =
    after_digits 8 digits rest (omega arith) numeral.1 utf8
escape_rest-utf8 (hexadecimal digits {rest = rest} numeral ends byte) utf8 =
    after_digits 16 digits rest (omega arith) numeral.1 (rest-utf8 [] (digits ++ rest) 120 (omega arith) utf8)

-- bytes that are spelt, plain ones after them, and then an ASCII byte
pub spelt_more : (spelt own : List ℕ) (b : ℕ) → IsUtf8 spelt → IsUtf8 own → b < 128
    → IsUtf8 (spelt ++ (own ++ b ∷ []))
spelt_more spelt own b before here low =
    IsUtf8-append spelt (own ++ b ∷ []) before
    (IsUtf8-append own (b ∷ []) here (IsUtf8-from_ascii (b ∷ []) (IsAscii-cons b [] low IsAscii-nil)))

-- the text ends with this rest
abbrev Ends : List ℕ → List ℕ → Type 0
Ends text rest = (own : List ℕ) × (text ≡ own ++ rest)

escape_ends : {text rest : List ℕ} {b : ℕ} → SpellsEscape text b rest → Ends text rest
escape_ends (letter {b = b} e) = (b ∷ [], refl)
escape_ends (octal digits numeral few ends byte) = (digits, refl)
escape_ends (hexadecimal digits numeral ends byte) = (120 ∷ digits, refl)

string_ends : {text bytes rest : List ℕ} → SpellsString text bytes rest → Ends text (34 ∷ rest)
string_ends closed = ([], refl)
string_ends (plain {b = b} p q s) = let end = string_ends s in (b ∷ end.0, ap (λ t. b ∷ t) end.1)
string_ends (escape {rest = rest} e s) =
    let own = escape_ends e in
    let end = string_ends s in (
      92 ∷ own.0 ++ end.0,
      ap (λ t. 92 ∷ t)
          (own.1 ∙ ap (λ t. own.0 ++ t) end.1 ∙ sym (append_assoc own.0 end.0 (34 ∷ rest))),
    )

pub string_rest-utf8 : {text bytes rest : List ℕ} → SpellsString text bytes rest → IsUtf8 text → IsUtf8 rest
string_rest-utf8 {rest = rest} s utf8 =
    let end = string_ends s in rest-utf8 end.0 rest 34 (omega arith) (subst IsUtf8 end.1 utf8)

-- the text of a line's tokens
abbrev TokensUtf8 : Shape → Type 0
TokensUtf8 (CommentLine kind text) = Unit {0}
TokensUtf8 (Tokens marks text) = IsUtf8 text
TokensUtf8 NoShape = Unit {0}

of_comment : (text : List ℕ) (shape : Shape) → CommentSays text shape → TokensUtf8 shape
of_comment text (CommentLine kind rest) says = tt
of_comment text (Tokens marks rest) says = absurd says
of_comment text NoShape says = tt

of_obsolete : (text : List ℕ) → IsUtf8 text → TokensUtf8 (obsolete_shape text)
unfolding obsolete_shape
of_obsolete [] utf8 = utf8
of_obsolete (b ∷ rest) utf8 =
    cond_both (b == 35) _ _ TokensUtf8 (λ _. of_comment rest (comment_shape rest) (comment_says rest)) (λ _. utf8)

of_tilde : (text : List ℕ) → IsUtf8 text → TokensUtf8 (tilde_shape text)
unfolding tilde_shape
of_tilde [] utf8 = of_obsolete [] utf8
of_tilde (b ∷ rest) utf8 =
    by_byte (λ a shape. IsUtf8 (a ∷ rest) → TokensUtf8 shape) b 124 (rest-utf8 [] rest 124 (omega arith))
    (λ _ utf8. of_obsolete (skip_blanks (b ∷ rest)) (skipped (b ∷ rest) utf8)) utf8

of_hash : (text : List ℕ) → IsUtf8 text → TokensUtf8 (hash_shape text)
unfolding hash_shape
of_hash [] utf8 = tt
of_hash (b ∷ rest) utf8 =
    let P = λ (a : ℕ) (shape : Shape). IsUtf8 (a ∷ rest) → TokensUtf8 shape in
    by_byte P b 124 (rest-utf8 [] rest 124 (omega arith)) (λ _.
    by_byte P b 126 (λ utf8. of_tilde rest (rest-utf8 [] rest 126 (omega arith) utf8))
    (λ _ _. of_comment (b ∷ rest) (comment_shape (b ∷ rest)) (comment_says (b ∷ rest)))) utf8

of_first : (text : List ℕ) → IsUtf8 text → TokensUtf8 (first_shape text)
unfolding first_shape
of_first [] utf8 = utf8
of_first (b ∷ rest) utf8 =
    by_byte (λ a shape. IsUtf8 (a ∷ rest) → TokensUtf8 shape) b 35
    (λ utf8. of_hash rest (rest-utf8 [] rest 35 (omega arith) utf8)) (λ _ utf8. utf8) utf8

pub tokens-utf8 : (line : List ℕ) {marks : Marks} {text : List ℕ} → shape_of line ≡ Tokens marks text → IsUtf8 line
    → IsUtf8 text
tokens-utf8 line e utf8 = subst TokensUtf8 e (of_first (skip_blanks line) (skipped line utf8))

-- Where a text is UTF-8 without NUL, its lines are, and the other way round.

-- a text before and after an LF
parts : (first rest : List ℕ) → IsText (first ++ 10 ∷ rest) → IsText first × IsText rest
parts first rest h =
    let text = first ++ 10 ∷ rest in
    let after = All-drop (λ b. b ≢ 0) (length first) text h.no_nul in (
      record {
        utf8 = before-utf8 first rest 10 (omega arith) h.utf8;
        no_nul = rw take-append_seam at (All-take (λ b. b ≢ 0) (length first) text h.no_nul);
      },
      record {
        utf8 = rest-utf8 first rest 10 (omega arith) h.utf8;
        no_nul = All-tail (λ b. b ≢ 0) 10 rest (rw drop-append_seam at after);
      },
    )

feed_utf8 : IsUtf8 (10 ∷ [])
unfolding encode
feed_utf8 = (10 ∷ [], (refl, refl))

joined : (first rest : List ℕ) → IsText first → IsText rest → IsText (first ++ 10 ∷ rest)
joined first rest before after = record {
  utf8 = IsUtf8-append first (10 ∷ rest) before.utf8 (IsUtf8-append (10 ∷ []) rest feed_utf8 after.utf8);
  no_nul = All-append (λ b. b ≢ 0) first (10 ∷ rest) before.no_nul
      (All-cons (λ b. b ≢ 0) 10 rest (omega arith) after.no_nul);
}

-- the first lines of a text, which has one or more
only_taken : (count : ℕ) (text : List ℕ) → lines_of text ≡ text ∷ [] → take (suc count) (lines_of text) ≡ text ∷ []
only_taken count text is = ap (take (suc count)) is ∙ take_all (suc count) (text ∷ []) (omega arith)

-- so many bytes as the first lines have
all_taken : (text : List ℕ) → take (lines_len (text ∷ [])) text ≡ text
all_taken text =
    take_all (lines_len (text ∷ [])) text (omega (arith, sum_by-cons (λ (l : List ℕ). length l + 1) text []))

first_taken : (first rest : List ℕ) (lines : List (List ℕ))
    → take (lines_len (first ∷ lines)) (first ++ 10 ∷ rest) ≡ first ++ 10 ∷ take (lines_len lines) rest
first_taken first rest lines =
    let len : lines_len (first ∷ lines) ≡ length first + suc (lines_len lines) =
    omega (arith, sum_by-cons (λ (l : List ℕ). length l + 1) first lines) in
    ap (λ n. take n (first ++ 10 ∷ rest)) len ∙ take-append-add first (10 ∷ rest) (suc (lines_len lines))

lines_clean : (count : ℕ) (text : List ℕ) → Cut text → IsText (take (lines_len (take count (lines_of text))) text)
    → All IsCleanLine (take count (lines_of text))
lines_clean zero text parted h = All-nil IsCleanLine
lines_clean (suc count) text (only_line lacks is) h =
    let lines = only_taken count text is in
    let own = subst IsText (all_taken text) (subst (λ l. IsText (take (lines_len l) text)) lines h) in
    rw lines (All-cons IsCleanLine text [] (record { utf8 = own.utf8; no_nul = own.no_nul; one_line = lacks })
    (All-nil IsCleanLine))
lines_clean (suc count) text (first_line first rest lacks is) h =
    let lines = ap (take (suc count)) is in
    let both = parts first (take (lines_len (take count (lines_of rest))) rest)
    (subst IsText (first_taken first rest (take count (lines_of rest)))
    (subst (λ l. IsText (take (lines_len l) (first ++ 10 ∷ rest))) lines h)) in
    rw lines (All-cons IsCleanLine first (take count (lines_of rest))
    (record { utf8 = both.0.utf8; no_nul = both.0.no_nul; one_line = lacks })
    (lines_clean count rest (cut rest) both.1))

text_clean : (count : ℕ) (text : List ℕ) → Cut text → All IsCleanLine (take count (lines_of text))
    → IsText (take (lines_len (take count (lines_of text))) text)
text_clean zero text parted h = record { utf8 = IsUtf8-nil; no_nul = All-nil (λ b. b ≢ 0) }
text_clean (suc count) text (only_line lacks is) h =
    let lines = only_taken count text is in
    let own = All-head IsCleanLine text [] (subst (All IsCleanLine) lines h) in
    rw (lines, all_taken) (record { utf8 = own.utf8; no_nul = own.no_nul })
text_clean (suc count) text (first_line first rest lacks is) h =
    let lines = ap (take (suc count)) is in
    let all = subst (All IsCleanLine) lines h in
    let own = All-head IsCleanLine first (take count (lines_of rest)) all in
    let others = text_clean count rest (cut rest) (All-tail IsCleanLine first (take count (lines_of rest)) all) in
    rw (lines, first_taken) (joined first (take (lines_len (take count (lines_of rest))) rest)
    (record { utf8 = own.utf8; no_nul = own.no_nul }) others)

-- the first lines of a text are clean exactly if its bytes up to their end are
pub first_lines_clean : (count : ℕ) (text : List ℕ)
    → IsText (take (lines_len (take count (lines_of text))) text) ↔ All IsCleanLine (take count (lines_of text))
first_lines_clean count text = (lines_clean count text (cut text), text_clean count text (cut text))

-- and all of its lines, exactly if it is
all_lines_clean : (text : List ℕ) → IsText text ↔ All IsCleanLine (lines_of text)
all_lines_clean text =
    let lines = lines_of text in
    let all : take (length lines) lines ≡ lines = take_all (length lines) lines (omega arith) in
    let whole : take (lines_len lines) text ≡ text =
    take_all (lines_len lines) text (omega (arith, lines_len-lines_of text)) in
    rw (all, whole) at (first_lines_clean (length lines) text)

pub lines_of_text : (text : List ℕ) → IsText text → All IsCleanLine (lines_of text)
lines_of_text text = (all_lines_clean text).0

-- a text whose lines are clean is so itself, with its byte order mark
pub text_of_clean_lines : (text : List ℕ) → All IsCleanLine (all_lines text).lines → IsText text
text_of_clean_lines text h = marked ((all_lines_clean (without_byte_order_mark text)).1 h) where
  marked : IsText (without_byte_order_mark text) → IsText text
  marked = cond_both (starts_with nat_eq text (0xEF ∷ 0xBB ∷ 0xBF ∷ [])) (drop 3 text) text
      (λ own. IsText own → IsText text) (λ e own.
      let mark : 0xEF ∷ 0xBB ∷ 0xBF ∷ [] ≡ take 3 text =
      (bytes_eq-Decides (0xEF ∷ 0xBB ∷ 0xBF ∷ []) (take 3 text)).0 e in
      let whole : marked_text (drop 3 text) ≡ text = ap (λ l. l ++ drop 3 text) mark ∙ take-append-drop 3 text in
      subst IsText whole (text_after_mark (drop 3 text) own)) (λ _ own. own)

-- a text lacks a byte that is found nowhere in it
lacks_all : (byte : ℕ) (text : List ℕ) → length text ≤ position_or_len (λ b. b == byte) text → All (λ b. b ≢ byte) text
lacks_all byte text h = λ k d inside.
    let less : k < position_or_len (λ b. b == byte) text = omega arith in
    eqb-false _ _ (not-true _ (prefix_len_passes (λ b. not (b == byte)) text k d less))

-- a byte order mark is a character of its own
utf8_after_mark : (text : List ℕ) → IsUtf8 text → IsUtf8 (without_byte_order_mark text)
unfolding encode
utf8_after_mark text utf8 =
    cond_both (starts_with nat_eq text (0xEF ∷ 0xBB ∷ 0xBF ∷ [])) (drop 3 text) text IsUtf8 (λ e.
    let mark : 0xEF ∷ 0xBB ∷ 0xBF ∷ [] ≡ take 3 text = (bytes_eq-Decides (0xEF ∷ 0xBB ∷ 0xBF ∷ []) (take 3 text)).0 e in
    IsUtf8-past_char text (drop 3 text) 0xFEFF utf8 (sym (rw (sym mark) at (take-append-drop 3 text)))) (λ _. utf8)

pub no_nul_all : (text : List ℕ) → position (λ b. b == 0) text ≡ None → All (λ b. b ≢ 0) text
no_nul_all text h =
    elim (cases_lt (position_or_len (λ b. b == 0) text) (length text)) [
      | inl inside ↦ absurd (let found =
          cond-true _ (Some (position_or_len (λ b. b == 0) text)) None (lt-ltb _ _ inside) in cc)
      | inr none ↦ lacks_all 0 text none
    ]

pub clean_lines : (text : List ℕ) → IsUtf8 text → All (λ b. b ≢ 0) text
    → All IsCleanLine (lines_of (without_byte_order_mark text))
clean_lines text utf8 no_nul =
    let own = without_byte_order_mark text in
    let lacks = cond_both (starts_with nat_eq text (0xEF ∷ 0xBB ∷ 0xBF ∷ [])) (drop 3 text) text (All (λ b. b ≢ 0))
    (λ _. All-drop (λ b. b ≢ 0) 3 text no_nul) (λ _. no_nul) in
    lines_of_text own (record { utf8 = utf8_after_mark text utf8; no_nul = lacks })
