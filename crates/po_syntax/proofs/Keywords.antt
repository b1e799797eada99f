-- A keyword: it is read where it is spelt, and what is read as one is spelt, or has a fault.
use Rattle.po_syntax.proofs.Prelude.{All, All-cons, All-head, All-tail, AllDigits, AllPass-from_list_all, BadPluralIndex, BadToken, Bool, FailsFirst, IndexFault, IsBlank, IsNoKeyword, IsNumeral, Keyword, KeywordFault, KeywordToken, LineEnd, List, NoDigitFirst, OpeningQuote, PoFault, SpellsKeyword, Token, TokensFault, WrongToken, [], after_first_word, ap, append_assoc, arith, both_ways, bracket_token, bytes_eq, bytes_eq-Decides, close_token, codes, cond-false, cond-true, cond_both, digit_count, digit_value, digits_value, drop, drop-append_seam, eqb-false, eqb-true, false, false_from_ne_true, first_token, first_word, form, get_or-take, if◌then◌else◌, in_index, in_keyword, index_token, is_blank, is_digit, is_word_byte, keyword_token, large_index, le-ltb, length, length-append, length-drop, length-take, list_all, lt-ltb, ltb-false, ltb-true, msgctxt, msgid, msgid_plural, msgstr, nat_lt, ne_eqb, no_index, no_keyword, no_token, not_closed_index, one-add, or_from, or_parts, parts_of, prefix_len, prefix_len-le-length, prefix_len_passes, refl, run_length, skip_blanks, subst, sym, take, take-append-drop, take-append_seam, token_at, true, word_token, ℕ, ◌++◌, ◌<◌, ◌==◌, ◌^◌, ◌||◌, ◌∙◌, ◌∷◌, ◌≡◌, ◌≢◌, ◌≤◌}
use Rattle.po_syntax.specs.declared.item.Keyword.TheVariants.{MsgStr}
use Rattle.po_syntax.proofs.Escapes.{all_digits, by_byte, count_all}

-- each of the digits that a text begins with is one
pub digits_all : (base count : ℕ) (text : List ℕ) → count ≤ digit_count base text
    → All (λ b. digit_value b < base) (take count text)
digits_all base count text h = λ k d k_in.
    let most = prefix_len-le-length (λ b. is_digit b base) text in
    let inside : k < count = omega (arith, length-take count text) in
    rw (get_or-take count text k d inside)
    (ltb-true _ _ (prefix_len_passes (λ b. is_digit b base) text k d (omega arith)))

pub digits_within : (base count : ℕ) (text : List ℕ) → count ≤ digit_count base text → count ≤ length text
digits_within base count text h = omega (arith, prefix_len-le-length (λ b. is_digit b base) text)

-- Each keyword is read where it is spelt, and what is read as one is spelt, or has a fault.

pub or_step : {P : Type 0} (x y : Bool) → (x ≡ true → P) → (y ≡ true → P) → (x || y) ≡ true → P
or_step true y p q e = p refl
or_step false y p q e = q e

-- what holds of each blank
pub of_blank : (P : ℕ → Type 0) → P 32 → P 9 → P 11 → P 12 → P 13 → (b : ℕ) → IsBlank b → P b
of_blank P space tab vertical_tab form_feed return b =
    let at = λ (k : ℕ) (x : P k) (h : (b == k) ≡ true). subst P (sym (eqb-true b k h)) x in
    or_step (b == 32 || b == 9 || b == 11 || b == 12) (b == 13)
    (or_step (b == 32 || b == 9 || b == 11) (b == 12)
    (or_step (b == 32 || b == 9) (b == 11) (or_step (b == 32) (b == 9) (at 32 space) (at 9 tab)) (at 11 vertical_tab))
    (at 12 form_feed)) (at 13 return)

-- a text is blanks, and a rest that begins with none
pub record SkipsBlanks (text : List ℕ) : Type 0 where
  pub blanks : List ℕ
  pub are_blanks : All IsBlank blanks
  pub whole : blanks ++ skip_blanks text ≡ text
  pub other : FailsFirst is_blank (skip_blanks text)

pub skips : (text : List ℕ) → SkipsBlanks text
skips text =
    let parts = parts_of is_blank text in record {
      blanks = take (prefix_len is_blank text) text;
      are_blanks = parts.passes;
      whole = parts.whole;
      other = parts.ends;
    }

-- what holds of blanks and such a rest holds of each text
by_blanks : (P : List ℕ → List ℕ → Type 0)
    → ((blanks rest : List ℕ) → All IsBlank blanks → FailsFirst is_blank rest → P (blanks ++ rest) rest)
    → (text : List ℕ) → P text (skip_blanks text)
by_blanks P of_parts text =
    let parts = skips text in
    subst (λ t. P t (skip_blanks text)) parts.whole
    (of_parts parts.blanks (skip_blanks text) parts.are_blanks parts.other)

-- what holds of a text also after a blank holds after blanks
pub over_blanks : (P : List ℕ → Type 0) → ((b : ℕ) (text : List ℕ) → IsBlank b → P text → P (b ∷ text))
    → (blanks text : List ℕ) → All IsBlank blanks → P text → P (blanks ++ text)
over_blanks P more [] text all h = h
over_blanks P more (b ∷ blanks) text all h =
    more b (blanks ++ text) (All-head IsBlank b blanks all)
    (over_blanks P more blanks text (All-tail IsBlank b blanks all) h)

pub over_skipped : (P : List ℕ → Type 0) → ((b : ℕ) (text : List ℕ) → IsBlank b → P text → P (b ∷ text))
    → (text : List ℕ) → P (skip_blanks text) → P text
over_skipped P more text =
    by_blanks (λ t rest. P rest → P t) (λ blanks rest all _. over_blanks P more blanks rest all) text

pub skip_prefix : (blanks rest : List ℕ) → All IsBlank blanks → FailsFirst is_blank rest
    → skip_blanks (blanks ++ rest) ≡ rest
skip_prefix blanks rest all other =
    ap (λ n. drop n (blanks ++ rest)) (run_length is_blank blanks rest all other) ∙ drop-append_seam blanks rest

blank_no_word : (b : ℕ) → IsBlank b → is_word_byte b ≡ false
blank_no_word b is = of_blank (λ a. is_word_byte a ≡ false) refl refl refl refl refl b is

blank_no_digit : (b : ℕ) → IsBlank b → is_digit b 10 ≡ false
blank_no_digit b is = of_blank (λ a. is_digit a 10 ≡ false) refl refl refl refl refl b is

-- what is no blank ends a run of other bytes, also after blanks
ends_after : (test : ℕ → Bool) → ((b : ℕ) → IsBlank b → test b ≡ false) → (blanks rest : List ℕ) → All IsBlank blanks
    → FailsFirst test rest → FailsFirst test (blanks ++ rest)
ends_after test fails [] rest all ends = ends
ends_after test fails (b ∷ blanks) rest all ends = fails b (All-head IsBlank b blanks all)

-- a word is read as the keyword that it is
pub word_read : (b : ℕ) (word rest : List ℕ) → All (λ c. is_word_byte c ≡ true) (b ∷ word)
    → FailsFirst is_word_byte rest → token_at ((b ∷ word) ++ rest) ≡ keyword_token (b ∷ word) rest
unfolding first_token
word_read b word rest all ends =
    let is_word = All-head (λ c. is_word_byte c ≡ true) b word all in
    let no_blank = false_from_ne_true (is_blank b) (λ e. both_ways (is_word_byte b) (blank_no_word b e) is_word) in
    let no_quote = ne_eqb b 34 (λ is. both_ways (is_word_byte b) (rw is refl) is_word) in
    let count = run_length is_word_byte word rest (All-tail (λ c. is_word_byte c ≡ true) b word all) ends in
    rw no_blank (rw (no_quote, is_word, count, one-add (length word))
    (rw (take-append_seam word rest, drop-append_seam word rest) refl))

-- a word that begins with `m`
m_read : (word rest : List ℕ) → list_all is_word_byte (109 ∷ word) ≡ true → FailsFirst is_word_byte rest
    → token_at ((109 ∷ word) ++ rest) ≡ keyword_token (109 ∷ word) rest
m_read word rest all ends = word_read 109 word rest (AllPass-from_list_all is_word_byte (109 ∷ word) all) ends

-- `msgstr` alone, as no bracket follows
no_bracket_token : (rest after : List ℕ) → FailsFirst (λ b. b == 91) after
    → bracket_token rest after ≡ KeywordToken MsgStr rest
no_bracket_token rest [] none = refl
no_bracket_token rest (b ∷ inside) none =
    cond-false (b == 91) (index_token (skip_blanks inside)) (KeywordToken MsgStr rest) none

pub digits_no_blank : (digits rest : List ℕ) → IsNumeral 10 digits → FailsFirst is_blank (digits ++ rest)
digits_no_blank [] rest numeral = absurd (omega (arith, numeral.0))
digits_no_blank (d ∷ digits) rest numeral =
    false_from_ne_true (is_blank d)
    (λ passes. both_ways (is_digit d 10) (blank_no_digit d passes) (lt-ltb (digit_value d) 10 numeral.1.0))

-- what an index is read as, by its digits
pub index_at : (digits rest : List ℕ) → IsNumeral 10 digits → NoDigitFirst 10 rest
    → index_token (digits ++ rest)
    ≡ (if nat_lt (digits_value 10 digits) (2 ^ 32) then close_token (digits_value 10 digits) (skip_blanks rest)
    else WrongToken BadPluralIndex)
unfolding index_token
index_at digits rest numeral none =
    let some = ne_eqb (length digits) 0 (λ same. omega (arith, same, numeral.0)) in
    rw (count_all 10 digits rest numeral.1 none, some, take-append_seam digits rest, drop-append_seam digits rest) refl

pub no_index_stops : (rest : List ℕ) → NoDigitFirst 10 rest → index_token rest ≡ WrongToken BadToken
unfolding index_token
no_index_stops rest none = rw (count_all 10 [] rest tt none) refl

-- and what one that fits is read as, by what follows blanks after it
pub close_at : (digits after rest : List ℕ) → IsNumeral 10 digits → NoDigitFirst 10 (after ++ rest)
    → digits_value 10 digits < 2 ^ 32 → All IsBlank after → FailsFirst is_blank rest
    → index_token (digits ++ (after ++ rest)) ≡ close_token (digits_value 10 digits) rest
close_at digits after rest numeral none fits all other =
    index_at digits (after ++ rest) numeral none ∙ cond-true _ _ _ (lt-ltb (digits_value 10 digits) (2 ^ 32) fits)
    ∙ ap (close_token (digits_value 10 digits)) (skip_prefix after rest all other)

-- what `msgstr` and a bracket are read as, by what follows blanks after them
pub opened : (before inside index : List ℕ) → All IsBlank before → All IsBlank inside → FailsFirst is_blank index
    → token_at (codes "msgstr" ++ (before ++ 91 ∷ (inside ++ index))) ≡ index_token index
unfolding keyword_token
opened before inside index p q first =
    let rest = before ++ 91 ∷ (inside ++ index) in
    m_read (codes "sgstr") rest refl (ends_after is_word_byte blank_no_word before (91 ∷ (inside ++ index)) p refl)
    ∙ ap (bracket_token rest) (skip_prefix before (91 ∷ (inside ++ index)) p refl)
    ∙ ap index_token (skip_prefix inside index q first)

pub keyword_read : {text rest : List ℕ} {word : Keyword} → SpellsKeyword text word rest
    → token_at text ≡ KeywordToken word rest
unfolding keyword_token
keyword_read (msgctxt {rest = rest} ends) = m_read (codes "sgctxt") rest refl ends
keyword_read (msgid {rest = rest} ends) = m_read (codes "sgid") rest refl ends
keyword_read (msgid_plural {rest = rest} ends) = m_read (codes "sgid_plural") rest refl ends
keyword_read (msgstr {rest = rest} ends none) =
    m_read (codes "sgstr") rest refl ends ∙ no_bracket_token rest (skip_blanks rest) none
keyword_read (form before inside digits after {rest = rest} p q numeral fits r) =
    let close = 93 ∷ rest in
    let none = ends_after (λ b. is_digit b 10) blank_no_digit after close r refl in
    opened before inside (digits ++ (after ++ close)) p q (digits_no_blank digits (after ++ close) numeral)
    ∙ close_at digits after close numeral none fits r refl

-- what a token says of the text that it is read from
abbrev pub TokenSays : List ℕ → Token → Type 0
TokenSays text LineEnd = text ≡ []
TokenSays text (OpeningQuote rest) = text ≡ 34 ∷ rest
TokenSays text (KeywordToken word rest) = SpellsKeyword text word rest
TokenSays text (WrongToken fault) = FailsFirst is_blank text → TokensFault text fault

-- what a token says of the text after `msgstr`, a bracket and blanks
abbrev IndexSays : List ℕ → Token → Type 0
IndexSays index token =
    (before inside : List ℕ) → All IsBlank before → All IsBlank inside
    → TokenSays (codes "msgstr" ++ (before ++ 91 ∷ (inside ++ index))) token

fault_says : {index : List ℕ} {fault : PoFault} → IndexFault index fault → IndexSays index (WrongToken fault)
fault_says {index} h before inside p q _ = in_keyword (in_index before inside index p q h)

close_says : (digits : List ℕ) → IsNumeral 10 digits → digits_value 10 digits < 2 ^ 32 → (after end : List ℕ)
    → All IsBlank after → FailsFirst is_blank end → NoDigitFirst 10 (after ++ end)
    → IndexSays (digits ++ (after ++ end)) (close_token (digits_value 10 digits) end)
close_says digits numeral fits after [] all begins = λ none.
    fault_says (not_closed_index digits after [] numeral none fits all tt)
close_says digits numeral fits after (b ∷ rest) all begins =
    by_byte (λ a t. NoDigitFirst 10 (after ++ a ∷ rest) → IndexSays (digits ++ (after ++ a ∷ rest)) t) b 93
    (λ _ before inside p q. form before inside digits after p q numeral fits all)
    (λ other none. fault_says
    (not_closed_index digits after (b ∷ rest) numeral none fits all (or_from _ _ begins other)))

digits_say : (digits rest : List ℕ) → AllDigits 10 digits → NoDigitFirst 10 rest → FailsFirst is_blank (digits ++ rest)
    → IndexSays (digits ++ rest) (index_token (digits ++ rest))
digits_say [] rest all none begins = rw (no_index_stops rest none) (fault_says (no_index begins none))
digits_say (d ∷ digits) rest all none begins =
    let number = d ∷ digits in
    let numeral : IsNumeral 10 number = (omega arith, all) in
    rw (index_at number rest numeral none) (cond_both _ _ _ (IndexSays (number ++ rest))
    (λ less. by_blanks (λ r a. NoDigitFirst 10 r → IndexSays (number ++ r) (close_token (digits_value 10 number) a))
    (close_says number numeral (ltb-true _ _ less)) rest none)
    (λ past. fault_says (large_index number rest numeral none (ltb-false _ _ past))))

index_says : (index : List ℕ) → FailsFirst is_blank index → IndexSays index (index_token index)
index_says index =
    let count = digit_count 10 index in
    let digits = all_digits 10 index in
    subst (λ i. FailsFirst is_blank i → IndexSays i (index_token i)) (take-append-drop count index)
    (digits_say (take count index) (drop count index) digits.0 digits.2)

bracket_says : (before after : List ℕ) → All IsBlank before → FailsFirst is_blank after
    → FailsFirst is_word_byte (before ++ after)
    → TokenSays (codes "msgstr" ++ (before ++ after)) (bracket_token (before ++ after) after)
bracket_says before [] all other = λ ends. msgstr ends (rw (skip_prefix before [] all other) tt)
bracket_says before (b ∷ inside) all other =
    by_byte (λ a t. FailsFirst is_word_byte (before ++ a ∷ inside)
    → TokenSays (codes "msgstr" ++ (before ++ a ∷ inside)) t) b 91
    (λ _. by_blanks (λ l index. TokenSays (codes "msgstr" ++ (before ++ 91 ∷ l)) (index_token index))
    (λ blanks index are begins. index_says index begins before blanks all are) inside)
    (λ no ends. msgstr ends (rw (skip_prefix before (b ∷ inside) all other) no))

-- what holds where the word is this one, and where it is another
by_word : {A : Type 0} (P : List ℕ → A → Type 0) (word name : List ℕ) {x y : A} → P name x → (word ≢ name → P word y)
    → P word (if bytes_eq word name then x else y)
by_word P word name {x} {y} is other =
    let tells = bytes_eq-Decides word name in
    cond_both (bytes_eq word name) x y (P word) (λ e. subst (λ w. P w x) (sym (tells.0 e)) is)
    (λ no. other (λ same. both_ways (bytes_eq word name) no (tells.1 same)))

keyword_says : (b : ℕ) (word rest : List ℕ) → All (λ c. is_word_byte c ≡ true) (b ∷ word)
    → FailsFirst is_word_byte rest → TokenSays ((b ∷ word) ++ rest) (keyword_token (b ∷ word) rest)
unfolding keyword_token
keyword_says b word rest all ends =
    let P = λ (w : List ℕ) (t : Token). TokenSays (w ++ rest) t in
    let read = b ∷ word in
    let translation =
    by_blanks (λ r after. FailsFirst is_word_byte r → TokenSays (codes "msgstr" ++ r) (bracket_token r after))
    bracket_says rest ends in
    by_word P read (codes "msgctxt") (msgctxt ends) (λ c. by_word P read (codes "msgid") (msgid ends) (λ i.
    by_word P read (codes "msgid_plural") (msgid_plural ends) (λ p. by_word P read (codes "msgstr") translation (λ t _.
    in_keyword (no_keyword b word rest all ends (record { context = c; id = i; plural = p; translation = t }))))))

word_says : (b : ℕ) (rest : List ℕ) → is_word_byte b ≡ true → TokenSays (b ∷ rest) (word_token (b ∷ rest))
word_says b rest is =
    let parts = parts_of is_word_byte rest in
    let bytes = All-cons (λ c. is_word_byte c ≡ true) b (first_word rest) is parts.passes in
    rw (is, one-add (prefix_len is_word_byte rest))
    (subst (λ t. TokenSays (b ∷ t) (keyword_token (b ∷ first_word rest) (after_first_word rest))) parts.whole
    (keyword_says b (first_word rest) (after_first_word rest) bytes parts.ends))

pub first_says : (text : List ℕ) → TokenSays text (first_token text)
unfolding first_token
first_says [] = refl
first_says (b ∷ rest) =
    by_byte (λ a t. TokenSays (a ∷ rest) t) b 34 refl (λ no_quote.
    cond_both (is_word_byte b) _ _ (TokenSays (b ∷ rest)) (word_says b rest)
    (λ no_word no_blank. no_token no_blank (eqb-false b 34 no_quote) no_word))

-- the text is some bytes, and this rest
abbrev pub HasRest : List ℕ → List ℕ → Type 0
HasRest text rest = (own : List ℕ) × (text ≡ own ++ rest) × (0 < length own)

pub keyword_rest : {text rest : List ℕ} {word : Keyword} → SpellsKeyword text word rest → HasRest text rest
keyword_rest (msgctxt ends) = (codes "msgctxt", refl, omega arith)
keyword_rest (msgid ends) = (codes "msgid", refl, omega arith)
keyword_rest (msgid_plural ends) = (codes "msgid_plural", refl, omega arith)
keyword_rest (msgstr ends none) = (codes "msgstr", refl, omega arith)
keyword_rest (form before inside digits after p q numeral fits r) =
    (codes "msgstr" ++ (before ++ 91 ∷ (inside ++ (digits ++ (after ++ 93 ∷ [])))), simp append_assoc, omega arith)

pub rest_shorter : {text rest : List ℕ} {word : Keyword} → SpellsKeyword text word rest → length rest < length text
rest_shorter {rest = rest} spelt = let own =
    keyword_rest spelt in omega (arith, ap length own.1, length-append own.0 rest)

pub says : (text : List ℕ) {token : Token} → token_at text ≡ token → TokenSays (skip_blanks text) token
says text e = subst (TokenSays (skip_blanks text)) e (first_says (skip_blanks text))

skipped-le : (text : List ℕ) → length (skip_blanks text) ≤ length text
skipped-le text = omega (arith, length-drop (prefix_len is_blank text) text)

pub keyword-shorter : (text : List ℕ) {keyword : Keyword} {rest : List ℕ} → token_at text ≡ KeywordToken keyword rest
    → length rest < length text
keyword-shorter text e = omega (arith, skipped-le text, rest_shorter (says text e))

pub quote-shorter : (text : List ℕ) {inside : List ℕ} → token_at text ≡ OpeningQuote inside
    → length inside < length text
quote-shorter text e = omega (arith, skipped-le text, ap length (says text e))

-- which token stands first, by the first byte after the blanks
pub line_over : (text : List ℕ) → length (skip_blanks text) ≡ 0 → token_at text ≡ LineEnd
unfolding first_token
line_over text e = by (skip_blanks text) e where
  by : (rest : List ℕ) → length rest ≡ 0 → first_token rest ≡ LineEnd
  by [] e = refl
  by (b ∷ rest) e = absurd (omega (arith, e))

pub quote_first : (text rest : List ℕ) (b : ℕ) → skip_blanks text ≡ b ∷ rest → b ≡ 34
    → token_at text ≡ OpeningQuote rest
unfolding first_token
quote_first text rest b e is = ap first_token e ∙ rw is refl

pub word_first : (text rest : List ℕ) (b : ℕ) → skip_blanks text ≡ b ∷ rest → b ≢ 34
    → token_at text ≡ word_token (skip_blanks text)
unfolding first_token keyword_token
word_first text rest b e other =
    ap first_token e ∙ rw (ne_eqb b 34 other) (by (is_word_byte b) refl) ∙ ap word_token (sym e)
  where
    by : (t : Bool) → is_word_byte b ≡ t
        → (if t then word_token (b ∷ rest) else WrongToken BadToken) ≡ word_token (b ∷ rest)
    by true is = refl
    by false is = rw is refl

not_among : (word name : List ℕ) → word ≢ name → bytes_eq word name ≡ false
not_among word name h = false_from_ne_true (bytes_eq word name) (λ e. h ((bytes_eq-Decides word name).0 e))

no_keyword_token : (word rest : List ℕ) → IsNoKeyword word → keyword_token word rest ≡ WrongToken BadToken
unfolding keyword_token
no_keyword_token word rest h =
    rw (
      not_among word (codes "msgctxt") h.context,
      not_among word (codes "msgid") h.id,
      not_among word (codes "msgid_plural") h.plural,
      not_among word (codes "msgstr") h.translation,
    ) refl

large_stops : (digits rest : List ℕ) → IsNumeral 10 digits → NoDigitFirst 10 rest → 2 ^ 32 ≤ digits_value 10 digits
    → index_token (digits ++ rest) ≡ WrongToken BadPluralIndex
large_stops digits rest numeral none past =
    index_at digits rest numeral none ∙ cond-false _ _ _ (le-ltb (digits_value 10 digits) (2 ^ 32) past)

not_closing : (index : ℕ) (rest : List ℕ) → FailsFirst (λ b. is_blank b || b == 93) rest
    → close_token index rest ≡ WrongToken BadToken
not_closing index [] h = refl
not_closing index (b ∷ rest) h = cond-false (b == 93) _ _ (or_parts (is_blank b) (b == 93) h).1

-- a text that begins neither with a blank nor with another byte
no_blank_first : (byte : ℕ) (rest : List ℕ) → FailsFirst (λ b. is_blank b || b == byte) rest → FailsFirst is_blank rest
no_blank_first byte [] h = tt
no_blank_first byte (b ∷ rest) h = (or_parts (is_blank b) (b == byte) h).0

index_stops : {index : List ℕ} {fault : PoFault} → IndexFault index fault
    → FailsFirst is_blank index × (index_token index ≡ WrongToken fault)
index_stops (no_index {text = text} first none) = (first, no_index_stops text none)
index_stops (large_index digits rest numeral none past) =
    (digits_no_blank digits rest numeral, large_stops digits rest numeral none past)
index_stops (not_closed_index digits after rest numeral none fits all other) =
    let begins = close_at digits after rest numeral none fits all (no_blank_first 93 rest other) in
    (digits_no_blank digits (after ++ rest) numeral, begins ∙ not_closing (digits_value 10 digits) rest other)

pub keyword_stops : {text : List ℕ} {fault : PoFault} → KeywordFault text fault → token_at text ≡ WrongToken fault
keyword_stops (no_keyword b word rest all ends none) =
    word_read b word rest all ends ∙ no_keyword_token (b ∷ word) rest none
keyword_stops (in_index before inside index p q h) =
    let stops = index_stops h in opened before inside index p q stops.0 ∙ stops.1

pub no_token_stops : (b : ℕ) (text : List ℕ) → is_blank b ≡ false → b ≢ 34 → is_word_byte b ≡ false
    → token_at (b ∷ text) ≡ WrongToken BadToken
unfolding first_token
no_token_stops b text no_blank no_quote no_word =
    ap first_token (ap (λ n. drop n (b ∷ text)) (cond-false (is_blank b) _ 0 no_blank))
    ∙ cond-false (b == 34) _ _ (ne_eqb b 34 no_quote) ∙ cond-false (is_word_byte b) _ _ no_word
