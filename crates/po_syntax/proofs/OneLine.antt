-- A line holds one list of items or has one fault, and not both.
use Rattle.po_syntax.proofs.Prelude.{All, BadToken, Bool, Comment, CommentLine, Err, FailsFirst, HoldsItems, HoldsTokens, IsBlank, Keyword, KeywordToken, LineEnd, LineFault, List, Marks, NoShape, Ok, Once, OpeningQuote, PoFault, Result, Shape, SpellsKeyword, Str, TextItem, Token, Tokens, TokensFault, Word, WrongToken, [], ap, arith, blank, comment, cond-false, end, false, first_shape, first_token, hash_shape, indented, is_blank, keyword, live, ne_eqb, obsolete, obsolete_comment, obsolete_previous, obsolete_shape, or_parts, own_marks, previous, refl, shape_of, skip_blanks, string, subst, sym, tilde_shape, token_at, trim_returns, true, ℕ, ◌++◌, ◌==◌, ◌||◌, ◌∙◌, ◌∷◌, ◌≡◌}
use Rattle.po_syntax.specs.LineFaults as faulty
use Rattle.po_syntax.proofs.Escapes.{string_shorter}
use Rattle.po_syntax.proofs.Keywords.{TokenSays, first_says, keyword-shorter, keyword_read, keyword_stops, no_token_stops, over_blanks, over_skipped, quote-shorter, skip_prefix, skips}
use Rattle.po_syntax.proofs.StringsRead.{Reading, Reads, StringIs, ends, goes_on, reads_once, string_once}
use Rattle.po_syntax.proofs.Lines.{ShapeSays, blank_skipped, comment_hash, comment_read, shape_says, tilde_comment}

-- items, or a fault
abbrev pub Outcome : Type 0
Outcome = Result (List TextItem) PoFault

abbrev with_item : TextItem → Outcome → Outcome
with_item item (Ok items) = Ok (item ∷ items)
with_item item (Err fault) = Err fault

abbrev pub TokensAre : Marks → ℕ → List ℕ → Outcome → Type 0
TokensAre marks number text (Ok items) = HoldsTokens marks number text items
TokensAre marks number text (Err fault) = TokensFault text fault

-- what is read after a quote
abbrev GoesOn : Marks → ℕ → Reading → Outcome → Type 0
GoesOn marks number (Ok read) outcome =
    (more : Outcome) × TokensAre marks number read.1 more × (outcome ≡ with_item (Str read.0 marks number) more)
GoesOn marks number (Err fault) outcome = outcome ≡ Err fault

-- what is read of a text whose first token is this one
abbrev pub Follows : Marks → ℕ → Token → Outcome → Type 0
Follows marks number LineEnd outcome = outcome ≡ Ok []
Follows marks number (OpeningQuote inside) outcome =
    (reading : Reading) × StringIs inside reading × GoesOn marks number reading outcome
Follows marks number (KeywordToken word rest) outcome =
    (more : Outcome) × TokensAre marks number rest more × (outcome ≡ with_item (Word word marks number) more)
Follows marks number (WrongToken fault) outcome = outcome ≡ Err fault

after_skipped : (marks : Marks) (number : ℕ) (text : List ℕ) (outcome : Outcome)
    → TokensAre marks number (skip_blanks text) outcome → TokensAre marks number text outcome
after_skipped marks number text (Ok items) h =
    over_skipped (λ t. HoldsTokens marks number t items) (λ b t is h. blank is h) text h
after_skipped marks number text (Err fault) h =
    over_skipped (λ t. TokensFault t fault) (λ b t is h. faulty.blank is h) text h

after_string : (marks : Marks) (number : ℕ) (inside : List ℕ) (reading : Reading) (outcome : Outcome)
    → StringIs inside reading → GoesOn marks number reading outcome → TokensAre marks number (34 ∷ inside) outcome
after_string marks number inside (Err fault) outcome is on = rw on (faulty.in_string is)
after_string marks number inside (Ok read) outcome is on = rw on.2 (by on.0 on.1) where
  by : (more : Outcome) → TokensAre marks number read.1 more
      → TokensAre marks number (34 ∷ inside) (with_item (Str read.0 marks number) more)
  by (Ok items) h = string is h
  by (Err fault) h = faulty.after_string is h

after_keyword : (marks : Marks) (number : ℕ) {text rest : List ℕ} {word : Keyword} → SpellsKeyword text word rest
    → (more : Outcome) → TokensAre marks number rest more
    → TokensAre marks number text (with_item (Word word marks number) more)
after_keyword marks number spelt (Ok items) h = keyword spelt h
after_keyword marks number spelt (Err fault) h = faulty.after_keyword spelt h

tokens_are : (marks : Marks) (number : ℕ) (text : List ℕ) (outcome : Outcome)
    → Follows marks number (token_at text) outcome → TokensAre marks number text outcome
tokens_are marks number text outcome h =
    after_skipped marks number text outcome
    (by (skip_blanks text) (token_at text) (skips text).other (first_says (skip_blanks text)) h) where
      by : (text : List ℕ) (token : Token) → FailsFirst is_blank text → TokenSays text token
          → Follows marks number token outcome → TokensAre marks number text outcome
      by text LineEnd other says h = rw (says, h) end
      by text (OpeningQuote inside) other says h = rw says (after_string marks number inside h.0 outcome h.1 h.2)
      by text (KeywordToken word rest) other says h = rw h.2 (after_keyword marks number says h.0 h.1)
      by text (WrongToken fault) other says h = rw h (says other)

same_token : (marks : Marks) (number : ℕ) (outcome : Outcome) {token other : Token} → token ≡ other
    → Follows marks number other outcome → Follows marks number token outcome
same_token marks number outcome e h = rw e h

pub tokens_at : (marks : Marks) (number : ℕ) (text : List ℕ) (outcome : Outcome) {token : Token} → token_at text ≡ token
    → Follows marks number token outcome → TokensAre marks number text outcome
tokens_at marks number text outcome e h = tokens_are marks number text outcome (same_token marks number outcome e h)

items_follow : {marks : Marks} {number : ℕ} {text : List ℕ} {items : List TextItem}
    → HoldsTokens marks number text items → Follows marks number (token_at text) (Ok items)
unfolding first_token
items_follow end = refl
items_follow {marks} {number} (blank {b = b} {text = text} {items = items} is more) =
    same_token marks number (Ok items) (ap first_token (blank_skipped b text is)) (items_follow more)
items_follow {marks} {number} (keyword {items = items} spelt more) =
    same_token marks number _ (keyword_read spelt) (Ok items, more, refl)
items_follow (string {bytes = bytes} {rest = rest} {items = items} spelt more) =
    (Ok (bytes, rest), spelt, (Ok items, more, refl))

fault_follows : (marks : Marks) (number : ℕ) {text : List ℕ} {stop : PoFault} → TokensFault text stop
    → Follows marks number (token_at text) (Err stop)
unfolding first_token
fault_follows marks number (faulty.no_token {b = b} {text = text} no_blank no_quote no_word) =
    same_token marks number _ (no_token_stops b text no_blank no_quote no_word) refl
fault_follows marks number (faulty.blank {b = b} {text = text} is more) =
    same_token marks number _ (ap first_token (blank_skipped b text is)) (fault_follows marks number more)
fault_follows marks number (faulty.in_keyword h) = same_token marks number _ (keyword_stops h) refl
fault_follows marks number (faulty.in_string {fault = stop} h) = (Err stop, h, refl)
fault_follows marks number (faulty.after_keyword {fault = stop} spelt more) =
    same_token marks number _ (keyword_read spelt) (Err stop, more, refl)
fault_follows marks number (faulty.after_string {bytes = bytes} {rest = rest} {fault = stop} spelt more) =
    (Ok (bytes, rest), spelt, (Err stop, more, refl))

follows : (marks : Marks) (number : ℕ) (text : List ℕ) (outcome : Outcome) → TokensAre marks number text outcome
    → Follows marks number (token_at text) outcome
follows marks number text (Ok items) h = items_follow h
follows marks number text (Err fault) h = fault_follows marks number h

tokens_read : (marks : Marks) (number : ℕ) (text : List ℕ) → Reads (TokensAre marks number) text
tokens_read marks number text = by (token_at text) refl (tokens_are marks number text) (follows marks number text) where
  by : (token : Token) → token_at text ≡ token
      → ((outcome : Outcome) → Follows marks number token outcome → TokensAre marks number text outcome)
      → ((outcome : Outcome) → TokensAre marks number text outcome → Follows marks number token outcome)
      → Reads (TokensAre marks number) text
  by LineEnd e are follow = ends (record { outcome = Ok []; holds = are (Ok []) refl; only = follow })
  by (WrongToken fault) e are follow =
      ends (record { outcome = Err fault; holds = are (Err fault) refl; only = follow })
  by (KeywordToken word rest) e are follow =
      goes_on (with_item (Word word marks number)) rest (keyword-shorter text e)
      (λ more h. are _ (more, h, refl)) follow
  by (OpeningQuote inside) e are follow = let once = string_once inside in after once.outcome once.holds once.only where
    after : (reading : Reading) → StringIs inside reading
        → ((other : Reading) → StringIs inside other → other ≡ reading) → Reads (TokensAre marks number) text
    after reading is only = goes reading is
        (λ outcome h. let read = follow outcome h in
        subst (λ r. GoesOn marks number r outcome) (only read.0 read.1) read.2) where
          goes : (reading : Reading) → StringIs inside reading
              → ((outcome : Outcome) → TokensAre marks number text outcome → GoesOn marks number reading outcome)
              → Reads (TokensAre marks number) text
          goes (Ok read) is on =
              goes_on (with_item (Str read.0 marks number)) read.1
              (omega (arith, quote-shorter text e, string_shorter is))
              (λ more h. are _ (Ok read, is, (more, h, refl))) on
          goes (Err fault) is on =
              ends (record { outcome = Err fault; holds = are (Err fault) (Err fault, is, refl); only = on })

-- the items of a line, or its fault
abbrev pub LineIs : ℕ → List ℕ → Outcome → Type 0
LineIs number text (Ok items) = HoldsItems number text items
LineIs number text (Err fault) = LineFault text fault

-- what is read of a line of this shape
abbrev pub Gives : ℕ → Shape → Outcome → Type 0
Gives number (CommentLine kind rest) outcome = outcome ≡ Ok (Comment kind (trim_returns rest) number ∷ [])
Gives number (Tokens marks rest) outcome = TokensAre marks number rest outcome
Gives number NoShape outcome = outcome ≡ Err BadToken

line_is : (number : ℕ) (text : List ℕ) (outcome : Outcome) → Gives number (shape_of text) outcome
    → LineIs number text outcome
line_is number text outcome h = by (shape_of text) outcome (shape_says (skip_blanks text) (skips text).other) h where
  items_after : {items : List TextItem} → HoldsItems number (skip_blanks text) items → HoldsItems number text items
  items_after {items} = over_skipped (λ t. HoldsItems number t items) (λ b t is h. indented is h) text

  fault_after : {stop : PoFault} → LineFault (skip_blanks text) stop → LineFault text stop
  fault_after {stop} = over_skipped (λ t. LineFault t stop) (λ b t is h. faulty.indented is h) text

  by : (shape : Shape) (outcome : Outcome) → ShapeSays (skip_blanks text) shape → Gives number shape outcome
      → LineIs number text outcome
  by (CommentLine kind rest) outcome says h = rw h (items_after (says number))
  by (Tokens marks rest) (Ok items) says h = items_after (says.0 number items h)
  by (Tokens marks rest) (Err stop) says h = fault_after (says.1 stop h)
  by NoShape outcome says h = rw h (fault_after says)

-- a text that fails two tests
fails_both : (p q : ℕ → Bool) (text : List ℕ) → FailsFirst (λ b. p b || q b) text
    → FailsFirst p text × FailsFirst q text
fails_both p q [] h = (tt, tt)
fails_both p q (b ∷ text) h = or_parts (p b) (q b) h

-- tokens begin with no byte with which none begins, as `#` and `|`
other_first : {marks : Marks} {number : ℕ} {items : List TextItem} (c : ℕ)
    → ((rest : List ℕ) → token_at (c ∷ rest) ≡ WrongToken BadToken)
    → (text : List ℕ) → HoldsTokens marks number text items → FailsFirst (λ b. b == c) text
other_first c wrong [] h = tt
other_first {marks} {number} {items} c wrong (b ∷ text) h = ne_eqb b c (λ is.
    let e : Ok items ≡ Err BadToken =
    subst (λ t. Follows marks number t (Ok items)) (wrong text)
    (subst (λ x. Follows marks number (token_at (x ∷ text)) (Ok items)) is (items_follow h)) in cc)

no_hash : {marks : Marks} {number : ℕ} {items : List TextItem} (text : List ℕ) → HoldsTokens marks number text items
    → FailsFirst (λ b. b == 35) text
unfolding first_token
no_hash = other_first 35 (λ rest. refl)

no_bar : {marks : Marks} {number : ℕ} {items : List TextItem} (text : List ℕ) → HoldsTokens marks number text items
    → FailsFirst (λ b. b == 124) text
unfolding first_token
no_bar = other_first 124 (λ rest. refl)

skipped_twice : (text : List ℕ) → skip_blanks (skip_blanks text) ≡ skip_blanks text
skipped_twice text = skip_prefix [] (skip_blanks text) (λ k d below. absurd (omega (arith, below))) (skips text).other

tokens_skipped : (marks : Marks) (number : ℕ) (text : List ℕ) (outcome : Outcome) → TokensAre marks number text outcome
    → TokensAre marks number (skip_blanks text) outcome
tokens_skipped marks number text outcome h =
    tokens_at marks number (skip_blanks text) outcome (ap first_token (skipped_twice text))
    (follows marks number text outcome h)

same_shape : (number : ℕ) (outcome : Outcome) {shape other : Shape} → shape ≡ other → Gives number other outcome
    → Gives number shape outcome
same_shape number outcome e h = rw e h

pub line_at : (number : ℕ) (text : List ℕ) (outcome : Outcome) {shape : Shape} → shape_of text ≡ shape
    → Gives number shape outcome → LineIs number text outcome
line_at number text outcome e h = line_is number text outcome (same_shape number outcome e h)

live_gives : (number : ℕ) (text : List ℕ) (outcome : Outcome) → FailsFirst (λ b. b == 35) (skip_blanks text)
    → TokensAre (own_marks false) number text outcome → Gives number (shape_of text) outcome
unfolding first_shape
live_gives number text outcome first h =
    same_shape number outcome (shape (skip_blanks text) first)
    (tokens_skipped (own_marks false) number text outcome h) where
      shape : (text : List ℕ) → FailsFirst (λ b. b == 35) text → first_shape text ≡ Tokens (own_marks false) text
      shape [] first = refl
      shape (b ∷ text) first = cond-false (b == 35) _ _ first

obsolete_gives : (number : ℕ) (text : List ℕ) (outcome : Outcome) → FailsFirst (λ b. b == 124) text
    → FailsFirst (λ b. b == 35) (skip_blanks text) → TokensAre (own_marks true) number text outcome
    → Gives number (tilde_shape text) outcome
unfolding tilde_shape obsolete_shape
obsolete_gives number text outcome other first h =
    same_shape number outcome (tilde text other ∙ shape (skip_blanks text) first)
    (tokens_skipped (own_marks true) number text outcome h) where
      tilde : (text : List ℕ) → FailsFirst (λ b. b == 124) text → tilde_shape text ≡ obsolete_shape (skip_blanks text)
      tilde [] other = refl
      tilde (b ∷ text) other = cond-false (b == 124) _ _ other

      shape : (text : List ℕ) → FailsFirst (λ b. b == 35) text → obsolete_shape text ≡ Tokens (own_marks true) text
      shape [] first = refl
      shape (b ∷ text) first = cond-false (b == 35) _ _ first

-- blanks, and tokens after them
begins_after : (blanks text : List ℕ) → All IsBlank blanks → faulty.BeginsTokens text
    → FailsFirst (λ b. b == 35) (skip_blanks (blanks ++ text))
begins_after blanks text all begins =
    let parts = fails_both is_blank (λ b. b == 35) text begins in
    subst (FailsFirst (λ b. b == 35)) (sym (skip_prefix blanks text all parts.0)) parts.1

items_give : {number : ℕ} {text : List ℕ} {items : List TextItem} → HoldsItems number text items
    → Gives number (shape_of text) (Ok items)
unfolding first_shape hash_shape tilde_shape
items_give {number} (indented {b = b} {text = text} {items = items} is more) =
    same_shape number (Ok items) (ap first_shape (blank_skipped b text is)) (items_give more)
items_give {number} (comment spelt) = same_shape number _ (comment_hash spelt ∙ comment_read spelt) refl
items_give {number} (obsolete_comment blanks {text = text} all spelt) =
    same_shape number _ (tilde_comment blanks text all ∙ comment_read spelt) refl
items_give {number} (live {text = text} {items = items} h) =
    live_gives number text (Ok items)
    (no_hash (skip_blanks text) (tokens_skipped (own_marks false) number text (Ok items) h)) h
items_give (previous h) = h
items_give {number} (obsolete {text = text} {items = items} h) =
    obsolete_gives number text (Ok items) (no_bar text h)
    (no_hash (skip_blanks text) (tokens_skipped (own_marks true) number text (Ok items) h)) h
items_give (obsolete_previous h) = h

fault_gives : (number : ℕ) {text : List ℕ} {stop : PoFault} → LineFault text stop
    → Gives number (shape_of text) (Err stop)
unfolding first_shape hash_shape tilde_shape
fault_gives number (faulty.indented {b = b} {text = text} {fault = stop} is more) =
    same_shape number (Err stop) (ap first_shape (blank_skipped b text is)) (fault_gives number more)
fault_gives number (faulty.previous_again blanks rest all) =
    same_shape number _ (tilde_comment blanks (124 ∷ rest) all) refl
fault_gives number (faulty.obsolete_again blanks rest all) =
    same_shape number _ (tilde_comment blanks (126 ∷ rest) all) refl
fault_gives number (faulty.live {text = text} {fault = stop} first h) =
    live_gives number text (Err stop) (begins_after [] text (λ k d below. absurd (omega (arith, below))) first) h
fault_gives number (faulty.previous h) = h
fault_gives number (faulty.obsolete blanks {text = text} {fault = stop} all first other h) =
    obsolete_gives number (blanks ++ text) (Err stop) other (begins_after blanks text all first)
    (over_blanks (λ t. TokensFault t stop) (λ b t is h. faulty.blank is h) blanks text all h)
fault_gives number (faulty.obsolete_previous h) = h

pub line_once : (number : ℕ) (text : List ℕ) → Once (LineIs number text)
line_once number text = by (shape_of text) (line_is number text) gives where
  gives : (outcome : Outcome) → LineIs number text outcome → Gives number (shape_of text) outcome
  gives (Ok items) h = items_give h
  gives (Err fault) h = fault_gives number h

  by : (shape : Shape) → ((outcome : Outcome) → Gives number shape outcome → LineIs number text outcome)
      → ((outcome : Outcome) → LineIs number text outcome → Gives number shape outcome) → Once (LineIs number text)
  by (CommentLine kind rest) is gives =
      record { outcome = Ok (Comment kind (trim_returns rest) number ∷ []); holds = is _ refl; only = gives }
  by (Tokens marks rest) is gives =
      let once = reads_once (TokensAre marks number) (tokens_read marks number) rest in
      record {
        outcome = once.outcome;
        holds = is once.outcome once.holds;
        only =
            λ other h. once.only other (gives other h);
      }
  by NoShape is gives = record { outcome = Err BadToken; holds = is _ refl; only = gives }
