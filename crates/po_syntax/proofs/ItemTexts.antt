-- What the comments and strings of clean lines hold.
use Rattle.po_syntax.proofs.Prelude.{All, All-append, All-cons, All-head, All-nil, All-tail, All-take, CommentKind, Contains, HoldsItems, HoldsText, HoldsTokens, IsAscii, IsAscii-cons, IsBlank, IsCleanLine, IsCommentOf, IsUtf8, List, Marks, SpellsComment, SpellsEscape, SpellsLines, SpellsString, SpellsText, TextItem, [], ap, append-nil, arith, blank, both_ways, closed, codes, comment, drop, end, end_parts, eqb-true, escape, extracted, flags, get_or, hexadecimal, indented, is_mark, kept_is, keyword, length, letter, live, obsolete, obsolete_comment, obsolete_previous, octal, plain, previous, reference, refl, rules, string, subst, suc, suffix_len, sym, take, take-append-drop, translator, trim_returns, true, without_end, zero, ℕ, ◌++◌, ◌+◌, ◌-◌, ◌<◌, ◌==◌, ◌∙◌, ◌∷◌, ◌≡◌, ◌≢◌}
use Rattle.po_syntax.specs.declared.item.CommentKind.TheVariants.{Translator}
use Rattle.po_syntax.proofs.Utf8Lines.{blank_low, clean_lines, rest-utf8}
use Rattle.po_syntax.proofs.Escapes.{of_each_letter}
use Rattle.po_syntax.proofs.Keywords.{keyword_rest}
use Rattle.simdutf8.proofs.StepsLemmas.{IsUtf8-append_ascii}

returns_ascii : (run : List ℕ) → All (λ b. (b == 13) ≡ true) run → IsAscii run
returns_ascii [] h = λ k. omega arith
returns_ascii (b ∷ run) h =
    IsAscii-cons b run (omega (arith, eqb-true b 13 (All-head (λ c. (c == 13) ≡ true) b run h)))
    (returns_ascii run (All-tail (λ c. (c == 13) ≡ true) b run h))

pub trim_returns-utf8 : (text : List ℕ) → IsUtf8 text → IsUtf8 (trim_returns text)
trim_returns-utf8 text utf8 =
    let parts = end_parts (λ b. b == 13) text in
    (IsUtf8-append_ascii (trim_returns text) parts.end (returns_ascii parts.end parts.passes)).0
    (subst IsUtf8 parts.whole utf8)

pub trim_returns-twice : (text : List ℕ) → trim_returns (trim_returns text) ≡ trim_returns text
trim_returns-twice text =
    ap (without_end (λ b. b == 13)) (sym (append-nil (trim_returns text)))
    ∙ kept_is (λ b. b == 13) (trim_returns text) (end_parts (λ b. b == 13) text).fails []
    (All-nil (λ b. (b == 13) ≡ true))

-- a clean line after an ASCII byte, or after several
clean_tail : (b : ℕ) (text : List ℕ) → b < 128 → IsCleanLine (b ∷ text) → IsCleanLine text
clean_tail b text low clean = record {
  utf8 = rest-utf8 [] text b low clean.utf8;
  no_nul = All-tail (λ b. b ≢ 0) b text clean.no_nul;
  one_line = All-tail (λ b. b ≢ 10) b text clean.one_line;
}

clean_after : (blanks text : List ℕ) → All IsBlank blanks → IsCleanLine (blanks ++ text) → IsCleanLine text
clean_after [] text all clean = clean
clean_after (b ∷ blanks) text all clean =
    clean_after blanks text (All-tail IsBlank b blanks all)
    (clean_tail b (blanks ++ text) (blank_low b (All-head IsBlank b blanks all)) clean)

mark_at : (k b : ℕ) → k < 5 → get_or (codes ".:,|~") k b ≡ b → is_mark b ≡ true
mark_at zero b less e = subst (λ a. is_mark a ≡ true) e refl
mark_at (suc zero) b less e = subst (λ a. is_mark a ≡ true) e refl
mark_at (suc (suc zero)) b less e = subst (λ a. is_mark a ≡ true) e refl
mark_at (suc (suc (suc zero))) b less e = subst (λ a. is_mark a ≡ true) e refl
mark_at (suc (suc (suc (suc zero)))) b less e = subst (λ a. is_mark a ≡ true) e refl
mark_at (suc (suc (suc (suc (suc k))))) b less e = absurd (omega arith)

-- a text begins as its prefix does
take_first : (n : ℕ) (text : List ℕ) (b : ℕ) (more : List ℕ) → take n text ≡ b ∷ more
    → (others : List ℕ) × (text ≡ b ∷ others)
take_first n text b more e = (more ++ drop n text, sym (take-append-drop n text) ∙ ap (λ l. l ++ drop n text) e)

abbrev NoMark : CommentKind → List ℕ → Type 0
NoMark kind text = kind ≡ Translator → (b : ℕ) (rest : List ℕ) → text ≡ b ∷ rest → Contains (codes ".:,|~") b → ⊥

-- the text of a comment, on a clean line
comment_rest : {text rest : List ℕ} {kind : CommentKind} → SpellsComment text kind rest → IsCleanLine text
    → IsCleanLine rest × NoMark kind rest
comment_rest (extracted {rest = rest}) clean = (clean_tail 46 rest (omega arith) clean, λ e. absurd cc)
comment_rest (reference {rest = rest}) clean = (clean_tail 58 rest (omega arith) clean, λ e. absurd cc)
comment_rest (flags {rest = rest}) clean = (clean_tail 44 rest (omega arith) clean, λ e. absurd cc)
comment_rest (translator {text = []} h) clean = (clean, λ e b rest same. absurd cc)
comment_rest (translator {text = c ∷ text} h) clean = (
  clean,
  λ e b rest same among. let first : b ≡ c = cc in
      both_ways (is_mark c) h (subst (λ a. is_mark a ≡ true) first (mark_at among.0 b among.1 among.2)),
)

comment_text : {text rest : List ℕ} {kind : CommentKind} → SpellsComment text kind rest → IsCleanLine text
    → IsCommentOf kind (trim_returns rest)
comment_text {rest = rest} spelt clean =
    let read = comment_rest spelt clean in
    let n = length rest - suffix_len (λ b. b == 13) rest in
    record {
      comment = record {
        valid = record {
          utf8 = trim_returns-utf8 rest read.0.utf8;
          no_nul =
              All-take (λ b. b ≢ 0) n rest read.0.no_nul;
        };
        one_line = All-take (λ b. b ≢ 10) n rest read.0.one_line;
        no_final_return = trim_returns-twice rest;
      };
      plain = λ is b more e. let first = take_first n rest b more e in read.1 is b first.0 first.1;
    }

-- a quoted string of a text without NUL holds none, and neither does the rest
abbrev HasNone : List ℕ → Type 0
HasNone text = All (λ b. b ≢ 0) text

rest_of : (own rest : List ℕ) → HasNone (own ++ rest) → HasNone rest
rest_of [] rest h = h
rest_of (b ∷ own) rest h = rest_of own rest (All-tail (λ b. b ≢ 0) b (own ++ rest) h)

escape_nonzero : {text rest : List ℕ} {b : ℕ} → SpellsEscape text b rest → HasNone text → (b ≢ 0) × HasNone rest
escape_nonzero (letter {b = b} {value = value} {rest = rest} e) h = (
  λ none. omega (arith, none, of_each_letter (λ _ byte. 0 < byte) b value (search (rules, arith)) e),
  rest_of (b ∷ []) rest h,
)
escape_nonzero (octal digits {rest = rest} all few ends byte) h = (λ e. omega (arith, byte.0), rest_of digits rest h)
escape_nonzero (hexadecimal digits {rest = rest} all ends byte) h =
    (λ e. omega (arith, byte.0), rest_of (120 ∷ digits) rest h)

string_nonzero : {text bytes rest : List ℕ} → SpellsString text bytes rest → HasNone text → HasNone bytes × HasNone rest
string_nonzero (closed {rest = rest}) h = (All-nil (λ b. b ≢ 0), rest_of (34 ∷ []) rest h)
string_nonzero (plain {b = b} {text = text} {bytes = bytes} p q s) h =
    let others = string_nonzero s (rest_of (b ∷ []) text h) in
    (All-cons (λ c. c ≢ 0) b bytes (All-head (λ c. c ≢ 0) b text h) others.0, others.1)
string_nonzero (escape {b = b} {text = text} {bytes = bytes} e s) h =
    let first = escape_nonzero e (rest_of (92 ∷ []) text h) in
    let others = string_nonzero s first.1 in
    (All-cons (λ c. c ≢ 0) b bytes first.0 others.0, others.1)

no_items : All HoldsText []
no_items = All-nil HoldsText

token_texts : {marks : Marks} {line : ℕ} {text : List ℕ} {items : List TextItem} → HoldsTokens marks line text items
    → HasNone text → All HoldsText items
token_texts end h = no_items
token_texts (blank {b = b} {text = text} is more) h = token_texts more (rest_of (b ∷ []) text h)
token_texts (keyword {text = text} {rest = rest} s more) h =
    let own = keyword_rest s in
    All-cons HoldsText _ _ tt (token_texts more (rest_of own.0 rest (subst HasNone own.1 h)))
token_texts (string {text = text} s more) h =
    let read = string_nonzero s (rest_of (34 ∷ []) text h) in
    All-cons HoldsText _ _ read.0 (token_texts more read.1)

pub line_texts : {number : ℕ} {line : List ℕ} {items : List TextItem} → HoldsItems number line items → IsCleanLine line
    → All HoldsText items
line_texts (indented {b = b} {text = text} is h) clean = line_texts h (clean_tail b text (blank_low b is) clean)
line_texts (comment {text = text} s) clean =
    All-cons HoldsText _ [] (comment_text s (clean_tail 35 text (omega arith) clean)) no_items
line_texts (obsolete_comment blanks {text = text} all s) clean =
    let inner = clean_tail 126 (blanks ++ 35 ∷ text) (omega arith)
    (clean_tail 35 (126 ∷ (blanks ++ 35 ∷ text)) (omega arith) clean) in
    All-cons HoldsText _ [] (comment_text s
    (clean_tail 35 text (omega arith) (clean_after blanks (35 ∷ text) all inner))) no_items
line_texts (live h) clean = token_texts h clean.no_nul
line_texts (previous {text = text} h) clean = token_texts h (rest_of (35 ∷ 124 ∷ []) text clean.no_nul)
line_texts (obsolete {text = text} h) clean = token_texts h (rest_of (35 ∷ 126 ∷ []) text clean.no_nul)
line_texts (obsolete_previous {text = text} h) clean = token_texts h (rest_of (35 ∷ 126 ∷ 124 ∷ []) text clean.no_nul)

pub lines_texts : (number : ℕ) (lines : List (List ℕ)) (items : List TextItem) → SpellsLines number lines items
    → All IsCleanLine lines → All HoldsText items
lines_texts number [] items h clean = rw h no_items
lines_texts number (line ∷ lines) items h clean =
    rw h.4 (All-append HoldsText h.0 h.1 (line_texts h.2 (All-head IsCleanLine line lines clean))
    (lines_texts (number + 1) lines h.1 h.3 (All-tail IsCleanLine line lines clean)))

pub text_items : (text : List ℕ) (items : List TextItem) → SpellsText text items → All HoldsText items
text_items text items h = lines_texts 1 _ items h.lines (clean_lines text h.utf8 h.no_nul)
