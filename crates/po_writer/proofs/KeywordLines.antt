-- A keyword with its text, on one line or more, spells the keyword and strings that give the text.
use Rattle.po_writer.proofs.Prelude.{All, All-cons, All-head, All-nil, All-tail, HoldsItems, HoldsTokens, IsBlank, IsText, Keyword, List, Marks, MsgCtxt, MsgId, MsgIdPlural, MsgStr, MsgStrAt, SpellsKeyword, SpellsKeywordText, SpellsStrings, Str, TextItem, Word, [], ap, append-nil, append_assoc, arith, blank, codes, cond_both, decimal, end, false, flat_map, keyword as keyword_token, keyword_lines, keyword_text, length, lines_are, lines_with_ends, live, more, msgctxt, msgid, msgid_plural, msgstr, nat_lt, obsolete, obsolete_previous, previous, quoted, refl, string, string_line, subst, sym, true, written_bytes, ℕ, ◌++◌, ◌<◌, ◌^◌, ◌∙◌, ◌∷◌, ◌≡◌, ◌≤◌}
use Rattle.po_syntax.specs.Prelude.{own_marks, previous_marks}
use Rattle.po_syntax.proofs.QuotedForms.{bytes_spell}
use Rattle.po_entry.specs.Spelling.{last}
use Rattle.po_writer.proofs.WrittenLines.{BeginsLow, Block, empty_block, flat_lines, line_block, low-append, two_blocks, weaker_block}
use Rattle.po_writer.proofs.Utf8Lines.{IsLine, ascii_line, line-append, plain_line, quoted_line, text-empty, text_lines, text_some}
use Rattle.std.specs.Str.Parse.{AllDigits, IsNumeral, digits_value}
use Rattle.std.proofs.lemmas.Fmt.{decimal_is_IsNumeral}
use Rattle.std.proofs.lemmas.Str.Parse.{digit_from_value}
use Rattle.po_syntax.specs.Token.{form}

-- after the prefix, tokens stand under these marks
abbrev pub IsPrefix : List ℕ → Marks → Type 0
IsPrefix prefix marks = (number : ℕ) (rest : List ℕ) (items : List TextItem) → HoldsTokens marks number rest items
    → HoldsItems number (prefix ++ rest) items

pub no_prefix : IsPrefix [] (own_marks false)
no_prefix number rest items h = live h

pub previous_live : IsPrefix (codes "#| ") (previous_marks false)
previous_live number rest items h = previous (blank refl h)

pub previous_obsolete : IsPrefix (codes "#~| ") (previous_marks true)
previous_obsolete number rest items h = obsolete_previous (blank refl h)

pub own_obsolete : IsPrefix (codes "#~ ") (own_marks true)
own_obsolete number rest items h = obsolete (blank refl h)

string_tokens : (marks : Marks) (number : ℕ) (text : List ℕ) → All (λ b. (0 < b) × (b < 256)) text
    → HoldsTokens marks number (quoted text) (Str text marks number ∷ [])
string_tokens marks number text some = string (bytes_spell text [] some) end

-- a prefix and a string
pub string_spells : (prefix : List ℕ) (marks : Marks) (number : ℕ) (text : List ℕ) → IsPrefix prefix marks
    → All (λ b. (0 < b) × (b < 256)) text
    → HoldsItems number (prefix ++ quoted text) (Str text marks number ∷ [])
string_spells prefix marks number text h some =
    h number (quoted text) (Str text marks number ∷ []) (string_tokens marks number text some)

-- the word is this keyword before a string
abbrev pub IsKeyword : List ℕ → Keyword → Type 0
IsKeyword spelling word = (rest : List ℕ) → SpellsKeyword (spelling ++ 32 ∷ 34 ∷ rest) word (32 ∷ 34 ∷ rest)

pub context_keyword : IsKeyword (codes "msgctxt") MsgCtxt
context_keyword rest = msgctxt refl

pub id_keyword : IsKeyword (codes "msgid") MsgId
id_keyword rest = msgid refl

pub plural_keyword : IsKeyword (codes "msgid_plural") MsgIdPlural
plural_keyword rest = msgid_plural refl

pub single_keyword : IsKeyword (codes "msgstr") MsgStr
single_keyword rest = msgstr refl refl

-- a prefix, a keyword and a string
pub keyword_spells : (prefix spelling : List ℕ) (word : Keyword) (marks : Marks) (number : ℕ) (text : List ℕ)
    → IsPrefix prefix marks → IsKeyword spelling word → All (λ b. (0 < b) × (b < 256)) text
    → HoldsItems number (prefix ++ (spelling ++ 32 ∷ quoted text)) (Word word marks number ∷ Str text marks number ∷ [])
keyword_spells prefix spelling word marks number text h k some =
    h number (spelling ++ 32 ∷ quoted text) (Word word marks number ∷ Str text marks number ∷ [])
    (keyword_token (k (written_bytes text ++ 34 ∷ [])) (blank refl (string_tokens marks number text some)))

-- A keyword with its text, on one line or more, spells the keyword and strings that give the text.

-- the items are a keyword with the strings of its text
abbrev pub TextPart : Keyword → Marks → List ℕ → List TextItem → Type 0
TextPart keyword marks text here = (number : ℕ) × SpellsKeywordText keyword marks number here text

-- a prefix of written lines
pub record IsLinePrefix (prefix : List ℕ) (marks : Marks) : Type 0 where
  pub marked : IsPrefix prefix marks
  pub line : IsLine prefix
  pub low : BeginsLow prefix

-- one string
abbrev OneString : Marks → List ℕ → List TextItem → Type 0
OneString marks text items = (number : ℕ) × (items ≡ Str text marks number ∷ [])

one_string : (prefix : List ℕ) (marks : Marks) (text : List ℕ) → IsLinePrefix prefix marks → IsText text
    → Block (OneString marks text) (string_line prefix text)
one_string prefix marks text p h =
    line_block (prefix ++ quoted text) (line-append prefix (quoted text) p.line (quoted_line text h.utf8))
    (low-append prefix (quoted text) p.low (omega arith))
    (λ number. (
      Str text marks number ∷ [],
      (number, refl),
      string_spells prefix marks number text p.marked (text_some text h),
    ))

-- the pieces one after the other
abbrev pub joined : List (List ℕ) → List ℕ
joined pieces = flat_map (λ piece. piece) pieces

-- the items are strings that go on with these pieces after any string
abbrev FurtherStrings : Marks → List (List ℕ) → List TextItem → Type 0
FurtherStrings marks pieces here =
    (number : ℕ) (text : List ℕ) → SpellsStrings marks (Str text marks number ∷ here) (text ++ joined pieces)

-- one string a line
strings_block : (prefix : List ℕ) (marks : Marks) (pieces : List (List ℕ)) → IsLinePrefix prefix marks
    → All IsText pieces → Block (FurtherStrings marks pieces) (flat_map (string_line prefix) pieces)
strings_block prefix marks [] p h = empty_block (λ number text. rw (append-nil text) last)
strings_block prefix marks (piece ∷ pieces) p h =
    two_blocks (one_string prefix marks piece p (All-head IsText piece pieces h))
    (strings_block prefix marks pieces p (All-tail IsText piece pieces h))
    (λ before later g i number text. rw g.1 (more (i g.0 piece)))

-- a keyword of written lines
pub record IsLineKeyword (spelling : List ℕ) (keyword : Keyword) : Type 0 where
  pub token : IsKeyword spelling keyword
  pub line : IsLine spelling
  pub low : BeginsLow spelling

-- a keyword and one string on its line
abbrev OneLine : Keyword → Marks → List ℕ → List TextItem → Type 0
OneLine keyword marks text items = (number : ℕ) × (items ≡ Word keyword marks number ∷ Str text marks number ∷ [])

keyword_line : (prefix spelling : List ℕ) (keyword : Keyword) (marks : Marks) (text : List ℕ)
    → IsLinePrefix prefix marks → IsLineKeyword spelling keyword → IsText text
    → Block (OneLine keyword marks text) ((prefix ++ spelling) ++ 32 ∷ string_line [] text)
keyword_line prefix spelling keyword marks text p k h =
    let written = 32 ∷ quoted text in
    let clean : IsLine written =
    line-append (32 ∷ []) (quoted text) (plain_line (32 ∷ []) refl) (quoted_line text h.utf8) in
    let block : Block (OneLine keyword marks text) ((prefix ++ (spelling ++ written)) ++ 10 ∷ []) =
    line_block (prefix ++ (spelling ++ written))
    (line-append prefix (spelling ++ written) p.line (line-append spelling written k.line clean))
    (low-append prefix (spelling ++ written) p.low (low-append spelling written k.low (omega arith)))
    (λ number. (
      Word keyword marks number ∷ Str text marks number ∷ [],
      (number, refl),
      keyword_spells prefix spelling keyword marks number text p.marked k.token (text_some text h),
    )) in
    subst (Block (OneLine keyword marks text))
    (append_assoc prefix (spelling ++ written) (10 ∷ [])
    ∙ ap (λ t. prefix ++ t) (append_assoc spelling written (10 ∷ []))
    ∙ sym (append_assoc prefix spelling (written ++ 10 ∷ []))) block

several_lines : (prefix spelling : List ℕ) (keyword : Keyword) (marks : Marks) (pieces : List (List ℕ))
    → IsLinePrefix prefix marks → IsLineKeyword spelling keyword → All IsText pieces
    → Block (TextPart keyword marks (joined pieces))
    ((prefix ++ spelling) ++ 32 ∷ (string_line [] [] ++ flat_map (string_line prefix) pieces))
several_lines prefix spelling keyword marks pieces p k h =
    subst (Block (TextPart keyword marks (joined pieces)))
    (append_assoc (prefix ++ spelling) (32 ∷ string_line [] []) (flat_map (string_line prefix) pieces))
    (two_blocks (keyword_line prefix spelling keyword marks [] p k text-empty) (strings_block prefix marks pieces p h)
    (λ here later g i. (g.0, rw g.1 (keyword_text (i g.0 [])))))

-- a keyword with its text
pub text_block : (prefix spelling : List ℕ) (keyword : Keyword) (marks : Marks) (text : List ℕ)
    → IsLinePrefix prefix marks → IsLineKeyword spelling keyword → IsText text
    → Block (TextPart keyword marks text) (keyword_lines prefix spelling text)
text_block prefix spelling keyword marks text p k h =
    let pieces = lines_with_ends text in
    cond_both (nat_lt 1 (length pieces)) (string_line [] [] ++ flat_map (string_line prefix) pieces)
    (string_line [] text) (λ l. Block (TextPart keyword marks text) ((prefix ++ spelling) ++ 32 ∷ l))
    (λ _. subst (λ t. Block (TextPart keyword marks t)
    ((prefix ++ spelling) ++ 32 ∷ (string_line [] [] ++ flat_map (string_line prefix) pieces))) (flat_lines text)
    (several_lines prefix spelling keyword marks pieces p k (text_lines (lines_are text) h)))
    (λ _. weaker_block (keyword_line prefix spelling keyword marks text p k h)
    (λ items g. (g.0, rw g.1 (keyword_text last))))

numbered_keyword : (digits rest : List ℕ) (index : ℕ) → IsNumeral 10 digits → digits_value 10 digits ≡ index
    → index < 2 ^ 32
    → SpellsKeyword ((codes "msgstr[" ++ digits ++ codes "]") ++ rest) (MsgStrAt index) rest
numbered_keyword digits rest index h value below =
    let none = All-nil IsBlank in
    let spelt = form [] [] digits [] {rest = rest} none none h (subst (λ i. i < 2 ^ 32) (sym value) below) none in
    rw (append_assoc digits (93 ∷ []) rest)
    (subst (λ i. SpellsKeyword (codes "msgstr[" ++ (digits ++ 93 ∷ rest)) (MsgStrAt i) rest) value spelt)

plain_digits : (digits : List ℕ) → AllDigits 10 digits → All (λ b. (32 ≤ b) × (b < 128)) digits
plain_digits [] h = All-nil (λ b. (32 ≤ b) × (b < 128))
plain_digits (d ∷ digits) h = let range = digit_from_value d h.0 in
    All-cons (λ b. (32 ≤ b) × (b < 128)) d digits (omega (arith, range), omega (arith, range)) (plain_digits digits h.1)

pub context_written : IsLineKeyword (codes "msgctxt") MsgCtxt
context_written = record { token = context_keyword; line = plain_line (codes "msgctxt") refl; low = omega arith }

pub id_written : IsLineKeyword (codes "msgid") MsgId
id_written = record { token = id_keyword; line = plain_line (codes "msgid") refl; low = omega arith }

pub plural_written : IsLineKeyword (codes "msgid_plural") MsgIdPlural
plural_written = record { token = plural_keyword; line = plain_line (codes "msgid_plural") refl; low = omega arith }

pub single_written : IsLineKeyword (codes "msgstr") MsgStr
single_written = record { token = single_keyword; line = plain_line (codes "msgstr") refl; low = omega arith }

pub numbered : (index : ℕ) → index < 2 ^ 32
    → IsLineKeyword (codes "msgstr[" ++ decimal index ++ codes "]") (MsgStrAt index)
numbered index below =
    let digits = decimal_is_IsNumeral index (omega (arith, below)) in
    record {
      token = λ rest. numbered_keyword (decimal index) (32 ∷ 34 ∷ rest) index digits.0 digits.1 below;
      line = line-append (codes "msgstr[" ++ decimal index) (codes "]")
          (line-append (codes "msgstr[") (decimal index) (plain_line (codes "msgstr[") refl)
          (ascii_line (decimal index) (plain_digits (decimal index) digits.0.1))) (plain_line (codes "]") refl);
      low = omega arith;
    }
