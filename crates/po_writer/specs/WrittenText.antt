-- The text that a catalogue is written as (manual, "The Format of PO Files"). No line is wrapped.
use Rattle.std.specs.Prelude.{ℕ, ◌+◌, ◌==◌, Bool, not, nat_lt, List, [], ◌∷◌, ◌++◌, length, filter, Option, None, Some, codes, decimal, if◌then◌else◌}
use Rattle.std.specs.List.{flat_map, join_by}
use Rattle.po_syntax.specs.Facts.LinesWithEnds.{lines_with_ends}
use Rattle.po_syntax.specs.Prelude.{quoted}
use Rattle.po_entry.specs.Prelude.{TextEntry, TextPrevious}

-- the quoted form on a line of its own
abbrev pub string_line : List ℕ → List ℕ → List ℕ
string_line prefix text = prefix ++ quoted text ++ 10 ∷ []

-- What stands after a keyword: the text as one string; or where a LF stands before its last byte,
-- an empty string and then one string for each line.
abbrev pub text_lines : List ℕ → List ℕ → List ℕ
text_lines prefix text =
    if nat_lt 1 (length (lines_with_ends text))
    then string_line [] [] ++ flat_map (string_line prefix) (lines_with_ends text)
    else string_line [] text

-- a keyword with its text; the prefix stands on each line
abbrev pub keyword_lines : List ℕ → List ℕ → List ℕ → List ℕ
keyword_lines prefix keyword text = prefix ++ keyword ++ 32 ∷ text_lines prefix text

-- a keyword with a text that may be absent
abbrev pub optional_lines : List ℕ → List ℕ → Option (List ℕ) → List ℕ
optional_lines prefix keyword None = []
optional_lines prefix keyword (Some text) = keyword_lines prefix keyword text

-- one line for each comment, after the mark of its kind
abbrev pub comment_lines : List ℕ → List (List ℕ) → List ℕ
comment_lines mark texts = flat_map (λ text. mark ++ text ++ 10 ∷ []) texts

-- one line for all elements, with a separator between them, where there are any
abbrev pub elements_line : List ℕ → List ℕ → List (List ℕ) → List ℕ
elements_line mark separator [] = []
elements_line mark separator (element ∷ elements) = mark ++ join_by (λ w. w) separator (element ∷ elements) ++ 10 ∷ []

-- the flags, `fuzzy` first
abbrev pub all_flags : Bool → List (List ℕ) → List (List ℕ)
all_flags fuzzy flags = if fuzzy then codes "fuzzy" ∷ flags else flags

abbrev pub previous_prefix : Bool → List ℕ
previous_prefix obsolete = if obsolete then codes "#~| " else codes "#| "

abbrev pub own_prefix : Bool → List ℕ
own_prefix obsolete = if obsolete then codes "#~ " else []

-- the previous texts that there are
abbrev pub previous_lines : List ℕ → TextPrevious → List ℕ
previous_lines prefix previous =
    optional_lines prefix (codes "msgctxt") previous.context ++ optional_lines prefix (codes "msgid") previous.id
    ++ optional_lines prefix (codes "msgid_plural") previous.plural

-- the plural forms from this index on
abbrev pub form_lines : List ℕ → ℕ → List (List ℕ) → List ℕ
form_lines prefix index [] = []
form_lines prefix index (form ∷ forms) =
    keyword_lines prefix (codes "msgstr[" ++ decimal index ++ codes "]") form ++ form_lines prefix (index + 1) forms

-- the only form after `msgstr`, or the plural and the plural forms
abbrev pub translation_lines : List ℕ → Option (List ℕ) → List (List ℕ) → List ℕ
translation_lines prefix None forms = flat_map (keyword_lines prefix (codes "msgstr")) forms
translation_lines prefix (Some plural) forms =
    keyword_lines prefix (codes "msgid_plural") plural ++ form_lines prefix 0 forms

-- an entry's own lines
abbrev pub own_lines : List ℕ → TextEntry → List ℕ
own_lines prefix entry =
    optional_lines prefix (codes "msgctxt") entry.context ++ keyword_lines prefix (codes "msgid") entry.id
    ++ translation_lines prefix entry.plural entry.forms

-- an entry: its comments, references and flags, its previous texts, and its own lines
abbrev pub entry_lines : TextEntry → List ℕ
entry_lines entry =
    comment_lines (codes "#") entry.comments ++ comment_lines (codes "#.") entry.extracted
    ++ elements_line (codes "#: ") (codes " ") entry.references
    ++ elements_line (codes "#, ") (codes ", ") (all_flags entry.fuzzy entry.flags)
    ++ previous_lines (previous_prefix entry.obsolete) entry.previous ++ own_lines (own_prefix entry.obsolete) entry

-- the live entries in order, then the obsolete ones in order
abbrev pub arranged : List TextEntry → List TextEntry
arranged entries = filter (λ e. not e.obsolete) entries ++ filter (λ e. e.obsolete) entries

-- the entries, with an empty line between two
abbrev pub in_order : List TextEntry → List ℕ
in_order entries = join_by entry_lines (10 ∷ []) entries

-- the entries, arranged, with an empty line between two
abbrev pub written_text : List TextEntry → List ℕ
written_text entries = in_order (arranged entries)

-- A text entry by entry, as it grows (manual, "The Format of PO Files").

-- a text with an entry after it, and an empty line between them
abbrev pub with_entry : List ℕ → TextEntry → List ℕ
with_entry text entry = (if length text == 0 then [] else text ++ 10 ∷ []) ++ entry_lines entry
