-- The header of a catalogue, and the charset that it names (manual, "Filling in the Header Entry").
use Rattle.std.specs.Prelude.{◌≡◌, ℕ, Bool, true, ◌||◌, ◌==◌, nat_eq, List, [], ◌∷◌, Contains, map, drop, length, codes, is_none, slice_index_or, ◌&&◌, if◌then◌else◌, ◌↔◌, ◌≤◌, IsTrue, ◌++◌, All, None}
use Rattle.std.specs.List.{starts_with, before_first}
use Rattle.std.specs.Char.{to_ascii_lowercase}
use Rattle.po_entry.specs.TextEntry.{TextEntry}

-- a header has no context and an empty msgid, and may be obsolete
abbrev pub is_header : TextEntry → Bool
is_header entry = is_none entry.context && length entry.id == 0

-- what stands after the first `charset=` (8 bytes, in lower case); the empty text where there is
-- none
abbrev pub after_charset : List ℕ → List ℕ
after_charset [] = []
after_charset (b ∷ text) =
    if starts_with nat_eq (b ∷ text) (codes "charset=") then drop 8 (b ∷ text) else after_charset text

-- a space, TAB, CR, LF or semicolon ends a charset's name
abbrev pub ends_name : ℕ → Bool
ends_name b = b == 32 || b == 9 || b == 13 || b == 10 || b == 59

-- the charset that a header's text names; the empty text where it names none
abbrev pub charset_of : List ℕ → List ℕ
charset_of text = before_first ends_name (after_charset text)

-- a charset's name is admitted, whatever the case of its letters: the empty one, UTF-8, ASCII, and the
-- `CHARSET` of a template
abbrev pub IsAdmittedName : List ℕ → Type 0
IsAdmittedName name =
    Contains ([] ∷ codes "utf-8" ∷ codes "utf8" ∷ codes "us-ascii" ∷ codes "ascii" ∷ codes "charset" ∷ [])
    (map to_ascii_lowercase name)

-- the first of an entry's forms; the empty text where there is none
abbrev pub first_form : List (List ℕ) → List ℕ
first_form forms = slice_index_or forms 0 []

-- the charset of an entry is admitted, if the entry is a header
abbrev pub HasAdmittedCharset : TextEntry → Type 0
HasAdmittedCharset entry = is_header entry ≡ true → IsAdmittedName (charset_of (first_form entry.forms))

-- The name of a charset in a header's text, with a case each for a header that names one and one
-- that doesn't (manual, "Filling in the Header Entry").

abbrev pub EndsName : ℕ → Type 0
EndsName b = IsTrue (ends_name b)

-- a name ends where the text does, or before a byte that ends it
pub data IsAfterName : List ℕ → Type 0 where
  at_end : IsAfterName []
  at_byte : {b : ℕ} {rest : List ℕ} → EndsName b → IsAfterName (b ∷ rest)

-- in the text `charset=` stands after these bytes, and before the rest
abbrev pub IsAround : List ℕ → List ℕ → List ℕ → Type 0
IsAround text before rest = text ≡ before ++ (codes "charset=" ++ rest)

-- the text names this charset: the bytes after its first `charset=`, or none where it has no
-- `charset=`
pub data NamesCharset : List ℕ → List ℕ → Type 0 where
  unnamed : {text : List ℕ} → ((before rest : List ℕ) → IsAround text before rest → ⊥) → NamesCharset text []
  named : {text name : List ℕ} (before rest : List ℕ) → IsAround text before (name ++ rest)
      → ((other more : List ℕ) → IsAround text other more → length before ≤ length other)
      → All (λ b. EndsName b → ⊥) name → IsAfterName rest → NamesCharset text name

-- the charsets that are admitted, by their names in lowercase; a template's header has `CHARSET`
pub data NamesAdmitted : List ℕ → Type 0 where
  no_name : NamesAdmitted []
  utf_8 : NamesAdmitted (codes "utf-8")
  utf8 : NamesAdmitted (codes "utf8")
  us_ascii : NamesAdmitted (codes "us-ascii")
  ascii : NamesAdmitted (codes "ascii")
  template : NamesAdmitted (codes "charset")

-- an entry without a context and with an empty msgid, live or obsolete
pub record IsHeaderEntry (entry : TextEntry) : Type 0 where
  pub no_context : entry.context ≡ None
  pub empty_id : entry.id ≡ []

-- The charset of a header, live or obsolete, is admitted exactly if the one that its first form names
-- is; of an entry that is no header any is.
pub record AdmitsCharset (entry : TextEntry) : Type 0 where
  pub of_header : {form name : List ℕ} {forms : List (List ℕ)} → IsHeaderEntry entry → entry.forms ≡ form ∷ forms
      → NamesCharset form name
      → HasAdmittedCharset entry ↔ NamesAdmitted (map to_ascii_lowercase name)
  pub of_other : (IsHeaderEntry entry → ⊥) → HasAdmittedCharset entry
