-- What an entry is written as, with a case for each line, and how the entries of a catalogue stand
-- in its text (manual, "The Format of PO Files").
use Rattle.std.specs.Prelude.{◌≡◌, ◌≢◌, ◌⊎◌, ℕ, List, [], ◌∷◌, ◌++◌, ◌+◌, Bool, true, false, Option, None, Some, codes, decimal}
use Rattle.std.specs.List.{flat_map}
use Rattle.po_syntax.specs.Facts.LinesWithEnds.{ContainsLines}
use Rattle.po_entry.specs.Prelude.{Lacks, TextEntry}
use Rattle.po_writer.specs.WrittenText.{string_line, text_lines, entry_lines}

-- How a text stands after its keyword, with a case for each form (manual, "The Format of PO Files").

-- a text without LF, or whose only LF is its last byte, is one string; any other is an empty string,
-- and then each of its lines is one, after the prefix
pub data WritesText (prefix : List ℕ) : List ℕ → List ℕ → Type 0 where
  one_line : {line : List ℕ} → Lacks 10 line → WritesText prefix line (string_line [] line)
  one_ended_line : (line : List ℕ) → Lacks 10 line
      → WritesText prefix (line ++ 10 ∷ []) (string_line [] (line ++ 10 ∷ []))
  each_line : (line : List ℕ) (b : ℕ) {text : List ℕ} {lines : List (List ℕ)} → Lacks 10 line
      → ContainsLines (b ∷ text) lines
      → WritesText prefix (line ++ 10 ∷ b ∷ text)
      (string_line [] [] ++ flat_map (string_line prefix) ((line ++ 10 ∷ []) ∷ lines))

abbrev pub TextsAreWritten : Type 0
TextsAreWritten = (prefix text : List ℕ) → WritesText prefix text (text_lines prefix text)

-- the line ends in a LF and contains no other
abbrev pub EndsInItsOnlyFeed : List ℕ → Type 0
EndsInItsOnlyFeed line = (text : List ℕ) × (line ≡ text ++ 10 ∷ []) × Lacks 10 text

-- the line is the last one, has no LF, and isn't empty
pub record IsLastLine (line : List ℕ) (after : List (List ℕ)) : Type 0 where
  pub last : after ≡ []
  pub no_feed : Lacks 10 line
  pub some : line ≢ []

-- each line but the last ends in its only LF, and so does the last, if it has one
abbrev pub EachEndsInItsOnlyFeed : List (List ℕ) → Type 0
EachEndsInItsOnlyFeed lines =
    (before after : List (List ℕ)) (line : List ℕ) → lines ≡ before ++ line ∷ after
    → EndsInItsOnlyFeed line ⊎ IsLastLine line after

-- a line for each comment, after this mark
pub data WritesComments (mark : List ℕ) : List (List ℕ) → List ℕ → Type 0 where
  no_comments : WritesComments mark [] []
  comment : (text : List ℕ) {texts : List (List ℕ)} {lines : List ℕ} → WritesComments mark texts lines
      → WritesComments mark (text ∷ texts) (mark ++ text ++ 10 ∷ [] ++ lines)

-- further elements of a line, each after the separator, and the end of the line
pub data WritesFurther (separator : List ℕ) : List (List ℕ) → List ℕ → Type 0 where
  line_end : WritesFurther separator [] (10 ∷ [])
  next_element : (element : List ℕ) {elements : List (List ℕ)} {rest : List ℕ} → WritesFurther separator elements rest
      → WritesFurther separator (element ∷ elements) (separator ++ element ++ rest)

-- one line for all elements, or none where there is no element
pub data WritesElements (mark separator : List ℕ) : List (List ℕ) → List ℕ → Type 0 where
  no_line : WritesElements mark separator [] []
  line : (element : List ℕ) {elements : List (List ℕ)} {rest : List ℕ} → WritesFurther separator elements rest
      → WritesElements mark separator (element ∷ elements) (mark ++ element ++ rest)

-- one space stands between two references
abbrev pub WritesReferences : List (List ℕ) → List ℕ → Type 0
WritesReferences references text = WritesElements (codes "#: ") (codes " ") references text

-- `fuzzy` is the first flag
pub data WritesFlags : Bool → List (List ℕ) → List ℕ → Type 0 where
  plain : {flags : List (List ℕ)} {line : List ℕ} → WritesElements (codes "#, ") (codes ", ") flags line
      → WritesFlags false flags line
  fuzzy : {flags : List (List ℕ)} {line : List ℕ}
      → WritesElements (codes "#, ") (codes ", ") (codes "fuzzy" ∷ flags) line → WritesFlags true flags line

-- what stands before the keywords of previous texts
pub data IsPreviousPrefix : Bool → List ℕ → Type 0 where
  previous_live : IsPreviousPrefix false (codes "#| ")
  previous_obsolete : IsPreviousPrefix true (codes "#~| ")

-- what stands before an entry's own keywords
pub data IsOwnPrefix : Bool → List ℕ → Type 0 where
  own_live : IsOwnPrefix false []
  own_obsolete : IsOwnPrefix true (codes "#~ ")

-- a keyword, a space, and the text
pub data WritesKeyword (prefix keyword : List ℕ) : List ℕ → List ℕ → Type 0 where
  written : {text string : List ℕ} → WritesText prefix text string
      → WritesKeyword prefix keyword text (prefix ++ keyword ++ 32 ∷ string)

-- a keyword whose text may be absent
pub data WritesOptional (prefix keyword : List ℕ) : Option (List ℕ) → List ℕ → Type 0 where
  absent : WritesOptional prefix keyword None []
  present : {text lines : List ℕ} → WritesKeyword prefix keyword text lines
      → WritesOptional prefix keyword (Some text) lines

-- the forms of a plural, from this index on
pub data WritesForms (prefix : List ℕ) : ℕ → List (List ℕ) → List ℕ → Type 0 where
  no_forms : {index : ℕ} → WritesForms prefix index [] []
  form : {index : ℕ} {text here later : List ℕ} {forms : List (List ℕ)}
      → WritesKeyword prefix (codes "msgstr[" ++ decimal index ++ codes "]") text here
      → WritesForms prefix (index + 1) forms later → WritesForms prefix index (text ∷ forms) (here ++ later)

-- the only form; or the plural, and the forms from index 0 on
pub data WritesTranslation (prefix : List ℕ) : Option (List ℕ) → List (List ℕ) → List ℕ → Type 0 where
  only : {text lines : List ℕ} → WritesKeyword prefix (codes "msgstr") text lines
      → WritesTranslation prefix None (text ∷ []) lines
  with_plural : {text here later : List ℕ} {forms : List (List ℕ)}
      → WritesKeyword prefix (codes "msgid_plural") text here → WritesForms prefix 0 forms later
      → WritesTranslation prefix (Some text) forms (here ++ later)

-- the previous texts of an entry
pub data WritesPrevious (e : TextEntry) : List ℕ → Type 0 where
  previous : {prefix context id plural : List ℕ} → IsPreviousPrefix e.obsolete prefix
      → WritesOptional prefix (codes "msgctxt") e.previous.context context
      → WritesOptional prefix (codes "msgid") e.previous.id id
      → WritesOptional prefix (codes "msgid_plural") e.previous.plural plural
      → WritesPrevious e (context ++ id ++ plural)

-- its own texts
pub data WritesOwn (e : TextEntry) : List ℕ → Type 0 where
  own : {prefix context id translation : List ℕ} → IsOwnPrefix e.obsolete prefix
      → WritesOptional prefix (codes "msgctxt") e.context context
      → WritesKeyword prefix (codes "msgid") e.id id
      → WritesTranslation prefix e.plural e.forms translation
      → WritesOwn e (context ++ id ++ translation)

-- an entry: its comments, its references, its flags, its previous texts, and its own texts
pub data WritesEntry (e : TextEntry) : List ℕ → Type 0 where
  entry : {comments extracted references flags previous own : List ℕ} → WritesComments (codes "#") e.comments comments
      → WritesComments (codes "#.") e.extracted extracted → WritesReferences e.references references
      → WritesFlags e.fuzzy e.flags flags → WritesPrevious e previous → WritesOwn e own
      → WritesEntry e (comments ++ extracted ++ references ++ flags ++ previous ++ own)

-- the live entries of a list and the obsolete ones, both in its order
pub data HasParts : List TextEntry → List TextEntry → List TextEntry → Type 0 where
  no_entries : HasParts [] [] []
  live_first : {e : TextEntry} {entries live obsolete : List TextEntry} → e.obsolete ≡ false
      → HasParts entries live obsolete → HasParts (e ∷ entries) (e ∷ live) obsolete
  obsolete_first : {e : TextEntry} {entries live obsolete : List TextEntry} → e.obsolete ≡ true
      → HasParts entries live obsolete → HasParts (e ∷ entries) live (e ∷ obsolete)

-- the live entries are before the obsolete ones
pub data IsArranged (entries : List TextEntry) : List TextEntry → Type 0 where
  live_before : {live obsolete : List TextEntry} → HasParts entries live obsolete
      → IsArranged entries (live ++ obsolete)

-- further entries, each after an empty line
pub data FollowEntries : List TextEntry → List ℕ → Type 0 where
  no_further : FollowEntries [] []
  after_empty_line : (e : TextEntry) {entries : List TextEntry} {rest : List ℕ} → FollowEntries entries rest
      → FollowEntries (e ∷ entries) (10 ∷ entry_lines e ++ rest)

-- the entries one after another, with an empty line between two
pub data StandInOrder : List TextEntry → List ℕ → Type 0 where
  no_text : StandInOrder [] []
  first_entry : (e : TextEntry) {entries : List TextEntry} {rest : List ℕ} → FollowEntries entries rest
      → StandInOrder (e ∷ entries) (entry_lines e ++ rest)
