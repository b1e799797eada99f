-- The fields of an entry that come from its comments and previous texts (manual, "The Format of PO
-- Files").
use Rattle.std.specs.Prelude.{ℕ, List, Bool, true, false, ◌||◌, ◌==◌, not, [], ◌∷◌, ◌++◌, Some, map, filter, flat_map, fold, bytes_eq, codes, length, if◌then◌else◌, ◌≡◌, ◌≢◌, All, Contains}
use Rattle.po_syntax.specs.declared.item.CommentKind.{CommentKind}
use Rattle.po_syntax.specs.declared.item.Keyword.{Keyword}
use Rattle.po_syntax.specs.declared.item.Keyword.TheVariants.{MsgCtxt, MsgId, MsgIdPlural}
use Rattle.std.specs.List.{slice_split, list_any}
use Rattle.po_syntax.specs.declared.item.CommentKind.TheVariants.{Translator, Extracted, Reference, Flags}
use Rattle.po_entry.specs.TextEntry.{TextPrevious, no_previous}
use Rattle.po_syntax.specs.Prelude.{is_blank, IsBlank}
use Rattle.po_entry.specs.Texts.{trimmed, Lacks}

-- What the items of an entry's head say, part by part: its comments and its previous texts (manual,
-- "The Format of PO Files").

-- a comment, with its kind: the text after its mark
pub record CommentText : Type 0 where
  pub kind : CommentKind
  pub text : List ℕ

-- a previous text, with its keyword
pub record PreviousText : Type 0 where
  pub keyword : Keyword
  pub text : List ℕ

-- The rank of a keyword among those of previous texts, each of which stands at most once, in this
-- order; 0 for a keyword that no previous text has.
abbrev pub rank : Keyword → ℕ
rank MsgCtxt = 1
rank MsgId = 2
rank MsgIdPlural = 3
rank keyword = 0

-- whether two of the four kinds of comments are the same
abbrev pub same_kind : CommentKind → CommentKind → Bool
same_kind Translator Translator = true
same_kind Extracted Extracted = true
same_kind Reference Reference = true
same_kind Flags Flags = true
same_kind a b = false

-- the texts of the comments of a kind, in order
abbrev pub texts_of : CommentKind → List CommentText → List (List ℕ)
texts_of kind all = map (λ (c : CommentText). c.text) (filter (λ (c : CommentText). same_kind kind c.kind) all)

abbrev pub is_not_empty : List ℕ → Bool
is_not_empty text = not (length text == 0)

-- the elements of one reference line, between blanks; U+2068 and U+2069 have no meaning here
abbrev pub listed_references : List ℕ → List (List ℕ)
listed_references text = filter is_not_empty (slice_split is_blank text)

-- the elements of one flag line, between commas and without blanks at their ends; empty ones are
-- left out
abbrev pub listed_flags : List ℕ → List (List ℕ)
listed_flags text = filter is_not_empty (map trimmed (slice_split (λ b. b == 44) text))

-- the elements of all reference lines, in order, repeats too
abbrev pub references_of : List CommentText → List (List ℕ)
references_of comment_texts = flat_map listed_references (texts_of Reference comment_texts)

-- the elements of all flag lines, in order
abbrev pub all_listed_flags : List CommentText → List (List ℕ)
all_listed_flags comment_texts = flat_map listed_flags (texts_of Flags comment_texts)

abbrev pub is_fuzzy_flag : List ℕ → Bool
is_fuzzy_flag flag = bytes_eq flag (codes "fuzzy")

-- some flag line has `fuzzy`
abbrev pub fuzzy_of : List CommentText → Bool
fuzzy_of comment_texts = list_any is_fuzzy_flag (all_listed_flags comment_texts)

-- the flags and this one, unless it is `fuzzy` or already among them
abbrev pub with_flag : List (List ℕ) → List ℕ → List (List ℕ)
with_flag flags flag = if is_fuzzy_flag flag || list_any (bytes_eq flag) flags then flags else flags ++ flag ∷ []

-- the flags other than `fuzzy`, each once, in the order in which they first stand
abbrev pub flags_of : List CommentText → List (List ℕ)
flags_of comment_texts = fold with_flag [] (all_listed_flags comment_texts)

-- the previous texts with one more, in its field: of the context, of the msgid, else of the plural
abbrev pub with_previous : Keyword → List ℕ → TextPrevious → TextPrevious
with_previous MsgCtxt text fields = record fields { context = Some text }
with_previous MsgId text fields = record fields { id = Some text }
with_previous keyword text fields = record fields { plural = Some text }

-- each previous text in its field
abbrev pub previous_of : List PreviousText → TextPrevious
previous_of previous = fold (λ fields (p : PreviousText). with_previous p.keyword p.text fields) no_previous previous

-- The references and flags that comment lines list, with a case for each part of a line (manual,
-- "The Format of PO Files").

-- a reference ends before this text, which is empty or begins with a blank
abbrev pub EndsReference : List ℕ → Type 0
EndsReference [] = Unit {0}
EndsReference (b ∷ text) = IsBlank b

-- the references of a text: its elements, between blanks
pub data ListsReferences : List ℕ → List (List ℕ) → Type 0 where
  no_text : ListsReferences [] []
  blank : {b : ℕ} {text : List ℕ} {references : List (List ℕ)} → IsBlank b → ListsReferences text references
      → ListsReferences (b ∷ text) references
  reference : {element rest : List ℕ} {references : List (List ℕ)} → element ≢ [] → All (λ b. IsBlank b → ⊥) element
      → EndsReference rest → ListsReferences rest references
      → ListsReferences (element ++ rest) (element ∷ references)

-- the references of an entry's comments: those of each reference comment, in the order of the lines
pub data HaveReferences : List CommentText → List (List ℕ) → Type 0 where
  no_comment : HaveReferences [] []
  references : {comment : CommentText} {comments : List CommentText} {here later : List (List ℕ)}
      → comment.kind ≡ Reference → ListsReferences comment.text here → HaveReferences comments later
      → HaveReferences (comment ∷ comments) (here ++ later)
  other_kind : {comment : CommentText} {comments : List CommentText} {references : List (List ℕ)}
      → comment.kind ≢ Reference → HaveReferences comments references
      → HaveReferences (comment ∷ comments) references

-- the text without the blanks at its ends
pub record IsWithoutBlanks (text kept : List ℕ) : Type 0 where
  pub before : List ℕ
  pub after : List ℕ
  pub whole : text ≡ before ++ (kept ++ after)
  pub before_blank : All IsBlank before
  pub after_blank : All IsBlank after
  pub no_first : (b : ℕ) (rest : List ℕ) → kept ≡ b ∷ rest → IsBlank b → ⊥
  pub no_last : (prefix : List ℕ) (b : ℕ) → kept ≡ prefix ++ b ∷ [] → IsBlank b → ⊥

-- what a text between two commas names: a flag, or nothing
pub data NamesFlag : List ℕ → List (List ℕ) → Type 0 where
  no_flag : {text : List ℕ} → IsWithoutBlanks text [] → NamesFlag text []
  flag : {text kept : List ℕ} → kept ≢ [] → IsWithoutBlanks text kept → NamesFlag text (kept ∷ [])

-- the flags of a text, between commas
pub data ListsFlags : List ℕ → List (List ℕ) → Type 0 where
  last : {text : List ℕ} {flags : List (List ℕ)} → Lacks 44 text → NamesFlag text flags → ListsFlags text flags
  more : {text rest : List ℕ} {here later : List (List ℕ)} → Lacks 44 text → NamesFlag text here → ListsFlags rest later
      → ListsFlags (text ++ 44 ∷ rest) (here ++ later)

-- the flags that an entry keeps of all that its lines name: each where it first stands, and never
-- `fuzzy`
pub data KeepsFlags : List (List ℕ) → List (List ℕ) → Type 0 where
  none : KeepsFlags [] []
  first : {named kept : List (List ℕ)} {flag : List ℕ} → KeepsFlags named kept → flag ≢ codes "fuzzy"
      → (Contains named flag → ⊥) → KeepsFlags (named ++ flag ∷ []) (kept ++ flag ∷ [])
  fuzzy : {named kept : List (List ℕ)} → KeepsFlags named kept → KeepsFlags (named ++ codes "fuzzy" ∷ []) kept
  repeated : {named kept : List (List ℕ)} {flag : List ℕ} → KeepsFlags named kept → Contains named flag
      → KeepsFlags (named ++ flag ∷ []) kept

-- one of the comments lists flags, and among them `fuzzy`, wherever it stands
pub data HaveFuzzyFlag : List CommentText → Type 0 where
  here : {text : List ℕ} {flags : List (List ℕ)} {after : List CommentText} → ListsFlags text flags
      → Contains flags (codes "fuzzy")
      → HaveFuzzyFlag (record { kind = Flags; text = text } ∷ after)
  later : {first : CommentText} {after : List CommentText} → HaveFuzzyFlag after → HaveFuzzyFlag (first ∷ after)
