-- What spells the entries of a PO text: the items of each entry in turn, and then comments that belong
-- to no entry; and how a text reads as a list of entries (manual, "The Format of PO Files").
use Rattle.std.specs.Prelude.{ℕ, ◌+◌, Bool, List, [], ◌∷◌, ◌++◌, map, Option, Some, None, All}
use Rattle.po_syntax.specs.declared.item.CommentKind.{CommentKind}
use Rattle.po_syntax.specs.declared.item.CommentKind.TheVariants.{Translator, Extracted}
use Rattle.po_syntax.specs.declared.item.Keyword.{Keyword}
use Rattle.po_syntax.specs.declared.item.Keyword.TheVariants.{MsgCtxt, MsgId, MsgIdPlural, MsgStr, MsgStrAt}
use Rattle.po_syntax.specs.declared.item.Marks.{Marks}
pub use Rattle.po_syntax.specs.Item.{own_marks, previous_marks}
use Rattle.po_syntax.specs.Prelude.{TextItem, SpellsText, LinesLeft, SpellsLeft}
use Rattle.po_syntax.specs.Item.{Comment, Word, Str}
use Rattle.po_entry.specs.TextEntry.{TextEntry}
use Rattle.po_entry.specs.Comments.{CommentText, PreviousText, texts_of, references_of, fuzzy_of, flags_of, previous_of}
use Rattle.po_entry.specs.Header.{HasAdmittedCharset}
use Rattle.po_entry.specs.Validity.{HasTexts}

-- one string or more, all under these marks: their bytes, joined
pub data SpellsStrings (marks : Marks) : List TextItem → List ℕ → Type 0 where
  last : {line : ℕ} {bytes : List ℕ} → SpellsStrings marks (Str bytes marks line ∷ []) bytes
  more : {line : ℕ} {bytes others : List ℕ} {strings : List TextItem} → SpellsStrings marks strings others
      → SpellsStrings marks (Str bytes marks line ∷ strings) (bytes ++ others)

-- a keyword on this line, and after it the strings of its text, under the keyword's marks
pub data SpellsKeywordText (keyword : Keyword) (marks : Marks) (line : ℕ) : List TextItem → List ℕ → Type 0 where
  keyword_text : {strings : List TextItem} {text : List ℕ} → SpellsStrings marks strings text
      → SpellsKeywordText keyword marks line (Word keyword marks line ∷ strings) text

-- an entry's head: comments, and previous texts among them, each of which may be under `#|` or
-- `#~|`
pub data SpellsHead : List TextItem → List CommentText → List PreviousText → Type 0 where
  nothing : SpellsHead [] [] []
  head_comment : {kind : CommentKind} {text : List ℕ} {line : ℕ} {items : List TextItem}
      {comment_texts : List CommentText} {previous : List PreviousText} → SpellsHead items comment_texts previous
      → SpellsHead (Comment kind text line ∷ items) (record { kind = kind; text = text } ∷ comment_texts) previous
  previous_text : {keyword : Keyword} {obsolete : Bool} {line : ℕ} {text : List ℕ} {own items : List TextItem}
      {comment_texts : List CommentText} {others : List PreviousText}
      → SpellsKeywordText keyword (previous_marks obsolete) line own text → SpellsHead items comment_texts others
      → SpellsHead (own ++ items) comment_texts (record { keyword = keyword; text = text } ∷ others)

-- the first list is some of the keywords of the second, in their order
pub data AreSome : List Keyword → List Keyword → Type 0 where
  none : AreSome [] []
  with : {keyword : Keyword} {some all : List Keyword} → AreSome some all → AreSome (keyword ∷ some) (keyword ∷ all)
  without : {keyword : Keyword} {some all : List Keyword} → AreSome some all → AreSome some (keyword ∷ all)

-- `msgctxt`, `msgid` and `msgid_plural`, each at most once and in this order
abbrev pub AreInOrder : List PreviousText → Type 0
AreInOrder texts = AreSome (map (λ (text : PreviousText). text.keyword) texts) (MsgCtxt ∷ MsgId ∷ MsgIdPlural ∷ [])

-- `msgctxt` with the context, or nothing
pub data SpellsContext (obsolete : Bool) : List TextItem → Option (List ℕ) → Type 0 where
  no_context : SpellsContext obsolete [] None
  context : {line : ℕ} {items : List TextItem} {text : List ℕ}
      → SpellsKeywordText MsgCtxt (own_marks obsolete) line items text → SpellsContext obsolete items (Some text)

-- `msgstr` with each plural form from this index on, which may be none
pub data SpellsForms (obsolete : Bool) : ℕ → List TextItem → List (List ℕ) → Type 0 where
  no_form : {index : ℕ} → SpellsForms obsolete index [] []
  more_forms : {index line : ℕ} {own items : List TextItem} {form : List ℕ} {forms : List (List ℕ)}
      → SpellsKeywordText (MsgStrAt index) (own_marks obsolete) line own form
      → SpellsForms obsolete (index + 1) items forms → SpellsForms obsolete index (own ++ items) (form ∷ forms)

-- `msgstr` with the one form; or `msgid_plural` with the plural, and then the plural forms, one at
-- least
pub data SpellsTranslation (obsolete : Bool) : List TextItem → Option (List ℕ) → List (List ℕ) → Type 0 where
  single : {line : ℕ} {items : List TextItem} {form : List ℕ}
      → SpellsKeywordText MsgStr (own_marks obsolete) line items form
      → SpellsTranslation obsolete items None (form ∷ [])
  plural : {line : ℕ} {own items : List TextItem} {text form : List ℕ} {forms : List (List ℕ)}
      → SpellsKeywordText MsgIdPlural (own_marks obsolete) line own text → SpellsForms obsolete 0 items (form ∷ forms)
      → SpellsTranslation obsolete (own ++ items) (Some text) (form ∷ forms)

-- An entry's own lines: its context, if any, its msgid with its line, its plural, if any, and its
-- forms. All are obsolete or none is, and no comment stands among them. What the entry has in its
-- head may be anything.
pub data SpellsBody : List TextItem → TextEntry → Type 0 where
  own_lines : {entry : TextEntry} {first own last : List TextItem} → SpellsContext entry.obsolete first entry.context
      → SpellsKeywordText MsgId (own_marks entry.obsolete) entry.line own entry.id
      → SpellsTranslation entry.obsolete last entry.plural entry.forms → SpellsBody (first ++ own ++ last) entry

-- the entry with this head in place of its own
abbrev pub with_head : List CommentText → List PreviousText → TextEntry → TextEntry
with_head comment_texts previous entry = record entry {
  comments = texts_of Translator comment_texts;
  extracted = texts_of Extracted comment_texts;
  references = references_of comment_texts;
  fuzzy = fuzzy_of comment_texts;
  flags = flags_of comment_texts;
  previous = previous_of previous;
}

-- an entry: its head, and then its own lines, whose marks alone say whether it is obsolete
pub data SpellsEntry : List TextItem → TextEntry → Type 0 where
  entry : {head own : List TextItem} {comment_texts : List CommentText} {previous : List PreviousText}
      {body : TextEntry} → SpellsHead head comment_texts previous → AreInOrder previous → SpellsBody own body
      → SpellsEntry (head ++ own) (with_head comment_texts previous body)

-- the items of each entry in turn, and then comments, a head without previous texts, that belong to
-- no entry and are dropped; comments between two entries are in the head of the second
pub data SpellsEntries : List TextItem → List TextEntry → Type 0 where
  comments : {items : List TextItem} {comment_texts : List CommentText} → SpellsHead items comment_texts []
      → SpellsEntries items []
  entries : {own items : List TextItem} {first : TextEntry} {others : List TextEntry} → SpellsEntry own first
      → SpellsEntries items others → SpellsEntries (own ++ items) (first ∷ others)

-- the items read as these entries: they spell them, and the texts and headers of these can stand in
-- a catalogue; duplicates are no matter here
pub record ReadsItems (items : List TextItem) (entries : List TextEntry) : Type 0 where
  pub reads : SpellsEntries items entries
  pub texts : All HasTexts entries
  pub charsets : All HasAdmittedCharset entries

-- the text reads as these entries: its lines spell items that do
pub record ReadsText (text : List ℕ) (entries : List TextEntry) : Type 0 where
  pub items : List TextItem
  pub spelt : SpellsText text items
  pub read : ReadsItems items entries

-- the lines of a text that are left read as these entries
pub record ReadsLeft (left : LinesLeft) (entries : List TextEntry) : Type 0 where
  pub items : List TextItem
  pub spelt : SpellsLeft left items
  pub read : ReadsItems items entries
