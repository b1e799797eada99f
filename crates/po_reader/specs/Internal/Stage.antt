-- Where the reader stands among the items of a text, with all that it has read.
use Rattle.std.specs.Prelude.{ℕ, Bool, false, List, [], ◌∷◌, ◌++◌, Option, None, Some}
use Rattle.po_syntax.specs.declared.fault.PoFault.{PoFault}
use Rattle.po_syntax.specs.declared.item.Keyword.{Keyword}
use Rattle.po_syntax.specs.declared.item.Keyword.TheVariants.{MsgCtxt, MsgId, MsgIdPlural, MsgStr, MsgStrAt}
use Rattle.po_syntax.specs.declared.item.Marks.{Marks}
use Rattle.po_entry.specs.Prelude.{TextEntry, plain_entry, CommentText, PreviousText, with_head}

-- what was read: whole entries, and of the next one its comments, its previous texts and its own lines
pub record SoFar : Type 0 where
  pub entries : List TextEntry
  pub comment_texts : List CommentText
  pub previous : List PreviousText
  pub own : TextEntry

-- own lines of which nothing but the obsolete mark was read
abbrev pub no_lines : Bool → TextEntry
no_lines obsolete = record (plain_entry None [] None []) { obsolete = obsolete }

-- these entries, and nothing of the next one
abbrev pub only : List TextEntry → SoFar
only entries = record { entries = entries; comment_texts = []; previous = []; own = no_lines false }

-- after these entries, this head
abbrev pub after_head : List TextEntry → List CommentText → List PreviousText → SoFar
after_head entries comment_texts previous =
    record { entries = entries; comment_texts = comment_texts; previous = previous; own = no_lines false }

-- the entry that was read is a whole one
abbrev pub with_entry : SoFar → SoFar
with_entry read = only (read.entries ++ with_head read.comment_texts read.previous read.own ∷ [])

abbrev pub with_own : SoFar → TextEntry → SoFar
with_own read own = record read { own = own }

abbrev pub with_context : TextEntry → Option (List ℕ) → TextEntry
with_context own context = record own { context = context }

-- the own lines with these forms
abbrev pub with_forms : SoFar → List (List ℕ) → SoFar
with_forms read forms = with_own read (record read.own { forms = forms })

-- the own lines with this translation
abbrev pub with_translation : SoFar → Option (List ℕ) → List (List ℕ) → SoFar
with_translation read plural forms = with_own read (record read.own { plural = plural; forms = forms })

-- one more comment
abbrev pub with_comment : SoFar → CommentText → SoFar
with_comment read text = record read { comment_texts = read.comment_texts ++ text ∷ [] }

-- one more previous text
abbrev pub with_previous_text : SoFar → PreviousText → SoFar
with_previous_text read text = record read { previous = read.previous ++ text ∷ [] }

-- the own lines with the text that stands under this keyword
abbrev pub with_text : Keyword → List ℕ → TextEntry → TextEntry
with_text MsgCtxt text own = record own { context = Some text }
with_text MsgId text own = record own { id = text }
with_text MsgIdPlural text own = record own { plural = Some text; forms = [] }
with_text MsgStr text own = record own { plural = None; forms = text ∷ [] }
with_text (MsgStrAt index) text own = record own { forms = own.forms ++ text ∷ [] }

-- What is wanted next of an entry: `msgid`, after a context; `msgstr` or `msgid_plural`, after a
-- msgid; or the plural form of this index.
pub data Wanted : Type 0 where
  Id : Wanted
  Translation : Wanted
  Form : ℕ → Wanted

-- A place between two texts: in a head, after a previous text of this rank, or of rank 0 where there
-- is none yet; before a keyword of the own lines; or after a plural form, where the form of this
-- index may follow, or the next entry.
pub data Gap : Type 0 where
  InHead : SoFar → ℕ → Gap
  Before : SoFar → Wanted → Gap
  AfterForm : SoFar → ℕ → Gap

-- A place: between texts; after a keyword and some of its strings, one at least or none, with their
-- bytes; or none, as an item was refused, with the fault and the line.
pub data Stage : Type 0 where
  Between : Gap → Stage
  In : SoFar → Keyword → Marks → Bool → List ℕ → Stage
  Stop : PoFault → ℕ → Stage

-- what items come to: entries, or a fault with its line
pub data Outcome : Type 0 where
  Entries : List TextEntry → Outcome
  Fault : PoFault → ℕ → Outcome
