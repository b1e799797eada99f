-- Which entries the reader finds.
use Rattle.std.specs.Prelude.{◌≡◌, ◌⊎◌, ℕ, All, List, [], ◌∷◌}
use Rattle.po_syntax.specs.Prelude.{IsFaultOf, TextItem, line_of}
use Rattle.po_entry.specs.Prelude.{CommentText, TextEntry, CharsetFault, EntriesStop, last_line, HasAdmittedCharset, EntryTextFault, HasTexts}
use Rattle.po_reader.specs.Internal.Stage.{Stage, Between, InHead, Outcome, Entries, Fault, after_head, only}
use Rattle.po_syntax.specs.declared.fault.PoError.{PoError}
use Rattle.po_syntax.specs.declared.fault.PoFault.{PoFault}
use Rattle.po_reader.specs.Internal.Turn.{Reached, comes_to, outcome_of, reached}

-- before a head, with these entries read
abbrev pub start : List TextEntry → Stage
start entries = Between (InHead (only entries) 0)

-- in a head after these entries, with these comments and no previous text
abbrev pub in_head : List TextEntry → List CommentText → Stage
in_head entries comment_texts = Between (InHead (after_head entries comment_texts []) 0)

-- what the items of a whole text come to
abbrev pub come_to : List TextItem → Outcome
come_to items = comes_to (last_line items) (start []) items

-- going through these items from the left, the reader finds these entries
abbrev pub Reads : List TextItem → List TextEntry → Type 0
Reads items entries = come_to items ≡ Entries entries

-- the items that are left to be read, and the line that is reported where they end: that of the
-- text's last item
pub record Rest : Type 0 where
  pub items : List TextItem
  pub end : ℕ

-- from this place on, the rest leads there
abbrev pub comes : Stage → Rest → Reached
comes stage rest = reached rest.end stage rest.items

-- the line of the first item, or this one where there is none
abbrev pub first_line : ℕ → List TextItem → ℕ
first_line end [] = end
first_line end (item ∷ items) = line_of item

-- the line on which the first item of the rest is refused
abbrev pub line_at : Rest → ℕ
line_at rest = first_line rest.end rest.items

-- the rest comes to this error from there on; or it is out of memory, without a line
abbrev pub Fails : Stage → Rest → PoError → Type 0
Fails stage rest error = IsFaultOf (λ fault line. outcome_of (comes stage rest) ≡ Fault fault line) error

-- the first entry that can't have its texts, or where all can, the first header whose charset isn't
-- admitted
abbrev pub ChecksStop : List TextEntry → PoFault → ℕ → Type 0
ChecksStop entries fault line =
    EntriesStop HasTexts EntryTextFault entries fault line
    ⊎ (All HasTexts entries × EntriesStop HasAdmittedCharset CharsetFault entries fault line)
