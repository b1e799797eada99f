-- Internal to this crate: what stays while the pieces of a text are read.
use Rattle.std.specs.Prelude.{◌≡◌, ◌⊎◌, ℕ, All, Bool, List, [], ◌++◌, fold, map}
use Rattle.po_syntax.specs.declared.fault.PoFault.{PoFault}
use Rattle.po_syntax.specs.Prelude.{IsPiece, LinesLeft, SpellsLeft, LeftStops, TextItem}
use Rattle.po_entry.specs.declared.drafts.Drafts.{Drafts}
use Rattle.po_entry.specs.Prelude.{AreLaid, CanLie, IsCatalogueEntry, CommentText, TextEntry, ReadsItems, entries_in}
use Rattle.po_reader.specs.declared.head.Head.{Head}
use Rattle.po_reader.specs.Internal.ReaderView.{HoldsHead}
use Rattle.po_reader.specs.Internal.Reads.{in_head, start}
use Rattle.po_reader.specs.Internal.Turn.{IsApart, settled, turn}
use Rattle.po_reader.specs.PieceRead.{kept_entry, OpenPieces}

-- if the lines left in `new` spell some items, the lines left in `old` spell `items` and then those
abbrev pub SpellsOn : LinesLeft → LinesLeft → List TextItem → Type 0
SpellsOn old new items = (more : List TextItem) → SpellsLeft new more → SpellsLeft old (items ++ more)

-- the items read as entries, which are kept with their comments or without
abbrev pub KeepsItems : Bool → List TextItem → List TextEntry → Type 0
KeepsItems all items kept =
    (entries : List TextEntry) × ReadsItems items entries × (kept ≡ map (kept_entry all) entries)

-- the text's first fault is the same as before
abbrev pub StopsStay : LinesLeft → LinesLeft → Type 0
StopsStay old new = (fault : PoFault) (line : ℕ) → LeftStops new fault line → LeftStops old fault line

-- These items were read, up to a place in a head without previous texts: their entries are laid out in
-- the drafts, with their comments or without, and the head holds the comments after them.
pub record ReadsUpTo (all : Bool) (items : List TextItem) (head : Head) (drafts : Drafts) : Type 0 where
  pub entries : List TextEntry
  pub comment_texts : List CommentText
  pub leads : settled (fold turn (start []) items) ≡ in_head entries comment_texts
  pub holds : HoldsHead all head comment_texts []
  pub laid : AreLaid drafts
  pub kept : All CanLie (map (kept_entry all) entries) → entries_in drafts ≡ map (kept_entry all) entries

-- nothing was read before the items, or they begin with neither a string nor a plural form
abbrev pub CanFollow : List TextItem → List TextItem → Type 0
CanFollow before items = (before ≡ []) ⊎ IsApart items

-- the drafts are the entries of these items, with their comments or without, and can stand in a catalogue
pub record AreDraftsOf (all : Bool) (items : List TextItem) (drafts : Drafts) : Type 0 where
  pub keeps : KeepsItems all items (entries_in drafts)
  pub laid : AreLaid drafts
  pub valid : All IsCatalogueEntry (entries_in drafts)

-- Pieces that were read, none of which but the last ends an entry: what was left before the last,
-- the items of the others, and those of the last.
pub record PiecesRead (size : ℕ) (old new : LinesLeft) : Type 0 where
  pub left : LinesLeft
  pub items : List TextItem
  pub last : List TextItem
  pub others : OpenPieces size old left items
  pub piece : IsPiece size left new last
