-- How a text is read piece by piece, and why what is left of it isn't read. Internal but for the functions that read
-- pieces (manual, "The Format of PO Files").
use Rattle.std.specs.Prelude.{Bool, true, false, List, [], ℕ, ◌≡◌, ◌≢◌, ◌<◌, ◌⊎◌, ◌++◌, map, length}
use Rattle.po_entry.specs.Prelude.{TextEntry, IsReadFault, ItemsStop, ReadsLeft, ReadsText}
use Rattle.po_syntax.specs.declared.fault.PoFault.{PoFault}
use Rattle.po_syntax.specs.declared.fault.PoError.{PoError}
use Rattle.po_syntax.specs.Prelude.{EndsInString, IsFaultOf, LinesLeft, SpellsLeft, LeftStops, IsPiece, TextItem}

-- What is kept of the entries that are read: all, or all but their comments, references and flags
-- (manual, "The Format of PO Files").

-- the entry without its comments, references and flags; whether it is fuzzy stays
abbrev pub without_comments : TextEntry → TextEntry
without_comments entry = record entry { comments = []; extracted = []; references = []; flags = [] }

-- the entry, with its comments or without
abbrev pub kept_entry : Bool → TextEntry → TextEntry
kept_entry true entry = entry
kept_entry false entry = without_comments entry

-- the texts, or none
abbrev pub kept_texts : Bool → List (List ℕ) → List (List ℕ)
kept_texts true texts = texts
kept_texts false texts = []

-- the error is the fault of the text, or out of memory, without a line
abbrev pub IsTextError : List ℕ → PoError → Type 0
IsTextError text error = IsFaultOf (IsReadFault text) error

-- if the lines left in `new` read as some entries, the lines left in `old` read as `entries` and
-- then those
abbrev pub ReadsOn : LinesLeft → LinesLeft → List TextEntry → Type 0
ReadsOn old new entries = (more : List TextEntry) → ReadsLeft new more → ReadsLeft old (entries ++ more)

-- further entries are added, those that the lines between read as, with their comments, references and flags or
-- without
abbrev pub AddsReading : Bool → LinesLeft → LinesLeft → List TextEntry → List TextEntry → Type 0
AddsReading all old new before after =
    (entries : List TextEntry) × (after ≡ before ++ map (kept_entry all) entries) × ReadsOn old new entries

-- The fault of what is left to be read, with its line: the first of the text, in its bytes or lines;
-- or that of the items.
pub data IsLeftFault (left : LinesLeft) : PoFault → ℕ → Type 0 where
  in_text : {fault : PoFault} {line : ℕ} → LeftStops left fault line → IsLeftFault left fault line
  in_items : {items : List TextItem} {fault : PoFault} {line : ℕ} → SpellsLeft left items → ItemsStop items fault line
      → IsLeftFault left fault line

-- a fault of what is left is one of what was left before
abbrev pub FaultsStay : LinesLeft → LinesLeft → Type 0
FaultsStay old new = (fault : PoFault) (line : ℕ) → IsLeftFault new fault line → IsLeftFault old fault line

-- fewer lines are left, where there were any
abbrev pub IsShorter : LinesLeft → LinesLeft → Type 0
IsShorter old new = old.lines ≢ [] → length new.lines < length old.lines

-- there is a last item, and it is a quoted string
abbrev pub EndsEntry : List TextItem → Type 0
EndsEntry items = (items ≢ []) × EndsInString items

-- from `old` on pieces of at least so many bytes each were read, none of which ends an entry, and these are
-- their items
pub data OpenPieces (size : ℕ) (old : LinesLeft) : LinesLeft → List TextItem → Type 0 where
  none : OpenPieces size old old []
  further : {left new : LinesLeft} {items last : List TextItem} → OpenPieces size old left items
      → IsPiece size left new last → (EndsEntry last → ⊥) → OpenPieces size old new (items ++ last)

-- What was read is the next pieces of at least so many bytes each, up to the first that ends an entry
-- or the text; or it is all that is left, where the items of such pieces don't read.
pub data ReadsPiece (size : ℕ) (old new : LinesLeft) : Type 0 where
  pieces : {left : LinesLeft} {items last : List TextItem} → OpenPieces size old left items
      → IsPiece size left new last → (new.lines ≡ []) ⊎ EndsEntry last → ReadsPiece size old new
  all : {left cut : LinesLeft} {items last : List TextItem} {fault : PoFault} {line : ℕ}
      → OpenPieces size old left items → IsPiece size left cut last → ItemsStop (items ++ last) fault line
      → new.lines ≡ [] → ReadsPiece size old new

-- the error is the fault of what is left to be read, or out of memory, without a line
abbrev pub IsLeftError : LinesLeft → PoError → Type 0
IsLeftError left error = IsFaultOf (IsLeftFault left) error

-- if the lines left read as some entries, the text reads as those before and then these; and a fault of
-- what is left is one of the text
pub record IsReadSoFar (text : List ℕ) (left : LinesLeft) (before : List TextEntry) : Type 0 where
  pub reads : (more : List TextEntry) → ReadsLeft left more → ReadsText text (before ++ more)
  pub faults : (fault : PoFault) (line : ℕ) → IsLeftFault left fault line → IsReadFault text fault line
