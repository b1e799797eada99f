-- A piece as it is cut off, before its bytes are tested (manual, "The Format of PO Files").
use Rattle.std.specs.Prelude.{◌≡◌, ◌⊎◌, ℕ, List, [], take}
use Rattle.po_syntax.specs.Pieces.{LinesLeft, lines_len, CanEnd, HasRead}
use Rattle.po_syntax.specs.Item.{TextItem}

-- From `old` a piece of so many bytes was cut off that has these items, and `new` is left: the piece is
-- the fewest lines after which it can end, or all of them where it can't. Its last line has an LF here,
-- though it be the last of the text.
pub record IsCut (size len : ℕ) (old new : LinesLeft) (items : List TextItem) : Type 0 where
  pub read : HasRead size old new items
  pub len_is : len ≡ lines_len (take read.count old.lines)
  pub ends : (new.lines ≡ []) ⊎ CanEnd size old read.count
