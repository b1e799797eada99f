-- On which lines the items and the fault of a text stand, the number of a line being one more than the
-- LFs before it, and that a byte order mark is omitted (manual, "The Format of PO Files").
use Rattle.std.specs.Prelude.{◌≡◌, ◌≢◌, ℕ, ◌+◌, ◌^◌, ◌≤◌, List, [], ◌∷◌, ◌++◌, length, All, Contains}
use Rattle.std.specs.Str.Lossy.{utf8_valid_len}
use Rattle.po_syntax.specs.declared.fault.PoFault.{PoFault}
use Rattle.po_syntax.specs.declared.fault.PoFault.TheVariants.{NotUtf8, ForbiddenByte, TooLarge}
use Rattle.po_syntax.specs.LineFaults.{LineFault}
use Rattle.po_syntax.specs.PoText.{IsSmall, SpellsText, without_byte_order_mark}
use Rattle.po_syntax.specs.Line.{HoldsItems}
use Rattle.po_syntax.specs.Item.{TextItem, line_of}

-- so many LFs are in the text
pub data HasFeeds : List ℕ → ℕ → Type 0 where
  none : HasFeeds [] 0
  feed : {text : List ℕ} {count : ℕ} → HasFeeds text count → HasFeeds (10 ∷ text) (1 + count)
  other : {b : ℕ} {text : List ℕ} {count : ℕ} → b ≢ 10 → HasFeeds text count → HasFeeds (b ∷ text) count

-- a line begins after this text, which is empty or ends in LF
pub data BeginsLine : List ℕ → Type 0 where
  at_start : BeginsLine []
  after_feed : (text : List ℕ) → BeginsLine (text ++ 10 ∷ [])

-- a line ends before this text, which is empty or begins with LF
pub data EndsLine : List ℕ → Type 0 where
  at_end : EndsLine []
  before_feed : {text : List ℕ} → EndsLine (10 ∷ text)

-- the text has this line, and the line has this number
pub record HasLine (text line : List ℕ) (number : ℕ) : Type 0 where
  pub before : List ℕ
  pub after : List ℕ
  pub feeds : ℕ
  pub whole : text ≡ before ++ (line ++ after)
  pub begins : BeginsLine before
  pub one_line : All (λ b. b ≢ 10) line
  pub ends : EndsLine after
  pub counted : HasFeeds before feeds
  pub number_is : number ≡ 1 + feeds

-- the item is one of those that the line with its number holds
pub record IsOnItsLine (text : List ℕ) (item : TextItem) : Type 0 where
  pub line : List ℕ
  pub items : List TextItem
  pub has_line : HasLine text line (line_of item)
  pub holds : HoldsItems (line_of item) line items
  pub among : Contains items item

-- The items of a text are on the lines that they name.
abbrev pub ItemsAreOnTheirLines : List ℕ → List TextItem → Type 0
ItemsAreOnTheirLines text items = SpellsText text items → All (IsOnItsLine (without_byte_order_mark text)) items

-- the line of a fault: none of a text that is too long; that of the first byte that is no part of
-- UTF-8, or is NUL; or that of the line which has the fault
pub data HasFaultOnLine : List ℕ → PoFault → ℕ → Type 0 where
  no_line : {text : List ℕ} → 2 ^ 31 ≤ length text → HasFaultOnLine text TooLarge 0
  not_utf8 : (before rest : List ℕ) {feeds : ℕ} → length before ≡ utf8_valid_len (before ++ rest)
      → HasFeeds before feeds → HasFaultOnLine (before ++ rest) NotUtf8 (1 + feeds)
  nul : (before rest : List ℕ) {feeds : ℕ} → All (λ b. b ≢ 0) before → HasFeeds before feeds
      → HasFaultOnLine (before ++ 0 ∷ rest) ForbiddenByte (1 + feeds)
  in_line : {text line : List ℕ} {fault : PoFault} {number : ℕ} → HasLine (without_byte_order_mark text) line number
      → LineFault line fault → HasFaultOnLine text fault number

-- a text after the bytes EF BB BF
abbrev pub marked_text : List ℕ → List ℕ
marked_text text = 0xEF ∷ 0xBB ∷ 0xBF ∷ text

-- A byte order mark at the start is no part of the text: what stands after it spells the items.
abbrev pub MarkIsOmitted : List ℕ → List TextItem → Type 0
MarkIsOmitted text items =
    IsSmall (marked_text text) → ((rest : List ℕ) → text ≢ marked_text rest)
    → SpellsText text items → SpellsText (marked_text text) items
