-- The items of a PO text (manual, "The Format of PO Files"), and its first fault: this project's own,
-- as the manual names no faults (FORMATS.md, "Which fault is reported").
use Rattle.std.specs.Prelude.{◌≡◌, ◌≢◌, ℕ, ◌+◌, ◌^◌, ◌<◌, ◌≤◌, ◌⊎◌, ◌==◌, List, [], ◌∷◌, ◌++◌, take, drop, length, if◌then◌else◌, IsUtf8, nat_eq, position, count_by, Some, All}
use Rattle.std.specs.List.{slice_split, starts_with}
use Rattle.std.specs.Str.Lossy.{utf8_valid_len}
use Rattle.po_syntax.specs.declared.fault.PoFault.{PoFault}
use Rattle.po_syntax.specs.declared.fault.PoFault.TheVariants.{NotUtf8, ForbiddenByte, TooLarge, OutOfMemory}
use Rattle.po_syntax.specs.declared.fault.PoError.{PoError}
use Rattle.po_syntax.specs.LineFaults.{LineFault}
use Rattle.po_syntax.specs.Line.{HoldsItems}
use Rattle.po_syntax.specs.Item.{TextItem}

-- at most 2,147,483,647 bytes, this project's limit; a byte order mark counts
abbrev pub IsSmall : List ℕ → Type 0
IsSmall text = length text < 2 ^ 31

-- the number of the line on which this index of the text stands, counted from 1
abbrev pub line_number : List ℕ → ℕ → ℕ
line_number text index = 1 + count_by (λ b. b == 10) (take index text)

-- the text without a byte order mark (EF BB BF) at its start, if it has one
abbrev pub without_byte_order_mark : List ℕ → List ℕ
without_byte_order_mark text = if starts_with nat_eq text (0xEF ∷ 0xBB ∷ 0xBF ∷ []) then drop 3 text else text

-- The lines of a text, cut at LF, which is in none of them. After an LF at the end one more line
-- stands, which is empty and spells nothing.
abbrev pub lines_of : List ℕ → List (List ℕ)
lines_of text = slice_split (λ b. b == 10) text

-- the lines from this number on spell these items
abbrev pub SpellsLines : ℕ → List (List ℕ) → List TextItem → Type 0
SpellsLines number [] items = items ≡ []
SpellsLines number (line ∷ lines) items =
    (here : List TextItem) × (later : List TextItem) × HoldsItems number line here
    × SpellsLines (number + 1) lines later × (items ≡ here ++ later)

-- of these lines, counted from `number` on, the first with a fault is the line `at`, and has this
-- fault
abbrev pub LinesStop : ℕ → List (List ℕ) → PoFault → ℕ → Type 0
LinesStop number [] fault at = ⊥
LinesStop number (line ∷ lines) fault at =
    (LineFault line fault × (at ≡ number))
    ⊎ ((here : List TextItem) × HoldsItems number line here × LinesStop (number + 1) lines fault at)

-- The text spells these items: it is small, UTF-8 in whole and without NUL, which are this project's
-- limits, and its lines, after a byte order mark, spell them.
pub record SpellsText (text : List ℕ) (items : List TextItem) : Type 0 where
  pub small : IsSmall text
  pub utf8 : IsUtf8 text
  pub no_nul : All (λ b. b ≢ 0) text
  pub lines : SpellsLines 1 (lines_of (without_byte_order_mark text)) items

-- The first fault of a text, with its line: it is too long, which has no line (0); it is not UTF-8,
-- on the line of the first byte that isn't; it holds a NUL, on the line of the first; or a line
-- stops.
pub data TextFault : List ℕ → PoFault → ℕ → Type 0 where
  too_large : {text : List ℕ} → 2 ^ 31 ≤ length text → TextFault text TooLarge 0
  not_utf8 : {text : List ℕ} {line : ℕ} → IsSmall text → (IsUtf8 text → ⊥)
      → line ≡ line_number text (utf8_valid_len text) → TextFault text NotUtf8 line
  nul : {text : List ℕ} {line index : ℕ} → IsSmall text → IsUtf8 text → position (λ b. b == 0) text ≡ Some index
      → line ≡ line_number text index → TextFault text ForbiddenByte line
  stops : {text : List ℕ} {fault : PoFault} {line : ℕ} → IsSmall text → IsUtf8 text → All (λ b. b ≢ 0) text
      → LinesStop 1 (lines_of (without_byte_order_mark text)) fault line → TextFault text fault line

-- The error is such a fault, with its line; or out of memory, without a line, which may come in place of
-- any.
pub record IsFaultOf (Has : PoFault → ℕ → Type 0) (error : PoError) : Type 0 where
  pub fault : error.kind ≢ OutOfMemory → Has error.kind error.line
  pub memory : error.kind ≡ OutOfMemory → error.line ≡ 0
