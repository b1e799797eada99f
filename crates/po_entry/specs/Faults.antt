-- Why a text does not read as entries: the first fault, with its line, in the order in which faults
-- are reported (manual, "The Format of PO Files").
use Rattle.std.specs.Prelude.{◌≡◌, ◌≢◌, ℕ, Bool, false, List, [], ◌∷◌, ◌++◌, All}
use Rattle.po_syntax.specs.declared.fault.PoFault.{PoFault}
use Rattle.po_syntax.specs.declared.fault.PoFault.TheVariants.{BadOrder, BadPluralIndex, MixedObsolete, ForeignCharset}
use Rattle.po_syntax.specs.declared.item.Keyword.TheVariants.{MsgStrAt}
use Rattle.po_syntax.specs.Prelude.{TextItem, line_of, SpellsText, TextFault}
use Rattle.po_syntax.specs.Item.{Comment, Word, Str}
use Rattle.po_entry.specs.Spelling.{own_marks, SpellsEntries}
use Rattle.po_entry.specs.TextEntry.{TextEntry}
use Rattle.po_entry.specs.Header.{HasAdmittedCharset}
use Rattle.po_entry.specs.Validity.{HasTexts, EntryTextFault}

-- Why items spell no entries: up to which item they could still become entries, and what is wrong
-- with the item after it (manual, "The Format of PO Files").

-- some items, or none, could follow these, and then all of them read as entries
abbrev pub IsViable : List TextItem → Type 0
IsViable items = (after : List TextItem) × (entries : List TextEntry) × SpellsEntries (items ++ after) entries

-- an item of an entry's own lines: no comment, and not on a line of previous texts
abbrev pub IsOwn : TextItem → Type 0
IsOwn (Comment kind text line) = ⊥
IsOwn (Word keyword marks line) = marks.previous ≡ false
IsOwn (Str bytes marks line) = marks.previous ≡ false

-- the item with or without the obsolete mark
abbrev pub with_obsolete : Bool → TextItem → TextItem
with_obsolete obsolete (Comment kind text line) = Comment kind text line
with_obsolete obsolete (Word keyword marks line) =
    Word keyword (record { obsolete = obsolete; previous = marks.previous }) line
with_obsolete obsolete (Str bytes marks line) =
    Str bytes (record { obsolete = obsolete; previous = marks.previous }) line

-- the item is an own `msgstr` with an index, and one with another index could follow the prefix,
-- under some obsolete mark
abbrev pub IsWrongIndex : List TextItem → TextItem → Type 0
IsWrongIndex prefix (Word (MsgStrAt index) marks line) =
    (marks.previous ≡ false) × (other : ℕ) × (obsolete : Bool) × (other ≢ index)
    × IsViable (prefix ++ Word (MsgStrAt other) (own_marks obsolete) line ∷ [])
IsWrongIndex prefix item = ⊥

-- the item is one of an entry's own lines, and it could follow the prefix under some obsolete mark
abbrev pub IsMixed : List TextItem → TextItem → Type 0
IsMixed prefix item = IsOwn item × ((obsolete : Bool) × IsViable (prefix ++ with_obsolete obsolete item ∷ []))

-- what is wrong with an item that can't follow the prefix: its index; else its obsolete mark; else its order
pub data Misfit (prefix : List TextItem) (item : TextItem) : PoFault → Type 0 where
  index : IsWrongIndex prefix item → Misfit prefix item BadPluralIndex
  mixed : (IsWrongIndex prefix item → ⊥) → IsMixed prefix item → Misfit prefix item MixedObsolete
  order : (IsWrongIndex prefix item → ⊥) → (IsMixed prefix item → ⊥) → Misfit prefix item BadOrder

-- the line of the last item, 0 where there is none
abbrev pub last_line : List TextItem → ℕ
last_line [] = 0
last_line (item ∷ []) = line_of item
last_line (item ∷ next ∷ items) = last_line (next ∷ items)

-- The fault of items that spell no entries, with its line: that of the item after the longest
-- viable prefix; or, where the items could still become entries and only end too early, BadOrder on
-- the last line.
pub data ItemsFault : List TextItem → PoFault → ℕ → Type 0 where
  at : {prefix : List TextItem} {item : TextItem} (rest : List TextItem) {fault : PoFault} → IsViable prefix
      → (IsViable (prefix ++ item ∷ []) → ⊥) → Misfit prefix item fault
      → ItemsFault (prefix ++ item ∷ rest) fault (line_of item)
  at_end : {items : List TextItem} → IsViable items → ((entries : List TextEntry) → SpellsEntries items entries → ⊥)
      → ItemsFault items BadOrder (last_line items)

-- an entry fails with this fault, and has this line, and P holds of each entry before it
pub data EntriesStop (P : TextEntry → Type 0) (Fails : TextEntry → PoFault → Type 0)
    : List TextEntry → PoFault → ℕ → Type 0 where
  here : {entry : TextEntry} {entries : List TextEntry} {fault : PoFault} {line : ℕ} → Fails entry fault
      → line ≡ entry.line → EntriesStop P Fails (entry ∷ entries) fault line
  later : {entry : TextEntry} {entries : List TextEntry} {fault : PoFault} {line : ℕ} → P entry
      → EntriesStop P Fails entries fault line → EntriesStop P Fails (entry ∷ entries) fault line

-- why an entry's charset is a fault: it is a header whose charset is not admitted
pub data CharsetFault (entry : TextEntry) : PoFault → Type 0 where
  foreign : (HasAdmittedCharset entry → ⊥) → CharsetFault entry ForeignCharset

-- The first fault of items that don't read, with its line: that of items that spell no entries; the
-- first entry that can't have its texts; the first header whose charset is not admitted.
pub data ItemsStop (items : List TextItem) : PoFault → ℕ → Type 0 where
  in_items : {fault : PoFault} {line : ℕ} → ItemsFault items fault line → ItemsStop items fault line
  in_texts : {entries : List TextEntry} {fault : PoFault} {line : ℕ} → SpellsEntries items entries
      → EntriesStop HasTexts EntryTextFault entries fault line → ItemsStop items fault line
  in_charset : {entries : List TextEntry} {fault : PoFault} {line : ℕ} → SpellsEntries items entries
      → All HasTexts entries → EntriesStop HasAdmittedCharset CharsetFault entries fault line
      → ItemsStop items fault line

-- The first fault of a text, with its line: a fault of the text or of one of its lines; or that of
-- its items.
pub data IsReadFault (text : List ℕ) : PoFault → ℕ → Type 0 where
  in_text : {fault : PoFault} {line : ℕ} → TextFault text fault line → IsReadFault text fault line
  in_items : {items : List TextItem} {fault : PoFault} {line : ℕ} → SpellsText text items → ItemsStop items fault line
      → IsReadFault text fault line
