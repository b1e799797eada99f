-- A text whose entries are selected piece by piece. Internal to this crate.
use Rattle.std.specs.Prelude.{◌≡◌, ◌⊎◌, ◌&&◌, ◌||◌, ℕ, Bool, List, ◌++◌, filter, map, not}
use Rattle.po_syntax.specs.declared.fault.PoError.{PoError}
use Rattle.po_syntax.specs.declared.fault.PoFault.TheVariants.{Duplicate, OutOfMemory}
use Rattle.po_entry.specs.Prelude.{ReadsText, TextEntry, HasNoDuplicate, IsFirstDuplicate, IsTextFault, InputEntry, in_input, is_live, entry_message, message_hash}
use Rattle.msgattrib.specs.declared.selection.Selection.{Selection}
use Rattle.msgattrib.specs.Selected.{is_kept, obsolete_after, selected}
use Rattle.po_writer.specs.Prelude.{AreParts, written_text}
use Rattle.po_writer.specs.declared.parts.TextParts.{TextParts}

-- the entry is kept, and live once it is changed
abbrev pub stays_live : Selection → TextEntry → Bool
stays_live s entry = is_kept s entry && not (obsolete_after s entry)

-- the entry is live, or is once it is changed
abbrev pub may_repeat : Selection → TextEntry → Bool
may_repeat s entry = is_live entry || stays_live s entry

-- the hashes of the messages of such entries
abbrev pub hashes_of : Selection → List TextEntry → List ℕ
hashes_of s entries = map (λ entry. message_hash (entry_message entry)) (filter (may_repeat s) entries)

-- the parts have these entries too, after those that they had
abbrev pub AddsParts : List TextEntry → TextParts → TextParts → Type 0
AddsParts more old new = (before : List TextEntry) → AreParts before old → AreParts (before ++ more) new

-- those of these entries that are selected are written, and these are the hashes
pub record AreSelected (s : Selection) (entries : List TextEntry) (parts : TextParts) (hashes : List ℕ) : Type 0 where
  pub parts_are : AreParts (selected s entries) parts
  pub hashes_are : hashes ≡ hashes_of s entries

-- neither the entries nor those that are selected have a duplicate
pub record HaveNoDuplicate (s : Selection) (entries : List TextEntry) : Type 0 where
  pub read : HasNoDuplicate entries
  pub kept : HasNoDuplicate (selected s entries)

-- the first duplicate of the selected ones of entries that have none, without its line
pub record RepeatsSelected (s : Selection) (entries : List TextEntry) (error : PoError) : Type 0 where
  pub distinct : HasNoDuplicate entries
  pub first : InputEntry
  pub later : InputEntry
  pub duplicate : IsFirstDuplicate (map (in_input 0) (selected s entries)) first later
  pub error_is : error ≡ record { kind = Duplicate first.entry.line; line = 0 }

-- the text reads as entries without a duplicate, and those that are selected, which have none, are written
pub record IsSelectedText (s : Selection) (text written : List ℕ) : Type 0 where
  pub entries : List TextEntry
  pub reads : ReadsText text entries
  pub distinct : HaveNoDuplicate s entries
  pub text_is : written ≡ written_text (selected s entries)

-- the text reads as entries, of which the selected ones have a duplicate
pub record IsRepeatingText (s : Selection) (text : List ℕ) (error : PoError) : Type 0 where
  pub entries : List TextEntry
  pub reads : ReadsText text entries
  pub repeats : RepeatsSelected s entries error

-- why nothing is written: an allocation failed, the text has a fault, or what is selected has a duplicate
abbrev pub IsSelectionFault : Selection → List ℕ → PoError → Type 0
IsSelectionFault s text error = (error.kind ≡ OutOfMemory) ⊎ (IsTextFault text error ⊎ IsRepeatingText s text error)
