-- Internal to this crate: the entry of a message, laid out and appended to a text, and why a message has none.
use Rattle.std.specs.Prelude.{◌≡◌, ℕ, List, Some, slice_get, ◌↔◌, Bool, true, [], ◌∷◌}
use Rattle.mo_file.specs.Prelude.{Message}
use Rattle.po_syntax.specs.declared.fault.PoFault.TheVariants.{NotUtf8 as BadText, ForbiddenByte as BadByte}
use Rattle.po_entry.specs.Prelude.{TextEntry, EntryTextFault, HasAdmittedCharset, LiesIn, entry_at, HasTexts, IsEntry}
use Rattle.msgunfmt.specs.declared.fault.UnformatError.{UnformatError}
use Rattle.msgunfmt.specs.declared.fault.UnformatError.TheVariants.{Mo, NotUtf8, ForbiddenByte, ForeignCharset, OutOfMemory}
use Rattle.msgunfmt.specs.Unformatted.{unformatted, HasFirstEntryTextFault, HasForeignCharset, entry_of_message}
use Rattle.po_entry.specs.declared.drafts.Drafts.{Drafts}
use Rattle.po_entry.specs.declared.row.Row.{Row}
use Rattle.po_writer.specs.Prelude.{with_entry}

-- why the entry of message i is refused
abbrev pub RefusesEntry : TextEntry → ℕ → UnformatError → Type 0
RefusesEntry entry i (NotUtf8 j) = (j ≡ i) × EntryTextFault entry BadText
RefusesEntry entry i (ForbiddenByte j) = (j ≡ i) × EntryTextFault entry BadByte
RefusesEntry entry i OutOfMemory = Unit {0}
RefusesEntry entry i error = ⊥

-- why message i has no entry in the text
abbrev pub RefusesMessage : List Message → ℕ → UnformatError → Type 0
RefusesMessage messages i error =
    (entry : TextEntry) × (slice_get (unformatted messages) i ≡ Some entry) × RefusesEntry entry i error

-- why the messages of a valid file have no text
abbrev pub RefusesMessages : List Message → UnformatError → Type 0
RefusesMessages messages (Mo fault) = ⊥
RefusesMessages messages (NotUtf8 i) = HasFirstEntryTextFault i BadText messages
RefusesMessages messages (ForbiddenByte i) = HasFirstEntryTextFault i BadByte messages
RefusesMessages messages ForeignCharset = HasForeignCharset messages
RefusesMessages messages OutOfMemory = Unit {0}

-- The entry of a message, as it is laid out and appended to a text.

-- the drafts are the entry of this message alone
pub record HoldsMessage (m : Message) (drafts : Drafts) : Type 0 where
  pub row : Row
  pub rows : drafts.rows.items ≡ row ∷ []
  pub lies : LiesIn drafts.bytes.items row
  pub entry : entry_at drafts.bytes.items row ≡ entry_of_message m

-- the entry is appended to a text, and whether its charset is admitted
pub record AppendsEntry (entry : TextEntry) (old new : List ℕ) (is_admitted : Bool) : Type 0 where
  pub texts : HasTexts entry
  pub admitted : (is_admitted ≡ true) ↔ HasAdmittedCharset entry
  pub text : new ≡ with_entry old entry

-- the same of the entry of message i
pub record AppendsMessage (messages : List Message) (i : ℕ) (old new : List ℕ) (is_admitted : Bool) : Type 0 where
  pub entry : TextEntry
  pub is_entry : slice_get (unformatted messages) i ≡ Some entry
  pub valid : IsEntry entry
  pub admitted : (is_admitted ≡ true) ↔ HasAdmittedCharset entry
  pub text : new ≡ with_entry old entry
