-- What inputs are merged to, by the entries in their store. Internal to this crate.
use Rattle.std.specs.Prelude.{◌≡◌, ℕ, Bool, All, List, filter, fold, not, if◌then◌else◌}
use Rattle.po_entry.specs.Prelude.{HasAdmittedCharset, TextEntry}
use Rattle.po_writer.specs.Prelude.{with_entry, written_text}

-- the entry is of this part: that of the obsolete entries, or that of the live ones
abbrev pub is_of_part : Bool → TextEntry → Bool
is_of_part obsolete e = if obsolete then e.obsolete else not e.obsolete

-- the entries of this part stand after a text, and each can stand in a catalogue
pub record IsPartWritten (obsolete : Bool) (entries : List TextEntry) (before after : List ℕ) : Type 0 where
  pub text_is : after ≡ fold with_entry before (filter (is_of_part obsolete) entries)
  pub admitted : All (λ e. e.obsolete ≡ obsolete → HasAdmittedCharset e) entries

-- the text of merged entries, each of which can stand in a catalogue
pub record IsTextOfMerged (merged : List TextEntry) (written : List ℕ) : Type 0 where
  pub admitted : All HasAdmittedCharset merged
  pub text_is : written ≡ written_text merged
