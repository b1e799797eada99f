-- The entries of an MO file's messages (manual, "Invoking the msgunfmt Program" and "The Format of
-- GNU MO Files").
use Rattle.std.specs.Prelude.{ℕ, List, map, take, Option, None, Some, ◌≡◌, All, slice_get}
use Rattle.mo_file.specs.Prelude.{key_of, Message, context_of, forms, id_of, plural_of, IsMoFile, IsFirstFault}
use Rattle.po_entry.specs.Prelude.{TextEntry, plain_entry, HasAdmittedCharset, HasTexts, IsCatalogueEntry, EntryTextFault}
use Rattle.mo_file.specs.declared.byte_order.Order.{Order}
use Rattle.po_syntax.specs.declared.fault.PoFault.{PoFault}
use Rattle.po_syntax.specs.declared.fault.PoFault.TheVariants.{NotUtf8 as BadText, ForbiddenByte as BadByte}
use Rattle.po_writer.specs.Prelude.{written_text}
use Rattle.msgunfmt.specs.declared.fault.UnformatError.{UnformatError}
use Rattle.msgunfmt.specs.declared.fault.UnformatError.TheVariants.{Mo, NotUtf8, ForbiddenByte, ForeignCharset, OutOfMemory}

-- with a plural all parts of a translation are forms, without one its first part is the only form
abbrev pub taken_forms : Option (List ℕ) → List (List ℕ) → List (List ℕ)
taken_forms None pieces = take 1 pieces
taken_forms (Some plural) pieces = pieces

-- a live entry without comments: the texts of a message
abbrev pub entry_of_message : Message → TextEntry
entry_of_message m =
    plain_entry (context_of (key_of m.original)) (id_of (key_of m.original)) (plural_of m.original)
    (taken_forms (plural_of m.original) (forms m.translation))

-- the entries of the messages, in the order of the file
abbrev pub unformatted : List Message → List TextEntry
unformatted messages = map entry_of_message messages

-- The PO text of an MO file, and why a file has none (manual, "Invoking the msgunfmt Program").

-- the bytes are a valid MO file, in whatever byte order, and this holds of its messages
pub record IsFileOf (bytes : List ℕ) (P : List Message → Type 0) : Type 0 where
  pub order : Order
  pub messages : List Message
  pub valid : IsMoFile order bytes messages
  pub holds : P messages

-- the messages' entries can stand in a catalogue, which is written as this text
pub record AreWrittenAs (text : List ℕ) (messages : List Message) : Type 0 where
  pub valid : All IsCatalogueEntry (unformatted messages)
  pub written : text ≡ written_text (unformatted messages)

-- the texts of message i can't stand in an entry, and those of the messages before it can
pub record HasFirstEntryTextFault (i : ℕ) (kind : PoFault) (messages : List Message) : Type 0 where
  pub entry : TextEntry
  pub is_entry : slice_get (unformatted messages) i ≡ Some entry
  pub fault : EntryTextFault entry kind
  pub before : All HasTexts (take i (unformatted messages))

-- all texts can stand in entries, but a header names a charset that isn't admitted
pub record HasForeignCharset (messages : List Message) : Type 0 where
  pub texts : All HasTexts (unformatted messages)
  pub foreign : All HasAdmittedCharset (unformatted messages) → ⊥

-- the PO text of an MO file
abbrev pub IsUnformatted : List ℕ → List ℕ → Type 0
IsUnformatted bytes text = IsFileOf bytes (AreWrittenAs text)

-- Why bytes have no PO text: the first fault of an MO file; then the first message whose texts
-- can't stand in an entry; then the charset of a header.
abbrev pub IsUnformatFault : List ℕ → UnformatError → Type 0
IsUnformatFault bytes (Mo fault) = IsFirstFault bytes fault
IsUnformatFault bytes (NotUtf8 i) = IsFileOf bytes (HasFirstEntryTextFault i BadText)
IsUnformatFault bytes (ForbiddenByte i) = IsFileOf bytes (HasFirstEntryTextFault i BadByte)
IsUnformatFault bytes ForeignCharset = IsFileOf bytes HasForeignCharset
IsUnformatFault bytes OutOfMemory = Unit {0}
