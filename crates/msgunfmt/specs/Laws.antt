-- Laws of the PO text of an MO file: a compiled file comes back as the same bytes, and each entry is
-- that of its message (manual, "Invoking the msgunfmt Program").
use Rattle.std.specs.Prelude.{◌≡◌, ◌≢◌, ◌⊎◌, ◌↔◌, ℕ, Bool, List, [], ◌∷◌, All, ◌++◌, Option, None, Some}
use Rattle.mo_file.specs.Prelude.{layout, Message}
use Rattle.po_syntax.specs.Prelude.{IsSmall}
use Rattle.po_entry.specs.Prelude.{TextEntry, joined_entries, Lacks, plain_entry}
use Rattle.po_compile.specs.Prelude.{compiled_list, AreMessagesOf, AreAccepted, AreCompiled}
use Rattle.po_compile.specs.declared.options.Compiled.{Compiled}
use Rattle.po_compile.specs.declared.options.Options.{Options}
use Rattle.msgunfmt.specs.Unformatted.{IsUnformatted, IsUnformatFault, unformatted}
use Rattle.msgunfmt.specs.declared.fault.UnformatError.{UnformatError}
use Rattle.msgunfmt.specs.declared.fault.UnformatError.TheVariants.{OutOfMemory}
use Rattle.std.specs.List.{AllZip, join_with_byte}

-- Under these options the text is accepted: the layout of its compiled list is these bytes. It is compiled
-- to something, and whatever it is compiled to has them.
pub record CompilesTo (options : Options) (text bytes : List ℕ) : Type 0 where
  pub catalogues : List (List TextEntry)
  pub accepted : AreAccepted options (text ∷ []) catalogues
  pub messages : List Message
  pub are_messages : AreMessagesOf (compiled_list options.use_fuzzy (joined_entries catalogues)) messages
  pub layout_is : layout options.order messages ≡ bytes
  pub compiled : Compiled
  pub is_compiled : AreCompiled options (text ∷ []) compiled
  pub same_bytes : (compiled : Compiled) → AreCompiled options (text ∷ []) compiled → compiled.bytes.items ≡ bytes

-- What texts are compiled to has a PO text, which compiles to the same bytes in the same byte order
-- where it isn't too large for a PO text, whether fuzzy entries are compiled or not.
abbrev pub UnformatThenCompile : Type 0
UnformatThenCompile =
    (options : Options) (texts : List (List ℕ)) (compiled : Compiled) → AreCompiled options texts compiled
    → (text : List ℕ) × IsUnformatted compiled.bytes.items text
    × (IsSmall text → (use_fuzzy : Bool)
    → CompilesTo (record { use_fuzzy = use_fuzzy; order = options.order }) text compiled.bytes.items)

-- bytes that have a PO text have no fault; what may be reported in place of the text is out of
-- memory alone
abbrev pub NoFaultWhereUnformatted : Type 0
NoFaultWhereUnformatted =
    (bytes text : List ℕ) (error : UnformatError) → IsUnformatted bytes text → IsUnformatFault bytes error
    → error ≡ OutOfMemory

-- bytes have one PO text at most
abbrev pub OneText : Type 0
OneText = (bytes text other : List ℕ) → IsUnformatted bytes text → IsUnformatted bytes other → text ≡ other

-- only a file without messages has the empty text
abbrev pub EmptyText : Type 0
EmptyText = (bytes text : List ℕ) (file : IsUnformatted bytes text) → (text ≡ []) ↔ (file.messages ≡ [])

-- all bytes have a PO text or a fault other than out of memory
abbrev pub TextOrFault : Type 0
TextOrFault =
    (bytes : List ℕ)
    → ((text : List ℕ) × IsUnformatted bytes text)
    ⊎ ((error : UnformatError) × IsUnformatFault bytes error × (error ≢ OutOfMemory))

-- bytes have at most one fault, beside out of memory
abbrev pub OneUnformatFault : Type 0
OneUnformatFault =
    (bytes : List ℕ) (error other : UnformatError) → IsUnformatFault bytes error → IsUnformatFault bytes other
    → error ≢ OutOfMemory → other ≢ OutOfMemory → error ≡ other

-- What the two strings of a message contain, with a case for each form (manual, "The Format of GNU
-- MO Files").

-- a key: a msgid alone, or a context, the first EOT and a msgid
pub data ContainsMsgid : List ℕ → Option (List ℕ) → List ℕ → Type 0 where
  msgid_alone : {id : List ℕ} → Lacks 4 id → ContainsMsgid id None id
  after_context : {context id : List ℕ} → Lacks 4 context → ContainsMsgid (context ++ 4 ∷ id) (Some context) id

-- a part of a string ends at a NUL, or where the string does
pub data IsAfterPart : List ℕ → Type 0 where
  at_end : IsAfterPart []
  at_nul : {rest : List ℕ} → IsAfterPart (0 ∷ rest)

-- an original: a key, which is its first part, and the plural, if it has a second one
pub data ContainsKey : List ℕ → List ℕ → Option (List ℕ) → Type 0 where
  key_alone : {key : List ℕ} → Lacks 0 key → ContainsKey key key None
  before_plural : {key plural : List ℕ} (after : List ℕ) → Lacks 0 key → Lacks 0 plural → IsAfterPart after
      → ContainsKey (key ++ 0 ∷ (plural ++ after)) key (Some plural)

-- a translation: without a plural its first part is the form, with one each of its parts is one
pub data ContainsForms : List ℕ → Option (List ℕ) → List (List ℕ) → Type 0 where
  first_part : {form : List ℕ} (after : List ℕ) → Lacks 0 form → IsAfterPart after
      → ContainsForms (form ++ after) None (form ∷ [])
  each_part : {plural form : List ℕ} {forms : List (List ℕ)} → All (Lacks 0) (form ∷ forms)
      → ContainsForms (join_with_byte 0 (form ∷ forms)) (Some plural) (form ∷ forms)

-- a live entry without comments has the texts of the message, and no others
pub record IsEntryOf (m : Message) (entry : TextEntry) : Type 0 where
  pub key : List ℕ
  pub msgid : ContainsMsgid key entry.context entry.id
  pub original : ContainsKey m.original key entry.plural
  pub translation : ContainsForms m.translation entry.plural entry.forms
  pub plain : entry ≡ plain_entry entry.context entry.id entry.plural entry.forms

-- each entry is that of its message, in the order of the file
abbrev pub EntriesAreOfMessages : Type 0
EntriesAreOfMessages = (messages : List Message) → AllZip IsEntryOf messages (unformatted messages)
