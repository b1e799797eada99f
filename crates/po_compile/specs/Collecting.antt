-- What is collected of a text that is compiled: the messages of its live entries, one after another
-- (manual, "The Format of GNU MO Files").
use Rattle.std.specs.Prelude.{◌≡◌, ℕ, Bool, List, map, filter, All}
use Rattle.mo_file.specs.Prelude.{query_key, Message}
use Rattle.po_entry.specs.Prelude.{TextEntry, IsCatalogueEntry, is_live, InputEntry, is_counted, has_translation, ReadsText}
use Rattle.po_compile.specs.Compiling.{is_compiled, message_of}
use Rattle.po_compile.specs.declared.status.Status.{Status}
use Rattle.std.specs.List.{AllZip}
use Rattle.po_compile.specs.declared.messages.CompiledMessage.{CompiledMessage}

-- whether the entry is compiled, and what the statistics ask of it
abbrev pub status_of : Bool → TextEntry → Status
status_of use_fuzzy entry = record {
  compiled = is_compiled use_fuzzy entry;
  counted = is_counted entry;
  translated = has_translation entry;
  fuzzy = entry.fuzzy;
}

-- the message of a live entry, with its key, line and status
pub record LiveMessage : Type 0 where
  pub key : List ℕ
  pub message : Message
  pub line : ℕ
  pub status : Status

abbrev pub live_message : Bool → TextEntry → LiveMessage
live_message use_fuzzy entry = record {
  key = query_key entry.context entry.id;
  message = message_of entry;
  line = entry.line;
  status = status_of use_fuzzy entry;
}

-- the messages of the live ones of entries, in their order
abbrev pub live_messages : Bool → List TextEntry → List LiveMessage
live_messages use_fuzzy entries = map (live_message use_fuzzy) (filter is_live entries)

-- the inputs have the messages of these catalogues, whose entries can stand in one
pub record HoldCatalogues (use_fuzzy : Bool) (catalogues : List (List TextEntry)) (inputs : List (List LiveMessage))
    : Type 0 where
  pub valid : All (All IsCatalogueEntry) catalogues
  pub messages : inputs ≡ map (live_messages use_fuzzy) catalogues

-- What is collected of several inputs, and the messages that they are compiled to, in the order of
-- their joined list (manual, "Invoking the msgfmt Program": several input files).

-- the texts read as catalogues, whose live entries are collected
pub record AreCollected (use_fuzzy : Bool) (texts : List (List ℕ)) (inputs : List (List LiveMessage))
    : Type 0 where
  pub catalogues : List (List TextEntry)
  pub read : AllZip ReadsText texts catalogues
  pub held : HoldCatalogues use_fuzzy catalogues inputs

-- the entries of a joined list that are compiled
abbrev pub compiled_inputs : Bool → List InputEntry → List InputEntry
compiled_inputs use_fuzzy entries = filter (λ e. is_compiled use_fuzzy e.entry) entries

-- a message, with the input and the line of its entry
pub record CompiledView : Type 0 where
  pub input : ℕ
  pub line : ℕ
  pub message : Message

abbrev pub compiled_view : CompiledMessage → CompiledView
compiled_view m =
    record {
      input = m.input;
      line = m.line;
      message =
          record { original = m.original.now; translation = m.translation.now };
    }

-- the message that an entry is compiled to
abbrev pub compiled_message : InputEntry → CompiledView
compiled_message e = record { input = e.input; line = e.entry.line; message = message_of e.entry }

-- What holds of the live entries of all inputs that are collected.

-- this holds of all catalogues whose live entries may have been collected so
abbrev pub OfAllInputs : List (List LiveMessage) → (Bool → List (List TextEntry) → Type 0) → Type 0
OfAllInputs inputs Holds =
    (use_fuzzy : Bool) (catalogues : List (List TextEntry)) → HoldCatalogues use_fuzzy catalogues inputs
    → Holds use_fuzzy catalogues
