-- Laws of the messages that entries are compiled to, and of the entries of texts.
use Rattle.std.specs.Prelude.{◌≡◌, ◌↔◌, ◌<◌, ◌≤◌, ℕ, Bool, true, List, [], ◌∷◌, ◌++◌, All, length, false, None}
use Rattle.mo_file.specs.Prelude.{key_of, query_key, layout, Message, context_of, forms, id_of, plural_of}
use Rattle.mo_lookup.specs.Prelude.{answered, Query, can_be_key}
use Rattle.plural_rule.specs.Prelude.{RuleView}
use Rattle.po_syntax.specs.declared.fault.PoFault.TheVariants.{TooLarge}
use Rattle.po_entry.specs.Prelude.{TextEntry, IsEntry, IsCatalogueEntry, joined_entries, AllDiffer, ReadsDistinct}
use Rattle.po_entry.specs.declared.duplicate.JoinError.{JoinError}
use Rattle.po_compile.specs.Accepted.{AreAccepted, AreRead, IsTooLarge}
use Rattle.po_compile.specs.Compiling.{compiled_list, original_of, translation_of, AreMessagesOf}
use Rattle.po_compile.specs.declared.options.Options.{Options}

-- an original has the key and the plural of its entry, and a translation has its forms
pub record HasParts (entry : TextEntry) : Type 0 where
  pub key : key_of (original_of entry) ≡ query_key entry.context entry.id
  pub plural : plural_of (original_of entry) ≡ entry.plural
  pub forms_are : forms (translation_of entry) ≡ entry.forms

abbrev pub MessagesHaveParts : Type 0
MessagesHaveParts = (entry : TextEntry) → IsEntry entry → HasParts entry

-- an entry's texts are taken from the message that it is compiled to
pub record ComesBack (entry : TextEntry) : Type 0 where
  pub context : context_of (key_of (original_of entry)) ≡ entry.context
  pub id : id_of (key_of (original_of entry)) ≡ entry.id
  pub plural : plural_of (original_of entry) ≡ entry.plural
  pub forms_are : forms (translation_of entry) ≡ entry.forms

abbrev pub TextsComeBack : Type 0
TextsComeBack = (entry : TextEntry) → IsEntry entry → ComesBack entry

-- entries whose messages stand in rising order of keys have different contexts and msgids
abbrev pub MessagesDiffer : Type 0
MessagesDiffer =
    (entries : List TextEntry) (messages : List Message) → All IsEntry entries → AreMessagesOf entries messages
    → AllDiffer entries

-- the entries of texts that are read can stand in a catalogue
abbrev pub JoinedEntriesCanStand : Type 0
JoinedEntriesCanStand =
    (texts : List (List ℕ)) (catalogues : List (List TextEntry)) → AreRead texts catalogues
    → All IsCatalogueEntry (joined_entries catalogues)

-- a text alone is read as its entries, where no two live ones are of one message
abbrev pub OneTextIsRead : Type 0
OneTextIsRead =
    (text : List ℕ) (entries : List TextEntry) → ReadsDistinct text entries
    → AreRead (text ∷ []) (entries ∷ []) × (joined_entries (entries ∷ []) ≡ entries)

-- Each entry that is compiled can be asked for: neither its context nor its msgid has a NUL or an
-- EOT.
abbrev pub CompiledCanBeKeys : Type 0
CompiledCanBeKeys =
    (use_fuzzy : Bool) (texts : List (List ℕ)) (catalogues : List (List TextEntry)) → AreRead texts catalogues
    → All (λ e. can_be_key e.context e.id ≡ true) (compiled_list use_fuzzy (joined_entries catalogues))

-- the fault of texts whose file would be too large: of no line, under the name of the first input
abbrev pub too_large : JoinError
too_large = record { input = 0; first_input = 0; error = record { kind = TooLarge; line = 0 } }

-- Texts that are read are accepted where the layout of their messages has 4,294,967,295 bytes at
-- most; where it has more, that is their fault.
pub record LayoutIsLimited (options : Options) (texts : List (List ℕ)) (catalogues : List (List TextEntry))
    (messages : List Message) : Type 0 where
  pub accepted : AreAccepted options texts catalogues ↔ (length (layout options.order messages) ≤ 4294967295)
  pub refused : IsTooLarge options texts too_large ↔ (4294967295 < length (layout options.order messages))
  pub no_other : (error : JoinError) → IsTooLarge options texts error → error ≡ too_large

abbrev pub LayoutsAreLimited : Type 0
LayoutsAreLimited =
    (options : Options) (texts : List (List ℕ)) (catalogues : List (List TextEntry)) (messages : List Message)
    → AreRead texts catalogues
    → AreMessagesOf (compiled_list options.use_fuzzy (joined_entries catalogues)) messages
    → LayoutIsLimited options texts catalogues messages

-- One entry more changes no answer to a query for another message, under one rule.
abbrev pub OneMoreChangesNoOther : Type 0
OneMoreChangesNoOther =
    (before after : List TextEntry) (entry : TextEntry) (messages more : List Message) (rule : RuleView)
    (query : Query)
    → All IsEntry (before ++ entry ∷ after) → AreMessagesOf (before ++ after) messages
    → AreMessagesOf (before ++ entry ∷ after) more
    → ¬ ((entry.context ≡ query.context) × (entry.id ≡ query.id))
    → answered (record { messages = more; rule = rule }) query
    ≡ answered (record { messages = messages; rule = rule }) query

-- Which entries of a catalogue are compiled, with a case for each reason (manual, "Invoking the
-- msgfmt Program").

-- the first form has a byte
pub record IsTranslated (entry : TextEntry) : Type 0 where
  pub byte : ℕ
  pub form : List ℕ
  pub forms : List (List ℕ)
  pub forms_are : entry.forms ≡ (byte ∷ form) ∷ forms

-- what a fuzzy entry has to be for being compiled all the same
pub data MayBeUsed (use_fuzzy : Bool) (entry : TextEntry) : Type 0 where
  not_fuzzy : entry.fuzzy ≡ false → MayBeUsed use_fuzzy entry
  asked_for : use_fuzzy ≡ true → MayBeUsed use_fuzzy entry
  header : entry.context ≡ None → entry.id ≡ [] → MayBeUsed use_fuzzy entry

pub record IsToBeCompiled (use_fuzzy : Bool) (entry : TextEntry) : Type 0 where
  pub live : entry.obsolete ≡ false
  pub translated : IsTranslated entry
  pub used : MayBeUsed use_fuzzy entry

-- of a list the entries that are to be compiled, in order, and no others
pub data KeepsCompiled (use_fuzzy : Bool) : List TextEntry → List TextEntry → Type 0 where
  none : KeepsCompiled use_fuzzy [] []
  compiled : {entry : TextEntry} {entries list : List TextEntry} → IsToBeCompiled use_fuzzy entry
      → KeepsCompiled use_fuzzy entries list
      → KeepsCompiled use_fuzzy (entry ∷ entries) (entry ∷ list)
  omitted : {entry : TextEntry} {entries list : List TextEntry} → (IsToBeCompiled use_fuzzy entry → ⊥)
      → KeepsCompiled use_fuzzy entries list
      → KeepsCompiled use_fuzzy (entry ∷ entries) list

abbrev pub CompiledListIsKept : Type 0
CompiledListIsKept = (use_fuzzy : Bool) (entries : List TextEntry)
    → KeepsCompiled use_fuzzy entries (compiled_list use_fuzzy entries)
