-- Which entries of a catalogue are compiled, to which messages, and when a list of entries is refused
-- (manual, "Invoking the msgfmt Program" and "The Format of GNU MO Files").
use Rattle.std.specs.Prelude.{Bool, not, ◌&&◌, ◌||◌, List, filter, ℕ, [], ◌∷◌, ◌++◌, map, Option, None, Some, IsPermutation, ◌≡◌, option_map, find, if◌then◌else◌, ◌^◌, ◌<◌, ◌≤◌, length}
use Rattle.po_entry.specs.Prelude.{TextEntry, is_header, is_live, has_translation, first_form, is_of_message, join_out_of_memory}
use Rattle.std.specs.List.{join_with_byte}
use Rattle.mo_file.specs.Prelude.{Message, AreRising, keys, query_key, layout, IsMoFile}
use Rattle.std.specs.Option.{option_map_or}
use Rattle.plural_rule.specs.Prelude.{RuleView, IsRuleOf, expression_limit}
use Rattle.mo_lookup.specs.Prelude.{AnswerView, answer, IsCatalogView, answered, Query, can_be_key}
use Rattle.mo_file.specs.declared.building.BuildError.{BuildError}
use Rattle.mo_file.specs.declared.building.BuildError.TheVariants.{TooLarge as Large, NotSorted, OutOfMemory as NoMemory}
use Rattle.po_syntax.specs.declared.fault.PoFault.TheVariants.{TooLarge}
use Rattle.po_entry.specs.declared.duplicate.JoinError.{JoinError}
use Rattle.po_compile.specs.declared.options.Options.{Options}
use Rattle.po_compile.specs.declared.options.Compiled.{Compiled}

-- A live entry whose first form isn't empty, and that isn't fuzzy, unless fuzzy entries are asked
-- for (`--use-fuzzy`). A header's flag `fuzzy` is ignored. Forms after the first may be empty.
abbrev pub is_compiled : Bool → TextEntry → Bool
is_compiled use_fuzzy entry =
    is_live entry && (has_translation entry && (use_fuzzy || not entry.fuzzy || is_header entry))

-- the entries that are compiled, in the order of the text
abbrev pub compiled_list : Bool → List TextEntry → List TextEntry
compiled_list use_fuzzy entries = filter (is_compiled use_fuzzy) entries

-- The messages that entries are compiled to (manual, "The Format of GNU MO Files").

-- what stands after the key: nothing, or a NUL and the plural
abbrev pub plural_part : Option (List ℕ) → List ℕ
plural_part None = []
plural_part (Some plural) = 0 ∷ plural

-- the key, and for an entry with a plural a NUL and the plural
abbrev pub original_of : TextEntry → List ℕ
original_of entry = query_key entry.context entry.id ++ plural_part entry.plural

-- the forms, with a NUL between them
abbrev pub translation_of : TextEntry → List ℕ
translation_of entry = join_with_byte 0 entry.forms

-- the message that an entry is compiled to
abbrev pub message_of : TextEntry → Message
message_of entry = record { original = original_of entry; translation = translation_of entry }

-- the messages of the entries, each once, in the rising order of their keys; there is no such list
-- where two entries have one key
pub record AreMessagesOf (entries : List TextEntry) (messages : List Message) : Type 0 where
  pub all : IsPermutation (map message_of entries) messages
  pub rising : AreRising (keys messages)

-- What the entries of a catalogue mean to a query (manual, "Contexts" and "Plural forms").

-- the entry that defines a context and msgid: the first that has them, and none where they can't be
-- a key
abbrev pub definition : List TextEntry → Option (List ℕ) → List ℕ → Option TextEntry
definition entries context id = if can_be_key context id then find (is_of_message context id) entries else None

-- the text of the header: the first form of the entry of the empty msgid without a context, or the
-- empty text
abbrev pub header_of : List TextEntry → List ℕ
header_of entries = option_map_or (λ header. first_form header.forms) (definition entries None []) []

-- what the entries answer to a query under their rule
abbrev pub meant : List TextEntry → RuleView → Query → AnswerView
meant entries rule query =
    answer (option_map (λ entry. entry.forms) (definition entries query.context query.id)) rule query

-- The answers of a file's messages are those of the entries: the rule of the file is that of the
-- entries' header, the default rule where they have none, and under any one rule, and so that one,
-- every query is answered alike.
pub record MeansEntries (entries : List TextEntry) (messages : List Message) : Type 0 where
  pub rule : (rule : RuleView) → IsCatalogView messages rule → IsRuleOf expression_limit (header_of entries) rule
  pub answers : (rule : RuleView) (query : Query)
      → answered (record { messages = messages; rule = rule }) query ≡ meant entries rule query

-- the layout of the compiled entries' messages has fewer than 2^32 bytes
pub record HasSmallLayout (options : Options) (entries : List TextEntry) : Type 0 where
  pub messages : List Message
  pub are_messages : AreMessagesOf (compiled_list options.use_fuzzy entries) messages
  pub small : length (layout options.order messages) < 2 ^ 32

-- The file is the layout of the compiled entries' messages, of fewer than 2^32 bytes. It is valid,
-- holds these messages, and answers each query as the compiled entries do. With it goes the number of
-- these messages (`n`).
pub record IsCompilation (options : Options) (entries : List TextEntry) (compiled : Compiled) : Type 0 where
  pub laid_out : HasSmallLayout options entries
  pub bytes : compiled.bytes.items ≡ layout options.order laid_out.messages
  pub valid : IsMoFile options.order compiled.bytes.items laid_out.messages
  pub means : MeansEntries (compiled_list options.use_fuzzy entries) laid_out.messages
  pub count : compiled.n ≡ length laid_out.messages

-- the layout of the compiled entries' messages has 2^32 bytes or more
pub record HasLargeLayout (options : Options) (entries : List TextEntry) : Type 0 where
  pub messages : List Message
  pub are_messages : AreMessagesOf (compiled_list options.use_fuzzy entries) messages
  pub large : 2 ^ 32 ≤ length (layout options.order messages)

-- the fault of a layout: it is of all inputs together and has no line (0), and is reported with the
-- name of the first input (0)
abbrev pub layout_fault : JoinError
layout_fault = record { input = 0; first_input = 0; error = record { kind = TooLarge; line = 0 } }

-- what is reported where no file is built of sorted messages, which are never out of order
abbrev pub IsReportedFault : BuildError → JoinError → Type 0
IsReportedFault Large error = error ≡ layout_fault
IsReportedFault NotSorted error = ⊥
IsReportedFault NoMemory error = error ≡ join_out_of_memory
