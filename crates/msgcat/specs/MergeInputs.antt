-- The entries of inputs in one store, linked by their messages.
use Rattle.std.specs.Prelude.{◌≡◌, ◌<◌, ℕ, All, IsUtf8, List, [], ◌∷◌, get_or, length, map, take}
use Rattle.std.specs.List.{AllZip}
use Rattle.po_entry.specs.Prelude.{Lacks, HasAdmittedCharset, TextEntry, first_ones, same_message}
use Rattle.msgcat.specs.Groups.{IsDefinition, message_numbers, named_messages, AreLinked, indexes_by}
use Rattle.msgcat.specs.Inputs.{Named, NamedEntry, all_entries}
use Rattle.msgcat.specs.declared.input.ReadInput.{ReadInput}
use Rattle.msgcat.specs.declared.merge_inputs.MergeInputs.{MergeInputs}

-- what is known of an input that is read
pub record IsReadInput (input : Named) (read : ReadInput) : Type 0 where
  pub name : read.name.now ≡ input.name
  pub utf8 : IsUtf8 input.name
  pub no_nul : Lacks 0 input.name
  pub count : read.count ≡ length input.entries

abbrev pub no_input : ReadInput
no_input = record { name = record { ref_ptr = (0, 0); now = [] }; start = 0; count = 0 }

-- what is known of inputs that are read, one after the other
pub record AreReadInputs (inputs : List Named) (read : List ReadInput) : Type 0 where
  pub known : AllZip IsReadInput inputs read
  pub starts : (i : ℕ) → i < length read → (get_or read i no_input).start ≡ length (all_entries (take i inputs))

-- the entries without their inputs' names
abbrev pub unnamed : List NamedEntry → List TextEntry
unnamed entries = map (λ e. e.entry) entries

-- the entry can stand in a catalogue, and can be merged under its input's name
pub record CanBeMerged (entry : NamedEntry) : Type 0 where
  pub valid : IsDefinition entry
  pub charset : HasAdmittedCharset entry.entry

-- how many messages there are
abbrev pub count_messages : List NamedEntry → ℕ
count_messages entries = length (first_ones same_message (named_messages entries))

-- the name of the first input; empty where there is none
abbrev pub name_of_first : List Named → List ℕ
name_of_first [] = []
name_of_first (input ∷ inputs) = input.name

-- the entries of these inputs are held, and those of each message are linked
pub record HoldInputs (read : List Named) (held : MergeInputs) : Type 0 where
  pub store : held.store ≡ unnamed (all_entries read)
  pub known : AreReadInputs read held.inputs.items
  pub can : All CanBeMerged (all_entries read)
  pub links : AreLinked (indexes_by (count_messages (all_entries read)) (message_numbers (all_entries read))) held.links
