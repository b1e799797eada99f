-- The rows of several inputs that are compiled, in the order of their joined list and sorted, and a message
-- that stands twice (manual, "Invoking the msgfmt Program": several input files). Private functions,
-- proofs and laws cite it; no clause of a public function does.
pub mod Prefix
use Rattle.std.specs.Prelude.{ℕ, ◌+◌, List, [], ◌∷◌, ◌≤◌, ◌==◌, Bool, false, not, ◌&&◌, ◌||◌, ◌++◌, map, filter, length, ◌≢◌, AllPairs, IsPermutation, count_by, ◌≡◌, ◌⊎◌, ◌<◌, All, take, get_or}
use Rattle.std.specs.List.{list_any}
use Rattle.mo_file.specs.Prelude.{AreRising, query_key, Message}
use Rattle.po_entry.specs.Prelude.{InputEntry, join_out_of_memory, IsFirstRepeat}
use Rattle.po_entry.specs.declared.stats.Stats.{Stats}
use Rattle.po_compile.specs.Collecting.{LiveMessage, live_message, CompiledView}
use Rattle.po_compile.specs.Compiling.{message_of}
use Rattle.po_compile.specs.declared.status.Status.{Status}
use Rattle.po_compile.specs.declared.row.Row.{Row}
use Rattle.po_entry.specs.declared.duplicate.JoinError.{JoinError}
use Rattle.po_syntax.specs.declared.fault.PoFault.TheVariants.{Duplicate}
use Rattle.po_compile.specs.Accepted.{fault_of_input}

-- the message of a live entry of one of several inputs
pub record InputMessage : Type 0 where
  pub input : ℕ
  pub message : LiveMessage

abbrev pub in_input_message : ℕ → LiveMessage → InputMessage
in_input_message input m = record { input = input; message = m }

abbrev pub input_message : Bool → InputEntry → InputMessage
input_message use_fuzzy e = in_input_message e.input (live_message use_fuzzy e.entry)

-- what contracts see of a row
abbrev pub row_view : Row → InputMessage
row_view row = in_input_message row.input (record {
  key = query_key row.live.context row.live.id;
  message = message_of row.live;
  line = row.live.line;
  status = row.status;
})

abbrev pub row_key : Row → List ℕ
row_key row = (row_view row).message.key

-- the message is that of a header
abbrev pub has_no_key : LiveMessage → Bool
has_no_key m = length m.key == 0

-- the joined list has the message: it isn't a header's, or no earlier input has a header
abbrev pub is_joined : Bool → LiveMessage → Bool
is_joined headed m = not (headed && has_no_key m)

-- the messages of the inputs from this one on that the joined list has, where `headed` says whether
-- an earlier one has a header
abbrev pub joined_messages : ℕ → Bool → List (List LiveMessage) → List InputMessage
joined_messages input headed [] = []
joined_messages input headed (messages ∷ inputs) =
    map (in_input_message input) (filter (is_joined headed) messages)
    ++ joined_messages (input + 1) (headed || list_any has_no_key messages) inputs

-- the messages of the joined list, in its order
abbrev pub all_messages : List (List LiveMessage) → List InputMessage
all_messages inputs = joined_messages 0 false inputs

abbrev pub message_keys : List LiveMessage → List (List ℕ)
message_keys messages = map (λ m. m.key) messages

abbrev pub input_keys : List InputMessage → List (List ℕ)
input_keys messages = map (λ m. m.message.key) messages

-- no two are the same
abbrev pub AllApart : List (List ℕ) → Type 0
AllApart keys = AllPairs (λ k l. k ≢ l) keys

-- the messages that are compiled
abbrev pub compiled_of : List InputMessage → List Message
compiled_of messages = map (λ m. m.message.message) (filter (λ m. m.message.status.compiled) messages)

abbrev pub view_of_message : InputMessage → CompiledView
view_of_message m = record { input = m.input; line = m.message.line; message = m.message.message }

-- the rows are those of the joined list, in rising order of their keys
pub record AreSortedRows (inputs : List (List LiveMessage)) (rows : List Row) : Type 0 where
  pub all : IsPermutation (all_messages inputs) (map row_view rows)
  pub rising : AreRising (map row_key rows)

-- of the messages that the statistics count, those that are translated, fuzzy and untranslated
abbrev pub counts_translated : Status → Bool
counts_translated status = status.counted && status.translated && not status.fuzzy

abbrev pub counts_fuzzy : Status → Bool
counts_fuzzy status = status.counted && status.translated && status.fuzzy

abbrev pub counts_untranslated : Status → Bool
counts_untranslated status = status.counted && not status.translated

-- how many of the rows are of each
abbrev pub counts_of : List Row → Stats
counts_of rows = record {
  translated = count_by (λ (r : Row). counts_translated r.status) rows;
  fuzzy = count_by (λ (r : Row). counts_fuzzy r.status) rows;
  untranslated = count_by (λ (r : Row). counts_untranslated r.status) rows;
}

-- an input has one header at most
abbrev pub HasOneHeader : List LiveMessage → Type 0
HasOneHeader messages = length (filter has_no_key messages) ≤ 1

-- the first key that stands among those before it, with the index of the first of these that it is
pub record IsRepeatAt (keys : List (List ℕ)) (first later : ℕ) : Type 0 where
  pub inside : later < length keys
  pub earlier : first < later
  pub same : get_or keys first [] ≡ get_or keys later []
  pub before : AllApart (take later keys)

-- two messages have one key
abbrev pub HaveOneKey : InputMessage → InputMessage → Type 0
HaveOneKey a b = a.message.key ≡ b.message.key

-- what is reported of a message that repeats an earlier one
abbrev pub repeat_fault : InputMessage → InputMessage → JoinError
repeat_fault first later =
    record {
      input = later.input;
      first_input = first.input;
      error =
          record { kind = Duplicate first.message.line; line = later.message.line };
    }

-- the error is that of the first message that repeats an earlier one
abbrev pub IsRepeat : List InputMessage → JoinError → Type 0
IsRepeat messages error =
    (first later : InputMessage) × IsFirstRepeat HaveOneKey messages first later × (error ≡ repeat_fault first later)

-- no message repeats another of its input
abbrev pub EachApart : List (List LiveMessage) → Type 0
EachApart inputs = All (λ messages. AllApart (message_keys messages)) inputs

-- the first input in which a message repeats another, and its first repeat
pub record IsRepeatInInput (inputs : List (List LiveMessage)) (error : JoinError) : Type 0 where
  pub index : ℕ
  pub inside : index < length inputs
  pub before : EachApart (take index inputs)
  pub alone : JoinError
  pub repeat : IsRepeat (map (in_input_message 0) (get_or inputs index [])) alone
  pub error_is : error ≡ fault_of_input index alone.error

-- a repeat in an input, which is reported first, or one across the inputs; or out of memory
abbrev pub IsRepeatFault : List (List LiveMessage) → JoinError → Type 0
IsRepeatFault inputs error =
    (error ≡ join_out_of_memory) ⊎ IsRepeatInInput inputs error
    ⊎ (EachApart inputs × IsRepeat (all_messages inputs) error)
