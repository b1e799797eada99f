-- What msgfmt writes and reports (manual, "Invoking the msgfmt Program").
use Rattle.std.specs.Prelude.{◌≡◌, ◌≢◌, ◌⊎◌, ◌^◌, ◌≤◌, length, nat_lt, ◌==◌, ℕ, Bool, true, List, [], ◌∷◌, map, refl, slice_get, Option, None, Some, codes, decimal, ◌++◌, if◌then◌else◌}
use Rattle.std.specs.Option.{option_map_or}
use Rattle.po_syntax.specs.declared.fault.PoFault.{PoFault}
use Rattle.po_syntax.specs.declared.fault.PoFault.TheVariants.{Duplicate, OutOfMemory as NoMemory}
use Rattle.po_entry.specs.Prelude.{TextEntry, joined, joined_entries, stats_line, stats_of}
use Rattle.po_entry.specs.declared.duplicate.JoinError.{JoinError}
use Rattle.po_compile.specs.Prelude.{AreCompiled, AreRead, IsCompileFault, compiled_inputs, IsCompilation}
use Rattle.po_compile.specs.declared.options.Compiled.{Compiled}
use Rattle.po_compile.specs.declared.options.Options.{Options}
use Rattle.msgfmt.specs.declared.options.MsgfmtOptions.{MsgfmtOptions}
use Rattle.msgfmt.specs.declared.profile.CheckFault.{CheckFault}
use Rattle.msgfmt.specs.declared.profile.CheckFault.TheVariants.{NoHeader, NoRule, FormCount, LeadingNewline, TrailingNewline, Undefined, IndexOutside, OutOfMemory}
use Rattle.runs.specs.Prelude.{po_text, duplicate_text, fault_line, NamedFile, RunView, refusal}
use Rattle.msgfmt.specs.Profile.{IsChecked, Reported}

-- the options with which inputs are compiled
abbrev pub compile_options : MsgfmtOptions → Options
compile_options o = record { use_fuzzy = o.use_fuzzy; order = o.order }

-- the texts of the inputs
abbrev pub input_texts : List NamedFile → List (List ℕ)
input_texts inputs = map (λ file. file.bytes) inputs

-- the names of the inputs
abbrev pub input_names : List NamedFile → List (List ℕ)
input_names inputs = map (λ file. file.name) inputs

-- the name of the input of this index, counted from 0, of those of all
abbrev pub input_name : List (List ℕ) → ℕ → List ℕ
input_name names i = option_map_or (λ name. name) (slice_get names i) []

-- what is wrong, where a duplicate is of a message of this other file
abbrev pub across_text : List ℕ → PoFault → List ℕ
across_text file (Duplicate line) = duplicate_text file line
across_text file fault = po_text fault

-- what is wrong with the inputs; two inputs are named only for a duplicate across them
abbrev pub join_text : List (List ℕ) → JoinError → List ℕ
join_text names error =
    if error.first_input == error.input then po_text error.error.kind
    else across_text (input_name names error.first_input) error.error.kind

-- the line that says why the inputs aren't compiled
abbrev pub join_line : List (List ℕ) → JoinError → List ℕ
join_line names error =
    fault_line (codes "msgfmt") (input_name names error.input) error.error.line (join_text names error)

-- a duplicate across inputs is reported in the later one, with the file of the earlier one
pub duplicate_across : join_line (codes "a.po" ∷ codes "b.po" ∷ [])
    (record { input = 1; first_input = 0; error = record { kind = Duplicate 1; line = 3 } })
    ≡ fault_line (codes "msgfmt") (codes "b.po") 3 (duplicate_text (codes "a.po") 1)
duplicate_across = refl

-- the line at which a fault of the check is reported; 0 is none
abbrev pub line_of_fault : CheckFault → ℕ
line_of_fault (NoRule line reason) = line
line_of_fault (FormCount line) = line
line_of_fault (LeadingNewline line) = line
line_of_fault (TrailingNewline line) = line
line_of_fault fault = 0

-- what is wrong with the messages that are compiled
abbrev pub check_text : CheckFault → List ℕ
check_text NoHeader = codes "no header"
check_text (NoRule line reason) = codes "no readable plural rule"
check_text (FormCount line) = codes "wrong number of plural forms"
check_text (LeadingNewline line) = codes "first newline differs"
check_text (TrailingNewline line) = codes "last newline differs"
check_text (Undefined count) = codes "plural rule undefined for " ++ decimal count
check_text (IndexOutside count) = codes "plural rule too large for " ++ decimal count
check_text OutOfMemory = codes "out of memory"

-- the line that reports a fault of the check
abbrev pub check_line : List (List ℕ) → Reported → List ℕ
check_line names reported =
    fault_line (codes "msgfmt") (input_name names reported.0) (line_of_fault reported.1) (check_text reported.1)

-- the check of the joined list of these catalogues: its first fault, or none
abbrev pub AreChecked : Bool → List (List TextEntry) → Option Reported → Type 0
AreChecked use_fuzzy catalogues fault = IsChecked (compiled_inputs use_fuzzy (joined catalogues)) fault

-- the file where a message is compiled, and the statistics where they are asked for, with a file or
-- without; the status is 0
abbrev pub compiled_run : MsgfmtOptions → Compiled → RunView
compiled_run o compiled = record {
  output = if nat_lt 0 compiled.n then compiled.bytes.items else [];
  create = nat_lt 0 compiled.n;
  messages = if o.statistics then stats_line compiled.stats else [];
  status = 0;
}

-- the status is 0 of inputs that are compiled, and 1 where they aren't or fail the check
pub compiled_status : (o : MsgfmtOptions) (compiled : Compiled) → (compiled_run o compiled).status ≡ 0
compiled_status o compiled = refl

pub refused_status : (names : List (List ℕ)) (error : JoinError) → (refusal (join_line names error)).status ≡ 1
refused_status names error = refl

pub failed_status : (names : List (List ℕ)) (fault : Reported) → (refusal (check_line names fault)).status ≡ 1
failed_status names fault = refl

-- The inputs aren't compiled, which is reported before any fault of the check. A failed allocation
-- (`NoMemory`, which is `OutOfMemory` of PoFault) makes no run: it is reported without a file.
pub record IsRefused (inputs : List NamedFile) (o : MsgfmtOptions) (run : RunView) : Type 0 where
  pub error : JoinError
  pub fault : IsCompileFault (compile_options o) (input_texts inputs) error
  pub not_memory : error.error.kind ≢ NoMemory
  pub run_is : run ≡ refusal (join_line (input_names inputs) error)

-- the inputs are compiled, and the check that is asked for reports a fault: then no file is made
pub record FailsCheck (inputs : List NamedFile) (o : MsgfmtOptions) (run : RunView) : Type 0 where
  pub catalogues : List (List TextEntry)
  pub read : AreRead (input_texts inputs) catalogues
  pub compiled : Compiled
  pub is_compiled : IsCompilation (compile_options o) (joined_entries catalogues) compiled
  pub asked : o.profile_check ≡ true
  pub fault : Reported
  pub checked : AreChecked o.use_fuzzy catalogues (Some fault)
  pub run_is : run ≡ refusal (check_line (input_names inputs) fault)

-- the inputs are compiled, with the statistics of all entries of their joined list, and where the check
-- is asked for it reports no fault
pub record IsDone (inputs : List NamedFile) (o : MsgfmtOptions) (run : RunView) : Type 0 where
  pub catalogues : List (List TextEntry)
  pub read : AreRead (input_texts inputs) catalogues
  pub compiled : Compiled
  pub is_compiled : IsCompilation (compile_options o) (joined_entries catalogues) compiled
  pub stats : compiled.stats ≡ stats_of (joined_entries catalogues)
  pub checked : o.profile_check ≡ true → AreChecked o.use_fuzzy catalogues None
  pub run_is : run ≡ compiled_run o compiled

-- what a run of msgfmt comes to, for inputs that could all be read
abbrev pub IsMsgfmtRun : List NamedFile → MsgfmtOptions → RunView → Type 0
IsMsgfmtRun inputs o run = IsRefused inputs o run ⊎ FailsCheck inputs o run ⊎ IsDone inputs o run

-- no input is refused: there is none, or they are compiled
abbrev pub NoneRefused : List NamedFile → MsgfmtOptions → Type 0
NoneRefused inputs o =
    (inputs ≡ []) ⊎ ((compiled : Compiled) × AreCompiled (compile_options o) (input_texts inputs) compiled)

-- the arguments for the inputs are wrong: they name none, or 2^32 and more, which no command line of
-- msgfmt does; where the first one can't be read, they name one
abbrev pub AreWrong : {A : Type 0} → List NamedFile → Option A → Type 0
AreWrong inputs unread = ((inputs ≡ []) × (unread ≡ None)) ⊎ (2 ^ 32 ≤ length inputs)

-- what a run of msgfmt on one input with this name comes to
abbrev pub IsMsgfmtRunOf : List ℕ → MsgfmtOptions → List ℕ → RunView → Type 0
IsMsgfmtRunOf name o text run = IsMsgfmtRun (record { name = name; bytes = text } ∷ []) o run
