-- What the tools read: the inputs that the command line names, in order, up to the first that can't
-- be read (manual, "Invoking the msgfmt Program": "If input file is `-`, standard input is read").
use Rattle.std.specs.Prelude.{ℕ, List, map, ◌≡◌, ◌+◌, ◌++◌, ◌∷◌, ◌||◌, Bool, true, false, [], drop, length, take, Option, Some, None, codes, ◌≢◌}
use Rattle.std.specs.Borrow.{Bor}
use Rattle.std.proofs.Common.{refl}
use Rattle.runs.specs.declared.inputs.Input.{Input}
use Rattle.runs.specs.declared.inputs.Inputs.{Inputs}
use Rattle.runs.specs.declared.inputs.InputFault.{InputFault}
use Rattle.runs.specs.declared.inputs.InputFault.TheVariants.{CannotOpen, ReadFault, OutOfMemory}
use Rattle.runs.specs.Run.{is_standard, shown_name}

-- Files by their names and bytes, as tools are given them.

-- a file that is read: its name as fault lines show it, and its bytes
pub record NamedFile : Type 0 where
  pub name : List ℕ
  pub bytes : List ℕ

-- what contracts see of a file
abbrev pub named_file : Bor (List ℕ) × Bor (List ℕ) → NamedFile
named_file file = record { name = file.0.now; bytes = file.1.now }

abbrev pub named_files : List (Bor (List ℕ) × Bor (List ℕ)) → List NamedFile
named_files files = map named_file files

-- what reading an input comes to: its bytes, or why it can't be read
pub data Reading : Type 0 where
  gives : List ℕ → Reading
  refuses : InputFault → Reading

-- what an argument is read as: a file; standard input, where it isn't read yet; and no bytes, where it is
abbrev pub ReadsAs : (List ℕ → Reading → Type 0) → (Reading → Type 0) → List ℕ → Bool → Bool → Reading → Type 0
ReadsAs file standard argument false seen reading = file argument reading
ReadsAs file standard argument true false reading = standard reading
ReadsAs file standard argument true true reading = reading ≡ gives []

-- what each input may be read as now it may also have been before
pub record Stays (file file' : List ℕ → Reading → Type 0) (standard standard' : Reading → Type 0) : Type 0 where
  pub of_file : (name : List ℕ) (reading : Reading) → file' name reading → file name reading
  pub of_standard : (reading : Reading) → standard' reading → standard reading

-- what is wrong with an input that can't be read
abbrev pub input_fault_text : List ℕ → InputFault → List ℕ
input_fault_text name CannotOpen = name ++ codes ": cannot open"
input_fault_text name ReadFault = name ++ codes ": read fault"
input_fault_text name OutOfMemory = codes "out of memory"

-- the only input can't be read, and this is what is wrong with it
pub record IsInputFault (file : List ℕ → Reading → Type 0) (standard : Reading → Type 0) (argument : List ℕ)
    (text : List ℕ) : Type 0 where
  pub why : InputFault
  pub reads : ReadsAs file standard argument (is_standard argument) false (refuses why)
  pub text_is : text ≡ input_fault_text (shown_name argument) why

-- The inputs that arguments name, before which `-` was seen or not: each with its bytes, up to the
-- first that can't be read and what is wrong with it.
pub data AreInputs (file : List ℕ → Reading → Type 0) (standard : Reading → Type 0)
    : Bool → List (List ℕ) → List NamedFile → Option (List ℕ) → Type 0 where
  done : {seen : Bool} → AreInputs file standard seen [] [] None
  read : {seen : Bool} {argument : List ℕ} {arguments : List (List ℕ)} {bytes : List ℕ}
      {inputs : List NamedFile} {fault : Option (List ℕ)}
      → ReadsAs file standard argument (is_standard argument) seen (gives bytes)
      → AreInputs file standard (seen || is_standard argument) arguments inputs fault
      → AreInputs file standard seen (argument ∷ arguments)
      (record { name = shown_name argument; bytes = bytes } ∷ inputs) fault
  unread : {seen : Bool} {argument : List ℕ} {arguments : List (List ℕ)} (why : InputFault)
      → ReadsAs file standard argument (is_standard argument) seen (refuses why)
      → AreInputs file standard seen (argument ∷ arguments) [] (Some (input_fault_text (shown_name argument) why))

-- what is asked of a source of inputs
pub data Asked : Type 0 where
  standard_input : Asked
  file_of : List ℕ → Asked

-- these are asked for after what was asked for before, where that is known
abbrev pub Asks : Option (List Asked) → Option (List Asked) → List Asked → Type 0
Asks None after asked = Unit {0}
Asks (Some before) None asked = ⊥
Asks (Some before) (Some after) asked = after ≡ before ++ asked

-- what an argument asks for: its file; or standard input, unless that was read before
abbrev pub asked_for : List ℕ → Bool → Bool → List Asked
asked_for argument false seen = file_of argument ∷ []
asked_for argument true false = standard_input ∷ []
asked_for argument true true = []

-- What arguments ask a source of inputs for, with a case for each: files by their names, in the
-- order of the arguments, and standard input once, for the first `-`.

-- the files among arguments, each but `-`
pub data HaveFiles : List (List ℕ) → List (List ℕ) → Type 0 where
  no_files : HaveFiles [] []
  one_more_file : {argument : List ℕ} {arguments files : List (List ℕ)} → argument ≢ codes "-"
      → HaveFiles arguments files
      → HaveFiles (argument ∷ arguments) (argument ∷ files)
  standard_again : {arguments files : List (List ℕ)} → HaveFiles arguments files
      → HaveFiles (codes "-" ∷ arguments) files

-- what arguments ask for: after standard input only files
pub data AsksInTurn : List (List ℕ) → List Asked → Type 0 where
  asks_nothing : AsksInTurn [] []
  asks_file : {argument : List ℕ} {arguments : List (List ℕ)} {asked : List Asked} → argument ≢ codes "-"
      → AsksInTurn arguments asked
      → AsksInTurn (argument ∷ arguments) (file_of argument ∷ asked)
  asks_standard : {arguments files : List (List ℕ)} → HaveFiles arguments files
      → AsksInTurn (codes "-" ∷ arguments) (standard_input ∷ map file_of files)

-- of what arguments ask for the first are asked for, in their order
pub record AsksFirst (before after : Option (List Asked)) (arguments : List (List ℕ)) : Type 0 where
  pub all : List Asked
  pub in_turn : AsksInTurn arguments all
  pub asked : List Asked
  pub rest : List Asked
  pub asks : Asks before after asked
  pub first : asked ++ rest ≡ all

-- all that arguments ask for is asked for, in their order
pub record AsksAll (before after : Option (List Asked)) (arguments : List (List ℕ)) : Type 0 where
  pub asked : List Asked
  pub in_turn : AsksInTurn arguments asked
  pub asks : Asks before after asked

-- the arguments that are asked for where these inputs are read: theirs, and that of the one that can't be read
abbrev pub asked_arguments : List (List ℕ) → List NamedFile → Option (List ℕ) → List (List ℕ)
asked_arguments arguments inputs None = take (length inputs) arguments
asked_arguments arguments inputs (Some fault) = take (length inputs + 1) arguments

-- the inputs whose bytes stand one after the other in these
abbrev pub inputs_in : List ℕ → List Input → List NamedFile
inputs_in bytes [] = []
inputs_in bytes (input ∷ inputs) =
    record { name = input.name.now; bytes = take input.len bytes } ∷ inputs_in (drop input.len bytes) inputs

-- what contracts see of inputs
abbrev pub named_inputs : Inputs → List NamedFile
named_inputs inputs = inputs_in inputs.bytes.items inputs.texts.items

-- The inputs of arguments, with a case for each: files by their names, standard input for the first
-- `-`, and an empty text for each further one.

-- the input of this name has these bytes
abbrev pub named : List ℕ → List ℕ → NamedFile
named name bytes = record { name = name; bytes = bytes }

-- after standard input was read: inputs in the order of the arguments, up to the first that can't be
-- read, and what is wrong with that
pub data AreInputsAfter (file : List ℕ → Reading → Type 0) : List (List ℕ) → List NamedFile → Option (List ℕ)
    → Type 0 where
  no_argument : AreInputsAfter file [] [] None
  another_file : {argument bytes : List ℕ} {arguments : List (List ℕ)} {inputs : List NamedFile}
      {fault : Option (List ℕ)}
      → argument ≢ codes "-" → file argument (gives bytes) → AreInputsAfter file arguments inputs fault
      → AreInputsAfter file (argument ∷ arguments) (named argument bytes ∷ inputs) fault
  unread_file : {argument : List ℕ} {arguments : List (List ℕ)} (why : InputFault) → argument ≢ codes "-"
      → file argument (refuses why)
      → AreInputsAfter file (argument ∷ arguments) [] (Some (input_fault_text argument why))
  empty_text : {arguments : List (List ℕ)} {inputs : List NamedFile} {fault : Option (List ℕ)}
      → AreInputsAfter file arguments inputs fault
      → AreInputsAfter file (codes "-" ∷ arguments) (named (codes "<stdin>") [] ∷ inputs) fault

-- the same from the first argument on
pub data AreInputsInTurn (file : List ℕ → Reading → Type 0) (standard : Reading → Type 0)
    : List (List ℕ) → List NamedFile → Option (List ℕ) → Type 0 where
  nothing : AreInputsInTurn file standard [] [] None
  a_file : {argument bytes : List ℕ} {arguments : List (List ℕ)} {inputs : List NamedFile} {fault : Option (List ℕ)}
      → argument ≢ codes "-" → file argument (gives bytes) → AreInputsInTurn file standard arguments inputs fault
      → AreInputsInTurn file standard (argument ∷ arguments) (named argument bytes ∷ inputs) fault
  no_file : {argument : List ℕ} {arguments : List (List ℕ)} (why : InputFault) → argument ≢ codes "-"
      → file argument (refuses why)
      → AreInputsInTurn file standard (argument ∷ arguments) [] (Some (input_fault_text argument why))
  from_standard_input : {bytes : List ℕ} {arguments : List (List ℕ)} {inputs : List NamedFile} {fault : Option (List ℕ)}
      → standard (gives bytes) → AreInputsAfter file arguments inputs fault
      → AreInputsInTurn file standard (codes "-" ∷ arguments) (named (codes "<stdin>") bytes ∷ inputs) fault
  no_standard_input : {arguments : List (List ℕ)} (why : InputFault) → standard (refuses why)
      → AreInputsInTurn file standard (codes "-" ∷ arguments) [] (Some (input_fault_text (codes "<stdin>") why))

-- With the arguments `-`, `a` and `-`, standard input is asked for, then the file `a`, and nothing else.
pub asked_in_turn : (asked : List Asked) → AsksInTurn (codes "-" ∷ codes "a" ∷ codes "-" ∷ []) asked
    → asked ≡ standard_input ∷ file_of (codes "a") ∷ []
asked_in_turn _ (asks_file other asks) = absurd (other refl)
asked_in_turn _ (asks_standard (one_more_file other (one_more_file again none))) = absurd (again refl)
asked_in_turn _ (asks_standard (one_more_file other (standard_again no_files))) = refl
