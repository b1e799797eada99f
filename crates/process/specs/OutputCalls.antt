-- By which calls of a system each call for an output is made.
use Rattle.std.specs.Prelude.{◌≡◌, ◌≢◌, ◌<◌, ◌≤◌, ◌+◌, ◌%◌, ◌^◌, ◌++◌, ℕ, suc, Bool, true, false, List, [], ◌∷◌, Option, Some, None, Result, Ok, Err, codes, decimal}
use Rattle.std.specs.declared.io.ErrorKind.{ErrorKind}
use Rattle.runs.specs.Inputs.{gives}
use Rattle.runs.specs.declared.output_files.FileKind.{FileKind}
use Rattle.runs.specs.declared.output_files.MakeFault.{MakeFault}
use Rattle.runs.specs.declared.output_files.OutputFault.{OutputFault}
use Rattle.runs.specs.declared.output_files.Owner.{Owner}
use Rattle.process.specs.Answers.{is_for_writing, kind_of, make_fault, no_link}
use Rattle.process.specs.Reading.{ReadsFile}
use Rattle.process.specs.SystemCalls.{SystemCall, appends, fails_to_create, fails_to_read_link, gives_mode, gives_owner, has_stream, leaves_open, opens_root, reads_link, draws, takes_errors, takes_output, tells_descriptor, tells_of, tells_owner}
use Rattle.process.specs.declared.answers.Found.{Found}
use Rattle.process.specs.declared.opened.Opened.{Opened}
use Rattle.process.specs.declared.opened.Opened.TheVariants.{File, Output, Errors}

-- the bytes of what is open to be written, where they are known
abbrev pub bytes_of : {F O E : Type 0} → (F → Option (List ℕ)) → (O → Option (List ℕ)) → (E → Option (List ℕ))
    → Opened F O E → Option (List ℕ)
bytes_of of_file of_output of_errors (File file) = of_file file
bytes_of of_file of_output of_errors (Output output) = of_output output
bytes_of of_file of_output of_errors (Errors errors) = of_errors errors

-- what a path leads to, by what the system tells of it
pub data FindsKind (path : List ℕ) (kind : FileKind) : List SystemCall → Type 0 where
  told : {answer : Result Found ErrorKind} → kind ≡ kind_of answer → FindsKind path kind (tells_of path answer ∷ [])

-- where the link at a path leads, or that none is there
pub data FindsLink (path : List ℕ) : Option (List ℕ) → List SystemCall → Type 0 where
  there : {text : List ℕ} → FindsLink path (Some text) (reads_link path text ∷ [])
  not_there : {error : ErrorKind} → no_link error ≡ Ok _
      → FindsLink path None (fails_to_read_link path error ∷ [])

-- why the link at a path isn't read
pub data LacksLink (path : List ℕ) (why : OutputFault) : List SystemCall → Type 0 where
  unread : {error : ErrorKind} → no_link error ≡ Err why → LacksLink path why (fails_to_read_link path error ∷ [])

-- a number for the name of a new file: a random one, or else how often the system had none
pub data Numbers (lacking : ℕ) : (number lacking' : ℕ) → List SystemCall → Type 0 where
  random : {number : ℕ} → Numbers lacking number lacking (draws (Some number) ∷ [])
  counted : {number : ℕ} → number ≡ (lacking + 1) % 2 ^ 32 → Numbers lacking number number (draws None ∷ [])

-- why no new file is made
pub data LacksFile (path : List ℕ) (mode : ℕ) (why : MakeFault) : List SystemCall → Type 0 where
  unmade : {error : ErrorKind} → why ≡ make_fault error
      → LacksFile path mode why (fails_to_create path mode error ∷ [])

-- An open file is to get an owner, and whose it is then: it isn't changed where it has that owner or
-- nobody knows; where the user can't be given, the group may.
pub data GivesOwner (owner : Owner) : Option Owner → List SystemCall → Type 0 where
  untold : GivesOwner owner None (tells_owner None ∷ [])
  had : GivesOwner owner (Some owner) (tells_owner (Some owner) ∷ [])
  given : {before : Owner} {after : Option Owner} → before ≢ owner
      → GivesOwner owner after
      (tells_owner (Some before) ∷ gives_owner (Some owner.user) owner.group true ∷ tells_owner after ∷ [])
  group_given : {before : Owner} {after : Option Owner} {is_given : Bool} → before ≢ owner
      → GivesOwner owner after
      (tells_owner (Some before) ∷ gives_owner (Some owner.user) owner.group false
      ∷ gives_owner None owner.group is_given ∷ tells_owner after ∷ [])

-- the same of what is open: a stream gets no owner
abbrev pub SetsOwner : {F O E : Type 0} → Opened F O E → Owner → Option Owner → List SystemCall → Type 0
SetsOwner (File file) owner after calls = GivesOwner owner after calls
SetsOwner _ owner after calls = (after ≡ None) × (calls ≡ [])

-- what is open is to get a mode, and whether it did: a stream gets none
abbrev pub SetsMode : {F O E : Type 0} → Opened F O E → ℕ → Bool → List SystemCall → Type 0
SetsMode (File file) mode is_set calls = calls ≡ gives_mode mode is_set ∷ []
SetsMode _ mode is_set calls = (is_set ≡ false) × (calls ≡ [])

-- The stream of a number, with its bytes so far, or that there is none: standard input isn't written;
-- one above the standard streams is opened anew, at its end, where it is open to be written.
pub data TakesStream (opens : List ℕ → Option (Option (List ℕ)) → Type 0)
    : ℕ → Option (Option (List ℕ)) → List SystemCall → Type 0 where
  input : TakesStream opens 0 None []
  output : {bytes : Option (List ℕ)} → TakesStream opens 1 (Some bytes) (takes_output bytes ∷ [])
  errors : {bytes : Option (List ℕ)} → TakesStream opens 2 (Some bytes) (takes_errors bytes ∷ [])
  unwritten : {number : ℕ} → 2 < number → TakesStream opens number None []
  appended : {number : ℕ} {bytes : Option (Option (List ℕ))} {info : List ℕ} → 2 < number
      → ReadsFile (opens (codes "/proc/self/fdinfo/" ++ decimal number)) (gives info) → is_for_writing info ≡ true
      → TakesStream opens number bytes (appends (codes "/proc/self/fd/" ++ decimal number) bytes ∷ [])

-- The root folder is opened, so often at most, until its descriptor is above those of the standard
-- streams, and is left open where it is one of theirs; and whether it could be opened.
pub data Holds : ℕ → Bool → List SystemCall → Type 0 where
  enough : Holds 0 true []
  unopened : {left : ℕ} → Holds (suc left) false (opens_root false ∷ [])
  above : {left number : ℕ} → 2 < number → Holds (suc left) true (opens_root true ∷ tells_descriptor number ∷ [])
  held : {left number : ℕ} {is_held : Bool} {rest : List SystemCall} → number ≤ 2 → Holds left is_held rest
      → Holds (suc left) is_held (opens_root true ∷ tells_descriptor number ∷ leaves_open ∷ rest)

-- a folder takes the place of each standard stream that is closed, where one is
pub data ReplacesClosed : Bool → List SystemCall → Type 0 where
  all_open : ReplacesClosed true (has_stream 0 true ∷ has_stream 1 true ∷ has_stream 2 true ∷ [])
  no_input : {is_held : Bool} {rest : List SystemCall} → Holds 3 is_held rest
      → ReplacesClosed is_held (has_stream 0 false ∷ rest)
  no_output : {is_held : Bool} {rest : List SystemCall} → Holds 3 is_held rest
      → ReplacesClosed is_held (has_stream 0 true ∷ has_stream 1 false ∷ rest)
  no_errors : {is_held : Bool} {rest : List SystemCall} → Holds 3 is_held rest
      → ReplacesClosed is_held (has_stream 0 true ∷ has_stream 1 true ∷ has_stream 2 false ∷ rest)
