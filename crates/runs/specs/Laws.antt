-- What an output comes to by the calls that make it, whatever a system of files answers: it is there
-- whole or as it was, gives nobody more than before, and goes where its path leads.
use Rattle.std.specs.Prelude.{◌≡◌, ◌≢◌, ℕ, Option, Some, None, ⊤, ◌⊎◌, List}
use Rattle.runs.specs.declared.output_files.Owner.{Owner}
use Rattle.runs.specs.declared.output_files.Rights.{Rights}
use Rattle.std.specs.Io.KnownBytes.{Appends}
use Rattle.std.specs.Path.{path_with_file_name}
use Rattle.runs.specs.declared.output_files.FileKind.TheVariants.{Regular, Special}
use Rattle.runs.specs.declared.output_files.MakeFault.TheVariants.{Forbidden}
use Rattle.runs.specs.OutputFiles.{FileCall, Course, fault_of, asks, reads_link, makes, fails_to_make, opens, takes_stream, renames, removes, FileLog, calls_of, logged, kept_mode, first_mode}
use Rattle.runs.specs.OutputPaths.{NamesNoStream}
use Rattle.runs.specs.OutputSystem.{SystemView}
use Rattle.runs.specs.Run.{RunView}
use Rattle.runs.specs.AccessRights.{GivesNobodyMore, IsWhose}
use Rattle.runs.specs.FilesAfterCalls.{Always, Among, Destination, Each, Files, GivesAll, HasRights, Leads, PathState, after, file, file_at, link, nothing, stream_of}

-- the path is beside the target: in its folder
abbrev pub IsBeside : List ℕ → List ℕ → Type 0
IsBeside path target = (name : List ℕ) × (path ≡ path_with_file_name target name)

-- what is at the target may be replaced: a regular file is there, or none, and no link
pub record IsReplaceable (target : List ℕ) (course : Course) : Type 0 where
  pub old : Option Rights
  pub asked : Among course (asks target (Regular old))
  pub no_link : Among course (reads_link target None)
  pub no_stream : NamesNoStream target

-- it may be written in place: it is no regular file, or it is one that is there and the system forbids
-- to make a file beside it
pub data IsWrittenInPlace (target : List ℕ) (course : Course) : Type 0 where
  special : Among course (asks target Special) → IsWrittenInPlace target course
  forbidden : (old : Rights) (mode : ℕ) (new : List ℕ)
      → Among course (asks target (Regular (Some old))) → IsBeside new target
      → Among course (fails_to_make new mode Forbidden) → IsWrittenInPlace target course

-- what a call may do: only where the path leads is written in place, or replaced by a file beside it
abbrev pub IsAllowed : Destination → Course → FileCall → Type 0
IsAllowed to course (opens path bytes) = (to ≡ file_at path) × IsWrittenInPlace path course
IsAllowed to course (takes_stream number bytes) = to ≡ stream_of number
IsAllowed to course (makes path mode bytes) = (target : List ℕ) × (to ≡ file_at target) × IsBeside path target
IsAllowed to course (renames from target renamed) =
    (to ≡ file_at target) × IsBeside from target × IsReplaceable target course
IsAllowed to course (removes path) = (target : List ℕ) × (to ≡ file_at target) × IsBeside path target
IsAllowed to course call = ⊤

-- nothing is written in place
abbrev pub IsNotOpening : FileCall → Type 0
IsNotOpening (opens path bytes) = ⊥
IsNotOpening call = ⊤

-- a file is there with all of the output
abbrev pub IsWhole : List ℕ → PathState → Type 0
IsWhole output state = (mode : ℕ) × (owner : Option Owner) × (state ≡ file (Some output) mode owner)

-- each path holds what it held before; or the output goes there, and all of it is there; or a new file
-- is there, and the output goes elsewhere
abbrev pub IsWholeOrAsItWas : List ℕ → Destination → Files → Files → Type 0
IsWholeOrAsItWas output to before now = (path : List ℕ)
    → (now.at path ≡ before.at path)
    ⊎ ((to ≡ file_at path) × IsWhole output (now.at path))
    ⊎ ((to ≢ file_at path) × (before.at path ≡ nothing))

-- a file that is new gives nobody more than what was where the output goes, or what the system gives
abbrev pub GivesNoMore : PathState → ℕ → Option Owner → Type 0
GivesNoMore nothing mode owner = mode ≡ 0o666
GivesNoMore (link text) mode owner = ⊥
GivesNoMore (file bytes old_mode None) mode owner = ⊥
GivesNoMore (file bytes old_mode (Some old_owner)) mode owner = (whose : Owner) → IsWhose owner whose
    → GivesNobodyMore (record { mode = old_mode; owner = old_owner }) (record { mode = mode; owner = whose })

-- each file has the rights that the file at its path had before, or gives nobody more than the file
-- had to which the output goes
abbrev pub GivesNothingAway : Destination → Files → Files → Type 0
GivesNothingAway to before now = (path : List ℕ) (mode : ℕ) (owner : Option Owner) → HasRights (now.at path) mode owner
    → HasRights (before.at path) mode owner
    ⊎ ((target : List ℕ) × (to ≡ file_at target) × GivesNoMore (before.at target) mode owner)

-- the file that was replaced, or nothing, and the one that is there now: its mode is what is kept
abbrev pub KeepsMode : PathState → PathState → Type 0
KeepsMode nothing (file bytes mode owner) = mode ≡ first_mode None
KeepsMode (file old_bytes old_mode (Some old_owner)) (file bytes mode owner) =
    mode ≡ kept_mode (record { mode = old_mode; owner = old_owner }) owner
KeepsMode before now = ⊥

-- all of the output is where it goes
abbrev pub HasAll : List ℕ → Destination → Files → Files → Type 0
HasAll output (file_at path) before now = IsWhole output (now.at path)
HasAll output (stream_of number) before now = Appends (before.streams number) (now.streams number) output

-- what an output comes to that goes there, from these files on
pub record Comes (output : List ℕ) (to : Destination) (course : Course) (files : Files) : Type 0 where
  -- at every moment, thus also where the run is killed, the file to which the output goes holds all of
  -- it, or what it held before
  pub whole_or_as_it_was : Each IsNotOpening course → Always (IsWholeOrAsItWas output to files) course files
  pub nothing_given_away : Always (GivesNothingAway to files) course files
  pub success : fault_of course ≡ None → HasAll output to files (after course files)
  pub mode : (target : List ℕ) → to ≡ file_at target → fault_of course ≡ None → Each IsNotOpening course
      → KeepsMode (files.at target) ((after course files).at target)
  pub fault : Each IsNotOpening course → fault_of course ≢ None
      → (path : List ℕ) → (after course files).at path ≡ files.at path
  pub other_paths : (path : List ℕ) → to ≢ file_at path → (after course files).at path ≡ files.at path
  pub other_streams : (number : ℕ) → to ≢ stream_of number → (after course files).streams number ≡ files.streams number

-- what an output to this path comes to, with these calls
pub record IsWholeOrAsItWasThroughout (output path : List ℕ) (course : Course) : Type 0 where
  pub to : Destination
  pub leads : (files : Files) → GivesAll course files
      → Leads files path to ⊎ ((fault_of course ≢ None) × (after course files ≡ files))
  pub allowed : Each (IsAllowed to course) course
  pub comes : (files : Files) → GivesAll course files → Comes output to course files

-- What is there after a run was written, over the model of a system of files.

-- by the calls between two logs all of the output is where the path leads, whatever the files were
pub record IsThere (output path : List ℕ) (log log' : FileLog) : Type 0 where
  pub course : Course
  pub calls : log' ≡ logged (calls_of course) log
  pub to : Destination
  pub leads : (files : Files) → GivesAll course files → Leads files path to
  pub whole : (files : Files) → GivesAll course files → HasAll output to files (after course files)

-- all of the output of a run is where the path of its file leads, or on standard output where it has
-- none, and all of its messages are on standard error
pub data IsAllWritten (run : RunView) (before now : SystemView) : Option (List ℕ) → Type 0 where
  in_file : {path : List ℕ} → IsThere run.output path before.files now.files → now.out ≡ before.out
      → Appends before.err.bytes now.err.bytes run.messages → IsAllWritten run before now (Some path)
  on_standard_output : now.files ≡ before.files → Appends before.out.bytes now.out.bytes run.output
      → Appends before.err.bytes now.err.bytes run.messages → IsAllWritten run before now None
