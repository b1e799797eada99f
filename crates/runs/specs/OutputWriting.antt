-- How an output is made, as the calls of the system in their order: whole in a new file beside the
-- one that it replaces, which then gets its path.
use Rattle.std.specs.Prelude.{◌≡◌, ◌+◌, ◌<◌, ◌^◌, ℕ, Bool, true, false, List, Option, Some, None}
use Rattle.std.specs.Io.KnownBytes.{Appends}
use Rattle.runs.specs.Device.{AppendsPrefix}
use Rattle.runs.specs.declared.output_files.FileKind.TheVariants.{Regular, Special, Unknown}
use Rattle.runs.specs.declared.output_files.MakeFault.TheVariants.{Exists, Forbidden, Failed}
use Rattle.runs.specs.declared.output_files.OutputFault.{OutputFault}
use Rattle.runs.specs.declared.output_files.OutputFault.TheVariants.{CannotCreate, WriteFault, OutOfMemory}
use Rattle.runs.specs.declared.output_files.Owner.{Owner}
use Rattle.runs.specs.declared.output_files.Rights.{Rights}
use Rattle.runs.specs.OutputFiles.{FileCall, Course, done, fails, ◌▸◌, asks, reads_link, fails_to_read_link, numbers, makes, fails_to_make, sets_owner, sets_mode, opens, fails_to_open, takes_stream, lacks_stream, closes, renames, removes, kept_mode, first_mode}
use Rattle.runs.specs.OutputPaths.{NamesStream, NamesNoStream, link_target, beside}

-- the names that are tried for a new file where the first is taken (this project's own)
abbrev pub further_names : ℕ
further_names = 999

-- the output was put into a file or stream that had these bytes and is then closed by this call, and
-- whether it took all
pub data Closes (output : List ℕ) (before : Option (List ℕ)) : FileCall → Bool → Type 0 where
  whole : {after : Option (List ℕ)} → Appends before after output → Closes output before (closes after 0 true) true
  cut : {after : Option (List ℕ)} {closed : Bool} → AppendsPrefix before after output
      → Closes output before (closes after 1 closed) false
  late : {after : Option (List ℕ)} → Appends before after output → Closes output before (closes after 0 false) false

-- the output is put into what is open, and had these bytes
pub data Puts (output : List ℕ) (before : Option (List ℕ)) : Course → Type 0 where
  put : {close : FileCall} → Closes output before close true → Puts output before (close ▸ done)
  unput : {close : FileCall} → Closes output before close false → Puts output before (close ▸ fails WriteFault)

-- the output is written to an open stream, where it stands
pub data WritesStream (output : List ℕ) (number : ℕ) : Course → Type 0 where
  lacking : WritesStream output number (lacks_stream number ▸ fails CannotCreate)
  taken : {before : Option (List ℕ)} {rest : Course} → Puts output before rest
      → WritesStream output number (takes_stream number before ▸ rest)

-- the output is written to the file at the path itself
pub data WritesInPlace (output path : List ℕ) : Course → Type 0 where
  unopened : WritesInPlace output path (fails_to_open path ▸ fails CannotCreate)
  opened : {before : Option (List ℕ)} {rest : Course} → Puts output before rest
      → WritesInPlace output path (opens path before ▸ rest)

-- a new file that is to replace what is at a path
pub record NewFile : Type 0 where
  pub path : List ℕ
  pub target : List ℕ
  -- its bytes when it was made
  pub made : Option (List ℕ)

-- the new file gets all of the output, and then the path; where a call fails it is removed
pub data Finishes (output : List ℕ) (new : NewFile) : Course → Type 0 where
  replaced : {close : FileCall} → Closes output new.made close true
      → Finishes output new (close ▸ renames new.path new.target true ▸ done)
  unmoved : {close : FileCall} → Closes output new.made close true
      → Finishes output new (close ▸ renames new.path new.target false ▸ removes new.path ▸ fails CannotCreate)
  unwritten : {close : FileCall} → Closes output new.made close false
      → Finishes output new (close ▸ removes new.path ▸ fails WriteFault)

-- before that it gets the owner of the old file, where one is there, as far as the system lets it,
-- and what is kept of the mode
pub data Fills (output : List ℕ) (new : NewFile) : Option Rights → Course → Type 0 where
  replaces_none : {rest : Course} → Finishes output new rest → Fills output new None rest
  with_rights : {old : Rights} {owner : Option Owner} {rest : Course} → Finishes output new rest
      → Fills output new (Some old)
      (sets_owner old.owner owner ▸ sets_mode (kept_mode old owner) true ▸ rest)
  without_rights : {old : Rights} {owner : Option Owner}
      → Fills output new (Some old)
      (sets_owner old.owner owner ▸ sets_mode (kept_mode old owner) false ▸ removes new.path ▸ fails CannotCreate)

-- The file at the path, which has these rights or isn't there, is replaced by a new one, whose name has
-- a number that the system gives; where a name is taken another is tried, so often at most. It is
-- written in place only where it is there and no file may be made in its folder.
pub data Replaces (output path : List ℕ) : Option Rights → ℕ → Course → Type 0 where
  unnamed : {old : Option Rights} {tries number : ℕ}
      → Replaces output path old tries (numbers number ▸ fails OutOfMemory)
  made : {old : Option Rights} {tries number : ℕ} {before : Option (List ℕ)} {rest : Course} → number < 2 ^ 32
      → Fills output (record { path = beside path number; target = path; made = before }) old rest
      → Replaces output path old tries (numbers number ▸ makes (beside path number) (first_mode old) before ▸ rest)
  taken : {old : Option Rights} {tries number : ℕ} {rest : Course} → Replaces output path old tries rest
      → Replaces output path old (tries + 1)
      (numbers number ▸ fails_to_make (beside path number) (first_mode old) Exists ▸ rest)
  all_taken : {old : Option Rights} {number : ℕ}
      → Replaces output path old 0
      (numbers number ▸ fails_to_make (beside path number) (first_mode old) Exists ▸ fails CannotCreate)
  in_place : {old : Rights} {tries number : ℕ} {rest : Course} → WritesInPlace output path rest
      → Replaces output path (Some old) tries
      (numbers number ▸ fails_to_make (beside path number) (first_mode (Some old)) Forbidden ▸ rest)
  forbidden : {tries number : ℕ}
      → Replaces output path None tries
      (numbers number ▸ fails_to_make (beside path number) (first_mode None) Forbidden ▸ fails CannotCreate)
  failed : {old : Option Rights} {tries number : ℕ}
      → Replaces output path old tries
      (numbers number ▸ fails_to_make (beside path number) (first_mode old) Failed ▸ fails CannotCreate)

-- where the path leads isn't found, through so many links at most
pub data Stops (links : ℕ) (path : List ℕ) : Course → Type 0 where
  unknown : Stops links path (asks path Unknown ▸ fails CannotCreate)
  unread : {old : Option Rights} {why : OutputFault}
      → Stops links path (asks path (Regular old) ▸ fails_to_read_link path why ▸ fails why)
  no_memory : {old : Option Rights} {text : List ℕ}
      → Stops links path (asks path (Regular old) ▸ reads_link path (Some text) ▸ fails OutOfMemory)
  too_long : {old : Option Rights} {text : List ℕ} → links ≡ 0
      → Stops links path (asks path (Regular old) ▸ reads_link path (Some text) ▸ fails CannotCreate)

-- The output goes where the path leads, through so many links at most: an open stream is written
-- where it stands, what is no regular file in place, and a regular file or none is replaced.
pub data WritesFile (output : List ℕ) : ℕ → List ℕ → Course → Type 0 where
  stream : {links number : ℕ} {path : List ℕ} {rest : Course} → NamesStream path number
      → WritesStream output number rest → WritesFile output links path rest
  stops : {links : ℕ} {path : List ℕ} {rest : Course} → NamesNoStream path → Stops links path rest
      → WritesFile output links path rest
  special : {links : ℕ} {path : List ℕ} {rest : Course} → NamesNoStream path → WritesInPlace output path rest
      → WritesFile output links path (asks path Special ▸ rest)
  replaces : {links : ℕ} {path : List ℕ} {old : Option Rights} {rest : Course} → NamesNoStream path
      → Replaces output path old further_names rest
      → WritesFile output links path (asks path (Regular old) ▸ reads_link path None ▸ rest)
  follows : {links : ℕ} {path text : List ℕ} {old : Option Rights} {rest : Course} → NamesNoStream path
      → WritesFile output links (link_target path text) rest
      → WritesFile output (links + 1) path (asks path (Regular old) ▸ reads_link path (Some text) ▸ rest)
