-- What the calls by which an output is made do to a system. The model is small: what each path holds,
-- what each open stream has taken, and what is open. Two paths are two files, a path to what is no
-- regular file stands for that, also where a link is there, and no other program changes anything
-- meanwhile.
use Rattle.std.specs.Prelude.{◌≡◌, ◌==◌, ℕ, Bool, Option, Some, None, if◌then◌else◌, ⊤, ◌⊎◌, zero, true, List, []}
use Rattle.runs.specs.declared.output_files.Owner.{Owner}
use Rattle.std.specs.Str.{bytes_eq}
use Rattle.runs.specs.declared.output_files.FileKind.{FileKind}
use Rattle.runs.specs.declared.output_files.FileKind.TheVariants.{Regular, Special, Unknown}
use Rattle.runs.specs.OutputFiles.{FileCall, Course, done, fails, ◌▸◌, asks, reads_link, makes, sets_owner, sets_mode, opens, takes_stream, closes, renames, removes}
use Rattle.runs.specs.OutputPaths.{NamesStream, NamesNoStream, link_target}

-- what a path holds
pub data PathState : Type 0 where
  -- no file
  nothing : PathState
  -- a symbolic link with this text, to a regular file or to where none is
  link : List ℕ → PathState
  -- a file: its bytes, which nobody knows while it is written and after a call that wrote it failed;
  -- its mode, of which the umask is taken where it was just made; and whose it is, where that is known
  file : Option (List ℕ) → ℕ → Option Owner → PathState

-- where an output goes
pub data Destination : Type 0 where
  file_at : List ℕ → Destination
  stream_of : ℕ → Destination

pub record Files : Type 0 where
  -- what each path holds
  pub at : List ℕ → PathState
  -- the bytes that each open stream has taken, where they are known
  pub streams : ℕ → Option (List ℕ)
  -- what was opened last
  pub opened : Destination

-- the paths, where one of them gets another state
abbrev pub put : List ℕ → PathState → (List ℕ → PathState) → List ℕ → PathState
put path state at p = if bytes_eq p path then state else at p

-- the streams, where one of them has taken other bytes
abbrev pub put_stream : ℕ → Option (List ℕ) → (ℕ → Option (List ℕ)) → ℕ → Option (List ℕ)
put_stream number bytes streams n = if n == number then bytes else streams n

-- a file with other bytes, another mode, another owner
abbrev pub with_bytes : Option (List ℕ) → PathState → PathState
with_bytes bytes nothing = nothing
with_bytes bytes (link text) = link text
with_bytes bytes (file _ mode owner) = file bytes mode owner

abbrev pub with_mode : ℕ → PathState → PathState
with_mode mode nothing = nothing
with_mode mode (link text) = link text
with_mode mode (file bytes _ owner) = file bytes mode owner

abbrev pub with_owner : Option Owner → PathState → PathState
with_owner owner nothing = nothing
with_owner owner (link text) = link text
with_owner owner (file bytes mode _) = file bytes mode owner

-- the bytes of a file that is closed: known where no call failed
abbrev pub bytes_after : Option (List ℕ) → ℕ → Bool → Option (List ℕ)
bytes_after bytes zero true = bytes
bytes_after bytes failures closed = None

-- what is open is changed, where it is a file
abbrev pub change_opened : (PathState → PathState) → Destination → Files → Files
change_opened change (file_at path) files =
    record { at = put path (change (files.at path)) files.at; streams = files.streams; opened = file_at path }
change_opened change (stream_of number) files =
    record { at = files.at; streams = files.streams; opened = stream_of number }

-- what is open is closed with these bytes
abbrev pub close_opened : Option (List ℕ) → Destination → Files → Files
close_opened bytes (file_at path) files = change_opened (with_bytes bytes) (file_at path) files
close_opened bytes (stream_of number) files =
    record { at = files.at; streams = put_stream number bytes files.streams; opened = stream_of number }

-- where what is open is after a file got another path
abbrev pub moved : List ℕ → List ℕ → Destination → Destination
moved from to (file_at path) = file_at (if bytes_eq path from then to else path)
moved from to (stream_of number) = stream_of number

-- the files after a call
abbrev pub after_call : FileCall → Files → Files
after_call (makes path mode bytes) files =
    record { at = put path (file None mode None) files.at; streams = files.streams; opened = file_at path }
after_call (opens path bytes) files =
    record { at = put path (with_bytes None (files.at path)) files.at; streams = files.streams; opened = file_at path }
after_call (takes_stream number bytes) files =
    record { at = files.at; streams = files.streams; opened = stream_of number }
after_call (sets_owner wanted owner) files = change_opened (with_owner owner) files.opened files
after_call (sets_mode mode true) files = change_opened (with_mode mode) files.opened files
after_call (closes bytes failures closed) files = close_opened (bytes_after bytes failures closed) files.opened files
after_call (renames from to true) files =
    record {
      at = put to (files.at from) (put from nothing files.at);
      streams = files.streams;
      opened = moved from to files.opened;
    }
after_call (removes path) files =
    record { at = put path nothing files.at; streams = files.streams; opened = files.opened }
after_call call files = files

-- the files after these calls
abbrev pub after : Course → Files → Files
after done files = files
after (fails why) files = files
after (call ▸ rest) files = after rest (after_call call files)

-- it is so before each of these calls, and after the last
abbrev pub Always : (Files → Type 0) → Course → Files → Type 0
Always P done files = P files
Always P (fails why) files = P files
Always P (call ▸ rest) files = P files × Always P rest (after_call call files)

-- it is so of each call
abbrev pub Each : (FileCall → Type 0) → Course → Type 0
Each P done = ⊤
Each P (fails why) = ⊤
Each P (call ▸ rest) = P call × Each P rest

-- the call is one of these
abbrev pub Among : Course → FileCall → Type 0
Among done call = ⊥
Among (fails why) call = ⊥
Among (first ▸ rest) call = (first ≡ call) ⊎ Among rest call

abbrev pub IsNoLink : PathState → Type 0
IsNoLink (link text) = ⊥
IsNoLink state = ⊤

-- a file with this mode is there, and it is this owner's
abbrev pub HasRights : PathState → ℕ → Option Owner → Type 0
HasRights state mode owner = (bytes : Option (List ℕ)) × (state ≡ file bytes mode owner)

-- what a path holds fits what it is said to lead to; of a link that says nothing
abbrev pub FitsKind : FileKind → PathState → Type 0
FitsKind (Regular old) (link text) = ⊤
FitsKind (Regular None) state = state ≡ nothing
FitsKind (Regular (Some old)) state = HasRights state old.mode (Some old.owner)
FitsKind Special state = (mode : ℕ) × (owner : Option Owner) × HasRights state mode owner
FitsKind Unknown state = ⊤

-- files give this answer: links are where they are read, a new file is made only where nothing is, a
-- file that is opened is there and is empty then, and a stream has what it took
abbrev pub Gives : Files → FileCall → Type 0
Gives files (asks path kind) = FitsKind kind (files.at path)
Gives files (reads_link path None) = IsNoLink (files.at path)
Gives files (reads_link path (Some text)) = files.at path ≡ link text
Gives files (makes path mode bytes) = (files.at path ≡ nothing) × (bytes ≡ Some [])
Gives files (opens path bytes) =
    ((mode : ℕ) × (owner : Option Owner) × HasRights (files.at path) mode owner) × (bytes ≡ Some [])
Gives files (takes_stream number bytes) = bytes ≡ files.streams number
Gives files call = ⊤

-- files give these answers, one after the other
abbrev pub GivesAll : Course → Files → Type 0
GivesAll done files = ⊤
GivesAll (fails why) files = ⊤
GivesAll (call ▸ rest) files = Gives files call × GivesAll rest (after_call call files)

-- the path leads there, along the links that the paths hold
pub data Leads (files : Files) : List ℕ → Destination → Type 0 where
  to_stream : {path : List ℕ} {number : ℕ} → NamesStream path number → Leads files path (stream_of number)
  to_file : {path : List ℕ} → NamesNoStream path → IsNoLink (files.at path) → Leads files path (file_at path)
  along : {path text : List ℕ} {to : Destination} → NamesNoStream path → files.at path ≡ link text
      → Leads files (link_target path text) to → Leads files path to
