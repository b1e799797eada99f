-- The single calls of a system that change it or serve an output, each with its answer, in their order.
use Rattle.std.specs.Prelude.{◌≡◌, ℕ, Bool, List, ◌++◌, Option, option_map, Result}
use Rattle.std.specs.declared.io.ErrorKind.{ErrorKind}
use Rattle.runs.specs.declared.output_files.Owner.{Owner}
use Rattle.process.specs.declared.answers.Found.{Found}

pub data SystemCall : Type 0 where
  -- whether the standard stream of this number is open
  has_stream : ℕ → Bool → SystemCall
  -- the root folder is opened, and whether it was
  opens_root : Bool → SystemCall
  -- the number of an open file's descriptor
  tells_descriptor : ℕ → SystemCall
  -- the open file is never closed
  leaves_open : SystemCall
  -- what the system tells of the file to which a path leads
  tells_of : List ℕ → Result Found ErrorKind → SystemCall
  -- the link at a path has this text, or isn't read
  reads_link : List ℕ → List ℕ → SystemCall
  fails_to_read_link : List ℕ → ErrorKind → SystemCall
  -- a random number, where there is one
  draws : Option ℕ → SystemCall
  -- a file that wasn't there is made at a path, with this mode and these bytes, or isn't
  creates : List ℕ → ℕ → Option (List ℕ) → SystemCall
  fails_to_create : List ℕ → ℕ → ErrorKind → SystemCall
  -- whose the open file is, where that is told
  tells_owner : Option Owner → SystemCall
  -- the open file is given this group, and this user where there is one, and whether it was
  gives_owner : Option ℕ → ℕ → Bool → SystemCall
  -- the open file is given this mode, and whether it was
  gives_mode : ℕ → Bool → SystemCall
  -- the file at a path is opened and emptied, and its bytes then, where it was
  empties : List ℕ → Option (Option (List ℕ)) → SystemCall
  -- the file at a path is opened to be written at its end, and its bytes, where it was
  appends : List ℕ → Option (Option (List ℕ)) → SystemCall
  -- standard output and standard error are taken, with their bytes so far
  takes_output : Option (List ℕ) → SystemCall
  takes_errors : Option (List ℕ) → SystemCall
  -- the file at the first path is given the second, and whether it was
  renames : List ℕ → List ℕ → Bool → SystemCall
  -- the file at a path is removed
  removes : List ℕ → SystemCall

-- all calls up to now, where they are known
abbrev pub CallLog : Type 0
CallLog = Option (List SystemCall)

-- the log after these calls
abbrev pub called : List SystemCall → CallLog → CallLog
called calls log = option_map (λ before. before ++ calls) log

-- what happened between two logs are such calls
pub record Does (before after : CallLog) (Are : List SystemCall → Type 0) : Type 0 where
  pub calls : List SystemCall
  pub log : after ≡ called calls before
  pub are : Are calls
