-- The calls of the system by which an output is made, each with its answer, in their order.
use Rattle.std.specs.Prelude.{◌≡◌, ℕ, Bool, List, [], ◌∷◌, ◌++◌, Option, Some, None, option_map, Result, Ok, Err, refl, ◌*◌, ◌/◌, ◌^◌, ◌==◌, true, false, bit_and, bit_or}
use Rattle.runs.specs.declared.output_files.FileKind.{FileKind}
use Rattle.runs.specs.declared.output_files.MakeFault.{MakeFault}
use Rattle.runs.specs.declared.output_files.OutputFault.{OutputFault}
use Rattle.runs.specs.declared.output_files.Owner.{Owner}
use Rattle.runs.specs.declared.output_files.Rights.{Rights}

pub data FileCall : Type 0 where
  -- what the path leads to
  asks : List ℕ → FileKind → FileCall
  -- where the link at the path leads, or None where no link is there
  reads_link : List ℕ → Option (List ℕ) → FileCall
  -- the link at the path can't be read
  fails_to_read_link : List ℕ → OutputFault → FileCall
  -- a number for the name of a new file
  numbers : ℕ → FileCall
  -- a file that wasn't there is made at the path, with this mode and these bytes
  makes : List ℕ → ℕ → Option (List ℕ) → FileCall
  -- none is made at the path with this mode
  fails_to_make : List ℕ → ℕ → MakeFault → FileCall
  -- the file that is open is to get an owner, and whose it is then, where that is known
  sets_owner : Owner → Option Owner → FileCall
  -- the file that is open is to get the mode, and whether it did
  sets_mode : ℕ → Bool → FileCall
  -- the file at the path itself is opened and emptied; these are its bytes then
  opens : List ℕ → Option (List ℕ) → FileCall
  fails_to_open : List ℕ → FileCall
  -- the open stream of this number is taken, one above 2 at its end; these are its bytes so far
  takes_stream : ℕ → Option (List ℕ) → FileCall
  lacks_stream : ℕ → FileCall
  -- the file or stream is closed with these bytes, after this many calls failed, and whether all was taken
  closes : Option (List ℕ) → ℕ → Bool → FileCall
  -- the file at the first path gets the second, and whether it did
  renames : List ℕ → List ℕ → Bool → FileCall
  -- the file at the path is removed
  removes : List ℕ → FileCall

-- all calls up to now, where they are known
abbrev pub FileLog : Type 0
FileLog = Option (List FileCall)

-- the log after these calls
abbrev pub logged : List FileCall → FileLog → FileLog
logged calls log = option_map (λ before. before ++ calls) log

infixr 60 ◌▸◌
-- what is done for an output: one call after the other, and at the end it is done, or fails
pub data Course : Type 0 where
  done : Course
  fails : OutputFault → Course
  ◌▸◌ : FileCall → Course → Course

abbrev pub calls_of : Course → List FileCall
calls_of done = []
calls_of (fails why) = []
calls_of (call ▸ rest) = call ∷ calls_of rest

-- why the output isn't written, where it isn't
abbrev pub fault_of : Course → Option OutputFault
fault_of done = None
fault_of (fails why) = Some why
fault_of (call ▸ rest) = fault_of rest

abbrev pub fault_in : {T : Type 0} → Result T OutputFault → Option OutputFault
fault_in (Ok _) = None
fault_in (Err why) = Some why

-- what happened between two logs is such a course, with this fault at its end
pub record Runs (before after : FileLog) (fault : Option OutputFault) (Is : Course → Type 0) : Type 0 where
  pub course : Course
  pub log : after ≡ logged (calls_of course) before
  pub fault_is : fault ≡ fault_of course
  pub is : Is course

-- what happened between two logs is one such call
pub record Call (before after : FileLog) (Is : FileCall → Type 0) : Type 0 where
  pub call : FileCall
  pub log : after ≡ logged (call ∷ []) before
  pub is : Is call

-- Who may do what with a file, and what of that is kept by a new file that takes its place.

-- the bits that are kept of a mode, by whether the file's user and its group are the same as before:
-- never set-user-id, set-group-id and sticky; where one is another, others may not write; and where
-- the group is another, it and others may what both might before, but for writing
abbrev pub kept_bits : ℕ → (same_user same_group : Bool) → ℕ
kept_bits mode true true = bit_and mode 0o777
kept_bits mode false true = bit_and mode 0o775
kept_bits mode same_user false =
    let both = bit_and (bit_and mode (mode / 2 ^ 3)) 0o5 in bit_or (bit_or (bit_and mode 0o700) (both * 2 ^ 3)) both

-- the mode of a new file, by the rights of the one that it replaces and whose the new one is, where
-- that is known
abbrev pub kept_mode : Rights → Option Owner → ℕ
kept_mode old None = kept_bits old.mode false false
kept_mode old (Some owner) = kept_bits old.mode (owner.user == old.owner.user) (owner.group == old.owner.group)

-- the mode with which a new file is made: for its owner alone, where it replaces another; else the
-- system's, less the umask
abbrev pub first_mode : Option Rights → ℕ
first_mode None = 0o666
first_mode (Some old) = 0o600

-- of all rights; of rw-r-x--- where nothing is known of the new owner
pub rights_are_kept : (old : Rights)
    → (kept_bits 0o7777 true true ∷ kept_bits 0o777 false true ∷ kept_bits 0o777 true false ∷ kept_bits 0o650 true false
    ∷ [] ≡ 0o777 ∷ 0o775 ∷ 0o755 ∷ 0o600 ∷ [])
    × (kept_mode (record old { mode = 0o777 }) None ≡ 0o755) × (first_mode (Some old) ≡ 0o600)
rights_are_kept old = (refl, refl, refl)
