-- What answers of a system mean (POSIX, `stat`, `open`, `readlink`; Linux, `/proc/PID/fdinfo`).
use Rattle.std.specs.Prelude.{◌==◌, ◌&&◌, ◌||◌, ℕ, Bool, false, if◌then◌else◌, List, Some, None, Result, Ok, Err, bit_and, codes, nat_eq, nat_lt}
use Rattle.std.specs.List.{ends_with, find, slice_split, starts_with}
use Rattle.std.specs.Option.{option_map_or}
use Rattle.std.specs.declared.io.ErrorKind.{ErrorKind}
use Rattle.std.specs.declared.io.ErrorKind.TheVariants.{NotFound, InvalidInput, AlreadyExists, PermissionDenied, ReadOnlyFilesystem}
use Rattle.std.specs.declared.io.ErrorKind.TheVariants.{OutOfMemory as NoMemory}
use Rattle.runs.specs.declared.output_files.FileKind.{FileKind}
use Rattle.runs.specs.declared.output_files.FileKind.TheVariants.{Regular, Special, Unknown}
use Rattle.runs.specs.declared.output_files.MakeFault.{MakeFault}
use Rattle.runs.specs.declared.output_files.MakeFault.TheVariants.{Exists, Forbidden, Failed}
use Rattle.runs.specs.declared.output_files.OutputFault.{OutputFault}
use Rattle.runs.specs.declared.output_files.OutputFault.TheVariants.{CannotCreate, OutOfMemory}
use Rattle.runs.specs.declared.output_files.Rights.{Rights}
use Rattle.process.specs.declared.answers.Found.{Found}

-- the mode without the bits of the kind of the file, and whose the file is
abbrev pub rights_of : Found → Rights
rights_of found = record { mode = bit_and found.mode 0o7777; owner = found.owner }

-- A regular file that has a name, or none that is there, can be replaced; a file without a name, which
-- an open descriptor alone has, can't be, nor can a device, a pipe or a folder.
abbrev pub kind_of : Result Found ErrorKind → FileKind
kind_of (Ok found) = if found.is_regular && nat_lt 0 found.names then Regular (Some (rights_of found)) else Special
kind_of (Err NotFound) = Regular None
kind_of (Err _) = Unknown

-- `readlink` says `EINVAL` of what is no link, and `ENOENT` where nothing is there
abbrev pub no_link : ErrorKind → Result (Unit {0}) OutputFault
no_link InvalidInput = Ok _
no_link NotFound = Ok _
no_link NoMemory = Err OutOfMemory
no_link _ = Err CannotCreate

-- a folder in which no file may be made, or that of a file system that is read-only, forbids it
abbrev pub make_fault : ErrorKind → MakeFault
make_fault AlreadyExists = Exists
make_fault PermissionDenied = Forbidden
make_fault ReadOnlyFilesystem = Forbidden
make_fault _ = Failed

-- the last octal digit of a descriptor's flags is 1 if it is open to be written, and 2 if to be read too
abbrev pub is_writing_line : List ℕ → Bool
is_writing_line line = ends_with nat_eq line (codes "1") || ends_with nat_eq line (codes "2")

-- the first line that begins with `flags:` has that digit
abbrev pub is_for_writing : List ℕ → Bool
is_for_writing info = option_map_or is_writing_line
    (find (λ line. starts_with nat_eq line (codes "flags:")) (slice_split (λ byte. byte == 10) info)) false
