-- What a small folder holds after calls: links, one file that is there, and one new file.
use Rattle.std.specs.Prelude.{ℕ, Bool, true, false, not, List, [], ◌∷◌, ◌++◌, Option, Some, None, option_and_then, is_some, ◌&&◌, ◌||◌, if◌then◌else◌}
use Rattle.std.specs.Str.{bytes_eq}
use Rattle.runs.specs.Prelude.{FileCall}
use Rattle.runs.specs.OutputFiles.{asks, reads_link, fails_to_read_link, numbers, makes, fails_to_make, sets_owner, sets_mode, opens, fails_to_open, takes_stream, lacks_stream, closes, renames, removes}
use Rattle.runs.specs.declared.output_files.FileKind.TheVariants.{Regular, Special, Unknown}
use Rattle.known_system.specs.Source.{bytes_of}

-- a file with its path, or none
abbrev pub Place : Type 0
Place = Option (List ℕ × List ℕ)

-- links, each with its path and its text
abbrev pub Links : Type 0
Links = List (List ℕ × List ℕ)

-- a folder: first its links are told, then they stay
pub record Folder : Type 0 where
  pub telling : Bool
  pub links : Links
  pub held : Place
  pub fresh : Place

abbrev pub folder : Links → Place → Place → Folder
folder links held fresh = record { telling = false; links = links; held = held; fresh = fresh }

-- a folder of which only these links are told yet
abbrev pub telling : Links → Place → Folder
telling links held = record { telling = true; links = links; held = held; fresh = None }

abbrev pub nothing : Folder
nothing = telling [] None

-- the folder with another file that is there, and another new one
abbrev pub with_files : Folder → Place → Place → Folder
with_files s held fresh = record { telling = s.telling; links = s.links; held = held; fresh = fresh }

abbrev pub is_at : Place → List ℕ → Bool
is_at None path = false
is_at (Some file) path = bytes_eq file.0 path

abbrev pub is_free : Place → List ℕ → Bool
is_free None path = true
is_free (Some file) path = bytes_eq file.0 path

abbrev pub unless_at : List ℕ → Place → Place
unless_at path None = None
unless_at path (Some file) = if bytes_eq file.0 path then None else Some file

abbrev pub with_path : List ℕ → Place → Place
with_path path None = None
with_path path (Some file) = Some (path, file.1)

abbrev pub with_bytes : List ℕ → Place → Place
with_bytes bytes None = None
with_bytes bytes (Some file) = Some (file.0, bytes)

-- the bytes at a path
abbrev pub bytes_at : List ℕ → Place → Option (List ℕ)
bytes_at path None = None
bytes_at path (Some file) = if bytes_eq file.0 path then Some file.1 else None

-- whether this is the text of the link at a path
abbrev pub is_link : Option (List ℕ) → List ℕ → Bool
is_link None text = false
is_link (Some link) text = bytes_eq link text

-- whether a link is at a path
abbrev pub is_linked : Folder → List ℕ → Bool
is_linked s path = is_some (bytes_of s.links path)

-- a new file is made where none is there, at a path that is free
abbrev pub made : List ℕ → Folder → Option Folder
made path s =
    if is_some s.fresh || is_at s.held path || is_linked s path then None
    else Some (with_files s s.held (Some (path, [])))

-- a link is told, or answered
abbrev pub linked : List ℕ → List ℕ → Folder → Option Folder
linked path text s =
    if s.telling then Some (telling (s.links ++ (path, text) ∷ []) s.held)
    else if is_link (bytes_of s.links path) text then Some s else None

-- the folder after a call, where it may be answered so
abbrev pub step : FileCall → Folder → Option Folder
step (asks p (Regular old)) s = Some s
step (asks p Special) s = None
step (asks p Unknown) s = None
step (reads_link p None) s = if is_linked s p then None else Some s
step (reads_link p (Some text)) s = linked p text s
step (fails_to_read_link p why) s = Some s
step (numbers n) s = Some (folder s.links s.held s.fresh)
step (makes p mode (Some [])) s = made p s
step (makes p mode (Some (b ∷ bs))) s = None
step (makes p mode None) s = None
step (fails_to_make p mode why) s = Some s
step (sets_owner wanted owner) s = Some s
step (sets_mode mode done) s = Some s
step (opens p bytes) s = None
step (fails_to_open p) s = Some s
step (takes_stream n bytes) s = None
step (lacks_stream n) s = Some s
step (closes (Some bytes) failures done) s = Some (with_files s s.held (with_bytes bytes s.fresh))
step (closes None failures done) s = None
step (renames p q true) s =
    if (is_at s.fresh p && is_free s.held q) && not (is_linked s q) then Some (with_files s (with_path q s.fresh) None)
    else None
step (renames p q false) s = Some s
step (removes p) s = Some (with_files s (unless_at p s.held) (unless_at p s.fresh))

-- the folder after calls
abbrev pub replay : List FileCall → Folder → Option Folder
replay [] s = Some s
replay (call ∷ calls) s = option_and_then (replay calls) (step call s)

-- the folder after the calls of a log, where that is known
abbrev pub replayed : Option (List FileCall) → Option Folder
replayed None = None
replayed (Some calls) = replay calls nothing
