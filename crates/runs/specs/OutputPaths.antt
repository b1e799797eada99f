-- The paths at which an output is made: the streams that are open, by their names, where a link
-- leads, and new files.
use Rattle.std.specs.Prelude.{◌<◌, ◌^◌, ◌++◌, ◌∷◌, ℕ, List, length, if◌then◌else◌, nat_lt, Option, Some, None, codes, decimal}
use Rattle.std.specs.Path.{path_file_name, path_with_file_name}

-- the path names an open stream of the process that looks it up, by the number of its descriptor
pub data NamesStream : List ℕ → ℕ → Type 0 where
  standard_output : NamesStream (codes "/dev/stdout") 1
  standard_error : NamesStream (codes "/dev/stderr") 2
  of_device : {number : ℕ} → number < 2 ^ 32 → NamesStream (codes "/dev/fd/" ++ decimal number) number
  of_process : {number : ℕ} → number < 2 ^ 32 → NamesStream (codes "/proc/self/fd/" ++ decimal number) number

-- the path is one of the file system
abbrev pub NamesNoStream : List ℕ → Type 0
NamesNoStream path = (number : ℕ) → ¬ NamesStream path number

-- where a link at this path leads, by its text: from its folder, or from the root
abbrev pub link_target : List ℕ → List ℕ → List ℕ
link_target path text = path_with_file_name path text

-- the name that a new file's begins with: that of the file, where it leaves room for more
abbrev pub own_name : Option (List ℕ) → List ℕ
own_name None = codes "output"
own_name (Some name) = if nat_lt 200 (length name) then codes "output" else name

-- the name of a new file
abbrev pub new_name : Option (List ℕ) → ℕ → List ℕ
new_name name number = 46 ∷ own_name name ++ 46 ∷ decimal number

-- the path of a new file beside the one at this path: `.NAME.NUMBER` in its folder
abbrev pub beside : List ℕ → ℕ → List ℕ
beside path number = path_with_file_name path (new_name (path_file_name path) number)
