-- What the files, standard input and the environment of a known system give.
use Rattle.std.specs.Prelude.{ℕ, List, [], ◌∷◌, Option, Some, None, map, if◌then◌else◌}
use Rattle.std.specs.Borrow.{Bor}
use Rattle.std.specs.Str.{bytes_eq}
use Rattle.runs.specs.declared.inputs.InputFault.TheVariants.{CannotOpen}
use Rattle.runs.specs.Prelude.{Reading}
use Rattle.runs.specs.Inputs.{gives, refuses}
use Rattle.known_system.specs.declared.source.Named.{Named}

abbrev pub texts_by_name : List Named → List (List ℕ × List ℕ)
texts_by_name all = map (λ one. (one.name.now, one.bytes.now)) all

abbrev pub entry_texts : List (Bor (List ℕ)) → List (List ℕ)
entry_texts entries = map (λ entry. entry.now) entries

-- the bytes of the first with this name
abbrev pub bytes_of : List (List ℕ × List ℕ) → List ℕ → Option (List ℕ)
bytes_of [] name = None
bytes_of (one ∷ others) name = if bytes_eq one.0 name then Some one.1 else bytes_of others name

-- what reading a file comes to that has these bytes, or isn't there
abbrev pub reading_of : Option (List ℕ) → Reading
reading_of None = refuses CannotOpen
reading_of (Some bytes) = gives bytes
