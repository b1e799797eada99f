-- A file of the system in memory.
use Rattle.std.specs.Prelude.{Option, Some, None, ℕ, List, map}
use Rattle.std.specs.String.{string_bytes}
use Rattle.known_system.specs.declared.stored.Stored.{Stored}
use Rattle.known_system.specs.Replay.{Place}
use Rattle.runs.specs.Prelude.{FileCall}
use Rattle.runs.specs.OutputFiles.{reads_link}
use Rattle.known_system.specs.declared.stored.Link.{Link}

abbrev pub stored : Option Stored → Place
stored None = None
stored (Some file) = Some (string_bytes file.path, file.bytes.items)

-- The links of a folder, each with its path and its text.

abbrev pub links_by_path : List Link → List (List ℕ × List ℕ)
links_by_path links = map (λ link. (link.path.now, link.to.now)) links

-- the calls that tell of them
abbrev pub tellings : List Link → List FileCall
tellings links = map (λ link. reads_link link.path.now (Some link.to.now)) links
