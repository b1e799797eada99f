-- The catalogues of a text domain that are read (manual, "Locating Message Catalog Files"): those
-- that can be, in the order in which they are asked for.
use Rattle.std.specs.Prelude.{◌≡◌, ◌≢◌, ◌⊎◌, ℕ, List, [], ◌∷◌, map, Option, None, Some, IsUtf8, string_bytes}
use Rattle.gettext.specs.Paths.{paths_of}
use Rattle.gettext.specs.Environment.{IsEnvironment, environment_view}
use Rattle.gettext.specs.declared.candidates.Environment.{Environment}
use Rattle.gettext.specs.declared.catalogues.CatalogueFile.{CatalogueFile}
use Rattle.runs.specs.declared.inputs.InputFault.{InputFault}
use Rattle.runs.specs.declared.inputs.InputFault.TheVariants.{OutOfMemory}
use Rattle.runs.specs.Prelude.{Asked, Asks, Reading, NamedFile}
use Rattle.runs.specs.Inputs.{gives, refuses, file_of}

-- what contracts see of a catalogue's file
abbrev pub catalogue_file : CatalogueFile → NamedFile
catalogue_file file = record { name = string_bytes file.path; bytes = file.bytes.items }

abbrev pub catalogue_files : List CatalogueFile → List NamedFile
catalogue_files files = map catalogue_file files

-- what is at a path: a catalogue with its bytes; or none, where the path isn't UTF-8, or the file
-- can't be opened or read
abbrev pub IsCatalogueAt : (List ℕ → Reading → Type 0) → List ℕ → Option NamedFile → Type 0
IsCatalogueAt file path None = (IsUtf8 path → ⊥) ⊎ ((why : InputFault) × (why ≢ OutOfMemory) × file path (refuses why))
IsCatalogueAt file path (Some catalogue) = (catalogue.name ≡ path) × file path (gives catalogue.bytes)

-- the catalogues at these paths, in order
pub data AreCatalogues (file : List ℕ → Reading → Type 0) : List (List ℕ) → List NamedFile → Type 0 where
  done : AreCatalogues file [] []
  found : {path : List ℕ} {paths : List (List ℕ)} {catalogue : NamedFile} {catalogues : List NamedFile}
      → IsCatalogueAt file path (Some catalogue) → AreCatalogues file paths catalogues
      → AreCatalogues file (path ∷ paths) (catalogue ∷ catalogues)
  skipped : {path : List ℕ} {paths : List (List ℕ)} {catalogues : List NamedFile}
      → IsCatalogueAt file path None → AreCatalogues file paths catalogues
      → AreCatalogues file (path ∷ paths) catalogues

-- what is asked for at a path: its file, and nothing where the path isn't UTF-8
abbrev pub AsksAt : Option (List Asked) → Option (List Asked) → List ℕ → Type 0
AsksAt before after path = Asks before after (file_of path ∷ []) ⊎ ((IsUtf8 path → ⊥) × (after ≡ before))

-- what is asked for at these paths, in order
pub data AsksPaths : Option (List Asked) → List (List ℕ) → Option (List Asked) → Type 0 where
  none : {now : Option (List Asked)} → AsksPaths now [] now
  next : {before between after : Option (List Asked)} {path : List ℕ} {paths : List (List ℕ)}
      → AsksAt before between path → AsksPaths between paths after → AsksPaths before (path ∷ paths) after

-- what a search for catalogues asks of a system: what each variable and each file may be read as, and
-- what was asked for before the search and after it
pub record Searching : Type 1 where
  pub variable : List ℕ → Option (List ℕ) → Type 0
  pub file : List ℕ → Reading → Type 0
  pub before : Option (List Asked)
  pub after : Option (List Asked)

abbrev pub searching : (List ℕ → Option (List ℕ) → Type 0) → (List ℕ → Reading → Type 0)
    → (before after : Option (List Asked)) → Searching
searching variable file before after = record { variable = variable; file = file; before = before; after = after }

-- the text domain that an argument and the option `-d` give, where they do
pub record GivenDomain : Type 0 where
  pub argument : Option (List ℕ)
  pub option : Option (List ℕ)

abbrev pub given_domain : (argument option : Option (List ℕ)) → GivenDomain
given_domain argument option = record { argument = argument; option = option }

-- the catalogues of a text domain: those at the paths that the environment's variables choose
pub record AreFound (system : Searching) (domain : GivenDomain) (catalogues : List NamedFile) : Type 0 where
  pub environment : Environment
  pub is_read : IsEnvironment system.variable (environment_view environment)
  pub are_read : AreCatalogues system.file (paths_of domain.argument domain.option environment) catalogues
  pub asked : AsksPaths system.before (paths_of domain.argument domain.option environment) system.after
