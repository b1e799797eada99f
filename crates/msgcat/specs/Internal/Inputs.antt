-- Inputs that are read piece by piece, and the entries that they have. Internal to this crate.
use Rattle.std.specs.Prelude.{◌≡◌, ℕ, All, List, [], ◌∷◌, ◌++◌, MatchOption, None, get_or, map, ◌⊎◌, MatchResult, Result, ◌<◌, length, take}
use Rattle.std.specs.List.{AllZip}
use Rattle.po_entry.specs.Prelude.{ReadsText, IsReadFault, TextEntry, HasNoDuplicate, Repeats, are_placed, group_numbers, entry_messages, same_message, is_live, plain_entry, out_of_memory, Lacks}
use Rattle.msgcat.specs.Inputs.{Named, all_entries, NamedEntry, named}
use Rattle.po_entry.specs.declared.repeats.EntryPlace.{EntryPlace}
use Rattle.msgcat.specs.MergeInputs.{AreReadInputs, IsReadInput, unnamed, HoldInputs}
use Rattle.msgcat.specs.declared.input.ReadInput.{ReadInput}
use Rattle.msgcat.specs.declared.inputs.FileFault.{FileFault}
use Rattle.msgcat.specs.declared.inputs.ReadInputs.{ReadInputs}
use Rattle.runs.specs.Prelude.{NamedFile}
use Rattle.msgcat.specs.declared.merge_inputs.MergeInputs.{MergeInputs}
use Rattle.msgcat.specs.Msgcat.{AreReadAs, IsFileFault}

-- the entries of these inputs, and then those of a part of another
abbrev pub with_part : List Named → List TextEntry → List TextEntry
with_part read part = unnamed (all_entries read) ++ part

-- the input has the name of the file and the entries that its text reads as
pub record IsTextOf (file : NamedFile) (input : Named) : Type 0 where
  pub name : input.name ≡ file.name
  pub reads : ReadsText file.bytes input.entries

-- the first of the files isn't read
pub record IsFaultOfFirst (files : List NamedFile) (fault : FileFault) : Type 0 where
  pub file : NamedFile
  pub after : List NamedFile
  pub first : files ≡ file ∷ after
  pub name : fault.name.now ≡ file.name
  pub fault_is : IsReadFault file.bytes fault.error.kind fault.error.line

-- files are read up to the first that has a fault
pub record AreReadUpTo (files : List NamedFile) (read : ReadInputs) : Type 0 where
  pub before : List NamedFile
  pub rest : List NamedFile
  pub order : files ≡ before ++ rest
  pub inputs : List Named
  pub texts : AllZip IsTextOf before inputs
  pub part : List TextEntry
  pub holds : read.store ≡ with_part inputs part
  pub known : AreReadInputs inputs read.inputs.items
  pub end : MatchOption read.fault ((rest ≡ []) × (part ≡ [])) (IsFaultOfFirst rest)

-- these are the inputs that are read, where their entries stand and those of a part of another, and the
-- numbers of the messages of these
pub record AreNumberedInputs (read : List Named) (part : List TextEntry) (inputs : List ReadInput)
    (places : List EntryPlace) (numbers : List ℕ) : Type 0 where
  pub known : AllZip IsReadInput read inputs
  pub places_are : places ≡ are_placed is_live (with_part read part)
  pub numbers_are : numbers ≡ group_numbers same_message (entry_messages (with_part read part))

-- the first input with a duplicate
pub record IsFirstRepeating (inputs : List Named) (fault : FileFault) : Type 0 where
  pub before : List Named
  pub input : Named
  pub after : List Named
  pub order : inputs ≡ before ++ input ∷ after
  pub distinct : All (λ i. HasNoDuplicate i.entries) before
  pub name : fault.name.now ≡ input.name
  pub repeats : Repeats input.entries fault.error

abbrev pub no_entry : NamedEntry
no_entry = named [] (plain_entry None [] None [])

-- the entries with these indexes
abbrev pub entries_at : List NamedEntry → List ℕ → List NamedEntry
entries_at entries indexes = map (λ index. get_or entries index no_entry) indexes

-- the name of the input of the entry with this index
abbrev pub name_of : List Named → ℕ → List ℕ
name_of read index = (get_or (all_entries read) index no_entry).name

-- the entries of all files, or why one isn't read
abbrev pub IsReadingOf : List NamedFile → Result MergeInputs FileFault → Type 0
IsReadingOf files read =
    MatchResult read (λ held. (inputs : List Named) × AreReadAs files inputs × HoldInputs inputs held)
    (λ fault. (fault.error ≡ out_of_memory) ⊎ IsFileFault files fault.name.now fault.error)

-- the first file whose name has a NUL is at this place, and has this name
pub record IsFirstWithNul (files : List NamedFile) (place : ℕ) (name : List ℕ) : Type 0 where
  pub bytes : List ℕ
  pub after : List NamedFile
  pub inside : place < length files
  pub order : files ≡ take place files ++ record { name = name; bytes = bytes } ∷ after
  pub names : All (λ file. Lacks 0 file.name) (take place files)
  pub nul : Lacks 0 name → ⊥
