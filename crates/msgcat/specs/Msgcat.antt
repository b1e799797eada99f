-- What msgcat writes and reports (manual, "Invoking the msgcat Program").
use Rattle.std.specs.Prelude.{◌≡◌, ◌≢◌, ◌⊎◌, ℕ, All, List, [], ◌∷◌, ◌++◌, codes, refl}
use Rattle.std.specs.List.{AllZip}
use Rattle.po_syntax.specs.declared.fault.PoError.{PoError}
use Rattle.po_syntax.specs.declared.fault.PoFault.TheVariants.{ForeignCharset, OutOfMemory as NoMemory}
use Rattle.po_entry.specs.Prelude.{Lacks, HasAdmittedCharset, ReadsDistinct, IsTextFault}
use Rattle.msgcat.specs.Inputs.{Named}
use Rattle.msgcat.specs.Merged.{merged}
use Rattle.msgcat.specs.declared.input.MergeOptions.{MergeOptions}
use Rattle.runs.specs.declared.inputs.InputFault.TheVariants.{CannotOpen}
use Rattle.po_writer.specs.Prelude.{written_text}
use Rattle.runs.specs.Prelude.{text_line, input_fault_text, NamedFile, RunView, output_run, refusal}

-- a file is read as the catalogue of an input, in which no live entry repeats an earlier one
pub record IsReadAs (file : NamedFile) (input : Named) : Type 0 where
  pub name : input.name ≡ file.name
  pub reads : ReadsDistinct file.bytes input.entries

abbrev pub AreReadAs : List NamedFile → List Named → Type 0
AreReadAs files inputs = AllZip IsReadAs files inputs

-- the first file that isn't read, and why
pub record IsFileFault (files : List NamedFile) (name : List ℕ) (error : PoError) : Type 0 where
  pub before : List NamedFile
  pub file : NamedFile
  pub after : List NamedFile
  pub order : files ≡ before ++ file ∷ after
  pub inputs : List Named
  pub read : AreReadAs before inputs
  pub name_is : name ≡ file.name
  pub fault : IsTextFault file.bytes error

-- the line that reports a fault of a file
abbrev pub msgcat_line : List ℕ → PoError → List ℕ
msgcat_line name error = text_line (codes "msgcat") name error

-- the status of one that is refused is 1; that of any other is 0 (`output_status`)
pub refused_status : (name : List ℕ) (error : PoError) → (refusal (msgcat_line name error)).status ≡ 1
refused_status name error = refl

-- a file isn't read, which is reported of the first such file
pub record IsUnread (files : List NamedFile) (run : RunView) : Type 0 where
  pub name : List ℕ
  pub error : PoError
  pub fault : IsFileFault files name error
  pub not_memory : error.kind ≢ NoMemory
  pub run_is : run ≡ refusal (msgcat_line name error)

abbrev pub first_name : List NamedFile → List ℕ
first_name [] = []
first_name (file ∷ files) = file.name

-- the files are read, and a merged header names a charset that isn't admitted, which is reported
-- with the first file's name
pub record IsForeign (files : List NamedFile) (o : MergeOptions) (run : RunView) : Type 0 where
  pub inputs : List Named
  pub read : AreReadAs files inputs
  pub foreign : All HasAdmittedCharset (merged o inputs) → ⊥
  pub run_is : run ≡ refusal (msgcat_line (first_name files) (record { kind = ForeignCharset; line = 0 }))

-- the files are read, each merged header's charset is admitted, and what they are merged to is written
pub record IsMerged (files : List NamedFile) (o : MergeOptions) (run : RunView) : Type 0 where
  pub inputs : List Named
  pub read : AreReadAs files inputs
  pub admitted : All HasAdmittedCharset (merged o inputs)
  pub run_is : run ≡ output_run (written_text (merged o inputs))

-- what a run of msgcat comes to
abbrev pub IsMsgcatRun : List NamedFile → MergeOptions → RunView → Type 0
IsMsgcatRun files o run = IsUnread files run ⊎ (IsForeign files o run ⊎ IsMerged files o run)

-- The first file whose name has a NUL can't be opened. That is said of it where all before it are read.
pub record HasNulName (files : List NamedFile) (text : List ℕ) : Type 0 where
  pub before : List NamedFile
  pub file : NamedFile
  pub after : List NamedFile
  pub order : files ≡ before ++ file ∷ after
  pub names : All (λ file. Lacks 0 file.name) before
  pub nul : Lacks 0 file.name → ⊥
  pub inputs : List Named
  pub read : AreReadAs before inputs
  pub text_is : text ≡ input_fault_text file.name CannotOpen

-- where a name has a NUL, a file before that one isn't read
abbrev pub IsUnreadBeforeNul : List NamedFile → RunView → Type 0
IsUnreadBeforeNul files run = (before : List NamedFile) (file : NamedFile) (after : List NamedFile)
    → files ≡ before ++ file ∷ after → (Lacks 0 file.name → ⊥) → IsUnread before run
