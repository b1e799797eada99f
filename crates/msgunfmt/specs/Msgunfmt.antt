-- What msgunfmt writes and reports (manual, "Invoking the msgunfmt Program").
use Rattle.std.specs.Prelude.{◌≡◌, ◌≢◌, ◌⊎◌, ℕ, List, codes, decimal, ◌++◌, refl}
use Rattle.msgunfmt.specs.Unformatted.{IsUnformatted, IsUnformatFault}
use Rattle.msgunfmt.specs.declared.fault.UnformatError.{UnformatError}
use Rattle.msgunfmt.specs.declared.fault.UnformatError.TheVariants.{Mo, NotUtf8, ForbiddenByte, ForeignCharset, OutOfMemory}
use Rattle.runs.specs.Prelude.{fault_line, mo_text, NamedFile, RunView, output_run, refusal}

-- why a file has no PO text
abbrev pub unformat_text : UnformatError → List ℕ
unformat_text (Mo fault) = mo_text fault
unformat_text (NotUtf8 i) = codes "string " ++ decimal i ++ codes " is not UTF-8"
unformat_text (ForbiddenByte i) = codes "string " ++ decimal i ++ codes " has a forbidden byte"
unformat_text ForeignCharset = codes "charset is not UTF-8"
unformat_text OutOfMemory = codes "out of memory"

-- the line that reports it
abbrev pub unformat_line : List ℕ → UnformatError → List ℕ
unformat_line name error = fault_line (codes "msgunfmt") name 0 (unformat_text error)

-- the status of a file that has no text is 1; that of one that has a text is 0 (`output_status`)
pub refused_status : (name : List ℕ) (error : UnformatError) → (refusal (unformat_line name error)).status ≡ 1
refused_status name error = refl

-- the file has no text
pub record HasNoText (file : NamedFile) (run : RunView) : Type 0 where
  pub error : UnformatError
  pub fault : IsUnformatFault file.bytes error
  pub not_memory : error ≢ OutOfMemory
  pub run_is : run ≡ refusal (unformat_line file.name error)

-- the file has a text
pub record HasText (file : NamedFile) (run : RunView) : Type 0 where
  pub text : List ℕ
  pub unformatted : IsUnformatted file.bytes text
  pub run_is : run ≡ output_run text

-- what a run of msgunfmt comes to
abbrev pub IsMsgunfmtRun : NamedFile → RunView → Type 0
IsMsgunfmtRun file run = HasNoText file run ⊎ HasText file run

-- what a run of msgunfmt on a file with this name comes to
abbrev pub IsMsgunfmtRunOf : List ℕ → List ℕ → RunView → Type 0
IsMsgunfmtRunOf name bytes run = IsMsgunfmtRun (record { name = name; bytes = bytes }) run
