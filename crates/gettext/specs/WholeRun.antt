-- What gettext and ngettext do as a whole: they look for the catalogues of a text domain, and write
-- their run of those that are read (manual, "Invoking the gettext program" and "Invoking the ngettext program").
use Rattle.std.specs.Prelude.{◌≡◌, ◌-◌, ◌^◌, ℕ, List, Result, Err, codes, take}
use Rattle.runs.specs.declared.program_fault.ProgramFault.{ProgramFault}
use Rattle.runs.specs.declared.program_fault.ProgramFault.TheVariants.{OutOfMemory}
use Rattle.runs.specs.Prelude.{NamedFile, SystemView, RunView, Writes}
use Rattle.gettext.specs.Catalogues.{AreFound, Searching}
use Rattle.gettext.specs.Plan.{IsLookUpRun}
use Rattle.gettext.specs.Arguments.{CommandView}

-- how many catalogues a chain counts at most
abbrev pub catalogue_limit : ℕ
catalogue_limit = 2 ^ 32 - 1

-- What a tool does that looks messages up in a text domain; a chain counts at most 4,294,967,295
-- catalogues.
pub data RunsLookUp (system : Searching) (command : CommandView) (before after : SystemView)
    : Result ℕ ProgramFault → Type 0 where
  -- the run is written to standard output, or isn't
  runs : {catalogues : List NamedFile} {run : RunView} {result : Result ℕ ProgramFault}
      → AreFound system command.domain catalogues → IsLookUpRun (take catalogue_limit catalogues) command.request run
      → Writes run (codes "-") before after result → RunsLookUp system command before after result
  -- reading or planning takes more memory than there is, and nothing is written
  no_memory : after ≡ before → RunsLookUp system command before after (Err OutOfMemory)
