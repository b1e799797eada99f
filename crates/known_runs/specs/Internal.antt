-- What the clauses of private functions cite.
use Rattle.std.specs.Prelude.{◌≡◌, ℕ, List, [], ◌∷◌, Option, Result, Err, codes, option_map}
use Rattle.mo_lookup.specs.Prelude.{Query}
use Rattle.runs.specs.Prelude.{RunView, Writes}
use Rattle.runs.specs.declared.program_fault.ProgramFault.{ProgramFault}
use Rattle.runs.specs.declared.program_fault.ProgramFault.TheVariants.{OutOfMemory}
use Rattle.runs.specs.declared.tool.Tool.{Tool}
use Rattle.runs.specs.declared.tool.Tool.TheVariants.{Gettext, Ngettext}
use Rattle.po_tools.specs.Prelude.{Reached, RunsTool}
use Rattle.known_system.specs.Prelude.{Contents, Leaves, Links, bytes_at, contents, texts_by_name}
use Rattle.known_system.specs.declared.source.KnownSource.{KnownSource}
use Rattle.known_runs.specs.declared.words.Words.{Words}
use Rattle.known_runs.specs.Ends.{End, end}
use Rattle.known_runs.specs.LookUps.{counted, message}
use Rattle.known_runs.specs.Words.{answers_in, line_in}

-- A tool is run by these words over files with these names and bytes. The folder and the streams hold
-- `old` before it and `new` after it.
pub record RunsOverFiles (tool : Tool) (words : Words) (files : List (List ℕ × List ℕ)) (old new : Contents)
    (result : Result ℕ ProgramFault) : Type 0 where
  pub source : KnownSource
  pub before : Reached
  pub after : Reached
  pub files_are : texts_by_name source.files.now ≡ files
  pub runs : RunsTool tool (line_in words) (answers_in source) ⊥ before after result
  -- a run that is written leaves all or nothing, and where nothing is written all is as it was
  pub leaves : (argument : List ℕ) (run : RunView) (written : Result ℕ ProgramFault)
      → Writes run argument before.written after.written written → Leaves run argument old new written
  pub same : after.written ≡ before.written → new ≡ old

-- What it comes to in a folder with these links, where the file at this place held these bytes or wasn't
-- there.
pub data EndsOverFiles (tool : Tool) (words : Words) (files : List (List ℕ × List ℕ)) (links : Links)
    (place : List ℕ) (old : Option (List ℕ)) : End → Type 0 where
  started : {new : Contents} {result : Result ℕ ProgramFault}
      → RunsOverFiles tool words files (contents links (option_map (λ bytes. (place, bytes)) old) [] []) new result
      → EndsOverFiles tool words files links place old (end result (bytes_at place new.held) new.out new.err)
  -- memory lacks before it starts
  unstarted : EndsOverFiles tool words files links place old (end (Err OutOfMemory) old [] [])

-- what a tool is asked for by these operands in the domain `hello`
pub data AsksFor (operands : List (List ℕ)) : Tool → Query → Type 0 where
  a_message : {id : List ℕ} → operands ≡ codes "hello" ∷ id ∷ [] → AsksFor operands Gettext (message id)
  a_form : {id plural count : List ℕ} → operands ≡ codes "hello" ∷ id ∷ plural ∷ count ∷ []
      → AsksFor operands Ngettext (counted id plural count)
