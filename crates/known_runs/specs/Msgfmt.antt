-- What `msgfmt a.po -o a.mo` comes to (manual, "Invoking the msgfmt Program").
use Rattle.std.specs.Prelude.{◌≡◌, ◌≢◌, ◌<◌, ℕ, List, [], ◌∷◌, Option, Some, Ok, Err, codes, false}
use Rattle.mo_file.specs.declared.byte_order.Order.TheVariants.{Little}
use Rattle.msgfmt.specs.Prelude.{join_line}
use Rattle.po_compile.specs.Prelude.{AreRead, IsCompileFault, IsCompilation}
use Rattle.po_compile.specs.declared.options.Compiled.{Compiled}
use Rattle.po_compile.specs.declared.options.Options.{Options}
use Rattle.po_entry.specs.Prelude.{TextEntry, joined_entries}
use Rattle.po_entry.specs.declared.duplicate.JoinError.{JoinError}
use Rattle.po_syntax.specs.declared.fault.PoFault.TheVariants.{OutOfMemory}
use Rattle.runs.specs.Prelude.{program_text}
use Rattle.runs.specs.declared.program_fault.ProgramFault.{ProgramFault}
use Rattle.known_system.specs.Prelude.{IsFileFault, Leads, Links}
use Rattle.known_runs.specs.Ends.{End, end}

-- the options of a command line without any
abbrev pub plain : Options
plain = record { use_fuzzy = false; order = Little }

-- the compiled file of a text
pub record IsCompiledFrom (text : List ℕ) (compiled : Compiled) : Type 0 where
  pub catalogues : List (List TextEntry)
  pub read : AreRead (text ∷ []) catalogues
  pub is : IsCompilation plain (joined_entries catalogues) compiled

-- what it comes to, by the text of `a.po` and what `a.mo` was before
pub data EndsMsgfmt (text : List ℕ) (old : Option (List ℕ)) : End → Type 0 where
  -- `a.mo` is the compiled file of the text, and nothing is told
  compiled : {made : Compiled} → IsCompiledFrom text made → 0 < made.n
      → EndsMsgfmt text old (end (Ok 0) (Some made.bytes.items) [] [])
  -- the text has no message to compile: `a.mo` is as it was
  empty : {made : Compiled} → IsCompiledFrom text made → made.n ≡ 0 → EndsMsgfmt text old (end (Ok 0) old [] [])
  -- the text isn't compiled: `a.mo` is as it was, and the line of its first fault is told
  refused : {error : JoinError} → IsCompileFault plain (text ∷ []) error → error.error.kind ≢ OutOfMemory
      → EndsMsgfmt text old (end (Ok 1) old [] (join_line (codes "a.po" ∷ []) error))
  -- memory or the folder is too small: `a.mo` is as it was, and nothing is told
  failed : {fault : ProgramFault} → IsFileFault (codes "a.mo") (program_text fault)
      → EndsMsgfmt text old (end (Err fault) old [] [])

-- The same in a folder with these links, of which `a.mo` may be one: `old` is what the file at this place
-- was before.
pub data EndsThroughLinks (links : Links) (place text : List ℕ) (old : Option (List ℕ)) (is : End) : Type 0 where
  -- `a.mo` leads to the place, through 40 links at most: it is as if the place were named
  led : Leads links 40 (codes "a.mo") place → EndsMsgfmt text old is → EndsThroughLinks links place text old is
  -- it leads elsewhere, or nowhere: what is at the place is as it was
  elsewhere : ¬ Leads links 40 (codes "a.mo") place → is.file ≡ old → EndsThroughLinks links place text old is
