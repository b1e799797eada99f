-- What a known system holds, and what writing a run leaves in it.
use Rattle.std.specs.Prelude.{◌≡◌, ℕ, suc, List, [], ◌∷◌, Option, Some, None, codes, refl, ◌⊎◌, ◌++◌, true, Result, Ok, Err}
use Rattle.runs.specs.Prelude.{link_target, FileCall, SystemView, link_limit, writer, program_text, RunView, output_file}
use Rattle.known_system.specs.Replay.{Links, Place, bytes_at, folder, is_free, nothing, replay, Folder}
use Rattle.known_system.specs.Source.{bytes_of}
use Rattle.runs.specs.declared.program_fault.ProgramFault.{ProgramFault}
use Rattle.runs.specs.declared.output_files.OutputFault.{OutputFault}

-- Where a path leads through the links of a folder.

-- the path that it leads to through so many links at most, if it does
pub data Leads (links : Links) : ℕ → List ℕ → List ℕ → Type 0 where
  there : {limit : ℕ} {path : List ℕ} → bytes_of links path ≡ None → Leads links limit path path
  follows : {limit : ℕ} {path text target : List ℕ} → bytes_of links path ≡ Some text
      → Leads links limit (link_target path text) target → Leads links (suc limit) path target

-- a path that is no link leads to itself, and one that is leads where its text says, if that is none
pub no_link : Leads [] 0 (codes "a.mo") (codes "a.mo")
no_link = there refl

pub one_link : {links : Links} {path text : List ℕ} → bytes_of links path ≡ Some text
    → bytes_of links (link_target path text) ≡ None → Leads links 1 path (link_target path text)
one_link is none = follows is (there none)

-- more links than are followed lead nowhere
pub too_many : (target : List ℕ) → ¬ Leads ((codes "a.mo", codes "b.mo") ∷ []) 0 (codes "a.mo") target
too_many target (there none) = cc

-- the links and the file that are there, and what standard output and standard error took
pub record Contents : Type 0 where
  pub links : Links
  pub held : Place
  pub out : List ℕ
  pub err : List ℕ

abbrev pub contents : Links → Place → (out err : List ℕ) → Contents
contents links held out err = record { links = links; held = held; out = out; err = err }

-- what a system holds, by all its calls; no call of its writers failed
pub record Holds (system : SystemView) (contents : Contents) : Type 0 where
  pub calls : List FileCall
  pub fresh : Place
  pub files_are : system.files ≡ Some calls
  pub held_is : replay calls nothing ≡ Some (folder contents.links contents.held fresh)
  pub out_is : system.out ≡ writer (Some contents.out) 0
  pub err_is : system.err ≡ writer (Some contents.err) 0

-- what is wrong, where a known system can't write a file: memory, or its folder
abbrev pub IsFileFault : List ℕ → List ℕ → Type 0
IsFileFault argument text =
    (text ≡ codes "out of memory") ⊎ (text ≡ argument ++ codes ": cannot create") ⊎ (text ≡ codes "write fault")

-- what writing a run leaves, by the argument for its output
pub data Leaves (run : RunView) (argument : List ℕ) (old new : Contents) : Result ℕ ProgramFault → Type 0 where
  -- all of the output is where the path of the file leads, where no other file was, and all messages are told
  filed : {path target : List ℕ} → output_file run argument ≡ Some path → Leads old.links link_limit path target
      → is_free old.held target ≡ true → bytes_at target new.held ≡ Some run.output → new.links ≡ old.links
      → new.out ≡ old.out → new.err ≡ old.err ++ run.messages
      → Leaves run argument old new (Ok run.status)
  -- all of the output is on standard output, all messages are told, and the file is as it was
  printed : output_file run argument ≡ None → new.links ≡ old.links
      → new.held ≡ old.held → new.out ≡ old.out ++ run.output → new.err ≡ old.err ++ run.messages
      → Leaves run argument old new (Ok run.status)
  -- the file can't be written: it is as it was, and nothing is told
  left : {path : List ℕ} {fault : ProgramFault} → output_file run argument ≡ Some path
      → IsFileFault argument (program_text fault) → new ≡ old → Leaves run argument old new (Err fault)

-- What an output leaves in the small folder: all of it where its path leads, where no other file is
-- there, or the file that was there.

pub data Left (output : List ℕ) (limit : ℕ) (path : List ℕ) (links : Links) (held : Place) (new : Folder)
    : Option OutputFault → Type 0 where
  whole : {target : List ℕ} → Leads links limit path target → is_free held target ≡ true
      → bytes_at target new.held ≡ Some output → new.links ≡ links → Left output limit path links held new None
  kept : {why : OutputFault} → new.held ≡ held → new.links ≡ links
      → Left output limit path links held new (Some why)
