-- What the program does by its arguments.
use Rattle.std.specs.Prelude.{◌≡◌, ◌≢◌, true, ℕ, List, Option, None, Some, Result, option_map, slice_get}
use Rattle.clap.specs.Matches.{found_of, subcommand_name_of}
use Rattle.clap.specs.Simple.{HasMatchesOf, app_of, subcommand_rows}
use Rattle.clap.specs.Takes.{takes}
use Rattle.clap.specs.Walk.{rows_of}
use Rattle.clap.specs.declared.builder.command.Command.{Command}
use Rattle.clap.specs.declared.parser.matches.ArgMatches.{ArgMatches}
use Rattle.clap.specs.declared.parser.matches.ArgMatches.TheViews.{out-ArgMatches}
use Rattle.command_line.specs.Prelude.{OffersTools, offered_tools, reworded, spelled_out}
use Rattle.po_tools.specs.Prelude.{Answers, CommandLine, Reached, RunsTool}
use Rattle.runs.specs.Prelude.{SystemView, WriterView, tool_name}
use Rattle.runs.specs.declared.program_fault.ProgramFault.{ProgramFault}
use Rattle.runs.specs.declared.run.Ending.{Ending}
use Rattle.runs.specs.declared.run.Ending.TheVariants.{Refused}
use Rattle.runs.specs.declared.tool.Tool.{Tool}
use Rattle.runs.specs.declared.program_fault.ProgramFault.TheVariants.{OutOfMemory, NotText}
use Rattle.process.specs.Endings.{Ends, GivesHelp, Puts, Reports}
use Rattle.process.specs.Options.{line_in}
use Rattle.process.specs.Value.{AreArguments, HasNoText}

-- a tool runs, and what it comes to is reported and is the ending
pub record EndsTool (tool : Tool) (line : CommandLine) (answers : Answers) (refused : Type 0) (before after : Reached)
    (errors told : WriterView) (ending : Ending) : Type 0 where
  pub result : Result ℕ ProgramFault
  pub runs : RunsTool tool line answers refused before after result
  pub ends : Ends tool result errors told ending

-- the first argument names this tool, or none
abbrev pub IsFirst : List (List ℕ) → Option Tool → Type 0
IsFirst words None = (tool : Tool) → slice_get words 1 ≡ Some (tool_name tool) → ⊥
IsFirst words (Some tool) = slice_get words 1 ≡ Some (tool_name tool)

-- help is written to standard output, or what is wrong to standard error, with its text reworded
pub data Explains (first : Option Tool) (text : List ℕ) (before after : SystemView) : Ending → Type 0 where
  helps : {ending : Ending} → GivesHelp text before.out after.out ending → after.err ≡ before.err
      → after.files ≡ before.files → Explains first text before after ending
  refuses : Puts (reworded first text) before.err after.err → after.out ≡ before.out
      → after.files ≡ before.files → Explains first text before after Refused

-- what clap finds in the words of a command line, by the commands that are offered to it
pub record IsFoundIn (words : List (List ℕ)) (found : ArgMatches) : Type 0 where
  pub first : Option Tool
  pub named : IsFirst words first
  pub program : Command
  pub offers : OffersTools (offered_tools first) program
  pub matches : HasMatchesOf (app_of program) words found

-- clap doesn't take the words of a command line, by the commands that are offered to it
pub record AreRefused (first : Option Tool) (words : List (List ℕ)) : Type 0 where
  pub program : Command
  pub offers : OffersTools (offered_tools first) program
  pub refused : takes (app_of program) words ≢ true

-- what was found names this tool, and these are its options and arguments
pub record NamesTool (found : ArgMatches) (tool : Tool) (given : ArgMatches) : Type 0 where
  pub name : subcommand_name_of found ≡ Some (tool_name tool)
  pub options : Some (rows_of (found_of given))
      ≡ option_map (λ p. p.1) (subcommand_rows (out-ArgMatches found).subcommand)

-- what was found names no tool
abbrev pub NamesNone : ArgMatches → Type 0
NamesNone found = (tool : Tool) → subcommand_name_of found ≡ Some (tool_name tool) → ⊥

-- What the words of a command line come to: the tool that they name runs; or clap doesn't take them, and its text is
-- told; or memory is out, before a tool ran; or clap found words that name no tool, and nothing is told.
pub data RunsWords {E : Type 0} (gives : List ℕ → Result ℕ E → Type 0) (answers : Answers) (refused : Type 0)
    (words : List (List ℕ)) (before after : Reached) (errors told : WriterView) : Ending → Type 0 where
  runs : {found given : ArgMatches} {tool : Tool} {ending : Ending} → IsFoundIn words found → NamesTool found tool given
      → EndsTool tool (line_in gives (found_of given)) answers refused before after errors told ending
      → RunsWords gives answers refused words before after errors told ending
  explains : (first : Option Tool) (text : List ℕ) {ending : Ending} → IsFirst words first
      → AreRefused first words → Explains first text before.written after.written ending → after.asked ≡ before.asked
      → after.reader ≡ before.reader
      → told ≡ errors → RunsWords gives answers refused words before after errors told ending
  lacks_memory : (first : Option Tool) → IsFirst words first → Reports first OutOfMemory errors told → after ≡ before
      → RunsWords gives answers refused words before after errors told Refused
  names_none : {found : ArgMatches} → IsFoundIn words found
      → NamesNone found → after ≡ before → told ≡ errors
      → RunsWords gives answers refused words before after errors told Refused

-- What the program does: its arguments can't be had, or memory is out before they are words of a command line, or
-- these words come to something.
pub data RunsProgram {E : Type 0} (gives : List ℕ → Result ℕ E → Type 0) (argument : ℕ → Option (List ℕ) → Type 0)
    (answers : Answers) (refused : Type 0) (before after : Reached) (errors told : WriterView) : Ending → Type 0 where
  lacks_words : Reports None OutOfMemory errors told → after ≡ before
      → RunsProgram gives argument answers refused before after errors told Refused
  lacks_text : HasNoText argument → Reports None NotText errors told → after ≡ before
      → RunsProgram gives argument answers refused before after errors told Refused
  words : {arguments : List (List ℕ)} {ending : Ending} → AreArguments argument arguments
      → RunsWords gives answers refused (spelled_out arguments) before after errors told ending
      → RunsProgram gives argument answers refused before after errors told ending
