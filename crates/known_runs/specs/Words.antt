-- The words of a command line, by the names of its arguments.
use Rattle.std.specs.Prelude.{ℕ, List, [], ◌∷◌, Option, Some, None, codes, map, if◌then◌else◌, ◌≡◌, Result, false}
use Rattle.std.specs.Option.{option_copied}
use Rattle.std.specs.Str.{bytes_eq}
use Rattle.known_runs.specs.declared.words.Words.{Words}
use Rattle.runs.specs.Inputs.{gives}
use Rattle.runs.specs.Prelude.{SystemView, system, writer}
use Rattle.runs.specs.declared.program_fault.ProgramFault.{ProgramFault}
use Rattle.runs.specs.declared.tool.Tool.{Tool}
use Rattle.po_tools.specs.Prelude.{Answers, CommandLine, RunsTool, answers_of, line_of, reached, reader_of}
use Rattle.known_system.specs.declared.files.KnownFiles.{KnownFiles}
use Rattle.known_system.specs.declared.source.KnownSource.{KnownSource}
use Rattle.known_system.specs.Prelude.{bytes_of, entry_texts, reading_of, texts_by_name}
use Rattle.known_runs.specs.declared.in_memory.Reached.{Reached}

abbrev pub operands_of : Words → List (List ℕ)
operands_of words = map (λ operand. operand.now) words.operands.now

abbrev pub first_of : List (List ℕ) → Option (List ℕ)
first_of [] = None
first_of (operand ∷ operands) = Some operand

-- `-o` has its text, and an argument for one FILE is the first operand
abbrev pub text_of : Words → List ℕ → Option (List ℕ)
text_of words name =
    if bytes_eq name (codes "output-file") then option_copied words.output
    else if bytes_eq name (codes "FILE") then first_of (operands_of words) else None

-- What a tool does over a known system.

-- the words of a command line, as a tool asks for them
abbrev pub line_in : Words → CommandLine
line_in words =
    line_of (λ name given. given ≡ false) (λ name text. text ≡ text_of words name)
    (λ name texts. texts ≡ operands_of words) (λ name number. number ≡ None)

-- what a known source answers
abbrev pub answers_in : KnownSource → Answers
answers_in source =
    answers_of (λ name reading. reading ≡ reading_of (bytes_of (texts_by_name source.files.now) name))
    (λ reading. reading ≡ gives source.standard.now)
    (λ name value. value ≡ bytes_of (texts_by_name source.variables.now) name)
    (λ entries. entries ≡ entry_texts source.entries.now)

-- the system before a run: nothing was written on its streams
abbrev pub system_before : KnownFiles → SystemView
system_before files = system (Some files.history.calls) (writer (Some []) 0) (writer (Some []) 0)

-- the system after it
abbrev pub system_after : Reached → SystemView
system_after r =
    system (Some r.files.history.calls) (writer (Some r.out.said.bytes) 0) (writer (Some r.err.said.bytes) 0)

-- the tool is run by these words, where standard input is read in blocks too
pub record RunsInMemory (tool : Tool) (words : Words) (before after : KnownSource) (files : KnownFiles)
    (r : Reached) (result : Result ℕ ProgramFault) : Type 0 where
  -- what is left of standard input, and how often the reader was called and failed
  pub left : List ℕ
  pub calls : ℕ
  pub failures : ℕ
  pub runs : RunsTool tool (line_in words) (answers_in before) ⊥
      (reached (Some before.asked.items) (reader_of (Some before.standard.now) 0 0) (system_before files))
      (reached (Some after.asked.items) (reader_of (Some left) calls failures) (system_after r)) result
