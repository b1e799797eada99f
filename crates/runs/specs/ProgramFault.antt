-- The lines on standard error that report the faults of the program itself: this project's own
-- words, since the manual leaves them open.
use Rattle.std.specs.Prelude.{ℕ, List, [], ◌∷◌, ◌++◌, Option, Some, None, codes}
use Rattle.runs.specs.declared.tool_fault.ToolFault.{ToolFault}
use Rattle.runs.specs.declared.tool_fault.ToolFault.TheVariants.{ReadFault as NotRead, WriteFault as NotWritten}
use Rattle.runs.specs.declared.tool_fault.ToolFault.TheVariants.{OutOfMemory as NoMemory}
use Rattle.runs.specs.declared.program_fault.ProgramFault.{ProgramFault}
use Rattle.runs.specs.declared.program_fault.ProgramFault.TheVariants.{NotText, WrongArguments, CannotOpen}
use Rattle.runs.specs.declared.program_fault.ProgramFault.TheVariants.{CannotCreate, ReadFault, WriteFault}
use Rattle.runs.specs.declared.program_fault.ProgramFault.TheVariants.{OutOfMemory}

-- what is wrong, after the name of the file if it is the fault of one
abbrev pub program_text : ProgramFault → List ℕ
program_text NotText = codes "arguments are not UTF-8"
program_text WrongArguments = codes "wrong number of arguments"
program_text (CannotOpen file) = file.now ++ codes ": cannot open"
program_text (CannotCreate file) = file.now ++ codes ": cannot create"
program_text (ReadFault file) = file.now ++ codes ": read fault"
program_text WriteFault = codes "write fault"
program_text OutOfMemory = codes "out of memory"

-- `pokit TOOL: `, or `pokit: ` before a tool is known
abbrev pub tool_prefix : Option (List ℕ) → List ℕ
tool_prefix None = codes "pokit: "
tool_prefix (Some tool) = codes "pokit " ++ tool ++ codes ": "

-- the line that reports a fault
abbrev pub program_line : Option (List ℕ) → ProgramFault → List ℕ
program_line tool fault = tool_prefix tool ++ program_text fault ++ 10 ∷ []

-- what a tool reports that reads standard input by itself
abbrev pub stdin_text : ToolFault → List ℕ
stdin_text NotRead = codes "<stdin>: read fault"
stdin_text NotWritten = codes "write fault"
stdin_text NoMemory = codes "out of memory"
