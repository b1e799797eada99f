-- What the program writes itself, beside what its tools write, and how it ends then.
use Rattle.std.specs.Prelude.{◌≡◌, ◌⊎◌, ◌+◌, ℕ, true, false, List, Option, Some, option_map, Result, Ok, Err}
use Rattle.runs.specs.Prelude.{Fails, Takes, WriterView, program_line, tool_name}
use Rattle.runs.specs.declared.program_fault.ProgramFault.{ProgramFault}
use Rattle.runs.specs.declared.run.Ending.{Ending}
use Rattle.runs.specs.declared.run.Ending.TheVariants.{Ran, Helped, Refused}
use Rattle.runs.specs.declared.tool.Tool.{Tool}

-- a writer took all of these bytes, or a prefix before a call failed
abbrev pub Puts : List ℕ → WriterView → WriterView → Type 0
Puts bytes before after = Takes before after bytes ⊎ Fails before after bytes

-- a fault is reported by its line, or a call of the writer failed
abbrev pub Reports : Option Tool → ProgramFault → WriterView → WriterView → Type 0
Reports tool fault before after =
    Takes before after (program_line (option_map tool_name tool) fault) ⊎ (after.failures ≡ before.failures + 1)

-- help was written, and the ending says whether all of it was
abbrev pub GivesHelp : List ℕ → WriterView → WriterView → Ending → Type 0
GivesHelp text before after (Helped true) = Takes before after text
GivesHelp text before after (Helped false) = Fails before after text
GivesHelp text before after _ = ⊥

-- what is told, and the ending, by the result of a tool: its status, or a fault
abbrev pub Ends : Tool → Result ℕ ProgramFault → WriterView → WriterView → Ending → Type 0
Ends tool (Ok status) before after ending = (ending ≡ Ran status) × (after ≡ before)
Ends tool (Err fault) before after ending = (ending ≡ Refused) × Reports (Some tool) fault before after
