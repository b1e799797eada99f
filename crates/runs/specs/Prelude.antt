-- What contracts and proofs cite of the definitions of this crate. Declares nothing.
pub use Rattle.runs.specs.Tool.{every_tool, tool_name}
pub use Rattle.runs.specs.Device.{AppendsPrefix, Gives, GivesFirst, calls_after, counted_calls, counted_failures, counted_inner, failing_calls_before, failing_inner, failing_most_bytes, failure_of_read, failure_of_write}
pub use Rattle.runs.specs.Run.{DeliversPrefix, RunView, exit_status, is_standard, output_file, output_run, refusal, run_view, shown_name}
pub use Rattle.runs.specs.ProgramFault.{program_line, program_text, stdin_text}
pub use Rattle.runs.specs.FaultText.{duplicate_text, fault_line, location, mo_text, po_text, text_line}
pub use Rattle.runs.specs.Inputs.{AreInputs, Asked, Asks, AsksAll, AsksFirst, IsInputFault, NamedFile, Reading, ReadsAs, Stays, asked_arguments, asked_for, input_fault_text, inputs_in, named_file, named_files, named_inputs, AsksInTurn, HaveFiles, AreInputsAfter, AreInputsInTurn, named}
pub use Rattle.runs.specs.OutputFiles.{Call, Course, FileCall, FileLog, Runs, calls_of, fault_in, fault_of, first_mode, kept_bits, kept_mode, logged}
pub use Rattle.runs.specs.FilesAfterCalls.{Always, Among, Destination, Each, Files, FitsKind, GivesAll, HasRights, IsNoLink, Leads, PathState, after, after_call, put, put_stream, with_bytes, with_mode, with_owner}
pub use Rattle.runs.specs.AccessRights.{Class, Deed, GivesNobodyMore, IsWhose, KeepsRights, May, User, bit_for, class_of}
pub use Rattle.runs.specs.Laws.{GivesNoMore, GivesNothingAway, HasAll, IsAllWritten, IsAllowed, IsBeside, IsNotOpening, IsReplaceable, IsThere, IsWholeOrAsItWas, IsWholeOrAsItWasThroughout, IsWrittenInPlace, KeepsMode}
pub use Rattle.runs.specs.OutputPaths.{NamesNoStream, NamesStream, beside, link_target, new_name, own_name}
pub use Rattle.runs.specs.OutputWriting.{Closes, Fills, Finishes, NewFile, Puts, Replaces, WritesFile, WritesInPlace, WritesStream, further_names}
pub use Rattle.runs.specs.OutputSystem.{Fails, IsCutShort, IsOutputFault, MakesFile, OutputIs, SystemView, Takes, WriterView, WritesRun, link_limit, output_fault_text, system, writer}
pub use Rattle.runs.specs.Arguments.{IsTaken, IsTextOr}
pub use Rattle.runs.specs.WholeInput.{IsCut, IsDelivered, call_limit, input_limit}
pub use Rattle.runs.specs.ToolRuns.{Asking, HasOneReading, Planning, RunsInput, RunsInputs, Writes, asking}
