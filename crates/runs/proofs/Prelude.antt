-- What the proofs of this crate cite of std, of the crates below and of its own definitions. Declares nothing.
pub use Rattle.runs.specs.Inputs.{a_file, another_file, asks_file, asks_nothing, asks_standard, done, empty_text, file_of, from_standard_input, gives, no_argument, no_file, no_files, no_standard_input, one_more_file, read, refuses, standard_again, unread, unread_file}
pub use Rattle.runs.specs.Internal.ProgramFault.{joined}
pub use Rattle.runs.specs.FilesAfterCalls.{along, file, file_at, link, nothing, stream_of, to_stream}
pub use Rattle.runs.specs.Laws.{in_file, on_standard_output}
pub use Rattle.runs.specs.AccessRights.{its_group, its_owner, others, reads, runs, writes}
pub use Rattle.runs.specs.OutputFiles.{asks, closes, fails, fails_to_make, fails_to_open, fails_to_read_link, lacks_stream, makes, numbers, opens, reads_link, removes, renames, sets_mode, sets_owner, takes_stream, ◌▸◌}
pub use Rattle.runs.specs.OutputPaths.{of_device, of_process, standard_error, standard_output}
pub use Rattle.runs.specs.OutputSystem.{delivered, to_file, unmade, unreported}
pub use Rattle.runs.specs.OutputWriting.{all_taken, cut, failed, follows, forbidden, in_place, lacking, late, made, no_memory, opened, replaced, replaces, replaces_none, special, stops, stream, taken, too_long, unknown, unmoved, unnamed, unopened, unput, unwritten, whole, with_rights, without_rights}
pub use Rattle.runs.specs.Prelude.{Always, Among, AppendsPrefix, AreInputs, AreInputsAfter, AreInputsInTurn, Asked, Asks, AsksAll, AsksFirst, AsksInTurn, Class, Closes, Course, Deed, Destination, Each, FileCall, FileLog, Files, Fills, Finishes, FitsKind, Gives, GivesAll, GivesFirst, GivesNoMore, GivesNobodyMore, GivesNothingAway, HasAll, HasOneReading, HasRights, HaveFiles, IsAllWritten, IsAllowed, IsBeside, IsNoLink, IsNotOpening, IsReplaceable, IsTaken, IsThere, IsWholeOrAsItWas, IsWholeOrAsItWasThroughout, IsWhose, IsWrittenInPlace, KeepsMode, KeepsRights, Leads, MakesFile, May, NamedFile, NamesNoStream, NamesStream, NewFile, OutputIs, PathState, Puts, Reading, ReadsAs, Replaces, RunView, Runs, Stays, SystemView, User, Writes, WritesFile, WritesInPlace, WritesRun, WritesStream, after, after_call, asked_arguments, asked_for, beside, bit_for, calls_of, class_of, every_tool, fault_in, fault_of, first_mode, input_fault_text, inputs_in, is_standard, kept_bits, kept_mode, link_limit, link_target, logged, named, named_files, named_inputs, new_name, output_file, own_name, put, put_stream, shown_name, tool_name, with_bytes, with_mode, with_owner}
pub use Rattle.runs.specs.ToolRuns.{written}
pub use Rattle.runs.specs.declared.inputs.InputFault.{InputFault}
pub use Rattle.runs.specs.declared.output_files.FileKind.TheVariants.{Regular, Special, Unknown}
pub use Rattle.runs.specs.declared.output_files.MakeFault.TheVariants.{Exists, Failed, Forbidden}
pub use Rattle.runs.specs.declared.output_files.OutputFault.{OutputFault}
pub use Rattle.runs.specs.declared.output_files.OutputFault.TheVariants.{CannotCreate, OutOfMemory, WriteFault}
pub use Rattle.runs.specs.declared.output_files.Owner.{Owner}
pub use Rattle.runs.specs.declared.output_files.Rights.{Rights}
pub use Rattle.runs.specs.declared.program_fault.ProgramFault.{ProgramFault}
pub use Rattle.runs.specs.declared.tool_fault.ToolFault.{ToolFault}
pub use Rattle.std.proofs.Common.{Bool, Err, IfOk, IfSome, List, MatchOption, None, Ok, OnErr, OnOk, Option, Result, Some, [], ap, append-nil, append_assoc, ap₂, arith, codes, cond, decimal, drop, drop_of_length-le, false, filter, get_or, get_or-drop, inl, inr, is_ok, length, length-append, length-take-le, map, max, min, nat_lt, not, ok_or, option_map, refl, rules, subst, suc, sym, take, take-append-drop, true, vec_len, zero, ℕ, ⊎_elim, ◌%◌, ◌&&◌, ◌*◌, ◌++◌, ◌+◌, ◌-◌, ◌/◌, ◌<◌, ◌==◌, ◌^◌, ◌||◌, ◌↔◌, ◌∙◌, ◌∷◌, ◌≡◌, ◌≢◌, ◌≤◌, ◌⊎◌}
pub use Rattle.std.proofs.Math.Seq.{take-add, take-length}
pub use Rattle.std.proofs.lemmas.Bool.{and_right, cases_Bool, cases_lt, cond-false, cond-true, cond_both, eq-eqb, eqb-false, eqb-true, false_from_ne_true, false≢true, ltb-true, ne_eqb}
pub use Rattle.std.proofs.lemmas.Bool.Decides.{nat_tests, not_from_Decides}
pub use Rattle.std.proofs.lemmas.Fmt.{decimal_is_IsNumeral, length-decimal-le, parse-decimal}
pub use Rattle.std.proofs.lemmas.List.{drop-append-le, drop-drop, drop-take, drop_more, length-drop, length-take, length_push, map-append, places, same_from_push, take-append-le, take-map, take-take, take_all, take_at, take_more, take_rest}
pub use Rattle.std.proofs.lemmas.List.Folds.{length-flat_map-take, list_any_at}
pub use Rattle.std.proofs.lemmas.List.Sums.{sum_by-append}
pub use Rattle.std.proofs.lemmas.Slice.Eq.{bytes_eq-Decides}
pub use Rattle.std.specs.Borrow.{Bor}
pub use Rattle.std.specs.Io.KnownBytes.{Appends, Consumes, IsAtEnd}
pub use Rattle.std.specs.List.{All, AllWithin, HoldsAt, sum_by}
pub use Rattle.std.specs.Option.{is_some, option_copied, option_flatten, unwrap_or}
pub use Rattle.std.specs.Path.{cur_dir, first_piece, is_dot_at, is_name, later_pieces, normal_name, parent_and_last, rfind_below, slash, without_file_name}
unfoldable pub use Rattle.std.specs.Path.{path_components, path_file_name, path_join, path_names, path_parent, path_with_file_name, rsplit_once, split_last_component, trim_trailing}
pub use Rattle.std.specs.Result.{IsErrAnd, result_ok}
pub use Rattle.std.specs.Str.{bytes_eq}
pub use Rattle.std.specs.Str.Parse.{AllDigits, digits_value}
