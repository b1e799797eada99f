-- What the proofs of this crate cite of std, of the crates below and of its own definitions. Declares nothing.
pub use Rattle.envsubst.specs.Prelude.{EndsAs, EnvsubstUsage, HasGoneOut, RunsEnvsubst, StopsWithin, Values, envsubst_usage, names_in, substitution, values_of, variables_of, write_failures}
pub use Rattle.known_runs.specs.Ends.{failed}
pub use Rattle.known_runs.specs.Internal.{AsksFor, EndsOverFiles, RunsOverFiles, a_form, a_message, started, unstarted}
pub use Rattle.known_runs.specs.LookUps.{answered}
pub use Rattle.known_runs.specs.Msgfmt.{compiled, elsewhere, empty, led, refused}
pub use Rattle.known_runs.specs.Prelude.{End, EndsInFile, EndsLookUp, EndsMsgfmt, EndsSubstituted, EndsThroughLinks, HasStatus, IsCompiledFrom, IsStatusOrInputFault, OneEnd, RunsInMemory, all_as_they_are, all_messages, answers_in, counted, end, hello_mo, line_in, message, operands_of, plain, status_or_memory, system_after, system_before, text_of, two_files, values_by}
pub use Rattle.known_runs.specs.Substitutions.{cut, substituted}
pub use Rattle.known_system.specs.Contents.{filed, follows, left, printed, there}
pub use Rattle.known_system.specs.Prelude.{Contents, Holds, IsFileFault, Leads, Leaves, Links, Place, bytes_at, bytes_of, contents, entry_texts, folder, is_free, links_by_path, nothing, reading_of, replay, stored, texts_by_name}
pub use Rattle.mo_file.specs.declared.byte_order.Order.TheVariants.{Little}
pub use Rattle.mo_lookup.specs.Prelude.{CatalogView, IsCatalogView, Query, chain_answered, forms_found, untranslated}
pub use Rattle.msgattrib.specs.Prelude.{IsEither, IsMsgattribRun, IsSelection}
pub use Rattle.msgcat.specs.Prelude.{AreMergeOptions, IsMsgcatRun, RunsMsgcat, or_zero}
pub use Rattle.msgfmt.specs.Prelude.{AreMsgfmtOptions, HaveNoRun, IsDone, IsMsgfmtRun, IsRunOf, RunsMsgfmt, compile_options, compiled_run, default_output, join_line, order_of}
pub use Rattle.msgfmt.specs.declared.options.MsgfmtOptions.{MsgfmtOptions}
pub use Rattle.po_compile.specs.Prelude.{CataloguesAreOne, IsCompilation, IsCompileFault, compiled_list, header_of, meant}
pub use Rattle.po_compile.specs.declared.options.Compiled.{Compiled}
pub use Rattle.po_entry.specs.Prelude.{Lacks, TextEntry, joined_entries, stats_of}
pub use Rattle.po_tools.specs.Prelude.{Answers, AnswersStatus, CommandLine, OneMsgfmtRun, Reached, ReaderView, RunsEnvsubstLine, RunsLookUpLine, RunsTool, Substitutes, answers_of, line_of, reached, reader_of}
pub use Rattle.po_tools.specs.ToolRun.{fits_none, looks_up, no_envsubst, runs_envsubst}
pub use Rattle.runs.specs.Inputs.{done, gives, read, refuses, unread}
pub use Rattle.runs.specs.Prelude.{AreInputs, Asked, Asking, FileLog, IsTextOr, NamedFile, Reading, ReadsAs, RunView, SystemView, WriterView, Writes, is_standard, link_limit, link_target, output_file, program_text, refusal, system, writer}
pub use Rattle.runs.specs.ToolRuns.{has_none, no_memory_to_plan, no_memory_to_read, runs}
pub use Rattle.runs.specs.declared.program_fault.ProgramFault.{ProgramFault}
pub use Rattle.runs.specs.declared.program_fault.ProgramFault.TheVariants.{OutOfMemory}
pub use Rattle.std.proofs.Common.{Bool, Err, IfSome, List, None, Ok, Option, Result, Some, [], ap, append-nil, arith, codes, false, if◌then◌else◌, inl, inr, is_some, length, nat_lt, not, option_map, refl, slice_index, subst, suc, sym, take, true, zero, ℕ, ◌&&◌, ◌++◌, ◌+◌, ◌-◌, ◌<◌, ◌^◌, ◌∙◌, ◌∷◌, ◌≡◌, ◌≢◌, ◌⊎◌}
pub use Rattle.std.proofs.lemmas.Bool.{and_parts, false≢true, ltb-false, ltb-true}
pub use Rattle.std.specs.Option.{option_copied, option_map_or, option_to_list, unwrap_or}
pub use Rattle.std.specs.String.{string_bytes}
