-- What the proofs of this crate cite of std, of the crates below and of its own definitions. Declares nothing.
pub use Rattle.mo_file.specs.Prelude.{IsMoFile, Message, NoFaultOfMoFile, OneFirstFault, OneMessageList, layout}
pub use Rattle.mo_lookup.specs.Prelude.{AnswerView, CatalogView, IsCatalogView, Query, answered, header_text, translates, untranslated}
pub use Rattle.msgattrib.specs.Prelude.{ChangesNothing, IsMsgattribRun, changed, error_line, every_entry, is_kept, selected}
pub use Rattle.msgcat.specs.Prelude.{AreReadAs, DistinctInputsStay, HoldInputs, IsInput, IsMerged, IsMsgcatRun, IsReadAs, MergedCanStand, MessagesStandOnce, Named, NamedEntry, OneInputStays, all_entries, keep_all, merged, merged_messages, messages, msgcat_line, named}
pub use Rattle.msgfmt.specs.Prelude.{AreChecked, IsDone, IsMsgfmtRun, Reported, check_line, compile_options, compiled_run, default_output, first_fault, input_names, input_texts, is_header_entry, join_line}
pub use Rattle.msgfmt.specs.declared.options.MsgfmtOptions.{MsgfmtOptions}
pub use Rattle.msgunfmt.specs.Prelude.{CompilesTo, IsMsgunfmtRun, IsUnformatFault, IsUnformatted, NoFaultWhereUnformatted, OneText, OneUnformatFault, UnformatThenCompile, unformat_line}
pub use Rattle.po_compile.proofs.OneOutcome.{IsOtherFault, compile_once, duplicates_once, other_of, text_once}
pub use Rattle.po_compile.proofs.OneOutcome.{FirstError, Follows, OneResult, all_or_first, first_error, follows_once, not_both, one_error, one_result, one_value, right, value_or_error, wrong}
pub use Rattle.po_compile.specs.Prelude.{AreAccepted, HoldCatalogues, IsCompilation, MessagesAreOne, NoFaultWhereAccepted, compiled_inputs, compiled_list, is_compiled, live_messages, message_of}
pub use Rattle.po_entry.specs.Prelude.{AllDiffer, HasAdmittedCharset, HasNoDuplicate, InputEntry, IsCatalogueEntry, IsFirstDuplicate, IsSameMessage, IsTextFault, Lacks, ReadsDistinct, ReadsText, TextEntry, entries_of, first_form, has_translation, in_input, is_header, is_live, is_live_header, joined, joined_entries, joined_from, stats_of, with_line}
pub use Rattle.po_entry.specs.declared.duplicate.JoinError.{JoinError}
pub use Rattle.po_syntax.specs.Facts.Filters.{all_pass, none_pass}
pub use Rattle.po_syntax.specs.Facts.Mapped.{filter_map, filter_twice}
pub use Rattle.po_syntax.specs.Prelude.{IsSmall, IsText}
pub use Rattle.po_tools.specs.Prelude.{AreStored, CompiledAreKept, CompilesAlike, KeptCompilesAlike, LongerChainAnswersAlike, MsgcatAgain, MsgcatCompilesAlike, MsgcatOfSeveral, OneMsgattribRun, OneMsgcatRun, OneMsgfmtRun, OneMsgunfmtRun, ThereAndBack, input_view, inputs_view}
pub use Rattle.po_tools.specs.ToolRun.{fits_none, looks_up, no_envsubst, runs_envsubst}
pub use Rattle.po_writer.specs.Prelude.{arranged, written_text}
pub use Rattle.runs.specs.Prelude.{IsTextOr, NamedFile, RunView, fault_line, mo_text, output_run, refusal}
pub use Rattle.std.proofs.Common.{Bool, Err, List, None, Ok, Option, Some, [], ap, ap₂, arith, codes, cond, drop, false, filter, find, get_or, inl, inr, length, map, nat_lt, not, refl, rules, subst, suc, sym, take, true, zero, ℕ, ⊎_elim, ◌&&◌, ◌++◌, ◌+◌, ◌<◌, ◌||◌, ◌∙◌, ◌∷◌, ◌≡◌, ◌≢◌, ◌⊎◌}
pub use Rattle.std.proofs.lemmas.Bool.{false_from_ne_true, false≢true, not-true}
pub use Rattle.std.proofs.lemmas.List.{append-nil, length-map, map-append, take_all, take_more}
pub use Rattle.std.proofs.lemmas.List.Elements.{All-append, All-cons, All-contains_itself, All-filter, All-head, All-nil, All-push, All-set, All-tail, All-weaker, filter-append, filter_agree, filter_passes}
pub use Rattle.std.proofs.lemmas.Result.{IfErr-weaker, IfOk-weaker, MatchResult-from_both, err_from_is_err_and, on_ok_weaker}
pub use Rattle.std.specs.Option.{option_copied, option_map_or, option_or, unwrap_or}
pub use Rattle.std.specs.Prelude.{All, Contains, IfSome, option_to_list}
