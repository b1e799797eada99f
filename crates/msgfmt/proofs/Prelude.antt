-- What the proofs of this crate cite of std, of the crates below and of its own definitions. Declares nothing.
pub use Rattle.mo_file.specs.Prelude.{forms, id_of, key_of, plural_of}
pub use Rattle.msgfmt.specs.Prelude.{AreChecked, AreWrong, CountFault, DiffersAt, EntryFault, FirstFault, HasNewline, HasOtherCount, HasPlural, HasProfileFault, HaveNoRun, IsChecked, IsFirst, IsMsgfmtRun, IsRefused, IsRunOf, NeedsNoOtherRule, NoneRefused, Reported, check_line, checked_message, checked_messages, compile_options, count_fault, differ, differs_from_msgid, entry_fault, first_fault, first_some, has_newline, input_names, input_texts, is_header_entry, is_plural, join_line, rule_fault, taken_entry, value_fault}
unfoldable pub use Rattle.msgfmt.specs.Prelude.{counts_below}
pub use Rattle.msgfmt.specs.declared.options.MsgfmtOptions.{MsgfmtOptions}
pub use Rattle.msgfmt.specs.declared.profile.CheckFault.TheVariants.{FormCount, IndexOutside, LeadingNewline, NoHeader, NoRule, TrailingNewline, Undefined}
pub use Rattle.plural_rule.specs.Prelude.{IsRuleOf, RuleView, expression_limit, value}
pub use Rattle.plural_rule.specs.declared.rule.Source.{Source}
pub use Rattle.plural_rule.specs.declared.rule.Source.TheVariants.{Default, Header}
pub use Rattle.po_compile.specs.Prelude.{AreCollected, IsCompilation, IsCompileFault, LiveMessage, TextsComeBack, compiled_inputs, compiled_message, compiled_view, is_compiled, live_messages, original_of, translation_of}
pub use Rattle.po_compile.specs.declared.messages.CompiledMessage.{CompiledMessage}
pub use Rattle.po_entry.specs.Prelude.{InputEntry, IsCatalogueEntry, IsEntry, ReadsText, TextEntry, entries_of, first_form, joined, joined_entries, plain_entry, slice_texts, with_line}
pub use Rattle.runs.specs.Facts.RunEnds.{inputs_ended, named_count, none_unread}
pub use Rattle.runs.specs.Prelude.{NamedFile, RunView, named_file, named_files, named_inputs, program_text, refusal, run_view}
pub use Rattle.runs.specs.declared.program_fault.ProgramFault.{ProgramFault}
pub use Rattle.std.proofs.Common.{All, Bool, List, MatchOption, None, OnOk, Option, Some, [], ap, append-nil, append_assoc, ap₂, arith, codes, cond, decimal, drop, false, find, if◌then◌else◌, inl, inr, length, length-append, map, not, option_map, refl, rules, subst, suc, sym, take, true, true≢false, zero, ℕ, ⊎_elim, ◌&&◌, ◌++◌, ◌+◌, ◌-◌, ◌<◌, ◌==◌, ◌∙◌, ◌∷◌, ◌≡◌, ◌≢◌, ◌≤◌, ◌⊎◌}
pub use Rattle.std.proofs.lemmas.Iterator.{YieldsList-from_slice}
pub use Rattle.std.proofs.lemmas.Iterator.Search.{find_from_yields_List}
pub use Rattle.std.proofs.lemmas.List.{get_or_push, length-map}
pub use Rattle.std.proofs.lemmas.List.Elements.{All-cons, All-filter, All-head, All-nil, All-tail}
pub use Rattle.std.proofs.lemmas.Result.{IfOk-weaker, err_from_is_err_and}
pub use Rattle.std.specs.List.{list_any, range_with_len}
pub use Rattle.std.specs.Option.{is_some, option_or, option_to_list}
pub use Rattle.std.specs.Prelude.{is_ok, ◌↔◌}
