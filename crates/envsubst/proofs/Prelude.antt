-- What the proofs of this crate cite of std, of the crates below and of its own definitions. Declares nothing.
pub use Rattle.envsubst.specs.ByArguments.{named, unread}
pub use Rattle.envsubst.specs.Internal.Holding.{ComesOut, Ending, after_dollar}
pub use Rattle.envsubst.specs.Internal.Sorted.{AreNamesSorted, AreVariablesSorted, name_cmp, values_of_replacements}
pub use Rattle.envsubst.specs.Laws.{bare, braced, copied, no_reference, no_text, nothing, reference, set, unset}
pub use Rattle.envsubst.specs.Prelude.{Advances, AreFeedCalls, BeginsNoReplaced, EndsAs, FeedCall, FeedCallsAgree, HasGoneOut, HasValue, HoldsNames, IsInName, IsName, IsReplaced, NoNameGoesOn, Reference, Replacement, Replaces, RunsEnvsubst, SpellsReference, Stops, StopsAtEnd, StopsWithin, SubstituterView, Substitutes, Took, TookAll, TookAllRead, TookBeginning, TookBeginningOfRead, Values, begins_with, envsubst_arguments, held_after, is_begun_name, is_undecided_after, name_prefix, names_given, pairs_in, pieces_of, substituted, substitution, values_of_slices, values_of_substituter, variables_of, written_in}
unfoldable pub use Rattle.envsubst.specs.Prelude.{bare_reference, braced_reference, is_letter, is_name, is_name_byte, is_replaced, is_undecided, names_in, reference_after, replacement_of, substitution_after, value_of, values_of}
pub use Rattle.locale_names.proofs.LanguageParts.{byte-at, byte-here, byte-later, byte-next, nil-from_length, some-from_length}
pub use Rattle.memchr.specs.Find.{is_byte}
pub use Rattle.runs.proofs.Devices.{on-err}
pub use Rattle.runs.specs.Prelude.{AppendsPrefix}
pub use Rattle.runs.specs.declared.tool_fault.ToolFault.{ToolFault}
pub use Rattle.runs.specs.declared.tool_fault.ToolFault.TheVariants.{OutOfMemory, ReadFault, WriteFault}
pub use Rattle.std.proofs.Common.{All, Bool, Err, IfSome, IsPermutation, List, None, Ok, OnErr, OnOk, Option, Result, Some, [], ap, append-nil, append_assoc, ap₂, arith, cond, drop, drop_of_length-le, eqb, false, filter, get_or, if◌then◌else◌, inl, inr, length, length-append, length-drop, lit≤, ltb, map, min, not, refl, rules, subst, suc, sym, take, take-append-drop, true, zero, ℕ, ◌&&◌, ◌*◌, ◌++◌, ◌+◌, ◌-◌, ◌<◌, ◌==◌, ◌||◌, ◌∙◌, ◌∷◌, ◌≡◌, ◌≢◌, ◌≤◌, ◌⊎◌}
pub use Rattle.std.proofs.KnownBytes.{Appends-nil, Appends-trans, Consumes-kept, Consumes-nil, Consumes-trans, Keeps-refl}
pub use Rattle.std.proofs.Math.Seq.{take-add, take-append-add, take-append_seam}
pub use Rattle.std.proofs.lemmas.Bool.{and_from, and_left, and_parts, and_right, both_ways, cases_Bool, cases_lt, cond-false, cond-true, cond_both, eqb-false, eqb-true, false_from_ne_true, false≢true, lt-ltb, ltb-true, ne_eqb, true≢false}
pub use Rattle.std.proofs.lemmas.Bool.Decides.{Decides-by_and, nat_tests, not_from_Decides}
pub use Rattle.std.proofs.lemmas.Cmp.{nat_list_cmp_total}
pub use Rattle.std.proofs.lemmas.List.{drop-append-le, drop-drop, drop_all, drop_at, drop_more, take_all, take_rest}
pub use Rattle.std.proofs.lemmas.List.Elements.{All-cons, All-from_get_or, All-head, All-nil, All-tail}
pub use Rattle.std.proofs.lemmas.List.Folds.{Any-from_list_any, list_all-append, list_any-from_Any, list_any_at, list_any_none}
pub use Rattle.std.proofs.lemmas.List.Sorted.{IsPartitionPoint-from_clause, answers_always, list_any-IsPermutation, ranks_by, searchable_from_sorted}
pub use Rattle.std.proofs.lemmas.List.Sums.{prefix_len_is, take_while-cons}
pub use Rattle.std.proofs.lemmas.Option.{none-some}
pub use Rattle.std.proofs.lemmas.Result.{err_from_is_err_and}
pub use Rattle.std.specs.Borrow.{Bor}
pub use Rattle.std.specs.Io.KnownBytes.{Appends, Consumes, IsAtEnd, Keeps}
pub use Rattle.std.specs.List.{IsAllAdjacentAnswer, cons_option, flat_map, list_all, list_any, position_or_len}
pub use Rattle.std.specs.Option.{option_copied, option_map}
pub use Rattle.std.specs.Ordering.{is_eq, is_ge, is_lt, ordering_index, ordering_reverse}
pub use Rattle.std.specs.Prelude.{Contains, ◌↔◌}
pub use Rattle.std.specs.Str.{bytes_eq}
