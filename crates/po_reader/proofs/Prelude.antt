-- What the proofs of this crate cite of std, of the crates below and of its own definitions. Declares nothing.
pub use Rattle.po_entry.proofs.JoinedLists.{ends_rest, entries_joined, no_comment_last}
pub use Rattle.po_entry.proofs.EntryRows.{entry_here, taken_here}
pub use Rattle.po_entry.specs.Faults.{at, at_end, foreign, index, mixed, order}
pub use Rattle.po_entry.specs.Faults.EntriesStop.{here, later}
pub use Rattle.po_entry.specs.Faults.ItemsStop.{in_charset, in_items, in_texts}
pub use Rattle.po_entry.specs.Prelude.{Adds, AreDistinct, AreInOrder, AreLaid, AreSome, CanLie, CharsetFault, CommentText, EntriesStop, EntryTextFault, HasAdmittedCharset, HasTexts, IsCatalogueEntry, IsEntry, IsFlag, IsOwn, IsReadFault, IsReference, IsTranslatorComment, IsViable, IsWrongIndex, ItemsFault, ItemsStop, Lacks, Misfit, PreviousText, ReadsItems, ReadsLeft, ReadsText, SpellsEntries, TextEntry, TextPrevious, after_nul, all_listed_flags, context_length, digest_of, entries_in, entry_at, flags_of, further_texts, head_bytes, is_fuzzy_flag, is_not_empty, key_bytes, last_line, listed_flags, listed_references, no_previous, own_bytes, quoted_texts, rank, references_of, same_kind, slice_texts, texts_of, trimmed, with_flag, with_head, with_obsolete, with_previous}
pub use Rattle.po_entry.specs.Spelling.{keyword_text, last, none, own_marks, previous_marks, with, without}
pub use Rattle.po_entry.specs.declared.row.Row.{Row}
pub use Rattle.po_reader.specs.Internal.Keeping.{AreDraftsOf, CanFollow, KeepsItems, PiecesRead, ReadsUpTo, SpellsOn, StopsStay}
pub use Rattle.po_reader.specs.Internal.ReaderView.{HoldsHead, context_bytes, wanted_view, with_kept_head}
pub use Rattle.po_reader.specs.Internal.Reads.{ChecksStop, come_to, comes, first_line, in_head, line_at, start}
pub use Rattle.po_reader.specs.Internal.Stage.{AfterForm, Before, Between, Entries, Fault, Form, Gap, Id, In, InHead, Outcome, SoFar, Stage, Stop, Translation, Wanted, after_head, no_lines, only, with_comment, with_context, with_entry, with_forms, with_own, with_previous_text, with_text}
pub use Rattle.po_reader.specs.Internal.Turn.{EndsHead, IsApart, Reached, begins_body, begins_form, begins_own, begins_string, begins_word, closed, comes_to, ended, is_form, is_wanted, opened, outcome, outcome_of, reached, same_marks, settled, settled_gap, stray_string, turn, turn_gap, turn_head, turn_own, unwanted, with_keyword}
pub use Rattle.po_reader.specs.Prelude.{AddsReading, EndsEntry, FaultsStay, IsLeftFault, IsReadSoFar, IsShorter, OpenPieces, ReadsOn, kept_entry, kept_texts}
pub use Rattle.po_reader.specs.declared.head.Head.{Head}
pub use Rattle.po_syntax.proofs.Faults.{IsFaultOf-weaker, is_text_fault, text_reported}
pub use Rattle.po_syntax.proofs.Faults.{passed_on}
pub use Rattle.po_syntax.proofs.OneOutcome.{fault_once, line_items_once}
pub use Rattle.po_syntax.specs.Facts.AllAppend.{All-left, All-right}
pub use Rattle.po_syntax.specs.Item.{Comment, Str, Word}
pub use Rattle.po_syntax.specs.Prelude.{BeginsAnew, EndsInString, FailsFirst, HoldsText, IsCleanLine, IsComment, IsCommentOf, IsFaultOf, IsNew, IsPiece, IsString, IsText, LeftAnew, LeftStops, LineBeginsAnew, LinesLeft, OfString, SpellsLeft, SpellsLines, SpellsText, TextFault, TextItem, is_blank, line_of, skip_blanks, view, views, without_end}
pub use Rattle.po_syntax.specs.declared.fault.PoError.{PoError}
pub use Rattle.po_syntax.specs.declared.fault.PoFault.{PoFault}
pub use Rattle.po_syntax.specs.declared.fault.PoFault.TheVariants.{BadOrder, BadPluralIndex, ForeignCharset, MixedObsolete, OutOfMemory}
pub use Rattle.po_syntax.specs.declared.item.CommentKind.{CommentKind}
pub use Rattle.po_syntax.specs.declared.item.CommentKind.TheVariants.{Extracted, Flags, Reference, Translator}
pub use Rattle.po_syntax.specs.declared.item.Keyword.{Keyword}
pub use Rattle.po_syntax.specs.declared.item.Keyword.TheVariants.{MsgCtxt, MsgId, MsgIdPlural, MsgStr, MsgStrAt}
pub use Rattle.po_syntax.specs.declared.item.Marks.{Marks}
pub use Rattle.std.proofs.Common.{Bool, IsUtf8, List, None, Option, Some, [], add-one, ap, append-nil, append_assoc, arith, codes, drop, drop-cons, false, filter, fold, get_or, inl, inr, length, length-drop, map, nat_lt, refl, rules, subst, subst₂, suc, sym, take, tests, true, true≢false, zero, ℕ, ◌&&◌, ◌++◌, ◌+◌, ◌-◌, ◌<◌, ◌==◌, ◌||◌, ◌↔◌, ◌∙◌, ◌∷◌, ◌≡◌, ◌≢◌, ◌≤◌, ◌⊎◌}
pub use Rattle.std.proofs.lemmas.Bool.{and_parts, cases_Bool, eq-eqb, eqb-false, eqb-true, false≢true, le-ltb, lt-ltb, ltb-true, ne_eqb, not-false, not-true}
pub use Rattle.std.proofs.lemmas.Grind.{common_steps}
pub use Rattle.std.proofs.lemmas.List.{drop_all, length-append, length-map, map_push, take_all}
pub use Rattle.std.proofs.lemmas.List.Elements.{All-append, All-cons, All-filter, All-head, All-map, All-nil, All-push, All-tail, All-weaker, Contains-push_cases, filter_passes}
pub use Rattle.std.proofs.lemmas.List.Folds.{fold_stays, length-prefix_len, list_any_at}
pub use Rattle.std.proofs.lemmas.List.Sums.{fold-append, fold_push}
pub use Rattle.std.proofs.lemmas.Str.{IsCharBoundary-after_ascii, IsCharBoundary-before_ascii, IsUtf8-append, IsUtf8-drop, IsUtf8-take}
pub use Rattle.std.specs.Bool.{beq}
pub use Rattle.std.specs.Cmp.{bool_eq_equiv, booleans_Decides}
pub use Rattle.std.specs.List.{flat_map, list_any, prefix_len, slice_split}
pub use Rattle.std.specs.Prelude.{All, Contains, Err, Ok, OnOk, Result, bytes_eq, if◌then◌else◌, option_to_list, reverse, slice_get}
