-- What the proofs of this crate cite of std, of the crates below and of its own definitions. Declares nothing.
pub use Rattle.po_entry.specs.Prelude.{AreDistinct, AreInOrder, CommentText, HasAdmittedCharset, HasTexts, IsCatalogueEntry, IsEntry, IsFlag, IsReference, IsTranslatorComment, Lacks, PreviousText, ReadsText, SpellsBody, SpellsContext, SpellsEntries, SpellsEntry, SpellsForms, SpellsHead, SpellsKeywordText, SpellsStrings, SpellsTranslation, TextEntry, TextPrevious, all_listed_flags, flags_of, forms_left, fuzzy_of, is_fuzzy_flag, is_not_empty, listed_flags, listed_references, previous_of, quoted_texts, references_of, same_kind, texts_left, texts_of, trimmed, with_flag, with_head, with_line}
pub use Rattle.po_entry.specs.Spelling.{comments, entry, head_comment, keyword_text, more, nothing, own_marks, previous_marks, previous_text, with, without}
pub use Rattle.po_syntax.specs.Facts.AllAppend.{All-left, All-right}
pub use Rattle.po_syntax.specs.Facts.Filters.{all_pass, none_pass}
pub use Rattle.po_syntax.specs.Facts.LinesWithEnds.{ContainsLines, ended, last, lines_are, lines_with_ends, none}
pub use Rattle.po_syntax.specs.Item.{Comment, Str, Word}
pub use Rattle.po_syntax.specs.Line.{blank, comment, end, extracted, flags, keyword, live, obsolete, obsolete_previous, previous, reference, string, translator}
pub use Rattle.po_syntax.specs.Prelude.{HoldsItems, HoldsTokens, IsBlank, IsComment, IsSmall, IsText, SpellsComment, SpellsKeyword, SpellsLines, SpellsText, TextItem, is_blank, is_mark, lines_of, quoted, skip_blanks, trim_returns, without_byte_order_mark, without_end, written_bytes}
pub use Rattle.po_syntax.specs.Token.{msgctxt, msgid, msgid_plural, msgstr}
pub use Rattle.po_syntax.specs.declared.item.CommentKind.{CommentKind}
pub use Rattle.po_syntax.specs.declared.item.CommentKind.TheVariants.{Extracted, Flags, Reference, Translator}
pub use Rattle.po_syntax.specs.declared.item.Keyword.{Keyword}
pub use Rattle.po_syntax.specs.declared.item.Keyword.TheVariants.{MsgCtxt, MsgId, MsgIdPlural, MsgStr, MsgStrAt}
pub use Rattle.po_syntax.specs.declared.item.Marks.{Marks}
pub use Rattle.po_writer.specs.Laws.{absent, after_empty_line, each_line, first_entry, form, fuzzy, line, line_end, live_before, live_first, next_element, no_comments, no_entries, no_forms, no_further, no_line, no_text, obsolete_first, one_ended_line, one_line, only, own, own_live, own_obsolete, plain, present, previous_live, previous_obsolete, with_plural, written}
pub use Rattle.po_writer.specs.Prelude.{AreAdded, AreParts, EachEndsInItsOnlyFeed, FollowEntries, HasParts, IsArranged, IsOwnPrefix, IsPreviousPrefix, StandInOrder, WritesComments, WritesElements, WritesEntry, WritesFlags, WritesForms, WritesFurther, WritesKeyword, WritesOptional, WritesText, WritesTranslation, all_flags, arranged, comment_lines, elements_line, entry_lines, form_lines, in_order, keyword_lines, optional_lines, own_lines, own_prefix, previous_lines, previous_prefix, string_line, text_lines, translation_lines, with_entry, written_text}
pub use Rattle.po_writer.specs.declared.parts.TextParts.{TextParts}
pub use Rattle.std.proofs.Common.{All, Bool, Contains, List, None, Option, Some, [], add-one, ap, append_assoc, ap₂, arith, bytes_eq, codes, cond, decimal, drop, false, filter, get_or, if◌then◌else◌, inl, length, length-append, map, nat_lt, not, option_to_list, refl, rules, slice_index_or, subst, suc, sym, take, true, vec_len, zero, ℕ, ⊎_elim, ◌&&◌, ◌++◌, ◌+◌, ◌<◌, ◌==◌, ◌^◌, ◌||◌, ◌∙◌, ◌∷◌, ◌≡◌, ◌≢◌, ◌≤◌}
pub use Rattle.std.proofs.lemmas.Bool.{and_parts, cond-true, cond_both, eqb-false, eqb-true, false_from_ne_true, lt-ltb, ltb-true, ne_eqb, not-true, not_from_true, or_parts}
pub use Rattle.std.proofs.lemmas.Grind.{common_steps}
pub use Rattle.std.proofs.lemmas.List.{append-nil, drop_all, get_or_default, map-append, same_from_push, take_all}
pub use Rattle.std.proofs.lemmas.List.Elements.{All-append, All-cons, All-filter, All-head, All-nil, All-push, All-tail, All-weaker, filter-append, filter_passes}
pub use Rattle.std.proofs.lemmas.List.Splits.{slice_split_at, slice_split_none}
pub use Rattle.std.proofs.lemmas.List.Sums.{AllPass-from_list_all, fold-append, fold_push}
pub use Rattle.std.proofs.lemmas.Result.{on_ok_weaker}
pub use Rattle.std.specs.List.{concat, flat_map, join_by, list_all, list_any, onto_first, prefix_len, slice_split}
pub use Rattle.std.specs.Prelude.{IfSome, fold}
pub use Rattle.std.specs.Str.{IsUtf8, all_scalars, encode_utf8_all}
