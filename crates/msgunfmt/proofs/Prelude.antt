-- What the proofs of this crate cite of std, of the crates below and of its own definitions. Declares nothing.
pub use Rattle.mo_file.proofs.Cuts.{before_all, before_is, context_cut, context_none, first_all, first_cut, id_all, id_cut, plural_cut, plural_none, split_none}
pub use Rattle.mo_file.specs.Prelude.{IsMoFile, Message, MoFileOrFault, OneFirstFault, OneMessageList, context_of, forms, id_of, is_nul, key_of, layout, originals, plural_of, translations}
pub use Rattle.msgunfmt.specs.Internal.Unformatting.{AppendsEntry, AppendsMessage, HoldsMessage, RefusesEntry, RefusesMessage, RefusesMessages}
pub use Rattle.msgunfmt.specs.Laws.{after_context, at_end, at_nul, before_plural, each_part, first_part, key_alone, msgid_alone}
pub use Rattle.msgunfmt.specs.Prelude.{AreWrittenAs, CompilesTo, ContainsForms, ContainsKey, ContainsMsgid, EmptyText, HasFirstEntryTextFault, HasForeignCharset, IsAfterPart, IsEntryOf, IsFileOf, IsUnformatFault, NoFaultWhereUnformatted, OneText, OneUnformatFault, TextOrFault, UnformatThenCompile, entry_of_message, taken_forms, unformatted}
pub use Rattle.msgunfmt.specs.declared.fault.UnformatError.{UnformatError}
pub use Rattle.msgunfmt.specs.declared.fault.UnformatError.TheVariants.{ForbiddenByte, ForeignCharset, Mo, NotUtf8, OutOfMemory}
pub use Rattle.po_entry.proofs.AdmittedTexts.{no_texts_fault, one_texts_fault}
pub use Rattle.po_entry.specs.Prelude.{Adds, AllDiffer, AreLaid, CanLie, EntryTextFault, HasAdmittedCharset, HasNoDuplicate, HasTexts, IsCatalogueEntry, IsEntry, IsFlag, IsReference, IsTranslatorComment, Lacks, LiesIn, ReadsDistinct, ReadsText, TextEntry, entries_in, entry_at, has_translation, is_header, is_live, joined_entries, message_entry, plain_entry, previous_texts, quoted_texts, row_of, with_line}
pub use Rattle.po_entry.specs.Validity.EntryTextFault.{forbidden, not_utf8}
pub use Rattle.po_syntax.specs.Facts.AllAppend.{All-left, All-right}
pub use Rattle.po_syntax.specs.Prelude.{IsComment, IsSmall, IsText}
pub use Rattle.po_syntax.specs.declared.fault.PoFault.{PoFault}
pub use Rattle.po_writer.specs.Prelude.{arranged, with_entry, written_text}
pub use Rattle.std.proofs.Common.{All, Bool, Err, IfSome, IsPermutation, List, None, Option, Some, [], ap, append-nil, append_assoc, ap₂, arith, cond, false, filter, get_or, inl, inr, length, map, not, option_copied, option_to_list, refl, slice_get, subst, suc, sym, take, true, zero, ℕ, ◌&&◌, ◌++◌, ◌+◌, ◌<◌, ◌==◌, ◌||◌, ◌↔◌, ◌∙◌, ◌∷◌, ◌≡◌, ◌≢◌, ◌⊎◌}
pub use Rattle.std.proofs.lemmas.Bool.{and_parts, cases_lt}
pub use Rattle.std.proofs.lemmas.List.{get_or-take, length-map, length-take, take_all, take_more}
pub use Rattle.std.proofs.lemmas.List.Elements.{All-append, All-cons, All-filter, All-head, All-map, All-more, All-nil, All-tail, All-take, All-weaker, filter_passes}
pub use Rattle.std.proofs.lemmas.List.Splits.{join_with_byte-slice_split, length-slice_split, slice_split-cons_no, slice_split-cons_yes}
pub use Rattle.std.proofs.lemmas.Option.{get_or_from_slice_get, slice_get_within}
pub use Rattle.std.proofs.lemmas.Result.{IfErr-weaker, IfOk-weaker, err_from_is_err_and, on_ok_weaker}
pub use Rattle.std.specs.List.{AllZip, join_with_byte, onto_first}
pub use Rattle.std.specs.Prelude.{IsUtf8}
