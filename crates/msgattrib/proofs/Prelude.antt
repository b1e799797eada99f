-- What the proofs of this crate cite of std, of the crates below and of its own definitions. Declares nothing.
pub use Rattle.msgattrib.specs.Internal.SelectedText.{AddsParts, AreSelected, HaveNoDuplicate, IsSelectionFault, hashes_of, may_repeat, stays_live}
pub use Rattle.msgattrib.specs.Prelude.{AllButHeader, ChangesNothing, ClearsFuzzy, ClearsObsolete, ClearsPrevious, Empties, FormsStay, IsChangedAt, IsMsgattribRun, IsUnwanted, KeepsFuzzy, KeepsObsolete, KeepsTranslated, KeepsUntranslated, MarksStay, OthersStay, RemovesFuzzy, RemovesObsolete, RestStays, SetsFuzzy, SetsObsolete, changed, error_line, every_entry, fuzzy_after, if_given, is_emptied, is_kept, kept, meets, obsolete_after, selected}
pub use Rattle.msgattrib.specs.declared.selection.Selection.{Selection}
pub use Rattle.po_entry.specs.Prelude.{AllDiffer, HasNoDuplicate, IsCatalogueEntry, IsDuplicateFaultOf, IsEntry, IsSameMessage, ReadsText, TextEntry, changed_at, entry_message, first_form, has_translation, is_header, is_live, is_live_header, message_hash, no_previous, set_fuzzy, set_obsolete}
pub use Rattle.po_reader.specs.Prelude.{IsReadSoFar, kept_entry}
pub use Rattle.std.proofs.Common.{All, AllPairs, Bool, Err, List, [], ap, append-nil, append_assoc, ap₂, arith, false, filter, get_or, if◌then◌else◌, inl, inr, length, map, not, refl, rules, subst, suc, sym, take, true, zero, ℕ, ◌&&◌, ◌++◌, ◌+◌, ◌<◌, ◌==◌, ◌||◌, ◌∙◌, ◌∷◌, ◌≡◌, ◌≢◌, ◌≤◌, ◌⊎◌}
pub use Rattle.std.proofs.Math.Bool.{and-false, and-true, or-true}
pub use Rattle.std.proofs.lemmas.List.{get_or_append_left, get_or_push, length-map, length_push, map-append, take_all, take_more}
pub use Rattle.std.proofs.lemmas.List.Elements.{All-filter, All-map, All-weaker, filter-append, filter_agree, filter_passes}
pub use Rattle.std.proofs.lemmas.Result.{err_from_is_err_and}
