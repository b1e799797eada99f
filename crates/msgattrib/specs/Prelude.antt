-- What contracts and proofs cite of the crates below and of this one. Declares nothing.
pub use Rattle.po_entry.specs.Prelude.{IsCatalogueEntry, ReadsText, TextEntry, entry_view, has_translation, is_header, is_live_header, no_previous, set_fuzzy, set_obsolete}
pub use Rattle.runs.specs.Prelude.{Asks, RunsInput, asked_for, asking, is_standard, run_view}
pub use Rattle.msgattrib.specs.Msgattrib.{IsMsgattribRun, error_line}
pub use Rattle.msgattrib.specs.Options.{IsEither, IsSelection}
pub use Rattle.msgattrib.specs.Selected.{ChangesNothing, IsChangedAt, OthersStay, changed, every_entry, fuzzy_after, if_given, is_emptied, is_kept, meets, obsolete_after, selected}
pub use Rattle.msgattrib.specs.Laws.{AllButHeader, ClearsFuzzy, ClearsObsolete, ClearsPrevious, Empties, FormsStay, IsUnwanted, KeepsFuzzy, KeepsObsolete, KeepsTranslated, KeepsUntranslated, MarksStay, RemovesFuzzy, RemovesObsolete, RestStays, SetsFuzzy, SetsObsolete, kept}
