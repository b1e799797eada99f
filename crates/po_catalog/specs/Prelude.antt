-- What contracts and proofs cite of the crates below and of this one. Declares nothing.
pub use Rattle.po_entry.specs.Prelude.{EntryTextFault, HasAdmittedCharset, HasNoDuplicate, HasTexts, IsCatalogueEntry, IsDuplicateFault, IsDuplicateFaultOf, IsEntry, IsFirstDuplicate, IsReadFault, IsRefusedEntry, Meets, ReadsText, RefusesMessage, TextEntry, bodies_eq, borrowed_entry, comments_eq, entries_of, entry_view, has_translation, in_input, is_header, is_live, is_live_header, join_out_of_memory, joined, joined_entries, kept_entries, no_previous, optional_eq, optional_text, out_of_memory, previous_eq, quoted_texts, slice_texts, stats_of, texts, texts_eq, texts_left, with_line}
pub use Rattle.po_syntax.specs.Prelude.{IsFaultOf, IsSmall}
pub use Rattle.po_writer.specs.Prelude.{AreParts, arranged, written_text}
pub use Rattle.po_catalog.specs.JoinedView.{input_entries, input_entry}
