-- What contracts and proofs cite of the crates below and of this one. Declares nothing.
pub use Rattle.po_entry.specs.Prelude.{IsCatalogueEntry, IsEntry, ReadsText, TextEntry, forms_left, texts_left, with_line}
pub use Rattle.po_writer.specs.WrittenText.{all_flags, arranged, comment_lines, elements_line, entry_lines, form_lines, in_order, keyword_lines, optional_lines, own_lines, own_prefix, previous_lines, previous_prefix, string_line, text_lines, translation_lines, with_entry, written_text}
pub use Rattle.po_writer.specs.Parts.{AreAdded, AreParts, joined_parts}
pub use Rattle.po_writer.specs.Laws.{EachEndsInItsOnlyFeed, FollowEntries, HasParts, IsArranged, IsOwnPrefix, IsPreviousPrefix, StandInOrder, TextsAreWritten, WritesComments, WritesElements, WritesEntry, WritesFlags, WritesForms, WritesFurther, WritesKeyword, WritesOptional, WritesText, WritesTranslation}
