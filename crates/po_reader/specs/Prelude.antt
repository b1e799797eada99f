-- What contracts and proofs cite of the crates below and of this one. Declares nothing.
pub use Rattle.po_entry.specs.Prelude.{AreLaid, CommentText, EntriesStop, EntryTextFault, HasAdmittedCharset, HasTexts, IsCatalogueEntry, IsReadFault, ItemsFault, ItemsStop, Lacks, PreviousText, ReadsText, SpellsEntries, TextEntry, after_nul, digest_of, entries_in, head_bytes, is_fuzzy_flag, is_not_empty, last_line, listed_flags, listed_references, quoted_texts, rank, seed_of, slice_texts, trimmed, with_flag, with_previous}
pub use Rattle.po_syntax.specs.Prelude.{IsFaultOf, IsString, LeftStops, TextItem, line_of, view, views}
pub use Rattle.po_reader.specs.PieceRead.{AddsReading, EndsEntry, FaultsStay, IsLeftError, IsLeftFault, IsReadSoFar, IsShorter, IsTextError, OpenPieces, ReadsOn, ReadsPiece, kept_entry, kept_texts, without_comments}
