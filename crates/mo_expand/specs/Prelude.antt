-- What contracts and proofs cite of the crates below and of this one. Declares nothing.
pub use Rattle.mo_file.specs.Prelude.{AreRising, HasMagicOf, IsMoFile, Message, borrowed_message, end_at, key_cmp, key_of, keys, message_count, messages_of, messages_of_borrowed, string_at}
pub use Rattle.mo_expand.specs.Segments.{from_segment, inserted, join, name_of, part, terminated_part, text_at, text_of}
unfoldable pub use Rattle.mo_expand.specs.Segments.{joined}
pub use Rattle.mo_expand.specs.Laws.{AreSegments, ExampleIsCompleted, ExampleNeedsItsText, ExpandedFileIsMoFile, FirstTextCounts, IsBeforeNul, IsName, IsPart, IsSystemNumber, MessageIsAddedInOrder, MessageIsItsStrings, MoFileIsInOrder, OneOrder, OrderAloneIsTold, SameMessageUnderKey, SortedFileIsMoFile, TextIsItsSegments}
pub use Rattle.mo_expand.specs.Expanding.{IsExpanded, message_from, system_count, system_message}
pub use Rattle.mo_expand.specs.ExpandedFile.{IsExpandedFile, IsNotExpanded, beside, expanded_file, expanded_messages, strings_len, system_messages}
unfoldable pub use Rattle.mo_expand.specs.ExpandedFile.{with_message, with_messages}
pub use Rattle.mo_expand.specs.SortedFile.{HaveDistinctKeys, HaveTooLargeFile, IsFileInAnyOrder, IsFileOfSorted, IsInOrder, IsNotSorted, IsSortedFile}
