-- What contracts and proofs cite of the definitions of this crate. Declares nothing.
pub use Rattle.mo_file.specs.Pairs.{Message, borrowed_message, message, messages_of_borrowed, messages_of_pairs, originals, string_of, strings_of, translations}
pub use Rattle.mo_file.specs.Key.{AreRising, is_nul, key_at, key_cmp, key_of, keys, query_key}
pub use Rattle.mo_file.specs.MessageParts.{IsCut, Lacks, context_of, forms, id_of, is_eot, plural_of}
unfoldable pub use Rattle.mo_file.specs.ByteOrder.{word_at, word_bytes}
pub use Rattle.mo_file.specs.FileHeader.{HasMagicOf, hash_size, magic, message_count, originals_table, revision, translations_table}
pub use Rattle.mo_file.specs.Strings.{end_at, message_at, offset_at, original_at, translation_at}
unfoldable pub use Rattle.mo_file.specs.Strings.{messages_of, string_at}
pub use Rattle.mo_file.specs.Fault.{HasFault, HasFaultIn, IsBefore, IsFirstFault, IsNotRising, IsOutside, IsUnterminated, comparisons_before, index, kind}
pub use Rattle.mo_file.specs.View.{FileView, IsMoFile, IsStringAt, IsTranslationAt}
pub use Rattle.mo_file.specs.Writing.{header, layout, originals_offset, table, terminated, translations_offset}
pub use Rattle.mo_file.specs.Building.{IsBuildFault, LayoutFits}
pub use Rattle.mo_file.specs.Laws.{IsKnownMajor, KnownRevisionsAreValid, LayoutIsMoFile, MoFileOrFault, NoFaultOfMoFile, NoHashTableIsLaidOut, OneFirstFault, OneMessageList, OtherRevisionsAreRefused, big_file_of_one, file_of_two, layout_of_revision, one_message, two_messages}
