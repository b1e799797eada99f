-- What contracts and proofs cite of the crates below and of this one. Declares nothing.
pub use Rattle.mo_file.specs.Prelude.{AreRising, key_cmp, messages_of_borrowed, query_key}
pub use Rattle.po_entry.specs.Prelude.{IsCatalogueEntry, ReadsText, TextEntry, digest_of, join_out_of_memory, joined, joined_entries, key_writes, slice_texts, stats_of}
pub use Rattle.po_compile.specs.Compiling.{AreMessagesOf, compiled_list, is_compiled, message_of, original_of, plural_part, translation_of, HasSmallLayout, IsCompilation, IsReportedFault, definition, header_of, layout_fault, meant}
pub use Rattle.po_compile.specs.Accepted.{AreAccepted, AreCompiled, AreRead, HasJoinedDuplicate, HasStatistics, IsCompileFault, IsFaultOfInput, IsReadingFault, IsTooLarge, fault_input, fault_of_input, fault_of_only_input}
pub use Rattle.po_compile.specs.Headline.{AcceptedOrFault, CataloguesAreOne, LookUpMeansEntries, MessagesAreOne, MessagesMeanEntries, NoFaultWhereAccepted, NoFaultWhereDistinct, OneCompileFault, OneTextFault}
pub use Rattle.po_compile.specs.Laws.{ComesBack, CompiledCanBeKeys, CompiledListIsKept, IsToBeCompiled, IsTranslated, JoinedEntriesCanStand, KeepsCompiled, LayoutsAreLimited, MayBeUsed, MessagesDiffer, MessagesHaveParts, OneMoreChangesNoOther, OneTextIsRead, TextsComeBack}
pub use Rattle.po_compile.specs.Collecting.{AreCollected, CompiledView, HoldCatalogues, LiveMessage, OfAllInputs, compiled_inputs, compiled_message, compiled_view, live_message, live_messages, status_of}
