-- What contracts and proofs cite of the crates below and of this one. Declares nothing.
pub use Rattle.mo_expand.specs.Prelude.{IsExpanded, IsFileInAnyOrder, IsFileOfSorted, IsInOrder, IsNotExpanded, IsNotSorted, expanded_file, expanded_messages, system_count, system_message}
pub use Rattle.mo_file.specs.Prelude.{HasMagicOf, IsFirstFault, IsMoFile, Message, comparisons_before, index, kind, message_count}
pub use Rattle.mo_lookup.specs.Prelude.{CatalogView, IsPlace, answered, can_be_key, given, located_view, query_comparisons, search_bound}
pub use Rattle.plural_rule.specs.Prelude.{expression_limit, nodes, program as program_of, tree_of}
pub use Rattle.pokit_c.specs.Sorted.{AnswersAlike}
pub use Rattle.pokit_c.specs.Opened.{IsOpened}
pub use Rattle.pokit_c.specs.QueryView.{IsOfQuery, IsTerminated, answer_view, query_view}
