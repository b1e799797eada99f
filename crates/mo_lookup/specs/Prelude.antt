-- What contracts and proofs cite of the crates below and of this one. Declares nothing.
pub use Rattle.mo_file.specs.Prelude.{AreRising, FileView, IsFirstFault, IsMoFile, IsTranslationAt, Message, comparisons_before, forms, key_at, key_cmp, keys, query_key, translations}
pub use Rattle.plural_rule.specs.Prelude.{IsRuleOf, RuleView, expression_limit, nodes, program as program_of, program_in, rule_in, tree_of, value, visited}
pub use Rattle.mo_lookup.specs.Search.{BoundHalves, BoundIsLogarithm, IsIndexOf, SearchHalves, SearchIsBounded, comparisons_within, half, halvings_within, keys_left, query_comparisons}
unfoldable pub use Rattle.mo_lookup.specs.Search.{comparisons, search_bound}
pub use Rattle.mo_lookup.specs.Query.{Query, can_be_key, given, has_no_separator, is_separator, query}
pub use Rattle.mo_lookup.specs.Answer.{AnswerView, answer, answer_view, form_at, selected_form, translated, untranslated, untranslated_text}
pub use Rattle.mo_lookup.specs.Place.{IsFormAt, IsPlace, located_view, untranslated_place}
pub use Rattle.mo_lookup.specs.CatalogView.{CatalogView, IsCatalogView, answered, forms_found, header_text, translation_under}
pub use Rattle.mo_lookup.specs.Chain.{answering_nodes, asked, chain_answer_view, chain_answered, chain_bound, chain_comparisons, translates}
pub use Rattle.mo_lookup.specs.Laws.{ChainAsksAll, ChainAsksNone, ChainAsksUpToFirst, EachKeyFindsItsTranslation, KeysLackNulAndEot, LacksNulAndEot, NoneHas, OtherKeysFindNone}
