-- What a chain of catalogues answers: the first one that translates a query does (GNU gettext
-- manual, "Specifying a Priority List of Languages").
use Rattle.std.specs.Prelude.{ℕ, ◌+◌, Bool, List, length, min, if◌then◌else◌}
use Rattle.std.specs.List.{find, position_or_len, sum_by}
use Rattle.std.specs.Option.{is_some, option_map_or}
use Rattle.plural_rule.specs.Prelude.{nodes}
use Rattle.mo_lookup.specs.declared.chain.ChainAnswer.{ChainAnswer}
use Rattle.mo_lookup.specs.Search.{search_bound, query_comparisons}
use Rattle.mo_lookup.specs.Query.{Query, can_be_key}
use Rattle.mo_lookup.specs.Answer.{AnswerView, untranslated}
use Rattle.mo_lookup.specs.CatalogView.{CatalogView, forms_found, answered}

-- what the result of a look-up in a chain says
abbrev pub chain_answer_view : ChainAnswer → AnswerView
chain_answer_view answer = record { text = answer.text.now; found = answer.found; steps = answer.steps }

-- whether a catalogue translates a query
abbrev pub translates : Query → CatalogView → Bool
translates query catalog = is_some (forms_found catalog.messages query)

-- what a chain answers
abbrev pub chain_answered : List CatalogView → Query → AnswerView
chain_answered chain query =
    option_map_or (λ catalog. answered catalog query) (find (translates query) chain) (untranslated query)

-- how many catalogues of a chain are asked: those up to the first that translates the query, else
-- all of them; none where the query can't be a key
abbrev pub asked : List CatalogView → Query → ℕ
asked chain query =
    if can_be_key query.context query.id then min (length chain) (position_or_len (translates query) chain + 1) else 0

-- how many keys of these catalogues are compared, each asked once
abbrev pub chain_comparisons : List CatalogView → Query → ℕ
chain_comparisons catalogues query = sum_by (λ catalog. query_comparisons catalog.messages query) catalogues

-- the most comparisons that asking these catalogues takes
abbrev pub chain_bound : List CatalogView → ℕ
chain_bound catalogues = sum_by (λ catalog. search_bound (length catalog.messages)) catalogues

-- how many nodes the plural expression of the answering catalogue has, and 0 where none answers
abbrev pub answering_nodes : List CatalogView → Query → ℕ
answering_nodes chain query = option_map_or (λ catalog. nodes catalog.rule.tree) (find (translates query) chain) 0
