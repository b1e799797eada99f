-- What the definitions of this crate say of look-ups that were worked out by hand (GNU gettext manual,
-- "Plural forms" and "The Format of GNU MO Files"). tests/mutants/mo_lookup/definitions has a wrong form
-- of each definition, which one of these refuses.
use Rattle.std.specs.Prelude.{◌≡◌, refl, ℕ, ◌+◌, ◌^◌, ◌<◌, true, false, List, [], ◌∷◌, ◌++◌, Some, None, map, filter, codes}
use Rattle.std.specs.Borrow.{Bor}
use Rattle.std.specs.List.{range_with_len}
use Rattle.std.specs.declared.cmp.Ordering.TheVariants.{Less, Equal, Greater}
use Rattle.std.proofs.Common.{arith}
use Rattle.plural_rule.specs.declared.rule.Source.TheVariants.{Header}
use Rattle.plural_rule.specs.Evaluator.{Count, Not}
use Rattle.plural_rule.specs.Prelude.{RuleView, IsRuleOf}
use Rattle.mo_file.specs.Prelude.{Message}
use Rattle.mo_lookup.specs.Search.{halvings_within, search_bound, BoundHalves, BoundIsLogarithm, half, keys_left, comparisons_within, comparisons, query_comparisons}
use Rattle.mo_lookup.specs.Query.{Query, query, is_separator, has_no_separator, can_be_key}
use Rattle.mo_lookup.specs.declared.answer.Answer.{Answer}
use Rattle.mo_lookup.specs.Answer.{AnswerView, answer_view, form_at, selected_form, untranslated_text, untranslated, translated, answer}
use Rattle.mo_lookup.specs.CatalogView.{CatalogView, translation_under, header_text, IsCatalogView, forms_found, answered}

pub halvings_are : (halvings_within 10 8 ∷ halvings_within 2 8 ∷ [] ≡ 4 ∷ 2 ∷ [])
    × (map search_bound (0 ∷ 1 ∷ 2 ∷ 3 ∷ 4 ∷ 1000 ∷ []) ≡ 0 ∷ 1 ∷ 2 ∷ 2 ∷ 3 ∷ 10 ∷ [])
unfolding search_bound
halvings_are = (refl, refl)

-- the msgid "a" and the plural "as", for a count, and "a" in a context with an EOT
abbrev pub of_count : ℕ → Query
of_count count = record { context = None; id = codes "a"; plural = Some (codes "as", count) }

abbrev pub unclean : Query
unclean = record { context = Some (99 ∷ 4 ∷ []); id = codes "a"; plural = None }

pub keys_can_be : (filter is_separator (range_with_len 0 256) ≡ 0 ∷ 4 ∷ [])
    × (map has_no_separator (codes "a" ∷ (97 ∷ 4 ∷ []) ∷ (0 ∷ []) ∷ [] ∷ []) ≡ true ∷ false ∷ false ∷ true ∷ [])
    × (can_be_key None (codes "a") ∷ can_be_key (Some []) [] ∷ can_be_key (Some (99 ∷ 4 ∷ [])) (codes "a")
    ∷ can_be_key None (97 ∷ 0 ∷ []) ∷ [] ≡ true ∷ true ∷ false ∷ false ∷ [])
keys_can_be = (refl, refl, refl)

abbrev pub answer_of_two_steps : List ℕ → AnswerView
answer_of_two_steps text = record { text = text; found = true; steps = 2 }

-- of three forms, under rules of two, three and four
pub texts_are_selected : (map (form_at (codes "x" ∷ codes "y" ∷ [])) (0 ∷ 1 ∷ 2 ∷ []) ≡ codes "x" ∷ codes "y" ∷ [] ∷ [])
    × (map (selected_form (codes "x" ∷ codes "y" ∷ codes "z" ∷ []) 2) (None ∷ Some 1 ∷ Some 2 ∷ [])
    ++ map (selected_form (codes "x" ∷ codes "y" ∷ codes "z" ∷ []) 3) (Some 2 ∷ [])
    ++ map (selected_form (codes "x" ∷ codes "y" ∷ codes "z" ∷ []) 4) (Some 3 ∷ []) ≡ codes "x" ∷ codes "y"
    ∷ codes "x" ∷ codes "z" ∷ codes "x" ∷ [])
    × (untranslated_text (codes "a") None ∷ map (λ count. untranslated_text (codes "a") (Some (codes "as", count)))
    (0 ∷ 1 ∷ 2 ∷ []) ≡ codes "a" ∷ codes "as" ∷ codes "a" ∷ codes "as" ∷ [])
texts_are_selected = (refl, refl, refl)

-- two forms, and `!n`, so that 0 has one of its own
abbrev pub none_apart : RuleView
none_apart = record { source = Header; nplurals = 2; tree = Not Count }

pub answers_are : (untranslated (of_count 3) ≡ record { text = codes "as"; found = false; steps = 0 })
    × (map (λ count. translated (codes "x" ∷ codes "y" ∷ []) none_apart (Some (codes "as", count)))
    (0 ∷ 1 ∷ 1000000 ∷ []) ≡ answer_of_two_steps (codes "y") ∷ answer_of_two_steps (codes "x")
    ∷ answer_of_two_steps (codes "x") ∷ [])
    × (answer (Some (codes "x" ∷ codes "y" ∷ [])) none_apart (of_count 0) ∷ answer None none_apart (of_count 2) ∷ []
    ≡ answer_of_two_steps (codes "y") ∷ record { text = codes "as"; found = false; steps = 0 } ∷ [])
answers_are = (refl, refl, refl)

abbrev pub four_keys : List (List ℕ)
four_keys = codes "a" ∷ codes "b" ∷ codes "c" ∷ codes "d" ∷ []

-- the key in the middle of four is the third
-- c, b and a for the last, which is below them all
pub keys_are_compared : (half Less four_keys ++ half Equal four_keys ++ half Greater four_keys ≡ codes "d" ∷ codes "a"
    ∷ codes "b" ∷ [])
    × (keys_left four_keys (codes "d") ∷ keys_left four_keys (codes "aa") ∷ keys_left four_keys (codes "c") ∷ []
    ≡ (codes "d" ∷ []) ∷ (codes "a" ∷ codes "b" ∷ []) ∷ [] ∷ [])
    × (comparisons_within 4 four_keys (codes "d") ∷ comparisons_within 1 four_keys (codes "d")
    ∷ comparisons_within 4 four_keys (codes "c") ∷ [] ≡ 2 ∷ 1 ∷ 1 ∷ [])
    × (map (comparisons four_keys) (codes "d" ∷ codes "c" ∷ codes "a" ∷ codes "A" ∷ []) ≡ 2 ∷ 1 ∷ 3 ∷ 3 ∷ [])
unfolding comparisons
keys_are_compared = (refl, refl, refl, refl)

-- a header, and "a" with the plural "as" and two forms
abbrev pub two_messages : List Message
two_messages =
    record { original = []; translation = codes "Language: de\n" }
    ∷ record { original = 97 ∷ 0 ∷ 97 ∷ 115 ∷ []; translation = 120 ∷ 0 ∷ 121 ∷ [] }
    ∷ []

pub rule_is_of_header : (rule : RuleView) → IsCatalogView two_messages rule
    → IsRuleOf 4096 (codes "Language: de\n") rule
rule_is_of_header rule view = view.rule_of_header

pub messages_are_found :
    (query_comparisons two_messages (of_count 2) ∷ query_comparisons two_messages unclean ∷ [] ≡ 1 ∷ 0 ∷ [])
    × (map (λ key. translation_under key two_messages) (codes "a" ∷ [] ∷ codes "b" ∷ []) ≡ Some (120 ∷ 0 ∷ 121 ∷ [])
    ∷ Some (codes "Language: de\n") ∷ None ∷ [])
    × (header_text two_messages ∷ header_text [] ∷ [] ≡ codes "Language: de\n" ∷ [] ∷ [])
    × (forms_found two_messages (of_count 1) ∷ forms_found two_messages unclean ∷ []
    ≡ Some ((120 ∷ []) ∷ (121 ∷ []) ∷ []) ∷ None ∷ [])
unfolding comparisons
messages_are_found = (refl, refl, refl, refl)

abbrev pub catalogue : CatalogView
catalogue = record { messages = two_messages; rule = none_apart }

pub answers_of_catalogue : answered catalogue (of_count 0) ∷ answered catalogue unclean ∷ []
    ≡ answer_of_two_steps (codes "y") ∷ record { text = codes "a"; found = false; steps = 0 } ∷ []
answers_of_catalogue = refl

-- what the laws say of 1,000 and of a million keys
pub thousand_halves_ten_times : BoundHalves → search_bound 1000 ≡ 1 + search_bound 500
thousand_halves_ten_times law = law.1 1000 (omega arith)

pub bound_of_a_million : BoundIsLogarithm → 1000000 < 2 ^ search_bound 1000000
bound_of_a_million law = (law 1000000 (omega arith)).1

pub arguments_make_a_query : (context id plural : Bor (List ℕ))
    → query (Some context) id.now (Some (plural, 3))
    ≡ record { context = Some context.now; id = id.now; plural = Some (plural.now, 3) }
arguments_make_a_query context id plural = refl

pub answers_are_seen : (answer : Answer)
    → answer_view answer ≡ record { text = answer.text.now; found = answer.found; steps = answer.steps }
answers_are_seen answer = refl
