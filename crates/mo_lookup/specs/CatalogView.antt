-- What the messages of an MO file answer (GNU gettext manual, "The Format of GNU MO Files" and
-- "Plural forms").
use Rattle.std.specs.Prelude.{ℕ, List, [], Option, None, option_map, if◌then◌else◌}
use Rattle.std.specs.List.{find}
use Rattle.std.specs.Option.{option_map_or}
use Rattle.std.specs.Str.{bytes_eq}
use Rattle.plural_rule.specs.Prelude.{RuleView, IsRuleOf, expression_limit}
use Rattle.mo_file.specs.Prelude.{AreRising, key_of, keys, query_key, Message, forms}
use Rattle.mo_lookup.specs.Query.{Query, can_be_key}
use Rattle.mo_lookup.specs.Answer.{AnswerView, form_at, answer}

-- what clauses see of a catalogue: its messages, and its plural rule
pub record CatalogView : Type 0 where
  pub messages : List Message
  pub rule : RuleView

-- the translation that stands under a key: of the first message with that key, or none
abbrev pub translation_under : List ℕ → List Message → Option (List ℕ)
translation_under key messages = option_map (λ m. m.translation) (find (λ m. bytes_eq (key_of m.original) key) messages)

-- the header text: the first form under the empty key, or the empty text
abbrev pub header_text : List Message → List ℕ
header_text messages = option_map_or (λ translation. form_at (forms translation) 0) (translation_under [] messages) []

-- these are the messages and the rule of a catalogue: their keys rise, and the rule is that of
-- their header text
pub record IsCatalogView (messages : List Message) (rule : RuleView) : Type 0 where
  pub rising : AreRising (keys messages)
  pub rule_of_header : IsRuleOf expression_limit (header_text messages) rule

-- the forms of the message that a query asks for, or none: where no message has the key, and where
-- the query can't be a key
abbrev pub forms_found : List Message → Query → Option (List (List ℕ))
forms_found messages query =
    if can_be_key query.context query.id
    then option_map forms (translation_under (query_key query.context query.id) messages)
    else None

-- what a catalogue answers
abbrev pub answered : CatalogView → Query → AnswerView
answered catalog query = answer (forms_found catalog.messages query) catalog.rule query
