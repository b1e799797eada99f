-- What a query is answered (GNU gettext manual, "Plural forms").
use Rattle.std.specs.Prelude.{ℕ, ◌==◌, Bool, true, false, nat_lt, min, List, [], length, slice_index_or, Option, None}
use Rattle.std.specs.Prelude.{Some, if◌then◌else◌}
use Rattle.plural_rule.specs.Prelude.{value, visited, RuleView}
use Rattle.mo_lookup.specs.declared.answer.Answer.{Answer}
use Rattle.mo_lookup.specs.Query.{Query}

-- the text, whether it is a translation, and how many nodes of the plural expression were evaluated
-- for it
pub record AnswerView : Type 0 where
  pub text : List ℕ
  pub found : Bool
  pub steps : ℕ

-- what the result of a look-up says
abbrev pub answer_view : Answer → AnswerView
answer_view answer = record { text = answer.text.now; found = answer.found; steps = answer.steps }

-- a form of a translation, by its index from 0; the empty text where there is none
abbrev pub form_at : List (List ℕ) → ℕ → List ℕ
form_at forms index = slice_index_or forms index []

-- the form that the value of a rule selects: form 0 where the value is undefined, isn't below the
-- rule's number of forms, or isn't below the number of forms that are there
abbrev pub selected_form : List (List ℕ) → ℕ → Option ℕ → List ℕ
selected_form forms nplurals None = form_at forms 0
selected_form forms nplurals (Some index) =
    if nat_lt index (min nplurals (length forms)) then form_at forms index else form_at forms 0

-- the msgid, or for a count that isn't 1 the plural
abbrev pub untranslated_text : List ℕ → Option (List ℕ × ℕ) → List ℕ
untranslated_text id None = id
untranslated_text id (Some plural) = if plural.1 == 1 then id else plural.0

-- the answer where there is no translation, for which the rule isn't evaluated
abbrev pub untranslated : Query → AnswerView
untranslated query = record { text = untranslated_text query.id query.plural; found = false; steps = 0 }

-- the answer from the forms of a translation; without a plural it is form 0, and the rule isn't
-- evaluated
abbrev pub translated : List (List ℕ) → RuleView → Option (List ℕ × ℕ) → AnswerView
translated forms rule None = record { text = form_at forms 0; found = true; steps = 0 }
translated forms rule (Some plural) =
    let index = value rule.tree plural.1 in
    record { text = selected_form forms rule.nplurals index; found = true; steps = visited rule.tree plural.1 }

-- the answer to a query, from the forms of its translation, where it has one, and the plural rule
abbrev pub answer : Option (List (List ℕ)) → RuleView → Query → AnswerView
answer None rule query = untranslated query
answer (Some forms) rule query = translated forms rule query.plural
