-- Where the text of an answer is ("The Format of GNU MO Files" and "Plural forms").
use Rattle.std.specs.Prelude.{◌≡◌, ℕ, ◌≤◌, ◌⊎◌, ◌==◌, Bool, true, false, List, [], length, slice_get, Option, None}
use Rattle.std.specs.Prelude.{Some, if◌then◌else◌}
use Rattle.std.specs.List.{slice_range}
use Rattle.std.specs.Option.{option_map_or}
use Rattle.mo_lookup.specs.declared.place.Place.{Place}
use Rattle.mo_lookup.specs.declared.place.Place.TheVariants.{Translation, Id, Plural}
use Rattle.mo_lookup.specs.declared.place.Located.{Located}
use Rattle.mo_lookup.specs.Query.{Query}
use Rattle.mo_lookup.specs.Answer.{AnswerView}

-- the text at a place: a part of the file, the msgid or the plural
abbrev pub text_at : List ℕ → List ℕ → Option (List ℕ × ℕ) → Place → List ℕ
text_at bytes id plural (Translation start end) = slice_range bytes start end
text_at bytes id plural Id = id
text_at bytes id plural Plural = option_map_or (λ p. p.0) plural []

-- whether a place is in the file
abbrev pub is_translation : Place → Bool
is_translation (Translation start end) = true
is_translation Id = false
is_translation Plural = false

-- where the text is if there is no translation: at the msgid, or for a count that isn't 1 at the
-- plural
abbrev pub untranslated_place : Option (List ℕ × ℕ) → Place
untranslated_place None = Id
untranslated_place (Some plural) = if plural.1 == 1 then Id else Plural

-- the places that an answer can have: a part of the file that a NUL follows, or the one of the
-- query's texts that answers where there is no translation
abbrev pub IsPlace : List ℕ → Option (List ℕ × ℕ) → Place → Type 0
IsPlace bytes plural (Translation start end) = (start ≤ end) × (slice_get bytes end ≡ Some 0)
IsPlace bytes plural Id = untranslated_place plural ≡ Id
IsPlace bytes plural Plural = untranslated_place plural ≡ Plural

-- what the result of a look-up that locates its text says
abbrev pub located_view : List ℕ → Query → Located → AnswerView
located_view bytes query located = record {
  text = text_at bytes query.id query.plural located.place;
  found = is_translation located.place;
  steps = located.steps;
}

-- internal: the form is what a translation has from one offset up to another, where the translation
-- ends or has a NUL
pub record IsFormAt (translation : List ℕ) (start end : ℕ) (form : List ℕ) : Type 0 where
  pub order : start ≤ end
  pub inside : end ≤ length translation
  pub text : form ≡ slice_range translation start end
  pub ends : (end ≡ length translation) ⊎ (slice_get translation end ≡ Some 0)
