-- What C asks, and what it is answered, in the words of mo_lookup.
use Rattle.std.specs.Prelude.{◌≡◌, ◌≢◌, ℕ, ◌+◌, ◌<◌, ◌==◌, List, Some, None, length, slice_get, if◌then◌else◌}
use Rattle.std.specs.List.{slice_range}
use Rattle.mo_lookup.specs.declared.place.Place.{Place}
use Rattle.mo_lookup.specs.declared.place.Place.TheVariants.{Translation, Id, Plural}
use Rattle.mo_lookup.specs.Prelude.{AnswerView, untranslated_place, Query}
use Rattle.pokit_c.specs.declared.query.PokitLocated.{PokitLocated}
use Rattle.pokit_c.specs.declared.query.PokitQuery.{PokitQuery}

-- the query that C makes
abbrev pub query_view : PokitQuery → Query
query_view query = record {
  context = if query.has_context == 0 then None else Some query.context.now;
  id = query.id.now;
  plural = if query.has_plural == 0 then None else Some (query.plural.now, query.count);
}

-- the number of a place
abbrev pub place_number : Place → ℕ
place_number Id = 0
place_number Plural = 1
place_number (Translation start end) = 2

-- the text that C finds: so many bytes of the file from an offset on, or the query's plural or msgid
abbrev pub located_text : List ℕ → PokitQuery → PokitLocated → List ℕ
located_text bytes query located =
    if located.place == 2 then slice_range bytes located.offset (located.offset + located.len)
    else if located.place == 1 then query.plural.now
    else query.id.now

-- what an answer says
abbrev pub answer_view : List ℕ → PokitQuery → PokitLocated → AnswerView
answer_view bytes query located = record {
  text = located_text bytes query located;
  found = located.place == 2;
  steps = located.steps;
}

-- a text of the file ends before the end of the file, and the byte after it is NUL
abbrev pub IsTerminated : List ℕ → PokitLocated → Type 0
IsTerminated bytes located =
    located.place ≡ 2
    → (located.offset + located.len < length bytes) × (slice_get bytes (located.offset + located.len) ≡ Some 0)

-- a text that isn't of the file is the msgid, or for a plural and a count that isn't 1 the plural
abbrev pub IsOfQuery : PokitQuery → PokitLocated → Type 0
IsOfQuery query located =
    located.place ≢ 2
    → (located.place ≡ place_number (untranslated_place (query_view query).plural))
    × (located.offset ≡ 0)
    × (located.len ≡ 0)
