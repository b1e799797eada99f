-- A name of a locale as two texts, and the names after a position.
use Rattle.std.specs.Prelude.{ℕ, List, [], ◌∷◌, ◌++◌, ◌==◌, drop, length, if◌then◌else◌}
use Rattle.std.specs.List.{flat_map}
use Rattle.locale_names.specs.Names.{candidates_of_name, is_untranslated, language_parts}
use Rattle.locale_names.specs.declared.name.Candidate.{Candidate}
use Rattle.locale_names.specs.declared.position.Position.{Position}

-- the name
abbrev pub text_of : Candidate → List ℕ
text_of candidate = candidate.prefix.now ++ candidate.rest.now

-- the candidates of languages, after some of the first language
unfoldable pub names_left : ℕ → List (List ℕ) → List (List ℕ)
names_left given [] = []
names_left given (name ∷ names) = drop given (candidates_of_name name) ++ flat_map candidates_of_name names

-- the candidates from a position on: of the locale, or of the languages after the first bytes of LANGUAGE
unfoldable pub names_from : List ℕ → List ℕ → Position → List (List ℕ)
names_from locale language position =
    if is_untranslated locale then []
    else names_left position.given
    (if length language == 0 then locale ∷ [] else language_parts (drop position.offset language))
