-- The names of the locales whose catalogues are looked for ("Locale Environment Variables" and
-- "Specifying a Priority List of Languages" of the GNU gettext manual).
use Rattle.std.specs.Prelude.{◌≡◌, refl, ℕ, Bool, not, ◌&&◌, ◌||◌, ◌==◌, if◌then◌else◌, List, [], ◌∷◌, ◌++◌, length, take, drop}
use Rattle.std.specs.Prelude.{filter, take_while, codes}
use Rattle.std.specs.List.{list_any, flat_map, slice_split, position_or_len}
use Rattle.std.specs.Str.{bytes_eq}
use Rattle.memchr.specs.Find.{is_byte}

-- the locales `C` and `POSIX`, in which nothing is translated
unfoldable pub is_c_locale : List ℕ → Bool
is_c_locale name = bytes_eq name (codes "C") || bytes_eq name (codes "POSIX")

-- a name that can stand in a path: it isn't empty and has no slash
abbrev pub is_path_part : List ℕ → Bool
is_path_part name = not (length name == 0) && not (list_any (is_byte 47) name)

-- what stands before the first such byte, or all
unfoldable pub before : ℕ → List ℕ → List ℕ
before a name = take (position_or_len (is_byte a) name) name

-- what stands from the first such byte on, or nothing
unfoldable pub from_first : ℕ → List ℕ → List ℕ
from_first a name = drop (position_or_len (is_byte a) name) name

-- of L[_T][.C][@M], which is cut at the first `@`, then the first `.`, then the first `_`: the
-- name, L_T@M, L@M, L_T and L
unfoldable pub candidates_of_name : List ℕ → List (List ℕ)
candidates_of_name name =
    let modifier = from_first 64 name in
    let base = before 46 (before 64 name) in
    let language = before 95 base in
    name ∷ (base ++ modifier) ∷ (language ++ modifier) ∷ base ∷ language ∷ []

-- the parts of LANGUAGE that count, up to the first `C` or `POSIX`
unfoldable pub language_parts : List ℕ → List (List ℕ)
language_parts text =
    filter is_path_part (take_while (λ part. not (is_c_locale part)) (slice_split (is_byte 58) text))

-- the languages that are asked for: those of LANGUAGE, where it isn't empty, else the locale
abbrev pub languages : List ℕ → List ℕ → List (List ℕ)
languages locale language = if length language == 0 then locale ∷ [] else language_parts language

-- nothing is translated: there is no locale, its name has a slash, or it is `C` or `POSIX`
abbrev pub is_untranslated : List ℕ → Bool
is_untranslated locale = is_c_locale locale || not (is_path_part locale)

-- the candidates of a locale and LANGUAGE, each as often as it comes; none without a locale, in an
-- untranslated one, and in one whose name has a slash
abbrev pub candidates : List ℕ → List ℕ → List (List ℕ)
candidates locale language =
    if is_untranslated locale then [] else flat_map candidates_of_name (languages locale language)

-- of LANGUAGE what stands before `C` counts, but for names with a slash; in a locale with one nothing is translated
pub candidates_are : (candidates (codes "de") (codes "a/b:fr_CA.UTF-8@x:C:it")
    ≡ codes "fr_CA.UTF-8@x" ∷ codes "fr_CA@x" ∷ codes "fr@x" ∷ codes "fr_CA" ∷ codes "fr" ∷ [])
    × (candidates (codes "a/b") (codes "it") ≡ [])
unfolding language_parts candidates_of_name from_first before is_c_locale
candidates_are = (refl, refl)
