-- The names of the locales whose catalogues are looked for, in their order ("Locale Environment
-- Variables", "Locale Names" and "Specifying a Priority List of Languages" of the GNU gettext manual).
use Rattle.std.specs.Prelude.{ℕ, ◌==◌, if◌then◌else◌, List, [], ◌∷◌, ◌++◌, length, fold, Option, Some, None, unwrap_or, ◌≡◌, ◌≢◌, ◌⊎◌, codes, All, Contains}
use Rattle.std.specs.Borrow.{Bor}
use Rattle.std.specs.List.{list_any, join_with_byte}
use Rattle.std.specs.Option.{option_or}
use Rattle.std.specs.Str.{bytes_eq}
use Rattle.mo_file.specs.Prelude.{Lacks}
use Rattle.locale_names.specs.Prelude.{candidates}
use Rattle.gettext.specs.declared.candidates.Environment.{Environment}
use Rattle.gettext.specs.Environment.{EnvironmentView, HasText, HasNoText}

-- a variable counts where it is set and not empty
abbrev pub non_empty : Option (Bor (List ℕ)) → Option (List ℕ)
non_empty None = None
non_empty (Some value) = if length value.now == 0 then None else Some value.now

-- the locale: the first of LC_ALL, LC_MESSAGES and LANG that counts, or nothing
abbrev pub locale_of : Environment → List ℕ
locale_of env = unwrap_or
    (option_or (non_empty env.lc_all) (option_or (non_empty env.lc_messages) (non_empty env.lang))) []

-- one more name, if it isn't among those before
unfoldable pub with_name : List (List ℕ) → List ℕ → List (List ℕ)
with_name names name = if list_any (λ known. bytes_eq known name) names then names else names ++ name ∷ []

-- each name at its first place alone
abbrev pub distinct : List (List ℕ) → List (List ℕ)
distinct names = fold with_name [] names

-- the candidates of an environment, the first to be asked first
abbrev pub candidates_of : Environment → List (List ℕ)
candidates_of env = distinct (candidates (locale_of env) (unwrap_or (non_empty env.language) []))

-- the locale: that of LC_ALL, else that of LC_MESSAGES, else that of LANG, else none
pub data IsLocale (env : EnvironmentView) : List ℕ → Type 0 where
  by_lc_all : {locale : List ℕ} → HasText env.lc_all locale → IsLocale env locale
  by_lc_messages : {locale : List ℕ} → HasNoText env.lc_all → HasText env.lc_messages locale → IsLocale env locale
  by_lang : {locale : List ℕ} → HasNoText env.lc_all → HasNoText env.lc_messages → HasText env.lang locale
      → IsLocale env locale
  no_locale : HasNoText env.lc_all → HasNoText env.lc_messages → HasNoText env.lang → IsLocale env []

-- nothing, or a text with this byte first
abbrev pub IsEmptyOrBegins : ℕ → List ℕ → Type 0
IsEmptyOrBegins a [] = Unit {0}
IsEmptyOrBegins a (b ∷ text) = b ≡ a

-- the name of a locale by its parts, LL[_CC][.CODESET][@VARIANT]
pub record IsLocaleName (name language country codeset variant : List ℕ) : Type 0 where
  pub name_is : name ≡ ((language ++ country) ++ codeset) ++ variant
  pub country_first : IsEmptyOrBegins 95 country
  pub codeset_first : IsEmptyOrBegins 46 codeset
  pub variant_first : IsEmptyOrBegins 64 variant
  pub in_language : Lacks 95 language
  pub in_country : Lacks 46 (language ++ country)
  pub in_codeset : Lacks 64 ((language ++ country) ++ codeset)

-- a name is asked for as it is, and then without its codeset, country and variant
pub data HasFive (name : List ℕ) : List (List ℕ) → Type 0 where
  five : {language country codeset variant : List ℕ} → IsLocaleName name language country codeset variant
      → HasFive name
      (name ∷ ((language ++ country) ++ variant) ∷ (language ++ variant) ∷ (language ++ country) ∷ language ∷ [])

-- the names that each of these is asked for by, one after the other
pub data HaveFive : List (List ℕ) → List (List ℕ) → Type 0 where
  no_name : HaveFive [] []
  next_name : {name : List ℕ} {names five others : List (List ℕ)} → HasFive name five → HaveFive names others
      → HaveFive (name ∷ names) (five ++ others)

-- the locales `C` and `POSIX`, in which nothing is translated
abbrev pub IsCLocale : List ℕ → Type 0
IsCLocale name = (name ≡ codes "C") ⊎ (name ≡ codes "POSIX")

-- it isn't empty and has no slash
abbrev pub CanStandInPath : List ℕ → Type 0
CanStandInPath name = (name ≢ []) × Lacks 47 name

-- of the parts of LANGUAGE those that count: those that can stand in a path, up to the first `C` or
-- `POSIX`
pub data Count : List (List ℕ) → List (List ℕ) → Type 0 where
  no_part : Count [] []
  ends : {part : List ℕ} {parts : List (List ℕ)} → IsCLocale part → Count (part ∷ parts) []
  omitted : {part : List ℕ} {parts names : List (List ℕ)} → (IsCLocale part → ⊥) → (CanStandInPath part → ⊥)
      → Count parts names → Count (part ∷ parts) names
  counts : {part : List ℕ} {parts names : List (List ℕ)} → (IsCLocale part → ⊥) → CanStandInPath part
      → Count parts names → Count (part ∷ parts) (part ∷ names)

-- LANGUAGE lists these names, with a colon between two
pub record Lists (text : List ℕ) (names : List (List ℕ)) : Type 0 where
  pub parts : List (List ℕ)
  pub some : parts ≢ []
  pub joined : text ≡ join_with_byte 58 parts
  pub no_colon : All (Lacks 58) parts
  pub count : Count parts names

-- The languages that are asked for: those of LANGUAGE, where it isn't empty, else the locale. There
-- are none in an untranslated locale, and in one that can't stand in a path.
pub data AreLanguages (env : EnvironmentView) : List (List ℕ) → Type 0 where
  untranslated : {locale : List ℕ} → IsLocale env locale → IsCLocale locale → AreLanguages env []
  no_path : {locale : List ℕ} → IsLocale env locale → (CanStandInPath locale → ⊥) → AreLanguages env []
  the_locale : {locale : List ℕ} → IsLocale env locale → (IsCLocale locale → ⊥) → CanStandInPath locale
      → HasNoText env.language → AreLanguages env (locale ∷ [])
  of_language : {locale text : List ℕ} {names : List (List ℕ)} → IsLocale env locale → (IsCLocale locale → ⊥)
      → CanStandInPath locale → HasText env.language text → Lists text names → AreLanguages env names

-- after the names seen, each name at its first place alone
pub data FirstPlaces : List (List ℕ) → List (List ℕ) → List (List ℕ) → Type 0 where
  no_more : {seen : List (List ℕ)} → FirstPlaces seen [] []
  repeated : {seen names kept : List (List ℕ)} {name : List ℕ} → Contains seen name → FirstPlaces seen names kept
      → FirstPlaces seen (name ∷ names) kept
  first : {seen names kept : List (List ℕ)} {name : List ℕ} → All (λ known. known ≢ name) seen
      → FirstPlaces (seen ++ name ∷ []) names kept → FirstPlaces seen (name ∷ names) (name ∷ kept)

-- the candidates, the first to be asked first: the five of each language, each once
pub record AreCandidates (env : EnvironmentView) (names : List (List ℕ)) : Type 0 where
  pub languages : List (List ℕ)
  pub languages_are : AreLanguages env languages
  pub all : List (List ℕ)
  pub all_are : HaveFive languages all
  pub once : FirstPlaces [] all names
