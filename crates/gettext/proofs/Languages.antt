-- The languages that are asked for, and the candidates of an environment.
use Rattle.gettext.proofs.Prelude.{All, All-cons, All-head, All-nil, All-tail, All-weaker, AreCandidates, AreLanguages, Bool, CanStandInPath, Count, Decides, Decides-and, Decides-by_and, Decides-eqb, Decides-not, Decides-or, Environment, FirstPlaces, IsCLocale, Lacks, List, Lists, [], ap, bytes_eq, bytes_eq-Decides, candidates, candidates_of, candidates_of_name, cases_Bool, codes, cond, cond-false, counts, distinct, ends, environment_view, eqb, eqb-false, false, false_from_ne_true, filter, flat_map, inl, inr, is_byte, is_c_locale, is_path_part, join_with_byte, language_parts, languages, length, list_any, locale_of, ne_eqb, nil-from_length, no_part, no_path, non_empty, not, not_from_Decides, of_language, omitted, onto_first, or-true, refl, slice_split, subst, sym, take_while, take_while-cons, the_locale, true, untranslated, unwrap_or, ℕ, ◌||◌, ◌↔◌, ◌∙◌, ◌∷◌, ◌≡◌}
use Rattle.std.proofs.lemmas.List.Splits.{join_with_byte-slice_split, slice_split-cons_no, slice_split-cons_yes, slice_split_at, slice_split_none}
use Rattle.gettext.proofs.LocaleChoice.{from_no_text, from_text, locale_chosen, says}
use Rattle.gettext.proofs.LocaleNames.{are_five, are_places, have_five, neither, places_of}

-- the tests of a name
c_locale_decides : (name : List ℕ) → Decides (is_c_locale name) (IsCLocale name)
unfolding is_c_locale
c_locale_decides name =
    Decides-or (bytes_eq name (codes "C")) (bytes_eq name (codes "POSIX")) (bytes_eq-Decides name (codes "C"))
    (bytes_eq-Decides name (codes "POSIX"))

lacks_decides : (a : ℕ) (text : List ℕ) → Decides (not (list_any (is_byte a) text)) (Lacks a text)
lacks_decides a text =
    Decides-by_and (λ b. not (eqb b a)) (λ b. b ≡ a → ⊥) (λ t. not (list_any (is_byte a) t))
    (λ b. Decides-not (eqb b a) (Decides-eqb b a)) refl
    (λ b t. neither (eqb b a) (list_any (is_byte a) t)) text

path_decides : (name : List ℕ) → Decides (is_path_part name) (CanStandInPath name)
path_decides name =
    Decides-and (not (eqb (length name) 0)) (not (list_any (is_byte 47) name))
    (Decides-not (eqb (length name) 0) (nil-from_length name, λ none. ap (λ l. eqb (length l) 0) none))
    (lacks_decides 47 name)

fails : {P : Type 0} (test : Bool) → Decides test P → (P → ⊥) → test ≡ false
fails test decides never = false_from_ne_true test (λ e. never (decides.0 e))

-- the parts that count
abbrev may_count : List ℕ → Bool
may_count part = not (is_c_locale part)

abbrev counting : List (List ℕ) → List (List ℕ)
counting parts = filter is_path_part (take_while may_count parts)

counting-next : (part : List ℕ) (parts : List (List ℕ)) (u f : Bool) → is_c_locale part ≡ u → is_path_part part ≡ f
    → counting (part ∷ parts) ≡ cond u [] (cond f (part ∷ counting parts) (counting parts))
counting-next part parts true f e p =
    ap (filter is_path_part)
    (take_while-cons may_count part parts ∙ ap (λ t. cond (not t) (part ∷ take_while may_count parts) []) e)
counting-next part parts false f e p =
    ap (filter is_path_part)
    (take_while-cons may_count part parts ∙ ap (λ t. cond (not t) (part ∷ take_while may_count parts) []) e)
    ∙ ap (λ t. cond t (part ∷ counting parts) (counting parts)) p

count_of : (parts : List (List ℕ)) → Count parts (counting parts)
count_of [] = no_part
count_of (part ∷ parts) = elim (cases_Bool (is_c_locale part)) [
  | inl u ↦ rw (counting-next part parts true (is_path_part part) u refl) (ends ((c_locale_decides part).0 u))
  | inr u ↦ elim (cases_Bool (is_path_part part)) [
    | inl f ↦ rw (counting-next part parts false true u f)
        (counts (not_from_Decides (is_c_locale part) (c_locale_decides part) u) ((path_decides part).0 f)
        (count_of parts))
    | inr f ↦ rw (counting-next part parts false false u f)
        (omitted (not_from_Decides (is_c_locale part) (c_locale_decides part) u)
        (not_from_Decides (is_path_part part) (path_decides part) f) (count_of parts))
  ]
]

is_count_of : {parts names : List (List ℕ)} → Count parts names → counting parts ≡ names
is_count_of no_part = refl
is_count_of (ends {part = part} {parts = parts} u) =
    counting-next part parts true (is_path_part part) ((c_locale_decides part).1 u) refl
is_count_of (omitted {part = part} {parts = parts} u f rest) =
    counting-next part parts false false (fails (is_c_locale part) (c_locale_decides part) u)
    (fails (is_path_part part) (path_decides part) f) ∙ is_count_of rest
is_count_of (counts {part = part} {parts = parts} u f rest) =
    counting-next part parts false true (fails (is_c_locale part) (c_locale_decides part) u)
    ((path_decides part).1 f) ∙ ap (λ l. part ∷ l) (is_count_of rest)

-- the parts of a text
abbrev colon : ℕ → Bool
colon b = is_byte 58 b

other : (text : List ℕ) → Lacks 58 text → All (λ b. colon b ≡ false) text
other text none = All-weaker (λ b. b ≡ 58 → ⊥) (λ b. colon b ≡ false) (λ b h. ne_eqb b 58 h) text none

onto : (b : ℕ) (parts : List (List ℕ)) → (b ≡ 58 → ⊥) → All (Lacks 58) parts → All (Lacks 58) (onto_first b parts)
onto b [] h all = All-cons (Lacks 58) (b ∷ []) [] (All-cons (λ b. b ≡ 58 → ⊥) b [] h (All-nil (λ b. b ≡ 58 → ⊥)))
    (All-nil (Lacks 58))
onto b (part ∷ parts) h all =
    All-cons (Lacks 58) (b ∷ part) parts (All-cons (λ b. b ≡ 58 → ⊥) b part h (All-head (Lacks 58) part parts all))
    (All-tail (Lacks 58) part parts all)

parts_lack : (text : List ℕ) → All (Lacks 58) (slice_split colon text)
parts_lack [] = All-cons (Lacks 58) [] [] (All-nil (λ b. b ≡ 58 → ⊥)) (All-nil (Lacks 58))
parts_lack (b ∷ text) = elim (cases_Bool (colon b)) [
  | inl e ↦ rw (slice_split-cons_yes colon b text e)
      (All-cons (Lacks 58) [] (slice_split colon text) (All-nil (λ b. b ≡ 58 → ⊥)) (parts_lack text))
  | inr e ↦ rw (slice_split-cons_no colon b text e)
      (onto b (slice_split colon text) (eqb-false b 58 e) (parts_lack text))
]

onto_some : (b : ℕ) (parts : List (List ℕ)) → onto_first b parts ≡ [] → ⊥
onto_some b [] e = cc
onto_some b (part ∷ parts) e = cc

cons_some : (part : List ℕ) (parts : List (List ℕ)) → part ∷ parts ≡ [] → ⊥
cons_some part parts e = cc

parts_some : (text : List ℕ) → slice_split colon text ≡ [] → ⊥
parts_some [] e = cons_some [] [] e
parts_some (b ∷ text) e = elim (cases_Bool (colon b)) [
  | inl t ↦ cons_some [] (slice_split colon text) (sym (slice_split-cons_yes colon b text t) ∙ e)
  | inr t ↦ onto_some b (slice_split colon text) (sym (slice_split-cons_no colon b text t) ∙ e)
]

cut : (parts : List (List ℕ)) → (parts ≡ [] → ⊥) → All (Lacks 58) parts
    → slice_split colon (join_with_byte 58 parts) ≡ parts
cut [] some all = absurd (some refl)
cut (part ∷ []) some all = slice_split_none colon part (other part (All-head (Lacks 58) part [] all))
cut (part ∷ next ∷ parts) some all =
    slice_split_at colon part 58 (join_with_byte 58 (next ∷ parts))
    (other part (All-head (Lacks 58) part (next ∷ parts) all)) refl
    ∙ ap (λ l. part ∷ l) (cut (next ∷ parts) (cons_some next parts) (All-tail (Lacks 58) part (next ∷ parts) all))

lists : (text : List ℕ) → Lists text (language_parts text)
unfolding language_parts
lists text = record {
  parts = slice_split colon text;
  some = parts_some text;
  joined = sym (join_with_byte-slice_split 58 text);
  no_colon = parts_lack text;
  count = count_of (slice_split colon text);
}

are_listed : (text : List ℕ) (names : List (List ℕ)) → Lists text names → language_parts text ≡ names
unfolding language_parts
are_listed text names h =
    ap (λ t. counting (slice_split colon t)) h.joined ∙ ap counting (cut h.parts h.some h.no_colon)
    ∙ is_count_of h.count

-- the languages of a locale and LANGUAGE
abbrev asked_for : List ℕ → List ℕ → List (List ℕ)
asked_for locale language = cond (is_c_locale locale || not (is_path_part locale)) [] (languages locale language)

flat : (locale language : List ℕ) → candidates locale language ≡ flat_map candidates_of_name (asked_for locale language)
flat locale language = of_either (is_c_locale locale || not (is_path_part locale)) where
  of_either : (none : Bool) → cond none [] (flat_map candidates_of_name (languages locale language))
      ≡ flat_map candidates_of_name (cond none [] (languages locale language))
  of_either true = refl
  of_either false = refl

-- the languages of an environment
abbrev language_of : Environment → List ℕ
language_of env = unwrap_or (non_empty env.language) []

abbrev languages_of : Environment → List (List ℕ)
languages_of env = asked_for (locale_of env) (language_of env)

some_language : (locale language : List ℕ) → (language ≡ [] → ⊥) → languages locale language ≡ language_parts language
some_language locale language h =
    cond-false (eqb (length language) 0) (locale ∷ []) (language_parts language)
    (false_from_ne_true (eqb (length language) 0) (λ e. h (nil-from_length language e)))

translated_asked : (env : Environment) → is_c_locale (locale_of env) ≡ false → is_path_part (locale_of env) ≡ true
    → AreLanguages (environment_view env) (languages_of env)
translated_asked env u f =
    let locale = (locale_chosen env (locale_of env)).0 refl in
    let is_translated = not_from_Decides (is_c_locale (locale_of env)) (c_locale_decides (locale_of env)) u in
    elim (says env.language) [
      | inl a ↦ rw (u, f, a.1) (the_locale locale is_translated ((path_decides (locale_of env)).0 f) a.0)
      | inr a ↦ rw (u, f, a.2, some_language (locale_of env) a.0 a.1.some)
          (of_language locale is_translated ((path_decides (locale_of env)).0 f) a.1 (lists a.0))
    ]

are_asked : (env : Environment) → AreLanguages (environment_view env) (languages_of env)
are_asked env = elim (cases_Bool (is_c_locale (locale_of env))) [
  | inl u ↦ rw u (untranslated ((locale_chosen env (locale_of env)).0 refl)
      ((c_locale_decides (locale_of env)).0 u))
  | inr u ↦ elim (cases_Bool (is_path_part (locale_of env))) [
    | inl f ↦ translated_asked env u f
    | inr f ↦ rw (u, f) (no_path ((locale_chosen env (locale_of env)).0 refl)
        (not_from_Decides (is_path_part (locale_of env)) (path_decides (locale_of env)) f))
  ]
]

is_asked : (env : Environment) (names : List (List ℕ)) → AreLanguages (environment_view env) names
    → languages_of env ≡ names
is_asked env names (untranslated {locale = locale} is u) =
    rw (← (locale_chosen env locale).1 is, (c_locale_decides locale).1 u)
is_asked env names (no_path {locale = locale} is f) =
    rw (
      ← (locale_chosen env locale).1 is,
      fails (is_path_part locale) (path_decides locale) f,
      or-true (is_c_locale locale),
    )
is_asked env names (the_locale {locale = locale} is u f none) =
    rw (
      ← (locale_chosen env locale).1 is,
      fails (is_c_locale locale) (c_locale_decides locale) u,
      (path_decides locale).1 f,
      from_no_text env.language none,
    )
is_asked env names (of_language {locale = locale} {text = text} is u f has listed) =
    rw (
      ← (locale_chosen env locale).1 is,
      fails (is_c_locale locale) (c_locale_decides locale) u,
      (path_decides locale).1 f,
      from_text env.language text has,
    )
    (some_language locale text has.some ∙ are_listed text names listed)

-- the candidates of an environment
asked_once : (env : Environment) → AreCandidates (environment_view env) (candidates_of env)
asked_once env = record {
  languages = languages_of env;
  languages_are = are_asked env;
  all = flat_map candidates_of_name (languages_of env);
  all_are = have_five (languages_of env);
  once = subst (λ l. FirstPlaces [] (flat_map candidates_of_name (languages_of env)) (distinct l))
      (sym (flat (locale_of env) (language_of env))) (places_of (flat_map candidates_of_name (languages_of env)));
}

are_candidates : (env : Environment) (names : List (List ℕ)) → AreCandidates (environment_view env) names
    → names ≡ candidates_of env
are_candidates env names h =
    sym (ap distinct (flat (locale_of env) (language_of env)
    ∙ ap (flat_map candidates_of_name) (is_asked env h.languages h.languages_are) ∙ are_five h.all_are)
    ∙ are_places h.all names h.once)

pub candidates_asked : (env : Environment) (names : List (List ℕ))
    → (names ≡ candidates_of env) ↔ AreCandidates (environment_view env) names
candidates_asked env names =
    (λ is. subst (AreCandidates (environment_view env)) (sym is) (asked_once env), λ h. are_candidates env names h)
