-- Which variable or argument gives the locale, the folder and the text domain.
use Rattle.gettext.proofs.Prelude.{Bor, Environment, EnvironmentView, HasNoText, HasText, IsDomain, IsFolder, IsLocale, List, None, Option, Some, [], ap, by_lang, by_lc_all, by_lc_messages, cases_Bool, cond-false, cond-true, domain_of, environment_view, eqb, folder_of, inl, inr, length, locale_of, nil-from_length, no_locale, non_empty, option_copied, option_or, refl, some-from_length, subst, sym, ℕ, ◌↔◌, ◌∙◌, ◌≡◌, ◌⊎◌}
use Rattle.gettext.specs.Paths.{by_argument, by_option, by_textdomain, by_textdomaindir, no_domain, of_system}

none_some : (value : List ℕ) → None ≡ Some value → ⊥
none_some value e = cc

some_same : (x y : List ℕ) → Some x ≡ Some y → x ≡ y
some_same x y e = cc

-- a value that counts, and one that doesn't
pub from_text : (v : Option (Bor (List ℕ))) (value : List ℕ) → HasText (option_copied v) value
    → non_empty v ≡ Some value
from_text None value t = absurd (none_some value t.is)
from_text (Some b) value t = elim (cases_Bool (eqb (length b.now) 0)) [
  | inl e ↦ absurd (t.some (sym (some_same b.now value t.is) ∙ nil-from_length b.now e))
  | inr e ↦ cond-false (eqb (length b.now) 0) None (Some b.now) e ∙ t.is
]

pub from_no_text : (v : Option (Bor (List ℕ))) → HasNoText (option_copied v) → non_empty v ≡ None
from_no_text None h = refl
from_no_text (Some b) h = elim (cases_Bool (eqb (length b.now) 0)) [
  | inl e ↦ cond-true (eqb (length b.now) 0) None (Some b.now) e
  | inr e ↦ absurd (elim h [
    | inl none ↦ none_some b.now (sym none)
    | inr empty ↦ some-from_length b.now e (some_same b.now [] empty)
  ])
]

-- what a variable says
abbrev pub Says : Option (Bor (List ℕ)) → Type 0
Says v = (HasNoText (option_copied v) × (non_empty v ≡ None))
    ⊎ ((value : List ℕ) × HasText (option_copied v) value × (non_empty v ≡ Some value))

pub says : (v : Option (Bor (List ℕ))) → Says v
says None = inl (inl refl, refl)
says (Some b) = elim (cases_Bool (eqb (length b.now) 0)) [
  | inl e ↦ inl (inr (ap Some (nil-from_length b.now e)), cond-true (eqb (length b.now) 0) None (Some b.now) e)
  | inr e ↦ inr (
    b.now,
    record { is = refl; some = some-from_length b.now e },
    cond-false (eqb (length b.now) 0) None (Some b.now) e,
  )
]

chosen : (env : Environment) → IsLocale (environment_view env) (locale_of env)
chosen env = elim (says env.lc_all) [
  | inr a ↦ rw a.2 (by_lc_all a.1)
  | inl a ↦ elim (says env.lc_messages) [
    | inr b ↦ rw (a.1, b.2) (by_lc_messages a.0 b.1)
    | inl b ↦ elim (says env.lang) [
      | inr c ↦ rw (a.1, b.1, c.2) (by_lang a.0 b.0 c.1)
      | inl c ↦ rw (a.1, b.1, c.1) (no_locale a.0 b.0 c.0)
    ]
  ]
]

is_locale : (env : Environment) (locale : List ℕ) → IsLocale (environment_view env) locale → locale ≡ locale_of env
is_locale env locale (by_lc_all a) = rw (from_text env.lc_all locale a)
is_locale env locale (by_lc_messages a b) = rw (from_no_text env.lc_all a, from_text env.lc_messages locale b)
is_locale env locale (by_lang a b c) =
    rw (from_no_text env.lc_all a, from_no_text env.lc_messages b, from_text env.lang locale c)
is_locale env locale (no_locale a b c) =
    rw (from_no_text env.lc_all a, from_no_text env.lc_messages b, from_no_text env.lang c)

pub locale_chosen : (env : Environment) (locale : List ℕ)
    → (locale ≡ locale_of env) ↔ IsLocale (environment_view env) locale
locale_chosen env locale =
    (λ is. subst (IsLocale (environment_view env)) (sym is) (chosen env), λ h. is_locale env locale h)

-- the folder
below : (env : Environment) → IsFolder (environment_view env) (folder_of env)
below env = elim (says env.textdomaindir) [
  | inr a ↦ rw a.2 (by_textdomaindir a.1)
  | inl a ↦ rw a.1 (of_system a.0)
]

is_folder : (env : Environment) (folder : List ℕ) → IsFolder (environment_view env) folder → folder ≡ folder_of env
is_folder env folder (by_textdomaindir a) = rw (from_text env.textdomaindir folder a)
is_folder env folder (of_system a) = rw (from_no_text env.textdomaindir a)

pub folder_chosen : (env : Environment) (folder : List ℕ)
    → (folder ≡ folder_of env) ↔ IsFolder (environment_view env) folder
folder_chosen env folder =
    (λ is. subst (IsFolder (environment_view env)) (sym is) (below env), λ h. is_folder env folder h)

-- the text domain
domain_by : (argument option : Option (List ℕ)) (env : EnvironmentView)
    → IsDomain argument option env (option_or argument (option_or option env.textdomain))
domain_by (Some domain) option env = by_argument refl
domain_by None (Some domain) env = by_option refl refl
domain_by None None env = last env.textdomain refl where
  last : (o : Option (List ℕ)) → env.textdomain ≡ o → IsDomain None None env o
  last (Some domain) e = by_textdomain refl refl e
  last None e = no_domain refl refl e

is_domain : {argument option domain : Option (List ℕ)} {env : EnvironmentView} → IsDomain argument option env domain
    → domain ≡ option_or argument (option_or option env.textdomain)
is_domain (by_argument a) = rw a
is_domain (by_option a b) = rw (a, b)
is_domain (by_textdomain a b c) = rw (a, b, c)
is_domain (no_domain a b c) = rw (a, b, c)

pub domain_chosen : (argument option : Option (List ℕ)) (env : Environment) (domain : Option (List ℕ))
    → (domain ≡ domain_of argument option env) ↔ IsDomain argument option (environment_view env) domain
domain_chosen argument option env domain = (
  λ is. subst (IsDomain argument option (environment_view env)) (sym is)
      (domain_by argument option (environment_view env)),
  λ h. is_domain h,
)
