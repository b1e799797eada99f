-- The environment variables that choose a catalogue ("Locale Environment Variables" and "Locating
-- Message Catalog Files" of the GNU gettext manual).
use Rattle.std.specs.Prelude.{ℕ, List, Option, option_map, codes, ◌≡◌, ◌≢◌, ◌⊎◌, [], Some, None}
use Rattle.std.specs.Option.{option_copied}
use Rattle.gettext.specs.declared.environment.OwnedEnvironment.{OwnedEnvironment}
use Rattle.gettext.specs.declared.candidates.Environment.{Environment}

-- the values of the variables; none where one is unset
pub record EnvironmentView : Type 0 where
  pub lc_all : Option (List ℕ)
  pub lc_messages : Option (List ℕ)
  pub lang : Option (List ℕ)
  pub language : Option (List ℕ)
  pub textdomain : Option (List ℕ)
  pub textdomaindir : Option (List ℕ)

abbrev pub environment_view : Environment → EnvironmentView
environment_view env = record {
  lc_all = option_copied env.lc_all;
  lc_messages = option_copied env.lc_messages;
  lang = option_copied env.lang;
  language = option_copied env.language;
  textdomain = option_copied env.textdomain;
  textdomaindir = option_copied env.textdomaindir;
}

abbrev pub owned_environment_view : OwnedEnvironment → EnvironmentView
owned_environment_view env = record {
  lc_all = option_map (λ v. v.items) env.lc_all;
  lc_messages = option_map (λ v. v.items) env.lc_messages;
  lang = option_map (λ v. v.items) env.lang;
  language = option_map (λ v. v.items) env.language;
  textdomain = option_map (λ v. v.items) env.textdomain;
  textdomaindir = option_map (λ v. v.items) env.textdomaindir;
}

-- each value is that of the variable of its name
pub record IsEnvironment (variable : List ℕ → Option (List ℕ) → Type 0) (env : EnvironmentView) : Type 0 where
  pub lc_all : variable (codes "LC_ALL") env.lc_all
  pub lc_messages : variable (codes "LC_MESSAGES") env.lc_messages
  pub lang : variable (codes "LANG") env.lang
  pub language : variable (codes "LANGUAGE") env.language
  pub textdomain : variable (codes "TEXTDOMAIN") env.textdomain
  pub textdomaindir : variable (codes "TEXTDOMAINDIR") env.textdomaindir

-- the variables' names, as the manual has them
pub names_are : {variable : List ℕ → Option (List ℕ) → Type 0} (env : EnvironmentView) → IsEnvironment variable env
    → variable (codes "LC_ALL") env.lc_all × variable (codes "LC_MESSAGES") env.lc_messages
    × variable (codes "LANG") env.lang × variable (codes "LANGUAGE") env.language
    × variable (codes "TEXTDOMAIN") env.textdomain × variable (codes "TEXTDOMAINDIR") env.textdomaindir
names_are env is = (is.lc_all, is.lc_messages, is.lang, is.language, is.textdomain, is.textdomaindir)

-- the variable has this value, which isn't empty
pub record HasText (variable : Option (List ℕ)) (value : List ℕ) : Type 0 where
  pub is : variable ≡ Some value
  pub some : value ≢ []

-- the variable is unset or empty
abbrev pub HasNoText : Option (List ℕ) → Type 0
HasNoText variable = (variable ≡ None) ⊎ (variable ≡ Some [])
