-- Where the catalogues of a text domain lie, and which variable or argument gives the folder and the
-- domain ("Invoking the gettext program" and "Locating Message Catalog Files" of the GNU gettext
-- manual).
use Rattle.std.specs.Prelude.{◌≡◌, refl, ℕ, if◌then◌else◌, List, [], ◌++◌, map, Option, Some, None, unwrap_or, codes}
use Rattle.std.specs.Option.{option_or, option_copied}
use Rattle.locale_names.specs.Prelude.{is_path_part}
use Rattle.gettext.specs.Candidates.{non_empty, candidates_of}
use Rattle.gettext.specs.declared.candidates.Environment.{Environment}
use Rattle.gettext.specs.Environment.{EnvironmentView, HasText, HasNoText}

-- the text domain: the one among the arguments, else that of `-d`, else that of TEXTDOMAIN, each
-- also where it is empty
abbrev pub domain_of : Option (List ℕ) → Option (List ℕ) → Environment → Option (List ℕ)
domain_of argument option env = option_or argument (option_or option (option_copied env.textdomain))

-- the folder that the catalogues lie below: that of TEXTDOMAINDIR, where it counts
abbrev pub folder_of : Environment → List ℕ
folder_of env = unwrap_or (non_empty env.textdomaindir) (codes "/usr/share/locale")

-- where the catalogue of a domain lies for a locale
abbrev pub path_of : List ℕ → List ℕ → List ℕ → List ℕ
path_of folder locale domain = ((((folder ++ codes "/") ++ locale) ++ codes "/LC_MESSAGES/") ++ domain) ++ codes ".mo"

-- the paths of the catalogues of a domain; a domain that can't stand in a path has none
abbrev pub paths_in : Environment → Option (List ℕ) → List (List ℕ)
paths_in env None = []
paths_in env (Some domain) =
    if is_path_part domain then map (λ locale. path_of (folder_of env) locale domain) (candidates_of env) else []

-- the paths of the catalogues to try, the first to be asked first
abbrev pub paths_of : Option (List ℕ) → Option (List ℕ) → Environment → List (List ℕ)
paths_of argument option env = paths_in env (domain_of argument option env)

-- by the manual's form `DIR_NAME/LOCALE/LC_CATEGORY/DOMAIN_NAME.mo`
pub path_is : path_of (codes "/usr/share/locale") (codes "fr") (codes "hello")
    ≡ codes "/usr/share/locale/fr/LC_MESSAGES/hello.mo"
path_is = refl

-- a domain with a slash has no path, and no more has an empty one
pub no_path_of_slash : (env : Environment) → paths_in env (Some (codes "a/b")) ≡ []
no_path_of_slash env = refl

pub no_path_of_empty : (env : Environment) → paths_in env (Some []) ≡ []
no_path_of_empty env = refl

pub paths_are : (env : Environment)
    → paths_in env (Some (codes "hello"))
    ≡ map (λ locale. path_of (folder_of env) locale (codes "hello")) (candidates_of env)
paths_are env = refl

-- the paths are those of the text domain that is chosen
pub argument_counts : (env : Environment)
    → paths_of (Some (codes "hello")) (Some (codes "other")) env ≡ paths_in env (Some (codes "hello"))
argument_counts env = refl

pub option_counts : (env : Environment) → paths_of None (Some (codes "hello")) env ≡ paths_in env (Some (codes "hello"))
option_counts env = refl

pub textdomain_counts : (env : Environment) → paths_of None None env ≡ paths_in env (option_copied env.textdomain)
textdomain_counts env = refl

-- the folder that the catalogues lie below: that of TEXTDOMAINDIR, else that of the system
pub data IsFolder (env : EnvironmentView) : List ℕ → Type 0 where
  by_textdomaindir : {folder : List ℕ} → HasText env.textdomaindir folder → IsFolder env folder
  of_system : HasNoText env.textdomaindir → IsFolder env (codes "/usr/share/locale")

-- the text domain: the argument, else that of `-d`, else that of TEXTDOMAIN, each also where it is
-- empty
pub data IsDomain (argument option : Option (List ℕ)) (env : EnvironmentView) : Option (List ℕ) → Type 0 where
  by_argument : {domain : List ℕ} → argument ≡ Some domain → IsDomain argument option env (Some domain)
  by_option : {domain : List ℕ} → argument ≡ None → option ≡ Some domain → IsDomain argument option env (Some domain)
  by_textdomain : {domain : List ℕ} → argument ≡ None → option ≡ None → env.textdomain ≡ Some domain
      → IsDomain argument option env (Some domain)
  no_domain : argument ≡ None → option ≡ None → env.textdomain ≡ None → IsDomain argument option env None
