-- What the options of a command line mean (manual, "Invoking the msgattrib Program").
use Rattle.std.specs.Prelude.{◌≡◌, ◌||◌, ℕ, Bool, List, codes}
use Rattle.msgattrib.specs.declared.selection.Selection.{Selection}

-- one of two options is given
pub record IsEither (flag : List ℕ → Bool → Type 0) (name other : List ℕ) (value : Bool) : Type 0 where
  pub first : Bool
  pub second : Bool
  pub first_is : flag name first
  pub second_is : flag other second
  pub either : value ≡ (first || second)

-- `--fuzzy` stands for `--only-fuzzy --clear-fuzzy`, and `--obsolete` for `--only-obsolete --clear-obsolete`
pub record IsSelection (flag : List ℕ → Bool → Type 0) (s : Selection) : Type 0 where
  pub translated : flag (codes "translated") s.translated
  pub untranslated : flag (codes "untranslated") s.untranslated
  pub no_fuzzy : flag (codes "no-fuzzy") s.no_fuzzy
  pub only_fuzzy : IsEither flag (codes "only-fuzzy") (codes "fuzzy") s.only_fuzzy
  pub no_obsolete : flag (codes "no-obsolete") s.no_obsolete
  pub only_obsolete : IsEither flag (codes "only-obsolete") (codes "obsolete") s.only_obsolete
  pub set_fuzzy : flag (codes "set-fuzzy") s.set_fuzzy
  pub clear_fuzzy : IsEither flag (codes "clear-fuzzy") (codes "fuzzy") s.clear_fuzzy
  pub set_obsolete : flag (codes "set-obsolete") s.set_obsolete
  pub clear_obsolete : IsEither flag (codes "clear-obsolete") (codes "obsolete") s.clear_obsolete
  pub clear_previous : flag (codes "clear-previous") s.clear_previous
  pub empty : flag (codes "empty") s.empty
