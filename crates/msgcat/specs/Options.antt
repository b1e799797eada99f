-- What the options of a command line mean (manual, "Invoking the msgcat Program").
use Rattle.std.specs.Prelude.{◌≡◌, ℕ, Bool, List, Option, None, Some, codes}
use Rattle.msgcat.specs.declared.input.MergeOptions.{MergeOptions}

-- a number that isn't given is 0
abbrev pub or_zero : Option ℕ → ℕ
or_zero None = 0
or_zero (Some number) = number

-- `--more-than`, and else 0
pub record IsMoreThan (number : List ℕ → Option ℕ → Type 0) (value : ℕ) : Type 0 where
  pub given : Option ℕ
  pub given_is : number (codes "more-than") given
  pub value_is : value ≡ or_zero given

-- each option of msgcat by its name
pub record AreMergeOptions (flag : List ℕ → Bool → Type 0)
    (number : List ℕ → Option ℕ → Type 0) (o : MergeOptions) : Type 0 where
  pub more_than : IsMoreThan number o.more_than
  pub less_than : number (codes "less-than") o.less_than
  pub unique : flag (codes "unique") o.unique
  pub use_first : flag (codes "use-first") o.use_first
