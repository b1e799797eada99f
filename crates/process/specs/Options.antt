-- Which options are given, by what clap reads of the arguments.
use Rattle.std.specs.Prelude.{◌≡◌, ℕ, Bool, true, false, List, [], Option, None, Some, Result, codes}
use Rattle.clap.specs.Matches.{ReadsOne, first_value, matched_of, one_text, raw_values}
use Rattle.clap.specs.declared.parser.matches.Found.{Found}
use Rattle.po_tools.specs.Prelude.{CommandLine, line_of}
use Rattle.clap.specs.declared.parser.matches.MatchedArg.{MatchedArg}

-- an option without a value is given where its text is `true`, and isn't where that is `false` or
-- there is none
pub record IsFlag (text : Option (List ℕ)) (value : Bool) : Type 0 where
  pub none : text ≡ None → value ≡ false
  pub given : text ≡ Some (codes "true") → value ≡ true
  pub other : text ≡ Some (codes "false") → value ≡ false

-- the number that the first text of an option is read as, and none where it has no text
pub record IsNumber {E : Type 0} (gives : List ℕ → Result ℕ E → Type 0) (text : Option (List ℕ))
    (value : Option ℕ) : Type 0 where
  pub none : text ≡ None → value ≡ None
  pub given : (digits : List ℕ) → text ≡ Some digits → ReadsOne gives digits value

-- the texts of an argument, and none where it isn't given
abbrev pub given_texts : Option MatchedArg → List (List ℕ)
given_texts None = []
given_texts (Some argument) = raw_values argument

-- what the options of a command line may be, by what clap found of them; the relation says which number a
-- text is read as
abbrev pub line_in : {E : Type 0} → (List ℕ → Result ℕ E → Type 0) → Found → CommandLine
line_in gives found =
    line_of (λ name value. IsFlag (one_text found name) value) (λ name value. value ≡ first_value found name)
    (λ name value. value ≡ given_texts (matched_of found name))
    (λ name value. IsNumber gives (one_text found name) value)
