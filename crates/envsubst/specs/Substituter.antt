-- A text with its references replaced, whole and piece by piece ("Invoking the envsubst program" of
-- the GNU gettext manual).
use Rattle.std.specs.Prelude.{◌≡◌, refl, codes, ℕ, zero, suc, Bool, ◌==◌, if◌then◌else◌, List, [], ◌∷◌, ◌++◌, Option, Some, None}
use Rattle.std.specs.Option.{option_map}
use Rattle.envsubst.specs.Reference.{Reference, reference_after, bare_reference, braced_reference, is_name, is_letter, is_name_byte}
use Rattle.std.specs.Io.KnownBytes.{Appends}
use Rattle.envsubst.specs.Replacements.{Values, values_of, value_of, is_replaced}

-- a replaced reference: what it becomes, and how many bytes it takes after its `$`
pub record Replacement : Type 0 where
  pub value : List ℕ
  pub size : ℕ

-- how a reference is replaced, if it is
unfoldable pub replacement_of : Values → Option Reference → Option Replacement
replacement_of values None = None
replacement_of values (Some r) = option_map (λ v. record { value = v; size = r.size }) (values r.name)

-- what stands for one byte: itself, or the value of the reference that it begins, of which the next
-- bytes are then skipped
abbrev pub substituted : ℕ → Option Replacement → (ℕ → List ℕ) → List ℕ
substituted b None later = b ∷ later 0
substituted b (Some r) later = r.value ++ later r.size

-- the text, with its references replaced; the first `skip` bytes belong to a reference that began
-- before them
unfoldable pub substitution_after : Values → ℕ → List ℕ → List ℕ
substitution_after values skip [] = []
substitution_after values (suc skip) (b ∷ bs) = substitution_after values skip bs
substitution_after values zero (b ∷ bs) =
    substituted b (if b == 36 then replacement_of values (reference_after bs) else None)
    (λ skip. substitution_after values skip bs)

-- the text with its references replaced
abbrev pub substitution : Values → List ℕ → List ℕ
substitution values text = substitution_after values 0 text

-- A is set and B isn't, and a SHELL-FORMAT has both, but no C
pub text_is_substituted :
    substitution (values_of ((codes "A", codes "1") ∷ []) (Some (codes "A" ∷ codes "B" ∷ []))) (codes "$A-${B}$C")
    ≡ codes "1-$C"
unfolding substitution_after replacement_of values_of is_replaced value_of reference_after bare_reference
    braced_reference is_name is_letter is_name_byte
text_is_substituted = refl

-- what was written is what the text before becomes, whatever comes after it, but for what is held
-- back
pub record Advances (values : Values) (before held : List ℕ) (old new : Option (List ℕ)) : Type 0 where
  pub written : List ℕ
  pub appends : Appends old new written
  pub passes : (rest : List ℕ) → substitution values (before ++ rest) ≡ written ++ substitution values (held ++ rest)

-- what was written is a prefix of what the text becomes, whatever comes after it
pub record Stops (values : Values) (text : List ℕ) (old new : Option (List ℕ)) : Type 0 where
  pub written : List ℕ
  pub appends : Appends old new written
  pub prefix : (rest : List ℕ) → (more : List ℕ) × (substitution values (text ++ rest) ≡ written ++ more)

-- the variables, the names to be replaced if they are given, the bytes held back, and whether a
-- write has failed
pub record SubstituterView : Type 0 where
  pub vars : List (List ℕ × List ℕ)
  pub only : Option (List (List ℕ))
  pub held : List ℕ
  pub has_failed : Bool

-- what references become
abbrev pub values_of_substituter : SubstituterView → Values
values_of_substituter s = values_of s.vars s.only
