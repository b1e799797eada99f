-- What a value of a process may be. Private functions and proofs cite it; no clause of a public function does.
use Rattle.std.specs.Prelude.{ℕ, List, Option}
use Rattle.process.specs.declared.value.Value.{Value}
use Rattle.process.specs.declared.value.Value.TheVariants.{Argument, Variable, Entry}

abbrev pub may_be : (ℕ → Option (List ℕ) → Type 0) → (List ℕ → Option (List ℕ) → Type 0)
    → (ℕ → Option (List ℕ) → Type 0) → Value → Option (List ℕ) → Type 0
may_be argument variable entry (Argument index) = argument index
may_be argument variable entry (Variable name) = variable name.now
may_be argument variable entry (Entry index) = entry index
