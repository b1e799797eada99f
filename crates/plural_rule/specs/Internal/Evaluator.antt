-- Internal: a program that runs.
use Rattle.std.specs.Prelude.{ℕ, zero, suc, ◌+◌, ◌*◌, ◌^◌, nat_lt, ◌==◌, List, [], ◌∷◌, length, drop, slice_index_or, Option, Some, None, if◌then◌else◌}
use Rattle.plural_rule.specs.declared.instruction.Instruction.{Instruction}
use Rattle.plural_rule.specs.declared.instruction.Action.{Action}
use Rattle.plural_rule.specs.declared.instruction.Action.TheVariants.{Count, Number, Wide, Not, Binary, Branch, Choose, Jump}
use Rattle.plural_rule.specs.Instruction.{action_of, begins, low_of}
use Rattle.plural_rule.specs.Evaluator.{Tree, value, visited}
use Rattle.plural_rule.specs.Operator.{truth, needs_right, short_circuit_value, combined}

-- what an instruction leaves: how many instructions are skipped, and the values, newest first; or it
-- divides by 0
pub data Next : Type 0 where
  Go : ℕ → List ℕ → Next
  Undefined : Next

abbrev pub with_value : Option ℕ → List ℕ → Next
with_value None values = Undefined
with_value (Some v) values = Go 0 (v ∷ values)

-- an instruction at a count, with the number of the next one
abbrev pub act : ℕ → Action → ℕ → List ℕ → Next
act n Count low values = Go 0 (n ∷ values)
act n (Number v) low values = Go 0 (v ∷ values)
act n (Wide high) low values = Go 1 ((high * 2 ^ 32 + low) ∷ values)
act n Not low (x ∷ values) = Go 0 (truth (x == 0) ∷ values)
act n (Binary op) low (y ∷ x ∷ values) = with_value (combined op x y) values
act n (Branch op skip) low (x ∷ values) =
    if needs_right op x then Go 0 (x ∷ values) else Go skip (short_circuit_value op ∷ values)
act n (Choose skip) low (x ∷ values) = Go (if x == 0 then skip else 0) values
act n (Jump skip) low values = Go skip values
act n action low values = Undefined

-- the same from what the code says of the instruction: the value, how many values it takes, and so on
abbrev pub left_by : Option ℕ → ℕ → ℕ → List ℕ → Next
left_by None taken skip values = Undefined
left_by (Some v) taken skip values = Go skip (v ∷ drop taken values)

-- the value of a tree, and how many nodes are visited for it
pub record Outcome : Type 0 where
  pub value : Option ℕ
  pub steps : ℕ

-- the same where so many were visited before
abbrev pub outcome : Tree → ℕ → ℕ → Outcome
outcome tree n before = record { value = value tree n; steps = before + visited tree n }

abbrev pub go_on : (ℕ → List ℕ → ℕ → Option Outcome) → ℕ → Next → Option Outcome
go_on go steps (Go skip values) = go skip values steps
go_on go steps Undefined = Some (record { value = None; steps = steps })

-- the outcome of a program at a count, from that behind `skip` instructions on; none where there is no
-- value at the end, or before an instruction there aren't two or no room for one besides the newest
abbrev pub run : ℕ → ℕ → List Instruction → ℕ → List ℕ → ℕ → Option Outcome
run room n [] skip (y ∷ older) steps = Some (record { value = Some y; steps = steps })
run room n (i ∷ rest) (suc skip) values steps = run room n rest skip values steps
run room n (i ∷ rest) zero (y ∷ x ∷ older) steps =
    if nat_lt (1 + length older) room
    then go_on (run room n rest) (steps + begins i) (act n (action_of i) (low_of rest) (y ∷ x ∷ older)) else None
run room n p skip values steps = None

-- the first `len` values of an array, last first
abbrev pub stored : List ℕ → ℕ → List ℕ
stored stack zero = []
stored stack (suc k) = slice_index_or stack k 0 ∷ stored stack k
