-- Internal: what waits in the parser's stack for an operand.
use Rattle.std.specs.Prelude.{ℕ, ◌+◌, ◌-◌, ◌/◌, ◌%◌, nat_le, ◌==◌, Bool, true, false, List, [], ◌∷◌, map, if◌then◌else◌}
use Rattle.plural_rule.specs.declared.pending.Pending.{Pending}
use Rattle.plural_rule.specs.declared.pending.Pending.TheVariants.{Not as NotPending, Open as OpenPending, Binary as BinaryPending, Question as QuestionPending, Colon as ColonPending}
use Rattle.plural_rule.specs.Operator.{level, operator_of}
use Rattle.plural_rule.specs.Internal.Evaluator.{stored}

-- what a number of 16 bits stands for: 12 bits are the index
abbrev pub pending_by : ℕ → ℕ → Pending
pending_by kind first =
    if kind == 0 then (if first == 0 then OpenPending else NotPending)
    else if kind == 1 then QuestionPending first
    else if kind == 2 then ColonPending first
    else BinaryPending (operator_of (kind - 3)) first

abbrev pub pending_of : ℕ → Pending
pending_of code = pending_by (code / 4096) (code % 4096)

-- what the first `count` codes stand for, last first
abbrev pub entries_in : List ℕ → ℕ → List Pending
entries_in codes count = map pending_of (stored codes count)

-- the same with an index below 4,096
abbrev pub within : Pending → Pending
within (BinaryPending op first) = BinaryPending op (first % 4096)
within (QuestionPending first) = QuestionPending (first % 4096)
within (ColonPending first) = ColonPending (first % 4096)
within entry = entry

-- the operand completes what waits, where an operator of this level follows it
abbrev pub binds : ℕ → Pending → Bool
binds k NotPending = true
binds k (BinaryPending op first) = nat_le k (level op)
binds k (ColonPending first) = k == 0
binds k _ = false

-- how many instructions are added for what waits once it is complete
abbrev pub weight_of : Pending → ℕ
weight_of NotPending = 1
weight_of (BinaryPending op first) = 1
weight_of _ = 0

abbrev pub weight : List Pending → ℕ
weight [] = 0
weight (p ∷ entries) = weight_of p + weight entries
