-- The instructions of a program as plain numbers, which Rust and C read alike, and the program of a
-- tree: operands before their operator, with jumps that go forward only.
use Rattle.std.specs.Prelude.{◌≡◌, ℕ, ◌==◌, nat_lt, refl, if◌then◌else◌, zero, suc, ◌+◌, ◌-◌, ◌*◌, ◌/◌, ◌%◌, ◌^◌, List, [], ◌∷◌, ◌++◌, length, drop}
use Rattle.plural_rule.specs.declared.operator.Operator.{Operator}
use Rattle.plural_rule.specs.declared.instruction.Instruction.{Instruction}
use Rattle.plural_rule.specs.declared.instruction.Action.{Action}
use Rattle.plural_rule.specs.declared.instruction.Action.TheVariants.{Count as CountAction, Number as NumberAction, Wide as WideAction, Not as NotAction, Binary as BinaryAction, Branch as BranchAction, Choose as ChooseAction, Jump as JumpAction}
use Rattle.std.specs.Coded.{Coded, code_by, coded_list}
use Rattle.std.proofs.Common.{◌∙◌, inl, inr, ap, sym, arith}
use Rattle.std.proofs.Math.Seq.{drop-append-add, drop-nil}
use Rattle.std.proofs.lemmas.Bool.{cases_Bool}
use Rattle.std.proofs.lemmas.Nat.{div-add-mod'}
use Rattle.plural_rule.specs.Operator.{operator_of-code, is_lazy, operator_code, operator_of}
use Rattle.plural_rule.specs.Evaluator.{Tree, Count, Number, Not, Binary, Conditional}

-- `n`, with which so many nodes begin
abbrev pub count_instruction : ℕ → Instruction
count_instruction begins = record { kind = 0; operator = 0; count = begins; number = 0 }

-- a numeral below 2^32
abbrev pub number_instruction : ℕ → ℕ → Instruction
number_instruction begins number = record { kind = 1; operator = 0; count = begins; number = number }

-- a numeral of 2^32 or more without its low half, which the next instruction holds
abbrev pub wide_instruction : ℕ → ℕ → Instruction
wide_instruction begins high = record { kind = 2; operator = 0; count = begins; number = high }

abbrev pub low_instruction : ℕ → Instruction
low_instruction low = record { kind = 7; operator = 0; count = 0; number = low }

-- `!`, after its operand
abbrev pub not_instruction : Instruction
not_instruction = record { kind = 3; operator = 0; count = 0; number = 0 }

-- an operator, after its two operands
abbrev pub binary_instruction : Operator → Instruction
binary_instruction op = record { kind = 4; operator = operator_code op; count = 0; number = 0 }

-- `||` or `&&` before its second operand, and how many instructions it skips where that isn't needed
abbrev pub branch_instruction : Operator → ℕ → Instruction
branch_instruction op skip = record { kind = 5; operator = operator_code op; count = skip; number = 0 }

-- `?`, and how many instructions it skips where the condition is 0
abbrev pub choose_instruction : ℕ → Instruction
choose_instruction skip = record { kind = 6; operator = 0; count = skip; number = 0 }

-- `:`, and how many instructions it skips
abbrev pub jump_instruction : ℕ → Instruction
jump_instruction skip = record { kind = 7; operator = 0; count = skip; number = 0 }

-- how many nodes begin with an instruction
abbrev pub begins : Instruction → ℕ
begins i = if nat_lt i.kind 3 then i.count else 0

-- what an instruction does
abbrev pub action_of : Instruction → Action
action_of i =
    if i.kind == 0 then CountAction
    else if i.kind == 1 then NumberAction i.number
    else if i.kind == 2 then WideAction i.number
    else if i.kind == 3 then NotAction
    else if i.kind == 4 then BinaryAction (operator_of i.operator)
    else if i.kind == 5 then BranchAction (operator_of i.operator) i.count
    else if i.kind == 6 then ChooseAction i.count
    else JumpAction i.count

-- a numeral, with which so many nodes begin, before other instructions
abbrev pub numeral_then : ℕ → ℕ → List Instruction → List Instruction
numeral_then begins v rest =
    if nat_lt v (2 ^ 32) then number_instruction begins v ∷ rest
    else wide_instruction begins (v / 2 ^ 32) ∷ low_instruction (v % 2 ^ 32) ∷ rest

-- what stands between two operands
abbrev pub branch_then : Operator → ℕ → List Instruction → List Instruction
branch_then op skip rest = if is_lazy op then branch_instruction op skip ∷ rest else rest

-- how many instructions a tree has
abbrev pub size : Tree → ℕ
size Count = 1
size (Number v) = if nat_lt v (2 ^ 32) then 1 else 2
size (Not a) = size a + 1
size (Binary op a b) = size a + ((if is_lazy op then 1 else 0) + (size b + 1))
size (Conditional a b c) = size a + (1 + (size b + (1 + size c)))

-- the instructions of a tree, with the first operand of which `outer` nodes begin, and then `rest`: each
-- node is counted where it begins, at its first operand that has none
abbrev pub program_then : ℕ → Tree → List Instruction → List Instruction
program_then outer Count rest = count_instruction (1 + outer) ∷ rest
program_then outer (Number v) rest = numeral_then (1 + outer) v rest
program_then outer (Not a) rest = program_then (1 + outer) a (not_instruction ∷ rest)
program_then outer (Binary op a b) rest =
    program_then (1 + outer) a (branch_then op (size b + 1) (program_then 0 b (binary_instruction op ∷ rest)))
program_then outer (Conditional a b c) rest =
    program_then (1 + outer) a
    (choose_instruction (size b + 1) ∷ program_then 0 b (jump_instruction (size c) ∷ program_then 0 c rest))

-- the program of a tree
abbrev pub program : ℕ → Tree → List Instruction
program outer t = program_then outer t []

-- the number of the first instruction: the low half of a numeral
abbrev pub low_of : List Instruction → ℕ
low_of [] = 0
low_of (i ∷ rest) = i.number

-- the trees read so far, newest first, after one more instruction
abbrev pub with_action : Action → List Tree → List Tree
with_action CountAction trees = Count ∷ trees
with_action (NumberAction v) trees = Number v ∷ trees
with_action NotAction (a ∷ trees) = Not a ∷ trees
with_action (BinaryAction op) (b ∷ a ∷ trees) = Binary op a b ∷ trees
with_action _ trees = trees

-- and after the third operand of `?:`, which is read by itself
abbrev pub with_third : List Tree → List Tree → List Tree
with_third (c ∷ []) (b ∷ a ∷ trees) = Conditional a b c ∷ trees
with_third third trees = trees

abbrev pub read_by : (ℕ → ℕ → List Tree → List Tree) → Action → ℕ → ℕ → List Tree → List Tree
read_by go (WideAction high) low more trees = go 1 (more - 1) (Number (high * 2 ^ 32 + low) ∷ trees)
read_by go (JumpAction skip) low more trees = go skip (more - skip) (with_third (go 0 skip []) trees)
read_by go action low more trees = go 0 more (with_action action trees)

-- the same after `more` instructions, of which the first is that behind `skip` others
abbrev pub read : List Instruction → ℕ → ℕ → List Tree → List Tree
read [] skip more trees = trees
read (i ∷ rest) (suc skip) more trees = read rest skip more trees
read (i ∷ rest) zero zero trees = trees
read (i ∷ rest) zero (suc more) trees = read_by (read rest) (action_of i) (low_of rest) more trees

abbrev pub newest : List Tree → Tree
newest [] = Count
newest (t ∷ trees) = t

-- the tree of a program
unfoldable pub tree_of : List Instruction → Tree
tree_of instructions = newest (read instructions 0 (length instructions) [])

pub branch-append : (op : Operator) (skip : ℕ) (xs ys : List Instruction)
    → branch_then op skip xs ++ ys ≡ branch_then op skip (xs ++ ys)
branch-append op skip xs ys = elim (cases_Bool (is_lazy op)) [ inl e ↦ rw e refl | inr e ↦ rw e refl ]

pub program-append : (t : Tree) (k : ℕ) (xs ys : List Instruction)
    → program_then k t xs ++ ys ≡ program_then k t (xs ++ ys)
program-append Count k xs ys = refl
program-append (Number v) k xs ys =
    elim (cases_Bool (nat_lt v (2 ^ 32))) [ inl e ↦ rw e refl | inr e ↦ rw e refl ]
program-append (Not a) k xs ys = program-append a (1 + k) (not_instruction ∷ xs) ys
program-append (Binary op a b) k xs ys =
    program-append a (1 + k) _ ys ∙ ap (program_then (1 + k) a) (branch-append op (size b + 1) _ ys
    ∙ ap (branch_then op (size b + 1)) (program-append b 0 (binary_instruction op ∷ xs) ys))
program-append (Conditional a b c) k xs ys =
    program-append a (1 + k) _ ys
    ∙ ap (λ p. program_then (1 + k) a (choose_instruction (size b + 1) ∷ p)) (program-append b 0 _ ys
    ∙ ap (λ p. program_then 0 b (jump_instruction (size c) ∷ p)) (program-append c 0 xs ys))

pub length-program : (t : Tree) (k : ℕ) (rest : List Instruction)
    → length (program_then k t rest) ≡ size t + length rest
length-program Count k rest = omega arith
length-program (Number v) k rest =
    elim (cases_Bool (nat_lt v (2 ^ 32))) [ inl e ↦ rw e (omega arith) | inr e ↦ rw e (omega arith) ]
length-program (Not a) k rest = length-program a (1 + k) (not_instruction ∷ rest) ∙ omega arith
length-program (Binary op a b) k rest =
    let last = length-program b 0 (binary_instruction op ∷ rest) in
    elim (cases_Bool (is_lazy op)) [
      | inl e ↦ rw e (length-program a (1 + k) _ ∙ omega (arith, last))
      | inr e ↦ rw e (length-program a (1 + k) _ ∙ omega (arith, last))
    ]
length-program (Conditional a b c) k rest =
    length-program a (1 + k) _
    ∙ omega (arith, length-program b 0 (jump_instruction (size c) ∷ program_then 0 c rest), length-program c 0 rest)

-- what follows a program, and then some instructions
pub drop-program : (t : Tree) (rest : List Instruction) (n : ℕ)
    → drop (size t + n) (program_then 0 t rest) ≡ drop n rest
drop-program t rest n =
    let long : size t ≡ length (program 0 t) = omega (arith, length-program t 0 []) in
    ap (λ m. drop (m + n) (program_then 0 t rest)) long
    ∙ ap (drop (length (program 0 t) + n)) (sym (program-append t 0 [] rest))
    ∙ drop-append-add (program 0 t) rest n

read-drop : (p : List Instruction) (skip more : ℕ) (trees : List Tree)
    → read p skip more trees ≡ read (drop skip p) 0 more trees
read-drop [] skip more trees = ap (λ p. read p 0 more trees) (sym (drop-nil skip))
read-drop (i ∷ p) zero more trees = refl
read-drop (i ∷ p) (suc skip) more trees = read-drop p skip more trees

read-none : (rest : List Instruction) (trees : List Tree) → read rest 0 0 trees ≡ trees
read-none [] trees = refl
read-none (i ∷ rest) trees = refl

read-branch : (op : Operator) (skip : ℕ) (rest : List Instruction) (m n : ℕ) (trees : List Tree)
    → m ≡ (if is_lazy op then 1 else 0) + n → read (branch_then op skip rest) 0 m trees ≡ read rest 0 n trees
read-branch op skip rest m n trees e =
    elim (cases_Bool (is_lazy op)) [
      | inl lazy ↦
          let one : m ≡ suc n = omega (arith, rw lazy at e) in
          rw lazy (ap (λ m. read (branch_instruction op skip ∷ rest) 0 m trees) one)
      | inr strict ↦
          let same : m ≡ n = omega (arith, rw strict at e) in
          rw strict (ap (λ m. read rest 0 m trees) same)
    ]

read-program : (t : Tree) (k : ℕ) (rest : List Instruction) (m n : ℕ) (trees : List Tree) → m ≡ size t + n
    → read (program_then k t rest) 0 m trees ≡ read rest 0 n (t ∷ trees)
read-program Count k rest m n trees e =
    let one : m ≡ suc n = omega arith in
    ap (λ m. read (program_then k Count rest) 0 m trees) one
read-program (Number v) k rest m n trees e =
    elim (cases_Bool (nat_lt v (2 ^ 32))) [
      | inl small ↦
          let one : m ≡ suc n = omega (arith, rw small at e) in
          rw small (ap (λ m. read (number_instruction (1 + k) v ∷ rest) 0 m trees) one)
      | inr large ↦
          let one : m ≡ suc (suc n) = omega (arith, rw large at e) in
          let code = wide_instruction (1 + k) (v / 2 ^ 32) ∷ low_instruction (v % 2 ^ 32) ∷ rest in
          let less : suc n - 1 ≡ n = omega arith in
          rw large (ap (λ m. read code 0 m trees) one
          ∙ ap (λ m. read rest 0 m (Number (v / 2 ^ 32 * 2 ^ 32 + v % 2 ^ 32) ∷ trees)) less
          ∙ ap (λ x. read rest 0 n (Number x ∷ trees)) (div-add-mod' v (2 ^ 32)))
    ]
read-program (Not a) k rest m n trees e = read-program a (1 + k) (not_instruction ∷ rest) m (suc n) trees (omega arith)
read-program (Binary op a b) k rest m n trees e =
    let lazy : ℕ = if is_lazy op then 1 else 0 in
    read-program a (1 + k) _ m (lazy + (size b + suc n)) trees (omega arith)
    ∙ read-branch op (size b + 1) _ (lazy + (size b + suc n)) (size b + suc n) (a ∷ trees) refl
    ∙ read-program b 0 (binary_instruction op ∷ rest) (size b + suc n) (suc n) (a ∷ trees) refl
    ∙ ap (λ o. read rest 0 n (Binary o a b ∷ trees)) (operator_of-code op)
read-program (Conditional a b c) k rest m n trees e =
    let third = program_then 0 c rest in
    let left : size c + n - size c ≡ n = omega arith in
    let none : size c ≡ size c + 0 = omega arith in
    read-program a (1 + k) _ m (suc (size b + suc (size c + n))) trees (omega arith)
    ∙ read-program b 0 (jump_instruction (size c) ∷ third) (size b + suc (size c + n)) (suc (size c + n))
    (a ∷ trees) refl
    ∙ ap (λ m. read third (size c) m (with_third (read third 0 (size c) []) (b ∷ a ∷ trees))) left
    ∙ ap (λ ts. read third (size c) n (with_third ts (b ∷ a ∷ trees)))
    (read-program c 0 rest (size c) 0 [] none ∙ read-none rest (c ∷ []))
    ∙ read-drop third (size c) n (Conditional a b c ∷ trees)
    ∙ ap (λ p. read p 0 n (Conditional a b c ∷ trees)) (ap (λ j. drop j third) none ∙ drop-program c rest 0)

-- a program is that of one tree
pub tree_of-program : (t : Tree) → tree_of (program 0 t) ≡ t
unfolding tree_of
tree_of-program t = ap newest (read-program t 0 [] (length (program 0 t)) 0 [] (length-program t 0 []))

-- a tree is stored as data by its program
abbrev pub tree_code : Coded Instruction → Coded Tree
tree_code code = code_by (List Instruction) (coded_list code) (program 0) tree_of tree_of-program
