-- Internal: how the parser's program and stack stand for what waits and for a complete operand.
use Rattle.std.specs.Prelude.{◌≡◌, ℕ, ◌+◌, ◌-◌, ◌%◌, ◌^◌, nat_lt, Bool, true, false, List, [], ◌∷◌, ◌++◌, length, take, ◌≤◌, Option, Some, None, if◌then◌else◌, slice_set, slice_index_or}
use Rattle.plural_rule.specs.declared.instruction.Instruction.{Instruction}
use Rattle.plural_rule.specs.declared.parser_state.Parser.{Parser}
use Rattle.plural_rule.specs.declared.pending.Pending.{Pending}
use Rattle.plural_rule.specs.declared.pending.Pending.TheVariants.{Not as NotPending, Open as OpenPending, Binary as BinaryPending, Question as QuestionPending, Colon as ColonPending}
use Rattle.plural_rule.specs.declared.token.Token.{Token}
use Rattle.plural_rule.specs.declared.token.Token.TheVariants.{Number as NumberToken, Binary as BinaryToken}
use Rattle.plural_rule.specs.Evaluator.{Tree}
use Rattle.plural_rule.specs.Parser.{Spelt}
use Rattle.plural_rule.specs.Instruction.{count_instruction, not_instruction, binary_instruction, choose_instruction, jump_instruction, program, program_then, size, branch_then}
use Rattle.plural_rule.specs.Rule.{IsReadable, expression_limit}
use Rattle.plural_rule.specs.Operator.{is_lazy}
use Rattle.plural_rule.specs.Internal.Pending.{entries_in, weight}
use Rattle.plural_rule.specs.Internal.Parser.{Waiting, WaitNot, WaitOpen, WaitBinary, WaitQuestion, WaitColon, State, Want, Have}

-- the instructions of what waits, before its last operand, and then `rest`: what is skipped over isn't known
-- yet
abbrev pub waiting_then : List Waiting → List Instruction → List Instruction
waiting_then [] rest = rest
waiting_then (WaitBinary op a ∷ stack) rest = waiting_then stack (program_then 1 a (branch_then op 0 rest))
waiting_then (WaitQuestion a ∷ stack) rest = waiting_then stack (program_then 1 a (choose_instruction 0 ∷ rest))
waiting_then (WaitColon a b ∷ stack) rest =
    waiting_then stack (program_then 1 a
    (choose_instruction (size b + 1) ∷ program_then 0 b (jump_instruction 0 ∷ rest)))
waiting_then (w ∷ stack) rest = waiting_then stack rest

-- what waits, as the parser's stack has it, whose instructions begin at an index
abbrev pub pending : ℕ → Waiting → Pending
pending first WaitNot = NotPending
pending first WaitOpen = OpenPending
pending first (WaitBinary op a) = BinaryPending op first
pending first (WaitQuestion a) = QuestionPending first
pending first (WaitColon a b) = ColonPending first

-- where the instructions of an operand begin after what waits
abbrev pub start_after : List Waiting → ℕ
start_after stack = length (waiting_then stack [])

-- the parser's stack
abbrev pub pendings : List Waiting → List Pending
pendings [] = []
pendings (w ∷ stack) = pending (start_after stack) w ∷ pendings stack

-- what the parser holds: instructions, what waits, and where the last operand begins
pub record Held : Type 0 where
  pub code : List Instruction
  pub entries : List Pending
  pub start : ℕ

abbrev pub held : List Instruction → List ℕ → Parser → Held
held room codes parser =
    record { code = take parser.len room; entries = entries_in codes parser.count; start = parser.start }

-- that stands for what waits
pub record IsWaiting (parser : Held) (stack : List Waiting) : Type 0 where
  pub code_is : parser.code ≡ waiting_then stack []
  pub entries_are : parser.entries ≡ pendings stack

-- that stands for what waits and an operand after it
pub record IsOperand (parser : Held) (stack : List Waiting) (tree : Tree) : Type 0 where
  pub code_is : parser.code ≡ waiting_then stack (program 0 tree)
  pub entries_are : parser.entries ≡ pendings stack
  pub start_is : parser.start ≡ start_after stack

-- that and whether an operand is complete stand for a state
abbrev pub Represents : Held → Bool → State → Type 0
Represents parser complete (Want stack) = (complete ≡ false) × IsWaiting parser stack
Represents parser complete (Have stack tree) = (complete ≡ true) × IsOperand parser stack tree

-- the answer to a token stands for the state after it
abbrev pub Answers : Option State → Option Parser → List Instruction → List ℕ → Type 0
Answers None answer room codes = answer ≡ None
Answers (Some state) None room codes = ⊥
Answers (Some state) (Some parser) room codes = Represents (held room codes parser) parser.complete state

-- one more node begins with an instruction
abbrev pub counted : Instruction → Instruction
counted i = record { kind = i.kind; operator = i.operator; count = (i.count + 1) % 2 ^ 16; number = i.number }

abbrev pub edited : (Instruction → Instruction) → ℕ → List Instruction → List Instruction
edited edit index code =
    if nat_lt index (length code) then slice_set code index (edit (slice_index_or code index (count_instruction 1)))
    else code

abbrev pub begun : ℕ → List Instruction → List Instruction
begun index code = edited counted index code

-- an instruction skips so many others
abbrev pub with_skip : ℕ → Instruction → Instruction
with_skip skip i = record { kind = i.kind; operator = i.operator; count = skip; number = i.number }

abbrev pub skipping : ℕ → ℕ → List Instruction → List Instruction
skipping index skip code = edited (with_skip skip) index code

-- the instructions once an operand completes what waits, and where the new operand begins
abbrev pub completed_program : Pending → ℕ → List Instruction → List Instruction
completed_program NotPending start code = begun start code ++ not_instruction ∷ []
completed_program (BinaryPending op first) start code =
    (if is_lazy op then skipping (start - 1) (length code - start + 1) code else code) ++ binary_instruction op ∷ []
completed_program (ColonPending first) start code = skipping (start - 1) (length code - start) code
completed_program _ start code = code

abbrev pub first_of : Pending → ℕ → ℕ
first_of (BinaryPending op first) start = first
first_of (ColonPending first) start = first
first_of _ start = start

-- how many instructions a token adds at most
abbrev pub most_added : Token → ℕ
most_added (NumberToken v) = if nat_lt v (2 ^ 32) then 1 else 2
most_added (BinaryToken op) = if is_lazy op then 2 else 1
most_added _ = 1

-- there is room for the instructions to come of what waits and so many more, and for so many more entries
abbrev pub HasRoom : List ℕ → Parser → ℕ → ℕ → Type 0
HasRoom codes parser added entries =
    (parser.len + weight (entries_in codes parser.count) + added ≤ expression_limit)
    × (parser.count + entries ≤ length codes) × (length codes ≤ expression_limit)

-- what waits and is to come has grown by so many entries and instructions at most
abbrev pub Grows : List ℕ → Parser → List ℕ → Parser → ℕ → ℕ → Type 0
Grows codes before codes' after added entries =
    (after.len + weight (entries_in codes' after.count) ≤ before.len + weight (entries_in codes before.count) + added)
    × (after.count ≤ before.count + entries)

-- the program is that of the tree that was read
pub record HoldsTree (read : Option Tree) (code : List Instruction) : Type 0 where
  pub tree : Tree
  pub read_is : read ≡ Some tree
  pub code_is : code ≡ program 0 tree

-- the program is that of the tree that the text spells
pub record HoldsExpression (text : List ℕ) (code : List Instruction) : Type 0 where
  pub tree : Tree
  pub spelt : Spelt tree text
  pub code_is : code ≡ program 0 tree

-- the header names a rule that can be read, and the program is that of its tree
pub record HoldsRule (limit : ℕ) (header : List ℕ) (nplurals : ℕ) (code : List Instruction) : Type 0 where
  pub tree : Tree
  pub readable : IsReadable limit header nplurals tree
  pub code_is : code ≡ program 0 tree
