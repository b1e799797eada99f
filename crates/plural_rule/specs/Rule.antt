-- The rule that a header text gives, within a limit on the bytes of its expression.
-- GNU gettext manual, "Plural forms".
use Rattle.std.specs.Prelude.{◌≡◌, ◌≢◌, ℕ, ◌^◌, ◌<◌, ◌≤◌, ◌⊎◌, List, Some, None, length, take}
use Rattle.plural_rule.specs.declared.operator.Operator.TheVariants.{NotEqual}
use Rattle.plural_rule.specs.declared.rule.Source.{Source}
use Rattle.plural_rule.specs.declared.rule.Source.TheVariants.{Header, Default}
use Rattle.plural_rule.specs.declared.rule.Reason.{Reason}
use Rattle.plural_rule.specs.declared.rule.Reason.TheVariants.{NoNumber, NoExpression, Unreadable, TooLong}
use Rattle.plural_rule.specs.declared.rule.ParsedRule.{ParsedRule}
use Rattle.plural_rule.specs.declared.instruction.Instruction.{Instruction}
use Rattle.plural_rule.specs.Evaluator.{Tree, Count, Number, Binary}
use Rattle.plural_rule.specs.Instruction.{program, tree_of}
use Rattle.plural_rule.specs.Parser.{Spelt}
use Rattle.plural_rule.specs.Header.{nplurals_of, expression_of}

-- What clauses see of a rule: where it comes from (`Header`, or `Default` with the reason why there
-- is none in the header), the number of plural forms, and the expression.
pub record RuleView : Type 0 where
  pub source : Source
  pub nplurals : ℕ
  pub tree : Tree

-- the program at the beginning of an array
abbrev pub program_in : ParsedRule → List Instruction → List Instruction
program_in parsed room = take parsed.instruction_count room

-- the rule that was read with it
abbrev pub rule_in : ParsedRule → List Instruction → RuleView
rule_in parsed room =
    record { source = parsed.source; nplurals = parsed.nplurals; tree = tree_of (program_in parsed room) }

-- the most bytes of an expression that is read, and so the most nodes that a rule has
abbrev pub expression_limit : ℕ
expression_limit = 4096

-- an array begins with the whole program of the rule that was read with it
pub record IsParsed (parsed : ParsedRule) (room : List Instruction) : Type 0 where
  pub limit : parsed.instruction_count ≤ expression_limit
  pub program_is : program_in parsed room ≡ program 0 (rule_in parsed room).tree

-- the rule of a header without a readable one: two forms, and `n != 1`
abbrev pub default_rule : Reason → RuleView
default_rule reason = record { source = Default reason; nplurals = 2; tree = Binary NotEqual Count (Number 1) }

-- the header names a number that fits 64 bits, and an expression within the limit that spells the
-- tree
pub record IsReadable (limit : ℕ) (header : List ℕ) (nplurals : ℕ) (tree : Tree) : Type 0 where
  pub text : List ℕ
  pub nplurals_is : nplurals_of header ≡ Some nplurals
  pub nplurals_fits : nplurals < 2 ^ 64
  pub text_is : expression_of header ≡ Some text
  pub text_fits : length text ≤ limit
  pub spelt : Spelt tree text

-- The reason for the default rule holds of the header: it names no number; a number, and no expression;
-- both, the expression past the limit; or both, the expression within the limit, and the number is 2^64
-- or more or the expression spells no tree. Of each header at most one does.
abbrev pub IsReason : ℕ → List ℕ → Reason → Type 0
IsReason limit header NoNumber = nplurals_of header ≡ None
IsReason limit header NoExpression = (nplurals_of header ≢ None) × (expression_of header ≡ None)
IsReason limit header TooLong =
    (nplurals_of header ≢ None) × (text : List ℕ) × (expression_of header ≡ Some text) × (limit < length text)
IsReason limit header Unreadable =
    (nplurals : ℕ) × (text : List ℕ) × (nplurals_of header ≡ Some nplurals) × (expression_of header ≡ Some text)
    × (length text ≤ limit) × ((2 ^ 64 ≤ nplurals) ⊎ ((tree : Tree) → Spelt tree text → ⊥))

-- the header gives the rule, whose source is this one
abbrev pub Gives : ℕ → List ℕ → RuleView → Source → Type 0
Gives limit header rule Header = IsReadable limit header rule.nplurals rule.tree
Gives limit header rule (Default reason) = IsReason limit header reason × (rule ≡ default_rule reason)

-- The rule of a header text, within a limit on the bytes of its expression. Each text has just one;
-- the empty text has the default rule for `NoNumber`.
abbrev pub IsRuleOf : ℕ → List ℕ → RuleView → Type 0
IsRuleOf limit header rule = Gives limit header rule rule.source

-- the limit changes nothing: the header names no number, and so has the default rule, or it names
-- no expression past the limit
abbrev pub IsWithin : ℕ → List ℕ → Type 0
IsWithin limit header =
    (nplurals_of header ≡ None) ⊎ ((text : List ℕ) → expression_of header ≡ Some text → length text ≤ limit)
