-- What contracts and proofs cite of the definitions of this crate. Declares nothing.
pub use Rattle.plural_rule.specs.Operator.{combined, is_lazy, level, needs_right, operator_code, operator_of, operator_of-code, short_circuit_value, truth}
pub use Rattle.plural_rule.specs.Lexer.{IsLongest, IsSpelling, Lexes, is_blank, operator_bytes, without_blanks}
pub use Rattle.plural_rule.specs.Evaluator.{Evaluates, Tree, binary_value, chosen, nodes, value, visited, visited_right}
pub use Rattle.plural_rule.specs.Parser.{Spells, Spelt}
pub use Rattle.plural_rule.specs.Header.{after_first, digits_number, expression_of, is_end, leading_number, nplurals_of}
pub use Rattle.plural_rule.specs.Instruction.{action_of, begins, binary_instruction, branch-append, branch_instruction, branch_then, choose_instruction, count_instruction, drop-program, jump_instruction, length-program, low_instruction, low_of, not_instruction, number_instruction, numeral_then, program, program-append, program_then, size, tree_code, tree_of-program, wide_instruction}
unfoldable pub use Rattle.plural_rule.specs.Instruction.{tree_of}
pub use Rattle.plural_rule.specs.Rule.{Gives, IsParsed, IsReadable, IsReason, IsRuleOf, IsWithin, RuleView, default_rule, expression_limit, program_in, rule_in}
