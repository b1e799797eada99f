-- What the proofs of this crate cite of std, of the crates below and of its own definitions. Declares nothing.
pub use Rattle.memchr.specs.Find.{IsFirstByte, Nowhere, OccursAt, Passes, is_byte, is_byte2}
pub use Rattle.plural_rule.specs.Evaluator.{Binary, Conditional, Count, Not, Number, and_both, and_first, and_second, at_least, at_least_not, at_most, at_most_not, difference, else_case, equal, equal_not, greater, greater_not, less, less_not, not_other, not_zero, or_first, or_neither, or_second, product, quotient, remainder, sum, then_case, unequal, unequal_not}
pub use Rattle.plural_rule.specs.Internal.Evaluator.{Next, Outcome, act, go_on, left_by, run, stored, with_value}
pub use Rattle.plural_rule.specs.Internal.Lexer.{BeginsWithDouble, HasNoDouble, HasNoToken, IsTokenAt, IsTooLarge}
pub use Rattle.plural_rule.specs.Internal.Parser.{Have, Operand, State, WaitBinary, WaitColon, WaitNot, WaitOpen, WaitQuestion, Waiting, Want, alone, at_close, at_colon, completed, finish, outcome, outcome_from, reduce, reduce_by, step}
pub use Rattle.plural_rule.specs.Internal.ParserState.{Answers, Grows, Held, HoldsExpression, HoldsTree, IsOperand, IsWaiting, Represents, begun, completed_program, counted, edited, first_of, held, most_added, pending, pendings, skipping, start_after, waiting_then, with_skip}
pub use Rattle.plural_rule.specs.Internal.Pending.{binds, entries_in, pending_by, pending_of, weight}
pub use Rattle.plural_rule.specs.Lexer.{blank, end, token}
pub use Rattle.plural_rule.specs.Parser.{binary, conditional, count, negation, numeral, parentheses, tighter}
pub use Rattle.plural_rule.specs.Prelude.{Evaluates, Gives, IsLongest, IsReadable, IsReason, IsRuleOf, IsSpelling, IsWithin, Lexes, RuleView, Spells, Spelt, Tree, action_of, after_first, begins, binary_instruction, binary_value, branch-append, branch_instruction, branch_then, choose_instruction, chosen, combined, count_instruction, default_rule, digits_number, drop-program, expression_limit, expression_of, is_blank, is_end, is_lazy, jump_instruction, leading_number, length-program, level, low_instruction, low_of, needs_right, nodes, not_instruction, nplurals_of, number_instruction, operator_bytes, operator_code, operator_of-code, program, program-append, program_then, short_circuit_value, size, tree_of, tree_of-program, truth, value, visited, visited_right, wide_instruction, without_blanks}
pub use Rattle.plural_rule.specs.declared.instruction.Instruction.{Instruction}
pub use Rattle.plural_rule.specs.declared.operator.Operator.{Operator}
pub use Rattle.plural_rule.specs.declared.operator.Operator.TheVariants.{Add, And, AtLeast, AtMost, Divide, Equal, Greater, Less, Multiply, NotEqual, Or, Remainder, Subtract}
pub use Rattle.plural_rule.specs.declared.parser_state.Parser.{Parser}
pub use Rattle.plural_rule.specs.declared.rule.Reason.TheVariants.{NoExpression, NoNumber, TooLong, Unreadable}
pub use Rattle.plural_rule.specs.declared.rule.Source.TheVariants.{Default, Header}
pub use Rattle.plural_rule.specs.declared.token.Token.{Token}
pub use Rattle.plural_rule.specs.declared.token.Token.TheVariants.{Close, Colon, Open, Question}
pub use Rattle.std.proofs.Common.{Bool, List, None, Option, Some, [], add-one, ap, append-nil, append_assoc, ap₂, arith, codes, drop, drop-cons, false, get_or, if◌then◌else◌, inl, inr, length, length-append, length-drop, length-take, map, nat_eq, nat_le, nat_lt, not, option_and_then, option_map, refl, rules, set, slice_index, slice_index_or, slice_set, subst, suc, sym, take, take-append-drop, true, zero, ℕ, ◌%◌, ◌*◌, ◌++◌, ◌+◌, ◌-◌, ◌/◌, ◌<◌, ◌==◌, ◌^◌, ◌∙◌, ◌∷◌, ◌≡◌, ◌≢◌, ◌≤◌, ◌⊎◌}
pub use Rattle.std.proofs.Math.Seq.{drop-nil, get_or-append_seam, set-append_seam, take-append_seam, take-set-lt}
pub use Rattle.std.proofs.lemmas.Bool.{cases_Bool, cases_lt, cond-true, cond_both, eq-eqb, eqb-false, eqb-true, false_from_ne_true, false≢true, le-leb, le-ltb, leb-false, leb-true, lt-leb, lt-ltb, ltb-false, ltb-true, ne_eqb, not-false, not-true, true≢false}
pub use Rattle.std.proofs.lemmas.Bool.Decides.{Decides-eqb, eqb_tells, leb_tells, nat_tests}
pub use Rattle.std.proofs.lemmas.Int.Digits.{digits_value-lt, digits_value_more}
pub use Rattle.std.proofs.lemmas.List.{drop-drop, drop_all, get_or-drop, get_or-set_other, get_or-set_same, get_or-take, get_or_default, length-take-le, nil_from_length, take_all, take_rest}
pub use Rattle.std.proofs.lemmas.List.Sums.{prefix_len-le-length, prefix_len_is, prefix_len_stops, take_while-cons}
pub use Rattle.std.specs.Char.{digit_value, is_ascii_digit}
pub use Rattle.std.specs.List.{before_first, prefix_len, starts_with}
pub use Rattle.std.specs.Prelude.{MatchOption, take_while, ⊤, ◌↔◌}
pub use Rattle.std.specs.Str.Parse.{AllDigits, digits_value}
