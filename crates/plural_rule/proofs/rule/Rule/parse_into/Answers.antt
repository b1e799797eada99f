use Rattle.plural_rule.proofs.Prelude.{Default, Instruction, IsReadable, List, Tree, ap, default_rule, expression_limit, program, subst, sym, tree_of, ◌∙◌, ◌≡◌}
use Rattle.plural_rule.proofs.Programs.{tree_is}
use Rattle.plural_rule.proofs.rule.Rule.parse_into.Goals as goal

program_is : (code : List Instruction) (t : Tree) → code ≡ program 0 t → code ≡ program 0 (tree_of code)
program_is code t e = e ∙ ap (program 0) (sym (tree_is code t e))

pub returns-in-Ok-clause-rule : goal.returns-in-Ok-clause-rule
returns-in-Ok-clause-rule c =
    let h = c.in-Ok.ensures.1 in
    subst (IsReadable expression_limit c.args.header.now c.in-Ok.nplurals) (sym (tree_is _ h.tree h.code_is)) h.readable

pub returns-in-Ok-clause-program : goal.returns-in-Ok-clause-program
returns-in-Ok-clause-program c = program_is _ c.in-Ok.ensures.1.tree c.in-Ok.ensures.1.code_is

pub returns-in-Err-clause-rule : goal.returns-in-Err-clause-rule
returns-in-Err-clause-rule c = (
  c.in-Err.ensures,
  ap (λ t. record { source = Default c.in-Err.reason; nplurals = 2; tree = t })
      (tree_is _ (default_rule c.in-Err.reason).tree (rw c.copy_from_slice.ensures.after)),
)

pub returns-in-Err-clause-program : goal.returns-in-Err-clause-program
returns-in-Err-clause-program c =
    program_is _ (default_rule c.in-Err.reason).tree (rw c.copy_from_slice.ensures.after)
