use Rattle.std.proofs.Common.{◌≡◌, List, sym, ap, ◌∙◌}
use Rattle.plural_rule.specs.declared.instruction.Instruction.{Instruction}
use Rattle.plural_rule.specs.Prelude.{Tree, program, tree_of, tree_of-program}
use Rattle.pokit_c.proofs.catalog.PokitCatalog.program.Goals as goal

tree_held : (code : List Instruction) (tree : Tree) → code ≡ program 0 tree → tree_of code ≡ tree
tree_held code tree is = ap tree_of is ∙ tree_of-program tree

pub returns-clause-program : goal.returns-clause-program
returns-clause-program c =
    let program_is = c.requires.1.program_is in
    program_is ∙ ap (program 0) (sym (tree_held _ c.requires.0.rule.tree program_is))

pub returns-clause-tree : goal.returns-clause-tree
returns-clause-tree c view opened = tree_held _ view.rule.tree opened.program_is
