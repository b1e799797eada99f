use Rattle.plural_rule.proofs.Prelude.{ap, entries_in, map, pending_of, ◌∙◌, ◌∷◌}
use Rattle.plural_rule.proofs.Programs.{stored-more}
use Rattle.plural_rule.proofs.pending.wait.Goals as goal

pub returns-clause-entries : goal.returns-clause-entries
returns-clause-entries c =
    ap (map pending_of) (stored-more c.args.codes.now c.args.before.count c.code.result c.requires)
    ∙ ap (λ p. p ∷ entries_in c.args.codes.now c.args.before.count) c.code.ensures
