use Rattle.mo_file.proofs.Prelude.{ap, context_of, id_of, sym, ◌∙◌}
use Rattle.mo_file.proofs.Cuts.{context_cut, context_none, id_all, id_cut}
use Rattle.mo_file.proofs.message_parts.key_parts.Goals as goal

pub returns-in-Some-clause-context : goal.returns-in-Some-clause-context
returns-in-Some-clause-context c = let parts =
    c.in-Some.ensures in sym (ap context_of parts.0 ∙ context_cut _ _ parts.1)

pub returns-in-Some-clause-id : goal.returns-in-Some-clause-id
returns-in-Some-clause-id c = let parts = c.in-Some.ensures in sym (ap id_of parts.0 ∙ id_cut _ _ parts.1)

pub returns-in-None-clause-context : goal.returns-in-None-clause-context
returns-in-None-clause-context c = sym (context_none c.args.key.now c.in-None.ensures)

pub returns-in-None-clause-id : goal.returns-in-None-clause-id
returns-in-None-clause-id c = sym (id_all c.args.key.now c.in-None.ensures)
