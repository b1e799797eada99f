use Rattle.mo_file.proofs.Prelude.{ap, key_of, plural_of, sym, ◌∙◌}
use Rattle.mo_file.proofs.Cuts.{before_all, before_is, plural_cut, plural_none}
use Rattle.mo_file.proofs.message_parts.original_parts.Goals as goal

pub returns-in-Some-clause-key : goal.returns-in-Some-clause-key
returns-in-Some-clause-key c = let parts = c.in-Some.ensures in sym (ap key_of parts.0 ∙ before_is 0 _ _ parts.1)

pub returns-in-Some-clause-plural : goal.returns-in-Some-clause-plural
returns-in-Some-clause-plural c =
    let parts = c.in-Some.ensures in
    sym (ap plural_of parts.0 ∙ plural_cut _ _ parts.1 c.first_part.result.now c.first_part.ensures.part)

pub returns-in-None-clause-key : goal.returns-in-None-clause-key
returns-in-None-clause-key c = sym (before_all 0 c.args.original.now c.in-None.ensures)

pub returns-in-None-clause-plural : goal.returns-in-None-clause-plural
returns-in-None-clause-plural c = sym (plural_none c.args.original.now c.in-None.ensures)
