use Rattle.mo_file.proofs.Prelude.{ap, forms, take, ◌∙◌}
use Rattle.mo_file.proofs.Cuts.{first_all, first_cut, first_taken}
use Rattle.mo_file.proofs.message_parts.first_part.Goals as goal

pub returns-in-Some : goal.returns-in-Some
returns-in-Some c =
    let parts = c.in-Some.ensures in
    let part = ap (λ t. take 1 (forms t)) parts.0 ∙ first_cut _ _ parts.1 in
    record { part = part; first = first_taken _ _ part }

pub returns-in-None : goal.returns-in-None
returns-in-None c =
    let part = first_all c.args.text.now c.in-None.ensures in record { part = part; first = first_taken _ _ part }
