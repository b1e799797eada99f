use Rattle.msgcat.proofs.laws.merged_again.Goals as goal
use Rattle.msgcat.proofs.Prelude.{merged}

pub returns : goal.returns
returns c = λ o inputs use_first name.
    c.one_input_stays.ensures use_first (record { name = name; entries = merged o inputs })
    (c.messages_stand_once.ensures.once o inputs)
