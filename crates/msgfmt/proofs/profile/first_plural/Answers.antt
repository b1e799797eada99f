use Rattle.msgfmt.proofs.Prelude.{CompiledMessage, YieldsList-from_slice, checked_message, find_from_yields_List, is_plural, rules}
use Rattle.msgfmt.proofs.CheckedMessages.{found_checked}
use Rattle.msgfmt.proofs.profile.first_plural.Goals as goal

pub returns : goal.returns
returns c =
    found_checked is_plural c.args.messages.now c.find.result
    (find_from_yields_List (λ (m : CompiledMessage). is_plural (checked_message m)) _ _ c.find.result c.find.ensures.ran
    (YieldsList-from_slice c.args.messages.now c.iter.ensures.rest) (λ x b q k. search rules))
