use Rattle.po_compile.proofs.CollectedInputs.{look_up_means}
use Rattle.po_compile.proofs.laws.look_up_means_entries.Goals as goal

pub returns : goal.returns
returns c = look_up_means c.entries_can_stand.ensures c.layout_is_mo_file.ensures c.messages_mean_entries.ensures
    c.messages_are_one.ensures
