use Rattle.msgunfmt.proofs.RoundTrip.{unformat_then_compile}
use Rattle.msgunfmt.proofs.laws.unformat_then_compile.Goals as goal

pub returns : goal.returns
returns c =
    unformat_then_compile c.texts_come_back.ensures c.messages_differ.ensures c.joined_entries_can_stand.ensures
    c.one_text_is_read.ensures c.messages_are_one.ensures c.look_up_means_entries.ensures
    c.one_reading.ensures c.entries_can_stand.ensures c.written_text_reads.ensures c.live_entries_stay.ensures
