use Rattle.msgunfmt.proofs.Prelude.{AppendsEntry, AppendsMessage, IfErr-weaker, IfOk-weaker, Message, RefusesEntry, RefusesMessage, entry_of_message, err_from_is_err_and, ◌≡◌}
use Rattle.msgunfmt.proofs.MessageParts.{appended, laid_entry, no_nul, refused}
use Rattle.msgunfmt.proofs.Messages.{entry_of}
use Rattle.msgunfmt.proofs.unformatting.append_message.Goals as goal

pub returns-in_err-lay_out-clause-fault : goal.returns-in_err-lay_out-clause-fault
returns-in_err-lay_out-clause-fault c =
    let m : Message =
    record { original = c.original-original.result.now; translation = c.translation-translation.result.now } in
    let at = entry_of c.args.view.now.messages c.args.i m.original m.translation c.original-original.ensures.value
    c.translation-translation.ensures in
    let p = err_from_is_err_and c.from_residual.result c.from_residual.ensures.1 in
    rw (p.1, p.2) (entry_of_message m, at, tt)

pub append_entry-requires : goal.append_entry-requires
append_entry-requires c =
    let m : Message =
    record { original = c.original-original.result.now; translation = c.translation-translation.result.now } in
    no_nul m c.of-entry.result (laid_entry m c.lay_out.new.drafts c.deref.result.now c.index.result.now
    c.of-entry.result c.in_ok-lay_out.ensures c.deref.ensures.value c.index.ensures c.of-entry.ensures)

pub returns-clause-appended : goal.returns-clause-appended
returns-clause-appended c =
    let m : Message =
    record { original = c.original-original.result.now; translation = c.translation-translation.result.now } in
    let messages = c.args.view.now.messages in
    let entry = c.of-entry.result in
    let old = c.args.text.now.items in
    let new = c.append_entry.new.text.items in
    let at = entry_of messages c.args.i m.original m.translation c.original-original.ensures.value
    c.translation-translation.ensures in
    let is : entry ≡ entry_of_message m =
    laid_entry m c.lay_out.new.drafts c.deref.result.now c.index.result.now entry c.in_ok-lay_out.ensures
    c.deref.ensures.value c.index.ensures c.of-entry.ensures in
    IfOk-weaker c.append_entry.result (AppendsEntry entry old new) (AppendsMessage messages c.args.i old new)
    (appended messages c.args.i m entry old new at is) c.append_entry.ensures.appended

pub returns-clause-fault : goal.returns-clause-fault
returns-clause-fault c =
    let m : Message =
    record { original = c.original-original.result.now; translation = c.translation-translation.result.now } in
    let messages = c.args.view.now.messages in
    let entry = c.of-entry.result in
    let at = entry_of messages c.args.i m.original m.translation c.original-original.ensures.value
    c.translation-translation.ensures in
    let is : entry ≡ entry_of_message m =
    laid_entry m c.lay_out.new.drafts c.deref.result.now c.index.result.now entry c.in_ok-lay_out.ensures
    c.deref.ensures.value c.index.ensures c.of-entry.ensures in
    IfErr-weaker c.append_entry.result (RefusesEntry entry c.args.i) (RefusesMessage messages c.args.i)
    (refused messages c.args.i m entry at is) c.append_entry.ensures.fault
