use Rattle.po_entry.proofs.Prelude.{refl}
use Rattle.po_entry.proofs.EntryRows.{always, keeps}
use Rattle.po_entry.proofs.drafts.Drafts.add_message.Goals as goal

pub returns-in_err-row-clause-unchanged : goal.returns-in_err-row-clause-unchanged
returns-in_err-row-clause-unchanged c =
    always c.from_residual.result (λ laid.
    let k = keeps _ _ _ _ c.add_message.ensures.grows refl laid in (k.lie, k.same))

pub returns-in_err-push-clause-unchanged : goal.returns-in_err-push-clause-unchanged
returns-in_err-push-clause-unchanged c =
    always c.from_residual-in_err-push.result (λ laid.
    let k = keeps _ _ _ _ c.add_message.ensures.grows c.in_err-push.ensures.items laid in (k.lie, k.same))
