use Rattle.gettext.proofs.Prelude.{append_assoc}
use Rattle.gettext.proofs.FoundCatalogues.{Completes-all, Completes-opened, Completes-refused, catalogs-few}
use Rattle.gettext.proofs.plan.open_all.Goals as goal

pub loop-name-preserved-in_default : goal.loop-name-preserved-in_default
loop-name-preserved-in_default c =
    let joins = rw c.in_default.is at c.in_ok-fault.ensures in
    Completes-opened _ _ c.loop-name.name-index _ c.loop-name.catalogs.items _ _ joins.catalog joins.order
    c.loop-name-test.true joins.joined joins.is_file joins.is_catalog c.loop-name.invariant

pub loop-name-preserved : goal.loop-name-preserved
loop-name-preserved c =
    let refusal = rw c.in-Some.is at c.in_ok-fault.ensures in
    rw refusal.1 (Completes-refused _ _ c.loop-name.name-index _ _ c.loop-name.messages.items _ c.in-Some.fault
    c.loop-name-test.true
    (rw (
      c.in_ok-extend_from_slice.ensures.items,
      c.in_ok-push_mo_text.ensures,
      c.in_ok-push_location.ensures,
    )
    (simp append_assoc)) refusal.0 c.loop-name.invariant)

pub returns : goal.returns
returns c =
    let opens = Completes-all c.args.tool.now c.args.files.now c.loop-name.name-index _ _
    c.loop-name-test.false c.loop-name.invariant in
    record { opens = opens; few = catalogs-few c.args.tool.now c.args.files.now opens }
