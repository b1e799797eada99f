use Rattle.po_catalog.proofs.Entries.{plain_entry_valid}
use Rattle.po_catalog.proofs.entry.Entry.message.Goals as goal

pub of_fields-requires : goal.of_fields-requires
of_fields-requires c =
    let id = c.in_ok-id.ensures.items_if_clones_equal (λ x y same. same) in
    rw (
      c.in_ok-context.ensures,
      id,
      c.in_ok-plural.ensures,
      c.in_ok-forms.ensures,
      c.new.ensures,
      c.new-2.ensures,
      c.new-3.ensures,
      c.new-4.ensures,
      c.none.ensures,
    )
    (plain_entry_valid c.args.context c.args.id.now c.args.plural c.args.forms.now c.in_default.ensures
    c.requires.some_form c.requires.one_form)
