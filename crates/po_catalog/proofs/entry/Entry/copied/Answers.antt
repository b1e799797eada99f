use Rattle.po_catalog.proofs.entry.Entry.copied.Goals as goal

pub of_fields-requires : goal.of_fields-requires
of_fields-requires c =
    let id = c.in_ok-id.ensures.items_if_clones_equal (λ x y same. same) in
    rw (
      c.in_ok-comments.ensures,
      c.in_ok-extracted.ensures,
      c.in_ok-references.ensures,
      c.in_ok-flags.ensures,
      c.in_ok-previous.ensures,
      c.in_ok-context.ensures,
      id,
      c.in_ok-plural.ensures,
      c.in_ok-forms.ensures,
      c.comments.ensures,
      c.extracted.ensures,
      c.references.ensures,
      c.flags.ensures,
      c.context.ensures,
      c.id.ensures,
      c.plural.ensures,
      c.forms.ensures,
      c.fuzzy.ensures,
      c.obsolete.ensures,
      c.line.ensures,
    )
    c.requires
