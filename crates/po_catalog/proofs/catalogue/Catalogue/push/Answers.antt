use Rattle.po_catalog.proofs.Prelude.{All-pushed, IsCatalogueEntry, false≢true, inl, refl, sym, ◌∙◌}
use Rattle.po_reader.proofs.ReaderSteps.{on_ok_always}
use Rattle.po_catalog.proofs.catalogue.Catalogue.push.Goals as goal

pub invariant_of-self : goal.invariant_of-self
invariant_of-self c =
    let here : IsCatalogueEntry c.args.entry =
    record {
      valid = c.invariant.ensures;
      charset = c.has_admitted_charset.ensures.0 c.if-not-has_admitted_charset.false;
    } in
    rw c.push.ensures.items (All-pushed IsCatalogueEntry _ c.self.inside.entries.items _ c.self.invariant here)

pub returns-clause-admitted : goal.returns-clause-admitted
returns-clause-admitted c =
    on_ok_always c.match-push.result (c.has_admitted_charset.ensures.0 c.if-not-has_admitted_charset.false)

pub returns-then-not-has_admitted_charset-clause-fault : goal.returns-then-not-has_admitted_charset-clause-fault
returns-then-not-has_admitted_charset-clause-fault c =
    inl (
      λ admitted. false≢true (sym c.if-not-has_admitted_charset.true ∙ c.has_admitted_charset.ensures.1 admitted),
      rw c.line-line.ensures refl,
    )
