use Rattle.gettext.proofs.Prelude.{IsCatalogueAt, None, Some, [], ap, catalogue_file, catalogue_files, get_or, inl, inr, map-append, refl, subst, ◌∙◌, ◌∷◌, ◌≡◌}
use Rattle.gettext.proofs.FoundCatalogues.{asked-all, asked-more, asked-none, catalogue_as_before, completes-all, completes-found, completes-none, completes-skipped}
use Rattle.runs.proofs.AskedInputs.{stays_itself, stays_on}
use Rattle.std.specs.Str.{IsUtf8}
use Rattle.std.proofs.Common.{false, rules, true, ◌≢◌}
use Rattle.runs.specs.declared.inputs.InputFault.TheVariants.{OutOfMemory}
use Rattle.runs.specs.Prelude.{Asks}
use Rattle.runs.specs.Inputs.{file_of, refuses}
use Rattle.gettext.specs.declared.catalogues.CatalogueFile.{CatalogueFile}
use Rattle.gettext.proofs.catalogues.read_catalogues.Goals as goal

pub loop-path-init : goal.loop-path-init
loop-path-init g c = record {
  catalogues = rw c.new-found.ensures.items (completes-none (g.S.InputSource.file c.args.source.now) c.args.paths.now);
  stays = stays_itself _ _;
  asked =
      asked-none _ _;
}

pub loop-path-preserved-in_default : goal.loop-path-preserved-in_default
loop-path-preserved-in_default g c =
    let path : c.deref.result.now ≡ (get_or c.args.paths.now c.loop-path.path-index c.path-item.result).items =
    c.deref.ensures.value ∙ ap (λ v. v.items) c.path-item.is in
    let unread = subst (λ p. IsUtf8 p → ⊥) path c.in_default.ensures.cases.0 in record {
      catalogues = completes-skipped _ c.args.paths.now c.loop-path.path-index c.path-item.result _
          c.loop-path-test.true
          (inl unread) c.loop-path.invariant.catalogues;
      stays = c.loop-path.invariant.stays;
      asked = asked-more c.args.paths.now c.loop-path.path-index c.path-item.result _ _ _ c.loop-path-test.true
          (inr (unread, refl)) c.loop-path.invariant.asked;
    }

pub loop-path-preserved-in-Err : goal.loop-path-preserved-in-Err
loop-path-preserved-in-Err g c =
    let path : c.in-Ok.name.now ≡ (get_or c.args.paths.now c.loop-path.path-index c.path-item.result).items =
    c.in-Ok.ensures.cases.0 ∙ c.deref.ensures.value ∙ ap (λ v. v.items) c.path-item.is in
    let file = g.S.InputSource.file c.args.source.now in
    let other : c.in-Err.why ≢ OutOfMemory = λ is. let e : false ≡ true = rw is at c.if-eq.ensures in cc in
    let unread : g.S.InputSource.file c.loop-path.source c.in-Ok.name.now (refuses c.in-Err.why) =
    elim c.in-Err.ensures.reading [ inl memory ↦ absurd (other memory) | inr unread ↦ unread ] in
    let refused = subst (λ p. IsCatalogueAt file p None) path
    (catalogue_as_before c.loop-path.invariant.stays _ None
    (inr (c.in-Err.why, other, unread))) in record {
      catalogues = completes-skipped _ c.args.paths.now c.loop-path.path-index c.path-item.result _
          c.loop-path-test.true
          refused c.loop-path.invariant.catalogues;
      stays = stays_on c.loop-path.invariant.stays c.read_file.ensures.stays;
      asked = asked-more c.args.paths.now c.loop-path.path-index c.path-item.result _ _ _ c.loop-path-test.true
          (inl (subst (λ p. Asks (g.S.InputSource.asked c.loop-path.source)
          (g.S.InputSource.asked c.read_file.new.self) (file_of p ∷ [])) path c.read_file.ensures.asked))
          c.loop-path.invariant.asked;
    }

pub loop-path-preserved : goal.loop-path-preserved
loop-path-preserved g c =
    let file = g.S.InputSource.file c.args.source.now in
    let path : c.in-Ok.name.now ≡ (get_or c.args.paths.now c.loop-path.path-index c.path-item.result).items =
    c.in-Ok.ensures.cases.0 ∙ c.deref.ensures.value ∙ ap (λ v. v.items) c.path-item.is in
    let read : CatalogueFile = record { path = c.in_ok-path.path; bytes = c.read_file.new.bytes } in
    let catalogue = catalogue_file read in
    let there = subst (λ p. IsCatalogueAt file p (Some catalogue)) path
    (catalogue_as_before c.loop-path.invariant.stays c.in-Ok.name.now (Some catalogue)
    (c.in_ok-path.ensures.ok, search rules)) in record {
      catalogues = completes-found file c.args.paths.now c.loop-path.path-index c.path-item.result
          (catalogue_files c.loop-path.found.items) (catalogue_files c.push.new.self.items) catalogue
          c.loop-path-test.true there
          (ap catalogue_files c.in_ok-push.ensures.items
          ∙ map-append catalogue_file c.loop-path.found.items (read ∷ []))
          c.loop-path.invariant.catalogues;
      stays = stays_on c.loop-path.invariant.stays c.read_file.ensures.stays;
      asked = asked-more c.args.paths.now c.loop-path.path-index c.path-item.result _ _ _ c.loop-path-test.true
          (inl (subst (λ p. Asks (g.S.InputSource.asked c.loop-path.source)
          (g.S.InputSource.asked c.read_file.new.self) (file_of p ∷ [])) path c.read_file.ensures.asked))
          c.loop-path.invariant.asked;
    }

pub returns-clause-catalogues : goal.returns-clause-catalogues
returns-clause-catalogues g c = completes-all _ _ _ _ c.loop-path-test.false c.loop-path.invariant.catalogues

pub returns-clause-asked : goal.returns-clause-asked
returns-clause-asked g c = asked-all _ _ _ _ c.loop-path-test.false c.loop-path.invariant.asked
