use Rattle.po_tools.proofs.Prelude.{AreChecked, HoldCatalogues, IfErr-weaker, MatchResult-from_both, None, Some, ap, arith, inl, inr, length, length-map, live_messages, on_ok_weaker, subst, sym, ⊎_elim, ◌≡◌, ◌⊎◌}
use Rattle.msgfmt.specs.declared.profile.CheckFault.TheVariants.{OutOfMemory}
use Rattle.po_tools.proofs.catalogues.profile_check.Goals as goal

pub check_collected-requires : goal.check_collected-requires
check_collected-requires c =
    omega (
      arith,
      c.requires,
      ap length c.deref.ensures.value,
      ap length c.in-Ok.ensures.messages,
      length-map c.args.catalogues.now (live_messages c.args.use_fuzzy),
    )

pub returns-in-Ok : goal.returns-in-Ok
returns-in-Ok c =
    let use_fuzzy = c.args.use_fuzzy in
    let catalogues = c.args.catalogues.now in
    let held = subst (HoldCatalogues use_fuzzy catalogues) (sym c.deref.ensures.value) c.in-Ok.ensures in
    MatchResult-from_both c.check_collected.result (λ _. AreChecked use_fuzzy catalogues None)
    (λ reported. (reported ≡ (0, OutOfMemory)) ⊎ AreChecked use_fuzzy catalogues (Some reported))
    (on_ok_weaker c.check_collected.result (λ fit. fit use_fuzzy catalogues held) c.check_collected.ensures.fit)
    (IfErr-weaker c.check_collected.result _ _
    (λ reported why. ⊎_elim (λ memory. inl memory) (λ unfit. inr (unfit use_fuzzy catalogues held)) why)
    c.check_collected.ensures.unfit)
