use Rattle.po_compile.proofs.Prelude.{AreCollected, AreCompiled, Bor, IfErr-weaker, IfOk-weaker, IsCompileFault, List, MatchResult-from_both, ap, arith, length, length-map, ok_both, slice_texts, subst, sym, ℕ}
use Rattle.po_compile.proofs.CollectedInputs.{collected_count}
use Rattle.po_compile.proofs.compiling.compile_all.Goals as goal

pub compile_collected-requires-clause-few : goal.compile_collected-requires-clause-few
compile_collected-requires-clause-few c =
    let texts = c.args.texts.now in
    let count = collected_count c.args.options.use_fuzzy
    (slice_texts texts) c.in-Ok.inputs.items c.in-Ok.ensures.found in
    omega (arith, count, ap length c.deref.ensures.value, length-map texts (λ (s : Bor (List ℕ)). s.now), c.requires)

pub returns-in-Ok-clause-exact : goal.returns-in-Ok-clause-exact
returns-in-Ok-clause-exact c =
    let texts = slice_texts c.args.texts.now in
    let options = c.args.options in
    let of = subst (AreCollected options.use_fuzzy texts) (sym c.deref.ensures.value) c.in-Ok.ensures.found in
    MatchResult-from_both c.compile_collected.result (AreCompiled options texts) (IsCompileFault options texts)
    (IfOk-weaker c.compile_collected.result _ _
    (λ compiled found. let h = found texts of in
    record { catalogues = of.catalogues; read = h.0; is_compiled = h.1 }) c.compile_collected.ensures.found)
    (IfErr-weaker c.compile_collected.result _ _ (λ error fault. fault texts of) c.compile_collected.ensures.fault)

pub returns-in-Ok-clause-statistics : goal.returns-in-Ok-clause-statistics
returns-in-Ok-clause-statistics c =
    let texts = slice_texts c.args.texts.now in
    let of = subst (AreCollected c.args.options.use_fuzzy texts) (sym c.deref.ensures.value) c.in-Ok.ensures.found in
    ok_both c.compile_collected.result
    (λ compiled found stats.
    record { catalogues = of.catalogues; read = (found texts of).0; stats = stats texts of })
    c.compile_collected.ensures.found c.compile_collected.ensures.statistics
