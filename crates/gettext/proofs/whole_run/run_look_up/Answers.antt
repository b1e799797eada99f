use Rattle.gettext.proofs.Prelude.{refl}
use Rattle.std.proofs.lemmas.Result.{err_from_is_err_and}
use Rattle.gettext.specs.WholeRun.{no_memory, runs}
use Rattle.gettext.proofs.FoundCatalogues.{of_found}
use Rattle.gettext.proofs.whole_run.run_look_up.Goals as goal

pub returns-in_err-found : goal.returns-in_err-found
returns-in_err-found g c =
    let p = err_from_is_err_and c.from_residual.result c.from_residual.ensures.1 in rw (p.1, p.2) (no_memory refl)

pub returns-in_err-borrowed : goal.returns-in_err-borrowed
returns-in_err-borrowed g c =
    let p = err_from_is_err_and c.from_residual-in_err-borrowed.result c.from_residual-in_err-borrowed.ensures.1 in
    rw (p.1, p.2) (no_memory refl)

pub returns-in-Err-OutOfMemory : goal.returns-in-Err-OutOfMemory
returns-in-Err-OutOfMemory g c = no_memory refl

pub returns : goal.returns
returns g c =
    let run = of_found _ _ _ _ _ _
    c.as_slice-2.ensures.value c.in_ok-borrowed.ensures.borrowed c.as_slice.ensures.value c.in-Ok.ensures.run in
    runs c.in_ok-found.ensures run c.write.ensures
