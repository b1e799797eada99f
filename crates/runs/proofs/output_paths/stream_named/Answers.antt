use Rattle.runs.proofs.Prelude.{Bool, List, NamesStream, bytes_eq, bytes_eq-Decides, codes, false, standard_error, standard_output, subst, sym, true, ℕ, ◌∙◌, ◌≡◌, ◌≢◌}
use Rattle.runs.proofs.Paths.{device_number, process_number}
use Rattle.runs.proofs.output_paths.stream_named.Goals as goal

other : {path : List ℕ} (name : List ℕ) {test : Bool} → test ≡ bytes_eq path name → test ≡ false → path ≢ name
other {path} name is differs same = let e : true ≡ false =
    sym ((bytes_eq-Decides path name).1 same) ∙ sym is ∙ differs in cc

pub returns-then-eq : goal.returns-then-eq
returns-then-eq c =
    subst (λ p. NamesStream p 1)
    (sym ((bytes_eq-Decides c.args.path.now (codes "/dev/stdout")).0 (sym c.eq.ensures ∙ c.if-eq.true)))
    standard_output

pub returns-then-eq-2 : goal.returns-then-eq-2
returns-then-eq-2 c =
    subst (λ p. NamesStream p 2)
    (sym ((bytes_eq-Decides c.args.path.now (codes "/dev/stderr")).0 (sym c.eq-2.ensures ∙ c.if-eq-2.true)))
    standard_error

pub returns-in-Some : goal.returns-in-Some
returns-in-Some c = device_number c.number_of.result c.in-Some.ensures.cases c.number_of.ensures

pub returns : goal.returns
returns c = process_number c.number_of-2.result c.in_ok-strip_prefix.ensures.cases c.number_of-2.ensures
