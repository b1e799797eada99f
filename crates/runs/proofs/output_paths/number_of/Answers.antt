use Rattle.runs.proofs.Prelude.{None, Some, ap, arith, bytes_eq-Decides, decimal, false, parse-decimal, result_ok, sym, true, ◌∙◌, ◌≡◌}
use Rattle.runs.proofs.output_paths.number_of.Goals as goal

pub returns-in_err-number : goal.returns-in_err-number
returns-in_err-number c =
    rw c.from_residual.ensures (λ n few same.
    let parsed = parse-decimal 32 n c.args.digits.now c.parse.result few
    (omega (arith, few)) same c.parse.ensures.value.0 in
    let no_number : None ≡ Some n = sym c.in_err-number.was ∙ c.ok.ensures.value ∙ ap result_ok parsed in cc)

pub returns-else-eq : goal.returns-else-eq
returns-else-eq c = λ n few same.
    let parsed = parse-decimal 32 n c.args.digits.now c.parse.result few
    (omega (arith, few)) same c.parse.ensures.value.0 in
    let found : Some c.in_ok-number.number ≡ Some n =
    sym c.in_ok-number.was ∙ c.ok.ensures.value ∙ ap result_ok parsed in
    let is : c.in_ok-number.number ≡ n = cc in
    let written : c.format.result.now ≡ c.args.digits.now = c.format.ensures.text ∙ ap decimal is ∙ sym same in
    let both : true ≡ false =
    sym ((bytes_eq-Decides c.format.result.now c.args.digits.now).1 written) ∙ sym c.eq.ensures ∙ c.if-eq.false in
    cc
