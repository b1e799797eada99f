use Rattle.po_syntax.proofs.Prelude.{List, arith, digit_value, digits_value, get_or, length, sym, take, ℕ, ◌*◌, ◌+◌, ◌<◌, ◌≡◌, ◌≤◌}
use Rattle.std.proofs.lemmas.Int.Digits.{digits_value_more}
use Rattle.std.proofs.lemmas.Str.Parse.{digits_value-take-le}
use Rattle.po_syntax.proofs.escape.number_of.Goals as goal

-- one more digit
step : (base number : ℕ) (digits : List ℕ) (i : ℕ) → i < length digits → number ≡ digits_value base (take i digits)
    → digits_value base (take (i + 1) digits) ≡ number * base + digit_value (get_or digits i 0)
step base number digits i h e = rw e (digits_value_more base digits i h)

-- the digits so far write no more than all of them
within : (base number : ℕ) (digits : List ℕ) (i : ℕ) → 2 ≤ base → i < length digits
    → number ≡ digits_value base (take i digits)
    → number * base + digit_value (get_or digits i 0) ≤ digits_value base digits
within base number digits i b h e =
    rw (sym (step base number digits i h e)) (digits_value-take-le base digits (i + 1) (omega arith))

pub returns-in_err-checked_mul : goal.returns-in_err-checked_mul
returns-in_err-checked_mul c =
    let most = within _ _ _ _ c.requires.least c.loop-digit-test.true c.loop-digit.invariant.0 in
    rw c.from_residual-in_err-checked_mul.ensures (λ small. c.in_err-checked_mul.ensures (omega arith))

pub returns-in_err-number : goal.returns-in_err-number
returns-in_err-number c =
    let most = within _ _ _ _ c.requires.least c.loop-digit-test.true c.loop-digit.invariant.0 in
    rw c.from_residual-in_err-number.ensures
    (λ small. c.in_err-number.ensures (omega (arith, c.in_ok-digit.ensures.value, c.in_ok-checked_mul.ensures)))

pub loop-digit-preserved : goal.loop-digit-preserved
loop-digit-preserved c =
    let more = step _ _ _ _ c.loop-digit-test.true c.loop-digit.invariant.0 in (
      omega (arith, more, c.in_ok-digit.ensures.value, c.in_ok-checked_mul.ensures, c.in_ok-number.ensures),
      omega (arith, c.in_ok-number.ensures),
    )
