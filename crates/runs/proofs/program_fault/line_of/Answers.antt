use Rattle.runs.proofs.Prelude.{Bor, List, ap, arith, cases_lt, false≢true, get_or, inl, inr, joined, length, length-flat_map-take, take, ℕ, ◌+◌, ◌<◌, ◌≡◌, ◌≤◌}
use Rattle.runs.proofs.Devices.{on-err}
use Rattle.runs.proofs.program_fault.line_of.Goals as goal

within : (parts : List (Bor (List ℕ))) (i : ℕ) (d : Bor (List ℕ)) {line part : List ℕ} → i < length parts
    → line ≡ joined (take i parts)
    → part ≡ (get_or parts i d).now → length line + length part ≤ length (joined parts)
within parts i d inside is at =
    omega (arith, length-flat_map-take (λ part. part.now) parts i d inside, ap length is, ap length at)

pub returns-in_err-try_extend_from_slice-clause-long : goal.returns-in_err-try_extend_from_slice-clause-long
returns-in_err-try_extend_from_slice-clause-long c =
    let all = within _ _ _ c.loop-part-test.true c.loop-part.invariant c.as_bytes.ensures.value in
    let full : 4096 < length c.loop-part.line.items + length c.as_bytes.result.now = elim (cases_lt 4096 _) [
      | inl more ↦ more
      | inr fits ↦ absurd (false≢true (c.in_err-try_extend_from_slice.ensures.variant.1 fits))
    ] in
    let long : 4096 < length (joined c.args.parts.now) = omega arith in
    on-err _ _ long
