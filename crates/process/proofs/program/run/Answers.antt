use Rattle.process.proofs.Prelude.{HasNoText, List, None, Option, Reports, Result, RunsProgram, WriterView, inl, inr, lacks_text, lacks_words, map, refl, string_bytes, words, ℕ, ◌≡◌, ◌⊎◌}
use Rattle.command_line.specs.Prelude.{spelled_out}
use Rattle.po_tools.specs.Prelude.{Answers, Reached}
use Rattle.runs.specs.declared.program_fault.ProgramFault.{ProgramFault}
use Rattle.runs.specs.declared.program_fault.ProgramFault.TheVariants.{NotText, OutOfMemory}
use Rattle.runs.specs.declared.run.Ending.TheVariants.{Refused}
use Rattle.process.proofs.program.run.Goals as goal

-- arguments that can't be had, by the fault that is reported
unread : {E : Type 0} {gives : List ℕ → Result ℕ E → Type 0} {argument : ℕ → Option (List ℕ) → Type 0}
    {answers : Answers}
    {refused : Type 0} {before : Reached} {errors told : WriterView} (fault : ProgramFault)
    → (fault ≡ OutOfMemory) ⊎ ((fault ≡ NotText) × HasNoText argument) → Reports None fault errors told
    → RunsProgram gives argument answers refused before before errors told Refused
unread fault (inl is) line = lacks_words (rw (is) at line) refl
unread fault (inr (is, none)) line = lacks_text none (rw (is) at line) refl

pub returns-in-Err : goal.returns-in-Err
returns-in-Err g c = rw (c.report.ensures.ending) (unread c.in-Err.fault c.in-Err.ensures.fault c.report.ensures.line)

pub returns-in-Ok-spelled_out : goal.returns-in-Ok-spelled_out
returns-in-Ok-spelled_out g c =
    let same : map (λ word. word.now) c.as_slice-in-Ok-spelled_out.result.now
    ≡ spelled_out (map string_bytes c.in-Ok.arguments.items) =
    rw (c.as_slice-in-Ok-spelled_out.ensures.value, c.in-Ok-spelled_out.ensures, c.as_slice.ensures.value) refl in
    words c.in-Ok.ensures.words (rw (same) at c.run_words.ensures)

pub returns : goal.returns
returns g c =
    let line = rw (c.from.ensures) at c.report-in-Err-spelled_out.ensures.line in
    rw (c.report-in-Err-spelled_out.ensures.ending) (lacks_words line refl)
