use Rattle.msgcat.proofs.Prelude.{All, Lacks, named_files, take}
use Rattle.msgcat.proofs.plan.first_with_nul.Given as goal

-- no name so far holds NUL
abbrev pub invariant-loop-place : goal.invariant-loop-place
invariant-loop-place l = All (λ file. Lacks 0 file.name) (named_files (take l.place l.files))
