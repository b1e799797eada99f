use Rattle.msgcat.proofs.Prelude.{Bor, List, [], false, length, named_files, sym, ℕ, ◌==◌, ◌∙◌, ◌∷◌, ◌≡◌}
use Rattle.msgcat.proofs.plan.plan_msgcat_before.Goals as goal

some_file : (files : List (Bor (List ℕ) × Bor (List ℕ))) → (length files == 0) ≡ false → named_files files ≡ [] → ⊥
some_file [] some none = cc
some_file (file ∷ files) some none = cc

pub returns-clause-first : goal.returns-clause-first
returns-clause-first c =
    λ none. absurd (some_file c.args.inputs.now (sym c.is_empty.ensures ∙ c.if-is_empty.false) none)
