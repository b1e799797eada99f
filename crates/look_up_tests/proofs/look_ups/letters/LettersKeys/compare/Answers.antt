use Rattle.std.specs.Option.{option_copied}
use Rattle.std.proofs.lemmas.Bool.{ne_eqb}
use Rattle.mo_file.specs.Prelude.{key_cmp, key_of, query_key}
use Rattle.std.proofs.Common.{ℕ, ◌≡◌, ◌+◌, ◌*◌, ◌<◌, ◌∙◌, ap, arith, cond, not, take, [], ◌∷◌}
use Rattle.look_up_tests.proofs.LetterLemmas.{length-letters, key_at-letters}
use Rattle.look_up_tests.proofs.look_ups.letters.LettersKeys.compare.Goals as goal

single : (x : ℕ) → (x ≡ 0 → ⊥) → key_of (x ∷ []) ≡ x ∷ []
single x live = ap (λ b. take (cond (not b) 1 0) (x ∷ [])) (ne_eqb x 0 live)

pub overflow_cast-i : goal.overflow_cast-i
overflow_cast-i c = let few = c.args.self.now.few in omega (arith, length-letters c.args.self.now.many)

pub overflow_mul-i : goal.overflow_mul-i
overflow_mul-i c = let few = c.args.self.now.few in omega (arith, length-letters c.args.self.now.many)

pub overflow_add-i : goal.overflow_add-i
overflow_add-i c = let few = c.args.self.now.few in omega (arith, length-letters c.args.self.now.many)

pub returns-clause-order : goal.returns-clause-order
returns-clause-order c =
    let inside : c.args.i < c.args.self.now.many = omega (arith, length-letters c.args.self.now.many) in
    rw (key_at-letters c.args.self.now.many c.args.i inside)
    (c.compare_key.ensures ∙ ap (λ key. key_cmp key (query_key (option_copied c.args.context) c.args.id.now))
    (single (98 + 2 * c.args.i) (λ nul. omega arith)))
