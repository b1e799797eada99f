use Rattle.envsubst.proofs.Prelude.{after_dollar, ap, inl, inr, nil-from_length, some-from_length, sym, ◌∙◌, ◌∷◌}
use Rattle.envsubst.proofs.Substitution.{ends-copied, ends-empty, ends-name}
use Rattle.envsubst.proofs.holding.ending.Goals as goal

pub returns-then-is_empty : goal.returns-then-is_empty
returns-then-is_empty c = ends-empty _ c.args.held.now (nil-from_length c.args.held.now (sym c.if-is_empty.ensures))

pub returns-then-is_braced : goal.returns-then-is_braced
returns-then-is_braced c =
    ends-copied _ c.begun-is_braced.result.0 _ c.begun-is_braced.result.1.now c.begun-is_braced.ensures.bytes
    c.begun-is_braced.ensures.name (inl c.if-is_braced.true)

pub returns-then-is_empty-2 : goal.returns-then-is_empty-2
returns-then-is_empty-2 c =
    ends-copied _ c.begun-is_braced.result.0 _ c.begun-is_braced.result.1.now c.begun-is_braced.ensures.bytes
    c.begun-is_braced.ensures.name
    (inr (nil-from_length c.begun-is_braced.result.1.now (sym c.if-is_empty-2.ensures)))

pub returns : goal.returns
returns c =
    let name = c.begun-is_braced.result.1.now in
    let bare = c.begun-is_braced.ensures.bytes ∙ ap (λ b. 36 ∷ after_dollar b name) c.if-is_braced.false in
    ends-name _ _ name _ bare c.begun-is_braced.ensures.name
    (some-from_length name (sym c.if-is_empty-2.ensures)) c.value_for.ensures
