-- What holds of one outcome alone.
use Rattle.std.specs.Prelude.{◌≡◌}
use Rattle.std.proofs.Common.{◌∙◌, sym}

-- it holds of this outcome, and of no other
pub record Once {O : Type 0} (Is : O → Type 0) : Type 0 where
  pub outcome : O
  pub holds : Is outcome
  pub only : (other : O) → Is other → other ≡ outcome

pub same : {O : Type 0} {Is : O → Type 0} → Once Is → {one other : O} → Is one → Is other → one ≡ other
same once {one = one} {other = other} is also = once.only one is ∙ sym (once.only other also)
