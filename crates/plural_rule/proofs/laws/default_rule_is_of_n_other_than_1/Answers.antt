use Rattle.plural_rule.proofs.Prelude.{Binary, Count, HasNoDouble, Lexes, List, NotEqual, Number, Operator, Or, Spelt, Token, [], ap, arith, blank, codes, end, false, false≢true, get_or, operator_bytes, refl, sym, token, ◌==◌, ◌∙◌, ◌∷◌, ◌≡◌}
use Rattle.plural_rule.specs.declared.token.Token.TheVariants.{Binary as BinaryToken, Count as CountToken, Number as NumberToken}
use Rattle.plural_rule.proofs.Tokens.{double-token, numeral-token, single-token}
use Rattle.plural_rule.proofs.SpeltTrees.{sound}
use Rattle.plural_rule.proofs.laws.default_rule_is_of_n_other_than_1.Goals as goal

abbrev tokens : List Token
tokens = CountToken ∷ BinaryToken NotEqual ∷ NumberToken 1 ∷ []

-- no operator begins with `n`
no-n : (op : Operator) → (get_or (operator_bytes op) 0 0 == 110) ≡ false
no-n Or = refl
no-n _ = refl

no-double : HasNoDouble (codes "n != 1")
no-double op h = false≢true (sym (no-n op) ∙ ap (λ bytes. get_or bytes 0 0 == 110) h.bytes)

lexes : Lexes (codes "n != 1") tokens
lexes =
    let n = single-token (codes "n != 1") CountToken (omega arith) refl no-double refl in
    let other = double-token (codes "!= 1") NotEqual refl (record { two = omega arith; bytes = refl }) in
    let one = numeral-token (codes "1") 1 refl refl in
    token CountToken (codes "n") n.spelling n.longest
    (blank refl (token (BinaryToken NotEqual) (codes "!=") other.spelling other.longest
    (blank refl (token (NumberToken 1) (codes "1") one.spelling one.longest end))))

spelt : Spelt (Binary NotEqual Count (Number 1)) (codes "n != 1")
spelt = (tokens, lexes, sound tokens (Binary NotEqual Count (Number 1)) refl)

pub returns-clause-spelt : goal.returns-clause-spelt
returns-clause-spelt c reason = record {
  text = codes "n != 1";
  nplurals_is = refl;
  nplurals_fits = omega arith;
  text_is = refl;
  text_fits = omega arith;
  spelt = spelt;
}
