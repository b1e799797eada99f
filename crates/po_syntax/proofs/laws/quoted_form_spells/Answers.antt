use Rattle.po_syntax.proofs.Prelude.{[], append_assoc, first_token, refl, written_bytes, ◌++◌, ◌∷◌}
use Rattle.po_syntax.proofs.QuotedForms.{bytes_spell}
use Rattle.po_syntax.proofs.laws.quoted_form_spells.Goals as goal

pub returns-clause-spelt : goal.returns-clause-spelt
returns-clause-spelt c = bytes_spell

pub returns-clause-read : goal.returns-clause-read
unfolding first_token
returns-clause-read c = λ bytes rest h.
    ((written_bytes bytes ++ 34 ∷ []) ++ rest, refl, rw append_assoc (bytes_spell bytes rest h))
