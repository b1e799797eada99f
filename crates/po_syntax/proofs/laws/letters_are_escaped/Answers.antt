use Rattle.po_syntax.proofs.Prelude.{closed, escape, letter, refl, written_byte}
use Rattle.po_syntax.proofs.laws.letters_are_escaped.Goals as goal

pub returns-clause-read : goal.returns-clause-read
returns-clause-read c = λ rest.
    escape (letter refl) (escape (letter refl) (escape (letter refl) (escape (letter refl) (escape (letter refl)
    (escape (letter refl) (escape (letter refl) (escape (letter refl) (escape (letter refl) closed))))))))

pub returns-clause-written : goal.returns-clause-written
unfolding written_byte
returns-clause-written c = refl
