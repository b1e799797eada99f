-- A text cut after each LF.
use Rattle.std.specs.Prelude.{◌≢◌, ℕ, ◌==◌, List, [], ◌∷◌, ◌++◌, All, if◌then◌else◌}
use Rattle.std.specs.List.{onto_first}
use Rattle.std.proofs.Common.{sym, subst}
use Rattle.std.proofs.lemmas.Bool.{cond_both, eqb-true, eqb-false}
use Rattle.std.proofs.lemmas.List.Elements.{All-cons, All-nil}

-- the lines of a text, each with the LF that ends it, if one does
abbrev pub lines_with_ends : List ℕ → List (List ℕ)
lines_with_ends [] = []
lines_with_ends (b ∷ text) = if b == 10 then (10 ∷ []) ∷ lines_with_ends text else onto_first b (lines_with_ends text)

-- no byte is a LF
abbrev pub LacksFeed : List ℕ → Type 0
LacksFeed line = All (λ b. b ≢ 10) line

-- the lines of a text, each with the LF that ends it; the last one may have none
pub data ContainsLines : List ℕ → List (List ℕ) → Type 0 where
  none : ContainsLines [] []
  last : {b : ℕ} {line : List ℕ} → LacksFeed (b ∷ line) → ContainsLines (b ∷ line) ((b ∷ line) ∷ [])
  ended : (line : List ℕ) {text : List ℕ} {lines : List (List ℕ)} → LacksFeed line → ContainsLines text lines
      → ContainsLines (line ++ 10 ∷ text) ((line ++ 10 ∷ []) ∷ lines)

more : (b : ℕ) (line : List ℕ) → b ≢ 10 → LacksFeed line → LacksFeed (b ∷ line)
more b line other lacks = All-cons (λ c. c ≢ 10) b line other lacks

onto : (b : ℕ) {text : List ℕ} {lines : List (List ℕ)} → b ≢ 10 → ContainsLines text lines
    → ContainsLines (b ∷ text) (onto_first b lines)
onto b other none = last (more b [] other (All-nil (λ c. c ≢ 10)))
onto b other (last {b = c} {line = line} lacks) = last (more b (c ∷ line) other lacks)
onto b other (ended line lacks lines) = ended (b ∷ line) (more b line other lacks) lines

pub lines_are : (text : List ℕ) → ContainsLines text (lines_with_ends text)
lines_are [] = none
lines_are (b ∷ text) =
    let others = lines_are text in
    cond_both (b == 10) ((10 ∷ []) ∷ lines_with_ends text) (onto_first b (lines_with_ends text))
    (ContainsLines (b ∷ text))
    (λ is. subst (λ x. ContainsLines (x ∷ text) ((10 ∷ []) ∷ lines_with_ends text)) (sym (eqb-true b 10 is))
    (ended [] (All-nil (λ c. c ≢ 10)) others)) (λ other. onto b (eqb-false b 10 other) others)
