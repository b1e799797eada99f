-- The runs at the start and at the end of a list, of the elements that pass a test. Lemmas over any
-- test, which no clause can say.
use Rattle.std.proofs.Common.{◌≡◌, ◌∙◌, refl, sym, ap, subst, ℕ, ◌+◌, ◌-◌, ◌≤◌, Bool, true, false, cond, List, [], ◌∷◌, ◌++◌, append_assoc, append-nil, take, drop, length, reverse, All, arith}
use Rattle.std.specs.List.{prefix_len, suffix_len}
use Rattle.std.proofs.Math.Numerals.{one-add}
use Rattle.std.proofs.lemmas.Bool.{cond_both, cond-true, cond-false}
use Rattle.std.proofs.lemmas.List.{take-append-drop, take-append-le, take_all, length-append, reverse-append, reverse-reverse, same_from_push}
use Rattle.std.proofs.lemmas.List.Sums.{suffix_len-le-length}
use Rattle.std.proofs.lemmas.List.Elements.{All-nil, All-cons, All-head, All-tail, All-append}
use Rattle.po_syntax.specs.Token.{FailsFirst, without_end}

-- the list is a run of elements that pass, and a rest that begins with none
pub record Parts {X : Type 0} (test : X → Bool) (xs : List X) : Type 0 where
  pub passes : All (λ x. test x ≡ true) (take (prefix_len test xs) xs)
  pub ends : FailsFirst test (drop (prefix_len test xs) xs)
  pub whole : take (prefix_len test xs) xs ++ drop (prefix_len test xs) xs ≡ xs

abbrev PartsAt : {X : Type 0} → (X → Bool) → List X → ℕ → Type 0
PartsAt test xs n = All (λ x. test x ≡ true) (take n xs) × FailsFirst test (drop n xs)

at_run : {X : Type 0} (test : X → Bool) (xs : List X) → PartsAt test xs (prefix_len test xs)
at_run test [] = (All-nil (λ y. test y ≡ true), tt)
at_run test (x ∷ xs) =
    cond_both (test x) (1 + prefix_len test xs) 0 (PartsAt test (x ∷ xs))
    (λ is. let h = at_run test xs in
    rw (one-add (prefix_len test xs)) (All-cons (λ y. test y ≡ true) x (take (prefix_len test xs) xs) is h.0, h.1))
    (λ fails. (All-nil (λ y. test y ≡ true), fails))

pub parts_of : {X : Type 0} (test : X → Bool) (xs : List X) → Parts test xs
parts_of test xs = record {
  passes = (at_run test xs).0;
  ends = (at_run test xs).1;
  whole = take-append-drop (prefix_len test xs) xs;
}

pub run_length : {X : Type 0} (test : X → Bool) (run rest : List X) → All (λ x. test x ≡ true) run
    → FailsFirst test rest → prefix_len test (run ++ rest) ≡ length run
run_length test [] [] passes ends = refl
run_length test [] (x ∷ rest) passes ends = cond-false (test x) _ 0 ends
run_length test (x ∷ run) rest passes ends =
    cond-true (test x) _ 0 (All-head (λ y. test y ≡ true) x run passes)
    ∙ omega (arith, run_length test run rest (All-tail (λ y. test y ≡ true) x run passes) ends)

-- the list doesn't end with an element that passes
abbrev pub FailsLast : {X : Type 0} → (X → Bool) → List X → Type 0
FailsLast {X} test xs = (before : List X) (x : X) → xs ≡ before ++ x ∷ [] → test x ≡ false

-- a list, and elements that pass after it
pub record EndParts {X : Type 0} (test : X → Bool) (xs kept : List X) : Type 0 where
  pub end : List X
  pub passes : All (λ x. test x ≡ true) end
  pub whole : xs ≡ kept ++ end
  pub fails : FailsLast test kept

from_reversed : {X : Type 0} (Q : List X → Type 0) → Q [] → ((xs : List X) (x : X) → Q xs → Q (xs ++ x ∷ []))
    → (xs : List X) → Q (reverse xs)
from_reversed Q none more [] = none
from_reversed Q none more (x ∷ xs) =
    rw (reverse-append (x ∷ []) xs) (more (reverse xs) x (from_reversed Q none more xs))

pub from_end : {X : Type 0} (Q : List X → Type 0) → Q [] → ((xs : List X) (x : X) → Q xs → Q (xs ++ x ∷ []))
    → (xs : List X) → Q xs
from_end Q none more xs = rw reverse-reverse at (from_reversed Q none more (reverse xs))

suffix_step : {X : Type 0} (test : X → Bool) (xs : List X) (x : X)
    → suffix_len test (xs ++ x ∷ []) ≡ cond (test x) (1 + suffix_len test xs) 0
suffix_step test xs x = ap (prefix_len test) (reverse-append xs (x ∷ []))

end_passes : {X : Type 0} (test : X → Bool) (xs : List X) (x : X) → test x ≡ true
    → without_end test (xs ++ x ∷ []) ≡ without_end test xs
end_passes test xs x t =
    let passed : suffix_len test (xs ++ x ∷ []) ≡ 1 + suffix_len test xs = suffix_step test xs x ∙ rw t refl in
    let few : suffix_len test xs ≤ length xs = suffix_len-le-length test xs in
    let count : length (xs ++ x ∷ []) - suffix_len test (xs ++ x ∷ []) ≡ length xs - suffix_len test xs =
    omega (arith, length-append xs (x ∷ [])) in
    let inside : length xs - suffix_len test xs ≤ length xs = omega arith in
    rw count (take-append-le (length xs - suffix_len test xs) xs (x ∷ []) inside)

end_fails : {X : Type 0} (test : X → Bool) (xs : List X) (x : X) → test x ≡ false
    → without_end test (xs ++ x ∷ []) ≡ xs ++ x ∷ []
end_fails test xs x t =
    let failed : suffix_len test (xs ++ x ∷ []) ≡ 0 = suffix_step test xs x ∙ rw t refl in
    take_all _ (xs ++ x ∷ []) (omega arith)

no_last : {X : Type 0} (before : List X) (x : X) → [] ≡ before ++ x ∷ [] → ⊥
no_last [] x e = cc
no_last (y ∷ before) x e = cc

parts_step : {X : Type 0} (test : X → Bool) (xs : List X) (x : X) (b : Bool) → test x ≡ b
    → EndParts test xs (without_end test xs) → EndParts test (xs ++ x ∷ []) (without_end test (xs ++ x ∷ []))
parts_step test xs x true t parts =
    subst (EndParts test (xs ++ x ∷ [])) (sym (end_passes test xs x t)) (record {
      end = parts.end ++ x ∷ [];
      passes =
          All-append (λ y. test y ≡ true) parts.end (x ∷ []) parts.passes
          (All-cons (λ y. test y ≡ true) x [] t (All-nil (λ y. test y ≡ true)));
      whole = ap (λ l. l ++ x ∷ []) parts.whole ∙ append_assoc (without_end test xs) parts.end (x ∷ []);
      fails = parts.fails;
    })
parts_step test xs x false t parts =
    subst (EndParts test (xs ++ x ∷ [])) (sym (end_fails test xs x t)) (record {
      end = [];
      passes = All-nil (λ y. test y ≡ true);
      whole = sym (append-nil (xs ++ x ∷ []));
      fails = λ before y e. let same = same_from_push xs before x y e in ap test (sym same.1) ∙ t;
    })

pub end_parts : {X : Type 0} (test : X → Bool) (xs : List X) → EndParts test xs (without_end test xs)
end_parts test =
    from_end (λ xs. EndParts test xs (without_end test xs))
    (record {
      end = [];
      passes = All-nil (λ y. test y ≡ true);
      whole = refl;
      fails = λ before x e. absurd (no_last before x e);
    })
    (λ xs x parts. parts_step test xs x (test x) refl parts)

kept_all : {X : Type 0} (test : X → Bool) (xs : List X) → FailsLast test xs → without_end test xs ≡ xs
kept_all test =
    from_end (λ xs. FailsLast test xs → without_end test xs ≡ xs) (λ fails. refl)
    (λ xs x ih fails. end_fails test xs x (fails xs x refl))

last_passes : {X : Type 0} (P : X → Type 0) (xs : List X) (x : X) → All P (xs ++ x ∷ []) → All P xs × P x
last_passes P [] x h = (All-nil P, All-head P x [] h)
last_passes P (y ∷ xs) x h =
    let p = last_passes P xs x (All-tail P y (xs ++ x ∷ []) h) in
    (All-cons P y xs (All-head P y (xs ++ x ∷ []) h) p.0, p.1)

-- what is kept of a list, whose end passes, is what stands before that
pub kept_is : {X : Type 0} (test : X → Bool) (kept : List X) → FailsLast test kept → (end : List X)
    → All (λ x. test x ≡ true) end → without_end test (kept ++ end) ≡ kept
kept_is test kept fails =
    from_end (λ end. All (λ x. test x ≡ true) end → without_end test (kept ++ end) ≡ kept)
    (λ _. ap (without_end test) (append-nil kept) ∙ kept_all test kept fails)
    (λ end x ih passes.
    let p = last_passes (λ y. test y ≡ true) end x passes in
    ap (without_end test) (sym (append_assoc kept end (x ∷ []))) ∙ end_passes test (kept ++ end) x p.1 ∙ ih p.0)
