-- An expression evaluates to its value, and to no other number.
use Rattle.plural_rule.proofs.Prelude.{Add, And, AtLeast, AtMost, Binary, Conditional, Count, Divide, Equal, Evaluates, Greater, Less, Multiply, None, Not, NotEqual, Number, Operator, Option, Or, Remainder, Some, Subtract, Tree, and_both, and_first, and_second, arith, at_least, at_least_not, at_most, at_most_not, binary_value, cases_Bool, chosen, combined, difference, else_case, eq-eqb, eqb-false, eqb-true, eqb_tells, equal, equal_not, false, greater, greater_not, inl, inr, le-leb, le-ltb, leb_tells, less, less_not, lt-leb, lt-ltb, ne_eqb, needs_right, not-false, not-true, not_other, not_zero, option_and_then, option_map, or_first, or_neither, or_second, product, quotient, refl, remainder, short_circuit_value, suc, sum, then_case, true, truth, unequal, unequal_not, value, ℕ, ◌==◌, ◌↔◌, ◌≡◌}
use Rattle.plural_rule.specs.Evaluator.{count, numeral}

-- the value, as a record, which shows the tree and the number
record Has (n : ℕ) (t : Tree) (v : ℕ) : Type 0 where
  is : value t n ≡ Some v

-- an operator whose second operand is needed
needed : {n : ℕ} {a b : Tree} {x y v : ℕ} (op : Operator) → needs_right op x ≡ true → combined op x y ≡ Some v
    → Has n a x → Has n b y → Has n (Binary op a b) v
needed op need is h k = record { is = rw (h.is, k.is) (rw need is) }

has : {n : ℕ} {t : Tree} {v : ℕ} → Evaluates n t v → Has n t v
has count = record { is = refl }
has (numeral v) = record { is = refl }
has (not_zero x z h) = record { is = rw (has h).is (rw (eq-eqb x 0 z) refl) }
has (not_other x z h) = record { is = rw (has h).is (rw (ne_eqb x 0 z) refl) }
has (or_first x z h) = record { is = rw (has h).is (rw (ne_eqb x 0 z) refl) }
has (or_second x y z w h k) = needed Or (eq-eqb x 0 z) (rw (ne_eqb y 0 w) refl) (has h) (has k)
has (or_neither x y z w h k) = needed Or (eq-eqb x 0 z) (rw (eq-eqb y 0 w) refl) (has h) (has k)
has (and_first x z h) = record { is = rw (has h).is (rw (eq-eqb x 0 z) refl) }
has (and_second x y z w h k) = needed And (rw (ne_eqb x 0 z) refl) (rw (eq-eqb y 0 w) refl) (has h) (has k)
has (and_both x y z w h k) = needed And (rw (ne_eqb x 0 z) refl) (rw (ne_eqb y 0 w) refl) (has h) (has k)
has (equal x y z h k) = needed Equal refl (rw (eq-eqb x y z) refl) (has h) (has k)
has (equal_not x y z h k) = needed Equal refl (rw (ne_eqb x y z) refl) (has h) (has k)
has (unequal x y z h k) = needed NotEqual refl (rw (ne_eqb x y z) refl) (has h) (has k)
has (unequal_not x y z h k) = needed NotEqual refl (rw (eq-eqb x y z) refl) (has h) (has k)
has (less x y z h k) = needed Less refl (rw (lt-ltb x y z) refl) (has h) (has k)
has (less_not x y z h k) = needed Less refl (rw (le-ltb x y z) refl) (has h) (has k)
has (greater x y z h k) = needed Greater refl (rw (lt-ltb y x z) refl) (has h) (has k)
has (greater_not x y z h k) = needed Greater refl (rw (le-ltb y x z) refl) (has h) (has k)
has (at_most x y z h k) = needed AtMost refl (rw (le-leb x y z) refl) (has h) (has k)
has (at_most_not x y z h k) = needed AtMost refl (rw (lt-leb x y z) refl) (has h) (has k)
has (at_least x y z h k) = needed AtLeast refl (rw (le-leb y x z) refl) (has h) (has k)
has (at_least_not x y z h k) = needed AtLeast refl (rw (lt-leb y x z) refl) (has h) (has k)
has (sum x y h k) = needed Add refl refl (has h) (has k)
has (difference x y h k) = needed Subtract refl refl (has h) (has k)
has (product x y h k) = needed Multiply refl refl (has h) (has k)
has (quotient x y z h k) = needed Divide refl (rw (ne_eqb y 0 z) refl) (has h) (has k)
has (remainder x y z h k) = needed Remainder refl (rw (ne_eqb y 0 z) refl) (has h) (has k)
has (then_case x v z h k) = record { is = rw (has h).is (rw (ne_eqb x 0 z) (has k).is) }
has (else_case x v z h k) = record { is = rw (has h).is (rw (eq-eqb x 0 z) (has k).is) }

-- the expression evaluates to a value, where there is one
abbrev Known : ℕ → Tree → Option ℕ → Type 0
Known n t None = Unit {0}
Known n t (Some v) = Evaluates n t v

module _ (n : ℕ) (a b : Tree) (x : ℕ) (h : Evaluates n a x) where
  both : (op : Operator) (y : ℕ) → needs_right op x ≡ true → Evaluates n b y → Known n (Binary op a b) (combined op x y)
  both Or y need k =
      let o = eqb-true x 0 need in
      elim (eqb_tells y 0) [ inl (e, z) ↦ rw e (or_neither x y o z h k) | inr (e, z) ↦ rw e (or_second x y o z h k) ]
  both And y need k =
      let o = eqb-false x 0 (not-true _ need) in
      elim (eqb_tells y 0) [ inl (e, z) ↦ rw e (and_second x y o z h k) | inr (e, z) ↦ rw e (and_both x y o z h k) ]
  both Equal y _ k = elim (eqb_tells x y)
      [ inl (e, z) ↦ rw e (equal x y z h k) | inr (e, z) ↦ rw e (equal_not x y z h k) ]
  both NotEqual y _ k = elim (eqb_tells x y)
      [ inl (e, z) ↦ rw e (unequal_not x y z h k) | inr (e, z) ↦ rw e (unequal x y z h k) ]
  both Less y _ k = elim (leb_tells (suc x) y)
      [ inl (e, z) ↦ rw e (less x y z h k) | inr (e, z) ↦ rw e (less_not x y (omega arith) h k) ]
  both Greater y _ k = elim (leb_tells (suc y) x)
      [ inl (e, z) ↦ rw e (greater x y z h k) | inr (e, z) ↦ rw e (greater_not x y (omega arith) h k) ]
  both AtMost y _ k = elim (leb_tells x y)
      [ inl (e, z) ↦ rw e (at_most x y z h k) | inr (e, z) ↦ rw e (at_most_not x y z h k) ]
  both AtLeast y _ k = elim (leb_tells y x)
      [ inl (e, z) ↦ rw e (at_least x y z h k) | inr (e, z) ↦ rw e (at_least_not x y z h k) ]
  both Add y _ k = sum x y h k
  both Subtract y _ k = difference x y h k
  both Multiply y _ k = product x y h k
  both Divide y _ k = elim (eqb_tells y 0) [ inl (e, z) ↦ rw e tt | inr (e, z) ↦ rw e (quotient x y z h k) ]
  both Remainder y _ k = elim (eqb_tells y 0) [ inl (e, z) ↦ rw e tt | inr (e, z) ↦ rw e (remainder x y z h k) ]

  first : (op : Operator) → needs_right op x ≡ false → Evaluates n (Binary op a b) (short_circuit_value op)
  first Or e = or_first x (eqb-false x 0 e) h
  first And e = and_first x (eqb-true x 0 (not-false _ e)) h
  first _ e = absurd cc

known-binary : (n : ℕ) (op : Operator) (a b : Tree) (v w : Option ℕ) → Known n a v → Known n b w
    → Known n (Binary op a b) (binary_value op v w)
known-binary n op a b None w h k = tt
known-binary n op a b (Some x) w h k =
    elim (cases_Bool (needs_right op x)) [ inl e ↦ rw e (second w k e) | inr e ↦ rw e (first n a b x h op e) ] where
      second : (w : Option ℕ) → Known n b w → needs_right op x ≡ true
          → Known n (Binary op a b) (option_and_then (combined op x) w)
      second None k e = tt
      second (Some y) k e = both n a b x h op y e k

known-not : (n : ℕ) (a : Tree) (v : Option ℕ) → Known n a v → Known n (Not a) (option_map (λ x. truth (x == 0)) v)
known-not n a None h = tt
known-not n a (Some x) h =
    elim (eqb_tells x 0) [ inl (e, z) ↦ rw e (not_zero x z h) | inr (e, z) ↦ rw e (not_other x z h) ]

known-case : (n : ℕ) (t b : Tree) (w : Option ℕ) → ((v : ℕ) → Evaluates n b v → Evaluates n t v) → Known n b w
    → Known n t w
known-case n t b None go h = tt
known-case n t b (Some v) go h = go v h

known-chosen : (n : ℕ) (a b c : Tree) (v second third : Option ℕ) → Known n a v → Known n b second → Known n c third
    → Known n (Conditional a b c) (chosen v second third None)
known-chosen n a b c None second third h k l = tt
known-chosen n a b c (Some x) second third h k l =
    elim (eqb_tells x 0) [
      | inl (e, z) ↦ rw e (known-case n (Conditional a b c) c third (λ v m. else_case x v z h m) l)
      | inr (e, z) ↦ rw e (known-case n (Conditional a b c) b second (λ v m. then_case x v z h m) k)
    ]

known : (n : ℕ) (t : Tree) → Known n t (value t n)
known n Count = count
known n (Number v) = numeral v
known n (Not a) = known-not n a (value a n) (known n a)
known n (Binary op a b) = known-binary n op a b (value a n) (value b n) (known n a) (known n b)
known n (Conditional a b c) =
    known-chosen n a b c (value a n) (value b n) (value c n) (known n a) (known n b) (known n c)

pub value_evaluates : (n : ℕ) (t : Tree) (v : ℕ) → value t n ≡ Some v ↔ Evaluates n t v
value_evaluates n t v = (λ e. rw e at (known n t), λ h. (has h).is)
