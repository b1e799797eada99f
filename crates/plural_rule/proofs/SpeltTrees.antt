-- Tokens are read as a tree exactly where they spell it.
use Rattle.plural_rule.proofs.Prelude.{Binary, Close, Colon, Conditional, Have, List, None, Not, Open, Operand, Operator, Option, Or, Question, Some, Spells, State, Token, Tree, WaitBinary, WaitColon, WaitNot, WaitOpen, WaitQuestion, Waiting, Want, [], alone, ap, append-nil, append_assoc, arith, at_close, at_colon, binary, cases_Bool, conditional, count, eqb-true, finish, inl, inr, le-leb, leb-false, leb-true, level, lt-leb, lt-ltb, ltb-true, nat_le, nat_lt, ne_eqb, negation, numeral, option_and_then, outcome, outcome_from, parentheses, reduce, refl, step, subst, suc, sym, tighter, true, zero, ℕ, ◌++◌, ◌+◌, ◌-◌, ◌<◌, ◌==◌, ◌^◌, ◌∙◌, ◌∷◌, ◌≡◌, ◌≤◌}
use Rattle.plural_rule.specs.declared.token.Token.TheVariants.{Binary as BinaryToken, Count as CountToken, Not as NotToken, Number as NumberToken}

-- every operator's level is from 1 to 6
pub level-range : (op : Operator) → (1 ≤ level op) × (level op ≤ 6)
level-range op = (leb-true 1 (level op) (low op), leb-true (level op) 6 (high op)) where
  low : (op : Operator) → nat_le 1 (level op) ≡ true
  low Or = refl
  low _ = refl

  high : (op : Operator) → nat_le (level op) 6 ≡ true
  high Or = refl
  high _ = refl

-- an operand of level k may stand after what waits: only `!` and operators that bind less tight are
-- on top
abbrev pub Fits : ℕ → List Waiting → Type 0
Fits k (WaitNot ∷ stack) = 7 ≤ k
Fits k (WaitBinary op a ∷ stack) = level op < k
Fits k stack = Unit {0}

pub Fits-later : (j k : ℕ) (stack : List Waiting) → j ≤ k → Fits j stack → Fits k stack
Fits-later j k (WaitNot ∷ stack) h f = omega arith
Fits-later j k (WaitBinary op a ∷ stack) h f = omega arith
Fits-later j k _ h f = tt

pub reduce-binary : (k : ℕ) (op : Operator) (a : Tree) (stack : List Waiting) (t : Tree) → k ≤ level op
    → reduce k (WaitBinary op a ∷ stack) t ≡ reduce k stack (Binary op a t)
reduce-binary k op a stack t h =
    rw (le-leb k (level op) h)

-- nothing that waits binds as tight as an operand that fits, from level 1 on
pub reduce-fits : (k : ℕ) (stack : List Waiting) (t : Tree) → 1 ≤ k → k ≤ 6 → Fits k stack
    → reduce k stack t ≡ record { stack = stack; tree = t }
reduce-fits k (WaitNot ∷ stack) t low high f = absurd (omega arith)
reduce-fits k (WaitBinary op a ∷ stack) t low high f =
    rw (lt-leb k (level op) f)
reduce-fits k (WaitColon a b ∷ stack) t low high f =
    rw (ne_eqb k 0 (λ e. omega arith))
reduce-fits k _ t low high f = refl

-- what follows an operand of level k reduces it at most to this level, so operands that reduce alike have one outcome
abbrev pub Ends : ℕ → List Token → Type 0
Ends k rest = (xs ys : List Waiting) (t u : Tree) → ((j : ℕ) → j ≤ k → reduce j xs t ≡ reduce j ys u)
    → outcome_from (Have xs t) rest ≡ outcome_from (Have ys u) rest

-- after the tokens of an operand it is complete
pub reads : {k : ℕ} {ts : List Token} {t : Tree} → Spells k ts t → (st : List Waiting) → Fits k st → (rest : List Token)
    → Ends k rest → outcome_from (Want st) (ts ++ rest) ≡ outcome_from (Have st t) rest
reads {k} (tighter d) st f rest ends =
    reads d st (Fits-later k (suc k) st (omega arith) f) rest
    (λ xs ys t u same. ends xs ys t u (λ j h. same j (omega arith)))
reads (conditional {xs} {ys} {zs} {a} {b} {c} da db dc) st f rest ends =
    let fits = Fits-later 0 1 st (omega arith) f in
    let question = λ (o : Operand). outcome_from (Want (WaitQuestion o.tree ∷ o.stack)) ((ys ++ Colon ∷ zs) ++ rest) in
    let colon = λ (o : Operand). option_and_then (λ next. outcome_from next (zs ++ rest)) (at_colon o.stack o.tree) in
    ap (outcome_from (Want st)) (append_assoc xs (Question ∷ (ys ++ Colon ∷ zs)) rest)
    ∙ reads da st fits (Question ∷ ((ys ++ Colon ∷ zs) ++ rest)) (λ _ _ _ _ same. ap question (same 1 (omega arith)))
    ∙ ap question (reduce-fits 1 st a (omega arith) (omega arith) fits)
    ∙ ap (outcome_from (Want (WaitQuestion a ∷ st))) (append_assoc ys (Colon ∷ zs) rest)
    ∙ reads db (WaitQuestion a ∷ st) tt (Colon ∷ (zs ++ rest)) (λ _ _ _ _ same. ap colon (same 0 (omega arith)))
    ∙ reads dc (WaitColon a b ∷ st) tt rest ends
    ∙ ends (WaitColon a b ∷ st) st c (Conditional a b c)
    (λ j h. let none : 0 ≡ j = omega arith in
    subst (λ i. reduce i (WaitColon a b ∷ st) c ≡ reduce i st (Conditional a b c)) none refl)
reads (binary {xs} {ys} {a} {b} op da db) st f rest ends =
    let range = level-range op in
    let operator = λ (o : Operand). outcome_from (Want (WaitBinary op o.tree ∷ o.stack)) (ys ++ rest) in
    ap (outcome_from (Want st)) (append_assoc xs (BinaryToken op ∷ ys) rest)
    ∙ reads da st f (BinaryToken op ∷ (ys ++ rest)) (λ _ _ _ _ same. ap operator (same (level op) (omega arith)))
    ∙ ap operator (reduce-fits (level op) st a range.0 range.1 f)
    ∙ reads db (WaitBinary op a ∷ st) (omega arith) rest
    (λ xs ys t u same. ends xs ys t u (λ j h. same j (omega arith)))
    ∙ ends (WaitBinary op a ∷ st) st b (Binary op a b) (λ j h. reduce-binary j op a st b h)
reads (negation {xs} {a} d) st f rest ends =
    reads d (WaitNot ∷ st) (omega arith) rest ends ∙ ends (WaitNot ∷ st) st a (Not a) (λ j h. refl)
reads (parentheses {xs} {a} d) st f rest ends =
    let close = λ (o : Operand). option_and_then (λ next. outcome_from next rest) (at_close o.stack o.tree) in
    ap (outcome_from (Want (WaitOpen ∷ st))) (append_assoc xs (Close ∷ []) rest)
    ∙ reads d (WaitOpen ∷ st) tt (Close ∷ rest) (λ _ _ _ _ same. ap close (same 0 (omega arith)))
reads count st f rest ends = refl
reads (numeral v small) st f rest ends = rw (lt-ltb v (2 ^ 64) small) refl

pub complete : (ts : List Token) (t : Tree) → Spells 0 ts t → outcome ts ≡ Some t
complete ts t d =
    ap outcome (sym (append-nil ts))
    ∙ reads d [] tt [] (λ _ _ _ _ same. ap (λ o. alone o.stack o.tree) (same 0 (omega arith)))

-- Tokens that are read as a tree spell that tree.

-- the tokens that a stack stands for
pub data Waits : List Waiting → List Token → Type 0 where
  nothing : Waits [] []
  bang : {stack : List Waiting} (before : List Token) → Waits stack before
      → Waits (WaitNot ∷ stack) (before ++ NotToken ∷ [])
  parenthesis : {stack : List Waiting} (before : List Token) → Waits stack before
      → Waits (WaitOpen ∷ stack) (before ++ Open ∷ [])
  operator : {stack : List Waiting} {op : Operator} {a : Tree} (before left : List Token) → Waits stack before
      → Spells (level op) left a → Fits (level op) stack
      → Waits (WaitBinary op a ∷ stack) ((before ++ left) ++ BinaryToken op ∷ [])
  question : {stack : List Waiting} {a : Tree} (before left : List Token) → Waits stack before → Spells 1 left a
      → Fits 1 stack → Waits (WaitQuestion a ∷ stack) ((before ++ left) ++ Question ∷ [])
  colon : {stack : List Waiting} {a b : Tree} (before left middle : List Token) → Waits stack before → Spells 1 left a
      → Fits 1 stack → Spells 0 middle b
      → Waits (WaitColon a b ∷ stack) ((((before ++ left) ++ Question ∷ []) ++ middle) ++ Colon ∷ [])

-- what was read: what waits, and an operand of level m after it
pub data Holds (m : ℕ) (stack : List Waiting) (tree : Tree) : List Token → Type 0 where
  holds : (before own : List Token) → Waits stack before → Spells m own tree → Fits m stack
      → Holds m stack tree (before ++ own)

loosen-by : (j d : ℕ) (ts : List Token) (t : Tree) → Spells (d + j) ts t → Spells j ts t
loosen-by j zero ts t s = let e : zero + j ≡ j = omega arith in subst (λ (k : ℕ). Spells k ts t) e s
loosen-by j (suc d) ts t s =
    let e : suc d + j ≡ suc (d + j) = omega arith in loosen-by j d ts t (tighter (subst (λ (k : ℕ). Spells k ts t) e s))

pub loosen : (j m : ℕ) {ts : List Token} {t : Tree} → j ≤ m → Spells m ts t → Spells j ts t
loosen j m {ts} {t} h s =
    let e : m ≡ (m - j) + j = omega arith in loosen-by j (m - j) ts t (subst (λ (k : ℕ). Spells k ts t) e s)

Fits-seven : (stack : List Waiting) → Fits 7 stack
Fits-seven (WaitNot ∷ stack) = omega arith
Fits-seven (WaitBinary op a ∷ stack) = omega (arith, (level-range op).1)
Fits-seven _ = tt

-- only `!` and operators don't fit, from level 1 down
Fits-zero : (stack : List Waiting) → Fits 1 stack → Fits 0 stack
Fits-zero (WaitNot ∷ stack) f = absurd (omega arith)
Fits-zero (WaitBinary op a ∷ stack) f = absurd (omega (arith, (level-range op).0))
Fits-zero _ f = tt

-- an operator's entry and its second operand spell its tree, and the like
holds-not : {m : ℕ} {stack : List Waiting} {t : Tree} {read : List Token} → Holds m (WaitNot ∷ stack) t read
    → Holds 7 stack (Not t) read
holds-not {m} {stack} {t} (holds _ own (bang before w) s f) =
    subst (Holds 7 stack (Not t)) (sym (append_assoc before (NotToken ∷ []) own))
    (holds before (NotToken ∷ own) w (negation (loosen 7 m f s)) (Fits-seven stack))

holds-binary : {m : ℕ} {op : Operator} {a : Tree} {stack : List Waiting} {t : Tree} {read : List Token}
    → Holds m (WaitBinary op a ∷ stack) t read → Holds (level op) stack (Binary op a t) read
holds-binary {m} {op} {a} {stack} {t} (holds _ own (operator before left w d g) s f) =
    let is : before ++ (left ++ BinaryToken op ∷ own) ≡ ((before ++ left) ++ BinaryToken op ∷ []) ++ own =
    simp append_assoc in
    subst (Holds (level op) stack (Binary op a t)) is
    (holds before (left ++ BinaryToken op ∷ own) w (binary op d (loosen (suc (level op)) m (omega arith) s)) g)

holds-colon : {m : ℕ} {a b : Tree} {stack : List Waiting} {t : Tree} {read : List Token}
    → Holds m (WaitColon a b ∷ stack) t read → Holds 0 stack (Conditional a b t) read
holds-colon {m} {a} {b} {stack} {t} (holds _ own (colon before left middle w d g e) s f) =
    let is : before ++ (left ++ Question ∷ (middle ++ Colon ∷ own))
    ≡ ((((before ++ left) ++ Question ∷ []) ++ middle) ++ Colon ∷ []) ++ own = simp append_assoc in
    subst (Holds 0 stack (Conditional a b t)) is
    (holds before (left ++ Question ∷ (middle ++ Colon ∷ own)) w (conditional d e (loosen 0 m (omega arith) s))
    (Fits-zero stack g))

stays : (k m : ℕ) {stack : List Waiting} {t : Tree} {read : List Token} → k ≤ m → Fits k stack → Holds m stack t read
    → Holds k stack t read
stays k m low fits (holds before own w s f) = holds before own w (loosen k m low s) fits

-- after a reduction to level k there is an operand of that level
pub reduces : (k : ℕ) (stack : List Waiting) (m : ℕ) (t : Tree) (read : List Token) → k ≤ m → k ≤ 7
    → Holds m stack t read → Holds k (reduce k stack t).stack (reduce k stack t).tree read
reduces k (WaitNot ∷ stack) m t read low high h = reduces k stack 7 (Not t) read high high (holds-not h)
reduces k (WaitBinary op a ∷ stack) m t read low high h =
    elim (cases_Bool (nat_le k (level op))) [
      | inl e ↦
          rw e (reduces k stack (level op) (Binary op a t) read (leb-true k (level op) e) high (holds-binary h))
      | inr e ↦ rw e (stays k m low (leb-false k (level op) e) h)
    ]
reduces k (WaitColon a b ∷ stack) m t read low high h =
    elim (cases_Bool (k == 0)) [
      | inl e ↦
          rw e (reduces k stack 0 (Conditional a b t) read (omega (arith, eqb-true k 0 e)) high (holds-colon h))
      | inr e ↦ rw e (stays k m low tt h)
    ]
reduces k stack m t read low high h = stays k m low tt h

-- what was read, in a state
abbrev pub Read : State → List Token → Type 0
Read (Want stack) read = Waits stack read
Read (Have stack t) read = Holds 7 stack t read

abbrev ReadSome : Option State → List Token → Type 0
ReadSome None read = Unit {0}
ReadSome (Some state) read = Read state read

operator-reads : (op : Operator) {stack : List Waiting} {t : Tree} {read : List Token} → Holds (level op) stack t read
    → Waits (WaitBinary op t ∷ stack) (read ++ BinaryToken op ∷ [])
operator-reads op (holds before own w s f) = operator before own w s f

question-reads : {stack : List Waiting} {t : Tree} {read : List Token} → Holds 1 stack t read
    → Waits (WaitQuestion t ∷ stack) (read ++ Question ∷ [])
question-reads (holds before own w s f) = question before own w s f

at_colon-reads : (stack : List Waiting) (t : Tree) {read : List Token} → Holds 0 stack t read
    → ReadSome (at_colon stack t) (read ++ Colon ∷ [])
at_colon-reads (WaitQuestion a ∷ stack) t (holds _ own (question before left w d g) s f) = colon before left own w d g s
at_colon-reads _ t h = tt

at_close-reads : (stack : List Waiting) (t : Tree) {read : List Token} → Holds 0 stack t read
    → ReadSome (at_close stack t) (read ++ Close ∷ [])
at_close-reads (WaitOpen ∷ stack) t (holds _ own (parenthesis before w) s f) =
    let is : before ++ Open ∷ (own ++ Close ∷ []) ≡ ((before ++ Open ∷ []) ++ own) ++ Close ∷ [] = simp append_assoc in
    subst (Holds 7 stack t) is (holds before (Open ∷ (own ++ Close ∷ [])) w (parentheses s) (Fits-seven stack))
at_close-reads _ t h = tt

step-reads : (state : State) (token : Token) (read : List Token) → Read state read
    → ReadSome (step state token) (read ++ token ∷ [])
step-reads (Want stack) CountToken read w = holds read (CountToken ∷ []) w count (Fits-seven stack)
step-reads (Want stack) (NumberToken v) read w =
    elim (cases_Bool (nat_lt v (2 ^ 64))) [
      | inl e ↦ rw e (holds read (NumberToken v ∷ []) w (numeral v (ltb-true v (2 ^ 64) e)) (Fits-seven stack))
      | inr e ↦ rw e tt
    ]
step-reads (Want stack) NotToken read w = bang read w
step-reads (Want stack) Open read w = parenthesis read w
step-reads (Want stack) _ read w = tt
step-reads (Have stack t) (BinaryToken op) read h =
    let range = level-range op in operator-reads op (reduces (level op) stack 7 t read (omega arith) (omega arith) h)
step-reads (Have stack t) Question read h = question-reads (reduces 1 stack 7 t read (omega arith) (omega arith) h)
step-reads (Have stack t) Colon read h = at_colon-reads _ _ (reduces 0 stack 7 t read (omega arith) (omega arith) h)
step-reads (Have stack t) Close read h = at_close-reads _ _ (reduces 0 stack 7 t read (omega arith) (omega arith) h)
step-reads (Have stack t) _ read h = tt

-- the tree that an operand alone stands for
alone-reads : (stack : List Waiting) (u t : Tree) {read : List Token} → Holds 0 stack u read → alone stack u ≡ Some t
    → Spells 0 read t
alone-reads [] u t (holds _ own nothing s f) e = let same : u ≡ t = cc in subst (Spells 0 own) same s
alone-reads (w ∷ stack) u t h e = absurd cc

finish-reads : (state : State) (t : Tree) (read : List Token) → Read state read → finish state ≡ Some t
    → Spells 0 read t
finish-reads (Want stack) t read h e = absurd cc
finish-reads (Have stack u) t read h e = alone-reads _ _ t (reduces 0 stack 7 u read (omega arith) (omega arith) h) e

run-some : (token : Token) (ts : List Token) (next : Option State) (read : List Token) (t : Tree)
    → ((state : State) → Read state (read ++ token ∷ []) → outcome_from state ts ≡ Some t
    → Spells 0 ((read ++ token ∷ []) ++ ts) t) → ReadSome next (read ++ token ∷ [])
    → option_and_then (λ s. outcome_from s ts) next ≡ Some t → Spells 0 (read ++ token ∷ ts) t
run-some token ts None read t go h e = absurd cc
run-some token ts (Some state) read t go h e =
    subst (λ r. Spells 0 r t) (append_assoc read (token ∷ []) ts) (go state h e)

run-reads : (ts : List Token) (state : State) (read : List Token) (t : Tree) → Read state read
    → outcome_from state ts ≡ Some t → Spells 0 (read ++ ts) t
run-reads [] state read t h e = subst (λ r. Spells 0 r t) (sym (append-nil read)) (finish-reads state t read h e)
run-reads (token ∷ ts) state read t h e =
    run-some token ts (step state token) read t (λ s h e. run-reads ts s (read ++ token ∷ []) t h e)
    (step-reads state token read h) e

pub sound : (ts : List Token) (t : Tree) → outcome ts ≡ Some t → Spells 0 ts t
sound ts t e = run-reads ts (Want []) [] t nothing e
