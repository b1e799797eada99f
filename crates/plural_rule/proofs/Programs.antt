-- The program of a tree: how it runs, and how many nodes begin in it.
use Rattle.plural_rule.proofs.Prelude.{And, Binary, Conditional, Count, Instruction, List, Next, None, Not, Number, Operator, Option, Or, Outcome, Some, Tree, [], act, action_of, add-one, ap, arith, begins, binary_instruction, binary_value, branch_instruction, branch_then, cases_Bool, choose_instruction, chosen, combined, count_instruction, drop, drop-cons, drop-drop, drop-nil, drop-program, false, get_or, get_or-set_other, get_or-set_same, go_on, inl, inr, is_lazy, jump_instruction, left_by, length, length-program, low_instruction, low_of, lt-ltb, ltb-true, nat_lt, nat_tests, needs_right, nodes, not_instruction, number_instruction, operator_of-code, option_and_then, option_map, program, program_then, refl, run, set, short_circuit_value, size, stored, suc, sym, tree_of, tree_of-program, true, truth, value, visited, visited_right, wide_instruction, with_value, zero, ℕ, ◌%◌, ◌*◌, ◌+◌, ◌-◌, ◌/◌, ◌<◌, ◌==◌, ◌^◌, ◌∙◌, ◌∷◌, ◌≡◌, ◌≤◌}
use Rattle.std.proofs.lemmas.Nat.{div-add-mod'}
use Rattle.plural_rule.specs.declared.instruction.Action.{Action}
use Rattle.plural_rule.specs.declared.instruction.Action.TheVariants.{Binary as BinaryAction, Branch as BranchAction}
use Rattle.plural_rule.specs.Internal.Evaluator.{outcome}

-- the tree of its program
pub tree_is : (code : List Instruction) (t : Tree) → code ≡ program 0 t → tree_of code ≡ t
tree_is code t e = ap tree_of e ∙ tree_of-program t

pub nodes-le-size : (t : Tree) → nodes t ≤ size t
nodes-le-size Count = omega arith
nodes-le-size (Number v) =
    elim (cases_Bool (nat_lt v (2 ^ 32))) [ inl e ↦ rw e (omega arith) | inr e ↦ rw e (omega arith) ]
nodes-le-size (Not a) = omega (arith, nodes-le-size a)
nodes-le-size (Binary op a b) = omega (arith, nodes-le-size a, nodes-le-size b)
nodes-le-size (Conditional a b c) = omega (arith, nodes-le-size a, nodes-le-size b, nodes-le-size c)

pub nodes-positive : (t : Tree) → 1 ≤ nodes t
nodes-positive Count = omega arith
nodes-positive _ = omega arith

pub size-some : (t : Tree) → 1 ≤ size t
size-some t = omega (arith, nodes-le-size t, nodes-positive t)

always-needed : (op : Operator) (x : ℕ) → is_lazy op ≡ false → needs_right op x ≡ true
always-needed Or x e = absurd cc
always-needed And x e = absurd cc
always-needed _ x e = refl

module _ (room n : ℕ) where
  -- one instruction
  step : (i : Instruction) (rest : List Instruction) (y x : ℕ) (older : List ℕ) (s : ℕ) → length older + 1 < room
      → run room n (i ∷ rest) 0 (y ∷ x ∷ older) s
      ≡ go_on (run room n rest) (s + begins i) (act n (action_of i) (low_of rest) (y ∷ x ∷ older))
  step i rest y x older s inside =
      rw (lt-ltb (1 + length older) room (omega (arith, inside))) refl

  -- where no node begins
  none-begins : (rest : List Instruction) (skip : ℕ) (values : List ℕ) (s : ℕ)
      → run room n rest skip values (s + 0) ≡ run room n rest skip values s
  none-begins rest skip values s = ap (run room n rest skip values) (omega arith)

  -- instructions that are skipped
  run-drop : (p : List Instruction) (skip : ℕ) (values : List ℕ) (s : ℕ)
      → run room n p skip values s ≡ run room n (drop skip p) 0 values s
  run-drop [] skip values s = ap (λ p. run room n p 0 values s) (sym (drop-nil skip))
  run-drop (i ∷ p) zero values s = refl
  run-drop (i ∷ p) (suc skip) values s = run-drop p skip values s

  over : (b : Tree) (rest : List Instruction) (k : ℕ) (values : List ℕ) (s : ℕ)
      → run room n (program_then 0 b rest) (size b + k) values s ≡ run room n rest k values s
  over b rest k values s =
      run-drop (program_then 0 b rest) (size b + k) values s ∙ ap (λ p. run room n p 0 values s) (drop-program b rest k)
      ∙ sym (run-drop rest k values s)

  -- what comes after a value
  abbrev resumed : List Instruction → List ℕ → Option ℕ → ℕ → Option Outcome
  resumed rest values None s = Some (record { value = None; steps = s })
  resumed rest values (Some v) s = run room n rest 0 (v ∷ values) s

  -- the program of an operand, which others follow
  abbrev Runs : ℕ → Tree → List Instruction → Type 0
  Runs k t rest = (y x : ℕ) (older : List ℕ) (s later : ℕ) → later ≡ s + k + visited t n
      → 2 * length older + size t + 5 ≤ 2 * room
      → run room n (program_then k t rest) 0 (y ∷ x ∷ older) s ≡ resumed rest (y ∷ x ∷ older) (value t n) later

  after-not : (rest : List Instruction) (y : ℕ) (older : List ℕ) (v : Option ℕ) (s : ℕ) → length older + 1 < room
      → resumed (not_instruction ∷ rest) (y ∷ older) v s
      ≡ resumed rest (y ∷ older) (option_map (λ x. truth (x == 0)) v) s
  after-not rest y older None s inside = refl
  after-not rest y older (Some x) s inside =
      step not_instruction rest x y older s inside ∙ none-begins rest 0 (truth (x == 0) ∷ y ∷ older) s

  after-binary : (op : Operator) (rest : List Instruction) (values : List ℕ) (x : ℕ) (v : Option ℕ) (s : ℕ)
      → length values + 1 < room
      → resumed (binary_instruction op ∷ rest) (x ∷ values) v s
      ≡ resumed rest values (option_and_then (combined op x) v) s
  after-binary op rest values x None s inside = refl
  after-binary op rest values x (Some y) s inside =
      step (binary_instruction op) rest y x values s inside
      ∙ ap (λ o. go_on (run room n rest) (s + 0) (act n (BinaryAction o) (low_of rest) (y ∷ x ∷ values)))
      (operator_of-code op)
      ∙ ended (combined op x y)
    where
      ended : (v : Option ℕ) → go_on (run room n rest) (s + 0) (with_value v values) ≡ resumed rest values v s
      ended None = ap (λ k. Some (record { value = None; steps = k })) (omega arith)
      ended (Some v) = none-begins rest 0 (v ∷ values) s

  needed : (op : Operator) (b : Tree) (rest : List Instruction) (y : ℕ) (older : List ℕ) (x s later : ℕ)
      → Runs 0 b (binary_instruction op ∷ rest) → needs_right op x ≡ true
      → later ≡ s + visited_right op (Some x) (visited b n) → 2 * length older + size b + 5 ≤ 2 * room
      → run room n (program_then 0 b (binary_instruction op ∷ rest)) 0 (x ∷ y ∷ older) s
      ≡ resumed rest (y ∷ older) (binary_value op (Some x) (value b n)) later
  needed op b rest y older x s later runs e at inside =
      let all : later ≡ s + 0 + visited b n = omega (arith, rw e at at) in
      rw e (runs x y older s later all (omega (arith, inside))
      ∙ after-binary op rest (y ∷ older) x (value b n) later (omega (arith, inside, size-some b)))

  after-first : (op : Operator) (b : Tree) (rest : List Instruction) (y : ℕ) (older : List ℕ) (v : Option ℕ)
      (s later : ℕ) → Runs 0 b (binary_instruction op ∷ rest) → later ≡ s + visited_right op v (visited b n)
      → 2 * length older + size b + 5 ≤ 2 * room
      → resumed (branch_then op (size b + 1) (program_then 0 b (binary_instruction op ∷ rest))) (y ∷ older) v s
      ≡ resumed rest (y ∷ older) (binary_value op v (value b n)) later
  after-first op b rest y older None s later runs at inside = ap (λ k. resumed rest (y ∷ older) None k) (omega arith)
  after-first op b rest y older (Some x) s later runs at inside =
      let code = program_then 0 b (binary_instruction op ∷ rest) in
      let branch = branch_instruction op (size b + 1) in
      elim (cases_Bool (is_lazy op)) [
        | inl lazy ↦
            rw lazy (step branch code x y older s (omega (arith, inside))
            ∙ ap (λ o. go_on (run room n code) (s + 0)
            (act n (BranchAction o (size b + 1)) (low_of code) (x ∷ y ∷ older)))
            (operator_of-code op)
            ∙ elim (cases_Bool (needs_right op x)) [
              | inl e ↦
                  rw (← needed op b rest y older x s later runs e at inside)
                  (rw e (none-begins code 0 (x ∷ y ∷ older) s))
              | inr e ↦
                  let none : s ≡ later = omega (arith, rw e at at) in
                  rw e (none-begins code (size b + 1) (short_circuit_value op ∷ y ∷ older) s
                  ∙ over b (binary_instruction op ∷ rest) 1 (short_circuit_value op ∷ y ∷ older) s
                  ∙ ap (run room n rest 0 (short_circuit_value op ∷ y ∷ older)) none)
            ])
        | inr strict ↦ rw strict (needed op b rest y older x s later runs (always-needed op x strict) at inside)
      ]

  after-condition : (b c : Tree) (rest : List Instruction) (y x : ℕ) (older : List ℕ) (v : Option ℕ) (s later : ℕ)
      → Runs 0 b (jump_instruction (size c) ∷ program_then 0 c rest) → Runs 0 c rest
      → later ≡ s + chosen v (visited b n) (visited c n) 0 → 2 * length older + size b + size c + 6 ≤ 2 * room
      → resumed (choose_instruction (size b + 1)
      ∷ program_then 0 b (jump_instruction (size c) ∷ program_then 0 c rest)) (y ∷ x ∷ older) v s
      ≡ resumed rest (y ∷ x ∷ older) (chosen v (value b n) (value c n) None) later
  after-condition b c rest y x older None s later runs runs' at inside =
      ap (λ k. resumed rest (y ∷ x ∷ older) None k) (omega arith)
  after-condition b c rest y x older (Some v) s later runs runs' at inside =
      let values = y ∷ x ∷ older in
      let third = program_then 0 c rest in
      let second = program_then 0 b (jump_instruction (size c) ∷ third) in
      step (choose_instruction (size b + 1)) second v y (x ∷ older) s (omega (arith, inside, size-some b))
      ∙ elim (cases_Bool (v == 0)) [
        | inl e ↦
            let all : later ≡ s + 0 + visited c n = omega (arith, rw e at at) in
            rw e (none-begins second (size b + 1) values s ∙ over b (jump_instruction (size c) ∷ third) 1 values s
            ∙ runs' y x older s later all (omega (arith, inside)))
        | inr e ↦
            let all : later ≡ s + 0 + visited b n = omega (arith, rw e at at) in
            rw e (none-begins second 0 values s ∙ runs y x older s later all (omega (arith, inside))
            ∙ jumped (value b n))
      ]
    where
      jumped : (w : Option ℕ) → resumed (jump_instruction (size c) ∷ program_then 0 c rest) (y ∷ x ∷ older) w later
          ≡ resumed rest (y ∷ x ∷ older) w later
      jumped None = refl
      jumped (Some w) =
          let all : size c ≡ size c + 0 = omega arith in
          step (jump_instruction (size c)) (program_then 0 c rest) w y (x ∷ older) later
          (omega (arith, inside, size-some b))
          ∙ none-begins (program_then 0 c rest) (size c) (w ∷ y ∷ x ∷ older) later
          ∙ ap (λ k. run room n (program_then 0 c rest) k (w ∷ y ∷ x ∷ older) later) all
          ∙ over c rest 0 (w ∷ y ∷ x ∷ older) later

  -- the program of a tree runs to the tree's value, and begins as many nodes as the tree's evaluation visits, where
  -- there is room for half as many values as instructions
  run-program : (t : Tree) (k : ℕ) (rest : List Instruction) → Runs k t rest
  run-program Count k rest y x older s later at inside =
      let begun : s + (1 + k) ≡ later = omega arith in
      step (count_instruction (1 + k)) rest y x older s (omega (arith, inside))
      ∙ ap (run room n rest 0 (n ∷ y ∷ x ∷ older)) begun
  run-program (Number v) k rest y x older s later at inside =
      let begun : s + (1 + k) ≡ later = omega arith in
      let values = y ∷ x ∷ older in
      elim (cases_Bool (nat_lt v (2 ^ 32))) [
        | inl small ↦
            rw small (step (number_instruction (1 + k) v) rest y x older s (omega (arith, rw small at inside))
            ∙ ap (run room n rest 0 (v ∷ values)) begun)
        | inr large ↦
            rw large (step (wide_instruction (1 + k) (v / 2 ^ 32)) (low_instruction (v % 2 ^ 32) ∷ rest) y x older s
            (omega (arith, rw large at inside))
            ∙ ap (λ x. run room n rest 0 (x ∷ values) (s + (1 + k))) (div-add-mod' v (2 ^ 32))
            ∙ ap (run room n rest 0 (v ∷ values)) begun)
      ]
  run-program (Not a) k rest y x older s later at inside =
      run-program a (1 + k) (not_instruction ∷ rest) y x older s later (omega arith) (omega (arith, inside))
      ∙ after-not rest y (x ∷ older) (value a n) later (omega (arith, inside, size-some a))
  run-program (Binary op a b) k rest y x older s later at inside =
      let first = s + (1 + k) + visited a n in
      run-program a (1 + k) _ y x older s first refl (omega (arith, inside))
      ∙ after-first op b rest y (x ∷ older) (value a n) first later (run-program b 0 (binary_instruction op ∷ rest))
      (omega arith) (omega (arith, inside, size-some a))
  run-program (Conditional a b c) k rest y x older s later at inside =
      let first = s + (1 + k) + visited a n in
      run-program a (1 + k) _ y x older s first refl (omega (arith, inside))
      ∙ after-condition b c rest y x older (value a n) first later (run-program b 0 _) (run-program c 0 rest)
      (omega arith) (omega (arith, inside, size-some a))

pub starts : (room n y x s : ℕ) (p : List Instruction) (t : Tree) → p ≡ program 0 t → length p + 5 ≤ 2 * room
    → run room n p 0 (y ∷ x ∷ []) s ≡ Some (outcome t n s)
starts room n y x s p t is inside =
    ap (λ q. run room n q 0 (y ∷ x ∷ []) s) is
    ∙ run-program room n t 0 [] y x [] s (s + visited t n) (omega arith)
    (omega (arith, inside, ap length is, length-program t 0 [])) ∙ alone (value t n)
  where
    alone : (v : Option ℕ) → resumed room n [] (y ∷ x ∷ []) v (s + visited t n)
        ≡ Some (record { value = v; steps = s + visited t n })
    alone None = refl
    alone (Some v) = refl

room-left : (room n : ℕ) (i : Instruction) (p : List Instruction) (y x : ℕ) (older : List ℕ) (s : ℕ) {o : Outcome}
    → run room n (i ∷ p) 0 (y ∷ x ∷ older) s ≡ Some o → length older + 1 < room
room-left room n i p y x older s runs =
    elim (cases_Bool (nat_lt (1 + length older) room))
    [ inl e ↦ omega (arith, ltb-true (1 + length older) room e) | inr e ↦ absurd (let none = rw e at runs in cc) ]

pub operator-within : (p : List Instruction) (i : ℕ) (op : Operator)
    → action_of (get_or p i (count_instruction 0)) ≡ BinaryAction op → i < length p
operator-within [] i op e = absurd cc
operator-within (x ∷ p) zero op e = omega arith
operator-within (x ∷ p) (suc i) op e = omega (arith, operator-within p i op e)

-- no node begins with an operator of two operands
pub operator-begins : (i : Instruction) (op : Operator) → action_of i ≡ BinaryAction op → begins i ≡ 0
operator-begins i op e = grind (arith, nat_tests, e)

-- an instruction inside of a program
pub acts : (room n : ℕ) (p : List Instruction) (i y x : ℕ) (older : List ℕ) (s : ℕ) {o : Outcome} {action : Action}
    {next : Next} → i < length p → run room n (drop i p) 0 (y ∷ x ∷ older) s ≡ Some o
    → action ≡ action_of (get_or p i (count_instruction 0))
    → act n action (low_of (drop (i + 1) p)) (y ∷ x ∷ older) ≡ next
    → go_on (run room n (drop (i + 1) p)) (s + begins (get_or p i (count_instruction 0))) next ≡ Some o
acts room n p i y x older s inside runs is leads =
    let none = count_instruction 0 in
    let whole = ap (λ q. run room n q 0 (y ∷ x ∷ older) s) (sym (drop-cons p i none inside)) ∙ runs in
    rw (sym leads, is, add-one)
    (sym (step room n (get_or p i none) (drop (suc i) p) y x older s
    (room-left room n (get_or p i none) (drop (suc i) p) y x older s whole)) ∙ whole)

pub skips : (room n : ℕ) (p : List Instruction) (i skip : ℕ) (values : List ℕ) (s : ℕ) {o : Outcome}
    → run room n (drop i p) skip values s ≡ Some o → run room n (drop (i + skip) p) 0 values s ≡ Some o
skips room n p i skip values s runs =
    ap (λ q. run room n q 0 values s) (sym (drop-drop skip i p)) ∙ sym (run-drop room n (drop i p) skip values s) ∙ runs

-- an operator right after an operand
pub fused : (room n : ℕ) (p : List Instruction) (i x s k : ℕ) (values : List ℕ) (v : Option ℕ) {o : Outcome} → k ≡ 0
    → go_on (run room n (drop (i + 1) p)) (s + k) (with_value v values) ≡ Some o
    → go_on (run room n (drop i p)) s (left_by v 1 1 (x ∷ values)) ≡ Some o
fused room n p i x s k values None none runs =
    ap (λ k. Some (record { value = None; steps = k })) (omega (arith, none)) ∙ runs
fused room n p i x s k values (Some v) none runs =
    run-drop room n (drop i p) 1 (v ∷ values) s ∙ ap (λ q. run room n q 0 (v ∷ values) s) (drop-drop 1 i p)
    ∙ ap (run room n (drop (i + 1) p) 0 (v ∷ values)) (omega (arith, none)) ∙ runs

length-stored : (stack : List ℕ) (k : ℕ) → length (stored stack k) ≡ k
length-stored stack zero = refl
length-stored stack (suc k) = omega (arith, length-stored stack k)

pub stored-cons : (stack : List ℕ) (len : ℕ) → 1 ≤ len
    → stored stack len ≡ get_or stack (len - 1) 0 ∷ stored stack (len - 1)
stored-cons stack zero some = absurd (omega arith)
stored-cons stack (suc k) some = let same : k ≡ suc k - 1 =
    omega arith in ap (λ j. get_or stack j 0 ∷ stored stack j) same

stored-set : (stack : List ℕ) (k i y : ℕ) → k ≤ i → stored (set stack i y) k ≡ stored stack k
stored-set stack zero i y h = refl
stored-set stack (suc k) i y h =
    rw (get_or-set_other stack i k y 0 (λ e. omega arith), stored-set stack k i y (omega arith)) refl

pub stored-more : (stack : List ℕ) (len y : ℕ) → len < length stack
    → stored (set stack len y) (len + 1) ≡ y ∷ stored stack len
stored-more stack len y inside =
    ap (stored (set stack len y)) (add-one len)
    ∙ rw (get_or-set_same stack len y 0 inside, stored-set stack len len y (omega arith)) refl

-- before an instruction there are two values, and there is room for another one
pub record Ready (room len : ℕ) : Type 0 where
  pub some : 1 ≤ len
  pub inside : len < room

pub ready : (room n : ℕ) (p : List Instruction) (stack : List ℕ) (len newest s : ℕ) {o : Outcome} → 0 < length p
    → run room n p 0 (newest ∷ stored stack len) s ≡ Some o → Ready room len
ready room n [] stack len newest s some runs = absurd (omega arith)
ready room n (i ∷ p) stack zero newest s some runs = absurd cc
ready room n (i ∷ p) stack (suc k) newest s some runs =
    let left = room-left room n i p newest (get_or stack k 0) (stored stack k) s runs in
    record { some = omega arith; inside = omega (arith, left, length-stored stack k) }

-- how many nodes begin with instructions
abbrev pub all_begin : List Instruction → ℕ
all_begin [] = 0
all_begin (i ∷ rest) = begins i + all_begin rest

-- each node begins once
pub all_begin-program : (t : Tree) (k : ℕ) (rest : List Instruction)
    → all_begin (program_then k t rest) ≡ k + nodes t + all_begin rest
all_begin-program Count k rest = omega arith
all_begin-program (Number v) k rest =
    elim (cases_Bool (nat_lt v (2 ^ 32))) [ inl e ↦ rw e (omega arith) | inr e ↦ rw e (omega arith) ]
all_begin-program (Not a) k rest = all_begin-program a (1 + k) _ ∙ omega arith
all_begin-program (Binary op a b) k rest =
    let last = all_begin-program b 0 (binary_instruction op ∷ rest) in
    elim (cases_Bool (is_lazy op)) [
      | inl e ↦ rw e (all_begin-program a (1 + k) _ ∙ omega (arith, last))
      | inr e ↦ rw e (all_begin-program a (1 + k) _ ∙ omega (arith, last))
    ]
all_begin-program (Conditional a b c) k rest =
    all_begin-program a (1 + k) _
    ∙ omega (
      arith,
      all_begin-program b 0 (jump_instruction (size c) ∷ program_then 0 c rest),
      all_begin-program c 0 rest,
    )
