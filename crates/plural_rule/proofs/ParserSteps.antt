-- The parser's instructions and stack, after one step and between two tokens of a text.
use Rattle.plural_rule.proofs.Prelude.{And, Answers, Binary, Bool, Conditional, Count, HasNoToken, Have, Held, HoldsExpression, HoldsTree, Instruction, IsOperand, IsTokenAt, IsTooLarge, IsWaiting, Lexes, List, MatchOption, None, Not, Number, Operand, Operator, Option, Or, Parser, Represents, Some, Spelt, State, Token, Tree, WaitBinary, WaitColon, WaitNot, WaitOpen, WaitQuestion, Waiting, Want, [], ap, ap₂, arith, at_close, at_colon, begun, binds, blank, branch-append, branch_instruction, cases_Bool, cases_lt, choose_instruction, completed, completed_program, count_instruction, counted, digits_value, digits_value-lt, drop, edited, end, entries_in, expression_limit, false, false≢true, finish, first_of, get_or-append_seam, get_or-take, get_or_default, held, if◌then◌else◌, inl, inr, is_blank, is_lazy, jump_instruction, le-ltb, length, length-append, length-program, length-take-le, low_instruction, lt-ltb, ltb-false, most_added, nat_lt, number_instruction, operator_bytes, option_and_then, outcome_from, pending, pendings, prefix_len, program, program-append, program_then, reduce, reduce_by, refl, set-append_seam, size, skipping, slice_index_or, slice_set, start_after, step, subst, suc, sym, take, take-append-drop, take-set-lt, token, true, waiting_then, wide_instruction, with_skip, without_blanks, ℕ, ⊤, ◌%◌, ◌++◌, ◌+◌, ◌-◌, ◌/◌, ◌<◌, ◌^◌, ◌∙◌, ◌∷◌, ◌≡◌, ◌≢◌, ◌≤◌}
use Rattle.std.proofs.lemmas.List.{length-take}
use Rattle.plural_rule.specs.declared.pending.Pending.{Pending}
use Rattle.plural_rule.specs.declared.pending.Pending.TheVariants.{Binary as BinaryPending, Colon as ColonPending, Open as OpenPending, Question as QuestionPending}
use Rattle.plural_rule.proofs.Programs.{size-some}
use Rattle.plural_rule.specs.declared.token.Token.TheVariants.{Binary as BinaryToken, Number as NumberToken}
use Rattle.plural_rule.proofs.SpeltTrees.{complete, sound}
use Rattle.plural_rule.proofs.Tokens.{Lexes-blank, Lexes-nothing, Lexes-token, first_byte}

-- an instruction in the middle
edited-seam : (edit : Instruction → Instruction) (xs : List Instruction) (i : Instruction) (ys : List Instruction)
    → edited edit (length xs) (xs ++ i ∷ ys) ≡ xs ++ edit i ∷ ys
edited-seam edit xs i ys =
    let inside : nat_lt (length xs) (length (xs ++ i ∷ ys)) ≡ true =
    lt-ltb _ _ (omega (arith, length-append xs (i ∷ ys))) in
    rw (inside, get_or-append_seam xs i ys (count_instruction 1)) (set-append_seam xs i ys (edit i))

-- an instruction of the first `len` of an array, which has more
pub edited-within : (edit : Instruction → Instruction) (room : List Instruction) (len i : ℕ) (d y : Instruction)
    → i < len → len ≤ length room → y ≡ edit (slice_index_or room i d)
    → take len (slice_set room i y) ≡ edited edit i (take len room)
edited-within edit room len i d y h fits is =
    let inside : nat_lt i (length (take len room)) ≡ true =
    lt-ltb _ _ (omega (arith, h, length-take-le len room fits)) in
    let e = count_instruction 1 in
    let read = get_or_default room i d e (omega arith) ∙ sym (get_or-take len room i e h) in
    rw inside (take-set-lt len room i y h ∙ ap (slice_set (take len room) i) (is ∙ ap edit read))

pub short : (len : ℕ) (room : List Instruction) → len ≤ 4096 → length (take len room) ≤ 4096
short len room h = omega (arith, length-take len room)

waiting-append : (stack : List Waiting) (xs ys : List Instruction)
    → waiting_then stack xs ++ ys ≡ waiting_then stack (xs ++ ys)
waiting-append [] xs ys = refl
waiting-append (WaitBinary op a ∷ stack) xs ys = simp (waiting-append stack, program-append, branch-append)
waiting-append (WaitQuestion a ∷ stack) xs ys = simp (waiting-append stack, program-append)
waiting-append (WaitColon a b ∷ stack) xs ys = simp (waiting-append stack, program-append)
waiting-append (w ∷ stack) xs ys = waiting-append stack xs ys

-- what follows instructions is one program with them
ruleset joined = (waiting-append, program-append)

-- one more node begins with the program of an operand
begun-program : (xs : List Instruction) (k : ℕ) (t : Tree) (rest : List Instruction) → k + size t ≤ 4096
    → begun (length xs) (xs ++ program_then k t rest) ≡ xs ++ program_then (1 + k) t rest
begun-program xs k Count rest h =
    let next : (1 + k + 1) % 2 ^ 16 ≡ 1 + (1 + k) = omega arith in
    edited-seam counted xs _ rest ∙ ap (λ n. xs ++ count_instruction n ∷ rest) next
begun-program xs k (Number v) rest h =
    elim (cases_Bool (nat_lt v (2 ^ 32))) [
      | inl e ↦
          let next : (1 + k + 1) % 2 ^ 16 ≡ 1 + (1 + k) = omega (arith, rw e at h) in
          rw e (edited-seam counted xs _ _ ∙ ap (λ n. xs ++ number_instruction n v ∷ rest) next)
      | inr e ↦
          let next : (1 + k + 1) % 2 ^ 16 ≡ 1 + (1 + k) = omega (arith, rw e at h) in
          let low = low_instruction (v % 2 ^ 32) ∷ rest in
          rw e (edited-seam counted xs _ _ ∙ ap (λ n. xs ++ wide_instruction n (v / 2 ^ 32) ∷ low) next)
    ]
begun-program xs k (Not a) rest h = begun-program xs (1 + k) a _ (omega arith)
begun-program xs k (Binary op a b) rest h = begun-program xs (1 + k) a _ (omega arith)
begun-program xs k (Conditional a b c) rest h = begun-program xs (1 + k) a _ (omega arith)

-- how many instructions the last operand has
length-operand : (parser : Held) (stack : List Waiting) (t : Tree) → IsOperand parser stack t
    → length parser.code ≡ parser.start + size t
length-operand parser stack t h =
    let split = waiting-append stack [] (program 0 t) in
    omega (
      arith,
      ap length (h.code_is ∙ sym split),
      h.start_is,
      length-append (waiting_then stack []) (program 0 t),
      length-program t 0 [],
    )

-- one more node begins with the last operand
begun-operand : (parser : Held) (stack : List Waiting) (t : Tree) → IsOperand parser stack t
    → length parser.code ≤ 4096 → begun parser.start parser.code ≡ waiting_then stack (program 1 t)
begun-operand parser stack t h fits =
    let join = waiting-append stack [] in
    ap₂ begun h.start_is (h.code_is ∙ sym (join (program 0 t)))
    ∙ begun-program (waiting_then stack []) 0 t [] (omega (arith, length-operand parser stack t h)) ∙ join (program 1 t)

-- the instruction before the last operand skips that and more
skips : (more : ℕ → ℕ) (xs : List Instruction) (i : Instruction) (t : Tree) (code : List Instruction) (start : ℕ)
    → code ≡ xs ++ i ∷ program 0 t → start ≡ length (xs ++ i ∷ [])
    → skipping (start - 1) (more (length code - start)) code ≡ xs ++ with_skip (more (size t)) i ∷ program 0 t
skips more xs i t code start is at =
    let place : start - 1 ≡ length xs = omega (arith, length-append xs (i ∷ [])) in
    let long : length code - start ≡ size t =
    omega (arith, ap length is, length-append xs (i ∷ program 0 t), length-append xs (i ∷ []), length-program t 0 []) in
    rw (place, long, is) (edited-seam (with_skip (more (size t))) xs i (program 0 t))

-- once an operand has completed what waits
abbrev pub completed_by : Pending → List Pending → Held → Held
completed_by top rest h =
    record { code = completed_program top h.start h.code; entries = rest; start = first_of top h.start }

-- the tree that an operand completes, where that binds
abbrev tree_with : Waiting → Tree → Tree
tree_with WaitNot t = Not t
tree_with (WaitBinary op a) t = Binary op a t
tree_with (WaitColon a b) t = Conditional a b t
tree_with _ t = t

completed_is : (k first : ℕ) (w : Waiting) (t : Tree)
    → completed k w t ≡ (if binds k (pending first w) then Some (tree_with w t) else None)
completed_is k first WaitNot t = refl
completed_is k first _ t = refl

-- the operand that it then stands for
completes : (k : ℕ) (w : Waiting) (below : List Waiting) (t : Tree) (parser : Held) → IsOperand parser (w ∷ below) t
    → length parser.code ≤ 4096 → binds k (pending (start_after below) w) ≡ true
    → IsOperand (completed_by (pending (start_after below) w) (pendings below) parser) below (tree_with w t)
completes k WaitNot below t parser h fits b =
    record {
      code_is = rw (begun-operand parser (WaitNot ∷ below) t h fits) (simp joined);
      entries_are = refl;
      start_is = h.start_is;
    }
completes k (WaitBinary op a) below t parser h fits b =
    let xs = waiting_then below (program 1 a) in
    let code_is : completed_program (BinaryPending op (start_after below)) parser.start parser.code
    ≡ waiting_then below (program 0 (Binary op a t)) =
    elim (cases_Bool (is_lazy op)) [
      | inl lazy ↦
          let done = skips (λ n. n + 1) xs (branch_instruction op 0) t parser.code parser.start
          ((rw lazy at h.code_is) ∙ simp joined) ((rw lazy at h.start_is) ∙ simp joined) in
          rw (lazy, done) (simp joined)
      | inr strict ↦
          let code : parser.code ≡ waiting_then below (program_then 1 a (program 0 t)) = rw strict at h.code_is in
          rw (strict, code) (simp joined)
    ] in
    record { code_is = code_is; entries_are = refl; start_is = refl }
completes k (WaitColon a c) below t parser h fits b =
    let xs = waiting_then below (program_then 1 a (choose_instruction (size c + 1) ∷ program 0 c)) in
    let done = skips (λ n. n) xs (jump_instruction 0) t parser.code parser.start
    (h.code_is ∙ simp joined) (h.start_is ∙ simp joined) in
    record { code_is = done ∙ simp joined; entries_are = refl; start_is = refl }
completes k WaitOpen below t parser h fits b = absurd cc
completes k (WaitQuestion a) below t parser h fits b = absurd cc

-- part of a reduction: what the parser holds stands for an operand that has the same reduction
pub record Reduces (k : ℕ) (parser : Held) (goal : Operand) : Type 0 where
  pub stack : List Waiting
  pub tree : Tree
  pub represents : IsOperand parser stack tree
  pub same : reduce k stack tree ≡ goal

-- where the operand completes the newest of what waits, the reduction goes on; else it is at its end
abbrev pub Goes : ℕ → Held → Operand → List Pending → Type 0
Goes k parser goal [] = IsOperand parser goal.stack goal.tree
Goes k parser goal (top ∷ rest) =
    (binds k top ≡ true → length parser.code ≤ 4096 → Reduces k (completed_by top rest parser) goal)
    × (binds k top ≡ false → IsOperand parser goal.stack goal.tree)

-- whichever of the two it is
pub goes : (k : ℕ) (parser : Held) (entries : List Pending) (goal : Operand) → parser.entries ≡ entries
    → Reduces k parser goal → Goes k parser goal entries
goes k parser entries goal e r =
    subst (Goes k parser goal) (sym r.represents.entries_are ∙ e) (by r.stack r.tree r.represents r.same) where
      by : (stack : List Waiting) (t : Tree) → IsOperand parser stack t → reduce k stack t ≡ goal
          → Goes k parser goal (pendings stack)
      by [] t h same = subst (λ (o : Operand). IsOperand parser o.stack o.tree) same h
      by (w ∷ below) t h same =
          let is = completed_is k (start_after below) w t in
          let next = reduce_by (reduce k below) w below t in (
            λ b fits. record {
              stack = below;
              tree = tree_with w t;
              represents = completes k w below t parser h fits b;
              same = sym (ap next (rw b at is)) ∙ same;
            },
            λ b. subst (λ (o : Operand). IsOperand parser o.stack o.tree) (sym (ap next (rw b at is)) ∙ same) h,
          )

-- an operand without operands of its own
pub first-operand : (parser : Held) (stack : List Waiting) (t : Tree) (code : List Instruction) (start : ℕ)
    → IsWaiting parser stack → start ≡ length parser.code → code ≡ parser.code ++ program 0 t
    → IsOperand (record { code = code; entries = parser.entries; start = start }) stack t
first-operand parser stack t code start h at is =
    record {
      code_is = is ∙ ap (λ p. p ++ program 0 t) h.code_is ∙ waiting-append stack [] (program 0 t);
      entries_are = h.entries_are;
      start_is = at ∙ ap length h.code_is;
    }

-- what an operand begins to wait for, with the instructions `after` it
pub waits : (parser : Held) (stack : List Waiting) (t : Tree) (w : Waiting) (after code : List Instruction)
    (entries : List Pending) (start : ℕ) → IsOperand parser stack t → length parser.code ≤ 4096
    → code ≡ begun parser.start parser.code ++ after
    → waiting_then (w ∷ stack) [] ≡ waiting_then stack (program_then 1 t after)
    → entries ≡ pending (parser.start % 4096) w ∷ parser.entries
    → IsWaiting (record { code = code; entries = entries; start = start }) (w ∷ stack)
waits parser stack t w after code entries start h fits is waiting is' =
    let inside : start_after stack < 4096 = omega (arith, length-operand parser stack t h, h.start_is, size-some t) in
    let place : parser.start % 4096 ≡ start_after stack = omega (arith, inside, h.start_is) in
    record {
      code_is = is ∙ rw (begun-operand parser stack t h fits, waiting) (simp joined);
      entries_are = is' ∙ ap₂ (λ i es. pending i w ∷ es) place h.entries_are;
    }

-- `:` after an operand, where `?` waits for it
pub answers-colon : (parser : Held) (first : ℕ) (rest : List Pending) (stack : List Waiting) (t : Tree) (after : Parser)
    (room : List Instruction) (codes : List ℕ) → IsOperand parser stack t
    → parser.entries ≡ QuestionPending first ∷ rest
    → take after.len room ≡ skipping (parser.start - 1) (length parser.code - parser.start + 1) parser.code
    ++ jump_instruction 0 ∷ [] → entries_in codes after.count ≡ ColonPending first ∷ rest
    → after.complete ≡ false → Answers (at_colon stack t) (Some after) room codes
answers-colon parser first rest (WaitQuestion a ∷ below) t after room codes h e is is' waits =
    let done = skips (λ n. n + 1) (waiting_then below (program 1 a)) (choose_instruction 0) t parser.code parser.start
    (h.code_is ∙ simp joined) (h.start_is ∙ simp joined) in
    let same = sym e ∙ h.entries_are in
    (waits, record { code_is = is ∙ rw done (simp joined); entries_are = cc })
answers-colon parser first rest _ t after room codes h e is is' waits = absurd (let same = sym e ∙ h.entries_are in cc)

-- `)` after an operand, where `(` waits for it
pub answers-close : (parser : Held) (rest : List Pending) (stack : List Waiting) (t : Tree) (after : Parser)
    (room : List Instruction) (codes : List ℕ) → IsOperand parser stack t → parser.entries ≡ OpenPending ∷ rest
    → held room codes after ≡ record { code = parser.code; entries = rest; start = parser.start }
    → after.complete ≡ true → Answers (at_close stack t) (Some after) room codes
answers-close parser rest (WaitOpen ∷ below) t after room codes h e is done = (
  done,
  subst (λ p. IsOperand p below t) (sym is)
      (record { code_is = h.code_is; entries_are = let same = sym e ∙ h.entries_are in cc; start_is = h.start_is }),
)
answers-close parser rest _ t after room codes h e is done = absurd (let same = sym e ∙ h.entries_are in cc)

-- The parser between two tokens of a text.

-- blanks at the beginning change nothing
record Blanks (text rest : List ℕ) : Type 0 where
  gives : (ts : List Token) → Lexes rest ts → Lexes text ts
  only : (ts : List Token) → Lexes text ts → Lexes rest ts
  begins : rest ≢ [] → is_blank (first_byte rest) ≡ false

blanks : (text : List ℕ) → Blanks text (without_blanks text)
blanks [] = record { gives = λ ts d. d; only = λ ts d. d; begins = λ n. absurd (n refl) }
blanks (c ∷ text) =
    elim (cases_Bool (is_blank c)) [
      | inl b ↦
          let r = blanks text in
          let n = prefix_len is_blank text in
          let one : suc n ≡ 1 + n = omega arith in
          rw b (subst (λ k. Blanks (c ∷ text) (drop k (c ∷ text))) one
          (record {
            gives = λ ts d. blank b (r.gives ts d);
            only =
                λ ts d. r.only ts (Lexes-blank c text (c ∷ text) ts b refl d);
            begins = r.begins;
          }))
      | inr b ↦ rw b (record { gives = λ ts d. d; only = λ ts d. d; begins = λ n. b })
    ]

-- a rest of the text spells a tree, after a state
pub record Completes (next : Option State) (rest : List ℕ) (tree : Tree) : Type 0 where
  pub ts : List Token
  pub lexes : Lexes rest ts
  pub is : option_and_then (λ state. outcome_from state ts) next ≡ Some tree

-- the parser has read the text up to a rest
pub record Reached (text rest : List ℕ) (parser : Held) (complete : Bool) : Type 0 where
  pub state : State
  pub gives : (tree : Tree) → Completes (Some state) rest tree → Spelt tree text
  pub only : (tree : Tree) → Spelt tree text → Completes (Some state) rest tree
  pub begins : rest ≢ [] → is_blank (first_byte rest) ≡ false
  pub represents : Represents parser complete state

pub reached-start : (text : List ℕ)
    → Reached text (without_blanks text) (record { code = []; entries = []; start = 0 }) false
reached-start text =
    let b = blanks text in
    record {
      state = Want [];
      gives = λ tree s. (s.ts, b.gives s.ts s.lexes, sound s.ts tree s.is);
      only = λ tree (ts, lexes, spells). record { ts = ts; lexes = b.only ts lexes; is = complete ts tree spells };
      begins = b.begins;
      represents = (refl, record { code_is = refl; entries_are = refl });
    }

-- the first token of a rest, apart
after-token : (state : State) (rest : List ℕ) (t : Token) (n : ℕ) (tree : Tree) → IsTokenAt rest t n
    → Completes (Some state) rest tree → Completes (step state t) (without_blanks (drop n rest)) tree
after-token state rest t n tree at s =
    let b = Lexes-token t (take n rest) (drop n rest) rest s.ts at.spelling at.longest
    (sym (take-append-drop n rest)) s.lexes in
    record {
      ts = b.later;
      lexes = (blanks (drop n rest)).only b.later b.lexes;
      is = ap (outcome_from state) (sym b.is)
          ∙ s.is;
    }

before-token : (state : State) (rest : List ℕ) (t : Token) (n : ℕ) (tree : Tree) → IsTokenAt rest t n
    → Completes (step state t) (without_blanks (drop n rest)) tree → Completes (Some state) rest tree
before-token state rest t n tree at s =
    let lexes = token t (take n rest) at.spelling at.longest ((blanks (drop n rest)).gives s.ts s.lexes) in
    record { ts = t ∷ s.ts; lexes = subst (λ x. Lexes x (t ∷ s.ts)) (take-append-drop n rest) lexes; is = s.is }

pub reached-token : (text rest : List ℕ) (t : Token) (n : ℕ) (before : Held) (complete : Bool) (after : Parser)
    (room : List Instruction) (codes : List ℕ) → (r : Reached text rest before complete) → IsTokenAt rest t n
    → Answers (step r.state t) (Some after) room codes
    → Reached text (without_blanks (drop n rest)) (held room codes after) after.complete
reached-token text rest t n before complete after room codes r at answers = next (step r.state t) refl answers where
  next : (o : Option State) → step r.state t ≡ o → Answers o (Some after) room codes
      → Reached text (without_blanks (drop n rest)) (held room codes after) after.complete
  next None is a = absurd cc
  next (Some state) is a =
      record {
        state = state;
        gives = λ tree s. r.gives tree
            (before-token r.state rest t n tree at
            (subst (λ o. Completes o (without_blanks (drop n rest)) tree) (sym is) s));
        only = λ tree s. subst (λ o. Completes o (without_blanks (drop n rest)) tree) is
            (after-token r.state rest t n tree at (r.only tree s));
        begins = (blanks (drop n rest)).begins;
        represents = a;
      }

-- a token has as many bytes as it adds instructions
pub most-added : (text : List ℕ) (t : Token) (n : ℕ) → IsTokenAt text t n → most_added t ≤ n
most-added text (NumberToken v) n at =
    let long : length (take n text) ≡ n = length-take-le n text at.within in
    let below = digits_value-lt 10 (take n text) at.spelling.1 in
    elim (cases_Bool (nat_lt v (2 ^ 32))) [
      | inl small ↦ rw small at.some
      | inr large ↦ rw large (several v n (take n text) large long below at.spelling.2 at.some)
    ] where
      several : (v n : ℕ) (own : List ℕ) → nat_lt v (2 ^ 32) ≡ false → length own ≡ n
          → digits_value 10 own < 10 ^ length own → digits_value 10 own ≡ v → 0 < n → 2 ≤ n
      several v n own large long below is some =
          let least = ltb-false v (2 ^ 32) large in
          elim (cases_lt n 2) [
            | inl few ↦
                let one : length own ≡ 1 = omega arith in
                let tiny : digits_value 10 own < 10 ^ 1 = rw one at below in
                absurd (omega arith)
            | inr enough ↦ enough
          ]
most-added text (BinaryToken op) n at =
    two op (length-take-le n text at.within) at.spelling at.some where
      two : (op : Operator) → length (take n text) ≡ n → take n text ≡ operator_bytes op → 0 < n
          → most_added (BinaryToken op) ≤ n
      two Or long is some = omega (arith, ap length is, long)
      two And long is some = omega (arith, ap length is, long)
      two _ long is some = some
most-added text _ n at = at.some

too_large : (state : State) (t : Token) → IsTooLarge t → step state t ≡ None
too_large (Want stack) (NumberToken v) h = rw (le-ltb v (2 ^ 64) h) refl
too_large (Have stack t) (NumberToken v) h = refl
too_large state _ h = absurd h

abbrev pub SpellsNothing : List ℕ → Type 0
SpellsNothing text = (tree : Tree) → Spelt tree text → ⊥

pub no-token : (text rest : List ℕ) (parser : Held) (complete : Bool) → Reached text rest parser complete → rest ≢ []
    → HasNoToken rest → SpellsNothing text
no-token text rest parser complete r n none tree spelt = let s =
    r.only tree spelt in first rest s.ts refl s.lexes s.is where
      first : (whole : List ℕ) (ts : List Token) → rest ≡ whole → Lexes whole ts → outcome_from r.state ts ≡ Some tree
          → ⊥
      first whole ts e end is = n e
      first whole ts e (blank {c} {text = text'} b d) is =
          false≢true (sym (r.begins n) ∙ ap (λ x. is_blank (first_byte x)) e ∙ b)
      first whole ts e (token {rest = after} {ts = later} t own spelt longest d) is =
          let stops = too_large r.state t (none t own after e spelt longest) in
          let wrong : None ≡ Some tree = sym (ap (option_and_then (λ next. outcome_from next later)) stops) ∙ is in cc

pub no-index : (text rest : List ℕ) (t : Token) (n : ℕ) (before : Held) (complete : Bool) (room : List Instruction)
    (codes : List ℕ) → (r : Reached text rest before complete) → IsTokenAt rest t n
    → Answers (step r.state t) None room codes → SpellsNothing text
no-index text rest t n before complete room codes r at answers tree spelt =
    refused (step r.state t) answers (after-token r.state rest t n tree at (r.only tree spelt)) where
      refused : (o : Option State) → Answers o None room codes → Completes o (without_blanks (drop n rest)) tree → ⊥
      refused None a s = let wrong : None ≡ Some tree = s.is in cc
      refused (Some state) a s = absurd a

-- at the end of the text
pub reached-end : (text : List ℕ) (before : Held) (complete : Bool) (room : List Instruction) (whole : Option ℕ)
    → (r : Reached text [] before complete)
    → MatchOption whole (finish r.state ≡ None) (λ len. HoldsTree (finish r.state) (take len room))
    → MatchOption whole ⊤ (λ len. len ≤ expression_limit)
    → MatchOption whole (SpellsNothing text)
    (λ len. (len ≤ expression_limit) × HoldsExpression text (take len room))
reached-end text before complete' room (Some len) r h fits = (
  fits,
  record {
    tree = h.tree;
    spelt = r.gives h.tree (record { ts = []; lexes = end; is = h.read_is });
    code_is =
        h.code_is;
  },
)
reached-end text before complete' room None r h fits = λ tree spelt.
    let s = r.only tree spelt in
    let wrong : None ≡ Some tree =
    sym h ∙ ap (outcome_from r.state) (sym (Lexes-nothing [] s.ts refl s.lexes)) ∙ s.is in cc
