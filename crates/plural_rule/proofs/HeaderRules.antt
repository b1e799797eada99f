-- The rule of a header: the first occurrence of a name, and that there is one rule.
use Rattle.plural_rule.proofs.Prelude.{Binary, Bool, Conditional, Count, Decides-eqb, Default, Gives, Header, IsFirstByte, IsReadable, IsReason, IsRuleOf, IsWithin, List, NoExpression, NoNumber, None, Not, Nowhere, Number, OccursAt, Operator, Option, Passes, RuleView, Some, Spelt, TooLong, Tree, Unreadable, [], after_first, ap, arith, before_first, cases_Bool, cases_lt, chosen, default_rule, drop, expression_of, false_from_ne_true, get_or-drop, get_or-take, inl, inr, is_byte, is_byte2, is_end, length, length-append, length-drop, length-take, nat_eq, needs_right, nodes, not, nplurals_of, outcome, prefix_len_is, refl, slice_index, starts_with, subst, suc, sym, take, take-append_seam, take_all, take_rest, true, value, visited, visited_right, zero, ℕ, ◌+◌, ◌-◌, ◌<◌, ◌==◌, ◌↔◌, ◌∙◌, ◌∷◌, ◌≡◌, ◌≢◌, ◌≤◌}
use Rattle.std.proofs.lemmas.Slice.Eq.{starts_is}
use Rattle.memchr.proofs.lemmas.MatchLemmas.{OccursAt-from_part, OccursAt-part, OccursAt-split}
use Rattle.plural_rule.specs.declared.rule.Source.{Source}
use Rattle.plural_rule.specs.declared.rule.Reason.{Reason}
use Rattle.plural_rule.proofs.SpeltTrees.{complete}
use Rattle.plural_rule.proofs.Tokens.{one_list}

-- a name that occurs after the first byte
occurs-later : (name rest : List ℕ) (c k : ℕ) → OccursAt rest name k → OccursAt (c ∷ rest) name (suc k)
occurs-later name rest c k h =
    let fits = h.fits in OccursAt-from_part (c ∷ rest) name (suc k) (omega arith) (OccursAt-part rest name k h)

occurs-earlier : (name rest : List ℕ) (c k : ℕ) → OccursAt (c ∷ rest) name (suc k) → OccursAt rest name k
occurs-earlier name rest c k h =
    let fits = h.fits in OccursAt-from_part rest name k (omega arith) (OccursAt-part (c ∷ rest) name (suc k) h)

starts-occurs : (name text : List ℕ) → starts_with nat_eq text name ≡ true → OccursAt text name 0
starts-occurs name text e =
    let split = (starts_is Decides-eqb text name (starts_with nat_eq text name) refl).0 e in
    let lengths = ap length split in
    OccursAt-from_part text name 0 (omega (arith, length-append name (drop (length name) text)))
    (ap (take (length name)) split ∙ take-append_seam name (drop (length name) text))

occurs-starts : (name text : List ℕ) → OccursAt text name 0 → starts_with nat_eq text name ≡ true
occurs-starts name text h =
    (starts_is Decides-eqb text name (starts_with nat_eq text name) refl).1 _ (OccursAt-split text name 0 h)

pub after_first-none : (name text : List ℕ) → ((k : ℕ) → OccursAt text name k → ⊥) → after_first name text ≡ None
after_first-none name [] none = refl
after_first-none name (c ∷ rest) none =
    elim (cases_Bool (starts_with nat_eq (c ∷ rest) name)) [
      | inl e ↦ absurd (none 0 (starts-occurs name (c ∷ rest) e))
      | inr e ↦ rw e (after_first-none name rest (λ k h. none (suc k) (occurs-later name rest c k h)))
    ]

pub after_first-some : (name text : List ℕ) (k : ℕ) → 0 < length name → OccursAt text name k
    → ((j : ℕ) → j < k → OccursAt text name j → ⊥) → after_first name text ≡ Some (drop (k + length name) text)
after_first-some name [] k some h none = let fits = h.fits in absurd (omega arith)
after_first-some name (c ∷ rest) zero some h none =
    let e = occurs-starts name (c ∷ rest) h in
    let sum : length name ≡ zero + length name = omega arith in
    rw e (ap (λ n. Some (drop n (c ∷ rest))) sum)
after_first-some name (c ∷ rest) (suc k) some h none =
    elim (cases_Bool (starts_with nat_eq (c ∷ rest) name)) [
      | inl e ↦ absurd (none 0 (omega arith) (starts-occurs name (c ∷ rest) e))
      | inr e ↦
          let sum : suc (k + length name) ≡ suc k + length name = omega arith in
          rw e
          (after_first-some name rest k some (occurs-earlier name rest c k h)
          (λ j l o. none (suc j) (omega arith) (occurs-later name rest c j o))
          ∙ ap (λ n. Some (drop n (c ∷ rest))) sum)
    ]

-- an occurrence that ends after `end` shows the last byte of the name to a search from there on
last-passes : (name text : List ℕ) (end j : ℕ) → 0 < length name → OccursAt text name j → end < j + length name
    → Passes (is_byte (slice_index name (length name - 1))) (take (length text - end) (drop end text))
    (j + length name - 1 - end)
last-passes name text end j some h after =
    let place : end + (j + length name - 1 - end) ≡ j + (length name - 1) = omega arith in
    let read : slice_index (drop end text) (j + length name - 1 - end) ≡ slice_index name (length name - 1) =
    get_or-drop end text (j + length name - 1 - end) 0 ∙ ap (slice_index text) place
    ∙ h.reads (length name - 1) (omega arith) in
    rw (take_rest text end) ((Decides-eqb _ _).1 read)

-- where no name ends up to `end`, none ends before the last byte of the name stands there again
pub none-before : (name text : List ℕ) (end before : ℕ) → 0 < length name
    → ((j : ℕ) → j + length name ≤ end → OccursAt text name j → ⊥)
    → Nowhere (Passes (is_byte (slice_index name (length name - 1))) (take (length text - end) (drop end text))) 0
    before → (j : ℕ) → j + length name ≤ end + before → OccursAt text name j → ⊥
none-before name text end before some none nowhere j at h =
    elim (cases_lt end (j + length name)) [
      | inl after ↦ nowhere _ (omega arith) (omega arith) (last-passes name text end j some h after)
      | inr up ↦ none j up h
    ]

-- a name that ends where a part of the text does
pub ends-text : (name text : List ℕ) (end : ℕ) → end ≤ length text → length name ≤ length (take end text)
    → OccursAt (take end text) name (length (take end text) - length name) → OccursAt text name (end - length name)
ends-text name text end inside fits h =
    let whole : length (take end text) ≡ end = omega (arith, length-take end text) in
    let part = subst (λ n. OccursAt (take end text) name (n - length name)) whole h in
    record {
      fits = omega (arith, fits, whole);
      reads = λ j l. sym (get_or-take end text (end - length name + j) 0 (omega (arith, fits, whole))) ∙ part.reads j l;
    }

pub ends-part : (name text : List ℕ) (end j : ℕ) → end ≤ length text → j + length name ≡ end → OccursAt text name j
    → OccursAt (take end text) name (length (take end text) - length name)
ends-part name text end j inside at h =
    let whole : length (take end text) - length name ≡ j = omega (arith, length-take end text) in
    rw whole (record {
      fits = omega (arith, length-take end text);
      reads = λ i l. get_or-take end text (j + i) 0 (omega arith) ∙ h.reads i l;
    })

-- what is found in the rest of a text ends inside of the text
pub found-within : (text : List ℕ) (end before : ℕ) → before < length (take (length text - end) (drop end text))
    → end + (before + 1) ≤ length text
found-within text end before high =
    omega (arith, high, length-take (length text - end) (drop end text), length-drop end text)

goes-on : (b : Bool) → (b ≡ true → ⊥) → not b ≡ true
goes-on b h = ap not (false_from_ne_true b h)

pub before_first_some : (text : List ℕ) (k : ℕ) → IsFirstByte (is_byte2 59 10) text (Some k)
    → before_first is_end text ≡ take k text
before_first_some text k h =
    let low = h.0 in
    ap (λ n. take n text)
    (prefix_len_is (λ c. not (is_end c)) text k 0 (let high = low.high in omega arith)
    (λ j l. goes-on _ (low.before j (omega arith) l)) (λ _. ap not h.1))

pub before_first_none : (text : List ℕ) → IsFirstByte (is_byte2 59 10) text None → before_first is_end text ≡ text
before_first_none text h =
    ap (λ n. take n text)
    (prefix_len_is (λ c. not (is_end c)) text (length text) 0 (omega arith) (λ j l. goes-on _ (h j (omega arith) l))
    (λ l. absurd (omega arith)))
    ∙ take_all (length text) text (omega arith)

-- Laws of visits and of the rule of a header.

pub one_tree : (text : List ℕ) (t u : Tree) → Spelt t text → Spelt u text → t ≡ u
one_tree text t u (ts, lexes, spells) (us, lexes', spells') =
    let same = one_list lexes us lexes' in
    let e : Some t ≡ Some u = sym (complete ts t spells) ∙ ap outcome same ∙ complete us u spells' in
    cc

visited_right-le : (op : Operator) (v : Option ℕ) (steps : ℕ) → visited_right op v steps ≤ steps
visited_right-le op None steps = omega arith
visited_right-le op (Some x) steps =
    elim (cases_Bool (needs_right op x)) [ inl e ↦ rw e (omega arith) | inr e ↦ rw e (omega arith) ]

chosen-le : (v : Option ℕ) (j k : ℕ) → chosen v j k 0 ≤ j + k
chosen-le None j k = omega arith
chosen-le (Some x) j k =
    elim (cases_Bool (x == 0)) [ inl e ↦ rw e (omega arith) | inr e ↦ rw e (omega arith) ]

pub visited_le_nodes : (tree : Tree) (n : ℕ) → visited tree n ≤ nodes tree
visited_le_nodes Count n = omega arith
visited_le_nodes (Number v) n = omega arith
visited_le_nodes (Not a) n = omega (arith, visited_le_nodes a n)
visited_le_nodes (Binary op a b) n =
    omega (arith, visited_le_nodes a n, visited_le_nodes b n, visited_right-le op (value a n) (visited b n))
visited_le_nodes (Conditional a b c) n =
    omega (
      arith,
      visited_le_nodes a n,
      visited_le_nodes b n,
      visited_le_nodes c n,
      chosen-le (value a n) (visited b n) (visited c n),
    )

-- what a header names is one
same : {A : Type 0} (o : Option A) (x y : A) → o ≡ Some x → o ≡ Some y → x ≡ y
same o x y e e' = cc

named : {A : Type 0} (o : Option A) (x : A) → o ≡ Some x → o ≡ None → ⊥
named o x e e' = cc

not-too_long : (limit : ℕ) (header text : List ℕ) → expression_of header ≡ Some text → length text ≤ limit
    → IsReason limit header TooLong → ⊥
not-too_long limit header text e fits h = let past = h.3 in omega (arith, ap length (same _ text h.1 e h.2))

-- a rule that can be read has no reason for the default
readable-no_reason : (limit : ℕ) (header : List ℕ) (nplurals : ℕ) (tree : Tree) (reason : Reason)
    → IsReadable limit header nplurals tree → IsReason limit header reason → ⊥
readable-no_reason limit header nplurals tree NoNumber r h = named _ _ r.nplurals_is h
readable-no_reason limit header nplurals tree NoExpression r h = named _ _ r.text_is h.1
readable-no_reason limit header nplurals tree Unreadable r h =
    elim h.5 [
      | inl large ↦ let fits = r.nplurals_fits in omega (arith, same _ nplurals h.0 r.nplurals_is h.2)
      | inr nothing ↦ nothing tree (subst (Spelt tree) (same _ r.text h.1 r.text_is h.3) r.spelt)
    ]
readable-no_reason limit header nplurals tree TooLong r h = not-too_long limit header r.text r.text_is r.text_fits h

one_reason : (limit : ℕ) (header : List ℕ) (a b : Reason) → IsReason limit header a → IsReason limit header b → a ≡ b
one_reason limit header NoNumber NoNumber h k = refl
one_reason limit header NoNumber NoExpression h k = absurd (k.0 h)
one_reason limit header NoNumber TooLong h k = absurd (k.0 h)
one_reason limit header NoNumber Unreadable h k = absurd (named _ _ k.2 h)
one_reason limit header NoExpression NoNumber h k = absurd (h.0 k)
one_reason limit header NoExpression NoExpression h k = refl
one_reason limit header NoExpression TooLong h k = absurd (named _ _ k.2 h.1)
one_reason limit header NoExpression Unreadable h k = absurd (named _ _ k.3 h.1)
one_reason limit header TooLong NoNumber h k = absurd (h.0 k)
one_reason limit header TooLong NoExpression h k = absurd (named _ _ h.2 k.1)
one_reason limit header TooLong TooLong h k = refl
one_reason limit header TooLong Unreadable h k = absurd (not-too_long limit header k.1 k.3 k.4 h)
one_reason limit header Unreadable NoNumber h k = absurd (named _ _ h.2 k)
one_reason limit header Unreadable NoExpression h k = absurd (named _ _ h.3 k.1)
one_reason limit header Unreadable TooLong h k = absurd (not-too_long limit header h.1 h.3 h.4 k)
one_reason limit header Unreadable Unreadable h k = refl

same-rule : (rule other : RuleView) → rule.source ≡ other.source → rule.nplurals ≡ other.nplurals
    → rule.tree ≡ other.tree → rule ≡ other
same-rule rule other source nplurals tree = rw (source, nplurals, tree) refl

one_rule-by : (limit : ℕ) (header : List ℕ) (rule other : RuleView) (a b : Source) → rule.source ≡ a → other.source ≡ b
    → Gives limit header rule a → Gives limit header other b → rule ≡ other
one_rule-by limit header rule other Header Header e e' h k =
    let text = same _ h.text k.text h.text_is k.text_is in
    same-rule rule other (e ∙ sym e') (same _ rule.nplurals other.nplurals h.nplurals_is k.nplurals_is)
    (one_tree k.text rule.tree other.tree (subst (Spelt rule.tree) text h.spelt) k.spelt)
one_rule-by limit header rule other Header (Default reason) e e' h k =
    absurd (readable-no_reason limit header rule.nplurals rule.tree reason h k.0)
one_rule-by limit header rule other (Default reason) Header e e' h k =
    absurd (readable-no_reason limit header other.nplurals other.tree reason k h.0)
one_rule-by limit header rule other (Default reason) (Default reason') e e' h k =
    h.1 ∙ ap default_rule (one_reason limit header reason reason' h.0 k.0) ∙ sym k.1

pub one_rule : (limit : ℕ) (header : List ℕ) (rule other : RuleView) → IsRuleOf limit header rule
    → IsRuleOf limit header other → rule ≡ other
one_rule limit header rule other h k = one_rule-by limit header rule other rule.source other.source refl refl h k

-- within a limit: the text that the header names fits it
within : (limit : ℕ) (header text : List ℕ) → IsWithin limit header → nplurals_of header ≢ None
    → expression_of header ≡ Some text → length text ≤ limit
within limit header text (inl none) some e = absurd (some none)
within limit header text (inr short) some e = short text e

-- under another limit, where the text that the header names fits that if it fits the first
other-limit : (limit other : ℕ) (header : List ℕ) (rule : RuleView) (source : Source)
    → ((text : List ℕ) → nplurals_of header ≢ None → expression_of header ≡ Some text
    → (length text ≤ limit → length text ≤ other) × (limit < length text → other < length text))
    → Gives limit header rule source → Gives other header rule source
other-limit limit other header rule Header within h =
    let fits = (within h.text (λ none. named _ _ h.nplurals_is none) h.text_is).0 h.text_fits in
    record {
      text = h.text;
      nplurals_is = h.nplurals_is;
      nplurals_fits = h.nplurals_fits;
      text_is = h.text_is;
      text_fits = fits;
      spelt = h.spelt;
    }
other-limit limit other header rule (Default Unreadable) within (h, is) =
    ((h.0, h.1, h.2, h.3, (within h.1 (λ none. named _ _ h.2 none) h.3).0 h.4, h.5), is)
other-limit limit other header rule (Default TooLong) within (h, is) = ((h.0, h.1, h.2, (within h.1 h.0 h.2).1 h.3), is)
other-limit limit other header rule (Default reason) within h = h

pub longer_limit : (limit longer : ℕ) (header : List ℕ) (rule : RuleView) → limit ≤ longer → IsWithin limit header
    → IsRuleOf limit header rule ↔ IsRuleOf longer header rule
longer_limit limit longer header rule le w = (
  other-limit limit longer header rule rule.source
      (λ text n e. let fits = within limit header text w n e in (λ _. omega arith, λ long. absurd (omega arith))),
  other-limit longer limit header rule rule.source
      (λ text n e. let fits = within limit header text w n e in (λ _. fits, λ long. absurd (omega arith))),
)
