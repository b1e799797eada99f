-- The first fault that the check of a profile finds is the first that there is.
use Rattle.msgfmt.proofs.Prelude.{All, All-cons, All-head, All-nil, All-tail, Bool, CountFault, Default, DiffersAt, EntryFault, FirstFault, FormCount, HasNewline, HasOtherCount, HasPlural, HasProfileFault, Header, IndexOutside, InputEntry, IsFirst, LeadingNewline, List, NeedsNoOtherRule, NoRule, None, Option, Reported, RuleView, Some, Source, TextEntry, TrailingNewline, Undefined, [], ap, arith, count_fault, counts_below, differ, differs_from_msgid, entry_fault, false, find, first_fault, first_some, get_or_push, has_newline, if◌then◌else◌, inl, inr, is_header_entry, is_plural, is_some, length, length-append, not, option_or, option_to_list, range_with_len, refl, rule_fault, subst, suc, sym, true, value, value_fault, zero, ℕ, ◌&&◌, ◌++◌, ◌+◌, ◌-◌, ◌<◌, ◌==◌, ◌↔◌, ◌∙◌, ◌∷◌, ◌≡◌, ◌≢◌, ◌≤◌, ◌⊎◌}
use Rattle.std.specs.Bool.{Decides}
use Rattle.std.proofs.lemmas.Bool.{eqb-true, false≢true}
use Rattle.std.proofs.lemmas.Bool.Decides.{nat_tests}
use Rattle.std.proofs.lemmas.List.Folds.{Any-from_list_any, list_any-from_Any}
use Rattle.std.proofs.lemmas.Option.{none-some, slice_get-get_or}
use Rattle.po_syntax.specs.Facts.Runs.{from_end}
use Rattle.msgfmt.specs.declared.profile.End.{End}
use Rattle.msgfmt.specs.declared.profile.End.TheVariants.{Beginning, Ending}
use Rattle.msgfmt.specs.declared.profile.CheckFault.{CheckFault}
use Rattle.plural_rule.specs.declared.rule.Reason.{Reason}
use Rattle.msgfmt.specs.Profile.{source_fault}
use Rattle.msgfmt.specs.Laws.{at_count, count, in_entry, leading, no_rule, outside, trailing, undefined}

-- a range begins with its first count
pub first_some_range : {B : Type 0} (f : ℕ → Option B) (c n : ℕ) → c < n
    → first_some f (range_with_len c (n - c)) ≡ option_or (f c) (first_some f (range_with_len (c + 1) (n - (c + 1))))
first_some_range f c n h = let e : n - c ≡ suc (n - (c + 1)) = omega arith in rw e refl

-- The first fault that the check of a profile finds is the first that there is.

-- what an option has is what a relation says

abbrev Finds : {Y : Type 0} → Option Y → (Y → Type 0) → Type 0
Finds {Y} o P = (y : Y) → (o ≡ Some y) ↔ P y

module _ {Y : Type 0} where
  finds_like : {P Q : Y → Type 0} {o : Option Y} → Finds o P → ((y : Y) → P y ↔ Q y) → Finds o Q
  finds_like finds same y = grind arith

  finds_none : {P : Y → Type 0} → ((y : Y) → P y → ⊥) → Finds None P
  finds_none none y = grind arith

  -- this, or where there is none that
  abbrev Or : (Y → Type 0) → (Y → Type 0) → Y → Type 0
  Or P Q y = P y ⊎ (((x : Y) → P x → ⊥) × Q y)

  finds_or : {P Q : Y → Type 0} {o p : Option Y} → Finds o P → Finds p Q → Finds (option_or o p) (Or P Q)
  finds_or {o = None} first later y = grind arith
  finds_or {o = Some x} first later y = grind (arith, first x)

  -- what is made of what another option has
  finds_of : {X : Type 0} {P : X → Type 0} {Q : X → Y → Type 0} {o : Option X} (g : Option X → Option Y)
      → g None ≡ None → Finds o P → ((x : X) → Finds (g (Some x)) (Q x)) → Finds (g o) (λ y. (x : X) × P x × Q x y)
  finds_of {o = None} g none first each y = (grind (arith, none), λ h. grind (arith, first h.0))
  finds_of {o = Some x} g none first each y =
      (λ is. (x, grind (arith, first x), grind (arith, each x y)), λ h. grind (arith, first h.0, each x y))

-- what is first in a list

module _ {X : Type 0} (P : X → Type 0) where
  abbrev No : X → Type 0
  No x = P x → ⊥

  of_nothing : (x : X) → IsFirst P [] x → ⊥
  of_nothing x h =
      elim h.before as (λ b. [] ≡ b ++ x ∷ h.after → ⊥) [ [] ↦ λ e. cc | b ∷ before ↦ λ e. cc ] h.whole

  of_more : (x : X) (xs : List X) (e : X) → (P x × (x ≡ e)) ⊎ (No x × IsFirst P xs e) ↔ IsFirst P (x ∷ xs) e
  of_more x xs e = (to, λ h. from h.before h.after h.whole h.holds h.none_before) where
    to : (P x × (x ≡ e)) ⊎ (No x × IsFirst P xs e) → IsFirst P (x ∷ xs) e
    to (inl (holds, same)) =
        record { before = []; after = xs; whole = cc; holds = grind arith; none_before = All-nil No }
    to (inr (other, h)) =
        let none = All-cons No x h.before other h.none_before in
        record { before = x ∷ h.before; after = h.after; whole = cc; holds = h.holds; none_before = none }

    from : (before after : List X) → x ∷ xs ≡ before ++ e ∷ after → P e → All No before
        → (P x × (x ≡ e)) ⊎ (No x × IsFirst P xs e)
    from [] after whole holds none = grind arith
    from (b ∷ before) after whole holds none =
        let here = All-head No b before none in
        let rest = All-tail No b before none in
        inr (grind arith, record { before = before; after = after; whole = cc; holds = holds; none_before = rest })

  none_first : (xs : List X) → ((x : X) → IsFirst P xs x → ⊥) ↔ All No xs
  none_first [] = (λ none. All-nil No, λ all x h. of_nothing x h)
  none_first (x ∷ xs) = (
    λ none.
        let other : P x → ⊥ = λ p. none x ((of_more x xs x).0 (inl (p, refl))) in
        All-cons No x xs other ((none_first xs).0 (λ e h. none e ((of_more x xs e).0 (inr (other, h))))),
    λ all e h. grind (arith, of_more x xs e, (none_first xs).1 (All-tail No x xs all) e, All-head No x xs all),
  )

  finds_find : {p : X → Bool} → ((x : X) → Decides (p x) (P x)) → (xs : List X) → Finds (find p xs) (IsFirst P xs)
  finds_find decides [] y = finds_none of_nothing y
  finds_find decides (x ∷ xs) y = grind (arith, decides x, finds_find decides xs y, of_more x xs y)

module _ {X Y : Type 0} (P : X → Y → Type 0) where
  abbrev Has : X → Type 0
  Has x = (y : Y) × P x y

  -- what the first element has that has something
  abbrev FirstOf : List X → Y → Type 0
  FirstOf xs y = (e : X) × IsFirst Has xs e × P e y

  finds_first : {f : X → Option Y} → ((x : X) → Finds (f x) (P x)) → (xs : List X)
      → Finds (first_some f xs) (FirstOf xs)
  finds_first each [] = finds_none (λ y h. of_nothing Has h.0 h.1)
  finds_first each (x ∷ xs) = finds_like (finds_or (each x) (finds_first each xs)) (λ y. (
    λ h. elim h [
      | inl p ↦ (x, grind (arith, of_more Has x xs x), p)
      | inr later ↦ (later.1.0, grind (arith, of_more Has x xs later.1.0), later.1.2)
    ],
    λ h. grind (arith, of_more Has x xs h.0),
  ))

  none_has : (xs : List X) → ((y : Y) → FirstOf xs y → ⊥) ↔ All (λ x. (y : Y) → P x y → ⊥) xs
  none_has xs = (
    λ none k d inside y p. (none_first Has xs).0 (λ e h. none h.holds.0 (e, h, h.holds.1)) k d inside (y, p),
    λ all y h. (none_first Has xs).1 (λ k d inside p. all k d inside p.0 p.1) h.0 h.1,
  )

-- the first of a range is the least
first_of_range : (P : ℕ → Type 0) (from size n : ℕ) → IsFirst P (range_with_len from size) n
    ↔ ((from ≤ n) × (n < from + size) × ((k : ℕ) → from ≤ k → k < n → P k → ⊥) × P n)
first_of_range P from zero n = grind (arith, of_nothing P n)
first_of_range P from (suc size) n =
    grind (arith, of_more P from (range_with_len (from + 1) size) n, first_of_range P (from + 1) size n)

-- newlines at the ends of texts

last_byte : (prefix : List ℕ) (b : ℕ) → has_newline Ending (prefix ++ b ∷ []) ≡ (b == 10)
last_byte prefix b =
    let last = length (prefix ++ b ∷ []) - 1 in
    let long = length-append prefix (b ∷ []) in
    let at = slice_get-get_or (prefix ++ b ∷ []) last b (omega (arith, long)) in
    rw (at, get_or_push prefix b b last (omega (arith, long))) refl

newline_decides : (end : End) (text : List ℕ) → Decides (has_newline end text) (HasNewline end text)
newline_decides Beginning [] = (grind arith, λ h. cc)
newline_decides Beginning (b ∷ text) = (λ e. (text, grind (arith, nat_tests)), λ h. grind (arith, nat_tests))
newline_decides Ending text = (
  from_end (λ t. has_newline Ending t ≡ true → HasNewline Ending t) (λ none. absurd (false≢true none))
      (λ prefix b ih has. (prefix, ap (λ a. prefix ++ a ∷ []) (eqb-true b 10 (sym (last_byte prefix b) ∙ has)))) text,
  λ h. ap (has_newline Ending) h.1 ∙ last_byte h.0 10,
)

differ_decides : {P Q : Type 0} (a b : Bool) → Decides a P → Decides b Q
    → Decides (differ a b) ((P × (Q → ⊥)) ⊎ ((P → ⊥) × Q))
differ_decides true b p q = grind arith
differ_decides false b p q = grind arith

differs_decides : (end : End) (entry : TextEntry) → Decides (differs_from_msgid end entry) (DiffersAt end entry)
differs_decides end entry =
    let texts = option_to_list entry.plural ++ entry.forms in
    let id = has_newline end entry.id in
    let test : List ℕ → Bool = λ text. differ id (has_newline end text) in
    let each = λ (text : List ℕ). differ_decides id (has_newline end text) (newline_decides end entry.id)
    (newline_decides end text) in (
      λ e. let any = Any-from_list_any test texts e in (any.1, (any.0, any.2, any.3), (each any.1).0 any.4),
      λ h. list_any-from_Any test texts (h.1.0, h.0, h.1.1, h.1.2, (each h.0).1 h.2),
    )

-- entries

plural_decides : (e : InputEntry) → Decides (is_plural e) (HasPlural e)
plural_decides e = at e.entry.plural where
  at : (o : Option (List ℕ)) → Decides (is_some o) (o ≢ None)
  at None = grind arith
  at (Some x) = grind arith

module _ (nplurals : ℕ) (e : InputEntry) where
  count_decides : Decides (is_plural e && not (length e.entry.forms == nplurals)) (HasOtherCount nplurals e.entry)
  count_decides = grind (arith, nat_tests, plural_decides e)

  fault_of : {fault : CheckFault} {y : Reported} → is_header_entry e ≡ false → (e.input, fault) ≡ y
      → EntryFault nplurals e.entry fault → HasProfileFault nplurals e y
  fault_of other is h = subst (HasProfileFault nplurals e) is (record { no_header = other; fault = h; input = refl })

  entry_given : {fault : CheckFault} {input : ℕ} → input ≡ e.input → is_header_entry e ≡ false
      → EntryFault nplurals e.entry fault → entry_fault nplurals e ≡ Some (input, fault)
  entry_given own other (count has) = grind (arith, count_decides)
  entry_given own other (leading right has) = grind (arith, count_decides, differs_decides Beginning e.entry)
  entry_given own other (trailing right same has) =
      grind (arith, count_decides, differs_decides Beginning e.entry, differs_decides Ending e.entry)

  entry_says : (header other leads trails : Bool) (y : Reported) → is_header_entry e ≡ header
      → Decides other (HasOtherCount nplurals e.entry) → Decides leads (DiffersAt Beginning e.entry)
      → Decides trails (DiffersAt Ending e.entry)
      → (if header then None else if other then Some (e.input, FormCount e.entry.line)
      else if leads then Some (e.input, LeadingNewline e.entry.line)
      else if trails then Some (e.input, TrailingNewline e.entry.line) else None) ≡ Some y
      → HasProfileFault nplurals e y
  entry_says true other leads trails y header c l t is = absurd (none-some y is)
  entry_says false true leads trails y header c l t is = fault_of header (cc) (count (c.0 refl))
  entry_says false false true trails y header c l t is = fault_of header (cc) (leading (grind arith) (l.0 refl))
  entry_says false false false true y header c l t is =
      fault_of header (cc) (trailing (grind arith) (grind arith) (t.0 refl))
  entry_says false false false false y header c l t is = absurd (none-some y is)

  entry_finds : Finds (entry_fault nplurals e) (HasProfileFault nplurals e)
  entry_finds y = (
    entry_says _ _ _ _ y refl count_decides (differs_decides Beginning e.entry) (differs_decides Ending e.entry),
    λ h. entry_given h.input h.no_header h.fault,
  )

-- counts

abbrev CountReported : RuleView → ℕ → Reported → Type 0
CountReported rule n reported = (reported.0 ≡ 0) × CountFault rule n reported.1

count_finds : (rule : RuleView) (n : ℕ) → Finds (count_fault rule n) (CountReported rule n)
count_finds rule n y = (says (value rule.tree n) refl, λ h. given h.0 h.1) where
  says : (o : Option ℕ) → value rule.tree n ≡ o → value_fault rule.nplurals n o ≡ Some y → CountReported rule n y
  says None is e = let none : CountFault rule n (Undefined n) = undefined is in grind arith
  says (Some index) is e =
      let past : rule.nplurals ≤ index → CountFault rule n (IndexOutside n) = outside is in grind (arith, nat_tests)

  given : {fault : CheckFault} {i : ℕ} → i ≡ 0 → CountFault rule n fault → count_fault rule n ≡ Some (i, fault)
  given first (undefined is) = grind (arith, is)
  given first (outside is past) = grind (arith, nat_tests, is)

-- the parts in their order

-- a header's rule isn't readable
abbrev OfRule : Source → InputEntry → Reported → Type 0
OfRule source e y = (reason : Reason) × (source ≡ Default reason) × ((e.input, NoRule e.entry.line reason) ≡ y)

rule_finds : (source : Source) (e : InputEntry) → Finds (source_fault source e) (OfRule source e)
rule_finds Header e = finds_none (λ y h. cc)
rule_finds (Default reason) e = λ y. (λ is. (reason, refl, (cc)), λ h. (cc))

module _ (entries : List InputEntry) (rule : RuleView) where
  -- something of the first entry with a plural
  abbrev OfPlural : (InputEntry → Reported → Type 0) → Reported → Type 0
  OfPlural Q y = (e : InputEntry) × IsFirst HasPlural entries e × Q e y

  abbrev Parts : Reported → Type 0
  Parts = Or (OfPlural (OfRule rule.source)) (Or (FirstOf (HasProfileFault rule.nplurals) entries)
      (OfPlural (λ e. FirstOf (CountReported rule) (range_with_len 0 1001))))

  parts_find : Finds (first_fault entries rule) Parts
  unfolding counts_below
  parts_find =
      let plural = finds_find HasPlural plural_decides entries in
      let counts = finds_first (CountReported rule) (count_finds rule) (range_with_len 0 1001) in
      finds_or (finds_of (rule_fault rule.source) refl plural (rule_finds rule.source))
      (finds_or (finds_first (HasProfileFault rule.nplurals) (entry_finds rule.nplurals) entries)
      (finds_of (λ o. if is_some o then first_some (count_fault rule) (range_with_len 0 1001) else None) refl plural
      (λ e. counts)))

  -- nothing of the rule where no other one is needed
  needs : ((y : Reported) → OfPlural (OfRule rule.source) y → ⊥) → NeedsNoOtherRule entries rule
  needs nothing = at rule.source refl where
    at : (source : Source) → rule.source ≡ source → NeedsNoOtherRule entries rule
    at Header is = inl is
    at (Default reason) is = inr ((none_first HasPlural entries).0
        (λ e h. nothing (e.input, NoRule e.entry.line reason) (e, h, (reason, is, refl))))

  of_no_rule : NeedsNoOtherRule entries rule → (y : Reported) → OfPlural (OfRule rule.source) y → ⊥
  of_no_rule (inl source) y h = cc
  of_no_rule (inr none) y h = (none_first HasPlural entries).1 none h.0 h.1

  says : (y : Reported) → Parts y → FirstFault entries rule y
  says y (inl (e, first, (reason, source, is))) = subst (FirstFault entries rule) is (no_rule first source)
  says y (inr (nothing, inl (e, first, fault))) = in_entry (needs nothing) first fault
  says y (inr (nothing, inr (fine, (e, first, (least, found, at))))) =
      let range = (first_of_range (Has (CountReported rule)) 0 1001 least).0 found in
      let source : rule.source ≡ Header = elim (needs nothing)
      [ inl is ↦ is | inr lacks ↦ absurd ((none_first HasPlural entries).1 lacks e first) ] in
      subst (λ i. FirstFault entries rule (i, y.1)) (sym at.0)
      (at_count least first source ((none_has (HasProfileFault rule.nplurals) entries).0 fine) (omega (arith, range.1))
      (λ n under fault has. range.2 n (omega arith) under ((0, fault), (refl, has))) at.1)

  given : {y : Reported} → FirstFault entries rule y → Parts y
  given (no_rule {e = e} {reason = reason} first source) = inl (e, first, (reason, source, refl))
  given (in_entry {e = e} needs first fault) = inr (of_no_rule needs, inl (e, first, fault))
  given (at_count {e = e} {fault = fault} least first source fine most none wrong) =
      let at : CountReported rule least (0, fault) = (refl, wrong) in
      let range = (first_of_range (Has (CountReported rule)) 0 1001 least).1
      (omega arith, omega (arith, most), λ n up under has. none n under has.0.1 has.1.1, ((0, fault), at)) in
      let right = (none_has (HasProfileFault rule.nplurals) entries).1 fine in
      inr (of_no_rule (inl source), inr (right, (e, first, (least, range, at))))

pub first_found : (entries : List InputEntry) (rule : RuleView) (reported : Reported)
    → (first_fault entries rule ≡ Some reported) ↔ FirstFault entries rule reported
first_found entries rule = finds_like (parts_find entries rule) (λ y. (says entries rule y, given entries rule))
