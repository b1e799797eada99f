-- Texts are compiled or have a fault, and only one.
use Rattle.po_compile.proofs.Prelude.{AcceptedOrFault, All-weaker, AllZip, AreAccepted, AreRead, Err, HasJoinedDuplicate, HasNoDuplicate, InputEntry, IsCompileFault, IsEntry, IsFaultOfInput, IsFirstDuplicate, IsReadFault, IsTextFault, IsTooLarge, JoinError, List, MatchResult-weaker, Ok, OneCompileFault, Options, OutOfMemory, PoError, PoFault, ReadsDistinct, ReadsText, Result, TextEntry, [], ap, ap₂, arith, cases_lt, compiled_list, distinct_has_no_first, duplicate_fault, entries_of, entries_of_input, in_input, inl, inr, join_out_of_memory, joined, joined_entries, layout, layout_fault, length, map, refl, subst, subst₂, suc, sym, ℕ, ◌++◌, ◌^◌, ◌↔◌, ◌∙◌, ◌∷◌, ◌≡◌, ◌≢◌, ◌⊎◌}
use Rattle.std.specs.Result.{MatchResult}
use Rattle.po_syntax.specs.Facts.Once.{Once, same}
use Rattle.po_compile.specs.Compiling.{HasLargeLayout, HasSmallLayout}
use Rattle.po_compile.specs.Headline.{NoFaultWhereAccepted}
use Rattle.po_entry.proofs.Duplicates.{first_once, none_or_first}
use Rattle.po_compile.proofs.CollectedInputs.{read_valid}
use Rattle.po_compile.proofs.Meaning.{LacksSeparators, entry_lacks_separators}
use Rattle.po_compile.proofs.SortedMessages.{compiled_differ, compiled_valid, messages_are_one, messages_exist}
use Rattle.po_reader.proofs.OneOutcome as reading

-- one result holds: a value that has P, or an error that has Q
abbrev pub OneResult : {A E : Type 0} → (A → Type 0) → (E → Type 0) → Type 0
OneResult {A} {E} P Q = Once (λ (r : Result A E). MatchResult r P Q)

module _ {A E : Type 0} {P : A → Type 0} {Q : E → Type 0} where
  -- there is one, and each two are the same
  one_of_any : ((a : A) × P a) ⊎ ((e : E) × Q e)
      → ((r s : Result A E) → MatchResult r P Q → MatchResult s P Q → r ≡ s) → OneResult P Q
  one_of_any (inl (a, p)) alike = record { outcome = Ok a; holds = p; only = λ r is. alike r (Ok a) is p }
  one_of_any (inr (e, q)) alike = record { outcome = Err e; holds = q; only = λ r is. alike r (Err e) is q }

  pub one_result : ((a : A) × P a) ⊎ ((e : E) × Q e) → ((a b : A) → P a → P b → a ≡ b)
      → ((a : A) (e : E) → P a → Q e → ⊥) → ((e f : E) → Q e → Q f → e ≡ f) → OneResult P Q
  one_result ends value apart error = one_of_any ends alike where
    alike : (r s : Result A E) → MatchResult r P Q → MatchResult s P Q → r ≡ s
    alike (Ok a) (Ok b) p q = ap Ok (value a b p q)
    alike (Ok a) (Err f) p q = absurd (apart a f p q)
    alike (Err e) (Ok b) p q = absurd (apart b e q p)
    alike (Err e) (Err f) p q = ap Err (error e f p q)

  pub one_value : OneResult P Q → {a b : A} → P a → P b → a ≡ b
  one_value once {a} {b} p q = let alike = same once {one = Ok a} {other = Ok b} p q in cc

  pub not_both : OneResult P Q → {a : A} {e : E} → P a → Q e → ⊥
  not_both once {a} {e} p q = let alike = same once {one = Ok a} {other = Err e} p q in cc

  pub one_error : OneResult P Q → {e f : E} → Q e → Q f → e ≡ f
  one_error once {e} {f} p q = let alike = same once {one = Err e} {other = Err f} p q in cc

  pub value_or_error : OneResult P Q → ((a : A) × P a) ⊎ ((e : E) × Q e)
  value_or_error once = by once.outcome once.holds where
    by : (r : Result A E) → MatchResult r P Q → ((a : A) × P a) ⊎ ((e : E) × Q e)
    by (Ok a) p = inl (a, p)
    by (Err e) q = inr (e, q)

-- the error is told, or something follows the value
pub data Follows {A E R : Type 0} (P : A → Type 0) (Q : E → Type 0) (tell : E → R) (Then : A → R → Type 0) (r : R)
    : Type 0 where
  wrong : {e : E} → Q e → r ≡ tell e → Follows P Q tell Then r
  right : {a : A} → P a → Then a r → Follows P Q tell Then r

pub follows_once : {A E R : Type 0} {P : A → Type 0} {Q : E → Type 0} {tell : E → R} {Then : A → R → Type 0}
    → OneResult P Q → ((a : A) → P a → (r s : R) → Then a r → Then a s → r ≡ s) → (r s : R)
    → Follows P Q tell Then r → Follows P Q tell Then s → r ≡ s
follows_once {tell = tell} once next r s (wrong q is) (wrong also was) =
    is ∙ ap tell (one_error once q also) ∙ sym was
follows_once once next r s (wrong q is) (right p later) = absurd (not_both once p q)
follows_once once next r s (right p later) (wrong q is) = absurd (not_both once p q)
follows_once {Then = Then} once next r s (right p later) (right {a = a} also other) =
    next a also r s (subst (λ c. Then c r) (one_value once p also) later) other

-- the same in other words
pub restated : {A E : Type 0} {P V : A → Type 0} {Q T : E → Type 0} → OneResult P Q → ((a : A) → P a ↔ V a)
    → ((e : E) → Q e ↔ T e) → OneResult V T
restated once value error = record {
  outcome = once.outcome;
  holds = MatchResult-weaker once.outcome once.holds (λ a. (value a).0) (λ e. (error e).0);
  only = λ r is. once.only r (MatchResult-weaker r is (λ a. (value a).1) (λ e. (error e).1));
}

-- a value is tested further
pub tested : {A E : Type 0} {P R V : A → Type 0} {Q T : E → Type 0} {S : A → E → Type 0} → OneResult P Q
    → ((a : A) → P a → OneResult {A = Unit {0}} (λ _. R a) (S a)) → ((a : A) → P a × R a ↔ V a)
    → ((e : E) → ((a : A) × P a × S a e) ↔ T e) → OneResult V (λ e. Q e ⊎ T e)
tested {A = A} {E = E} {P = P} {R = R} {V = V} {Q = Q} {T = T} {S = S} once test value fails = one_of_any
    (elim (value_or_error once) [
      | inl found ↦ elim (value_or_error (test found.0 found.1)) [
        | inl passes ↦ inl (found.0, (value found.0).0 (found.1, passes.1))
        | inr fault ↦ inr (fault.0, inr ((fails fault.0).0 (found.0, found.1, fault.1)))
      ]
      | inr fault ↦ inr (fault.0, inl fault.1)
    ])
    (λ r s p q. follows_once once (λ a p. follows_once (test a p) (λ _ _ _ _ is was. is ∙ sym was)) r s
    (view r p) (view s q)) where
      view : (r : Result A E) → MatchResult r V (λ e. Q e ⊎ T e)
          → Follows P Q Err (λ a. Follows {A = Unit {0}} (λ _. R a) (S a) Err (λ _ r. r ≡ Ok a)) r
      view (Ok a) v = right ((value a).1 v).0 (right ((value a).1 v).1 refl)
      view (Err e) (inl q) = wrong q refl
      view (Err e) (inr t) = let found = (fails e).1 t in right found.1 (wrong found.2 refl)

module _ {X A E F : Type 0} (P : X → A → Type 0) (Q : X → E → Type 0) where
  -- the error is told of the first of these that has no value
  abbrev pub FirstError : (ℕ → X → E → F) → List X → F → Type 0
  FirstError tell [] f = ⊥
  FirstError tell (x ∷ xs) f = Follows (P x) (Q x) (tell 0 x) (λ _. FirstError (λ n. tell (suc n)) xs) f

  -- what stands before the first one has values
  pub first_error : (tell : ℕ → X → E → F) (before : List X) (x : X) (after : List X) (values : List A) (e : E)
      → AllZip P before values → Q x e → FirstError tell (before ++ x ∷ after) (tell (length before) x e)
  first_error tell [] x after values e passed why = wrong why refl
  first_error tell (y ∷ before) x after [] e passed why = absurd passed
  first_error tell (y ∷ before) x after (a ∷ values) e passed why =
      right passed.0 (first_error (λ n. tell (suc n)) before x after values e passed.1 why)

  pub before_error : (tell : ℕ → X → E → F) (xs : List X) {f : F} → FirstError tell xs f
      → (before : List X) × (x : X) × (after : List X) × (values : List A) × (e : E)
      × (xs ≡ before ++ x ∷ after) × AllZip P before values × Q x e × (f ≡ tell (length before) x e)
  before_error tell [] found = absurd found
  before_error tell (x ∷ xs) (wrong {e = e} why is) = ([], x, xs, [], e, refl, tt, why, is)
  before_error tell (x ∷ xs) (right {a = a} value found) =
      let (before, y, after, values, e, order, passed, why, is) = before_error (λ n. tell (suc n)) xs found in
      (x ∷ before, y, after, a ∷ values, e, ap (λ l. x ∷ l) order, (value, passed), why, is)

  -- one more comes before those that have values or an error
  one_before : (x : X) (xs : List X) {T : F → Type 0} → OneResult (P x) (Q x) → (tell : E → F)
      → OneResult (AllZip P xs) T → OneResult (AllZip P (x ∷ xs)) (Follows (P x) (Q x) tell (λ _. T))
  one_before x xs {T = T} here tell later = one_of_any
      (elim (value_or_error here) [
        | inl found ↦ elim (value_or_error later) [
          | inl others ↦ inl (found.0 ∷ others.0, (found.1, others.1))
          | inr fault ↦ inr (fault.0, right found.1 fault.1)
        ]
        | inr fault ↦ inr (tell fault.0, wrong fault.1 refl)
      ])
      (λ r s p q. follows_once here (λ a _. follows_once later (λ _ _ _ _ is was. is ∙ sym was)) r s
      (view r p) (view s q)) where
        view : (r : Result (List A) F) → MatchResult r (AllZip P (x ∷ xs)) (Follows (P x) (Q x) tell (λ _. T))
            → Follows (P x) (Q x) (λ e. Err (tell e)) (λ a. Follows (AllZip P xs) T Err (λ ys r. r ≡ Ok (a ∷ ys))) r
        view (Ok []) p = absurd p
        view (Ok (a ∷ ys)) p = right p.0 (right p.1 refl)
        view (Err f) (wrong why is) = wrong why (ap Err is)
        view (Err f) (right value found) = right value (wrong found refl)

  -- each of these has a value, or the first that has none has an error
  pub all_or_first : ((x : X) → OneResult (P x) (Q x)) → (tell : ℕ → X → E → F) (xs : List X)
      → OneResult (AllZip P xs) (FirstError tell xs)
  all_or_first each tell [] = record { outcome = Ok []; holds = tt; only = only } where
    only : (r : Result (List A) F) → MatchResult r (AllZip P []) (FirstError tell []) → r ≡ Ok []
    only (Ok []) p = refl
    only (Ok (_ ∷ _)) p = absurd p
    only (Err f) found = absurd found
  all_or_first each tell (x ∷ xs) = one_before x xs (each x) (tell 0 x) (all_or_first each (λ n. tell (suc n)) xs)

-- Texts are accepted or have a fault, and only one: what they read as, what refuses them, and that there
-- is always one of both.

abbrev error_of : PoFault → ℕ → PoError
error_of kind line = record { kind = kind; line = line }

abbrev kind_of : JoinError → PoFault
kind_of error = error.error.kind

-- a text reads as entries or has a fault
read_once : (text : List ℕ) → OneResult (ReadsText text) (λ (e : PoError). IsReadFault text e.kind e.line)
read_once text = one_result
    (elim (reading.text_ends text)
    [ inl read ↦ inl read | inr found ↦ inr (error_of found.0 found.1, found.2) ])
    (reading.text_once text) (λ entries e. reading.text_or_fault text entries e.kind e.line)
    (λ e f one other.
    let alike = reading.text_fault_once text e.kind f.kind e.line f.line one other in ap₂ error_of alike.0 alike.1)

-- entries have no duplicate or a first one
pub duplicates_once : {E : Type 0} (tell : InputEntry → InputEntry → E) (list : List InputEntry)
    (entries : List TextEntry) → entries_of list ≡ entries
    → OneResult {A = Unit {0}} (λ _. HasNoDuplicate entries)
    (λ e. (first later : InputEntry) × IsFirstDuplicate list first later × (e ≡ tell first later))
duplicates_once tell list entries are = one_result
    (elim (none_or_first list) [
      | inl none ↦ inl (tt, subst HasNoDuplicate are none)
      | inr found ↦ inr (tell found.0 found.1, (found.0, found.1, found.2, refl))
    ])
    (λ a b _ _. refl)
    (λ _ e none found. distinct_has_no_first list found.0 found.1 (subst HasNoDuplicate (sym are) none) found.2)
    (λ e f one other.
    let alike = first_once list one.0 one.1 other.0 other.1 one.2 other.2 in
    one.3 ∙ ap₂ tell alike.0 alike.1 ∙ sym other.3)

-- a text reads as entries without a duplicate or has a fault
pub text_once : (text : List ℕ) → OneResult (ReadsDistinct text) (IsTextFault text)
text_once text = tested (read_once text)
    (λ entries _. duplicates_once (λ first later. (duplicate_fault first later).error)
    (map (in_input 0) entries) entries (entries_of_input 0 entries))
    (λ entries. (λ h. record { reads = h.0; distinct = h.1 }, λ h. (h.reads, h.distinct)))
    (λ e. (
      λ (list, reads, (a, b, found, is)).
          record { entries = list; reads = reads; first = a; later = b; duplicate = found; error_is = is },
      λ h. (h.entries, h.reads, (h.first, h.later, h.duplicate, h.error_is)),
    ))

-- the fault of an input among all of them
abbrev of_input : ℕ → List ℕ → PoError → JoinError
of_input input text error = record { input = input; first_input = input; error = error }

-- texts read as catalogues or one of them is the first with a fault
pub texts_once : (texts : List (List ℕ)) → OneResult (AllZip ReadsDistinct texts) (IsFaultOfInput texts)
texts_once texts =
    restated (all_or_first ReadsDistinct IsTextFault text_once of_input texts)
    (λ catalogues. (λ h. h, λ h. h)) (λ e. (to e, from e)) where
      to : (e : JoinError) → FirstError ReadsDistinct IsTextFault of_input texts e → IsFaultOfInput texts e
      to e found =
          let (before, text, after, catalogues, error, order, each, fault, is) =
          before_error ReadsDistinct IsTextFault of_input texts found in
          record {
            before = before;
            text = text;
            after = after;
            order = order;
            catalogues = catalogues;
            faultless = each;
            input = ap (λ (e : JoinError). e.input) is;
            first_input = ap (λ (e : JoinError). e.first_input) is;
            fault = subst (IsTextFault text) (sym (ap (λ (e : JoinError). e.error) is)) fault;
          }

      from : (e : JoinError) → IsFaultOfInput texts e → FirstError ReadsDistinct IsTextFault of_input texts e
      from e f =
          let is = ap₂ (λ n m. record { input = n; first_input = m; error = e.error }) (sym f.input)
          (sym f.first_input) in
          subst₂ (FirstError ReadsDistinct IsTextFault of_input) (sym f.order) is
          (first_error ReadsDistinct IsTextFault of_input
          f.before f.text f.after f.catalogues e.error f.faultless f.fault)

-- texts read as catalogues whose joined list has no duplicate or have a fault
joined_once : (texts : List (List ℕ))
    → OneResult (AreRead texts) (λ e. IsFaultOfInput texts e ⊎ HasJoinedDuplicate texts e)
joined_once texts = tested (texts_once texts)
    (λ catalogues _. duplicates_once duplicate_fault (joined catalogues) (joined_entries catalogues) refl)
    (λ catalogues. (λ h. record { each = h.0; distinct = h.1 }, λ h. (h.each, h.distinct)))
    (λ e. (
      λ (lists, each, (a, b, found, is)).
          record { catalogues = lists; each = each; first = a; later = b; duplicate = found; error_is = is },
      λ h. (h.catalogues, h.each, (h.first, h.later, h.duplicate, h.error_is)),
    ))

-- the layout of texts that are read is small or too large
layout_once : (options : Options) (texts : List (List ℕ)) (catalogues : List (List TextEntry))
    → AreRead texts catalogues → OneResult {A = Unit {0}} (λ _. HasSmallLayout options (joined_entries catalogues))
    (λ e. HasLargeLayout options (joined_entries catalogues) × (e ≡ layout_fault))
layout_once options texts catalogues read =
    let entries = joined_entries catalogues in
    let kept = compiled_list options.use_fuzzy entries in
    let valid = compiled_valid options.use_fuzzy entries (read_valid reading.read_valid texts catalogues read.each) in
    let found = messages_exist kept (All-weaker IsEntry LacksSeparators entry_lacks_separators kept valid)
    (compiled_differ options.use_fuzzy entries read.distinct) in
    one_result
    (elim (cases_lt (length (layout options.order found.0)) (2 ^ 32)) [
      | inl small ↦ inl (tt, record { messages = found.0; are_messages = found.1; small = small })
      | inr large ↦ inr (layout_fault, (record { messages = found.0; are_messages = found.1; large = large }, refl))
    ])
    (λ a b _ _. refl)
    (λ _ e small large.
    let same = messages_are_one kept small.messages large.0.messages small.are_messages large.0.are_messages in
    let bytes = ap (λ list. length (layout options.order list)) same in
    omega (arith, small.small, large.0.large, bytes))
    (λ e f one other. one.1 ∙ sym other.1)

-- a fault that isn't out of memory
abbrev pub IsOtherFault : Options → List (List ℕ) → JoinError → Type 0
IsOtherFault options texts error =
    (IsFaultOfInput texts error ⊎ HasJoinedDuplicate texts error) ⊎ IsTooLarge options texts error

-- texts are accepted or have a fault
pub compile_once : (options : Options) (texts : List (List ℕ))
    → OneResult (AreAccepted options texts) (IsOtherFault options texts)
compile_once options texts = tested (joined_once texts) (layout_once options texts)
    (λ catalogues. (λ h. record { read = h.0; layout = h.1 }, λ h. (h.read, h.layout)))
    (λ e. (
      λ (catalogues, read, (large, is)). record { catalogues = catalogues; read = read; large = large; error_is = is },
      λ h. (h.catalogues, h.read, (h.large, h.error_is)),
    ))

pub other_of : (options : Options) (texts : List (List ℕ)) (error : JoinError) → IsCompileFault options texts error
    → error ≢ join_out_of_memory → IsOtherFault options texts error
other_of options texts error (inl (inl memory)) other = absurd (other memory)
other_of options texts error (inl (inr fault)) other = inl fault
other_of options texts error (inr large) other = inr large

reported : (options : Options) (texts : List (List ℕ)) (error : JoinError) → IsOtherFault options texts error
    → IsCompileFault options texts error × (error.error.kind ≢ OutOfMemory)
reported options texts error (inl (inl fault)) = (inl (inr (inl fault)), by fault.fault) where
  by : IsTextFault fault.text error.error → error.error.kind ≢ OutOfMemory
  by (inl why) = reading.read_reported fault.text error.error.kind error.error.line why
  by (inr found) = λ same. cc
reported options texts error (inl (inr found)) = (inl (inr (inr found)), λ same. cc (ap kind_of found.error_is))
reported options texts error (inr large) = (inr large, λ same. cc (ap kind_of large.error_is))

pub accepted_or_fault : AcceptedOrFault
accepted_or_fault options texts = elim (value_or_error (compile_once options texts)) [
  | inl accepted ↦ inl accepted
  | inr found ↦
      let (fault, other) = reported options texts found.0 found.1 in
      inr (found.0, fault, λ same. other (ap kind_of same))
]

pub accepted_faultless : NoFaultWhereAccepted
accepted_faultless options texts catalogues error accepted (inl (inl memory)) = memory
accepted_faultless options texts catalogues error accepted (inl (inr fault)) =
    absurd (not_both (compile_once options texts) accepted (inl fault))
accepted_faultless options texts catalogues error accepted (inr large) =
    absurd (not_both (compile_once options texts) accepted (inr large))

pub compile_fault_once : OneCompileFault
compile_fault_once options texts a b f g some other =
    one_error (compile_once options texts) (other_of options texts a f some) (other_of options texts b g other)
