-- Which texts and charsets an entry can have: it is known of each, and changed entries have no others.
use Rattle.po_entry.proofs.Prelude.{All, All-append, All-cons, All-head, All-left, All-nil, All-push, All-right, All-tail, Bool, EntryTextFault, HasTexts, IfSome, IsEntry, IsText, IsUtf8-nil, List, None, Option, OutOfMemory, PoFault, Some, TextEntry, Vec, [], add-one, arith, false, false≢true, forbidden, if◌then◌else◌, length, length-map, map, no_previous, not_utf8, option_to_list, previous_texts, quoted_texts, refl, set, take, take-suc-set, texts, true, ℕ, ◌&&◌, ◌++◌, ◌+◌, ◌<◌, ◌∷◌, ◌≡◌, ◌≢◌}
use Rattle.std.specs.Prelude.{IsTrue, ◌↔◌}

-- what a push that may be refused leaves
pub All-pushed : {X : Type 0} (P : X → Type 0) (ok : Bool) (xs : List X) (x : X) → All P xs → P x
    → All P (if ok then xs ++ x ∷ [] else xs)
All-pushed P true xs x h here = All-push P xs x h here
All-pushed P false xs x h here = h

-- vectors that are all empty hold as many empty texts as there are
pub all_empty : (xs ys : List (Vec ℕ)) → length xs ≡ length ys → All (λ v. v.items ≡ []) xs
    → texts xs ≡ map (λ _. []) (texts ys)
all_empty [] [] e h = refl
all_empty [] (y ∷ ys) e h = absurd (omega (arith, e))
all_empty (x ∷ xs) [] e h = absurd (omega (arith, e))
all_empty (x ∷ xs) (y ∷ ys) e h =
    let P : Vec ℕ → Type 0 = λ v. v.items ≡ [] in
    let same : length xs ≡ length ys = omega (arith, e) in
    let first : x.items ≡ [] = All-head P x xs h in
    let rest : texts xs ≡ map (λ _. []) (texts ys) = all_empty xs ys same (All-tail P x xs h) in
    cc

-- one more place of a list written
pub All-written : {X : Type 0} (P : X → Type 0) (xs : List X) (i : ℕ) (x : X) → i < length xs → All P (take i xs) → P x
    → All P (take (i + 1) (set xs i x))
All-written P xs i x below so_far here = rw (add-one, take-suc-set) (All-push P (take i xs) x so_far here)

pub record QuotedParts (P : List ℕ → Type 0) (entry : TextEntry) : Type 0 where
  pub previous : All P (previous_texts entry.previous)
  pub context : All P (option_to_list entry.context)
  pub id : All P (entry.id ∷ [])
  pub plural : All P (option_to_list entry.plural)
  pub forms : All P entry.forms

pub quoted_parts : (P : List ℕ → Type 0) (entry : TextEntry) → All P (quoted_texts entry) → QuotedParts P entry
quoted_parts P entry all =
    let previous = previous_texts entry.previous in
    let context = option_to_list entry.context in
    let plural = option_to_list entry.plural in
    let four = All-left P (((previous ++ context) ++ (entry.id ∷ [])) ++ plural) entry.forms all in
    let three = All-left P ((previous ++ context) ++ (entry.id ∷ [])) plural four in
    let two = All-left P (previous ++ context) (entry.id ∷ []) three in
    record {
      previous = All-left P previous context two;
      context = All-right P previous context two;
      id = All-right P (previous ++ context) (entry.id ∷ []) three;
      plural = All-right P ((previous ++ context) ++ (entry.id ∷ [])) plural four;
      forms = All-right P (((previous ++ context) ++ (entry.id ∷ [])) ++ plural) entry.forms all;
    }

-- two lists pass where both do
pub both : {X : Type 0} (P : X → Type 0) (xs ys : List X) (a b : Bool) → (IsTrue a ↔ All P xs) → (IsTrue b ↔ All P ys)
    → (IsTrue (a && b) ↔ All P (xs ++ ys))
both P xs ys true b p q = (λ t. All-append P xs ys (p.0 refl) (q.0 t), λ all. q.1 (All-right P xs ys all))
both P xs ys false b p q = (λ t. absurd (false≢true t), λ all. absurd (false≢true (p.1 (All-left P xs ys all))))

-- a text that there may be is the one that was tested
pub of_option : {X : Type 0} (P : X → Type 0) (x y : Option X) (a : Bool) → x ≡ y
    → (IsTrue a ↔ All P (option_to_list x)) → (IsTrue a ↔ All P (option_to_list y))
of_option P x y a e h = rw (← e) h

-- one text
pub of_one : {X : Type 0} (P : X → Type 0) (x : X) (a : Bool) → (IsTrue a ↔ P x) → (IsTrue a ↔ All P (x ∷ []))
of_one P x a h = (λ t. All-cons P x [] (h.0 t) (All-nil P), λ all. h.1 (All-head P x [] all))

pub on_option : {X : Type 0} (P : X → Type 0) (o : Option X) → (All P (option_to_list o) ↔ IfSome o P)
on_option P None = (λ _. tt, λ _. All-nil P)
on_option P (Some x) = (λ all. All-head P x [] all, λ h. All-cons P x [] h (All-nil P))

-- both tests pass exactly where both do
pub two : {P Q : Type 0} (a b : Bool) → (IsTrue a ↔ P) → (IsTrue b ↔ Q) → (IsTrue (a && b) ↔ (P × Q))
two true true p q = (λ t. (p.0 t, q.0 t), λ all. refl)
two true false p q = (λ t. absurd (false≢true t), λ all. absurd (false≢true (q.1 all.1)))
two false b p q = (λ t. absurd (false≢true t), λ all. absurd (false≢true (p.1 all.0)))

pub no_texts_fault : {entry : TextEntry} {kind : PoFault} → HasTexts entry → EntryTextFault entry kind → ⊥
no_texts_fault texts (not_utf8 some) = some texts.utf8
no_texts_fault texts (forbidden utf8 some) = some texts.clean

pub one_texts_fault : {entry : TextEntry} {a b : PoFault} → EntryTextFault entry a → EntryTextFault entry b → a ≡ b
one_texts_fault (not_utf8 some) (not_utf8 other) = refl
one_texts_fault (not_utf8 some) (forbidden utf8 other) = absurd (some utf8)
one_texts_fault (forbidden utf8 some) (not_utf8 other) = absurd (other utf8)
one_texts_fault (forbidden utf8 some) (forbidden also other) = refl

pub texts_fault_reported : {entry : TextEntry} {kind : PoFault} → EntryTextFault entry kind → kind ≢ OutOfMemory
texts_fault_reported (not_utf8 some) = λ same. cc
texts_fault_reported (forbidden utf8 some) = λ same. cc

-- the texts of the quoted strings but the forms
abbrev unformed_texts : TextEntry → List (List ℕ)
unformed_texts entry =
    previous_texts entry.previous ++ option_to_list entry.context ++ (entry.id ∷ []) ++ option_to_list entry.plural

IsText-nil : IsText []
IsText-nil = record { utf8 = IsUtf8-nil; no_nul = All-nil _ }

emptied_texts : (forms : List (List ℕ)) → All IsText (map (λ _. []) forms)
emptied_texts [] = All-nil IsText
emptied_texts (form ∷ forms) = All-cons IsText [] (map (λ _. []) forms) IsText-nil (emptied_texts forms)

pub IsEntry-emptied : (entry : TextEntry) → IsEntry entry → IsEntry (record entry { forms = map (λ _. []) entry.forms })
IsEntry-emptied entry h = record {
  quoted_texts = All-append IsText (unformed_texts entry) (map (λ _. []) entry.forms)
      (All-left IsText (unformed_texts entry) entry.forms h.quoted_texts) (emptied_texts entry.forms);
  comments = h.comments;
  extracted = h.extracted;
  references = h.references;
  flags = h.flags;
  distinct_flags = h.distinct_flags;
  context = h.context;
  id = h.id;
  some_form = rw length-map h.some_form;
  one_form = λ single. rw length-map (h.one_form single);
}

pub IsEntry-without_previous : (entry : TextEntry) → IsEntry entry → IsEntry (record entry { previous = no_previous })
IsEntry-without_previous entry h = record {
  quoted_texts =
      let parts = quoted_parts IsText entry h.quoted_texts in
      All-append IsText ((option_to_list entry.context ++ (entry.id ∷ [])) ++ option_to_list entry.plural) entry.forms
      (All-append IsText (option_to_list entry.context ++ (entry.id ∷ [])) (option_to_list entry.plural)
      (All-append IsText (option_to_list entry.context) (entry.id ∷ []) parts.context parts.id) parts.plural)
      parts.forms;
  comments = h.comments;
  extracted = h.extracted;
  references = h.references;
  flags = h.flags;
  distinct_flags = h.distinct_flags;
  context = h.context;
  id = h.id;
  some_form = h.some_form;
  one_form = h.one_form;
}
