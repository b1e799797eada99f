-- Entries of a joined list, and what is tested of their texts.
use Rattle.po_catalog.proofs.Prelude.{All, All-cons, All-get_or, All-head, All-map, All-nil, All-tail, AllWithin, Bool, Bor, HasTexts, HoldsAt, InputEntry, IsEntry, IsTrue, IsUtf8, Lacks, List, MatchBool, None, Option, Some, TextEntry, [], ap, arith, borrowed_entry, bytes_eq, entries_of, false, false≢true, get_or, get_or-map, input_entries, input_entry, length, length-map, map_more, map_push, option_copied, quoted_texts, refl, slice_texts, subst, sym, take, texts, texts_eq, true, true_from_All, ℕ, ◌++◌, ◌+◌, ◌<◌, ◌↔◌, ◌∙◌, ◌∷◌, ◌≡◌}
use Rattle.po_catalog.specs.declared.joining.InputEntry.{InputEntry as BorrowedEntry}
use Rattle.po_syntax.specs.Prelude.{IsText}
use Rattle.std.specs.Global.{Vec}
use lib.Pointwise.{pointwise}

-- what holds of all entries holds of each
pub borrowed_holds : (P : TextEntry → Type 0) (entries : List BorrowedEntry) (i : ℕ) (x : BorrowedEntry)
    → i < length entries → x ≡ get_or entries i x → All P (entries_of (input_entries entries)) → P x.entry.now
borrowed_holds P entries i x inside is all =
    let entry : InputEntry → TextEntry = λ e. e.entry in
    let xs = input_entries entries in
    let below : i < length xs = omega (arith, inside, length-map entries input_entry) in
    subst P (get_or-map entry xs i (input_entry x) x.entry.now below
    ∙ ap entry (get_or-map input_entry entries i x (input_entry x) inside)
    ∙ ap (λ (e : BorrowedEntry). e.entry.now) (sym is))
    (all i x.entry.now (omega (arith, below, length-map xs entry)))

-- the first of the entries, and one more
abbrev pub borrowed_so_far : List BorrowedEntry → ℕ → List TextEntry
borrowed_so_far entries i = entries_of (input_entries (take i entries))

pub borrowed_more : (entries : List BorrowedEntry) (i : ℕ) (x : BorrowedEntry) → i < length entries
    → x ≡ get_or entries i x
    → borrowed_so_far entries (i + 1) ≡ borrowed_so_far entries i ++ x.entry.now ∷ []
borrowed_more entries i x inside is =
    ap entries_of (map_more input_entry entries i x inside)
    ∙ map_push (λ (e : InputEntry). e.entry) (input_entries (take i entries)) (input_entry (get_or entries i x))
    ∙ ap (λ (e : BorrowedEntry). borrowed_so_far entries i ++ e.entry.now ∷ []) (sym is)

all_texts : (texts : List (List ℕ)) → All IsUtf8 texts → All (Lacks 0) texts → All IsText texts
all_texts [] utf8 no_nul = All-nil IsText
all_texts (text ∷ texts) utf8 no_nul = All-cons IsText text texts
    (record { utf8 = All-head IsUtf8 text texts utf8; no_nul = All-head (Lacks 0) text texts no_nul })
    (all_texts texts (All-tail IsUtf8 text texts utf8) (All-tail (Lacks 0) text texts no_nul))

none_copied : (text : Option (Bor (List ℕ))) → option_copied text ≡ None → text ≡ None
none_copied None e = refl
none_copied (Some text) e = cc

pub plain_entry_valid : (context : Option (Bor (List ℕ))) (id : List ℕ) (plural : Option (Bor (List ℕ)))
    (forms : List (Bor (List ℕ))) → HasTexts (borrowed_entry context id plural forms) → 0 < length forms
    → (plural ≡ None → length forms ≡ 1) → IsEntry (borrowed_entry context id plural forms)
plain_entry_valid context id plural forms h some_form one_form = record {
  quoted_texts = all_texts (quoted_texts (borrowed_entry context id plural forms)) h.utf8 h.clean.no_nul;
  comments = All-nil _;
  extracted = All-nil _;
  references = All-nil _;
  flags = All-nil _;
  distinct_flags = tt;
  context = h.clean.context;
  id = h.clean.id;
  some_form = rw length-map some_form;
  one_form = λ none. rw length-map (one_form (none_copied plural none));
}

pub same_vectors : (xs ys : List (Vec ℕ))
    → pointwise (λ (x y : Vec ℕ). bytes_eq x.items y.items) xs ys ≡ texts_eq (texts xs) (texts ys)
same_vectors [] [] = refl
same_vectors [] (y ∷ ys) = refl
same_vectors (x ∷ xs) [] = refl
same_vectors (x ∷ xs) (y ∷ ys) = rw (same_vectors xs ys) refl

tested_one : (P : List ℕ → Type 0) (xs : List (Bor (List ℕ))) (i : ℕ) (d : Bor (List ℕ)) → i < length xs
    → All P (slice_texts xs) → P (get_or xs i d).now
tested_one P xs i d below all =
    let inside : i < length (slice_texts xs) = rw length-map below in
    rw (get_or-map (λ s. s.now) xs i d d.now) at (All-get_or P (slice_texts xs) i d.now inside all)

-- what is said of texts that were tested one after another
pub all_tested : (P : List ℕ → Type 0) (r : Bool) (xs : List (Bor (List ℕ)))
    → MatchBool r (AllWithin (λ x. P x.now) xs 0 (length xs))
    ((k : ℕ) × (k < length xs) × HoldsAt (λ x. P x.now → ⊥) xs k) → IsTrue r ↔ All P (slice_texts xs)
all_tested P true xs h = (λ _. All-map P (λ s. s.now) xs (λ k d inside. h k d (omega arith) inside), λ _. refl)
all_tested P false xs h = (
  λ t. absurd (false≢true t),
  λ all. true_from_All (λ x. P x.now) (λ x. P x.now → ⊥) false xs (λ x p q. q p) h
      (λ k d inside. tested_one P xs k d inside all),
)
