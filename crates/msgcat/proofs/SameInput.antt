-- Inputs in which no message stands twice: one that is given twice, and several.
use Rattle.msgcat.proofs.Prelude.{All, All-cons, All-head, All-map, All-nil, All-tail, All-weaker, AllDiffer, Bool, DistinctInputsStay, IsSameMessage, List, MergeOptions, Named, NamedEntry, OneInputStays, TextEntry, WithItself, [], all_entries, all_pass, ap, append-nil, append_assoc, ap₂, arith, cond, cond_both, definitions, false, false_from_ne_true, false≢true, filter, filter-append, first_ones, fold, fold-append, get_or, if◌then◌else◌, is_header, is_kept, is_live, is_wanted, keep_all, length, list_any, list_any-append, list_any_none, lt-ltb, map, merged_entry, merged_messages, named, nat_lt, none_pass, or-true, refl, same_message, subst, suc, sym, true, with_new, zero, ℕ, ◌&&◌, ◌++◌, ◌||◌, ◌∙◌, ◌∷◌, ◌≡◌}
use Rattle.msgcat.proofs.SeenTexts.{Apart, group_of, none_all, same_message_laws}
use Rattle.msgcat.proofs.MessagesOnce.{same_is}
use Rattle.msgcat.proofs.OneDefinition.{merged_to_it}

-- lists whose elements differ

pub firsts_of_apart : (done xs : List NamedEntry) → All (λ x. list_any (same_message x) done ≡ false) xs
    → Apart same_message xs → fold (with_new same_message) done xs ≡ done ++ xs
firsts_of_apart done [] h apart = sym (append-nil done)
firsts_of_apart done (x ∷ xs) h apart =
    let new : with_new same_message done x ≡ done ++ x ∷ [] =
    ap (λ (b : Bool). if b then done else done ++ x ∷ [])
    (All-head (λ y. list_any (same_message y) done ≡ false) x xs h) in
    let rest = All-tail (λ y. list_any (same_message y) done ≡ false) x xs h in
    let others = none_all (same_message x) xs apart.0 in
    ap (λ (l : List NamedEntry). fold (with_new same_message) l xs) new
    ∙ firsts_of_apart (done ++ x ∷ []) xs
    (λ k d below. list_any-append (same_message (get_or xs k d)) done (x ∷ [])
    ∙ ap₂ (λ (a b : Bool). a || (b || false)) (rest k d below)
    (same_message_laws.symm (get_or xs k d) x ∙ others k d below)) apart.1
    ∙ append_assoc done (x ∷ []) xs

firsts_known : (done xs : List NamedEntry) → All (λ x. list_any (same_message x) done ≡ true) xs
    → fold (with_new same_message) done xs ≡ done
firsts_known done [] h = refl
firsts_known done (x ∷ xs) h =
    ap (λ (b : Bool). fold (with_new same_message) (if b then done else done ++ x ∷ []) xs)
    (All-head (λ y. list_any (same_message y) done ≡ true) x xs h)
    ∙ firsts_known done xs (All-tail (λ y. list_any (same_message y) done ≡ true) x xs h)

-- the entries of an input

pub differ_head : (e : TextEntry) (es : List TextEntry) → AllDiffer (e ∷ es) → All (λ x. ¬ IsSameMessage e x) es
differ_head e es h k d below = h zero (suc k) d (omega arith) (omega (arith, below))

pub differ_tail : (e : TextEntry) (es : List TextEntry) → AllDiffer (e ∷ es) → AllDiffer es
differ_tail e es h i j d lt within = h (suc i) (suc j) d (omega (arith, lt)) (omega (arith, within))

pub differs : (a b : NamedEntry) → ¬ IsSameMessage a.entry b.entry → same_message a b ≡ false
differs a b h = false_from_ne_true (same_message a b) (λ e. h (same_is a b e))

others_differ : (n m : List ℕ) (e : TextEntry) (es : List TextEntry) → AllDiffer (e ∷ es)
    → All (λ x. same_message (named n e) (named m x) ≡ false) es
others_differ n m e es h =
    All-weaker (λ x. ¬ IsSameMessage e x) (λ x. same_message (named n e) (named m x) ≡ false)
    (λ x other. differs (named n e) (named m x) other) es (differ_head e es h)

apart_named : (n : List ℕ) (es : List TextEntry) → AllDiffer es → Apart same_message (map (named n) es)
apart_named n [] h = tt
apart_named n (e ∷ es) h = (
  list_any_none (same_message (named n e)) (map (named n) es)
      (All-map (λ x. same_message (named n e) x ≡ false) (named n) es (others_differ n n e es h)),
  apart_named n es (differ_tail e es h),
)

-- each entry is the only one of its message
alone : (n m : List ℕ) (es : List TextEntry) → AllDiffer es
    → All (λ e. group_of same_message (map (named m) es) (named n e) ≡ named m e ∷ []) es
alone n m [] h = All-nil (λ e. group_of same_message [] (named n e) ≡ named m e ∷ [])
alone n m (x ∷ xs) h =
    All-cons (λ e. group_of same_message (map (named m) (x ∷ xs)) (named n e) ≡ named m e ∷ []) x xs
    (ap₂ (λ (b : Bool) (l : List NamedEntry). cond b (named m x ∷ l) l) (same_message_laws.refl (named m x))
    (none_pass (λ y. same_message y (named n x)) (map (named m) xs)
    (All-map (λ y. same_message y (named n x) ≡ false) (named m) xs
    (λ k d below. same_message_laws.symm (named m (get_or xs k d)) (named n x)
    ∙ others_differ n m x xs h k d below))))
    (λ k d below. ap (λ (b : Bool).
    cond b (named m x ∷ group_of same_message (map (named m) xs) (named n (get_or xs k d)))
    (group_of same_message (map (named m) xs) (named n (get_or xs k d)))) (others_differ m n x xs h k d below)
    ∙ alone n m xs (differ_tail x xs h) k d below)

-- where each entry is kept and merged to itself, all are merged to themselves
pub record Stays (o : MergeOptions) (ds : List NamedEntry) (e : TextEntry) : Type 0 where
  pub kept : is_kept o ds ≡ true
  pub same : merged_entry o ds ≡ e

all_stay : (o : MergeOptions) (all : List NamedEntry) (n : List ℕ) (es : List TextEntry)
    → All (λ e. Stays o (definitions (group_of same_message all (named n e))) e) es
    → merged_messages o (map definitions (map (group_of same_message all) (map (named n) es))) ≡ es
all_stay o all n [] h = refl
all_stay o all n (e ∷ es) h =
    let here = All-head (λ x. Stays o (definitions (group_of same_message all (named n x))) x) e es h in
    let ds = definitions (group_of same_message all (named n e)) in
    let rest = filter (is_kept o) (map definitions (map (group_of same_message all) (map (named n) es))) in
    ap (λ (b : Bool). map (merged_entry o) (cond b (ds ∷ rest) rest)) here.kept
    ∙ ap₂ (λ (x : TextEntry) (xs : List TextEntry). x ∷ xs) here.same
    (all_stay o all n es (All-tail (λ x. Stays o (definitions (group_of same_message all (named n x))) x) e es h))

abbrev live : NamedEntry → Bool
live d = is_live d.entry

-- members of one entry are its definitions
definitions_same : (e : TextEntry) (ds : List NamedEntry) → All (λ d. d.entry ≡ e) ds → definitions ds ≡ ds
definitions_same e ds h =
    cond_both (list_any live ds) (filter live ds) ds (λ l. l ≡ ds)
    (λ some. all_pass live ds (each (is_live e) refl some)) (λ _. refl) where
      each : (b : Bool) → is_live e ≡ b → list_any live ds ≡ true → All (λ d. live d ≡ true) ds
      each true is some = All-weaker (λ d. d.entry ≡ e) (λ d. live d ≡ true) (λ d same. ap is_live same ∙ is) ds h
      each false is some = absurd
          (false≢true (sym (list_any_none live ds
          (All-weaker (λ d. d.entry ≡ e) (λ d. live d ≡ false) (λ d same. ap is_live same ∙ is) ds h)) ∙ some))

-- and are merged to it
pub entry_stays : (use_first : Bool) (e : TextEntry) (d : NamedEntry) (ds : List NamedEntry)
    → All (λ x. x.entry ≡ e) (d ∷ ds) → Stays (keep_all use_first) (definitions (d ∷ ds)) e
entry_stays use_first e d ds h =
    let o = keep_all use_first in
    let same = definitions_same e (d ∷ ds) h in
    let wanted : is_wanted o (length (d ∷ ds)) ≡ true =
    ap (λ (b : Bool). b && true && (true || nat_lt (length (d ∷ ds)) 2))
    (lt-ltb 0 (length (d ∷ ds)) (omega arith)) in
    let header = list_any (λ (x : NamedEntry). is_header x.entry) (d ∷ ds) in
    record {
      kept = ap (is_kept o) same ∙ ap (λ (b : Bool). header || b) wanted
          ∙ or-true header;
      same = ap (merged_entry o) same ∙ merged_to_it e o (d ∷ ds) (omega arith) h;
    }

pub one_input : (use_first : Bool) (input : Named) → OneInputStays use_first input
one_input use_first input h =
    let o = keep_all use_first in
    let all = map (named input.name) input.entries in
    ap (λ (es : List NamedEntry).
    merged_messages o (map definitions (map (group_of same_message es) (first_ones same_message es))))
    (append-nil all)
    ∙ ap (λ (fs : List NamedEntry). merged_messages o (map definitions (map (group_of same_message all) fs)))
    (firsts_of_apart [] all (λ k d below. refl) (apart_named input.name input.entries h))
    ∙ all_stay o all input.name input.entries (λ k d below.
    let e = get_or input.entries k d in
    let one = named input.name e in
    let Of : NamedEntry → Type 0 = λ x. x.entry ≡ e in
    subst (λ g. Stays o (definitions g) e) (sym (alone input.name input.name input.entries h k d below))
    (entry_stays use_first e one [] (All-cons Of one [] refl (All-nil Of))))

-- an entry twice

pub twice : (use_first : Bool) (input : Named) (name : List ℕ) → WithItself use_first input name
twice use_first input name h =
    let o = keep_all use_first in
    let n = input.name in
    let es = input.entries in
    let ones = map (named n) es in
    let others = map (named name) es in
    let all = ones ++ others in
    let known : All (λ x. list_any (same_message x) ones ≡ true) others =
    All-map (λ x. list_any (same_message x) ones ≡ true) (named name) es (each n name es) in
    let firsts : first_ones same_message all ≡ ones =
    fold-append (with_new same_message) [] ones others
    ∙ ap (λ (l : List NamedEntry). fold (with_new same_message) l others)
    (firsts_of_apart [] ones (λ k d below. refl) (apart_named n es h)) ∙ firsts_known ones others known in
    ap (λ (l : List NamedEntry).
    merged_messages o (map definitions
    (map (group_of same_message (ones ++ l)) (first_ones same_message (ones ++ l))))) (append-nil others)
    ∙ ap (λ (fs : List NamedEntry). merged_messages o (map definitions (map (group_of same_message all) fs))) firsts
    ∙ all_stay o all n es (λ k d below.
    let e = get_or es k d in
    let one = named n e in
    let other = named name e in
    let Of : NamedEntry → Type 0 = λ x. x.entry ≡ e in
    let group = filter-append (λ y. same_message y one) ones others
    ∙ ap₂ (λ (a b : List NamedEntry). a ++ b) (alone n n es h k d below) (alone n name es h k d below) in
    subst (λ g. Stays o (definitions g) e) (sym group)
    (entry_stays use_first e one (other ∷ [])
    (All-cons Of one (other ∷ []) refl (All-cons Of other [] refl (All-nil Of))))) where
      each : (n m : List ℕ) (es : List TextEntry)
          → All (λ e. list_any (same_message (named m e)) (map (named n) es) ≡ true) es
      each n m [] = All-nil (λ e. list_any (same_message (named m e)) [] ≡ true)
      each n m (x ∷ xs) =
          All-cons (λ e. list_any (same_message (named m e)) (map (named n) (x ∷ xs)) ≡ true) x xs
          (ap (λ (b : Bool). b || list_any (same_message (named m x)) (map (named n) xs))
          (same_message_laws.refl (named m x)))
          (λ k d below. ap (λ (b : Bool). same_message (named m (get_or xs k d)) (named n x) || b)
          (each n m xs k d below) ∙ or-true (same_message (named m (get_or xs k d)) (named n x)))

abbrev entries : List NamedEntry → List TextEntry
entries ds = map (λ d. d.entry) ds

others_in : (d : NamedEntry) (xs : List NamedEntry) → All (λ x. ¬ IsSameMessage d.entry x) (entries xs)
    → All (λ x. same_message d x ≡ false) xs
others_in d [] h = All-nil (λ x. same_message d x ≡ false)
others_in d (x ∷ xs) h =
    All-cons (λ y. same_message d y ≡ false) x xs
    (differs d x (All-head (λ y. ¬ IsSameMessage d.entry y) x.entry (entries xs) h))
    (others_in d xs (All-tail (λ y. ¬ IsSameMessage d.entry y) x.entry (entries xs) h))

others : (d : NamedEntry) (ds : List NamedEntry) → AllDiffer (entries (d ∷ ds))
    → All (λ x. same_message d x ≡ false) ds
others d ds h = others_in d ds (differ_head d.entry (entries ds) h)

apart : (ds : List NamedEntry) → AllDiffer (entries ds) → Apart same_message ds
apart [] h = tt
apart (d ∷ ds) h = (
  list_any_none (same_message d) ds (others d ds h),
  apart ds (differ_tail d.entry (entries ds) h),
)

-- each entry is the only one of its message
alone_among : (ds : List NamedEntry) → AllDiffer (entries ds) → All (λ d. group_of same_message ds d ≡ d ∷ []) ds
alone_among [] h = All-nil (λ d. group_of same_message [] d ≡ d ∷ [])
alone_among (d ∷ ds) h =
    All-cons (λ e. group_of same_message (d ∷ ds) e ≡ e ∷ []) d ds
    (ap₂ (λ (b : Bool) (l : List NamedEntry). cond b (d ∷ l) l) (same_message_laws.refl d)
    (none_pass (λ y. same_message y d) ds
    (λ k o below. same_message_laws.symm (get_or ds k o) d ∙ others d ds h k o below)))
    (λ k o below. ap (λ (b : Bool).
    cond b (d ∷ group_of same_message ds (get_or ds k o)) (group_of same_message ds (get_or ds k o)))
    (others d ds h k o below)
    ∙ alone_among ds (differ_tail d.entry (entries ds) h) k o below)

-- where each entry is kept and merged to itself, all are merged to themselves
all_distinct_stay : (o : MergeOptions) (all ds : List NamedEntry)
    → All (λ d. Stays o (definitions (group_of same_message all d)) d.entry) ds
    → merged_messages o (map definitions (map (group_of same_message all) ds)) ≡ entries ds
all_distinct_stay o all [] h = refl
all_distinct_stay o all (d ∷ ds) h =
    let P : NamedEntry → Type 0 = λ x. Stays o (definitions (group_of same_message all x)) x.entry in
    let here = All-head P d ds h in
    let group = definitions (group_of same_message all d) in
    let rest = filter (is_kept o) (map definitions (map (group_of same_message all) ds)) in
    ap (λ (b : Bool). map (merged_entry o) (cond b (group ∷ rest) rest)) here.kept
    ∙ ap₂ (λ (x : TextEntry) (xs : List TextEntry). x ∷ xs) here.same (all_distinct_stay o all ds (All-tail P d ds h))

pub distinct_inputs : (use_first : Bool) (inputs : List Named) → DistinctInputsStay use_first inputs
distinct_inputs use_first inputs h =
    let o = keep_all use_first in
    let all = all_entries inputs in
    ap (λ (fs : List NamedEntry). merged_messages o (map definitions (map (group_of same_message all) fs)))
    (firsts_of_apart [] all (λ k d below. refl) (apart all h))
    ∙ all_distinct_stay o all all (λ k d below.
    let one = get_or all k d in
    let Of : NamedEntry → Type 0 = λ x. x.entry ≡ one.entry in
    subst (λ g. Stays o (definitions g) one.entry) (sym (alone_among all h k d below))
    (entry_stays use_first one.entry one [] (All-cons Of one [] refl (All-nil Of))))
