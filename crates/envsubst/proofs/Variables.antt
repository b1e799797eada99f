-- The variables that references name, and their values, sorted and found.
use Rattle.envsubst.proofs.Prelude.{All, All-cons, All-from_get_or, All-head, All-nil, All-tail, Any-from_list_any, AreNamesSorted, AreVariablesSorted, Bool, Bor, Contains, HasValue, IsAllAdjacentAnswer, IsPermutation, IsReplaced, List, None, Option, Some, [], ap, append-nil, append_assoc, ap₂, arith, byte-here, byte-later, byte-next, bytes_eq, cases_Bool, cases_lt, cond, cond-false, cond-true, cond_both, cons_option, drop, drop_all, drop_more, drop_of_length-le, eqb, false, false_from_ne_true, filter, flat_map, get_or, inl, inr, is_byte, is_eq, is_ge, is_lt, is_replaced, length, list_any, list_any-IsPermutation, list_any-from_Any, list_any_at, list_any_none, map, name_cmp, names_given, names_in, nat_list_cmp_total, none-some, not, not_from_Decides, option_map, ordering_index, ordering_reverse, pairs_in, position_or_len, reference_after, refl, searchable_from_sorted, set, subst, suc, sym, true, unset, value_of, values_of, zero, ℕ, ◌&&◌, ◌++◌, ◌+◌, ◌<◌, ◌||◌, ◌↔◌, ◌∙◌, ◌∷◌, ◌≡◌, ◌≢◌, ◌≤◌}
use Rattle.std.proofs.Math.Path.{fun_ext}
use Rattle.std.specs.Global.{Vec}
use Rattle.std.specs.List.Sorted.{IsBinarySearchResult, IsPartitionPoint, IsPartitionedBy, IsSearchInRange, IsStableBy, ties}
use Rattle.std.specs.Result.{is_ok}
use Rattle.std.specs.declared.result.Result.{Result}
use Rattle.std.specs.declared.result.Result.TheVariants.{Err, Ok}
use Rattle.std.specs.declared.cmp.Ordering.{Ordering}
use Rattle.std.specs.declared.cmp.Ordering.TheVariants.{Equal, Greater, Less}
use Rattle.std.proofs.lemmas.Map.Text.{is_eq-slice_cmp}
use Rattle.std.proofs.lemmas.Slice.Eq.{bytes_eq-Decides}

-- no name begins before the first `$`
names-prefix : (bs : List ℕ) → names_in bs ≡ names_in (drop (position_or_len (is_byte 36) bs) bs)
unfolding names_in
names-prefix [] = refl
names-prefix (b ∷ bs) = elim (cases_Bool (eqb b 36)) [
  | inl e ↦ sym (ap (λ n. names_in (drop n (b ∷ bs))) (byte-here 36 b bs e))
  | inr e ↦ ap (λ o. cons_option o (names_in bs))
      (cond-false (eqb b 36) (option_map (λ r. r.name) (reference_after bs)) None e)
      ∙ names-prefix bs ∙ sym (ap (λ n. names_in (drop n (b ∷ bs))) (byte-later 36 b bs e))
]

-- the names from the first `$` on
pub names-next : (bs : List ℕ) (n : ℕ) → n ≡ position_or_len (is_byte 36) bs → n < length bs
    → names_in bs ≡ cons_option (option_map (λ r. r.name) (reference_after (drop (n + 1) bs)))
    (names_in (drop (n + 1) bs))
unfolding names_in
names-next bs n index l =
    names-prefix bs ∙ ap names_in (byte-next 36 bs (omega (arith, index)))
    ∙ ap (λ n. cons_option (option_map (λ r. r.name) (reference_after (drop (n + 1) bs))) (names_in (drop (n + 1) bs)))
    (sym index)

-- and no name where there is none
pub names-none : (bs : List ℕ) (n : ℕ) → n ≡ position_or_len (is_byte 36) bs → length bs ≤ n → names_in bs ≡ []
unfolding names_in
names-none bs n index l = names-prefix bs ∙ ap names_in (drop_all _ bs (omega (arith, index)))

abbrev pub lines_of : List (Bor (List ℕ)) → List ℕ
lines_of names = flat_map (λ name. name ++ 10 ∷ []) (map (λ name. name.now) names)

-- one more name
pub lines-next : (names : List (Bor (List ℕ))) (i : ℕ) (d : Bor (List ℕ)) (lines after all : List ℕ) → i < length names
    → after ≡ (lines ++ (get_or names i d).now) ++ 10 ∷ [] → lines ++ lines_of (drop i names) ≡ all
    → after ++ lines_of (drop (i + 1) names) ≡ all
lines-next names i d lines after all below is left =
    let name = (get_or names i d).now in
    let rest = lines_of (drop (i + 1) names) in
    ap (λ l. l ++ rest) (is ∙ append_assoc lines name (10 ∷ [])) ∙ append_assoc lines (name ++ 10 ∷ []) rest
    ∙ ap (λ l. lines ++ lines_of l) (sym (drop_more names i d below)) ∙ left

-- where no name is left, all have lines
pub lines-all : (names : List (Bor (List ℕ))) (i : ℕ) (lines all : List ℕ) → length names ≤ i
    → lines ++ lines_of (drop i names) ≡ all → lines ≡ all
lines-all names i lines all past left =
    sym (append-nil lines) ∙ ap (λ l. lines ++ lines_of l) (sym (drop_of_length-le names past)) ∙ left

-- the variable at an index, and those after it
pub value_of-next : (vars : List (Bor (List ℕ) × Bor (List ℕ))) (name : List ℕ) (i : ℕ)
    (d : Bor (List ℕ) × Bor (List ℕ)) → i < length vars
    → value_of (pairs_in (drop i vars)) name ≡ cond (bytes_eq (get_or vars i d).0.now name) (get_or vars i d).1.now
    (value_of (pairs_in (drop (i + 1) vars)) name)
unfolding value_of
value_of-next vars name i d l =
    ap (λ (vs : List (Bor (List ℕ) × Bor (List ℕ))). value_of (pairs_in vs) name) (drop_more vars i d l)

-- a test of what references point to
pub list_any-map : {X Y : Type 0} (f : X → Y) (p : Y → Bool) (xs : List X)
    → list_any p (map f xs) ≡ list_any (λ x. p (f x)) xs
list_any-map f p [] = refl
list_any-map f p (x ∷ xs) = ap (λ b. p (f x) || b) (list_any-map f p xs)

-- Variables and names that are sorted: the same values, found by binary search.

abbrev pub Name : Type 0
Name = Bor (List ℕ)

abbrev pub Variable : Type 0
Variable = Name × Name

-- how neighbours stand, by the test that a check of the order makes
ge-not_lt : (o : Ordering) → true ≡ is_ge o → is_lt o ≡ false
ge-not_lt Less e = cc
ge-not_lt Equal e = refl
ge-not_lt Greater e = refl

lt-not_eq : (o : Ordering) → is_lt o ≡ true → is_eq o ≡ false
lt-not_eq Less e = refl
lt-not_eq Equal e = cc
lt-not_eq Greater e = refl

-- what stands after an ordering that is neither less nor equal
after-not_eq : (a b : Ordering) → ordering_index a ≤ ordering_index b → is_lt a ≡ false → is_eq a ≡ false
    → is_eq b ≡ false
after-not_eq Less b le e f = absurd (cc)
after-not_eq Equal b le e f = absurd (cc)
after-not_eq Greater Less le e f = refl
after-not_eq Greater Equal le e f = absurd (omega arith)
after-not_eq Greater Greater le e f = refl

before-lt : (a b : Ordering) → ordering_index a ≤ ordering_index b → is_lt b ≡ true → is_lt a ≡ true
before-lt Less Less le e = refl
before-lt Equal Less le e = absurd (omega arith)
before-lt Greater Less le e = absurd (omega arith)
before-lt a Equal le e = absurd cc
before-lt a Greater le e = absurd cc

-- names that stand below another differ from it
below-differs : (known name : List ℕ) → is_lt (name_cmp known name) ≡ true → bytes_eq known name ≡ false
below-differs known name below = sym (is_eq-slice_cmp known name) ∙ lt-not_eq (name_cmp known name) below

abbrev pub below : List ℕ → Variable → Bool
below name variable = is_lt (name_cmp variable.0.now name)

rises : (vars : List Variable) (name : List ℕ) → AreVariablesSorted vars → (i j : ℕ) (d : Variable) → i ≤ j
    → j < length vars
    → ordering_index (name_cmp (get_or vars i d).0.now name) ≤ ordering_index (name_cmp (get_or vars j d).0.now name)
rises vars name sorted i j d le inside =
    searchable_from_sorted nat_list_cmp_total (λ (v : Variable). v.0.now) vars name sorted i j d le inside

pub partitioned : (vars : List Variable) (name : List ℕ) → AreVariablesSorted vars → IsPartitionedBy (below name) vars
partitioned vars name sorted i j d le inside e =
    before-lt (name_cmp (get_or vars i d).0.now name) (name_cmp (get_or vars j d).0.now name)
    (rises vars name sorted i j d le inside) e

-- variables of other names are passed
passes : (vars : List Variable) (name : List ℕ) (d : Variable) (n : ℕ) → n ≤ length vars
    → ((k : ℕ) → k < n → bytes_eq (get_or vars k d).0.now name ≡ false)
    → value_of (pairs_in vars) name ≡ value_of (pairs_in (drop n vars)) name
passes vars name d zero le others = refl
passes vars name d (suc n) le others =
    let so_far = passes vars name d n (omega arith) (λ k lt. others k (omega arith)) in
    let next : n + 1 ≡ suc n = omega arith in
    so_far ∙ value_of-next vars name n d (omega arith) ∙ cond-false _ _ _ (others n (omega arith))
    ∙ ap (λ m. value_of (pairs_in (drop m vars)) name) next

none-left : (vars : List Variable) (name : List ℕ) (d : Variable)
    → ((k : ℕ) → k < length vars → bytes_eq (get_or vars k d).0.now name ≡ false) → value_of (pairs_in vars) name ≡ []
unfolding value_of
none-left vars name d others =
    passes vars name d (length vars) (omega arith) others
    ∙ ap (λ vs. value_of (pairs_in vs) name) (drop_all (length vars) vars (omega arith))

abbrev pub IsPoint : List Variable → List ℕ → ℕ → Type 0
IsPoint vars name index = IsPartitionPoint (λ v. below name v ≡ true) (λ v. below name v ≡ false) vars index

-- the variable at the point where names are no longer below the one, where it has this name
pub value-found : (vars : List Variable) (name : List ℕ) (index : ℕ) (d : Variable) → IsPoint vars name index
    → index < length vars
    → bytes_eq (get_or vars index d).0.now name ≡ true → value_of (pairs_in vars) name ≡ (get_or vars index d).1.now
value-found vars name index d point inside same =
    passes vars name d index (omega arith)
    (λ k lt. below-differs (get_or vars k d).0.now name (point.0 k d (omega arith) lt))
    ∙ value_of-next vars name index d inside ∙ cond-true _ _ _ same

-- where it has another, no variable has this name
pub value-other : (vars : List Variable) (name : List ℕ) (index : ℕ) (d : Variable) → AreVariablesSorted vars
    → IsPoint vars name index → index < length vars
    → bytes_eq (get_or vars index d).0.now name ≡ false → value_of (pairs_in vars) name ≡ []
value-other vars name index d sorted point inside other =
    let here = name_cmp (get_or vars index d).0.now name in
    none-left vars name d
    (λ k lt. elim (cases_lt k index) [
      | inl before ↦ below-differs (get_or vars k d).0.now name (point.0 k d (omega arith) before)
      | inr after ↦
          sym (is_eq-slice_cmp (get_or vars k d).0.now name)
          ∙ after-not_eq here (name_cmp (get_or vars k d).0.now name) (rises vars name sorted index k d after lt)
          (point.1 index d (omega arith) inside) (is_eq-slice_cmp (get_or vars index d).0.now name ∙ other)
    ])

-- where all names are below the one, none has it
pub value-none : (vars : List Variable) (name : List ℕ) (index : ℕ) (d : Variable) → IsPoint vars name index
    → length vars ≤ index → value_of (pairs_in vars) name ≡ []
value-none vars name index d point end =
    none-left vars name d (λ k lt. below-differs (get_or vars k d).0.now name (point.0 k d (omega arith) (omega arith)))

-- a name is among sorted names where the search finds it
pub searched-name : (names : List Name) (name : List ℕ) (r : Result ℕ ℕ) → AreNamesSorted names
    → IsSearchInRange r (length names)
    → IsBinarySearchResult (λ y. name_cmp y.now name) names r → is_ok r ≡ list_any (λ n. bytes_eq n.now name) names
searched-name names name (Ok i) sorted bound found =
    let nothing : Name = record { ref_ptr = (0, 0); now = [] } in
    sym (list_any_at (λ (n : Name). bytes_eq n.now name) names i nothing bound
    (sym (is_eq-slice_cmp (get_or names i nothing).now name) ∙ ap is_eq (found nothing)))
searched-name names name (Err i) sorted bound found =
    let nothing : Name = record { ref_ptr = (0, 0); now = [] } in
    let point = found (searchable_from_sorted nat_list_cmp_total (λ (n : Name). n.now) names name sorted) in
    sym (list_any_none (λ (n : Name). bytes_eq n.now name) names
    (All-from_get_or (λ (n : Name). bytes_eq n.now name ≡ false) names nothing
    (λ k lt. sym (is_eq-slice_cmp (get_or names k nothing).now name) ∙ elim (cases_lt k i) [
      | inl before ↦ ap is_eq (point.0 k nothing (omega arith) before)
      | inr after ↦ ap is_eq (point.1 k nothing after lt)
    ])))

-- two names tie where they are one
tied : (o : Ordering) → (not (is_lt (ordering_reverse o)) && not (is_lt o)) ≡ is_eq o
tied Less = refl
tied Equal = refl
tied Greater = refl

abbrev named : List ℕ → Variable
named name = (record { ref_ptr = (0, 0); now = name }, record { ref_ptr = (0, 0); now = [] })

abbrev pub stands_below : Variable → Variable → Bool
stands_below a b = is_lt (name_cmp a.0.now b.0.now)

tied-name : (name : List ℕ) (v : Variable) → ties stands_below (named name) v ≡ bytes_eq v.0.now name
tied-name name v =
    ap (λ o. not (is_lt o) && not (is_lt (name_cmp v.0.now name))) (nat_list_cmp_total.antisymm name v.0.now)
    ∙ tied (name_cmp v.0.now name) ∙ is_eq-slice_cmp v.0.now name

-- the value is that among the variables of this name
among-ties : (vars : List Variable) (name : List ℕ)
    → value_of (pairs_in vars) name ≡ value_of (pairs_in (filter (ties stands_below (named name)) vars)) name
unfolding value_of
among-ties [] name = refl
among-ties (v ∷ vars) name =
    rw (tied-name name v)
    (cond_both (bytes_eq v.0.now name) (v ∷ filter (ties stands_below (named name)) vars)
    (filter (ties stands_below (named name)) vars)
    (λ list. value_of (pairs_in (v ∷ vars)) name ≡ value_of (pairs_in list) name)
    (λ e. rw e) (λ e. rw e (among-ties vars name)))

-- so a stable sort keeps all values
pub stable-values : (vars sorted : List Variable) → IsStableBy stands_below vars sorted → (name : List ℕ)
    → value_of (pairs_in sorted) name ≡ value_of (pairs_in vars) name
stable-values vars sorted stable name =
    among-ties sorted name ∙ ap (λ vs. value_of (pairs_in vs) name) (stable (named name)) ∙ sym (among-ties vars name)

-- and any sort the names
pub same-names : (names sorted : List Name) → IsPermutation names sorted → (name : List ℕ)
    → is_replaced (Some (map (λ n. n.now) sorted)) name ≡ is_replaced (Some (map (λ n. n.now) names)) name
unfolding is_replaced
same-names names sorted moved name =
    list_any-map (λ (n : Name). n.now) (λ n. bytes_eq n name) sorted
    ∙ sym (list_any-IsPermutation (λ (n : Name). bytes_eq n.now name) names sorted moved)
    ∙ sym (list_any-map (λ (n : Name). n.now) (λ n. bytes_eq n name) names)

-- the names that a list holds, where there is one, are those that a slice of it holds
pub given-names : (slice : Option (Bor (List Name))) (list : Option (Vec Name))
    → option_map (λ names. names.now) slice ≡ option_map (λ names. names.items) list
    → names_given slice ≡ option_map (λ names. map (λ n. n.now) names.items) list
given-names None None is = refl
given-names None (Some list) is = cc
given-names (Some slice) None is = cc
given-names (Some slice) (Some list) is = ap (option_map (map (λ (n : Name). n.now))) is

-- variables with the same values and names that replace the same make references the same
pub same-replacements : (vars sorted : List (List ℕ × List ℕ)) (only names : Option (List (List ℕ)))
    → ((name : List ℕ) → value_of sorted name ≡ value_of vars name)
    → ((name : List ℕ) → is_replaced names name ≡ is_replaced only name)
    → values_of sorted names ≡ values_of vars only
unfolding values_of
same-replacements vars sorted only names values replaced =
    fun_ext (λ name. ap₂ (λ b v. cond b (Some v) None) (replaced name) (values name))

-- what is answered of each two neighbours says that they are sorted
pub names-sorted : (names : List Name) (r : Bool) →
    IsAllAdjacentAnswer (λ a b answer. answer ≡ is_ge (name_cmp b.now a.now)) names r → r ≡ true → AreNamesSorted names
names-sorted names r answers is =
    let all = subst (IsAllAdjacentAnswer (λ a b answer. answer ≡ is_ge (name_cmp b.now a.now)) names) is answers in
    λ k d low inside. ge-not_lt _ (all k d inside)

pub variables-sorted : (vars : List Variable) (r : Bool) →
    IsAllAdjacentAnswer (λ a b answer. answer ≡ is_ge (name_cmp b.0.now a.0.now)) vars r → r ≡ true →
    AreVariablesSorted vars
variables-sorted vars r answers is =
    let all = subst (IsAllAdjacentAnswer (λ a b answer. answer ≡ is_ge (name_cmp b.0.now a.0.now)) vars) is answers in
    λ k d low inside. ge-not_lt _ (all k d inside)

-- What references to a name become is the value that the variables give it, if the name is
-- replaced.

abbrev NamedValue : Type 0
NamedValue = List ℕ × List ℕ

-- the value where the first variable is another
later : (name : List ℕ) (v : NamedValue) (vars : List NamedValue) (value : List ℕ) → v.0 ≢ name
    → HasValue name vars value
    → HasValue name (v ∷ vars) value
later name v vars value other (unset none) = unset (All-cons (λ (w : NamedValue). w.0 ≢ name) v vars other none)
later name v vars value other (set before after is none) =
    set (v ∷ before) after (ap (λ l. v ∷ l) is) (All-cons (λ (w : NamedValue). w.0 ≢ name) v before other none)

has_value : (name : List ℕ) (vars : List NamedValue) → HasValue name vars (value_of vars name)
unfolding value_of
has_value name [] = unset (All-nil (λ (w : NamedValue). w.0 ≢ name))
has_value name (v ∷ vars) =
    cond_both (bytes_eq v.0 name) v.1 (value_of vars name) (HasValue name (v ∷ vars))
    (λ e. set [] vars (ap (λ n. (n, v.1) ∷ vars) ((bytes_eq-Decides v.0 name).0 e))
    (All-nil (λ (w : NamedValue). w.0 ≢ name)))
    (λ e. later name v vars (value_of vars name) (not_from_Decides (bytes_eq v.0 name) (bytes_eq-Decides v.0 name) e)
    (has_value name vars))

passed : (name : List ℕ) (v : NamedValue) (vars : List NamedValue) → v.0 ≢ name
    → value_of (v ∷ vars) name ≡ value_of vars name
unfolding value_of
passed name v vars other =
    cond-false (bytes_eq v.0 name) v.1 (value_of vars name)
    (false_from_ne_true (bytes_eq v.0 name) (λ e. other ((bytes_eq-Decides v.0 name).0 e)))

found : (name value : List ℕ) (before after : List NamedValue) → All (λ v. v.0 ≢ name) before
    → value_of (before ++ (name, value) ∷ after) name ≡ value
unfolding value_of
found name value [] after none =
    cond-true (bytes_eq name name) value (value_of after name) ((bytes_eq-Decides name name).1 refl)
found name value (v ∷ before) after none =
    passed name v (before ++ (name, value) ∷ after) (All-head (λ (w : NamedValue). w.0 ≢ name) v before none)
    ∙ found name value before after (All-tail (λ (w : NamedValue). w.0 ≢ name) v before none)

not_found : (name : List ℕ) (vars : List NamedValue) → All (λ v. v.0 ≢ name) vars → value_of vars name ≡ []
unfolding value_of
not_found name [] none = refl
not_found name (v ∷ vars) none = passed name v vars (All-head (λ (w : NamedValue). w.0 ≢ name) v vars none)
    ∙ not_found name vars (All-tail (λ (w : NamedValue). w.0 ≢ name) v vars none)

is_value : {name value : List ℕ} {vars : List NamedValue} → HasValue name vars value → value_of vars name ≡ value
is_value {name} (unset {vars = vars} none) = not_found name vars none
is_value {name} (set {vars = vars} {value = value} before after is none) =
    ap (λ l. value_of l name) is ∙ found name value before after none

replaced_says : (only : Option (List (List ℕ))) (name : List ℕ) → is_replaced only name ≡ true → IsReplaced only name
unfolding is_replaced
replaced_says None name e = tt
replaced_says (Some names) name e =
    let any = Any-from_list_any (λ n. bytes_eq n name) names e in
    let same = (bytes_eq-Decides any.1 name).0 any.4 in subst (Contains names) same (any.0, any.2, any.3)

replaced_passes : (only : Option (List (List ℕ))) (name : List ℕ) → IsReplaced only name → is_replaced only name ≡ true
unfolding is_replaced
replaced_passes None name h = refl
replaced_passes (Some names) name h =
    list_any-from_Any (λ n. bytes_eq n name) names (h.0, name, h.1, h.2, (bytes_eq-Decides name name).1 refl)

value_says : (vars : List NamedValue) (only : Option (List (List ℕ))) (name value : List ℕ)
    → values_of vars only name ≡ Some value → IsReplaced only name × HasValue name vars value
unfolding values_of
value_says vars only name value =
    cond_both (is_replaced only name) (Some (value_of vars name)) None
    (λ v. v ≡ Some value → IsReplaced only name × HasValue name vars value)
    (λ t e. let same : value_of vars name ≡ value = cc in
    (replaced_says only name t, subst (HasValue name vars) same (has_value name vars)))
    (λ f e. absurd (none-some value e))

value_is : (vars : List NamedValue) (only : Option (List (List ℕ))) (name value : List ℕ) → IsReplaced only name
    → HasValue name vars value → values_of vars only name ≡ Some value
unfolding values_of
value_is vars only name value replaced has = rw (replaced_passes only name replaced, is_value has)

pub values_are : (vars : List NamedValue) (only : Option (List (List ℕ))) (name value : List ℕ)
    → (values_of vars only name ≡ Some value) ↔ (IsReplaced only name × HasValue name vars value)
values_are vars only name value = (λ e. value_says vars only name value e, λ h. value_is vars only name value h.0 h.1)
