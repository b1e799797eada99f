-- The parts of a locale's name, and the names that it is asked for by, each once.
use Rattle.gettext.proofs.Prelude.{All, All-cons, All-head, All-nil, All-tail, Any-from_list_any, Bool, Bor, Contains, Decides, Decides-by_and, Decides-not, FirstPlaces, HasFive, HaveFive, IsEmptyOrBegins, Lacks, List, Vec, [], ap, append-nil, append_assoc, ap₂, before, byte-here, byte-later, bytes_eq, bytes_eq-Decides, candidates_of_name, cases_Bool, cond, cond-false, cond-true, distinct, drop, eq-eqb, eqb, eqb-false, eqb-true, false, first, five, flat_map, fold, from_first, get_or, inl, inr, is_at, is_byte, length, list_any, list_any-append, list_any-from_Any, map, map-append, nat_cmp, ne_eqb, next_name, no_more, no_name, not, not-true, or-false, or-true, position_or_len, refl, repeated, slice_cmp, subst, suc, sym, take, take-append-drop, take_more, texts_ties, true, with_name, ℕ, ◌&&◌, ◌++◌, ◌+◌, ◌<◌, ◌||◌, ◌∙◌, ◌∷◌, ◌≡◌}
use Rattle.std.specs.BTreeSet.{BTreeSet, contains}
use Rattle.std.proofs.lemmas.Grind.{fold-append}
use Rattle.std.proofs.Math.Seq.{drop-append_seam, take-append_seam}

-- the tree has exactly these names
abbrev pub HasNames : BTreeSet (Bor (List ℕ)) → List (List ℕ) → Type 0
HasNames seen names =
    (q : Bor (List ℕ))
    → contains (λ x y. slice_cmp nat_cmp x.now y.now) seen q ≡ list_any (λ known. bytes_eq known q.now) names

cond_or : (a c : Bool) → cond a true c ≡ (c || a)
cond_or true c = sym (or-true c)
cond_or false c = sym (or-false c)

-- a name more
pub one_name_more : (old new : BTreeSet (Bor (List ℕ))) (k : Bor (List ℕ)) (names : List (List ℕ)) → HasNames old names
    → ((q : Bor (List ℕ)) → contains (λ x y. slice_cmp nat_cmp x.now y.now) new q
    ≡ cond (is_at (λ y. slice_cmp nat_cmp k.now y.now) q) true
    (contains (λ x y. slice_cmp nat_cmp x.now y.now) old q))
    → HasNames new (names ++ k.now ∷ [])
one_name_more old new k names h updated q =
    updated q ∙ cond_or (is_at (λ y. slice_cmp nat_cmp k.now y.now) q)
    (contains (λ x y. slice_cmp nat_cmp x.now y.now) old q)
    ∙ ap₂ (λ (s t : Bool). s || t) (h q) (sym (texts_ties k.now q.now) ∙ sym (or-false (bytes_eq k.now q.now)))
    ∙ sym (list_any-append (λ known. bytes_eq known q.now) names (k.now ∷ []))

-- the names up to the next one, each kept once
pub distinct_more : (names : List (Vec ℕ)) (i : ℕ) (x : Vec ℕ) (kept : List (List ℕ)) (b : Bool) → i < length names
    → x ≡ get_or names i x
    → kept ≡ distinct (map (λ v. v.items) (take i names)) → list_any (λ known. bytes_eq known x.items) kept ≡ b
    → cond b kept (kept ++ x.items ∷ []) ≡ distinct (map (λ v. v.items) (take (i + 1) names))
unfolding with_name
distinct_more names i x kept b below at is known =
    sym (ap distinct (ap (map (λ v. v.items))
    (take_more names i x below ∙ ap (λ (v : Vec ℕ). take i names ++ v ∷ []) (sym at))
    ∙ map-append (λ (v : Vec ℕ). v.items) (take i names) (x ∷ []))
    ∙ fold-append with_name [] (map (λ v. v.items) (take i names)) (x.items ∷ [])
    ∙ ap (λ l. with_name l x.items) (sym is) ∙ ap (λ t. cond t kept (kept ++ x.items ∷ [])) known)

-- Each name stands at its first place alone.

abbrev is_in : List (List ℕ) → List ℕ → Bool
is_in seen name = list_any (λ known. bytes_eq known name) seen

seen_before : (seen : List (List ℕ)) (name : List ℕ) → is_in seen name ≡ true → Contains seen name
seen_before seen name e =
    let any = Any-from_list_any (λ known. bytes_eq known name) seen e in
    let same = (bytes_eq-Decides any.1 name).0 any.4 in subst (Contains seen) same (any.0, any.2, any.3)

pub neither : (x y : Bool) → not (x || y) ≡ (not x && not y)
neither true y = refl
neither false y = refl

new_decides : (seen : List (List ℕ)) (name : List ℕ)
    → Decides (not (is_in seen name)) (All (λ known. known ≡ name → ⊥) seen)
new_decides seen name =
    Decides-by_and (λ known. not (bytes_eq known name)) (λ known. known ≡ name → ⊥) (λ s. not (is_in s name))
    (λ known. Decides-not (bytes_eq known name) (bytes_eq-Decides known name)) refl
    (λ known s. neither (bytes_eq known name) (is_in s name)) seen

-- a name that was seen, and a new one
same : (seen : List (List ℕ)) (name : List ℕ) → is_in seen name ≡ true → with_name seen name ≡ seen
unfolding with_name
same seen name e = cond-true (is_in seen name) seen (seen ++ name ∷ []) e

more : (seen : List (List ℕ)) (name : List ℕ) → is_in seen name ≡ false → with_name seen name ≡ seen ++ name ∷ []
unfolding with_name
more seen name e = cond-false (is_in seen name) seen (seen ++ name ∷ []) e

in_seen : (seen : List (List ℕ)) (name : List ℕ) → Contains seen name → is_in seen name ≡ true
in_seen seen name h = list_any-from_Any (λ known. bytes_eq known name) seen
    (h.0, name, h.1, h.2, (bytes_eq-Decides name name).1 refl)

-- after the names seen these are kept
record Kept (seen names : List (List ℕ)) : Type 0 where
  kept : List (List ℕ)
  places : FirstPlaces seen names kept
  is : fold with_name seen names ≡ seen ++ kept

kept_of : (seen names : List (List ℕ)) → Kept seen names
kept_of seen [] = record { kept = []; places = no_more; is = sym (append-nil seen) }
kept_of seen (name ∷ names) = elim (cases_Bool (is_in seen name)) [
  | inl e ↦ let rest = kept_of seen names in
      record {
        kept = rest.kept;
        places = repeated (seen_before seen name e) rest.places;
        is = ap (λ s. fold with_name s names) (same seen name e) ∙ rest.is;
      }
  | inr e ↦ let rest = kept_of (seen ++ name ∷ []) names in
      record {
        kept = name ∷ rest.kept;
        places = first ((new_decides seen name).0 (ap not e)) rest.places;
        is = ap (λ s. fold with_name s names) (more seen name e) ∙ rest.is ∙ append_assoc seen (name ∷ []) rest.kept;
      }
]

is_kept : {seen names kept : List (List ℕ)} → FirstPlaces seen names kept → fold with_name seen names ≡ seen ++ kept
is_kept (no_more {seen = seen}) = sym (append-nil seen)
is_kept (repeated {seen = seen} {names = names} {name = name} h places) =
    ap (λ s. fold with_name s names) (same seen name (in_seen seen name h)) ∙ is_kept places
is_kept (first {seen = seen} {names = names} {kept = kept} {name = name} none places) =
    ap (λ s. fold with_name s names) (more seen name (not-true (is_in seen name) ((new_decides seen name).1 none)))
    ∙ is_kept places ∙ append_assoc seen (name ∷ []) kept

pub places_of : (names : List (List ℕ)) → FirstPlaces [] names (distinct names)
places_of names = let kept = kept_of [] names in subst (FirstPlaces [] names) (sym kept.is) kept.places

pub are_places : (names kept : List (List ℕ)) → FirstPlaces [] names kept → distinct names ≡ kept
are_places names kept places = is_kept places

-- The parts of a locale's name, and the names that it is asked for by.

-- a text is cut at the first such byte
lacks : (a : ℕ) (text : List ℕ) → Lacks a (before a text)
unfolding before
lacks a [] = All-nil (λ b. b ≡ a → ⊥)
lacks a (b ∷ text) = elim (cases_Bool (eqb b a)) [
  | inl e ↦ rw (byte-here a b text e) (All-nil (λ b. b ≡ a → ⊥))
  | inr e ↦ rw (byte-later a b text e) (All-cons (λ b. b ≡ a → ⊥) b (before a text) (eqb-false b a e) (lacks a text))
]

begins : (a : ℕ) (text : List ℕ) → IsEmptyOrBegins a (from_first a text)
unfolding from_first
begins a [] = tt
begins a (b ∷ text) = elim (cases_Bool (eqb b a)) [
  | inl e ↦ rw (byte-here a b text e) (eqb-true b a e)
  | inr e ↦ rw (byte-later a b text e) (begins a text)
]

whole : (a : ℕ) (text : List ℕ) → before a text ++ from_first a text ≡ text
unfolding before from_first
whole a text = take-append-drop (position_or_len (is_byte a) text) text

-- where it is cut
at_seam : (a : ℕ) (p q : List ℕ) → Lacks a p → IsEmptyOrBegins a q → position_or_len (is_byte a) (p ++ q) ≡ length p
at_seam a [] [] none begins = refl
at_seam a [] (b ∷ q) none begins = byte-here a b q (eq-eqb b a begins)
at_seam a (b ∷ p) q none begins =
    byte-later a b (p ++ q) (ne_eqb b a (All-head (λ b. b ≡ a → ⊥) b p none))
    ∙ ap suc (at_seam a p q (All-tail (λ b. b ≡ a → ⊥) b p none) begins)

before_is : (a : ℕ) (text p q : List ℕ) → text ≡ p ++ q → Lacks a p → IsEmptyOrBegins a q → before a text ≡ p
unfolding before
before_is a text p q is none begins =
    ap (before a) is ∙ ap (λ n. take n (p ++ q)) (at_seam a p q none begins) ∙ take-append_seam p q

from_is : (a : ℕ) (text p q : List ℕ) → text ≡ p ++ q → Lacks a p → IsEmptyOrBegins a q → from_first a text ≡ q
unfolding from_first
from_is a text p q is none begins =
    ap (from_first a) is ∙ ap (λ n. drop n (p ++ q)) (at_seam a p q none begins) ∙ drop-append_seam p q

-- the five names of these parts
abbrev names_of : List ℕ → List ℕ → List ℕ → List ℕ → List (List ℕ)
names_of name base language variant = name ∷ (base ++ variant) ∷ (language ++ variant) ∷ base ∷ language ∷ []

pub has_five : (name : List ℕ) → HasFive name (candidates_of_name name)
unfolding candidates_of_name
has_five name =
    let uncut = before 64 name in
    let base = before 46 uncut in
    let language = before 95 base in
    let joined : language ++ from_first 95 base ≡ base = whole 95 base in
    let with_codeset : (language ++ from_first 95 base) ++ from_first 46 uncut ≡ uncut =
    ap (λ t. t ++ from_first 46 uncut) joined ∙ whole 46 uncut in
    subst (λ b. HasFive name (names_of name b language (from_first 64 name))) joined
    (five (record {
      name_is = sym (ap (λ t. t ++ from_first 64 name) with_codeset ∙ whole 64 name);
      country_first = begins 95 base;
      codeset_first = begins 46 uncut;
      variant_first = begins 64 name;
      in_language = lacks 95 base;
      in_country = subst (Lacks 46) (sym joined) (lacks 46 uncut);
      in_codeset = subst (Lacks 64) (sym with_codeset) (lacks 64 name);
    }))

pub is_five : (name : List ℕ) (names : List (List ℕ)) → HasFive name names → candidates_of_name name ≡ names
unfolding candidates_of_name
is_five name names (five {language = language} {country = country} {codeset = codeset} {variant = variant} p) =
    let base = language ++ country in
    let uncut : before 64 name ≡ base ++ codeset =
    before_is 64 name (base ++ codeset) variant p.name_is p.in_codeset p.variant_first in
    let cut : from_first 64 name ≡ variant =
    from_is 64 name (base ++ codeset) variant p.name_is p.in_codeset p.variant_first in
    let base_is : before 46 (before 64 name) ≡ base =
    before_is 46 (before 64 name) base codeset uncut p.in_country p.codeset_first in
    let language_is : before 95 (before 46 (before 64 name)) ≡ language =
    before_is 95 (before 46 (before 64 name)) language country base_is p.in_language p.country_first in
    ap (λ v. names_of name (before 46 (before 64 name)) (before 95 (before 46 (before 64 name))) v) cut
    ∙ ap (λ l. names_of name (before 46 (before 64 name)) l variant) language_is
    ∙ ap (λ b. names_of name b language variant) base_is

-- the names of several
pub have_five : (names : List (List ℕ)) → HaveFive names (flat_map candidates_of_name names)
have_five [] = no_name
have_five (name ∷ names) = next_name (has_five name) (have_five names)

pub are_five : {names all : List (List ℕ)} → HaveFive names all → flat_map candidates_of_name names ≡ all
are_five no_name = refl
are_five (next_name {name = name} {names = names} {five = found} {others = others} p rest) =
    ap (λ l. l ++ flat_map candidates_of_name names) (is_five name found p) ∙ ap (λ l. found ++ l) (are_five rest)
