-- Comments, references and flags that are kept once: texts that were seen, and those that come out.
use Rattle.msgcat.proofs.Prelude.{All, All-head, All-nil, All-push, All-tail, Bool, HaveSameTexts, IsEquivalence, List, NamedEntry, [], and_equiv, any_map, ap, append-nil, append_assoc, ap₂, arith, bytes_eq-Decides, cases_Bool, cond, cond_both, false, false_from_ne_true, false≢true, filter, first_ones, fold, get_or, if◌then◌else◌, inl, inr, length, list_any, list_any-append, list_any_at, map, map-append, nat_list_eq_equiv, not, on_equiv, options_equiv, or-false, or-true, or_assoc, or_parts, position_or_len, refl, same_message, sym, true, with_new, with_others, with_seen, ℕ, ◌++◌, ◌+◌, ◌<◌, ◌||◌, ◌∙◌, ◌∷◌, ◌≡◌, ◌≤◌}
use Rattle.std.specs.Str.{bytes_eq}

-- no two elements are alike
abbrev pub Apart : {X : Type 0} → (X → X → Bool) → List X → Type 0
Apart alike [] = Unit {0}
Apart alike (x ∷ xs) = (list_any (alike x) xs ≡ false) × Apart alike xs

-- where no element passes, each one fails
pub none_all : {X : Type 0} (p : X → Bool) (xs : List X) → list_any p xs ≡ false → All (λ x. p x ≡ false) xs
none_all p xs none = λ k d inside.
    false_from_ne_true (p (get_or xs k d)) (λ e. false≢true (sym none ∙ list_any_at p xs k d inside e))

-- what holds of each element holds of the first ones
module _ {X : Type 0} (alike : X → X → Bool) (P : X → Type 0) where
  all_fold : (xs ys : List X) → All P xs → All P ys → All P (fold (with_new alike) xs ys)
  all_fold xs [] h g = h
  all_fold xs (y ∷ ys) h g =
      all_fold (with_new alike xs y) ys
      (cond_both (list_any (alike y) xs) xs (xs ++ y ∷ []) (All P) (λ _. h)
      (λ _. All-push P xs y h (All-head P y ys g))) (All-tail P y ys g)

  pub all_first_ones : (xs : List X) → All P xs → All P (first_ones alike xs)
  all_first_ones xs h = all_fold [] xs (All-nil P) h

-- the elements that are like this one
abbrev pub group_of : {X : Type 0} → (X → X → Bool) → List X → X → List X
group_of alike xs first = filter (λ x. alike x first) xs

module _ {X : Type 0} (alike : X → X → Bool) (laws : IsEquivalence alike) where
  apart_push : (xs : List X) (x : X) → Apart alike xs → list_any (alike x) xs ≡ false → Apart alike (xs ++ x ∷ [])
  apart_push [] x h new = (refl, tt)
  apart_push (y ∷ ys) x h new =
      let parts = or_parts (alike x y) (list_any (alike x) ys) new in (
        list_any-append (alike y) ys (x ∷ [])
            ∙ ap₂ (λ (s t : Bool). s || t) h.0 (or-false (alike y x) ∙ laws.symm y x ∙ parts.0),
        apart_push ys x h.1 parts.1,
      )

  apart_new : (xs : List X) (x : X) → Apart alike xs → Apart alike (with_new alike xs x)
  apart_new xs x h = cond_both (list_any (alike x) xs) xs (xs ++ x ∷ []) (Apart alike) (λ _. h) (apart_push xs x h)

  apart_fold : (xs ys : List X) → Apart alike xs → Apart alike (fold (with_new alike) xs ys)
  apart_fold xs [] h = h
  apart_fold xs (y ∷ ys) h = apart_fold (with_new alike xs y) ys (apart_new xs y h)

  pub apart_first_ones : (xs : List X) → Apart alike (first_ones alike xs)
  apart_first_ones xs = apart_fold [] xs tt

module _ {X Y : Type 0} (f : X → Y) (alike : Y → Y → Bool) where
  firsts_from : (fs xs : List X)
      → fold (with_new alike) (map f fs) (map f xs) ≡ map f (fold (with_new (λ a b. alike (f a) (f b))) fs xs)
  firsts_from fs [] = refl
  firsts_from fs (x ∷ xs) =
      ap (λ (l : List Y). fold (with_new alike) l (map f xs))
      (one (list_any (λ y. alike (f x) (f y)) fs) (any_map (alike (f x)) f fs))
      ∙ firsts_from (with_new (λ a b. alike (f a) (f b)) fs x) xs where
        one : (b : Bool) → list_any (alike (f x)) (map f fs) ≡ b
            → with_new alike (map f fs) (f x) ≡ map f (if b then fs else fs ++ x ∷ [])
        one true e = ap (λ (t : Bool). if t then map f fs else map f fs ++ f x ∷ []) e
        one false e = ap (λ (t : Bool). if t then map f fs else map f fs ++ f x ∷ []) e ∙ sym (map-append f fs (x ∷ []))

  -- the first ones of what elements are mapped to
  pub first_ones-map : (xs : List X) → first_ones alike (map f xs) ≡ map f (first_ones (λ a b. alike (f a) (f b)) xs)
  first_ones-map xs = firsts_from [] xs

  pub place-map : (y : Y) (xs : List X) → position_or_len (alike y) (map f xs) ≡ position_or_len (λ x. alike y (f x)) xs
  place-map y [] = refl
  place-map y (x ∷ xs) = ap (λ (n : ℕ). cond (not (alike y (f x))) (1 + n) 0) (place-map y xs)

pub same_message_laws : IsEquivalence same_message
same_message_laws = and_equiv (on_equiv (λ (e : NamedEntry). e.entry.context) (options_equiv nat_list_eq_equiv))
    (on_equiv (λ (e : NamedEntry). e.entry.id) nat_list_eq_equiv)

-- Texts that were seen, and those that come out.

-- what both have, the one has whatever is omitted of the other
pub has_others : (q : List ℕ) (done ts : List (List ℕ))
    → (list_any (bytes_eq q) done || list_any (bytes_eq q) (filter (λ t. not (list_any (bytes_eq t) done)) ts))
    ≡ (list_any (bytes_eq q) done || list_any (bytes_eq q) ts)
has_others q done [] = refl
has_others q done (t ∷ ts) =
    found (list_any (bytes_eq t) done) refl (bytes_eq q t) refl (list_any (bytes_eq q) done) refl
    (has_others q done ts) where
      found : (b : Bool) → list_any (bytes_eq t) done ≡ b → (c : Bool) → bytes_eq q t ≡ c → (a : Bool)
          → list_any (bytes_eq q) done ≡ a
          → (list_any (bytes_eq q) done || list_any (bytes_eq q) (filter (λ u. not (list_any (bytes_eq u) done)) ts))
          ≡ (list_any (bytes_eq q) done || list_any (bytes_eq q) ts)
          → (a || list_any (bytes_eq q)
          (cond (not b) (t ∷ filter (λ u. not (list_any (bytes_eq u) done)) ts)
          (filter (λ u. not (list_any (bytes_eq u) done)) ts))) ≡ (a || (c || list_any (bytes_eq q) ts))
      found b e c f true g more = refl
      found true e true f false g more = let same : q ≡ t = (bytes_eq-Decides q t).0 f in
          let here : list_any (bytes_eq q) done ≡ true = ap (λ (u : List ℕ). list_any (bytes_eq u) done) same ∙ e in cc
      found true e false f false g more = rw g at more
      found false e true f false g more =
          ap (λ (x : Bool). x || list_any (bytes_eq q) (filter (λ u. not (list_any (bytes_eq u) done)) ts)) f
      found false e false f false g more =
          ap (λ (x : Bool). x || list_any (bytes_eq q) (filter (λ u. not (list_any (bytes_eq u) done)) ts)) f
          ∙ rw g at more

same_texts_met : (seen done ts : List (List ℕ)) → HaveSameTexts seen (done ++ ts)
    → HaveSameTexts seen (with_others done ts)
same_texts_met seen done ts h q =
    h q ∙ list_any-append (bytes_eq q) done ts ∙ sym (has_others q done ts)
    ∙ sym (list_any-append (bytes_eq q) done (filter (λ t. not (list_any (bytes_eq t) done)) ts))

-- a text that was seen, and one more
one_more_seen : (q text : List ℕ) (seen : List (List ℕ))
    → list_any (bytes_eq q) (with_seen seen text) ≡ (list_any (bytes_eq q) seen || bytes_eq q text)
one_more_seen q text seen = found (list_any (bytes_eq text) seen) refl (bytes_eq q text) refl where
  found : (b : Bool) → list_any (bytes_eq text) seen ≡ b → (c : Bool) → bytes_eq q text ≡ c
      → list_any (bytes_eq q) (cond b seen (seen ++ text ∷ [])) ≡ (list_any (bytes_eq q) seen || c)
  found true h true g =
      let same : q ≡ text = (bytes_eq-Decides q text).0 g in
      let here : list_any (bytes_eq q) seen ≡ true = ap (λ (u : List ℕ). list_any (bytes_eq u) seen) same ∙ h in
      here ∙ sym (or-true (list_any (bytes_eq q) seen))
  found true h false g = sym (or-false (list_any (bytes_eq q) seen))
  found false h c g = list_any-append (bytes_eq q) seen (text ∷ [])
      ∙ ap (λ (b : Bool). list_any (bytes_eq q) seen || b) (or-false (bytes_eq q text) ∙ g)

-- a text that was seen early has an early index
module _ (p : List ℕ → Bool) (more : List (List ℕ)) where
  early_index : (seen : List (List ℕ)) → list_any p seen ≡ true → position_or_len p (seen ++ more) < length seen
  early_index [] h = cc
  early_index (x ∷ xs) h = by (p x) (early_index xs) h where
    by : (b : Bool) → (list_any p xs ≡ true → position_or_len p (xs ++ more) < length xs)
        → (b || list_any p xs) ≡ true → cond (not b) (1 + position_or_len p (xs ++ more)) 0 < length (x ∷ xs)
    by true rest e = omega arith
    by false rest e = let less = rest e in omega (arith, less)

  late_index : (seen : List (List ℕ)) → list_any p seen ≡ false → length seen ≤ position_or_len p (seen ++ more)
  late_index [] h = omega arith
  late_index (x ∷ xs) h = by (p x) (late_index xs) h where
    by : (b : Bool) → (list_any p xs ≡ false → length xs ≤ position_or_len p (xs ++ more))
        → (b || list_any p xs) ≡ false → length (x ∷ xs) ≤ cond (not b) (1 + position_or_len p (xs ++ more)) 0
    by true rest e = cc
    by false rest e = let least = rest e in omega (arith, least)

-- the texts that were seen, as some more are added
abbrev SeesMore : List (List ℕ) → List (List ℕ) → Type 0
SeesMore old new = (more : List (List ℕ)) × (new ≡ old ++ more)

sees_one_more : (old new : List (List ℕ)) (text : List ℕ) → SeesMore old new → SeesMore old (with_seen new text)
sees_one_more old new text (more, is) = by (list_any (bytes_eq text) new) where
  by : (b : Bool) → SeesMore old (cond b new (new ++ text ∷ []))
  by true = (more, is)
  by false = (more ++ text ∷ [], ap (λ ts. ts ++ text ∷ []) is ∙ append_assoc old more (text ∷ []))

-- whether the text of an index was among the first
seen_early : (old new : List (List ℕ)) (text : List ℕ) (index : ℕ) → SeesMore old new
    → index ≡ position_or_len (bytes_eq text) new → index < length old → list_any (bytes_eq text) old ≡ true
seen_early old new text index (more, is) at early = elim (cases_Bool (list_any (bytes_eq text) old)) [
  | inl e ↦ e
  | inr e ↦
      let late = late_index (bytes_eq text) more old e in
      let same = at ∙ ap (position_or_len (bytes_eq text)) is in
      absurd (omega (arith, late, same, early))
]

seen_late : (old new : List (List ℕ)) (text : List ℕ) (index : ℕ) → SeesMore old new
    → index ≡ position_or_len (bytes_eq text) new → length old ≤ index → list_any (bytes_eq text) old ≡ false
seen_late old new text index (more, is) at late = elim (cases_Bool (list_any (bytes_eq text) old)) [
  | inl e ↦
      let early = early_index (bytes_eq text) more old e in
      let same = at ∙ ap (position_or_len (bytes_eq text)) is in
      absurd (omega (arith, early, same, late))
  | inr e ↦ e
]

-- of the texts of one more definition those up to the ones that are left were taken: `done` are those that come out,
-- and `seen` those that were seen
pub record AreTaken (first_done first_seen others done seen left : List (List ℕ)) : Type 0 where
  pub out : done ++ filter (λ t. not (list_any (bytes_eq t) first_done)) left ≡ with_others first_done others
  pub more : (more : List (List ℕ)) × (seen ≡ first_seen ++ more)
  pub same : (q : List ℕ) → (list_any (bytes_eq q) seen || list_any (bytes_eq q) left)
      ≡ list_any (bytes_eq q) (first_done ++ others)

pub none_taken : (done seen others left : List (List ℕ)) → HaveSameTexts seen done → left ≡ others
    → AreTaken done seen others done seen left
none_taken done seen others left h all = record {
  out = ap (λ ts. done ++ filter (λ t. not (list_any (bytes_eq t) done)) ts) all;
  more = ([], sym (append-nil seen));
  same = λ q. ap₂ (λ (a b : Bool). a || b) (h q) (ap (list_any (bytes_eq q)) all)
      ∙ sym (list_any-append (bytes_eq q) done others);
}

pub all_taken : (first_done first_seen others done seen left : List (List ℕ))
    → AreTaken first_done first_seen others done seen left → left ≡ []
    → (done ≡ with_others first_done others) × HaveSameTexts seen done
all_taken first_done first_seen others done seen left h none =
    let out : done ≡ with_others first_done others = sym (append-nil done)
    ∙ ap (λ ts. done ++ filter (λ t. not (list_any (bytes_eq t) first_done)) ts) (sym none) ∙ h.out in (
      out,
      λ q. same_texts_met seen first_done others
          (λ u. sym (or-false (list_any (bytes_eq u) seen))
          ∙ ap (λ ts. list_any (bytes_eq u) seen || list_any (bytes_eq u) ts) (sym none) ∙ h.same u) q
          ∙ ap (list_any (bytes_eq q)) (sym out),
    )

module _ (first_done first_seen others done seen left rest : List (List ℕ)) (text : List ℕ) (index : ℕ)
    (before : HaveSameTexts first_seen first_done) (h : AreTaken first_done first_seen others done seen left)
    (next : left ≡ text ∷ rest) (at : index ≡ position_or_len (bytes_eq text) seen) where
  abbrev is_new : List ℕ → Bool
  is_new t = not (list_any (bytes_eq t) first_done)

  same_left : (q : List ℕ) → (list_any (bytes_eq q) (with_seen seen text) || list_any (bytes_eq q) rest)
      ≡ list_any (bytes_eq q) (first_done ++ others)
  same_left q =
      ap (λ (b : Bool). b || list_any (bytes_eq q) rest) (one_more_seen q text seen)
      ∙ or_assoc (list_any (bytes_eq q) seen) (bytes_eq q text) (list_any (bytes_eq q) rest)
      ∙ ap (λ ts. list_any (bytes_eq q) seen || list_any (bytes_eq q) ts) (sym next) ∙ h.same q

  out_of : (kept : Bool) → is_new text ≡ kept
      → done ++ cond kept (text ∷ filter is_new rest) (filter is_new rest) ≡ with_others first_done others
  out_of kept is =
      ap (λ (b : Bool). done ++ cond b (text ∷ filter is_new rest) (filter is_new rest)) (sym is)
      ∙ ap (λ ts. done ++ filter is_new ts) (sym next) ∙ h.out

  pub new_taken : length first_seen ≤ index
      → AreTaken first_done first_seen others (done ++ text ∷ []) (with_seen seen text) rest
  new_taken late =
      let fresh = sym (before text) ∙ seen_late first_seen seen text index h.more at late in
      record {
        out = append_assoc done (text ∷ []) (filter is_new rest) ∙ out_of true (ap not fresh);
        more = sees_one_more first_seen seen text h.more;
        same = same_left;
      }

  pub old_passed : index < length first_seen
      → AreTaken first_done first_seen others done (with_seen seen text) rest
  old_passed early =
      let known = sym (before text) ∙ seen_early first_seen seen text index h.more at early in
      record {
        out = out_of false (ap not known);
        more = sees_one_more first_seen seen text h.more;
        same = same_left;
      }
