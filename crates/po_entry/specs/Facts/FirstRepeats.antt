-- The first repeat of a list, by any relation: there is one or none, and it is the only one.
use Rattle.std.specs.Prelude.{◌≡◌, ◌⊎◌, ℕ, ◌<◌, List, [], ◌∷◌, ◌++◌, All, AllPairs, length, map, get_or}
use Rattle.std.proofs.Common.{refl, sym, ap, ◌∙◌, subst, inl, inr, arith, append_assoc, append-nil, length-append}
use Rattle.std.proofs.Math.Seq.{get_or-append_seam}
use Rattle.std.proofs.Math.ListN.{get_or-append}
use Rattle.std.proofs.lemmas.Bool.{cases_order}
use Rattle.std.proofs.lemmas.List.{get_or-map, length-map, map-append}
use Rattle.std.proofs.lemmas.List.Elements.{All-nil, All-cons}
use Rattle.std.proofs.lemmas.List.Quantifiers.{all_pairs_push}
use Rattle.po_entry.specs.Duplicate.{IsFirstRepeat}

-- a relation of what a function makes of elements
module _ {X Y : Type 0} (R : Y → Y → Type 0) (f : X → Y) where
  pub pairs_of_map : (xs : List X) → AllPairs R (map f xs) → AllPairs (λ a b. R (f a) (f b)) xs
  pairs_of_map xs h i j d below inside =
      subst (R (f (get_or xs i d))) (get_or-map f xs j d (f d) inside)
      (subst (λ y. R y (get_or (map f xs) j (f d))) (get_or-map f xs i d (f d) (omega (arith, below, inside)))
      (h i j (f d) below (omega (arith, inside, length-map xs f))))

  pub pairs_map : (xs : List X) → AllPairs (λ a b. R (f a) (f b)) xs → AllPairs R (map f xs)
  pairs_map [] h i j d below inside = absurd (omega (arith, inside))
  pairs_map (x ∷ xs) h i j d below inside =
      let long : j < length (x ∷ xs) = omega (arith, inside, length-map xs f) in
      subst (R (get_or (map f (x ∷ xs)) i d)) (sym (get_or-map f (x ∷ xs) j x d long))
      (subst (λ y. R y (f (get_or (x ∷ xs) j x))) (sym (get_or-map f (x ∷ xs) i x d (omega (arith, below, long))))
      (h i j x below long))

-- the repeat in a list of what a function makes of elements
pub repeat_map : {X Y : Type 0} (Alike : Y → Y → Type 0) (f : X → Y) (xs : List X) (a b : X)
    → IsFirstRepeat (λ x y. Alike (f x) (f y)) xs a b → IsFirstRepeat Alike (map f xs) (f a) (f b)
repeat_map {X = X} Alike f xs a b h =
    let front : map f (h.before ++ a ∷ h.between) ≡ map f h.before ++ f a ∷ map f h.between =
    map-append f h.before (a ∷ h.between) in
    record {
      before = map f h.before;
      between = map f h.between;
      after = map f h.after;
      order = ap (map f) h.order ∙ map-append f (h.before ++ a ∷ h.between) (b ∷ h.after)
          ∙ ap (λ l. l ++ f b ∷ map f h.after) front;
      same = h.same;
      differ = subst (AllPairs (λ x y. ¬ Alike x y)) front
          (pairs_map (λ x y. ¬ Alike x y) f (h.before ++ a ∷ h.between) h.differ);
    }

-- the repeat by a relation that says the same of these two, and no less of any
pub repeat_by : {X : Type 0} (R S : X → X → Type 0) (xs : List X) (a b : X) → (R a b → S a b)
    → ((x y : X) → S x y → R x y)
    → IsFirstRepeat R xs a b → IsFirstRepeat S xs a b
repeat_by R S xs a b to from h = record {
  before = h.before;
  between = h.between;
  after = h.after;
  order = h.order;
  same = to h.same;
  differ = λ i j d below inside alike. h.differ i j d below inside (from _ _ alike);
}

module _ {X : Type 0} (Alike : X → X → Type 0) where
  -- the two elements by their indexes
  pub record StandAt (xs : List X) (first later : X) : Type 0 where
    pub at : ℕ
    pub place : ℕ
    pub earlier : at < place
    pub within : place < length xs
    pub first_is : (d : X) → get_or xs at d ≡ first
    pub later_is : (d : X) → get_or xs place d ≡ later
    pub differ : (i j : ℕ) (d : X) → i < j → j < place → ¬ Alike (get_or xs i d) (get_or xs j d)

  pub stand_at : (xs : List X) (a b : X) → IsFirstRepeat Alike xs a b → StandAt xs a b
  stand_at xs a b h =
      let front = h.before ++ a ∷ h.between in
      let long : length h.before < length front = omega (arith, length-append h.before (a ∷ h.between)) in
      let in_front : (k : ℕ) (d : X) → k < length front → get_or xs k d ≡ get_or front k d =
      λ k d inside. ap (λ l. get_or l k d) h.order ∙ get_or-append front (b ∷ h.after) d k inside in
      record {
        at = length h.before;
        place = length front;
        earlier = long;
        within = omega (arith, ap length h.order, length-append front (b ∷ h.after));
        first_is = λ d. in_front (length h.before) d long ∙ get_or-append_seam h.before a h.between d;
        later_is = λ d. ap (λ l. get_or l (length front) d) h.order ∙ get_or-append_seam front b h.after d;
        differ = λ i j d below inside alike.
            h.differ i j d below inside
            (subst (Alike (get_or front i d)) (in_front j d inside)
            (subst (λ x. Alike x (get_or xs j d)) (in_front i d (omega (arith, below, inside))) alike));
      }

  pub none_repeats : (xs : List X) (a b : X) → AllPairs (λ x y. ¬ Alike x y) xs → IsFirstRepeat Alike xs a b → ⊥
  none_repeats xs a b differ h =
      let s = stand_at xs a b h in
      differ s.at s.place a s.earlier s.within
      (subst (λ x. Alike x (get_or xs s.place a)) (sym (s.first_is a))
      (subst (Alike a) (sym (s.later_is a)) h.same))

  pub all_of_both : (P : X → Type 0) (xs : List X) (a b : X) → All P xs → IsFirstRepeat Alike xs a b → P a × P b
  all_of_both P xs a b all h =
      let s = stand_at xs a b h in (
        subst P (s.first_is a) (all s.at a (omega (arith, s.earlier, s.within))),
        subst P (s.later_is a) (all s.place a s.within),
      )

  -- one that is earlier in two places
  not_before : (xs : List X) (a b c d : X) → IsFirstRepeat Alike xs a b → (s : StandAt xs a b) → (t : StandAt xs c d)
      → s.place < t.place → ⊥
  not_before xs a b c d h s t less =
      t.differ s.at s.place a s.earlier less
      (subst (λ x. Alike x (get_or xs s.place a)) (sym (s.first_is a))
      (subst (Alike a) (sym (s.later_is a)) h.same))

  pub one_repeat : ((x y z : X) → Alike x z → Alike y z → Alike x y) → (xs : List X) (a b c d : X)
      → IsFirstRepeat Alike xs a b → IsFirstRepeat Alike xs c d → (a ≡ c) × (b ≡ d)
  one_repeat alike xs a b c d h k =
      let s = stand_at xs a b h in
      let t = stand_at xs c d k in
      elim (cases_order s.place t.place) [
        | inl here ↦
            let last : b ≡ d = sym (s.later_is a) ∙ ap (λ n. get_or xs n a) here ∙ t.later_is a in
            let ac : Alike a c = alike a c d (subst (Alike a) last h.same) k.same in
            let ca : Alike c a = alike c a b (subst (Alike c) (sym last) k.same) h.same in
            elim (cases_order s.at t.at) [
              | inl there ↦ (sym (s.first_is a) ∙ ap (λ n. get_or xs n a) there ∙ t.first_is a, last)
              | inr (inl less) ↦ absurd
                  (t.differ s.at t.at a less t.earlier
                  (subst (λ x. Alike x (get_or xs t.at a)) (sym (s.first_is a))
                  (subst (Alike a) (sym (t.first_is a)) ac)))
              | inr (inr more) ↦ absurd
                  (s.differ t.at s.at a more s.earlier
                  (subst (λ x. Alike x (get_or xs s.at a)) (sym (t.first_is a))
                  (subst (Alike c) (sym (s.first_is a)) ca)))
            ]
        | inr (inl less) ↦ absurd (not_before xs a b c d h s t less)
        | inr (inr more) ↦ absurd (not_before xs c d a b k t s more)
      ]

  -- where one is like the element
  record IsAmong (xs : List X) (x : X) : Type 0 where
    before : List X
    first : X
    after : List X
    split : xs ≡ before ++ first ∷ after
    same : Alike first x

  module _ (decide : (x y : X) → Alike x y ⊎ (Alike x y → ⊥)) where
    among_or_apart : (xs : List X) (x : X) → IsAmong xs x ⊎ All (λ y. ¬ Alike y x) xs
    among_or_apart [] x = inr (All-nil (λ y. ¬ Alike y x))
    among_or_apart (y ∷ xs) x = elim (decide y x) [
      | inl same ↦ inl (record { before = []; first = y; after = xs; split = refl; same = same })
      | inr other ↦ elim (among_or_apart xs x) [
        | inl found ↦ inl (record {
          before = y ∷ found.before;
          first = found.first;
          after = found.after;
          split = ap (λ l. y ∷ l) found.split;
          same = found.same;
        })
        | inr apart ↦ inr (All-cons (λ z. ¬ Alike z x) y xs other apart)
      ]
    ]

    search_on : (xs done rest : List X) → xs ≡ done ++ rest → AllPairs (λ x y. ¬ Alike x y) done
        → AllPairs (λ x y. ¬ Alike x y) xs ⊎ ((first later : X) × IsFirstRepeat Alike xs first later)
    search_on xs done [] whole differ =
        inl (subst (AllPairs (λ x y. ¬ Alike x y)) (sym (whole ∙ append-nil done)) differ)
    search_on xs done (x ∷ rest) whole differ = elim (among_or_apart done x) [
      | inl found ↦ inr (
        found.first,
        x,
        record {
          before = found.before;
          between = found.after;
          after = rest;
          order = whole ∙ ap (λ l. l ++ x ∷ rest) found.split;
          same = found.same;
          differ = subst (AllPairs (λ x y. ¬ Alike x y)) found.split differ;
        },
      )
      | inr apart ↦ search_on xs (done ++ x ∷ []) rest (whole ∙ sym (append_assoc done (x ∷ []) rest))
          (all_pairs_push (λ x y. ¬ Alike x y) done x differ apart)
    ]

    pub none_or_first_repeat : (xs : List X)
        → AllPairs (λ x y. ¬ Alike x y) xs ⊎ ((first later : X) × IsFirstRepeat Alike xs first later)
    none_or_first_repeat xs = search_on xs [] xs refl (λ i j d below inside. absurd (omega (arith, inside)))
