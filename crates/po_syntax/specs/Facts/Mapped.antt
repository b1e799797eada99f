-- Tests of what a function makes of the elements of a list.
use Rattle.std.specs.Prelude.{◌≡◌, Bool, true, false, ◌&&◌, ◌||◌, List, [], ◌∷◌, Option, Some, filter, find, map, option_map}
use Rattle.std.specs.List.{list_any}
use Rattle.std.proofs.Common.{cond, refl, ap, ◌∙◌}

pub cond_ap : {X Y : Type 0} (f : X → Y) (b : Bool) (x y : X) → cond b (f x) (f y) ≡ f (cond b x y)
cond_ap f true x y = refl
cond_ap f false x y = refl

module _ {X Y : Type 0} (p : Y → Bool) (f : X → Y) where
  pub any_map : (xs : List X) → list_any p (map f xs) ≡ list_any (λ x. p (f x)) xs
  any_map [] = refl
  any_map (x ∷ xs) = ap (λ (b : Bool). p (f x) || b) (any_map xs)

  pub filter_map : (xs : List X) → filter p (map f xs) ≡ map f (filter (λ x. p (f x)) xs)
  filter_map [] = refl
  filter_map (x ∷ xs) =
      let passing = filter (λ y. p (f y)) xs in ap (λ (l : List Y). cond (p (f x)) (f x ∷ l) l) (filter_map xs)
      ∙ cond_ap (map f) (p (f x)) (x ∷ passing) passing

  pub find_map : (xs : List X) → find p (map f xs) ≡ option_map f (find (λ x. p (f x)) xs)
  find_map [] = refl
  find_map (x ∷ xs) = ap (λ (o : Option Y). cond (p (f x)) (Some (f x)) o) (find_map xs)
      ∙ cond_ap (option_map f) (p (f x)) (Some x) (find (λ y. p (f y)) xs)

-- what passes two tests
pub filter_twice : {X : Type 0} (p q : X → Bool) (xs : List X) → filter q (filter p xs) ≡ filter (λ x. p x && q x) xs
filter_twice p q [] = refl
filter_twice {X = X} p q (x ∷ xs) = step (p x) (q x) refl (filter_twice p q xs) where
  step : (a b : Bool) → q x ≡ b → filter q (filter p xs) ≡ filter (λ y. p y && q y) xs
      → filter q (cond a (x ∷ filter p xs) (filter p xs)) ≡ cond (a && b) (x ∷ filter (λ y. p y && q y) xs)
      (filter (λ y. p y && q y) xs)
  step false b is more = more
  step true true is more =
      ap (λ (c : Bool). cond c (x ∷ filter q (filter p xs)) (filter q (filter p xs))) is
      ∙ ap (λ (l : List X). x ∷ l) more
  step true false is more = ap (λ (c : Bool). cond c (x ∷ filter q (filter p xs)) (filter q (filter p xs))) is ∙ more
