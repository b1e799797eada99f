-- Two lists that go with one another element by element.
use Rattle.std.specs.Prelude.{◌≡◌, ℕ, ◌+◌, ◌<◌, List, [], ◌∷◌, ◌++◌, length, get_or, take, drop}
use Rattle.std.specs.List.{AllZip}
use Rattle.std.proofs.Common.{refl, sym, ap, subst, arith, zero, suc, add-one}

module _ {X Y : Type 0} (R : X → Y → Type 0) where
  -- one more of each
  pub zip_more : (xs : List X) (ys : List Y) (x : X) (y : Y) → AllZip R xs ys → R x y
      → AllZip R (xs ++ x ∷ []) (ys ++ y ∷ [])
  zip_more [] [] x y h one = (one, tt)
  zip_more [] (b ∷ ys) x y h one = absurd h
  zip_more (a ∷ xs) [] x y h one = absurd h
  zip_more (a ∷ xs) (b ∷ ys) x y h one = (h.0, zip_more xs ys x y h.1 one)

  pub zip_length : (xs : List X) (ys : List Y) → AllZip R xs ys → length xs ≡ length ys
  zip_length [] [] h = refl
  zip_length [] (y ∷ ys) h = absurd h
  zip_length (x ∷ xs) [] h = absurd h
  zip_length (x ∷ xs) (y ∷ ys) h = let same = zip_length xs ys h.1 in omega (arith, same)

  -- the element that goes with one
  pub zip_at : (xs : List X) (ys : List Y) (i : ℕ) (y : Y) → AllZip R xs ys → i < length ys → y ≡ get_or ys i y
      → (x : X) × R x y × (take (i + 1) xs ≡ take i xs ++ x ∷ []) × (drop i xs ≡ x ∷ drop (i + 1) xs)
  zip_at [] [] i y h inside here = absurd (omega (arith, inside))
  zip_at [] (b ∷ ys) i y h inside here = absurd h
  zip_at (a ∷ xs) [] i y h inside here = absurd h
  zip_at (a ∷ xs) (b ∷ ys) zero y h inside here = (a, subst (R a) (sym here) h.0, refl, refl)
  zip_at (a ∷ xs) (b ∷ ys) (suc i) y h inside here =
      let less : i < length ys = omega (arith, inside) in
      let later = zip_at xs ys i y h.1 less here in
      (later.0, later.1, rw add-one (rw add-one at (ap (λ l. a ∷ l) later.2)), rw add-one (rw add-one at later.3))

  pub zip_get : (xs : List X) (ys : List Y) (i : ℕ) (d : X) (e : Y) → AllZip R xs ys → i < length ys
      → R (get_or xs i d) (get_or ys i e)
  zip_get [] [] i d e h inside = absurd (omega (arith, inside))
  zip_get [] (y ∷ ys) i d e h inside = absurd h
  zip_get (x ∷ xs) [] i d e h inside = absurd h
  zip_get (x ∷ xs) (y ∷ ys) zero d e h inside = h.0
  zip_get (x ∷ xs) (y ∷ ys) (suc i) d e h inside =
      let less : i < length ys = omega (arith, inside) in zip_get xs ys i d e h.1 less

  -- what goes with the parts of a list
  pub zip_split : (xs : List X) (before : List Y) (y : Y) (after : List Y) → AllZip R xs (before ++ y ∷ after)
      → (front : List X) × (x : X) × (back : List X) × (xs ≡ front ++ x ∷ back) × AllZip R front before × R x y
  zip_split [] [] y after h = absurd h
  zip_split [] (b ∷ before) y after h = absurd h
  zip_split (x ∷ xs) [] y after h = ([], x, xs, refl, tt, h.0)
  zip_split (x ∷ xs) (b ∷ before) y after h =
      let more = zip_split xs before y after h.1 in
      (x ∷ more.0, more.1, more.2, ap (λ l. x ∷ l) more.3, (h.0, more.4), more.5)

  -- the first ones of each
  pub zip_take : (n : ℕ) (xs : List X) (ys : List Y) → AllZip R xs ys → AllZip R (take n xs) (take n ys)
  zip_take zero [] [] h = tt
  zip_take (suc n) [] [] h = tt
  zip_take n [] (y ∷ ys) h = absurd h
  zip_take n (x ∷ xs) [] h = absurd h
  zip_take zero (x ∷ xs) (y ∷ ys) h = tt
  zip_take (suc n) (x ∷ xs) (y ∷ ys) h = (h.0, zip_take n xs ys h.1)
