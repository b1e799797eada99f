-- What is kept of a mode, bit by bit.
use Rattle.runs.proofs.Prelude.{Bool, Class, Deed, GivesNobodyMore, IsWhose, KeepsRights, May, None, Option, Owner, Rights, Some, User, ap, ap₂, arith, bit_for, class_of, cond, cond-false, eq-eqb, eqb-true, false, its_group, its_owner, kept_bits, kept_mode, max, min, ne_eqb, others, reads, refl, runs, subst, sym, true, writes, ℕ, ◌%◌, ◌*◌, ◌+◌, ◌/◌, ◌<◌, ◌==◌, ◌^◌, ◌∙◌, ◌≡◌, ◌≢◌, ◌≤◌}
use Rattle.std.specs.Int.{bit_at}
use Rattle.std.specs.Int.RustNames.{bit_and, bit_or}
use Rattle.std.proofs.lemmas.Nat.{and_le_r, and_mask, or_lt, shr-shr}
use Rattle.std.proofs.lemmas.Nat.Bits.{bit_at-lt, bit_at_above, bit_at_and, bit_at_cat_high, bit_at_cat_low, bit_at_mask_below, bit_at_mask_inside, bit_at_or}

least_one : (a b : ℕ) → min a b ≡ 1 → a < 2 → b < 2 → (a ≡ 1) × (b ≡ 1)
least_one a b e x y = (omega arith, omega arith)

-- a bit of what two numbers share
shared : (a b i : ℕ) → bit_at (bit_and a b) i ≡ 1 → (bit_at a i ≡ 1) × (bit_at b i ≡ 1)
shared a b i e = least_one (bit_at a i) (bit_at b i) (sym (bit_at_and a b i) ∙ e) (bit_at-lt a i) (bit_at-lt b i)

share : (a b i : ℕ) → bit_at a i ≡ 1 → bit_at b i ≡ 1 → bit_at (bit_and a b) i ≡ 1
share a b i x y = bit_at_and a b i ∙ ap₂ min x y

masked : (a b i : ℕ) → bit_at b i ≡ 1 → bit_at (bit_and a b) i ≡ bit_at a i
masked a b i e =
    let below : bit_at a i < 2 = bit_at-lt a i in
    let it : min (bit_at a i) 1 ≡ bit_at a i = omega arith in
    bit_at_and a b i ∙ ap (λ x. min (bit_at a i) x) e ∙ it

cleared : (a b i : ℕ) → bit_at b i ≡ 0 → bit_at (bit_and a b) i ≡ 0
cleared a b i e =
    let it : min (bit_at a i) 0 ≡ 0 = omega arith in
    bit_at_and a b i ∙ ap (λ x. min (bit_at a i) x) e ∙ it

module _ (mode : ℕ) where
  both : ℕ
  both = bit_and (bit_and mode (mode / 2 ^ 3)) 0o5

  is_both : both ≡ bit_and (bit_and mode (mode / 2 ^ 3)) 0o5
  unfolding both
  is_both = refl

  both_below : both < 2 ^ 3
  both_below = let it : bit_and (bit_and mode (mode / 2 ^ 3)) 0o5 ≤ 0o5 = and_le_r _ 0o5 in omega (arith, it, is_both)

  shifted_bit : (i : ℕ) → bit_at (mode / 2 ^ 3) i ≡ bit_at mode (3 + i)
  shifted_bit i = ap (λ n. n % 2) (shr-shr mode 3 i)

  of_both : (i : ℕ) → bit_at both i ≡ 1 → (bit_at mode i ≡ 1) × (bit_at mode (3 + i) ≡ 1) × (bit_at 0o5 i ≡ 1)
  of_both i e =
      let outer = shared (bit_and mode (mode / 2 ^ 3)) 0o5 i (ap (λ n. bit_at n i) (sym is_both) ∙ e) in
      let inner = shared mode (mode / 2 ^ 3) i outer.0 in
      (inner.0, sym (shifted_bit i) ∙ inner.1, outer.1)

  in_both : (i : ℕ) → bit_at mode i ≡ 1 → bit_at mode (3 + i) ≡ 1 → bit_at 0o5 i ≡ 1 → bit_at both i ≡ 1
  in_both i x y z =
      ap (λ n. bit_at n i) is_both
      ∙ share (bit_and mode (mode / 2 ^ 3)) 0o5 i (share mode (mode / 2 ^ 3) i x (shifted_bit i ∙ y)) z

  moved_low : (i : ℕ) → i < 3 → bit_at (both * 2 ^ 3) i ≡ 0
  moved_low i low = ap (λ n. bit_at n i) (omega arith) ∙ bit_at_cat_low both 3 0 i low ∙ none where
    none : bit_at 0 i ≡ 0
    none = bit_at_above 0 0 i (omega arith) (omega arith)

  moved_mid : (i : ℕ) → bit_at (both * 2 ^ 3) (3 + i) ≡ bit_at both i
  moved_mid i =
      ap (λ n. bit_at n (3 + i)) (omega arith) ∙ bit_at_cat_high both 3 0 (3 + i) (omega arith) (omega arith)
      ∙ ap (bit_at both) (omega arith)

  owner_low : (i : ℕ) → i < 6 → bit_at (bit_and mode 0o700) i ≡ 0
  owner_low i low = cleared mode 0o700 i (bit_at_mask_below 6 9 i low)

  upper : (i : ℕ) → bit_at both (3 + i) ≡ 0
  upper i = bit_at_above both 3 (3 + i) both_below (omega arith)

  moved_high : (i : ℕ) → bit_at (both * 2 ^ 3) (6 + i) ≡ 0
  moved_high i = ap (bit_at (both * 2 ^ 3)) (omega arith) ∙ moved_mid (3 + i) ∙ upper i

  module _ (same_user : Bool) where
    is_kept : kept_bits mode same_user false ≡ bit_or (bit_or (bit_and mode 0o700) (both * 2 ^ 3)) both
    unfolding both
    is_kept = by_user same_user where
      by_user : (user : Bool) → kept_bits mode user false ≡ bit_or (bit_or (bit_and mode 0o700) (both * 2 ^ 3)) both
      by_user true = refl
      by_user false = refl

    bit_of : (i a b c : ℕ) → bit_at (bit_and mode 0o700) i ≡ a → bit_at (both * 2 ^ 3) i ≡ b → bit_at both i ≡ c
        → bit_at (kept_bits mode same_user false) i ≡ max (max a b) c
    bit_of i a b c x y z =
        ap (λ n. bit_at n i) is_kept ∙ bit_at_or (bit_or (bit_and mode 0o700) (both * 2 ^ 3)) both i
        ∙ ap₂ max (bit_at_or (bit_and mode 0o700) (both * 2 ^ 3) i ∙ ap₂ max x y) z

    other_low : (i : ℕ) → i < 3 → bit_at (kept_bits mode same_user false) i ≡ bit_at both i
    other_low i low =
        let it : max (max 0 0) (bit_at both i) ≡ bit_at both i = omega arith in
        bit_of i 0 0 (bit_at both i) (owner_low i (omega (arith, low))) (moved_low i low) refl ∙ it

    other_mid : (i : ℕ) → i < 3 → bit_at (kept_bits mode same_user false) (3 + i) ≡ bit_at both i
    other_mid i low =
        let it : max (max 0 (bit_at both i)) 0 ≡ bit_at both i = omega arith in
        bit_of (3 + i) 0 (bit_at both i) 0 (owner_low (3 + i) (omega (arith, low))) (moved_mid i) (upper i) ∙ it

    other_high : (i : ℕ) → i < 3 → bit_at (kept_bits mode same_user false) (6 + i) ≡ bit_at mode (6 + i)
    other_high i low =
        let it : max (max (bit_at mode (6 + i)) 0) 0 ≡ bit_at mode (6 + i) = omega arith in
        let above : bit_at both (6 + i) ≡ 0 = bit_at_above both 3 (6 + i) both_below (omega arith) in
        bit_of (6 + i) (bit_at mode (6 + i)) 0 0
        (masked mode 0o700 (6 + i) (bit_at_mask_inside 6 9 (6 + i) (omega arith) (omega (arith, low))))
        (moved_high i) above ∙ it

    other_below : kept_bits mode same_user false < 2 ^ 9
    other_below =
        let first : bit_and mode 0o700 < 2 ^ 9 = omega (arith, and_le_r mode 0o700) in
        let second : both * 2 ^ 3 < 2 ^ 9 = omega (arith, both_below) in
        let third : both < 2 ^ 9 = omega (arith, both_below) in
        subst (λ n. n < 2 ^ 9) (sym is_kept)
        (or_lt 9 (bit_or (bit_and mode 0o700) (both * 2 ^ 3)) both
        (or_lt 9 (bit_and mode 0o700) (both * 2 ^ 3) first second) third)

-- the bits of the classes
low : (deed : Deed) → bit_for others deed < 3
low reads = omega arith
low writes = omega arith
low runs = omega arith

mid : (deed : Deed) → bit_for its_group deed ≡ 3 + bit_for others deed
mid reads = refl
mid writes = refl
mid runs = refl

high : (deed : Deed) → bit_for its_owner deed ≡ 6 + bit_for others deed
high reads = refl
high writes = refl
high runs = refl

in_all : (class : Class) (deed : Deed) → bit_at 0o777 (bit_for class deed) ≡ 1
in_all its_owner reads = refl
in_all its_owner writes = refl
in_all its_owner runs = refl
in_all its_group reads = refl
in_all its_group writes = refl
in_all its_group runs = refl
in_all others reads = refl
in_all others writes = refl
in_all others runs = refl

in_most : (class : Class) (deed : Deed) → (class ≡ others → deed ≢ writes) → bit_at 0o775 (bit_for class deed) ≡ 1
in_most its_owner reads h = refl
in_most its_owner writes h = refl
in_most its_owner runs h = refl
in_most its_group reads h = refl
in_most its_group writes h = refl
in_most its_group runs h = refl
in_most others reads h = refl
in_most others writes h = absurd (h refl refl)
in_most others runs h = refl

in_five : (deed : Deed) → deed ≢ writes → bit_at 0o5 (bit_for others deed) ≡ 1
in_five reads h = refl
in_five writes h = absurd (h refl)
in_five runs h = refl

-- a user who isn't the owner is in the group, or is another
plain : (user : User) (owner : Owner) → user.number ≢ owner.user
    → class_of user owner ≡ cond (user.is_in owner.group) its_group others
plain user owner other = cond-false (user.number == owner.user) its_owner _ (ne_eqb user.number owner.user other)

of_class : (mode : ℕ) (member : Bool) (deed : Deed) → bit_at mode (bit_for its_group deed) ≡ 1
    → bit_at mode (bit_for others deed) ≡ 1
    → bit_at mode (bit_for (cond member its_group others) deed) ≡ 1
of_class mode true deed x y = x
of_class mode false deed x y = y

new_both : (mode : ℕ) (same_user member : Bool) (deed : Deed)
    → bit_at (kept_bits mode same_user false) (bit_for (cond member its_group others) deed) ≡ 1
    → (bit_at mode (bit_for others deed) ≡ 1) × (bit_at mode (3 + bit_for others deed) ≡ 1)
    × (bit_at 0o5 (bit_for others deed) ≡ 1)
new_both mode same_user true deed e =
    of_both mode (bit_for others deed)
    (sym (other_mid mode same_user (bit_for others deed) (low deed))
    ∙ ap (bit_at (kept_bits mode same_user false)) (sym (mid deed)) ∙ e)
new_both mode same_user false deed e =
    of_both mode (bit_for others deed) (sym (other_low mode same_user (bit_for others deed) (low deed)) ∙ e)

-- in the same group nobody gets what the old mode didn't give
users_of_group : (old : Rights) (mode : ℕ) (whose : Owner) → whose.group ≡ old.owner.group
    → ((i : ℕ) → bit_at mode i ≡ 1 → bit_at old.mode i ≡ 1)
    → (user : User) (deed : Deed) → user.number ≢ old.owner.user → user.number ≢ whose.user
    → May user (record { mode = mode; owner = whose }) deed → May user old deed
users_of_group old mode whose same kept user deed not_old not_new may =
    let class : class_of user whose ≡ class_of user old.owner =
    plain user whose not_new ∙ ap (λ g. cond (user.is_in g) its_group others) same
    ∙ sym (plain user old.owner not_old) in
    kept (bit_for (class_of user old.owner) deed) (subst (λ k. bit_at mode (bit_for k deed) ≡ 1) class may)

nobody : (old : Rights) (whose : Owner) (same_user same_group : Bool)
    → (same_user ≡ true → whose.user ≡ old.owner.user) → (same_group ≡ true → whose.group ≡ old.owner.group)
    → GivesNobodyMore old (record { mode = kept_bits old.mode same_user same_group; owner = whose })
nobody old whose true true user group = record {
  users = users_of_group old (bit_and old.mode 0o777) whose (group refl) (λ i e. (shared old.mode 0o777 i e).0);
  set_ids = omega (arith, and_le_r old.mode 0o777);
  others = λ other. absurd
      (other (ap₂ (λ (u g : ℕ). let o : Owner = record { user = u; group = g } in o) (user refl) (group refl)));
}
nobody old whose false true user group = record {
  users = users_of_group old (bit_and old.mode 0o775) whose (group refl) (λ i e. (shared old.mode 0o775 i e).0);
  set_ids = omega (arith, and_le_r old.mode 0o775);
  others = λ other. cleared old.mode 0o775 1 refl;
}
nobody old whose same_user false user group = record {
  users = λ user deed not_old not_new may.
      let new_class = ap (λ k. bit_at (kept_bits old.mode same_user false) (bit_for k deed))
      (sym (plain user whose not_new)) ∙ may in
      let bits = new_both old.mode same_user (user.is_in whose.group) deed new_class in
      subst (λ k. bit_at old.mode (bit_for k deed) ≡ 1) (sym (plain user old.owner not_old))
      (of_class old.mode (user.is_in old.owner.group) deed (ap (bit_at old.mode) (mid deed) ∙ bits.1) bits.0);
  set_ids = other_below old.mode same_user;
  others = λ other. other_low old.mode same_user 1 (omega arith) ∙ cleared_both old.mode;
} where
  cleared_both : (mode : ℕ) → bit_at (both mode) 1 ≡ 0
  cleared_both mode = ap (λ n. bit_at n 1) (is_both mode) ∙ cleared (bit_and mode (mode / 2 ^ 3)) 0o5 1 refl

pub nobody_gets_more : (old : Rights) (owner : Option Owner) (whose : Owner) → IsWhose owner whose
    → GivesNobodyMore old (record { mode = kept_mode old owner; owner = whose })
nobody_gets_more old None whose is = nobody old whose false false (λ (e : false ≡ true). cc) (λ (e : false ≡ true). cc)
nobody_gets_more old (Some owner) whose is =
    nobody old whose (owner.user == old.owner.user) (owner.group == old.owner.group)
    (λ e. ap (λ (o : Owner). o.user) is ∙ eqb-true owner.user old.owner.user e)
    (λ e. ap (λ (o : Owner). o.group) is ∙ eqb-true owner.group old.owner.group e)

-- a file that is its owner's alone
pub private_gives_nobody_more : (old : Rights) (whose : Owner)
    → GivesNobodyMore old (record { mode = 0o600; owner = whose })
private_gives_nobody_more old whose = record {
  users = λ user deed not_old not_new may.
      let none = sym (no_bit (user.is_in whose.group) deed)
      ∙ ap (λ k. bit_at 0o600 (bit_for k deed)) (sym (plain user whose not_new)) ∙ may in
      absurd (omega (arith, none));
  set_ids = omega arith;
  others = λ other. refl;
} where
  no_bit : (member : Bool) (deed : Deed) → bit_at 0o600 (bit_for (cond member its_group others) deed) ≡ 0
  no_bit true reads = refl
  no_bit true writes = refl
  no_bit true runs = refl
  no_bit false reads = refl
  no_bit false writes = refl
  no_bit false runs = refl

of_either : (mode : ℕ) (class : Class) (deed : Deed) → class ≢ its_owner → bit_at mode (bit_for its_group deed) ≡ 1
    → bit_at mode (bit_for others deed) ≡ 1 → bit_at mode (bit_for class deed) ≡ 1
of_either mode its_owner deed other x y = absurd (other refl)
of_either mode its_group deed other x y = x
of_either mode others deed other x y = y

keeps : (old : Rights) (owner : Owner) (same_user same_group : Bool)
    → (owner.user ≡ old.owner.user → same_user ≡ true) → (owner.group ≡ old.owner.group → same_group ≡ true)
    → KeepsRights old owner (kept_bits old.mode same_user same_group)
keeps old owner true true user group = record {
  of_owner = λ deed. masked old.mode 0o777 (bit_for its_owner deed) (in_all its_owner deed);
  of_group = λ same deed. masked old.mode 0o777 (bit_for its_group deed) (in_all its_group deed);
  of_others = λ same deed no_write. masked old.mode 0o777 (bit_for others deed) (in_all others deed);
  of_both = λ class deed no_owner no_write in_group in_others.
      masked old.mode 0o777 (bit_for class deed) (in_all class deed)
      ∙ of_either old.mode class deed no_owner in_group in_others;
  of_all = λ same. and_mask old.mode 9;
}
keeps old owner false true user group = record {
  of_owner = λ deed. masked old.mode 0o775 (bit_for its_owner deed)
      (in_most its_owner deed (λ (e : its_owner ≡ others). cc));
  of_group = λ same deed. masked old.mode 0o775 (bit_for its_group deed)
      (in_most its_group deed (λ (e : its_group ≡ others). cc));
  of_others = λ same deed no_write. masked old.mode 0o775 (bit_for others deed) (in_most others deed (λ e. no_write));
  of_both = λ class deed no_owner no_write in_group in_others.
      masked old.mode 0o775 (bit_for class deed) (in_most class deed (λ e. no_write))
      ∙ of_either old.mode class deed no_owner in_group in_others;
  of_all = λ same. let e : false ≡ true = user (ap (λ (o : Owner). o.user) same) in absurd cc;
}
keeps old owner same_user false user group = record {
  of_owner = λ deed. ap (bit_at (kept_bits old.mode same_user false)) (high deed)
      ∙ other_high old.mode same_user (bit_for others deed) (low deed) ∙ ap (bit_at old.mode) (sym (high deed));
  of_group = λ same. let e : false ≡ true = group same in absurd cc;
  of_others = λ same. let e : false ≡ true = group same in absurd cc;
  of_both = λ class deed no_owner no_write in_group in_others.
      of_new class deed no_owner
      (in_both old.mode (bit_for others deed) in_others (ap (bit_at old.mode) (sym (mid deed)) ∙ in_group)
      (in_five deed no_write));
  of_all = λ same. let e : false ≡ true = group (ap (λ (o : Owner). o.group) same) in absurd cc;
} where
  of_new : (class : Class) (deed : Deed) → class ≢ its_owner → bit_at (both old.mode) (bit_for others deed) ≡ 1
      → bit_at (kept_bits old.mode same_user false) (bit_for class deed) ≡ 1
  of_new its_owner deed other e = absurd (other refl)
  of_new its_group deed other e =
      ap (bit_at (kept_bits old.mode same_user false)) (mid deed)
      ∙ other_mid old.mode same_user (bit_for others deed) (low deed) ∙ e
  of_new others deed other e = other_low old.mode same_user (bit_for others deed) (low deed) ∙ e

pub kept_rights : (old : Rights) (owner : Owner) → KeepsRights old owner (kept_mode old (Some owner))
kept_rights old owner =
    keeps old owner (owner.user == old.owner.user) (owner.group == old.owner.group)
    (eq-eqb owner.user old.owner.user) (eq-eqb owner.group old.owner.group)
