-- Keys are ordered by their prefixes, where these differ.
use Rattle.po_compile.proofs.Prelude.{All, All-head, All-tail, Equal, Greater, Less, List, MatchOrdering, Ordering, [], ap, ap₂, arith, drop, drop-nil, equal_is_same, key_cmp, length, nat_cmp, nat_list_cmp_total, ordering_reverse, ordering_then, ranked, refl, replicate, suc, sym, take, zero, ℕ, ◌*◌, ◌++◌, ◌+◌, ◌<◌, ◌^◌, ◌∙◌, ◌∷◌, ◌≡◌, ◌≢◌, ◌≤◌}
use Rattle.std.proofs.Math.Nat.{mul-le-mul_right, one-le-pow}
use Rattle.std.proofs.lemmas.Nat.{pow-add}
use Rattle.std.specs.Cmp.{nat_cmp_is}
use Rattle.byteorder.specs.Endian.{big_from, big_number}
use Rattle.byteorder.specs.Numbers.{big_from-cons}
use Rattle.po_compile.specs.Internal.Prefix.{digits, prefix_of, second_prefix_of}

abbrev pub Bytes : List ℕ → Type 0
Bytes text = All (λ byte. byte < 256) text

pub digits_below : (n : ℕ) (text : List ℕ) → Bytes text → digits n text < 256 ^ n
digits_below zero text bytes = omega arith
digits_below (suc n) [] bytes = one-le-pow (suc n) 256 (omega arith)
digits_below (suc n) (byte ∷ text) bytes =
    let head : byte < 256 = All-head (λ b. b < 256) byte text bytes in
    let rest = digits_below n text (All-tail (λ b. b < 256) byte text bytes) in
    let most : byte ≤ 255 = omega (arith, head) in
    let product : byte * 256 ^ n ≤ 255 * 256 ^ n = mul-le-mul_right (256 ^ n) most in
    omega (arith, rest, product)

rising_heads : (n : ℕ) (x y : ℕ) (d e : ℕ) → x < y → d < 256 ^ n → x * 256 ^ n + d ≤ y * 256 ^ n + e
rising_heads n x y d e less below =
    let product : suc x * 256 ^ n ≤ y * 256 ^ n = mul-le-mul_right (256 ^ n) less in
    omega (arith, product, below)

by_heads : (n x y : ℕ) (a b : List ℕ) (o : Ordering) → MatchOrdering o (x < y) (x ≡ y) (y < x)
    → ordering_then o (key_cmp a b) ≡ Less → digits n a < 256 ^ n → (key_cmp a b ≡ Less → digits n a ≤ digits n b)
    → x * 256 ^ n + digits n a ≤ y * 256 ^ n + digits n b
by_heads n x y a b Less below h small rest = rising_heads n x y (digits n a) (digits n b) below small
by_heads n x y a b Equal same h small rest =
    let tails = rest h in
    let heads : x * 256 ^ n ≡ y * 256 ^ n = ap (λ z. z * 256 ^ n) same in omega (arith, tails, heads)
by_heads n x y a b Greater above h small rest = absurd (cc)

-- the order of keys gives that of their first digits
pub digits_rise : (n : ℕ) (a b : List ℕ) → Bytes a → Bytes b → key_cmp a b ≡ Less → digits n a ≤ digits n b
digits_rise zero a b in_a in_b less = omega arith
digits_rise (suc n) [] b in_a in_b less = omega arith
digits_rise (suc n) (x ∷ a) [] in_a in_b less = absurd (cc)
digits_rise (suc n) (x ∷ a) (y ∷ b) in_a in_b less =
    let rest_a = All-tail (λ byte. byte < 256) x a in_a in
    let rest_b = All-tail (λ byte. byte < 256) y b in_b in
    by_heads n x y a b (nat_cmp x y) (ranked x y (nat_cmp x y) refl) less (digits_below n a rest_a)
    (λ h. digits_rise n a b rest_a rest_b h)

by_order : (m n : ℕ) (o : Ordering) → (o ≡ Less → m ≤ n) → (o ≡ Equal → m ≡ n) → (o ≡ Greater → n ≤ m)
    → ordering_then (nat_cmp m n) o ≡ o
by_order m n o less equal greater = by_prefix (nat_cmp m n) o (ranked m n (nat_cmp m n) refl) less equal greater where
  by_prefix : (p o : Ordering) → MatchOrdering p (m < n) (m ≡ n) (n < m) → (o ≡ Less → m ≤ n) → (o ≡ Equal → m ≡ n)
      → (o ≡ Greater → n ≤ m) → ordering_then p o ≡ o
  by_prefix Less Less h less equal greater = refl
  by_prefix Less Equal h less equal greater = absurd (omega (arith, h, equal refl))
  by_prefix Less Greater h less equal greater = absurd (omega (arith, h, greater refl))
  by_prefix Equal o h less equal greater = refl
  by_prefix Greater Less h less equal greater = absurd (omega (arith, h, less refl))
  by_prefix Greater Equal h less equal greater = absurd (omega (arith, h, equal refl))
  by_prefix Greater Greater h less equal greater = refl

digits_none : (n : ℕ) → digits n [] ≡ 0
digits_none zero = refl
digits_none (suc n) = refl

share : (b x y d e : ℕ) → b * (x * y) + (d * y + e) ≡ (b * x + d) * y + e
share b x y d e = omega arith

-- the first digits and those that follow
digits_split : (m k n : ℕ) (text : List ℕ) → k ≡ m + n
    → digits k text ≡ digits m text * 256 ^ n + digits n (drop m text)
digits_split zero k n text is =
    let same : k ≡ n = omega (arith, is) in
    ap (λ j. digits j text) same ∙ omega arith
digits_split (suc m) zero n text is = absurd (omega (arith, is))
digits_split (suc m) (suc k) n [] is = rw (drop-nil (suc m)) (rw (digits_none n) (omega arith))
digits_split (suc m) (suc k) n (byte ∷ text) is =
    let left : k ≡ m + n = omega (arith, is) in
    let rest = digits_split m k n text left in
    let power : 256 ^ k ≡ 256 ^ m * 256 ^ n = ap (λ j. 256 ^ j) left ∙ pow-add 256 m n in
    ap₂ (λ x d. byte * x + d) power rest ∙ share byte (256 ^ m) (256 ^ n) (digits m text) (digits n (drop m text))

-- first digits that differ decide as the keys do
digits_first : (n : ℕ) (a b : List ℕ) → Bytes a → Bytes b
    → ordering_then (nat_cmp (digits n a) (digits n b)) (key_cmp a b) ≡ key_cmp a b
digits_first n a b in_a in_b =
    by_order (digits n a) (digits n b) (key_cmp a b)
    (λ h. digits_rise n a b in_a in_b h)
    (λ h. ap (digits n) (equal_is_same a b h))
    (λ h. digits_rise n b a in_b in_a (nat_list_cmp_total.antisymm b a ∙ ap ordering_reverse h))

-- the digits that stand in bytes
none_stand : (i n : ℕ) → big_from i n [] ≡ 0
none_stand i zero = refl
none_stand i (suc n) = omega (arith, none_stand (suc i) n)

digits_stand : (n : ℕ) (text : List ℕ) → big_number n text ≡ digits n text
digits_stand zero text = refl
digits_stand (suc n) [] = none_stand 0 (suc n)
digits_stand (suc n) (byte ∷ text) =
    ap (λ rest. byte * 256 ^ n + rest) (big_from-cons 0 n byte text ∙ digits_stand n text)

abbrev AreZeros : List ℕ → Type 0
AreZeros bytes = (n : ℕ) → digits n bytes ≡ 0

zeros : (n m : ℕ) → digits n (replicate m 0) ≡ 0
zeros zero m = refl
zeros (suc n) zero = refl
zeros (suc n) (suc m) = omega (arith, zeros n m)

zeros_left : (k : ℕ) (bytes : List ℕ) → AreZeros bytes → AreZeros (drop k bytes)
zeros_left zero bytes none = none
zeros_left (suc k) [] none = none
zeros_left (suc k) (byte ∷ bytes) none = zeros_left k bytes (λ n. omega (arith, none (suc n)))

-- zeros after a text are no digits
digits_padded : (n : ℕ) (text bytes : List ℕ) → AreZeros bytes → digits n (take n text ++ bytes) ≡ digits n text
digits_padded zero text bytes none = refl
digits_padded (suc n) [] bytes none = none (suc n)
digits_padded (suc n) (byte ∷ text) bytes none = ap (λ rest. byte * 256 ^ n + rest) (digits_padded n text bytes none)

pub prefix_read : (first key : List ℕ) → first ≡ take 16 key
    → big_number 16 (first ++ drop (length first) (replicate 16 0)) ≡ prefix_of key
prefix_read first key is =
    let left = drop (length first) (replicate 16 0) in
    let none : AreZeros left = zeros_left (length first) (replicate 16 0) (λ n. zeros n 16) in
    digits_stand 16 (first ++ left) ∙ ap (λ l. digits 16 (l ++ left)) is ∙ digits_padded 16 key left none

then_decided : (p o : Ordering) → p ≢ Equal → ordering_then p o ≡ o → p ≡ o
then_decided Less o other is = is
then_decided Equal o other is = absurd (other refl)
then_decided Greater o other is = is

pub prefix_decides : (m n : ℕ) (a b : List ℕ) → m ≡ prefix_of a → n ≡ prefix_of b → Bytes a → Bytes b
    → (order : Ordering) → order ≡ nat_cmp m n → order ≢ Equal → order ≡ key_cmp a b
prefix_decides m n a b first second in_a in_b order is other =
    let by_prefix : order ≡ nat_cmp (prefix_of a) (prefix_of b) = is ∙ ap₂ nat_cmp first second in
    then_decided order (key_cmp a b) other
    (ap (λ o. ordering_then o (key_cmp a b)) by_prefix ∙ digits_first 16 a b in_a in_b)

-- numbers with the same first part stand as their second parts do
same_prefix : (f m n : ℕ) → nat_cmp (f + m) (f + n) ≡ nat_cmp m n
same_prefix f m n = by_parts (nat_cmp m n) (ranked m n (nat_cmp m n) refl) where
  by_parts : (o : Ordering) → MatchOrdering o (m < n) (m ≡ n) (n < m) → nat_cmp (f + m) (f + n) ≡ o
  by_parts Less h = sym (nat_cmp_is (f + m) (f + n) Less (omega (arith, h)))
  by_parts Equal h = sym (nat_cmp_is (f + m) (f + n) Equal (omega (arith, h)))
  by_parts Greater h = sym (nat_cmp_is (f + m) (f + n) Greater (omega (arith, h)))

pub second_decides : (m n : ℕ) (a b : List ℕ) → m ≡ second_prefix_of a → n ≡ second_prefix_of b
    → prefix_of a ≡ prefix_of b → Bytes a → Bytes b → (order : Ordering) → order ≡ nat_cmp m n → order ≢ Equal
    → order ≡ key_cmp a b
second_decides m n a b first second same in_a in_b order is other =
    let whole_a : digits 32 a ≡ prefix_of a * 256 ^ 16 + second_prefix_of a = digits_split 16 32 16 a refl in
    let whole_b : digits 32 b ≡ prefix_of a * 256 ^ 16 + second_prefix_of b =
    digits_split 16 32 16 b refl ∙ ap (λ p. p * 256 ^ 16 + second_prefix_of b) (sym same) in
    let by_digits : order ≡ nat_cmp (digits 32 a) (digits 32 b) =
    is ∙ ap₂ nat_cmp first second ∙ sym (same_prefix (prefix_of a * 256 ^ 16) (second_prefix_of a) (second_prefix_of b))
    ∙ sym (ap₂ nat_cmp whole_a whole_b) in
    then_decided order (key_cmp a b) other
    (ap (λ o. ordering_then o (key_cmp a b)) by_digits ∙ digits_first 32 a b in_a in_b)
