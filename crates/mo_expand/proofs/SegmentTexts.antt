-- The segments of a string, whose text is theirs, and how they are written.
use Rattle.mo_expand.proofs.Prelude.{AreSegments, Bool, Err, HasText, IsBeforeNul, IsExpanded, IsJoining, IsName, IsPart, IsPut, IsTried, IsWritten, List, None, Ok, Option, Order, PlatformText, Some, TextIsItsSegments, [], and_from, and_parts, ap, append_assoc, arith, cases_lt, cond-false, cond-true, drop, drop-drop, drop-take, eq-eqb, eqb-false, eqb-true, false, false≢true, from_segment, get_or, get_or_from_slice_get, get_or_past, if◌then◌else◌, inl, inr, inserted, is_some, join, joined, le-leb, leb-true, length, length-append, length-drop, length-take, lt-ltb, ltb-true, message_from, name_of, nat_le, nat_lt, ne_eqb, none-some, option_and_then, option_map, part, refl, same_Some, slice_get, slice_get-get_or, slice_index_or, slice_range, subst, suc, sym, take, take-take, terminated_part, text_of, true, unwrap_or, with_rest, word_at, zero, ℕ, ◌*◌, ◌++◌, ◌+◌, ◌-◌, ◌<◌, ◌==◌, ◌∙◌, ◌≡◌, ◌≤◌, ◌⊎◌}
use Rattle.mo_expand.specs.Laws.AreSegments.{before, last}
use Rattle.std.specs.Option.{ok_or}
use Rattle.std.proofs.Math.Seq.{take-add}
use Rattle.mo_expand.specs.declared.joining.Missing.TheVariants.{Full}
use Rattle.mo_expand.specs.declared.joining.Segment.{Segment}

pub if-some : {A : Type 0} (b : Bool) (x : Option A) (t : A) → (if b then x else None) ≡ Some t
    → (b ≡ true) × (x ≡ Some t)
if-some true x t is = (refl, is)
if-some false x t is = absurd (none-some t is)

if-either : {A : Type 0} (b : Bool) (x y : Option A) (t : A) → (if b then x else y) ≡ Some t
    → ((b ≡ true) × (x ≡ Some t)) ⊎ ((b ≡ false) × (y ≡ Some t))
if-either true x y t is = inl (refl, is)
if-either false x y t is = inr (refl, is)

-- a byte that isn't there isn't NUL
nul-there : (bytes : List ℕ) (at : ℕ) → get_or bytes at 1 ≡ 0 → slice_get bytes at ≡ Some 0
nul-there bytes at is =
    elim (cases_lt at (length bytes)) [
      | inl inside ↦ slice_get-get_or bytes at 1 inside ∙ ap Some is
      | inr past ↦ let one = get_or_past bytes at 1 past in absurd (omega (arith, one, is))
    ]

before-nul : (bytes : List ℕ) (start len : ℕ) (t : List ℕ) → terminated_part bytes start len ≡ Some t
    → IsBeforeNul bytes start len t
before-nul bytes start len t is =
    let parts = if-some _ _ t is in
    let tests = and_parts (nat_lt 0 len) (slice_index_or bytes (start + (len - 1)) 1 == 0) parts.0 in
    record {
      some = ltb-true 0 len tests.0;
      nul = nul-there bytes (start + (len - 1)) (eqb-true _ 0 tests.1);
      is = sym (same_Some _ t parts.1);
    }

before-nul-back : (bytes : List ℕ) (start len : ℕ) (t : List ℕ) → IsBeforeNul bytes start len t
    → terminated_part bytes start len ≡ Some t
before-nul-back bytes start len t is =
    cond-true _ _ _ (and_from (nat_lt 0 len) (slice_index_or bytes (start + (len - 1)) 1 == 0) (lt-ltb 0 len is.some)
    (eq-eqb _ 0 (get_or_from_slice_get bytes (start + (len - 1)) 0 1 is.nul)))
    ∙ ap Some (sym is.is)

whole-part : (bytes : List ℕ) (start len : ℕ) (t : List ℕ) → part bytes start len ≡ Some t → IsPart bytes start len t
whole-part bytes start len t is =
    let parts = if-some _ _ t is in
    record { inside = leb-true (start + len) (length bytes) parts.0; is = sym (same_Some _ t parts.1) }

whole-part-back : (bytes : List ℕ) (start len : ℕ) (t : List ℕ) → IsPart bytes start len t
    → part bytes start len ≡ Some t
whole-part-back bytes start len t is =
    cond-true _ _ _ (le-leb (start + len) (length bytes) is.inside) ∙ ap Some (sym is.is)

then-some : (texts : List PlatformText) (name : Option (List ℕ)) (t : List ℕ)
    → option_and_then (text_of texts) name ≡ Some t
    → (n : List ℕ) × (name ≡ Some n) × (text_of texts n ≡ Some t)
then-some texts None t is = absurd (none-some t is)
then-some texts (Some n) t is = (n, refl, is)

module _ (order : Order) (bytes : List ℕ) (texts : List PlatformText) where
  named : (number : ℕ) (t : List ℕ) → inserted order bytes texts number ≡ Some t
      → (name : List ℕ) × IsName order bytes number name × (text_of texts name ≡ Some t)
  named number t is =
      let found = then-some texts (name_of order bytes number) t is in
      let parts = if-some _ _ found.0 found.1 in
      let tests = and_parts (nat_lt number (word_at order bytes 28))
      (nat_le (word_at order bytes 32 + 8 * number + 8) (length bytes)) parts.0 in (
        found.0,
        record {
          among = ltb-true _ _ tests.0;
          listed = leb-true _ _ tests.1;
          is = before-nul bytes _ _ found.0 parts.1;
        },
        found.2,
      )

  named-back : (number : ℕ) (name t : List ℕ) → IsName order bytes number name → text_of texts name ≡ Some t
      → inserted order bytes texts number ≡ Some t
  named-back number name t is has =
      ap (option_and_then (text_of texts))
      (cond-true _ _ _ (and_from _ _ (lt-ltb number (word_at order bytes 28) is.among)
      (le-leb (word_at order bytes 32 + 8 * number + 8) (length bytes) is.listed))
      ∙ before-nul-back bytes _ _ name is.is) ∙ has

  joined-three : (a b c : Option (List ℕ)) (t : List ℕ) → join a b c ≡ Some t
      → (x : List ℕ) × (y : List ℕ) × (z : List ℕ) × (a ≡ Some x) × (b ≡ Some y) × (c ≡ Some z) × (x ++ y ++ z ≡ t)
  joined-three (Some x) (Some y) (Some z) t is = (x, y, z, refl, refl, refl, same_Some _ t is)
  joined-three (Some x) (Some y) None t is = absurd (none-some t is)
  joined-three (Some x) None c t is = absurd (none-some t is)
  joined-three None b c t is = absurd (none-some t is)

  segments : (most at start : ℕ) (t : List ℕ) → joined order bytes texts most at start ≡ Some t
      → (many : ℕ) × (many ≤ most) × AreSegments order bytes texts many at start t
  unfolding joined
  segments zero at start t is = absurd (none-some t is)
  segments (suc most) at start t is =
      let len = word_at order bytes at in
      let number = word_at order bytes (at + 4) in
      let ending = terminated_part bytes start len in
      let going_on = join (part bytes start len) (inserted order bytes texts number)
      (joined order bytes texts most (at + 8) (start + len)) in
      let described = if-some (nat_le (at + 8) (length bytes))
      (if number == 0xffffffff then ending else going_on) t is in
      let inside = leb-true (at + 8) (length bytes) described.0 in
      elim (if-either (number == 0xffffffff) ending going_on t described.1) [
        | inl ends ↦ (
          1,
          omega arith,
          last inside (eqb-true number 0xffffffff ends.0) (before-nul bytes start len t ends.1),
        )
        | inr goes_on ↦
            let three = joined-three (part bytes start len) (inserted order bytes texts number)
            (joined order bytes texts most (at + 8) (start + len)) t goes_on.1 in
            let name = named number three.1 three.4 in
            let rest = segments most (at + 8) (start + len) three.2 three.5 in (
              suc rest.0,
              omega (arith, rest.1),
              subst (AreSegments order bytes texts (suc rest.0) at start) three.6
                  (before inside (eqb-false number 0xffffffff goes_on.0)
                  (whole-part bytes start len three.0 three.3) name.1 name.2 rest.2),
            )
      ]

  segments-back : {many at start : ℕ} {t : List ℕ} → AreSegments order bytes texts many at start t → (most : ℕ)
      → many ≤ most → joined order bytes texts most at start ≡ Some t
  unfolding joined
  segments-back (last inside ends is) zero few = absurd (omega (arith, few))
  segments-back (last {at = at} {start = start} {text = text} inside ends is) (suc most) few =
      cond-true _ _ _ (le-leb (at + 8) (length bytes) inside)
      ∙ cond-true _ _ _ (eq-eqb (word_at order bytes (at + 4)) 0xffffffff ends)
      ∙ before-nul-back bytes start (word_at order bytes at) text is
  segments-back (before inside goes_on is named has rest) zero few = absurd (omega (arith, few))
  segments-back (before {more = more} {at = at} {start = start} {literal = literal} {name = name} {inserted = put}
      {rest = later} inside goes_on is named has rest) (suc most) few =
      cond-true _ _ _ (le-leb (at + 8) (length bytes) inside)
      ∙ cond-false _ _ _ (ne_eqb (word_at order bytes (at + 4)) 0xffffffff goes_on)
      ∙ rw (
        whole-part-back bytes start (word_at order bytes at) literal is,
        named-back (word_at order bytes (at + 4)) name put named has,
        segments-back rest most (omega (arith, few)),
      ) refl

pub text_is_its_segments : TextIsItsSegments
text_is_its_segments order bytes texts at text = (
  λ is.
      let parts = if-some _ _ text is in
      let made = segments order bytes texts 256 (at + 4) (word_at order bytes at) text parts.1 in
      (made.0, made.1, leb-true (at + 4) (length bytes) parts.0, made.2),
  λ is.
      cond-true _ _ _ (le-leb (at + 4) (length bytes) is.2)
      ∙ segments-back order bytes texts is.3 256 is.1,
)

-- Writing the segments of a string.

pub joined-none : (order : Order) (bytes : List ℕ) (texts : List PlatformText) (at start : ℕ)
    → joined order bytes texts 0 at start ≡ None
unfolding joined
joined-none order bytes texts at start = refl

pub joined-step : (order : Order) (bytes : List ℕ) (texts : List PlatformText) (left next at start : ℕ)
    → left ≡ suc next → joined order bytes texts left at start ≡ from_segment order bytes texts at start
    (joined order bytes texts next (at + 8) (start + word_at order bytes at))
unfolding joined
joined-step order bytes texts left next at start e = ap (λ n. joined order bytes texts n at start) e

-- a segment before others has a text where they have one
pub is_some-before : (literal text : List ℕ) (rest : Option (List ℕ))
    → is_some (join (Some literal) (Some text) rest) ≡ is_some rest
is_some-before literal text None = refl
is_some-before literal text (Some r) = refl

-- a part that begins before what is written goes on with it
pub slice_range-more : (xs : List ℕ) (a b c : ℕ) → a ≤ b → b ≤ c
    → slice_range xs a c ≡ slice_range xs a b ++ slice_range xs b c
slice_range-more xs a b c low high =
    let sum : c - a ≡ (b - a) + (c - b) = omega arith in
    let there : a + (b - a) ≡ b = omega arith in
    ap (λ n. take n (drop a xs)) sum ∙ take-add (b - a) (c - b) (drop a xs)
    ∙ ap (λ l. take (b - a) (drop a xs) ++ take (c - b) l) (drop-drop (b - a) a xs ∙ ap (λ n. drop n xs) there)

pub slice_range-before : (xs ys : List ℕ) (a b : ℕ) → a ≤ b → take b xs ≡ take b ys
    → slice_range xs a b ≡ slice_range ys a b
slice_range-before xs ys a b low same =
    let there : a + (b - a) ≡ b = omega arith in
    sym (drop-take a (b - a) xs) ∙ ap (λ n. drop a (take n xs)) there ∙ ap (drop a) same
    ∙ sym (ap (λ n. drop a (take n ys)) there) ∙ drop-take a (b - a) ys

pub length-slice_range : (xs : List ℕ) (a b : ℕ) → a ≤ b → b ≤ length xs → length (slice_range xs a b) ≡ b - a
length-slice_range xs a b low inside = omega (arith, length-take (b - a) (drop a xs), length-drop a xs)

pub take-before : (xs ys : List ℕ) (a b : ℕ) → a ≤ b → take b xs ≡ take b ys → take a xs ≡ take a ys
take-before xs ys a b low same = sym (take-take a b xs low) ∙ ap (take a) same ∙ take-take a b ys low

pub put-extends : (old new : List ℕ) (start at end : ℕ) (text : List ℕ) → start ≤ at → HasText old new at end text
    → slice_range new start end ≡ slice_range old start at ++ text
put-extends old new start at end text low h =
    slice_range-more new start at end low h.order
    ∙ ap (λ l. l ++ slice_range new at end) (slice_range-before new old start at low h.before)
    ∙ ap (λ l. slice_range old start at ++ l) h.is

-- two texts, one after the other
pub put_twice : (old middle new : List ℕ) (start at end : ℕ) (first second : List ℕ) → HasText old middle start at first
    → HasText middle new at end second → HasText old new start end (first ++ second)
put_twice old middle new start at end first second h k =
    let low = h.order in
    let more = k.order in
    record {
      order = omega arith;
      inside = k.inside;
      before = take-before new middle start at low k.before ∙ h.before;
      is = put-extends middle new start at end second low k ∙ ap (λ l. l ++ second) h.is;
    }

pub put_both : (old middle new : List ℕ) (start at : ℕ) (first second : List ℕ) (end : Option ℕ)
    → HasText old middle start at first → length middle ≡ length old → IsPut middle new at second end
    → IsPut old new start (first ++ second) end
put_both old middle new start at first second None h len put =
    let slice : length first ≡ at - start =
    ap length (sym h.is) ∙ length-slice_range middle start at h.order h.inside in
    let low = h.order in
    omega (arith, put, len, slice, length-append first second)
put_both old middle new start at first second (Some end) h len put =
    put_twice old middle new start at end first second h put

pub joining-ends : (old room new : List ℕ) (start at end : ℕ) (whole : Option (List ℕ)) (text : List ℕ)
    → IsJoining old room start at whole (Some text) → HasText room new at end text → length new ≡ length room
    → IsWritten old new start whole (Ok end)
joining-ends old room new start at end whole text j h len =
    let order = j.order in
    let more = h.order in (
      j.is ∙ ap Some (sym (put-extends room new start at end _ order h)),
      record {
        order = omega arith;
        inside = h.inside;
        before = take-before new room start at order h.before ∙ j.before;
        is = refl;
      },
    )

joined-more : (room new : List ℕ) (start at end : ℕ) (literal text : List ℕ) (rest : Option (List ℕ))
    → slice_range new start end ≡ slice_range room start at ++ (literal ++ text)
    → option_map (λ r. slice_range room start at ++ r) (join (Some literal) (Some text) rest)
    ≡ option_map (λ r. slice_range new start end ++ r) rest
joined-more room new start at end literal text None e = refl
joined-more room new start at end literal text (Some r) e =
    ap Some (sym (ap (λ l. l ++ r) e ∙ simp append_assoc))

pub joining-goes_on : (old room new : List ℕ) (start at end : ℕ) (whole : Option (List ℕ)) (literal text : List ℕ)
    (rest : Option (List ℕ)) → IsJoining old room start at whole (join (Some literal) (Some text) rest)
    → HasText room new at end (literal ++ text) → length new ≡ length room → IsJoining old new start end whole rest
joining-goes_on old room new start at end whole literal text rest j h len =
    let order = j.order in
    let more = h.order in
    record {
      order = omega arith;
      inside = h.inside;
      len = len ∙ j.len;
      before = take-before new room start at order h.before ∙ j.before;
      is = j.is ∙ joined-more room new start at end literal text rest (put-extends room new start at end _ order h);
    }

pub joining-step : (old room : List ℕ) (start at : ℕ) (whole : Option (List ℕ)) (order : Order) (bytes : List ℕ)
    (texts : List PlatformText) (left next described source : ℕ) (segment : Option Segment) → left ≡ suc next
    → ((rest : Option (List ℕ)) → from_segment order bytes texts described source rest ≡ with_rest segment rest)
    → IsJoining old room start at whole (joined order bytes texts left described source)
    → IsJoining old room start at whole
    (with_rest segment (joined order bytes texts next (described + 8)
    (source + word_at order bytes described)))
joining-step old room start at whole order bytes texts left next described source segment e is j =
    subst (IsJoining old room start at whole) (joined-step order bytes texts left next described source e ∙ is _) j

pub joining-has_ended : (old room : List ℕ) (start at : ℕ) (whole : Option (List ℕ)) (order : Order) (bytes : List ℕ)
    (texts : List PlatformText) (left described source : ℕ) → left ≡ 0
    → IsJoining old room start at whole (joined order bytes texts left described source) → whole ≡ None
joining-has_ended old room start at whole order bytes texts left described source e j =
    let over = subst (IsJoining old room start at whole)
    (ap (λ n. joined order bytes texts n described source) e ∙ joined-none order bytes texts described source) j in
    over.is

is_full : (old room : List ℕ) (start at : ℕ) (text t : List ℕ) → start ≤ at → at ≤ length room
    → length room ≡ length old → length room < at + length text → Some t ≡ Some (slice_range room start at ++ text)
    → length old < start + length t
is_full old room start at text t low inside len full e =
    let whole : length t ≡ length (slice_range room start at) + length text =
    ap length (ap (λ o. unwrap_or o []) e) ∙ length-append _ text in
    omega (arith, whole, full, len, length-take (at - start) (drop start room), length-drop start room)

pub joining-is_full : (old room : List ℕ) (start at : ℕ) (whole : Option (List ℕ)) (text : List ℕ)
    → IsJoining old room start at whole (Some text) → length room < at + length text → (t : List ℕ) → whole ≡ Some t
    → length old < start + length t
joining-is_full old room start at whole text j full t is =
    is_full old room start at text t j.order j.inside j.len full (sym is ∙ j.is)

-- the last segment was put, or there was no room for it
pub joining-last : (old room new : List ℕ) (start at : ℕ) (whole : Option (List ℕ)) (text : List ℕ) (put : Option ℕ)
    → IsJoining old room start at whole (Some text) → IsPut room new at text put → length new ≡ length room
    → IsWritten old new start whole (ok_or put Full)
joining-last old room new start at whole text None j full len = joining-is_full old room start at whole text j full
joining-last old room new start at whole text (Some end) j h len =
    joining-ends old room new start at end whole text j h len

longer : (literal text r : List ℕ) (n at : ℕ) → n < at + length (literal ++ text)
    → n < at + length (literal ++ text ++ r)
longer literal text r n at full = omega (arith, full, length-append (literal ++ text) r)

pub joining-is_full_before : (old room : List ℕ) (start at : ℕ) (whole : Option (List ℕ)) (literal text : List ℕ)
    (rest : Option (List ℕ)) → IsJoining old room start at whole (join (Some literal) (Some text) rest)
    → length room < at + length (literal ++ text) → (t : List ℕ) → whole ≡ Some t → length old < start + length t
joining-is_full_before old room start at whole literal text None j full t is = absurd (none-some t (sym j.is ∙ is))
joining-is_full_before old room start at whole literal text (Some r) j full t is =
    is_full old room start at (literal ++ text ++ r) t j.order j.inside j.len
    (longer literal text r (length room) at full)
    (sym is ∙ j.is)

-- there is no room for two strings that are both there
pub full-there : (old new : List ℕ) (o t : Option (List ℕ)) → is_some o ≡ true → is_some t ≡ true
    → IsTried old new (message_from o t) (Err Full) → IsExpanded old new (message_from o t) (Err Full)
full-there old new None t first second tried = absurd (false≢true first)
full-there old new (Some o) None first second tried = absurd (false≢true second)
full-there old new (Some o) (Some t) first second tried = (_, refl, tried _ refl)
