-- System-dependent messages, which are added to a list in turn.
use Rattle.mo_expand.proofs.Prelude.{All-head, All-tail, Bool, FirstTextCounts, IsSystemNumber, List, Message, MessageIsItsStrings, None, Option, Order, PlatformText, Some, [], and_from, and_parts, ap, ap₂, arith, bytes_eq, bytes_eq-Decides, cond-false, cond-true, false, false_from_ne_true, if◌then◌else◌, le-leb, leb-true, length, lt-ltb, ltb-true, map, message_from, nat_le, nat_lt, none-some, range_with_len, refl, revision, same_Some, slice_range, strings_len, suc, sum_by, sum_by-cons, sym, system_count, take, take-take, text_at, true, with_message, with_messages, word_at, zero, ℕ, ◌%◌, ◌&&◌, ◌*◌, ◌+◌, ◌-◌, ◌<◌, ◌∙◌, ◌∷◌, ◌≡◌, ◌≢◌, ◌≤◌}
use Rattle.mo_expand.proofs.SegmentTexts.{if-some, length-slice_range, slice_range-before}

pub first_text_counts : FirstTextCounts
first_text_counts [] after it apart = cond-true _ _ _ ((bytes_eq-Decides it.name.now it.name.now).1 refl)
first_text_counts (other ∷ others) after it apart =
    cond-false _ _ _
    (false_from_ne_true (bytes_eq other.name.now it.name.now)
    (λ same. All-head (λ (o : PlatformText). o.name.now ≢ it.name.now) other others apart
    ((bytes_eq-Decides other.name.now it.name.now).0 same)))
    ∙ first_text_counts others after it
    (All-tail (λ (o : PlatformText). o.name.now ≢ it.name.now) other others apart)

some-number : (n : ℕ) → n ≢ 0 → 1 ≤ n
some-number zero none = absurd (none refl)
some-number (suc n) none = omega arith

module _ (order : Order) (bytes : List ℕ) where
  abbrev has_tables : Bool
  has_tables =
      nat_le 48 (length bytes) && nat_le 1 (revision order bytes % 65536)
      && nat_le (word_at order bytes 40 + 4 * word_at order bytes 36) (length bytes)
      && nat_le (word_at order bytes 44 + 4 * word_at order bytes 36) (length bytes)

  counted-with : (b : Bool) (n number : ℕ) → nat_lt number (if b then n else 0) ≡ true → (b ≡ true) × (number < n)
  counted-with true n number is = (refl, ltb-true number n is)
  counted-with false n number is = absurd (let less = ltb-true number 0 is in omega (arith, less))

  number : (n : ℕ) → nat_lt n (system_count order bytes) ≡ true → IsSystemNumber order bytes n
  number n is =
      let parts = counted-with has_tables (word_at order bytes 36) n is in
      let last = and_parts _ _ parts.0 in
      let middle = and_parts _ _ last.0 in
      let first = and_parts _ _ middle.0 in
      record {
        long = leb-true 48 (length bytes) first.0;
        minor = λ none. let some = leb-true 1 _ first.1 in omega (arith, some, none);
        originals = leb-true _ _ middle.1;
        translations = leb-true _ _ last.1;
        counted = parts.1;
      }

  number-back : (n : ℕ) → IsSystemNumber order bytes n → nat_lt n (system_count order bytes) ≡ true
  number-back n is =
      let some = some-number (revision order bytes % 65536) is.minor in
      let tables : has_tables ≡ true =
      and_from _ _ (and_from _ _ (and_from _ _ (le-leb 48 (length bytes) is.long) (le-leb 1 _ some))
      (le-leb _ (length bytes) is.originals)) (le-leb _ (length bytes) is.translations) in
      ap (nat_lt n) (cond-true has_tables (word_at order bytes 36) 0 tables)
      ∙ lt-ltb n (word_at order bytes 36) is.counted

  from-both : (o t : Option (List ℕ)) (m : Message) → message_from o t ≡ Some m
      → (o ≡ Some m.original) × (t ≡ Some m.translation)
  from-both (Some o) (Some t) m is =
      let same = same_Some _ m is in
      (ap (λ (k : Message). Some k.original) same, ap (λ (k : Message). Some k.translation) same)
  from-both (Some o) None m is = absurd (none-some m is)
  from-both None t m is = absurd (none-some m is)

pub message_is_its_strings : MessageIsItsStrings
message_is_its_strings order bytes texts n m =
    let o = text_at order bytes texts (word_at order bytes (word_at order bytes 40 + 4 * n)) in
    let t = text_at order bytes texts (word_at order bytes (word_at order bytes 44 + 4 * n)) in (
      λ is.
          let parts = if-some (nat_lt n (system_count order bytes)) (message_from o t) m is in
          let strings = from-both order bytes o t m parts.1 in
          (number order bytes n parts.0, strings.0, strings.1),
      λ is.
          cond-true _ _ _ (number-back order bytes n is.0) ∙ ap₂ message_from is.1 is.2,
    )

-- System-dependent messages that are added to a list in turn.

-- the messages that are left, of which the first is that of an index
left : (f : ℕ → Option Message) (n i : ℕ) → i < n
    → map f (range_with_len i (n - i)) ≡ f i ∷ map f (range_with_len (i + 1) (n - (i + 1)))
left f n i inside =
    let e : n - i ≡ suc (n - (i + 1)) = omega arith in
    ap (λ k. map f (range_with_len i k)) e

pub none_left : (f : ℕ → Option Message) (n i : ℕ) (listed : List Message) → n ≤ i
    → with_messages listed (map f (range_with_len i (n - i))) ≡ listed
unfolding with_messages
none_left f n i listed over =
    let e : n - i ≡ 0 = omega arith in
    ap (λ k. with_messages listed (map f (range_with_len i k))) e

with_some : (listed : List Message) (m : Message) (more : List (Option Message))
    → with_messages listed (Some m ∷ more) ≡ with_messages (with_message m listed) more
unfolding with_messages
with_some listed m more = refl

with_none : (listed : List Message) (more : List (Option Message))
    → with_messages listed (None ∷ more) ≡ with_messages listed more
unfolding with_messages
with_none listed more = refl

pub added : (f : ℕ → Option Message) (n i : ℕ) (whole listed after : List Message) (m : Message) → i < n
    → with_messages listed (map f (range_with_len i (n - i))) ≡ whole → f i ≡ Some m → after ≡ with_message m listed →
    with_messages after (map f (range_with_len (i + 1) (n - (i + 1)))) ≡ whole
added f n i whole listed after m inside is there e =
    let more = map f (range_with_len (i + 1) (n - (i + 1))) in
    ap (λ l. with_messages l more) e
    ∙ sym (with_some listed m more)
    ∙ sym (ap (λ o. with_messages listed (o ∷ more)) there)
    ∙ sym (ap (with_messages listed) (left f n i inside))
    ∙ is

pub passed : (f : ℕ → Option Message) (n i : ℕ) (whole listed : List Message) → i < n
    → with_messages listed (map f (range_with_len i (n - i))) ≡ whole → f i ≡ None →
    with_messages listed (map f (range_with_len (i + 1) (n - (i + 1)))) ≡ whole
passed f n i whole listed inside is absent =
    let more = map f (range_with_len (i + 1) (n - (i + 1))) in
    sym (with_none listed more)
    ∙ sym (ap (λ o. with_messages listed (o ∷ more)) absent)
    ∙ sym (ap (with_messages listed) (left f n i inside))
    ∙ is

-- the room that is left
left_len : (f : ℕ → Option Message) (n i : ℕ) → i < n
    → sum_by strings_len (map f (range_with_len i (n - i))) ≡ strings_len (f i) + sum_by strings_len
    (map f (range_with_len (i + 1) (n - (i + 1))))
left_len f n i inside = ap (sum_by strings_len) (left f n i inside)
    ∙ sum_by-cons strings_len (f i) (map f (range_with_len (i + 1) (n - (i + 1))))

pub room-next : (f : ℕ → Option Message) (n i room rest next total : ℕ) → i < n
    → sum_by strings_len (map f (range_with_len i (n - i))) + room ≡ total + rest → next + strings_len (f i) ≡ rest →
    sum_by strings_len (map f (range_with_len (i + 1) (n - (i + 1)))) + room ≡ total + next
room-next f n i room rest next total inside is len = omega (arith, left_len f n i inside, is, len)

too_long : (o : Option Message) (rest : ℕ)
    → ((m : Message) × (o ≡ Some m) × (rest < length m.original + length m.translation)) → rest < strings_len o
too_long o rest (m, is, long) = rw is long

pub room-full : (f : ℕ → Option Message) (n i room rest total : ℕ) → i < n
    → sum_by strings_len (map f (range_with_len i (n - i))) + room ≡ total + rest
    → ((m : Message) × (f i ≡ Some m) × (rest < length m.original + length m.translation)) → room < total
room-full f n i room rest total inside is full =
    let long : rest < strings_len (f i) = too_long (f i) rest full in
    omega (arith, left_len f n i inside, is, long)

slice_range-front : (xs : List ℕ) (n : ℕ) → slice_range xs 0 n ≡ take n xs
slice_range-front xs n = let e : n - 0 ≡ n = omega arith in ap (λ k. take k xs) e

-- the strings of a message that was split off
pub split-message : (room o t : List ℕ) (middle end : ℕ) → middle ≤ end → o ≡ take middle (take end room)
    → t ≡ slice_range (take end room) middle end →
    ◌≡◌ {A = Message} (record { original = o; translation = t })
    (record { original = slice_range room 0 middle; translation = slice_range room middle end })
split-message room o t middle end low first second =
    let o_is : o ≡ slice_range room 0 middle =
    first ∙ take-take middle end room low ∙ sym (slice_range-front room middle) in
    let t_is : t ≡ slice_range room middle end =
    second ∙ slice_range-before (take end room) room middle end low (take-take end end room (omega arith)) in
    rw (o_is, t_is) refl

pub split-len : (room : List ℕ) (o : Option Message) (middle end : ℕ) → middle ≤ end → end ≤ length room
    → o ≡ Some (record { original = slice_range room 0 middle; translation = slice_range room middle end })
    → strings_len o ≡ end
split-len room o middle end low high e =
    let zero_low : 0 ≤ middle = omega arith in
    let first : middle ≤ length room = omega arith in
    ap strings_len e ∙ omega
    (arith, length-slice_range room 0 middle zero_low first, length-slice_range room middle end low high)
