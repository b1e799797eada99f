-- What is laid out: its length, and where its words, descriptors and strings stand.
use Rattle.mo_file.proofs.Prelude.{Big, List, Little, Message, Order, Some, [], ap, append_assoc, arith, drop, drop_at, end_at, header, layout, length, length-append, length-map, length-take-le, magic, map, offset_at, originals, refl, slice_get, slice_get_within, slice_range, string_at, strings_of, suc, sum_by, sum_by-cons, sym, table, take, take_at, terminated, translations, word_at, word_bytes, zero, ℕ, ◌*◌, ◌++◌, ◌+◌, ◌-◌, ◌<◌, ◌^◌, ◌∙◌, ◌∷◌, ◌≡◌}
use Rattle.mo_file.specs.declared.pairs.Part.TheVariants.{Original, Translation}
use Rattle.byteorder.specs.Numbers.{big_number-reads_back, little_number-reads_back}

abbrev message_len : Message → ℕ
message_len m = 18 + length m.original + length m.translation

pub length-word_bytes : (order : Order) (number : ℕ) → length (word_bytes order number) ≡ 4
unfolding word_bytes
length-word_bytes Little number = refl
length-word_bytes Big number = refl

pub length-magic : (order : Order) → length (magic order) ≡ 4
length-magic Little = refl
length-magic Big = refl

pub length-table : (order : Order) (offset : ℕ) (strings : List (List ℕ)) →
    length (table order offset strings) ≡ 8 * length strings
length-table order offset [] = refl
length-table order offset (s ∷ ss) =
    simp (length-append, length-word_bytes, length-table order (offset + length s + 1) ss) (omega arith)

-- how long a layout is
pub length-layout : (order : Order) (messages : List Message) →
    length (layout order messages) ≡ 28 + 16 * length messages + length (terminated (originals messages)) + length
    (terminated (translations messages))
length-layout order messages =
    simp (length-append, length-magic, length-word_bytes, length-table, length-map) (omega arith)

originals-strings : (messages : List Message) → originals messages ≡ strings_of Original messages
originals-strings [] = refl
originals-strings (m ∷ ms) = ap (λ ss. m.original ∷ ss) (originals-strings ms)

translations-strings : (messages : List Message) → translations messages ≡ strings_of Translation messages
translations-strings [] = refl
translations-strings (m ∷ ms) = ap (λ ss. m.translation ∷ ss) (translations-strings ms)

sum_by-message_len : (messages : List Message) →
    sum_by message_len messages
    ≡ 16 * length messages + length (terminated (originals messages))
    + length (terminated (translations messages))
sum_by-message_len [] = refl
sum_by-message_len (m ∷ ms) =
    sum_by-cons message_len m ms
    ∙ simp length-append (omega (arith, sum_by-message_len ms))

-- pairs of any kind, as messages
module _ {P : Type 0} (f : P → Message) where
  -- what a pair adds to the length of a file
  abbrev pub pair_len : P → ℕ
  pair_len pair = 18 + length (f pair).original + length (f pair).translation

  sum_by-pairs : (pairs : List P) → sum_by message_len (map f pairs) ≡ sum_by pair_len pairs
  sum_by-pairs [] = refl
  sum_by-pairs (p ∷ ps) = sum_by-cons message_len (f p) (map f ps) ∙ ap (λ n. pair_len p + n) (sum_by-pairs ps)
      ∙ sym (sum_by-cons pair_len p ps)

  -- how long the layout is, pair by pair
  pub length-layout-pairs : (order : Order) (pairs : List P)
      → length (layout order (map f pairs)) ≡ 28 + sum_by pair_len pairs
  length-layout-pairs order pairs =
      omega (arith, length-layout order (map f pairs), sum_by-message_len (map f pairs), sum_by-pairs pairs)

  -- and by its parts
  pub length-layout-strings : (order : Order) (pairs : List P) →
      length (layout order (map f pairs))
      ≡ 28 + 16 * length pairs + length (terminated (strings_of Original (map f pairs)))
      + length (terminated (strings_of Translation (map f pairs)))
  length-layout-strings order pairs =
      length-layout order (map f pairs)
      ∙ rw (originals-strings (map f pairs), translations-strings (map f pairs), length-map pairs f)

  pub layout-pairs : (order : Order) (pairs : List P) →
      layout order (map f pairs)
      ≡ header order (length pairs) ++ table order (28 + 16 * length pairs) (strings_of Original (map f pairs))
      ++ table order (28 + 16 * length pairs + length (terminated (strings_of Original (map f pairs))))
      (strings_of Translation (map f pairs))
      ++ terminated (strings_of Original (map f pairs)) ++ terminated (strings_of Translation (map f pairs))
  layout-pairs order pairs =
      rw (originals-strings (map f pairs), translations-strings (map f pairs), length-map pairs f)

  -- what is written part by part
  pub laid-out : (order : Order) (pairs : List P) (one two three four five : List ℕ) (tables second middle end : ℕ) →
      tables ≡ 28 → take tables one ≡ header order (length pairs) →
      take (tables + 8 * length pairs) two
      ≡ take tables one ++ table order (28 + 16 * length pairs) (strings_of Original (map f pairs)) →
      second ≡ 28 + 16 * length pairs + length (terminated (strings_of Original (map f pairs))) →
      take (tables + 8 * length pairs + 8 * length pairs) three
      ≡ take (tables + 8 * length pairs) two ++ table order second (strings_of Translation (map f pairs)) →
      take middle four ≡ take (28 + 16 * length pairs) three ++ terminated (strings_of Original (map f pairs)) →
      middle ≡ 28 + 16 * length pairs + length (terminated (strings_of Original (map f pairs))) →
      take end five ≡ take middle four ++ terminated (strings_of Translation (map f pairs)) →
      end ≡ middle + length (terminated (strings_of Translation (map f pairs))) →
      take (length (layout order (map f pairs))) five ≡ layout order (map f pairs)
  laid-out order pairs one two three four five tables second middle end t e1 e2 s e3 e4 m e5 d =
      let ms = map f pairs in
      let whole : length (layout order ms) ≡ end = omega (arith, length-layout-strings order pairs, m, d) in
      let at : 28 + 16 * length pairs ≡ tables + 8 * length pairs + 8 * length pairs = omega (arith, t) in
      let tables_there : take (28 + 16 * length pairs) three ≡ header order (length pairs)
      ++ table order (28 + 16 * length pairs) (strings_of Original ms)
      ++ table order second (strings_of Translation ms) =
      ap (λ n. take n three) at ∙ e3
      ∙ ap (λ l. l ++ table order second (strings_of Translation ms))
      (e2 ∙ ap (λ l. l ++ table order (28 + 16 * length pairs) (strings_of Original ms)) e1) in
      ap (λ n. take n five) whole
      ∙ e5
      ∙ ap (λ l. l ++ terminated (strings_of Translation ms))
      (e4 ∙ ap (λ l. l ++ terminated (strings_of Original ms)) tables_there)
      ∙ ap (λ n. header order (length pairs) ++ table order (28 + 16 * length pairs) (strings_of Original ms)
      ++ table order n (strings_of Translation ms) ++ terminated (strings_of Original ms)
      ++ terminated (strings_of Translation ms)) s
      ∙ sym (layout-pairs order pairs)

pub word_bytes-magic : (order : Order) → word_bytes order 0x950412de ≡ magic order
unfolding word_bytes
word_bytes-magic Little = refl
word_bytes-magic Big = refl

-- Reading what is laid out: where a part of a file stands, one word, one descriptor of a table with
-- its string.

-- a part of a file stands at an offset
pub record StandsAt (bytes : List ℕ) (offset : ℕ) (part : List ℕ) : Type 0 where
  pub prefix : List ℕ
  pub rest : List ℕ
  pub is : bytes ≡ prefix ++ (part ++ rest)
  pub after : length prefix ≡ offset

-- a part of a part stands after what the part begins with
pub StandsAt-part : {bytes : List ℕ} {offset : ℕ} (prefix part rest : List ℕ) {whole : List ℕ} {there : ℕ} →
    StandsAt bytes offset whole → whole ≡ prefix ++ (part ++ rest) → offset + length prefix ≡ there
    → StandsAt bytes there part
StandsAt-part prefix part rest stands is after = record {
  prefix = stands.prefix ++ prefix;
  rest = rest ++ stands.rest;
  is = stands.is ∙ rw is (simp append_assoc);
  after = omega (arith, length-append stands.prefix prefix, stands.after);
}

-- what stands at an offset is found there
drop-StandsAt : {bytes part : List ℕ} {offset : ℕ} (stands : StandsAt bytes offset part) →
    drop offset bytes ≡ part ++ stands.rest
drop-StandsAt {offset = offset} stands = rw stands.is (drop_at stands.prefix _ offset stands.after)

pub word_at-StandsAt : (order : Order) (bytes : List ℕ) (offset number : ℕ) →
    StandsAt bytes offset (word_bytes order number) → number < 2 ^ 32 → word_at order bytes offset ≡ number
unfolding word_at word_bytes
word_at-StandsAt Little bytes offset number stands small =
    rw (drop-StandsAt stands) (little_number-reads_back 4 number stands.rest small)
word_at-StandsAt Big bytes offset number stands small =
    rw (drop-StandsAt stands) (big_number-reads_back 4 number stands.rest small)

slice_range-StandsAt : {bytes : List ℕ} {offset : ℕ} (part : List ℕ) → StandsAt bytes offset part →
    slice_range bytes offset (offset + length part) ≡ part
slice_range-StandsAt {offset = offset} part stands =
    let len : length part ≡ offset + length part - offset = omega arith in
    rw (drop-StandsAt stands) (take_at part stands.rest _ len)

slice_get-append : (prefix : List ℕ) (x : ℕ) (rest : List ℕ) →
    slice_get (prefix ++ x ∷ rest) (length prefix) ≡ Some x
slice_get-append [] x rest = refl
slice_get-append (y ∷ ys) x rest = slice_get-append ys x rest

slice_get-StandsAt : {bytes : List ℕ} {offset x : ℕ} → StandsAt bytes offset (x ∷ []) →
    slice_get bytes offset ≡ Some x
slice_get-StandsAt stands = rw (stands.is, ← stands.after) (slice_get-append stands.prefix _ stands.rest)

-- what a table and strings come to after their first few
table-append : (order : Order) (start after : ℕ) (xs ys : List (List ℕ)) →
    start + length (terminated xs) ≡ after →
    table order start (xs ++ ys) ≡ table order start xs ++ table order after ys
table-append order start after [] ys is = let same : start ≡ after = omega arith in ap (λ b. table order b ys) same
table-append order start after (x ∷ xs) ys is =
    let len : length (terminated (x ∷ xs)) ≡ length x + 1 + length (terminated xs) = simp length-append in
    rw (table-append order (start + length x + 1) after xs ys (omega arith)) (simp append_assoc)

terminated-append : (xs ys : List (List ℕ)) → terminated (xs ++ ys) ≡ terminated xs ++ terminated ys
terminated-append [] ys = refl
terminated-append (x ∷ xs) ys = rw (terminated-append xs ys) (simp append_assoc)

-- string i of a table is s, inside the file, and a NUL follows it
pub record IsString (order : Order) (bytes : List ℕ) (at i : ℕ) (s : List ℕ) : Type 0 where
  pub string : string_at order bytes at i ≡ s
  pub inside : end_at order bytes at i < length bytes
  pub terminated : slice_get bytes (end_at order bytes at i) ≡ Some 0

-- one string among others, with its descriptor in the table
module _ (order : Order) (bytes : List ℕ) (at start : ℕ) (xs : List (List ℕ)) (s : List ℕ) (ys : List (List ℕ)) where
  abbrev after : ℕ
  after = start + length (terminated xs)

  module _ (in_table : StandsAt bytes at (table order start (xs ++ s ∷ ys))) (small : after + length s < 2 ^ 32) where
    abbrev later : List ℕ
    later = table order (after + length s + 1) ys

    len_here : word_at order bytes (at + 8 * length xs) ≡ length s
    len_here =
        let split : table order start (xs ++ s ∷ ys) ≡ table order start xs
        ++ (word_bytes order (length s) ++ (word_bytes order after ++ later)) =
        table-append order start after xs (s ∷ ys) refl ∙ simp append_assoc in
        word_at-StandsAt order bytes (at + 8 * length xs) (length s)
        (StandsAt-part (table order start xs) (word_bytes order (length s))
        (word_bytes order after ++ later) in_table split
        (omega (arith, length-table order start xs)))
        (omega arith)

    offset_here : offset_at order bytes at (length xs) ≡ after
    offset_here =
        let prefix = table order start xs ++ word_bytes order (length s) in
        let split : table order start (xs ++ s ∷ ys) ≡ prefix ++ (word_bytes order after ++ later) =
        table-append order start after xs (s ∷ ys) refl ∙ simp append_assoc in
        word_at-StandsAt order bytes (at + 8 * length xs + 4) after
        (StandsAt-part prefix (word_bytes order after) later in_table split
        (simp (length-append, length-word_bytes, length-table) (omega arith)))
        (omega arith)

  module _ (in_strings : StandsAt bytes start (terminated (xs ++ s ∷ ys))) where
    string_here : StandsAt bytes after s
    string_here =
        StandsAt-part (terminated xs) s (0 ∷ terminated ys) in_strings
        (terminated-append xs (s ∷ ys) ∙ simp append_assoc) refl

    nul_here : StandsAt bytes (after + length s) (0 ∷ [])
    nul_here =
        StandsAt-part (terminated xs ++ s) (0 ∷ []) (terminated ys) in_strings
        (terminated-append xs (s ∷ ys) ∙ simp append_assoc)
        (omega (arith, length-append (terminated xs) s))

-- a list around one of its items
split_at : (ss : List (List ℕ)) (i : ℕ) (s : List ℕ) → slice_get ss i ≡ Some s →
    ss ≡ take i ss ++ s ∷ drop (suc i) ss
split_at [] i s is = cc
split_at (x ∷ xs) zero s is = cc
split_at (x ∷ xs) (suc i) s is = ap (λ rest. x ∷ rest) (split_at xs i s is)

-- each string of a table that stands in a file, with the strings where the table says
pub IsString-laid_out : (order : Order) (bytes : List ℕ) (at start : ℕ) (ss : List (List ℕ)) →
    StandsAt bytes at (table order start ss) →
    StandsAt bytes start (terminated ss) → start + length (terminated ss) < 2 ^ 32 →
    (i : ℕ) (s : List ℕ) → slice_get ss i ≡ Some s → IsString order bytes at i s
unfolding string_at
IsString-laid_out order bytes at start ss in_table in_strings small i s here =
    let xs = take i ss in
    let ys = drop (suc i) ss in
    let split = split_at ss i s here in
    let len : length xs ≡ i = length-take-le i ss (omega (arith, slice_get_within ss i s here)) in
    let entries = rw split at in_table in
    let strings = rw split at in_strings in
    let lengths : length (terminated (xs ++ s ∷ ys))
    ≡ length (terminated xs) + (length s + 1 + length (terminated ys)) =
    rw (terminated-append xs (s ∷ ys)) (simp length-append) in
    let short : start + length (terminated xs) + length s < 2 ^ 32 = omega (arith, rw split at small) in
    let string_len = rw len at (len_here order bytes at start xs s ys entries short) in
    let offset = rw len at (offset_here order bytes at start xs s ys entries short) in
    let nul : slice_get bytes (end_at order bytes at i) ≡ Some 0 =
    rw (offset, string_len) (slice_get-StandsAt (nul_here order bytes at start xs s ys strings)) in
    record {
      string = rw (offset, string_len) (slice_range-StandsAt s (string_here order bytes at start xs s ys strings));
      inside = slice_get_within bytes (end_at order bytes at i) 0 nul;
      terminated = nul;
    }
