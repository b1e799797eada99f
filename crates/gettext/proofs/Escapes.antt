-- A text with its escapes expanded: each is read where it is spelt, and what is read as one is spelt.
use Rattle.gettext.proofs.Prelude.{Bool, Escape, Expands, IsNoEscape, List, NoOctalFirst, None, Option, Some, SpellsByte, [], alert, and_from, and_parts, ap, append-nil, append_assoc, arith, backslash, backspace, byte-at, byte-here, byte-later, carriage_return, cases_Bool, cond-false, cond-true, cond_both, drop, drop_all, eqb, eqb-false, eqb-true, escape as expands_escape, escape_after, expansion, false, false_from_ne_true, false≢true, filter_map, form_feed, get_or, given_bytes, given_bytes_after, has_no_newline, inl, inr, is_byte, is_none, is_octal, le-leb, leb-true, length, letter, letter_escape, line_feed, list_any, min, ne_eqb, no_newline, nothing as expands_nothing, octal_prefix, octal_value, one_digit, or-false, plain, position_or_len, prefix_len, prefix_len_is, refl, stays, subst, suc, sym, tab, take, take_min, take_while-cons, three_digits, true, two_digits, vertical_tab, zero, ℕ, ◌%◌, ◌*◌, ◌++◌, ◌+◌, ◌-◌, ◌<◌, ◌==◌, ◌||◌, ◌↔◌, ◌∙◌, ◌∷◌, ◌≡◌, ◌≤◌}
use Rattle.std.specs.List.{take_while}
use Rattle.std.proofs.lemmas.Option.{none-some}

-- skipped bytes leave the text after them
given_bytes-skipped : (n : ℕ) (bs : List ℕ) → given_bytes_after n bs ≡ given_bytes_after 0 (drop n bs)
unfolding given_bytes_after
given_bytes-skipped zero bs = refl
given_bytes-skipped (suc n) [] = refl
given_bytes-skipped (suc n) (b ∷ bs) = given_bytes-skipped n bs

-- a byte that is no backslash stands for itself
pub given_bytes-plain : (b : ℕ) (bs : List ℕ) → eqb b 92 ≡ false
    → given_bytes_after 0 (b ∷ bs) ≡ Some b ∷ given_bytes_after 0 bs
unfolding given_bytes_after
given_bytes-plain b bs other =
    ap (λ e. given_bytes b e (λ skip. given_bytes_after skip bs)) (cond-false (eqb b 92) (escape_after bs) None other)

-- a backslash that begins no escape stays
pub given_bytes-stays : (bs : List ℕ) → escape_after bs ≡ None
    → given_bytes_after 0 (92 ∷ bs) ≡ Some 92 ∷ given_bytes_after 0 bs
unfolding given_bytes_after
given_bytes-stays bs none = ap (λ e. given_bytes 92 e (λ skip. given_bytes_after skip bs)) none

-- an escape gives its byte, if it has one
pub given_bytes-escape : (bs : List ℕ) (e : Escape) → escape_after bs ≡ Some e
    → given_bytes_after 0 (92 ∷ bs) ≡ e.byte ∷ given_bytes_after 0 (drop e.size bs)
unfolding given_bytes_after
given_bytes-escape bs e some = ap (λ o. given_bytes 92 o (λ skip. given_bytes_after skip bs)) some
    ∙ ap (λ us. e.byte ∷ us) (given_bytes-skipped e.size bs)

pub given_bytes-escape-is : (bs : List ℕ) (e : Escape) {byte : Option ℕ} → escape_after bs ≡ Some e → e.byte ≡ byte
    → given_bytes_after 0 (92 ∷ bs) ≡ byte ∷ given_bytes_after 0 (drop e.size bs)
given_bytes-escape-is bs e some is =
    given_bytes-escape bs e some ∙ ap (λ b. b ∷ given_bytes_after 0 (drop e.size bs)) is

-- the bytes before the first backslash
prefix-bytes : (bs : List ℕ)
    → expansion bs ≡ take (position_or_len (is_byte 92) bs) bs ++ expansion (drop (position_or_len (is_byte 92) bs) bs)
prefix-bytes [] = refl
prefix-bytes (b ∷ bs) = elim (cases_Bool (eqb b 92)) [
  | inl e ↦ rw (byte-here 92 b bs e)
  | inr e ↦ rw (byte-later 92 b bs e)
      (ap (filter_map (λ u. u)) (given_bytes-plain b bs e) ∙ ap (λ l. b ∷ l) (prefix-bytes bs))
]

prefix-newline : (bs : List ℕ) → has_no_newline bs ≡ has_no_newline (drop (position_or_len (is_byte 92) bs) bs)
prefix-newline [] = refl
prefix-newline (b ∷ bs) = elim (cases_Bool (eqb b 92)) [
  | inl e ↦ rw (byte-here 92 b bs e)
  | inr e ↦ rw (byte-later 92 b bs e) (ap (list_any (λ u. is_none u)) (given_bytes-plain b bs e) ∙ prefix-newline bs)
]

prefix-at : (bs : List ℕ) (n : ℕ) → n ≡ position_or_len (is_byte 92) bs
    → expansion bs ≡ take n bs ++ expansion (drop n bs)
prefix-at bs n index = subst (λ m. expansion bs ≡ take m bs ++ expansion (drop m bs)) (sym index) (prefix-bytes bs)

newline-at : (bs : List ℕ) (n : ℕ) → n ≡ position_or_len (is_byte 92) bs
    → has_no_newline bs ≡ has_no_newline (drop n bs)
newline-at bs n index = prefix-newline bs ∙ ap (λ m. has_no_newline (drop m bs)) (sym index)

-- where no backslash is left
pub end-bytes : (bytes bs all : List ℕ) (n : ℕ) → bytes ++ expansion bs ≡ all → n ≡ position_or_len (is_byte 92) bs
    → n ≡ length bs → bytes ++ take n bs ≡ all
unfolding given_bytes_after
end-bytes bytes bs all n inv index end =
    let nothing : drop n bs ≡ [] = drop_all n bs (omega arith) in
    ap (λ l. bytes ++ l) (sym
    (prefix-at bs n index ∙ ap (λ l. take n bs ++ expansion l) nothing ∙ append-nil (take n bs))) ∙ inv

pub end-newline : (found all : Bool) (bs : List ℕ) (n : ℕ) → (found || has_no_newline bs) ≡ all
    → n ≡ position_or_len (is_byte 92) bs → n ≡ length bs → found ≡ all
unfolding given_bytes_after
end-newline found all bs n inv index end =
    let nothing : drop n bs ≡ [] = drop_all n bs (omega arith) in
    sym (or-false found) ∙ ap (λ b. found || b) (sym (newline-at bs n index ∙ ap has_no_newline nothing)) ∙ inv

-- a backslash that gives a byte, after plain bytes
pub some-bytes : (bytes bs all : List ℕ) (n byte : ℕ) (rest : List ℕ) → bytes ++ expansion bs ≡ all
    → n ≡ position_or_len (is_byte 92) bs → n < length bs
    → given_bytes_after 0 (92 ∷ drop (n + 1) bs) ≡ Some byte ∷ given_bytes_after 0 rest
    → ((bytes ++ take n bs) ++ byte ∷ []) ++ expansion rest ≡ all
some-bytes bytes bs all n byte rest inv index short given =
    append_assoc (bytes ++ take n bs) (byte ∷ []) (expansion rest)
    ∙ append_assoc bytes (take n bs) (byte ∷ expansion rest)
    ∙ ap (λ l. bytes ++ (take n bs ++ l))
    (sym (ap expansion (byte-at 92 bs n index short) ∙ ap (filter_map (λ u. u)) given))
    ∙ ap (λ l. bytes ++ l) (sym (prefix-at bs n index)) ∙ inv

-- one that gives none
pub none-bytes : (bytes bs all : List ℕ) (n : ℕ) (rest : List ℕ) → bytes ++ expansion bs ≡ all
    → n ≡ position_or_len (is_byte 92) bs → n < length bs
    → given_bytes_after 0 (92 ∷ drop (n + 1) bs) ≡ None ∷ given_bytes_after 0 rest
    → (bytes ++ take n bs) ++ expansion rest ≡ all
none-bytes bytes bs all n rest inv index short given =
    append_assoc bytes (take n bs) (expansion rest)
    ∙ ap (λ l. bytes ++ (take n bs ++ l))
    (sym (ap expansion (byte-at 92 bs n index short) ∙ ap (filter_map (λ u. u)) given))
    ∙ ap (λ l. bytes ++ l) (sym (prefix-at bs n index)) ∙ inv

pub more-newline : (found all : Bool) (bs : List ℕ) (n : ℕ) (byte : Option ℕ) (rest : List ℕ)
    → (found || has_no_newline bs) ≡ all → n ≡ position_or_len (is_byte 92) bs → n < length bs
    → given_bytes_after 0 (92 ∷ drop (n + 1) bs) ≡ byte ∷ given_bytes_after 0 rest
    → (found || (is_none byte || has_no_newline rest)) ≡ all
more-newline found all bs n byte rest inv index short given =
    ap (λ b. found || b) (sym
    (newline-at bs n index ∙ ap has_no_newline (byte-at 92 bs n index short)
    ∙ ap (list_any (λ u. is_none u)) given)) ∙ inv

-- where no octal digit stands first, and where one does
pub escape-letter : (bs : List ℕ) → (bs ≡ [] → ⊥) → octal_prefix bs ≡ []
    → escape_after bs ≡ letter_escape (get_or bs 0 0)
unfolding escape_after
escape-letter [] some none = absurd (some refl)
escape-letter (b ∷ bs) some none = elim (cases_Bool (is_octal b)) [
  | inl t ↦ absurd (cc (
    cond-true (is_octal b) (b ∷ take_while is_octal (take 2 bs)) [] t,
    take_while-cons is_octal b (take 2 bs),
    none,
  ))
  | inr f ↦ cond-false (is_octal b) _ _ f
]

pub escape-octal : (bs : List ℕ) (value size : ℕ) (run : List ℕ) → run ≡ octal_prefix bs → value ≡ octal_value run
    → length run ≡ size → (size ≡ 0 → ⊥)
    → escape_after bs ≡ Some (record { byte = Some value; size = size })
unfolding escape_after
escape-octal [] value size run is v long some = absurd (some (sym long ∙ ap length is))
escape-octal (b ∷ bs) value size run is v long some = rw (v, ← long, is) (elim (cases_Bool (is_octal b)) [
  | inl t ↦ cond-true (is_octal b) _ _ t
  | inr f ↦ absurd (some (sym long ∙ ap length (is ∙ take_while-cons is_octal b (take 2 bs)
      ∙ cond-false (is_octal b) _ _ f)))
])

pub escape-none : (bs : List ℕ) → bs ≡ [] → escape_after bs ≡ None
unfolding escape_after
escape-none bs none = ap escape_after none

-- octal digits that are read of the first three bytes, or of all, up to another byte
pub octal_prefix-read : (bs : List ℕ) (n size : ℕ) → n ≡ min (length bs) 3 → size ≤ length (take n bs)
    → ((k : ℕ) → k < size → is_octal (get_or (take n bs) k 0) ≡ true)
    → (size < length (take n bs) → is_octal (get_or (take n bs) size 0) ≡ false)
    → take size (take n bs) ≡ octal_prefix bs
octal_prefix-read bs n size e within octal ends =
    let prefix : take n bs ≡ take 3 bs = ap (λ m. take m bs) (e ∙ grind arith) ∙ take_min 3 bs in
    ap (λ m. take m (take n bs)) (sym (prefix_len_is is_octal (take n bs) size 0 within octal ends))
    ∙ ap (λ l. take (prefix_len is_octal l) l) prefix

-- Each escape is read where it is spelt, and what is read as one is spelt.

octal_digit : (a : ℕ) → a < 8 → is_octal (48 + a) ≡ true
octal_digit a l = and_from _ _ (le-leb 48 (48 + a) (omega arith)) (le-leb (48 + a) 55 (omega (arith, l)))

not_octal : (b : ℕ) → (48 ≤ b → b ≤ 55 → ⊥) → is_octal b ≡ false
not_octal b h = false_from_ne_true (is_octal b)
    (λ t. let p = and_parts _ _ t in h (leb-true 48 b p.0) (leb-true b 55 p.1))

no_octal : (b : ℕ) → is_octal b ≡ false → 48 ≤ b → b ≤ 55 → ⊥
no_octal b e least most = false≢true (sym e ∙ and_from _ _ (le-leb 48 b least) (le-leb b 55 most))

digit_of : (b : ℕ) → is_octal b ≡ true → (a : ℕ) × (b ≡ 48 + a) × (a < 8)
digit_of b e =
    let p = and_parts _ _ e in
    let least = leb-true 48 b p.0 in
    let most = leb-true b 55 p.1 in (b - 48, omega (arith, least), omega (arith, least, most))

-- a run of octal digits goes on over one more
run_on : (a : ℕ) (text : List ℕ) → a < 8 → take_while is_octal ((48 + a) ∷ text) ≡ (48 + a) ∷ take_while is_octal text
run_on a text l = take_while-cons is_octal (48 + a) text ∙ cond-true (is_octal (48 + a)) _ _ (octal_digit a l)

run_ends : (n : ℕ) (text : List ℕ) → NoOctalFirst text → take_while is_octal (take n text) ≡ []
run_ends zero text h = refl
run_ends (suc n) [] h = refl
run_ends (suc n) (b ∷ text) h = take_while-cons is_octal b (take n text) ∙ cond-false (is_octal b) _ _ (not_octal b h)

one_run : (a : ℕ) (rest : List ℕ) → a < 8 → NoOctalFirst rest → octal_prefix ((48 + a) ∷ rest) ≡ (48 + a) ∷ []
one_run a rest l none = run_on a (take 2 rest) l ∙ ap (λ r. (48 + a) ∷ r) (run_ends 2 rest none)

two_run : (a b : ℕ) (rest : List ℕ) → a < 8 → b < 8 → NoOctalFirst rest
    → octal_prefix ((48 + a) ∷ (48 + b) ∷ rest) ≡ (48 + a) ∷ (48 + b) ∷ []
two_run a b rest l m none =
    run_on a ((48 + b) ∷ take 1 rest) l
    ∙ ap (λ r. (48 + a) ∷ r) (run_on b (take 1 rest) m ∙ ap (λ r. (48 + b) ∷ r) (run_ends 1 rest none))

three_run : (a b c : ℕ) (rest : List ℕ) → a < 8 → b < 8 → c < 8
    → octal_prefix ((48 + a) ∷ (48 + b) ∷ (48 + c) ∷ rest) ≡ (48 + a) ∷ (48 + b) ∷ (48 + c) ∷ []
three_run a b c rest l m k =
    run_on a ((48 + b) ∷ (48 + c) ∷ []) l
    ∙ ap (λ r. (48 + a) ∷ r) (run_on b ((48 + c) ∷ []) m ∙ ap (λ r. (48 + b) ∷ r) (run_on c [] k))

abbrev gives : ℕ → ℕ → Option Escape
gives b size = Some (record { byte = Some b; size = size })

run_read : (a b size : ℕ) (text run : List ℕ) → a < 8 → octal_prefix ((48 + a) ∷ text) ≡ run → octal_value run ≡ b
    → length run ≡ size → escape_after ((48 + a) ∷ text) ≡ gives b size
unfolding escape_after
run_read a b size text run l is value long =
    cond-true (is_octal (48 + a))
    (Some (record {
      byte = Some (octal_value (octal_prefix ((48 + a) ∷ text)));
      size =
          length (octal_prefix ((48 + a) ∷ text));
    })) _ (octal_digit a l)
    ∙ ap (λ (r : List ℕ). gives (octal_value r) (length r)) is ∙ ap (λ (n : ℕ). gives n (length run)) value
    ∙ ap (λ (n : ℕ). gives b n) long

one_read : (a : ℕ) (rest : List ℕ) → a < 8 → NoOctalFirst rest → escape_after ((48 + a) ∷ rest) ≡ gives a 1
one_read a rest l none = run_read a a 1 rest ((48 + a) ∷ []) l (one_run a rest l none) (omega (arith, l)) refl

two_read : (a b : ℕ) (rest : List ℕ) → a < 8 → b < 8 → NoOctalFirst rest
    → escape_after ((48 + a) ∷ (48 + b) ∷ rest) ≡ gives (8 * a + b) 2
two_read a b rest l m none =
    run_read a (8 * a + b) 2 ((48 + b) ∷ rest) ((48 + a) ∷ (48 + b) ∷ []) l (two_run a b rest l m none)
    (omega (arith, l, m)) refl

three_read : (a b c : ℕ) (rest : List ℕ) → a < 8 → b < 8 → c < 8
    → escape_after ((48 + a) ∷ (48 + b) ∷ (48 + c) ∷ rest) ≡ gives ((64 * a + 8 * b + c) % 256) 3
three_read a b c rest l m k =
    run_read a ((64 * a + 8 * b + c) % 256) 3 ((48 + b) ∷ (48 + c) ∷ rest) ((48 + a) ∷ (48 + b) ∷ (48 + c) ∷ []) l
    (three_run a b c rest l m k) (omega (arith, l, m, k)) refl

-- what is read of a spelt escape
pub record IsRead (text : List ℕ) (byte : Option ℕ) (rest : List ℕ) : Type 0 where
  pub escape : Escape
  pub read : escape_after text ≡ Some escape
  pub byte_is : escape.byte ≡ byte
  pub after : drop escape.size text ≡ rest

letter_read : (a b : ℕ) (rest : List ℕ) → escape_after (a ∷ rest) ≡ gives b 1 → IsRead (a ∷ rest) (Some b) rest
letter_read a b rest e = record { escape = record { byte = Some b; size = 1 }; read = e; byte_is = refl; after = refl }

pub byte_read : {text rest : List ℕ} {b : ℕ} → SpellsByte text b rest → IsRead text (Some b) rest
unfolding escape_after letter_escape
byte_read (alert {rest = rest}) = letter_read 97 7 rest refl
byte_read (backspace {rest = rest}) = letter_read 98 8 rest refl
byte_read (form_feed {rest = rest}) = letter_read 102 12 rest refl
byte_read (line_feed {rest = rest}) = letter_read 110 10 rest refl
byte_read (carriage_return {rest = rest}) = letter_read 114 13 rest refl
byte_read (tab {rest = rest}) = letter_read 116 9 rest refl
byte_read (vertical_tab {rest = rest}) = letter_read 118 11 rest refl
byte_read (backslash {rest = rest}) = letter_read 92 92 rest refl
byte_read (one_digit a {rest = rest} l none) =
    record { escape = record { byte = Some a; size = 1 }; read = one_read a rest l none; byte_is = refl; after = refl }
byte_read (two_digits a b {rest = rest} l m none) =
    record {
      escape = record { byte = Some (8 * a + b); size = 2 };
      read = two_read a b rest l m none;
      byte_is = refl;
      after = refl;
    }
byte_read (three_digits a b c {rest = rest} l m k) =
    record {
      escape = record { byte = Some ((64 * a + 8 * b + c) % 256); size = 3 };
      read = three_read a b c rest l m k;
      byte_is = refl;
      after = refl;
    }

pub c_read : (rest : List ℕ) → escape_after (99 ∷ rest) ≡ Some (record { byte = None; size = 1 })
unfolding escape_after letter_escape
c_read rest = refl

-- what is read as an escape is spelt
abbrev pub ByteSays : List ℕ → Option ℕ → ℕ → Type 0
ByteSays text None size = text ≡ 99 ∷ drop size text
ByteSays text (Some b) size = SpellsByte text b (drop size text)

abbrev Says : List ℕ → Option Escape → Type 0
Says text None = Unit {0}
Says text (Some e) = ByteSays text e.byte e.size

octal_says : (a : ℕ) (text : List ℕ) → a < 8 → Says ((48 + a) ∷ text) (escape_after ((48 + a) ∷ text))
octal_says a text l = more text where
  one : (rest : List ℕ) → NoOctalFirst rest → Says ((48 + a) ∷ rest) (escape_after ((48 + a) ∷ rest))
  one rest none = rw (one_read a rest l none) (one_digit a l none)

  two : (b : ℕ) (rest : List ℕ) → b < 8 → NoOctalFirst rest
      → Says ((48 + a) ∷ (48 + b) ∷ rest) (escape_after ((48 + a) ∷ (48 + b) ∷ rest))
  two b rest m none = rw (two_read a b rest l m none) (two_digits a b l m none)

  three : (b c : ℕ) (rest : List ℕ) → b < 8 → c < 8
      → Says ((48 + a) ∷ (48 + b) ∷ (48 + c) ∷ rest) (escape_after ((48 + a) ∷ (48 + b) ∷ (48 + c) ∷ rest))
  three b c rest m k = rw (three_read a b c rest l m k) (three_digits a b c l m k)

  third : (b : ℕ) → b < 8 → (rest : List ℕ)
      → Says ((48 + a) ∷ (48 + b) ∷ rest) (escape_after ((48 + a) ∷ (48 + b) ∷ rest))
  third b m [] = two b [] m tt
  third b m (c ∷ rest) =
      elim (cases_Bool (is_octal c)) [
        | inl e ↦ let d = digit_of c e in
            subst (λ x. Says ((48 + a) ∷ (48 + b) ∷ x ∷ rest) (escape_after ((48 + a) ∷ (48 + b) ∷ x ∷ rest))) (sym d.1)
            (three b d.0 rest m d.2)
        | inr e ↦ two b (c ∷ rest) m (no_octal c e)
      ]

  more : (rest : List ℕ) → Says ((48 + a) ∷ rest) (escape_after ((48 + a) ∷ rest))
  more [] = one [] tt
  more (b ∷ rest) =
      elim (cases_Bool (is_octal b)) [
        | inl e ↦ let d = digit_of b e in
            subst (λ x. Says ((48 + a) ∷ x ∷ rest) (escape_after ((48 + a) ∷ x ∷ rest))) (sym d.1) (third d.0 d.2 rest)
        | inr e ↦ one (b ∷ rest) (no_octal b e)
      ]

letter_says : (b : ℕ) (text : List ℕ) → Says (b ∷ text) (letter_escape b)
unfolding letter_escape
letter_says b text =
    cond_both (b == 97) _ _ (Says (b ∷ text)) (λ e. rw (eqb-true b 97 e) alert) (λ _.
    cond_both (b == 98) _ _ (Says (b ∷ text)) (λ e. rw (eqb-true b 98 e) backspace) (λ _.
    cond_both (b == 102) _ _ (Says (b ∷ text)) (λ e. rw (eqb-true b 102 e) form_feed) (λ _.
    cond_both (b == 110) _ _ (Says (b ∷ text)) (λ e. rw (eqb-true b 110 e) line_feed) (λ _.
    cond_both (b == 114) _ _ (Says (b ∷ text)) (λ e. rw (eqb-true b 114 e) carriage_return) (λ _.
    cond_both (b == 116) _ _ (Says (b ∷ text)) (λ e. rw (eqb-true b 116 e) tab) (λ _.
    cond_both (b == 118) _ _ (Says (b ∷ text)) (λ e. rw (eqb-true b 118 e) vertical_tab) (λ _.
    cond_both (b == 92) _ _ (Says (b ∷ text)) (λ e. rw (eqb-true b 92 e) backslash) (λ _.
    cond_both (b == 99) (letter None) None (Says (b ∷ text)) (λ e. ap (λ a. a ∷ text) (eqb-true b 99 e))
    (λ _. tt)))))))))

says : (text : List ℕ) → Says text (escape_after text)
unfolding escape_after
says [] = tt
says (b ∷ text) = elim (cases_Bool (is_octal b)) [
  | inl e ↦ let d = digit_of b e in rw d.1 (octal_says d.0 text d.2)
  | inr e ↦ rw e (letter_says b text)
]

pub escape_spelt : (text : List ℕ) (e : Escape) → escape_after text ≡ Some e → ByteSays text e.byte e.size
escape_spelt text e is = subst (Says text) is (says text)

-- The expansion of a text is the text with its escapes expanded.

no_escape : (text : List ℕ) → escape_after text ≡ None → IsNoEscape text
no_escape text none = record {
  no_byte = λ b rest h. let read = byte_read h in none-some read.escape (sym none ∙ read.read);
  not_c = λ rest is. none-some _ (sym none ∙ ap escape_after is ∙ c_read rest);
}

none_read : (text : List ℕ) (o : Option Escape) → escape_after text ≡ o → IsNoEscape text → escape_after text ≡ None
none_read text None e none = e
none_read text (Some found) e none = absurd (non_empty found.byte refl) where
  non_empty : (byte : Option ℕ) → found.byte ≡ byte → ⊥
  non_empty None is = none.not_c _ (subst (λ b. ByteSays text b found.size) is (escape_spelt text found e))
  non_empty (Some b) is = none.no_byte b _ (subst (λ b. ByteSays text b found.size) is (escape_spelt text found e))

-- the bytes that are given, and whether one of them is no byte
abbrev Makes : List ℕ → List (Option ℕ) → Type 0
Makes text given = Expands text (filter_map (λ u. u) given) (list_any (λ u. is_none u) given)

escape_makes : (text : List ℕ) (byte : Option ℕ) (size : ℕ) → ByteSays text byte size
    → ((skip : ℕ) → Makes (drop skip text) (given_bytes_after skip text))
    → Makes (92 ∷ text) (byte ∷ given_bytes_after size text)
escape_makes text None size says later =
    subst (λ t. Makes (92 ∷ t) (None ∷ given_bytes_after size text)) (sym says) (no_newline (later size))
escape_makes text (Some b) size says later = expands_escape says (later size)

backslash_makes : (text : List ℕ) (o : Option Escape) → escape_after text ≡ o
    → ((skip : ℕ) → Makes (drop skip text) (given_bytes_after skip text))
    → Makes (92 ∷ text) (given_bytes 92 o (λ skip. given_bytes_after skip text))
backslash_makes text None e later = stays (no_escape text e) (later 0)
backslash_makes text (Some found) e later = escape_makes text found.byte found.size (escape_spelt text found e) later

after : (text : List ℕ) (skip : ℕ) → Makes (drop skip text) (given_bytes_after skip text)
unfolding given_bytes_after
after [] zero = expands_nothing
after [] (suc skip) = expands_nothing
after (b ∷ text) (suc skip) = after text skip
after (b ∷ text) zero =
    cond_both (eqb b 92) (escape_after text) None
    (λ o. Makes (b ∷ text) (given_bytes b o (λ skip. given_bytes_after skip text)))
    (λ e. subst (λ a. Makes (a ∷ text) (given_bytes a (escape_after text) (λ skip. given_bytes_after skip text)))
    (sym (eqb-true b 92 e))
    (backslash_makes text (escape_after text) refl (after text)))
    (λ e. plain (eqb-false b 92 e) (after text 0))

-- the expansion of a text, and whether it holds `\c`, are these
abbrev Are : List ℕ → List ℕ → Bool → Type 0
Are text bytes without_newline = (bytes ≡ expansion text) × (without_newline ≡ has_no_newline text)

are_more : (text rest bytes : List ℕ) (b : ℕ) (without_newline : Bool)
    → given_bytes_after 0 text ≡ Some b ∷ given_bytes_after 0 rest → Are rest bytes without_newline
    → Are text (b ∷ bytes) without_newline
are_more text rest bytes b without_newline given are =
    (ap (λ l. b ∷ l) are.0 ∙ ap (filter_map (λ u. u)) (sym given), are.1 ∙ ap (list_any (λ u. is_none u)) (sym given))

read_bytes : (text rest : List ℕ) (b : ℕ) → SpellsByte text b rest
    → given_bytes_after 0 (92 ∷ text) ≡ Some b ∷ given_bytes_after 0 rest
read_bytes text rest b h =
    let read = byte_read h in
    given_bytes-escape text read.escape read.read
    ∙ ap (λ o. o ∷ given_bytes_after 0 (drop read.escape.size text)) read.byte_is
    ∙ ap (λ l. Some b ∷ given_bytes_after 0 l) read.after

are_expanded : {text bytes : List ℕ} {without_newline : Bool} → Expands text bytes without_newline
    → Are text bytes without_newline
unfolding given_bytes_after
are_expanded expands_nothing = (refl, refl)
are_expanded (plain {b = b} {text = text} {bytes = bytes} {without_newline = without_newline} other more) =
    are_more (b ∷ text) text bytes b without_newline (given_bytes-plain b text (ne_eqb b 92 other)) (are_expanded more)
are_expanded (expands_escape {b = b} {text = text} {rest = rest} {bytes = bytes}
    {without_newline = without_newline} spelt more) =
    are_more (92 ∷ text) rest bytes b without_newline (read_bytes text rest b spelt) (are_expanded more)
are_expanded (no_newline {text = text} {bytes = bytes} more) =
    let given = given_bytes-escape (99 ∷ text) (record { byte = None; size = 1 }) (c_read text) in
    ((are_expanded more).0 ∙ ap (filter_map (λ u. u)) (sym given), ap (list_any (λ u. is_none u)) (sym given))
are_expanded (stays {text = text} {bytes = bytes} {without_newline = without_newline} none more) =
    are_more (92 ∷ text) text bytes 92 without_newline
    (given_bytes-stays text (none_read text (escape_after text) refl none)) (are_expanded more)

pub escapes_expanded : (text bytes : List ℕ) (without_newline : Bool)
    → ((bytes ≡ expansion text) × (without_newline ≡ has_no_newline text)) ↔ Expands text bytes without_newline
escapes_expanded text bytes without_newline = (
  λ are. subst (λ b. Expands text b without_newline) (sym are.0)
      (subst (Expands text (expansion text)) (sym are.1) (after text 0)),
  λ h. are_expanded h,
)
