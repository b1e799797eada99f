-- The token at the beginning of a text: numerals, and the longest that it spells.
use Rattle.plural_rule.proofs.Prelude.{Add, AllDigits, And, AtLeast, AtMost, BeginsWithDouble, Close, Colon, Divide, Equal, Greater, HasNoDouble, HasNoToken, IsLongest, IsSpelling, IsTokenAt, IsTooLarge, Less, Lexes, List, Multiply, NotEqual, Open, Operator, Or, Question, Remainder, Some, Subtract, Token, [], ap, append-nil, arith, blank, cond-true, cond_both, digit_value, digits_number, digits_value, digits_value_more, drop, drop-cons, end, false, false≢true, get_or, if◌then◌else◌, inl, inr, is_ascii_digit, is_blank, length, length-drop, nat_tests, operator_bytes, prefix_len, prefix_len-le-length, prefix_len_stops, refl, subst, suc, sym, take, take-append-drop, take_while, take_while-cons, token, true, zero, ℕ, ◌*◌, ◌++◌, ◌+◌, ◌-◌, ◌<◌, ◌==◌, ◌^◌, ◌∙◌, ◌∷◌, ◌≡◌, ◌≢◌, ◌≤◌, ◌⊎◌}
use Rattle.std.proofs.lemmas.Str.{digit_value_digit}
use Rattle.std.proofs.lemmas.Str.Parse.{digit_from_value, digits_value-take-le}
use Rattle.plural_rule.specs.declared.token.Token.TheVariants.{Binary, Count, Not, Number}
use Rattle.std.proofs.lemmas.List.Folds.{length-prefix_len}

-- the value of all digits is at least that of the first
pub digits_value-grows : (digits : List ℕ) (i : ℕ) → i < length digits
    → digits_value 10 (take i digits) * 10 + digit_value (get_or digits i 0) ≤ digits_value 10 digits
digits_value-grows digits i h =
    rw (sym (digits_value_more 10 digits i h)) (digits_value-take-le 10 digits (i + 1) (omega arith))

-- a decimal digit is worth less than ten, and what is worth less than ten is one
pub digit_below_ten : (c : ℕ) → is_ascii_digit c ≡ true → digit_value c < 10
digit_below_ten c h =
    let range : (48 ≤ c) × (c ≤ 57) = (grind (arith, nat_tests), grind (arith, nat_tests)) in
    omega (arith, range.0, range.1, digit_value_digit c range)

pub below_ten_digit : (c : ℕ) → digit_value c < 10 → is_ascii_digit c ≡ true
below_ten_digit c h =
    let range = digit_from_value c h in
    grind (arith, nat_tests, range.0, range.1)

-- what each of some decimal digits is worth
pub digit-value : (digits : List ℕ) (i : ℕ) → AllDigits 10 digits → i < length digits
    → digit_value (get_or digits i 0) + 48 ≡ get_or digits i 0
digit-value [] i h l = absurd (omega arith)
digit-value (c ∷ digits) zero h l = digit_value_digit c (digit_from_value c h.0)
digit-value (c ∷ digits) (suc i) h l = digit-value digits i h.1 (omega arith)

pub digits_number-some : (digits : List ℕ) → 0 < length digits → digits_number digits ≡ Some (digits_value 10 digits)
digits_number-some [] h = absurd (omega arith)
digits_number-some (c ∷ digits) h = refl

-- What a text spells begins with at most one longest token.

-- what is known of bytes that spell a token, by a function of the bytes
abbrev pub first_byte : List ℕ → ℕ
first_byte [] = 32
first_byte (c ∷ rest) = c

digit-not_blank : (c : ℕ) → is_ascii_digit c ≡ true → is_blank c ≡ false
digit-not_blank c h = grind (arith, nat_tests)

-- the token that one byte spells, and the operator that two bytes spell
abbrev of_one : ℕ → Token
of_one c =
    if c == 110 then Count else if c == 33 then Not else if c == 63 then Question else if c == 58 then Colon
    else if c == 40 then Open else if c == 41 then Close else if c == 60 then Binary Less else if c == 62
    then Binary Greater
    else if c == 43 then Binary Add else if c == 45 then Binary Subtract else if c == 42 then Binary Multiply
    else if c == 47 then Binary Divide else Binary Remainder

abbrev of_two : ℕ → Operator
of_two c =
    if c == 124 then Or else if c == 38 then And else if c == 61 then Equal else if c == 33 then NotEqual
    else if c == 60 then AtMost else AtLeast

abbrev pub token_of : List ℕ → Token
token_of [] = Count
token_of (c ∷ []) = if is_ascii_digit c then Number (digits_value 10 (c ∷ [])) else of_one c
token_of (c ∷ d ∷ rest) = if is_ascii_digit c then Number (digits_value 10 (c ∷ d ∷ rest)) else Binary (of_two c)

-- what the bytes of an operator are no spelling of, and what they are read as
pub operator-facts : (op : Operator)
    → (is_blank (first_byte (operator_bytes op)) ≡ false) × (is_ascii_digit (first_byte (operator_bytes op)) ≡ false)
    × (token_of (operator_bytes op) ≡ Binary op)
operator-facts Or = (refl, refl, refl)
operator-facts _ = (refl, refl, refl)

-- no spelling begins with a blank, or is empty
digits-not_blank : (own : List ℕ) → own ≢ [] → AllDigits 10 own → is_blank (first_byte own) ≡ false
digits-not_blank [] n h = absurd (n refl)
digits-not_blank (c ∷ rest) n h = digit-not_blank c (below_ten_digit c h.0)

pub spelling-not_blank : (t : Token) (own : List ℕ) → IsSpelling t own → is_blank (first_byte own) ≡ false
spelling-not_blank (Number v) own h = digits-not_blank own h.0 h.1
spelling-not_blank (Binary op) own h = ap (λ xs. is_blank (first_byte xs)) h ∙ (operator-facts op).0
spelling-not_blank _ own h = ap (λ xs. is_blank (first_byte xs)) h

token_of-digits : (own : List ℕ) → own ≢ [] → AllDigits 10 own → token_of own ≡ Number (digits_value 10 own)
token_of-digits [] n h = absurd (n refl)
token_of-digits (c ∷ []) n h = rw (below_ten_digit c h.0)
token_of-digits (c ∷ d ∷ rest) n h = rw (below_ten_digit c h.0)

token_of-spelling : (t : Token) (own : List ℕ) → IsSpelling t own → token_of own ≡ t
token_of-spelling (Number v) own h = token_of-digits own h.0 h.1 ∙ ap Number h.2
token_of-spelling (Binary op) own h = ap token_of h ∙ (operator-facts op).2
token_of-spelling _ own h = ap token_of h

-- of two prefixes of a text one goes on from the other
pub record GoesOn (xs us ys vs : List ℕ) : Type 0 where
  pub more : List ℕ
  pub longer : ys ≡ xs ++ more
  pub rest : us ≡ more ++ vs

pub prefixes : (xs us ys vs : List ℕ) → xs ++ us ≡ ys ++ vs → GoesOn xs us ys vs ⊎ GoesOn ys vs xs us
prefixes [] us ys vs h = inl (record { more = ys; longer = refl; rest = h })
prefixes (x ∷ xs) us [] vs h = inr (record { more = x ∷ xs; longer = refl; rest = sym h })
prefixes (x ∷ xs) us (y ∷ ys) vs h =
    let heads : x ≡ y = cc in
    let tails : xs ++ us ≡ ys ++ vs = cc in
    elim (prefixes xs us ys vs tails) [
      | inl g ↦ inl (record { more = g.more; longer = let e = g.longer in cc; rest = g.rest })
      | inr g ↦ inr (record { more = g.more; longer = let e = g.longer in cc; rest = g.rest })
    ]

-- a longest spelling isn't a shorter prefix of another spelling
longest-ends : (u : Token) (own rest other after more : List ℕ) → IsLongest own rest → IsSpelling u other
    → other ≡ own ++ more → rest ≡ more ++ after → more ≡ []
longest-ends u own rest other after [] longest spelt e f = refl
longest-ends u own rest other after (m ∷ more) longest spelt e f =
    absurd (longest u (m ∷ more) after f (λ h. cc) (subst (IsSpelling u) e spelt))

-- the longest token at the beginning of a text is one alone
pub record SamePrefix (t u : Token) (rest after : List ℕ) : Type 0 where
  pub same_token : t ≡ u
  pub same_rest : rest ≡ after

one-longer : (t u : Token) (own rest other after : List ℕ) → IsSpelling t own → IsLongest own rest → IsSpelling u other
    → GoesOn own rest other after → SamePrefix t u rest after
one-longer t u own rest other after spelt longest spelt' g =
    let none : g.more ≡ [] = longest-ends u own rest other after g.more longest spelt' g.longer g.rest in
    let bytes : other ≡ own = g.longer ∙ ap (λ m. own ++ m) none ∙ append-nil own in
    record {
      same_token = sym (token_of-spelling t own spelt) ∙ ap token_of (sym bytes) ∙ token_of-spelling u other spelt';
      same_rest = g.rest ∙ ap (λ m. m ++ after) none;
    }

pub one_prefix : (t u : Token) (own rest other after : List ℕ) → IsSpelling t own → IsLongest own rest
    → IsSpelling u other → IsLongest other after → own ++ rest ≡ other ++ after → SamePrefix t u rest after
one_prefix t u own rest other after spelt longest spelt' longest' h =
    elim (prefixes own rest other after h) [
      | inl g ↦ one-longer t u own rest other after spelt longest spelt' g
      | inr g ↦
          let s = one-longer u t other after own rest spelt' longest' spelt g in
          record { same_token = sym s.same_token; same_rest = sym s.same_rest }
    ]

-- the tokens of a text after the first
pub record Split (t : Token) (rest : List ℕ) (ts : List Token) : Type 0 where
  pub later : List Token
  pub is : ts ≡ t ∷ later
  pub lexes : Lexes rest later

blank-first : (t : Token) (own rest text : List ℕ) (c : ℕ) → IsSpelling t own → own ++ rest ≡ c ∷ text
    → is_blank c ≡ true → ⊥
blank-first t [] rest text c spelt e b = false≢true (sym (spelling-not_blank t [] spelt))
blank-first t (x ∷ own) rest text c spelt e b =
    let same : x ≡ c = cc in false≢true (sym (spelling-not_blank t (x ∷ own) spelt) ∙ ap is_blank same ∙ b)

no-spelling_of-nothing : (t : Token) (own rest : List ℕ) → IsSpelling t own → own ++ rest ≡ [] → ⊥
no-spelling_of-nothing t [] rest spelt e = false≢true (sym (spelling-not_blank t [] spelt))
no-spelling_of-nothing t (x ∷ own) rest spelt e = cc

-- a text that begins with a longest token spells it first
pub Lexes-token : (t : Token) (own rest text : List ℕ) (ts : List Token) → IsSpelling t own → IsLongest own rest
    → text ≡ own ++ rest → Lexes text ts → Split t rest ts
Lexes-token t own rest text ts spelt longest e end = absurd (no-spelling_of-nothing t own rest spelt (sym e))
Lexes-token t own rest text ts spelt longest e (blank {c} {text = text'} b d) =
    absurd (blank-first t own rest text' c spelt (sym e) b)
Lexes-token t own rest text ts spelt longest e (token {rest = rest'} {ts = ts'} u other spelt' longest' d) =
    let same = one_prefix t u own rest other rest' spelt longest spelt' longest' (sym e) in
    record {
      later = ts';
      is = ap (λ x. x ∷ ts') (sym same.same_token);
      lexes = subst (λ r. Lexes r ts') (sym same.same_rest) d;
    }

pub Lexes-blank : (c : ℕ) (text whole : List ℕ) (ts : List Token) → is_blank c ≡ true → whole ≡ c ∷ text
    → Lexes whole ts → Lexes text ts
Lexes-blank c text whole ts b e end = absurd cc
Lexes-blank c text whole ts b e (blank {text = text'} {ts = ts'} b' d) =
    let same : text' ≡ text = cc in subst (λ r. Lexes r ts') same d
Lexes-blank c text whole ts b e (token {rest} u own spelt longest d) = absurd (blank-first u own rest text c spelt e b)

pub Lexes-nothing : (text : List ℕ) (ts : List Token) → text ≡ [] → Lexes text ts → ts ≡ []
Lexes-nothing text ts e end = refl
Lexes-nothing text ts e (blank b d) = absurd cc
Lexes-nothing text ts e (token {rest} u own spelt longest d) = absurd (no-spelling_of-nothing u own rest spelt e)

-- a text spells at most one list of tokens
pub one_list : {text : List ℕ} {ts : List Token} → Lexes text ts → (us : List Token) → Lexes text us → ts ≡ us
one_list end us d = sym (Lexes-nothing [] us refl d)
one_list (blank {c} {text} b d) us e = one_list d us (Lexes-blank c text (c ∷ text) us b refl e)
one_list (token {rest} {ts} t own spelt longest d) us e =
    let b = Lexes-token t own rest (own ++ rest) us spelt longest refl e in
    ap (λ xs. t ∷ xs) (one_list d b.later b.lexes) ∙ sym b.is

-- The token at the beginning of a text.

-- bytes that spell a token and begin with a digit are digits
digits-only : (u : Token) (bytes : List ℕ) → is_ascii_digit (first_byte bytes) ≡ true → IsSpelling u bytes
    → AllDigits 10 bytes
digits-only (Number v) bytes d h = h.1
digits-only (Binary op) bytes d h =
    absurd (false≢true (sym (ap (λ xs. is_ascii_digit (first_byte xs)) h ∙ (operator-facts op).1) ∙ d))
digits-only _ bytes d h = absurd (false≢true (sym (ap (λ xs. is_ascii_digit (first_byte xs)) h) ∙ d))

-- the digits at the beginning of a text
pub AllDigits-take_while : (text : List ℕ) → AllDigits 10 (take_while is_ascii_digit text)
AllDigits-take_while [] = tt
AllDigits-take_while (c ∷ text) =
    rw (take_while-cons is_ascii_digit c text)
    (cond_both (is_ascii_digit c) (c ∷ take_while is_ascii_digit text) [] (AllDigits 10)
    (λ e. (digit_below_ten c e, AllDigits-take_while text)) (λ _. tt))

AllDigits-append : (xs ys : List ℕ) → AllDigits 10 (xs ++ ys) → AllDigits 10 ys
AllDigits-append [] ys h = h
AllDigits-append (x ∷ xs) ys h = AllDigits-append xs ys h.1

-- no digit follows them
stops : (text more after : List ℕ) → drop (prefix_len is_ascii_digit text) text ≡ more ++ after → AllDigits 10 more
    → more ≡ []
stops text [] after e a = refl
stops text (m ∷ more) after e a =
    let k = prefix_len is_ascii_digit text in
    let lengths : length text - k ≡ suc (length (more ++ after)) = sym (length-drop k text) ∙ ap length e in
    let within : k < length text = omega arith in
    let prefix : drop k text ≡ get_or text k 0 ∷ drop (suc k) text = drop-cons text k 0 within in
    let same : get_or text k 0 ≡ m = cc in
    absurd (false≢true (sym (prefix_len_stops is_ascii_digit text 0 within) ∙ ap is_ascii_digit same
    ∙ below_ten_digit m a.0))

-- the digits at the beginning of a text, where there are some, are the longest that spell a token
pub record Numeral (text : List ℕ) : Type 0 where
  pub some : take_while is_ascii_digit text ≢ []
  pub longest : IsLongest (take_while is_ascii_digit text) (drop (prefix_len is_ascii_digit text) text)

first-digit : (text : List ℕ) (more : List ℕ) → is_ascii_digit (first_byte text) ≡ true
    → is_ascii_digit (first_byte (take_while is_ascii_digit text ++ more)) ≡ true
first-digit [] more d = absurd (false≢true d)
first-digit (c ∷ text) more d =
    let cons : take_while is_ascii_digit (c ∷ text) ≡ c ∷ take_while is_ascii_digit text =
    take_while-cons is_ascii_digit c text ∙ cond-true (is_ascii_digit c) _ _ d in
    rw cons d

pub first_byte-get : (text : List ℕ) → 0 < length text → first_byte text ≡ get_or text 0 0
first_byte-get [] h = absurd (omega arith)
first_byte-get (c ∷ text) h = refl

pub numeral : (text : List ℕ) → is_ascii_digit (first_byte text) ≡ true → Numeral text
numeral text d =
    record {
      some = λ e. false≢true (ap (λ xs. is_ascii_digit (first_byte (xs ++ []))) (sym e) ∙ first-digit text [] d);
      longest = λ u more after e n h.
          n (stops text more after e
          (AllDigits-append (take_while is_ascii_digit text) more
          (digits-only u (take_while is_ascii_digit text ++ more) (first-digit text more d) h)));
    }

-- the numeral at the beginning of a text
pub numeral-token : (text : List ℕ) (v : ℕ) → is_ascii_digit (first_byte text) ≡ true
    → v ≡ digits_value 10 (take_while is_ascii_digit text)
    → IsTokenAt text (Number v) (length (take_while is_ascii_digit text))
numeral-token text v d e =
    let n = numeral text d in
    let k : length (take_while is_ascii_digit text) ≡ prefix_len is_ascii_digit text =
    length-prefix_len is_ascii_digit text in
    let some : 0 < length (take_while is_ascii_digit text) = nonempty (take_while is_ascii_digit text) n.some in
    record {
      some = some;
      within = omega (arith, prefix_len-le-length is_ascii_digit text);
      spelling = rw k (n.some, AllDigits-take_while text, sym e);
      longest = rw k n.longest;
    }
  where
    nonempty : (xs : List ℕ) → xs ≢ [] → 0 < length xs
    nonempty [] h = absurd (h refl)
    nonempty (x ∷ xs) h = omega arith

-- a numeral at the beginning that doesn't fit 64 bits
pub numeral-none : (text : List ℕ) → is_ascii_digit (first_byte text) ≡ true
    → 2 ^ 64 ≤ digits_value 10 (take_while is_ascii_digit text) → HasNoToken text
numeral-none text d large t own rest e spelt longest =
    let n = numeral text d in
    let k = prefix_len is_ascii_digit text in
    let same = one_prefix (Number (digits_value 10 (take_while is_ascii_digit text))) t (take_while is_ascii_digit text)
    (drop k text) own rest
    (n.some, AllDigits-take_while text, refl) n.longest spelt longest (take-append-drop k text ∙ e) in
    subst IsTooLarge same.same_token large

-- two bytes and more that spell a token and don't begin with a digit are an operator of two bytes
two-bytes : (op : Operator) (a b : ℕ) (more : List ℕ) → operator_bytes op ≡ a ∷ b ∷ more → more ≡ []
two-bytes Or a b more e = cc
two-bytes _ a b more e = cc

several : (t : Token) (a b : ℕ) (more : List ℕ) → is_ascii_digit a ≡ false → IsSpelling t (a ∷ b ∷ more)
    → (op : Operator) × (operator_bytes op ≡ a ∷ b ∷ []) × (more ≡ [])
several (Number v) a b more d s = absurd (false≢true (sym d ∙ below_ten_digit a s.1.0))
several (Binary op) a b more d s = let none =
    two-bytes op a b more (sym s) in (op, sym s ∙ ap (λ xs. a ∷ b ∷ xs) none, none)
several _ a b more d s = absurd cc

none-longer : (text after : List ℕ) (t : Token) (a b : ℕ) (more : List ℕ) → is_ascii_digit a ≡ false → HasNoDouble text
    → text ≡ a ∷ b ∷ (more ++ after) → IsSpelling t (a ∷ b ∷ more) → ⊥
none-longer text after t a b more d none e s =
    let o = several t a b more d s in none o.0 (rw e (record { two = omega arith; bytes = o.1 }))

-- the operator of two bytes, or the token of one, at the beginning of a text
pub double-token : (text : List ℕ) (op : Operator) → is_ascii_digit (get_or text 0 0) ≡ false → BeginsWithDouble text op
    → IsTokenAt text (Binary op) 2
double-token [] op d h = absurd (let two = h.two in omega arith)
double-token (a ∷ []) op d h = absurd (let two = h.two in omega arith)
double-token (a ∷ b ∷ rest) op d h =
    record { some = omega arith; within = omega arith; spelling = sym h.bytes; longest = longer } where
      longer : IsLongest (a ∷ b ∷ []) rest
      longer t more after e n s = n (several t a b more d s).2

pub single-token : (text : List ℕ) (t : Token) → 0 < length text → is_ascii_digit (get_or text 0 0) ≡ false
    → HasNoDouble text → IsSpelling t (get_or text 0 0 ∷ []) → IsTokenAt text t 1
single-token [] t some d none s = absurd (omega arith)
single-token (a ∷ rest) t some d none s =
    record { some = omega arith; within = omega arith; spelling = s; longest = longer } where
      longer : IsLongest (a ∷ []) rest
      longer u [] after e n h = n refl
      longer u (b ∷ more) after e n h = none-longer (a ∷ rest) after u a b more d none (ap (λ xs. a ∷ xs) e) h
