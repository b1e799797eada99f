-- A line: its shape says what items it holds, or which fault it has.
use Rattle.po_syntax.proofs.Prelude.{All, All-head, BadToken, BeginsTokens, Comment, CommentKind, CommentLine, FailsFirst, HoldsItems, HoldsTokens, IsBlank, LineFault, List, Marks, NoShape, PoFault, Shape, SpellsComment, SpellsLines, TextItem, Tokens, TokensFault, [], ap, arith, blank, both_ways, comment, comment_shape, cond-false, cond-true, cond_both, drop, end, extracted, false, first_shape, flags, hash_shape, indented, inl, inr, is_blank, keyword, length, length-append, length-drop, length-slice_split, lines_len, lines_of, live, obsolete, obsolete_again, obsolete_comment, obsolete_previous, obsolete_shape, one-add, onto_first, or_from, or_parts, prefix_len, previous, previous_again, previous_marks, reference, refl, skip_blanks, string, subst, sum_by-cons, sym, tilde_shape, translator, trim_returns, true, without_byte_order_mark, ℕ, ◌++◌, ◌+◌, ◌<◌, ◌==◌, ◌||◌, ◌∙◌, ◌∷◌, ◌≡◌, ◌≢◌, ◌≤◌, ◌⊎◌}
use Rattle.po_syntax.proofs.Escapes.{by_byte, string_shorter}
use Rattle.po_syntax.proofs.Keywords.{of_blank, over_blanks, rest_shorter, skip_prefix, skips}
use Rattle.po_syntax.specs.LineFaults.{live as fault_live, obsolete as fault_obsolete, obsolete_previous as fault_obsolete_previous, previous as fault_previous}

tokens-few : {marks : Marks} {line : ℕ} {text : List ℕ} {items : List TextItem} → HoldsTokens marks line text items
    → length items ≤ length text
tokens-few end = omega arith
tokens-few (blank b h) = omega (arith, tokens-few h)
tokens-few (keyword s h) = omega (arith, rest_shorter s, tokens-few h)
tokens-few (string s h) = omega (arith, string_shorter s, tokens-few h)

pub line-few : {line : ℕ} {text : List ℕ} {items : List TextItem} → HoldsItems line text items
    → length items ≤ length text
line-few (indented b h) = omega (arith, line-few h)
line-few (live h) = tokens-few h
line-few (previous h) = omega (arith, tokens-few h)
line-few (obsolete h) = omega (arith, tokens-few h)
line-few (obsolete_previous h) = omega (arith, tokens-few h)
line-few _ = omega arith

-- each item takes a byte, and each line one more for its LF
pub lines-few : (number : ℕ) (lines : List (List ℕ)) (items : List TextItem) → SpellsLines number lines items
    → length items + length lines ≤ lines_len lines
lines-few number [] items h = omega (arith, ap length h)
lines-few number (line ∷ lines) items h =
    omega (
      arith,
      ap length h.4,
      length-append h.0 h.1,
      line-few h.2,
      lines-few (number + 1) lines h.1 h.3,
      sum_by-cons (λ (l : List ℕ). length l + 1) line lines,
    )

onto_first-len : (b : ℕ) (lines : List (List ℕ)) → lines ≢ [] → lines_len (onto_first b lines) ≡ lines_len lines + 1
onto_first-len b [] some = absurd (some refl)
onto_first-len b (line ∷ lines) some =
    omega (
      arith,
      sum_by-cons (λ (l : List ℕ). length l + 1) line lines,
      sum_by-cons (λ (l : List ℕ). length l + 1) (b ∷ line) lines,
    )

-- a text has a line, though it be empty
pub lines_some : (text : List ℕ) → lines_of text ≢ []
lines_some text = λ e. omega (arith, ap length e, length-slice_split (λ b. b == 10) text)

pub lines_len-lines_of : (text : List ℕ) → lines_len (lines_of text) ≡ length text + 1
lines_len-lines_of [] = refl
lines_len-lines_of (b ∷ text) =
    let lines = lines_of text in
    let more = cond_both (b == 10) ([] ∷ lines) (onto_first b lines) (λ l. lines_len l ≡ lines_len lines + 1)
    (λ _. omega (arith, sum_by-cons (λ (l : List ℕ). length l + 1) [] lines))
    (λ _. onto_first-len b lines (lines_some text)) in
    omega (arith, more, lines_len-lines_of text)

pub without_byte_order_mark-le : (text : List ℕ) → length (without_byte_order_mark text) ≤ length text
without_byte_order_mark-le text =
    cond_both _ (drop 3 text) text (λ t. length t ≤ length text) (λ _. omega (arith, length-drop 3 text))
    (λ _. omega arith)

pub some_length : (lines : List (List ℕ)) → lines ≢ [] → 0 < length lines
some_length [] some = absurd (some refl)
some_length (line ∷ lines) some = omega arith

pub items-few : (text : List ℕ) (items : List TextItem) → SpellsLines 1 (lines_of (without_byte_order_mark text)) items
    → length items ≤ length text
items-few text items h =
    omega (
      arith,
      lines-few 1 (lines_of (without_byte_order_mark text)) items h,
      lines_len-lines_of (without_byte_order_mark text),
      some_length (lines_of (without_byte_order_mark text)) (lines_some (without_byte_order_mark text)),
      without_byte_order_mark-le text,
    )

-- The shape of a line says what items it holds, or which fault it has.

after_blanks : {marks : Marks} {number : ℕ} {items : List TextItem} (blanks text : List ℕ) → All IsBlank blanks
    → HoldsTokens marks number text items → HoldsTokens marks number (blanks ++ text) items
after_blanks {marks} {number} {items} = over_blanks (λ t. HoldsTokens marks number t items) (λ b t is h. blank is h)

pub blank_skipped : (b : ℕ) (text : List ℕ) → IsBlank b → skip_blanks (b ∷ text) ≡ skip_blanks text
blank_skipped b text h =
    let count = cond-true (is_blank b) (1 + prefix_len is_blank text) 0 h ∙ one-add (prefix_len is_blank text) in
    ap (λ n. drop n (b ∷ text)) count

-- what a shape says of the line that it is read from
abbrev pub ShapeSays : List ℕ → Shape → Type 0
ShapeSays text (CommentLine kind rest) =
    (number : ℕ) → HoldsItems number text (Comment kind (trim_returns rest) number ∷ [])
ShapeSays text (Tokens marks rest) =
    ((number : ℕ) (items : List TextItem) → HoldsTokens marks number rest items → HoldsItems number text items)
    × ((fault : PoFault) → TokensFault rest fault → LineFault text fault)
ShapeSays text NoShape = LineFault text BadToken

-- what a comment's shape says of the text after its `#`
abbrev pub CommentSays : List ℕ → Shape → Type 0
CommentSays text (CommentLine kind rest) = SpellsComment text kind rest
CommentSays text (Tokens marks rest) = ⊥
CommentSays text NoShape = (rest : List ℕ) × ((text ≡ 124 ∷ rest) ⊎ (text ≡ 126 ∷ rest))

pub comment_says : (text : List ℕ) → CommentSays text (comment_shape text)
comment_says [] = translator tt
comment_says (b ∷ rest) =
    let P = λ (a : ℕ) (s : Shape). CommentSays (a ∷ rest) s in
    by_byte P b 46 extracted (λ p. by_byte P b 58 reference (λ q. by_byte P b 44 flags (λ r.
    by_byte P b 124 (rest, inl refl)
    (λ s. by_byte P b 126 (rest, inr refl)
    (λ t. translator (or_from _ _ (or_from _ _ (or_from _ _ (or_from _ _ p q) r) s) t))))))

-- a text that no bar and no tilde begins
abbrev BeginsComment : List ℕ → Type 0
BeginsComment text = FailsFirst (λ b. b == 124 || b == 126) text

comment_line : (text : List ℕ) (shape : Shape) → BeginsComment text → CommentSays text shape
    → ShapeSays (35 ∷ text) shape
comment_line text (CommentLine kind rest) other h = λ number. comment h
comment_line text (Tokens marks rest) other h = absurd h
comment_line text NoShape other h =
    elim h.1 [
      | inl is ↦ absurd (both_ways true (subst BeginsComment is other) refl)
      | inr is ↦ absurd
          (both_ways true (subst BeginsComment is other) refl)
    ]

obsolete_comment_line : (blanks text : List ℕ) (shape : Shape) → All IsBlank blanks → CommentSays text shape
    → ShapeSays (35 ∷ 126 ∷ (blanks ++ 35 ∷ text)) shape
obsolete_comment_line blanks text (CommentLine kind rest) all h = λ number. obsolete_comment blanks all h
obsolete_comment_line blanks text (Tokens marks rest) all h = absurd h
obsolete_comment_line blanks text NoShape all h =
    let Q : List ℕ → Type 0 = λ t. LineFault (35 ∷ 126 ∷ (blanks ++ 35 ∷ t)) BadToken in
    elim h.1 [
      | inl is ↦ subst Q (sym is) (previous_again blanks h.0 all)
      | inr is ↦ subst Q (sym is)
          (obsolete_again blanks h.0 all)
    ]

-- a text that begins with no blank, and not with `#`
begins_tokens : (b : ℕ) (text : List ℕ) → FailsFirst is_blank (b ∷ text) → (b == 35) ≡ false → BeginsTokens (b ∷ text)
begins_tokens b text fails other = or_from _ _ fails other

obsolete_says : (blanks after : List ℕ) → All IsBlank blanks → FailsFirst (λ b. b == 124) (blanks ++ after)
    → FailsFirst is_blank after → ShapeSays (35 ∷ 126 ∷ (blanks ++ after)) (obsolete_shape after)
unfolding obsolete_shape
obsolete_says blanks [] all no_bar fails =
    (λ number items h. obsolete (after_blanks blanks [] all h), λ fault h. fault_obsolete blanks all tt no_bar h)
obsolete_says blanks (b ∷ rest) all no_bar fails =
    by_byte (λ a s. ShapeSays (35 ∷ 126 ∷ (blanks ++ a ∷ rest)) s) b 35
    (obsolete_comment_line blanks rest (comment_shape rest) all (comment_says rest))
    (λ other. (
      λ number items h. obsolete (after_blanks blanks (b ∷ rest) all h),
      λ fault h. fault_obsolete blanks all (begins_tokens b rest fails other) no_bar h,
    ))

obsolete_line : (text : List ℕ) → FailsFirst (λ b. b == 124) text
    → ShapeSays (35 ∷ 126 ∷ text) (obsolete_shape (skip_blanks text))
obsolete_line text no_bar =
    let parts = skips text in
    subst (λ t. ShapeSays (35 ∷ 126 ∷ t) (obsolete_shape (skip_blanks text))) parts.whole
    (obsolete_says parts.blanks (skip_blanks text) parts.are_blanks
    (subst (FailsFirst (λ b. b == 124)) (sym parts.whole) no_bar) parts.other)

tilde_says : (text : List ℕ) → ShapeSays (35 ∷ 126 ∷ text) (tilde_shape text)
unfolding tilde_shape
tilde_says [] = obsolete_line [] tt
tilde_says (b ∷ rest) =
    by_byte (λ a s. ShapeSays (35 ∷ 126 ∷ a ∷ rest) s) b 124
    (λ number items h. obsolete_previous h, λ fault h. fault_obsolete_previous h) (obsolete_line (b ∷ rest))

hash_says : (text : List ℕ) → ShapeSays (35 ∷ text) (hash_shape text)
unfolding hash_shape
hash_says [] = comment_line [] (comment_shape []) tt (comment_says [])
hash_says (b ∷ rest) =
    let P = λ (a : ℕ) (s : Shape). ShapeSays (35 ∷ a ∷ rest) s in
    by_byte P b 124 (λ number items h. previous h, λ fault h. fault_previous h) (λ no_bar.
    by_byte P b 126 (tilde_says rest)
    (λ no_tilde. comment_line (b ∷ rest) (comment_shape (b ∷ rest)) (or_from _ _ no_bar no_tilde)
    (comment_says (b ∷ rest))))

pub shape_says : (text : List ℕ) → FailsFirst is_blank text → ShapeSays text (first_shape text)
unfolding first_shape
shape_says [] fails = (λ number items h. live h, λ fault h. fault_live tt h)
shape_says (b ∷ rest) fails =
    by_byte (λ a s. ShapeSays (a ∷ rest) s) b 35 (hash_says rest)
    (λ other. (λ number items h. live h, λ fault h. fault_live (begins_tokens b rest fails other) h))

pub comment_read : {text rest : List ℕ} {kind : CommentKind} → SpellsComment text kind rest
    → comment_shape text ≡ CommentLine kind rest
comment_read extracted = refl
comment_read reference = refl
comment_read flags = refl
comment_read (translator {text = []} h) = refl
comment_read (translator {text = b ∷ rest} h) =
    let tilde = or_parts _ (b == 126) h in
    let bar = or_parts _ (b == 124) tilde.0 in
    let comma = or_parts (b == 46 || b == 58) (b == 44) bar.0 in
    let others = or_parts (b == 46) (b == 58) comma.0 in
    rw (others.0, others.1, comma.1, bar.1, tilde.1) refl

pub comment_hash : {text rest : List ℕ} {kind : CommentKind} → SpellsComment text kind rest
    → hash_shape text ≡ comment_shape text
unfolding hash_shape
comment_hash extracted = refl
comment_hash reference = refl
comment_hash flags = refl
comment_hash (translator {text = []} h) = refl
comment_hash (translator {text = b ∷ rest} h) =
    let tilde = or_parts _ (b == 126) h in
    cond-false (b == 124) _ _ (or_parts _ (b == 124) tilde.0).1 ∙ cond-false (b == 126) _ _ tilde.1

blank_no_bar : (b : ℕ) → IsBlank b → (b == 124) ≡ false
blank_no_bar b is = of_blank (λ a. (a == 124) ≡ false) refl refl refl refl refl b is

pub tilde_comment : (blanks text : List ℕ) → All IsBlank blanks → tilde_shape (blanks ++ 35 ∷ text) ≡ comment_shape text
unfolding tilde_shape obsolete_shape
tilde_comment [] text all = refl
tilde_comment (b ∷ blanks) text all =
    cond-false (b == 124) (Tokens (previous_marks true) (blanks ++ 35 ∷ text)) _
    (blank_no_bar b (All-head IsBlank b blanks all))
    ∙ ap obsolete_shape (skip_prefix (b ∷ blanks) (35 ∷ text) all refl)
