-- A text is taken line by line, and what is cut at a quote.
use Rattle.command_line.proofs.Prelude.{EndsAtFirstMatch, FindsChar, FindsTextPrefix, IsCharBoundary, IsSplitOnceResult, List, MatchOption, NoCharPasses-char, None, Option, Some, StripsPrefix, [], ap, append_assoc, append_cancel_left, arith, before_quote, cond, drop, drop_at_char, false, get_or, length, length-append, length-take, lines_with_ends, lit<, ne_eqb, nil_from_length, onto_first, refl, split_once_first, starts_text, subst, suc, sym, take, take-append-add, take-append-drop, take-length, true, word_after, ℕ, ◌++◌, ◌+◌, ◌<◌, ◌∙◌, ◌∷◌, ◌≡◌, ◌≢◌}
use Rattle.std.specs.Borrow.{Bor}

pub no_word : (beginning text : List ℕ) → FindsTextPrefix beginning text None → word_after beginning text ≡ None
no_word beginning text none = rw (← starts_text false beginning text none)

pub word : (beginning text rest : List ℕ) → StripsPrefix (FindsTextPrefix beginning) text rest
    → word_after beginning text ≡ Some (before_quote rest)
word beginning text rest (n, found, is, _) =
    let boundary : IsCharBoundary text n = subst (IsCharBoundary text) (sym found.0) found.2 in
    rw (← starts_text true beginning text (n, found, boundary), is, found.0)

pub cut_at_quote : (text : List ℕ) (r : Option (Bor (List ℕ) × Bor (List ℕ))) → IsSplitOnceResult 39 text r
    → MatchOption r (text ≡ before_quote text) (λ x. x.0.now ≡ before_quote text)
cut_at_quote text None cases =
    sym (take-length text) ∙ ap (λ n. take n text) (sym (split_once_first 39 text None cases (omega arith)))
cut_at_quote text (Some x) cases = (split_once_first 39 text (Some x) cases (omega arith)).1

-- A text is taken line by line, as `split_inclusive` does at LF.

abbrev NoFeed : List ℕ → Type 0
NoFeed line = (i : ℕ) → i < length line → get_or line i 0 ≢ 10

onto : (b : ℕ) (text : List ℕ) → b ≢ 10 → lines_with_ends (b ∷ text) ≡ onto_first b (lines_with_ends text)
onto b text other = ap (λ t. cond t ((10 ∷ []) ∷ lines_with_ends text) (onto_first b (lines_with_ends text)))
    (ne_eqb b 10 other)

later : (b : ℕ) (line : List ℕ) → NoFeed (b ∷ line) → NoFeed line
later b line lacks = λ i below. lacks (suc i) (omega (arith, below))

last_line : (b : ℕ) (line : List ℕ) → NoFeed (b ∷ line) → lines_with_ends (b ∷ line) ≡ (b ∷ line) ∷ []
last_line b [] lacks = onto b [] (lacks 0 (omega arith))
last_line b (c ∷ line) lacks =
    onto b (c ∷ line) (lacks 0 (omega arith)) ∙ ap (onto_first b) (last_line c line (later b (c ∷ line) lacks))

first_line : (line rest : List ℕ) → NoFeed line
    → lines_with_ends (line ++ 10 ∷ rest) ≡ (line ++ 10 ∷ []) ∷ lines_with_ends rest
first_line [] rest lacks = refl
first_line (b ∷ line) rest lacks =
    onto b (line ++ 10 ∷ rest) (lacks 0 (omega arith)) ∙ ap (onto_first b) (first_line line rest (later b line lacks))

-- the line is the first one of the text, and the rest has the others
abbrev pub Takes : List ℕ → List ℕ → List ℕ → Type 0
Takes text line rest = lines_with_ends text ≡ line ∷ lines_with_ends rest

nothing_left : (line rest : List ℕ) → line ≡ line ++ rest → rest ≡ []
nothing_left line rest is = nil_from_length rest (omega (arith, ap length is, length-append line rest))

takes_last : (text line rest : List ℕ) → FindsChar 10 text None → text ≡ line ++ rest → line ≡ text → 0 < length text
    → Takes text line rest
takes_last [] line rest none is all some = absurd (omega (arith, some))
takes_last (b ∷ text) line rest none is all some =
    last_line b text (λ i below. NoCharPasses-char 10 (b ∷ text) i none (omega arith) below)
    ∙ ap (λ l. l ∷ []) (sym all) ∙ ap (λ r. line ∷ lines_with_ends r) (sym (nothing_left line rest (all ∙ is)))

takes_first : (text line rest : List ℕ) (i j : ℕ) → FindsChar 10 text (Some (i, j)) → text ≡ line ++ rest
    → line ≡ take j text → Takes text line rest
takes_first text line rest i j found is front =
    let before = take i text in
    let after = drop j text in
    let cut : text ≡ before ++ 10 ∷ after =
    sym (take-append-drop i text) ∙ ap (λ l. before ++ l) (drop_at_char 10 text i j found.1 (lit< tt)) in
    let ends : j ≡ length before + 1 =
    omega (arith, found.1.ends, ap length cut, length-take i text, length-append before (10 ∷ after)) in
    let taken : line ≡ before ++ 10 ∷ [] =
    front ∙ ap (λ n. take n text) ends ∙ ap (take (length before + 1)) cut ∙ take-append-add before (10 ∷ after) 1 in
    let left : rest ≡ after =
    append_cancel_left line rest after
    (sym is ∙ cut ∙ sym (append_assoc before (10 ∷ []) after) ∙ ap (λ l. l ++ after) (sym taken)) in
    ap lines_with_ends cut ∙ first_line before after (λ k below. NoCharPasses-char 10 before k found.0 (lit< tt) below)
    ∙ ap (λ l. l ∷ lines_with_ends after) (sym taken) ∙ ap (λ r. line ∷ lines_with_ends r) (sym left)

-- a step of `split_inclusive`, as its clause says it
pub step : (feed next : ℕ) (text line rest : List ℕ) → feed ≡ 10
    → (next ≡ feed) × ((text ≡ line ++ rest) × EndsAtFirstMatch (FindsChar feed) text line)
    → (next ≡ 10) × Takes text line rest
step feed next text line rest ten (same, (cut, (None, none, all))) =
    (same ∙ ten, takes_last text line rest (subst (λ b. FindsChar b text None) ten none) cut all.0 all.1)
step feed next text line rest ten (same, (cut, (Some (i, j), found, front))) =
    let at : FindsChar 10 text (Some (i, j)) = subst (λ b. FindsChar b text (Some (i, j))) ten found in
    (same ∙ ten, takes_first text line rest i j at cut (front (omega (arith, at.1.ends))))

-- one more part was appended
pub appended : (old part rest new all : List ℕ) → old ++ (part ++ rest) ≡ all → new ≡ old ++ part → new ++ rest ≡ all
appended old part rest new all so_far more = ap (λ l. l ++ rest) more ∙ append_assoc old part rest ∙ so_far
