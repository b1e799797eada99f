-- Whole lines with the LF that ends each, and the items that they spell wherever they stand.
use Rattle.po_writer.proofs.Prelude.{All-nil, All-weaker, Bool, ContainsLines, EachEndsInItsOnlyFeed, HoldsItems, IsText, List, None, Some, SpellsLines, TextItem, WritesText, [], add-one, ap, append_assoc, arith, common_steps, concat, cond, cond-true, drop, each_line, ended, eqb-true, false, false_from_ne_true, flat_map, if◌then◌else◌, inl, last, length, length-append, lines_are, lines_of, lines_with_ends, lt-ltb, nat_lt, ne_eqb, none, not, one_ended_line, one_line, onto_first, refl, slice_split_at, string_line, subst, suc, sym, take, text_lines, true, zero, ℕ, ◌++◌, ◌+◌, ◌<◌, ◌==◌, ◌∙◌, ◌∷◌, ◌≡◌, ◌≢◌}
use Rattle.memchr.specs.Find.{IsFirstByte, Passes, is_byte}
use Rattle.std.proofs.Common.{append-nil}
use Rattle.std.proofs.lemmas.List.Concat.{concat_is}
use Rattle.po_writer.proofs.Utf8Lines.{IsLine, text-append, text-empty, text-feed}

abbrev NoFeedBelow : List ℕ → ℕ → Type 0
NoFeedBelow text end = (k : ℕ) → k < end → Passes (is_byte 10) text k → ⊥

line_at : (text : List ℕ) (place : ℕ) → place < length text → NoFeedBelow text place → Passes (is_byte 10) text place
    → lines_with_ends text ≡ take (suc place) text ∷ lines_with_ends (drop (suc place) text)
line_at [] place inside before here = absurd (omega arith)
line_at (b ∷ text) zero inside before here = rw (eqb-true b 10 here) refl
line_at (b ∷ text) (suc place) inside before here =
    rw (
      false_from_ne_true (b == 10) (before 0 (omega arith)),
      line_at text place (omega arith) (λ k below passes. before (suc k) (omega arith) passes) here,
    ) refl

only_line : (b : ℕ) (text : List ℕ) → NoFeedBelow (b ∷ text) (suc (length text))
    → lines_with_ends (b ∷ text) ≡ (b ∷ text) ∷ []
only_line b [] before = rw (false_from_ne_true (b == 10) (before 0 (omega arith))) refl
only_line b (c ∷ text) before =
    rw (
      false_from_ne_true (b == 10) (before 0 (omega arith)),
      only_line c text (λ k below passes. before (suc k) (omega arith) passes),
    ) refl

pub first_line : (text : List ℕ) (place : ℕ) → IsFirstByte (is_byte 10) text (Some place)
    → lines_with_ends text ≡ take (place + 1) text ∷ lines_with_ends (drop (place + 1) text)
first_line text place h =
    rw add-one (line_at text place (omega (arith, h.0.high)) (λ k below. h.0.before k (omega arith) below) h.1)

pub whole_line : (text : List ℕ) → 0 < length text → IsFirstByte (is_byte 10) text None
    → lines_with_ends text ≡ text ∷ []
whole_line [] some h = absurd (omega arith)
whole_line (b ∷ text) some h = only_line b text (λ k below. h k (omega arith) below)

onto_first-some : (b : ℕ) (pieces : List (List ℕ)) → 0 < length (onto_first b pieces)
onto_first-some b [] = omega arith
onto_first-some b (piece ∷ pieces) = omega arith

if_some : (feed : Bool) (pieces others : List (List ℕ)) → 0 < length pieces → 0 < length others
    → 0 < length (if feed then pieces else others)
if_some true pieces others h g = h
if_some false pieces others h g = g

some_line : (b : ℕ) (text : List ℕ) → 0 < length (lines_with_ends (b ∷ text))
some_line b text = if_some (b == 10) ((10 ∷ []) ∷ lines_with_ends text) (onto_first b (lines_with_ends text))
    (omega arith) (onto_first-some b (lines_with_ends text))

two_or_more : (line rest : List ℕ) → not (length rest == 0) ≡ nat_lt 1 (length (line ∷ lines_with_ends rest))
two_or_more line [] = refl
two_or_more line (b ∷ rest) = grind (arith, common_steps, ne_eqb, lt-ltb, some_line)

-- a text has more pieces than one where something stands after the first
pub several : (text line rest : List ℕ) → (0 < length text → lines_with_ends text ≡ line ∷ lines_with_ends rest)
    → (text ≡ [] → rest ≡ []) → not (length rest == 0) ≡ nat_lt 1 (length (lines_with_ends text))
several [] line rest pieces empty = rw (empty refl) refl
several (b ∷ text) line rest pieces empty = rw (pieces (omega arith)) (two_or_more line rest)

-- A text is written line by line.

-- what is written of a text with these lines
abbrev written : List ℕ → List ℕ → List (List ℕ) → List ℕ
written prefix text lines =
    cond (nat_lt 1 (length lines)) (string_line [] [] ++ flat_map (string_line prefix) lines) (string_line [] text)

several_lines : (prefix text line : List ℕ) (lines : List (List ℕ)) → 0 < length lines
    → written prefix text (line ∷ lines) ≡ string_line [] [] ++ flat_map (string_line prefix) (line ∷ lines)
several_lines prefix text line lines some = grind (arith, common_steps, cond-true, lt-ltb)

writes : (prefix : List ℕ) {text : List ℕ} {lines : List (List ℕ)} → ContainsLines text lines
    → WritesText prefix text (written prefix text lines)
writes prefix none = one_line (All-nil (λ b. b ≢ 10))
writes prefix (last lacks) = one_line lacks
writes prefix (ended line lacks none) = one_ended_line line lacks
writes prefix (ended line lacks (last {b = b} {line = rest} others)) =
    subst (WritesText prefix (line ++ 10 ∷ b ∷ rest))
    (sym (several_lines prefix (line ++ 10 ∷ b ∷ rest) (line ++ 10 ∷ []) ((b ∷ rest) ∷ []) (omega arith)))
    (each_line line b lacks (last others))
writes prefix (ended line lacks (ended [] {text = rest} {lines = lines} other others)) =
    subst (WritesText prefix (line ++ 10 ∷ 10 ∷ rest))
    (sym (several_lines prefix (line ++ 10 ∷ 10 ∷ rest) (line ++ 10 ∷ []) ((10 ∷ []) ∷ lines) (omega arith)))
    (each_line line 10 lacks (ended [] other others))
writes prefix (ended line lacks (ended (b ∷ next) {text = rest} {lines = lines} other others)) =
    let text = (b ∷ next) ++ 10 ∷ rest in
    subst (WritesText prefix (line ++ 10 ∷ text))
    (sym (several_lines prefix (line ++ 10 ∷ text) (line ++ 10 ∷ []) (((b ∷ next) ++ 10 ∷ []) ∷ lines) (omega arith)))
    (each_line line b lacks (ended (b ∷ next) other others))

pub texts_are_written : (prefix text : List ℕ) → WritesText prefix text (text_lines prefix text)
texts_are_written prefix text = writes prefix (lines_are text)

joined : {text : List ℕ} {lines : List (List ℕ)} → ContainsLines text lines → flat_map (λ line. line) lines ≡ text
joined none = refl
joined (last {b = b} {line = line} lacks) = append-nil (b ∷ line)
joined (ended line {text = text} {lines = lines} lacks others) =
    ap (λ rest. (line ++ 10 ∷ []) ++ rest) (joined others) ∙ append_assoc line (10 ∷ []) text

pub flat_lines : (text : List ℕ) → flat_map (λ line. line) (lines_with_ends text) ≡ text
flat_lines text = joined (lines_are text)

pub lines_joined : (text : List ℕ) → concat (lines_with_ends text) ≡ text
lines_joined text = concat_is (lines_with_ends text) ∙ flat_lines text

nothing_there : (before after : List (List ℕ)) (line : List ℕ) → [] ≡ before ++ line ∷ after → ⊥
nothing_there before after line is = omega (arith, ap length is, length-append before (line ∷ after))

each : {text : List ℕ} {lines : List (List ℕ)} → ContainsLines text lines → EachEndsInItsOnlyFeed lines
each none before after line is = absurd (nothing_there before after line is)
each (last {b = b} {line = only} lacks) [] after line is = grind (arith, common_steps)
each (last lacks) (x ∷ before) after line is = absurd (nothing_there before after line (ap (drop 1) is))
each (ended text lacks others) [] after line is = inl (text, cc, lacks)
each (ended text lacks others) (x ∷ before) after line is = each others before after line (ap (drop 1) is)

pub lines_ended : (text : List ℕ) → EachEndsInItsOnlyFeed (lines_with_ends text)
lines_ended text = each (lines_are text)

-- Blocks of whole lines, and the items that they spell wherever they stand in a text.

-- the lines of a text, from this number on, spell these items
abbrev pub Spells : ℕ → List ℕ → List TextItem → Type 0
Spells number text items = SpellsLines number (lines_of text) items

-- whole lines that spell such items before whatever stands after them
pub record Spelling (P : List TextItem → Type 0) (text : List ℕ) (number : ℕ) : Type 0 where
  pub items : List TextItem
  pub holds : P items
  pub next : ℕ
  pub before : (rest : List ℕ) (later : List TextItem) → Spells next rest later
      → Spells number (text ++ rest) (items ++ later)

-- the text begins with an ASCII byte, if with any
abbrev pub BeginsLow : List ℕ → Type 0
BeginsLow [] = Unit {0}
BeginsLow (b ∷ text) = b < 128

pub record Block (P : List TextItem → Type 0) (text : List ℕ) : Type 0 where
  pub valid : IsText text
  pub low : BeginsLow text
  pub spelling : (number : ℕ) → Spelling P text number

pub low-append : (xs ys : List ℕ) → BeginsLow xs → BeginsLow ys → BeginsLow (xs ++ ys)
low-append [] ys h g = g
low-append (b ∷ xs) ys h g = h

pub empty_block : {P : List TextItem → Type 0} → P [] → Block P []
empty_block h = record {
  valid = text-empty;
  low = tt;
  spelling =
      λ number. record { items = []; holds = h; next = number; before = λ rest later g. g };
}

pub weaker_block : {P Q : List TextItem → Type 0} {text : List ℕ} → Block P text
    → ((items : List TextItem) → P items → Q items) → Block Q text
weaker_block block more = record {
  valid = block.valid;
  low = block.low;
  spelling = λ number. let s =
      block.spelling number in
      record { items = s.items; holds = more s.items s.holds; next = s.next; before = s.before };
}

pub two_blocks : {P Q R : List TextItem → Type 0} {xs ys : List ℕ} → Block P xs → Block Q ys
    → ((here later : List TextItem) → P here → Q later → R (here ++ later)) → Block R (xs ++ ys)
two_blocks {xs = xs} {ys = ys} first second join = record {
  valid = text-append xs ys first.valid second.valid;
  low = low-append xs ys first.low second.low;
  spelling = λ number.
      let s = first.spelling number in
      let t = second.spelling s.next in
      record {
        items = s.items ++ t.items;
        holds = join s.items t.items s.holds t.holds;
        next = t.next;
        before = λ rest later g. rw (append_assoc xs ys rest, append_assoc s.items t.items later)
            (s.before (ys ++ rest) (t.items ++ later) (t.before rest later g));
      };
}

-- what a line spells, whatever its number is
abbrev pub LineItems : (List TextItem → Type 0) → List ℕ → Type 0
LineItems P line = (number : ℕ) → (here : List TextItem) × P here × HoldsItems number line here

pub line_block : {P : List TextItem → Type 0} (line : List ℕ) → IsLine line → BeginsLow line → LineItems P line
    → Block P (line ++ 10 ∷ [])
line_block line clean low spells = record {
  valid = text-append line (10 ∷ []) clean.valid text-feed;
  low = low-append line (10 ∷ []) low (omega arith);
  spelling = λ number.
      let h = spells number in
      record {
        items = h.0;
        holds = h.1;
        next = number + 1;
        before = λ rest later g.
            rw (
              append_assoc line (10 ∷ []) rest,
              slice_split_at (λ b. b == 10) line 10 rest
                  (All-weaker (λ b. b ≢ 10) (λ b. (b == 10) ≡ false) (λ b h. ne_eqb b 10 h) line clean.one_line) refl,
            )
            (h.0, later, h.2, g, refl);
      };
}
