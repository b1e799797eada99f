-- The lines of a piece, which are read one after the other up to where a translation ends.
use Rattle.po_syntax.proofs.Prelude.{AddsLent, All, All-append, All-cons, All-drop, All-head, All-nil, All-take, BeginsAnew, Bor, CanEnd, Comment, EndsPiece, EndsTranslation, HasRead, HoldsItems, IsCleanLine, IsCut, IsString, IsTranslation, IsTranslationWord, IsUtf8, Item, LendsUtf8, LineBeginsAnew, LineFault, LinesLeft, LinesStop, List, MatchOption, None, Option, PoFault, Some, SpellsLines, Str, TextItem, Word, [], ap, append-nil, append_assoc, arith, cases_lt, drop, drop-append_seam, drop-cons, drop-drop, drop-take, drop_all, get_or, inl, inr, length, length-drop, length-map, lines_len, lines_of, lines_of_rest, refl, subst, suc, sum_by-cons, sum_by-take-drop, sym, take, take-append_seam, take-take, view, views, zero, ℕ, ◌++◌, ◌+◌, ◌-◌, ◌<◌, ◌↔◌, ◌∙◌, ◌∷◌, ◌≡◌, ◌≤◌, ◌⊎◌}
use Rattle.po_syntax.proofs.OneOutcome.{line_items_once, lines_once}

-- items that are cut off again
pub cut_at : (before after : List Item) (here : List TextItem) (own : ℕ) → own ≡ length before
    → views after ≡ views before ++ here
    → (take own (views after) ≡ views before) × (drop own (views after) ≡ here)
cut_at before after here own own_is is =
    let long : own ≡ length (views before) = own_is ∙ sym (length-map before view) in
    rw (is, long) (take-append_seam (views before) here, drop-append_seam (views before) here)

-- what is read at an index is the first of the items from it on
pub first_at : (items : List Item) (n : ℕ) (item : Item) → n < length items → item ≡ get_or items n item
    → drop n (views items) ≡ view item ∷ drop (suc n) (views items)
first_at [] n item h is = absurd (omega arith)
first_at (x ∷ items) zero item h is = ap (λ i. view i ∷ views items) (sym is)
first_at (x ∷ items) (suc n) item h is = first_at items n item (omega arith) is

-- a string more before strings
pub strings_more : (items : List Item) (n m : ℕ) (item : Item) → m ≡ n + 1 → n < length items
    → item ≡ get_or items n item → IsString (view item) → All IsString (drop m (views items))
    → All IsString (drop n (views items))
strings_more items n m item e h is string more =
    let next : m ≡ suc n = omega arith in
    rw (first_at items n item h is)
    (All-cons IsString (view item) (drop (suc n) (views items)) string
    (subst (λ k. All IsString (drop k (views items))) next more))

no_string_word : (item : TextItem) → IsTranslationWord item → IsString item → ⊥
no_string_word (Comment kind text line) word string = string
no_string_word (Word keyword marks line) word string = string
no_string_word (Str bytes marks line) word string = word

pub drop_rest : {X : Type 0} (n : ℕ) (xs : List X) (first : X) (others : List X) → drop n xs ≡ first ∷ others
    → drop (suc n) xs ≡ others
drop_rest n xs first others e = let next : suc n ≡ n + 1 =
    omega arith in rw next (sym (drop-drop 1 n xs) ∙ ap (drop 1) e)

pub some_line : {X : Type 0} (n : ℕ) (xs : List X) (first : X) (others : List X) → drop n xs ≡ first ∷ others
    → suc n ≤ length xs
some_line n xs first others e = omega (arith, length-drop n xs, ap length e)

-- behind where strings alone stand, a string stands
string_at : (m n : ℕ) (items : List TextItem) (first : TextItem) (others : List TextItem) → All IsString (drop m items)
    → m ≤ n → drop n items ≡ first ∷ others → IsString first
string_at m n items first others strings le e =
    let sum : m + (n - m) ≡ n = omega arith in
    let here : drop (n - m) (drop m items) ≡ first ∷ others =
    drop-drop (n - m) m items ∙ ap (λ (k : ℕ). drop k items) sum ∙ e in
    All-head IsString first others (subst (All IsString) here (All-drop IsString (n - m) (drop m items) strings))

-- the item before this place is no string
abbrev pub IsLastOther : List TextItem → ℕ → Type 0
IsLastOther items count = (at : ℕ) (item : TextItem) (strings : List TextItem) → at + 1 ≡ count
    → drop at items ≡ item ∷ strings → IsString item → ⊥

-- the translation with which items end begins before its strings
pub translation_at : (items : List TextItem) (count before : ℕ) → count ≤ length items → All IsString (drop count items)
    → IsLastOther items count → IsTranslation (drop before items) → before + 1 ≡ count
translation_at items count before within strings last is = found (drop before items) refl is where
  found : (behind : List TextItem) → drop before items ≡ behind → IsTranslation behind → before + 1 ≡ count
  found [] e is = absurd is
  found (word ∷ others) e is =
      elim (cases_lt before count) [
        | inr le ↦ absurd (no_string_word word is.0 (string_at count before items word others strings le e))
        | inl less ↦
            elim (cases_lt (before + 1) count) [
              | inr le ↦ omega arith
              | inl later ↦
                  let first = drop-cons items (count - 1) word (omega arith) in
                  let all : All IsString (drop (suc before) items) =
                  subst (All IsString) (sym (drop_rest before items word others e)) is.2 in
                  absurd (last (count - 1) _ _ (omega arith) first
                  (string_at (suc before) (count - 1) items _ _ all (omega arith) first))
            ]
      ]

-- items end a translation exactly where the item before their last strings is its keyword
pub ends_at : (items : List Item) (count : ℕ) (item : Item) → 0 < count → count < length items
    → All IsString (drop count (views items)) → IsLastOther (views items) count → item ≡ get_or items (count - 1) item
    → IsTranslationWord (view item) ↔ EndsTranslation (views items)
ends_at items count item some within strings last is =
    let all = views items in
    let long = length-map items view in
    let next : suc (count - 1) ≡ count = omega arith in
    let here : drop (count - 1) all ≡ view item ∷ drop count all =
    subst (λ k. drop (count - 1) all ≡ view item ∷ drop k all) next
    (first_at items (count - 1) item (omega arith) is) in (
      λ word. (
        count - 1,
        subst IsTranslation (sym here)
            (word, λ none. omega (arith, ap length none, length-drop count all), strings),
      ),
      λ ends.
          let at : ends.0 ≡ count - 1 = let e =
          translation_at all count ends.0 (omega arith) strings last ends.1 in omega arith in
          let found : IsTranslation (view item ∷ drop count all) =
          subst IsTranslation (ap (λ n. drop n all) at ∙ here) ends.1 in
          found.0,
    )

-- items that are strings alone, or end in no string, end no translation
pub ends_nowhere : (items : List TextItem) (count : ℕ) → count ≤ length items → All IsString (drop count items)
    → IsLastOther items count → (count ≡ 0) ⊎ (length items ≤ count) → EndsTranslation items → ⊥
ends_nowhere items count within strings last (inl none) ends =
    let at = translation_at items count ends.0 within strings last ends.1 in omega arith
ends_nowhere items count within strings last (inr all) ends =
    let at = translation_at items count ends.0 within strings last ends.1 in
    found (drop ends.0 items) refl ends.1 at where
      found : (behind : List TextItem) → drop ends.0 items ≡ behind → IsTranslation behind → ends.0 + 1 ≡ count → ⊥
      found [] e is at = is
      found (word ∷ others) e is at =
          let next : suc ends.0 ≡ count = omega arith in
          is.1 (sym (drop_rest ends.0 items word others e) ∙ drop_all (suc ends.0) items (omega arith))

-- The lines of a piece, which are read one after the other.

-- the first line, and those after it
pub lines_begin : (text line : List ℕ) (rest : Option (Bor (List ℕ)))
    → MatchOption rest (lines_of text ≡ line ∷ []) (λ r. lines_of text ≡ line ∷ lines_of r.now)
    → lines_of text ≡ line ∷ lines_of_rest rest
lines_begin text line None h = h
lines_begin text line (Some rest) h = h

-- what lines spell after which others are left, and what those spell
pub joined_after : (count number : ℕ) (lines : List (List ℕ)) (items more : List TextItem)
    → SpellsLines number (take count lines) items → SpellsLines (number + count) (drop count lines) more
    → SpellsLines number lines (items ++ more)
joined_after zero number lines items more h g =
    let same : number + 0 ≡ number = omega arith in
    rw h (subst (λ (n : ℕ). SpellsLines n lines more) same g)
joined_after (suc count) number [] items more h g = rw (h, g) refl
joined_after (suc count) number (line ∷ lines) items more h g =
    let sum : number + suc count ≡ (number + 1) + count = omega arith in (
      h.0,
      h.1 ++ more,
      h.2,
      joined_after count (number + 1) lines h.1 more h.3
          (subst (λ (n : ℕ). SpellsLines n (drop count lines) more) sum g),
      ap (λ (x : List TextItem). x ++ more) h.4 ∙ append_assoc h.0 h.1 more,
    )

-- the fault of lines that are left after others that have none
pub stops_after : (count number : ℕ) (lines : List (List ℕ)) (items : List TextItem) (fault : PoFault) (line : ℕ)
    → SpellsLines number (take count lines) items → LinesStop (number + count) (drop count lines) fault line
    → LinesStop number lines fault line
stops_after zero number lines items fault line h g =
    let same : number + 0 ≡ number = omega arith in subst (λ (n : ℕ). LinesStop n lines fault line) same g
stops_after (suc count) number [] items fault line h g = g
stops_after (suc count) number (first ∷ lines) items fault line h g =
    let sum : number + suc count ≡ (number + 1) + count = omega arith in
    inr (
      h.0,
      h.2,
      stops_after count (number + 1) lines h.1 fault line h.3
          (subst (λ (n : ℕ). LinesStop n (drop count lines) fault line) sum g),
    )

-- one line more: what stands before it, and it alone
last_line : (count : ℕ) (lines : List (List ℕ)) (line : List ℕ) (others : List (List ℕ))
    → drop count lines ≡ line ∷ others
    → (take count (take (suc count) lines) ≡ take count lines) × (drop count (take (suc count) lines) ≡ line ∷ [])
last_line count lines line others e =
    let next : suc count ≡ count + 1 = omega arith in (
      take-take count (suc count) lines (omega arith),
      ap (λ k. drop count (take k lines)) next ∙ drop-take count 1 lines
          ∙ ap (take 1) e,
    )

spelt_more : (count number : ℕ) (lines : List (List ℕ)) (line : List ℕ) (others : List (List ℕ))
    (items here : List TextItem) → SpellsLines number (take count lines) items → drop count lines ≡ line ∷ others
    → HoldsItems (number + count) line here
    → SpellsLines number (take (suc count) lines) (items ++ here)
spelt_more count number lines line others items here h e s =
    let parts = last_line count lines line others e in
    joined_after count number (take (suc count) lines) items here
    (subst (λ l. SpellsLines number l items) (sym parts.0) h)
    (subst (λ l. SpellsLines (number + count) l here) (sym parts.1) (here, [], s, refl, sym (append-nil here)))

len_more : (count : ℕ) (lines : List (List ℕ)) (line : List ℕ) (others : List (List ℕ))
    → drop count lines ≡ line ∷ others
    → lines_len (take (suc count) lines) ≡ lines_len (take count lines) + (length line + 1)
len_more count lines line others e =
    let parts = last_line count lines line others e in
    omega (
      arith,
      sum_by-take-drop (λ (l : List ℕ). length l + 1) (take (suc count) lines) count,
      ap lines_len parts.0,
      ap lines_len parts.1,
      sum_by-cons (λ (l : List ℕ). length l + 1) line [],
    )

-- so many bytes are read so far
pub record ReadSoFar (size : ℕ) (old now : LinesLeft) (items : List TextItem) (len : ℕ) : Type 0 where
  pub read : HasRead size old now items
  pub len_is : len ≡ lines_len (take read.count old.lines)

-- and what their items borrow is UTF-8, where the lines are clean
pub record ReadLent (size : ℕ) (old now : LinesLeft) (items : List Item) (len : ℕ) : Type 0 where
  pub so_far : ReadSoFar size old now (views items) len
  pub lent : All IsCleanLine (take so_far.read.count old.lines) → All LendsUtf8 items

pub none_read : (size : ℕ) (old : LinesLeft) → ReadLent size old old [] 0
none_read size old = record {
  so_far = record {
    read = record {
      count = 0;
      within = omega arith;
      rest = let same : old.number + 0 ≡ old.number = omega arith in
          rw same refl;
      spelt = refl;
      fewest = λ fewer less. absurd (omega (arith, less));
    };
    len_is = refl;
  };
  lent = λ clean. All-nil LendsUtf8;
}

next_line : {size : ℕ} {old now : LinesLeft} {items : List TextItem} (read : HasRead size old now items)
    {lines : List (List ℕ)} → now.lines ≡ lines → drop read.count old.lines ≡ lines
next_line read e = sym (ap (λ (left : LinesLeft). left.lines) read.rest) ∙ e

here_spelt : {size : ℕ} {old now : LinesLeft} {items here : List TextItem} {line : List ℕ}
    (read : HasRead size old now items) → HoldsItems now.number line here
    → HoldsItems (old.number + read.count) line here
here_spelt {here = here} {line = line} read spelt =
    subst (λ (left : LinesLeft). HoldsItems left.number line here) read.rest spelt

-- a piece can end before a line only where its items and those before them say so
no_end : {size len : ℕ} {old now : LinesLeft} {items here : List TextItem} {line : List ℕ} {others : List (List ℕ)}
    (so_far : ReadSoFar size old now items len)
    → now.lines ≡ line ∷ others → HoldsItems now.number line here
    → (size ≤ len → EndsPiece len items → BeginsAnew here → ⊥) → CanEnd size old so_far.read.count → ⊥
no_end {size} {old = old} {items = items} so_far e spelt none can =
    let read = so_far.read in
    let len_is = sym so_far.len_is in
    let once = lines_once old.number (take read.count old.lines) can.spelt read.spelt in
    let anew = subst (LineBeginsAnew (old.number + read.count)) (next_line read e) can.anew in
    let same = line_items_once anew.1 (here_spelt read spelt) in
    none (subst (λ (l : ℕ). size ≤ l) len_is can.large)
    (subst (λ (l : ℕ). EndsPiece l items) len_is
    (subst (EndsPiece (lines_len (take read.count old.lines))) once can.ends))
    (subst BeginsAnew same anew.2)

-- the line that is read next, and those before it
line_utf8 : {size : ℕ} {old now : LinesLeft} {items : List TextItem} {line : List ℕ} {others : List (List ℕ)}
    (read : HasRead size old now items) → now.lines ≡ line ∷ others
    → All IsCleanLine (take (suc read.count) old.lines) → IsUtf8 line × All IsCleanLine (take read.count old.lines)
line_utf8 {old = old} {line = line} {others = others} read e clean =
    let parts = last_line read.count old.lines line others (next_line read e) in (
      (All-head IsCleanLine line [] (subst (All IsCleanLine) parts.1
          (All-drop IsCleanLine read.count (take (suc read.count) old.lines) clean))).utf8,
      subst (All IsCleanLine) parts.0 (All-take IsCleanLine read.count (take (suc read.count) old.lines) clean),
    )

-- a line more is read
pub read_on : {size len : ℕ} {old now : LinesLeft} {before after : List Item} {here : List TextItem} {line : List ℕ}
    {others : List (List ℕ)} → ReadLent size old now before len → views after ≡ views before ++ here
    → AddsLent line before after → now.lines ≡ line ∷ others → HoldsItems now.number line here
    → (size ≤ len → EndsPiece len (views before) → BeginsAnew here → ⊥)
    → ReadLent size old (record { text = now.text; number = now.number + 1; lines = others }) after
    (len + (length line + 1))
read_on {size} {old = old} {now = now} {before = before} {after = after} {here = here} {line = line}
    {others = others} so_far all added e spelt none =
    let read = so_far.so_far.read in
    let next = next_line read e in
    let text : now.text ≡ old.text = ap (λ (left : LinesLeft). left.text) read.rest in
    let number : now.number ≡ old.number + read.count = ap (λ (left : LinesLeft). left.number) read.rest in
    let counted : now.number + 1 ≡ old.number + suc read.count = omega arith in
    record {
      so_far = record {
        read = record {
          count = suc read.count;
          within = some_line read.count old.lines line others next;
          rest = rw (text, counted, ← drop_rest read.count old.lines line others next) refl;
          spelt = rw all
              (spelt_more read.count old.number old.lines line others (views before) here read.spelt next
              (here_spelt read spelt));
          fewest = λ fewer less can.
              elim (cases_lt fewer read.count) [
                | inl before ↦ read.fewest fewer before can
                | inr last ↦ let same : fewer ≡ read.count =
                    omega arith in no_end so_far.so_far e spelt none (subst (CanEnd size old) same can)
              ];
        };
        len_is = omega (arith, len_more read.count old.lines line others next, so_far.so_far.len_is);
      };
      lent = λ clean.
          let clean = line_utf8 read e clean in
          rw added.1 (All-append LendsUtf8 before added.0 (so_far.lent clean.1) (added.2 clean.0));
    }

-- a piece is cut off
pub cut_off : {size len : ℕ} {old now : LinesLeft} {items : List Item} (so_far : ReadLent size old now items len)
    → (now.lines ≡ []) ⊎ CanEnd size old so_far.so_far.read.count
    → (cut : IsCut size len old now (views items))
    × (All IsCleanLine (take cut.read.count old.lines) → All LendsUtf8 items)
cut_off so_far ends = let own = so_far.so_far in
    (record { read = own.read; len_is = own.len_is; ends = ends }, so_far.lent)

-- a piece can end before a line that begins anew
pub can_end : {size len : ℕ} {old now : LinesLeft} {items here : List TextItem} {line : List ℕ}
    {others : List (List ℕ)} (so_far : ReadSoFar size old now items len)
    → now.lines ≡ line ∷ others → HoldsItems now.number line here → size ≤ len → EndsPiece len items → BeginsAnew here
    → CanEnd size old so_far.read.count
can_end {size} {old = old} {items = items} {here = here} so_far e spelt large ends anew = let read =
    so_far.read in record {
      large = subst (λ (l : ℕ). size ≤ l) so_far.len_is large;
      items = items;
      spelt = read.spelt;
      ends = subst (λ (l : ℕ). EndsPiece l items) so_far.len_is ends;
      anew = subst (LineBeginsAnew (old.number + read.count)) (sym (next_line read e))
          (here, here_spelt read spelt, anew);
    }

-- the fault of the line that is read next
pub line_stops : {size : ℕ} {old now : LinesLeft} {items : List TextItem} {line : List ℕ} {others : List (List ℕ)}
    {fault : PoFault} → HasRead size old now items → now.lines ≡ line ∷ others → LineFault line fault
    → LinesStop old.number old.lines fault now.number
line_stops {old = old} {now = now} {items = items} {fault = fault} read e stops =
    let number : now.number ≡ old.number + read.count = ap (λ (left : LinesLeft). left.number) read.rest in
    stops_after read.count old.number old.lines items fault now.number read.spelt
    (subst (λ (lines : List (List ℕ)). LinesStop (old.number + read.count) lines fault now.number)
    (sym (next_line read e)) (inl (stops, number)))

-- the items of a piece, before those of the line after it
pub lent_before : (text : List ℕ) (old new : List Item) (count : ℕ) → count ≡ length old → AddsLent text old new
    → take count new ≡ old
lent_before text old new count is added = rw (is, added.1) (take-append_seam old added.0)
