-- What a piece of a text holds, and what is left after it.
use Rattle.po_syntax.proofs.Prelude.{All, All-append, All-drop, All-head, All-nil, All-tail, All-take, AreOfText, BeginsAnew, Bool, Bor, CanEnd, EndsInComment, EndsInString, EndsPiece, HasRead, HoldsText, IsCleanLine, IsCommentItem, IsCut, IsNew, IsPiece, IsSome, IsString, IsText, IsTranslation, IsTrue, IsUtf8-nil, Item, LeftAnew, LeftStops, LineBeginsAnew, LinesLeft, LinesStop, List, MatchOption, None, Option, PoError, PoFault, Some, SpellsLeft, SpellsLines, TextFault, TextItem, [], all_lines, ap, append-nil, arith, drop, drop-drop, drop-take, drop_all, false, inl, inr, is_some, length, length-drop, lines_len, lines_of_rest, refl, slice_get, subst, suc, sum_by-cons, sum_by-take-drop, sum_by-take-le, sym, take, take-append-drop, take-take, take_all, true, view, views, without_byte_order_mark, zero, ℕ, ◌++◌, ◌+◌, ◌<◌, ◌^◌, ◌↔◌, ◌∙◌, ◌∷◌, ◌≡◌, ◌≢◌, ◌≤◌, ◌⊎◌}
use Rattle.std.specs.Prelude.{unwrap_or}
use Rattle.po_syntax.proofs.Utf8Lines.{clean_lines, first_lines_clean}
use Rattle.po_syntax.proofs.Lines.{lines-few, lines_len-lines_of, lines_some, some_length, without_byte_order_mark-le}
use Rattle.po_syntax.proofs.PieceLines.{ReadSoFar, joined_after, stops_after}
use Rattle.po_syntax.proofs.ItemTexts.{lines_texts}
use Rattle.po_syntax.proofs.OneOutcome.{line_items_once, lines_once}

-- where some text is left, a line is
pub some_left : (rest : Option (Bor (List ℕ))) → is_some rest ≡ true → lines_of_rest rest ≢ []
some_left None e = absurd (cc)
some_left (Some rest) e = lines_some rest.now

count_le : (count : ℕ) (lines : List (List ℕ)) → count ≤ length lines → count ≤ lines_len (take count lines)
count_le zero lines h = omega arith
count_le (suc count) [] h = absurd (omega arith)
count_le (suc count) (line ∷ lines) h =
    omega (
      arith,
      count_le count lines (omega arith),
      sum_by-cons (λ (l : List ℕ). length l + 1) line (take count lines),
    )

-- how many lines and bytes are left after others
few_after : (count : ℕ) (left : LinesLeft) → count ≤ length left.lines
    → left.number + count + lines_len (drop count left.lines) ≤ left.number + lines_len left.lines
few_after count left within =
    omega (
      arith,
      count_le count left.lines within,
      sum_by-take-drop (λ (l : List ℕ). length l + 1) left.lines count,
    )

-- how many are left of a text
pub of_text_few : (left : LinesLeft) → AreOfText left → left.number + lines_len left.lines ≤ 2 ^ 31 + 1
of_text_few left h =
    let number : left.number ≡ 1 + h.count = ap (λ (l : LinesLeft). l.number) h.rest in
    let lines : left.lines ≡ drop h.count (all_lines left.text).lines = ap (λ (l : LinesLeft). l.lines) h.rest in
    omega (
      arith,
      few_after h.count (all_lines left.text) h.within,
      ap lines_len lines,
      lines_len-lines_of (without_byte_order_mark left.text),
      without_byte_order_mark-le left.text,
      h.small,
    )

-- and of what is read
pub read_few : {size : ℕ} {old now : LinesLeft} {items : List TextItem} → HasRead size old now items → AreOfText old
    → now.number + lines_len now.lines ≤ 2 ^ 31 + 1
read_few {old = old} {now = now} read h =
    omega (
      arith,
      ap (λ (l : LinesLeft). l.number) read.rest,
      ap (λ (l : LinesLeft). lines_len l.lines) read.rest,
      few_after read.count old read.within,
      of_text_few old h,
    )

-- how many bytes are read, and how many the next line has
pub len_few : {size len : ℕ} {old now : LinesLeft} {items : List TextItem} {line : List ℕ} {others : List (List ℕ)}
    → ReadSoFar size old now items len → AreOfText old → now.lines ≡ line ∷ others
    → len + length line ≤ 2 ^ 32 + 1
len_few {old = old} {line = line} {others = others} so_far h e =
    omega (
      arith,
      so_far.len_is,
      sum_by-take-le (λ (l : List ℕ). length l + 1) old.lines so_far.read.count,
      of_text_few old h,
      read_few so_far.read h,
      ap lines_len e,
      sum_by-cons (λ (l : List ℕ). length l + 1) line others,
    )

-- so many lines, and so many more
lines_joined : (count more : ℕ) (lines : List (List ℕ)) → (take count (take (count + more) lines) ≡ take count lines)
    × (drop count (take (count + more) lines) ≡ take more (drop count lines))
lines_joined count more lines =
    (take-take count (count + more) lines (omega arith), drop-take count more lines)

clean_joined : (count more : ℕ) (lines : List (List ℕ)) → All IsCleanLine (take count lines)
    → All IsCleanLine (take more (drop count lines)) → All IsCleanLine (take (count + more) lines)
clean_joined count more lines first others =
    let parts = lines_joined count more lines in
    let all = take (count + more) lines in
    subst (All IsCleanLine) (take-append-drop count all)
    (All-append IsCleanLine (take count all) (drop count all) (subst (All IsCleanLine) (sym parts.0) first)
    (subst (All IsCleanLine) (sym parts.1) others))

spelt_joined : (count more number : ℕ) (lines : List (List ℕ)) (items others : List TextItem)
    → SpellsLines number (take count lines) items → SpellsLines (number + count) (take more (drop count lines)) others
    → SpellsLines number (take (count + more) lines) (items ++ others)
spelt_joined count more number lines items others h g =
    let parts = lines_joined count more lines in
    joined_after count number (take (count + more) lines) items others
    (subst (λ l. SpellsLines number l items) (sym parts.0) h)
    (subst (λ l. SpellsLines (number + count) l others) (sym parts.1) g)

-- what is left of a text after clean lines that are read
pub read_of_text : {size : ℕ} {old now : LinesLeft} {items : List TextItem} (read : HasRead size old now items)
    → All IsCleanLine (take read.count old.lines) → AreOfText old → AreOfText now
read_of_text {old = old} {items = items} read clean h =
    let all = (all_lines old.text).lines in
    let number : old.number ≡ 1 + h.count = ap (λ (l : LinesLeft). l.number) h.rest in
    let lines : old.lines ≡ drop h.count all = ap (λ (l : LinesLeft). l.lines) h.rest in
    let next : old.number + read.count ≡ 1 + (h.count + read.count) = omega arith in
    let left : drop read.count old.lines ≡ drop (h.count + read.count) all =
    ap (drop read.count) lines ∙ drop-drop read.count h.count all in
    let spelt : SpellsLines (1 + h.count) (take read.count (drop h.count all)) items =
    subst (λ n. SpellsLines n (take read.count (drop h.count all)) items) number
    (subst (λ l. SpellsLines old.number (take read.count l) items) lines read.spelt) in
    subst AreOfText (sym read.rest) (record {
      small = h.small;
      count = h.count + read.count;
      within = omega (arith, h.within, read.within, ap length lines, length-drop h.count all);
      rest = rw (next, left) refl;
      clean = clean_joined h.count read.count all h.clean
          (subst (λ l. All IsCleanLine (take read.count l)) lines clean);
      items = h.items ++ items;
      spelt = spelt_joined h.count read.count 1 all h.items items h.spelt spelt;
    })

-- of a text that is UTF-8 without NUL, any lines are
pub left_clean : (count : ℕ) (left : LinesLeft) → AreOfText left → IsText left.text
    → All IsCleanLine (take count left.lines)
left_clean count left h text =
    let lines : left.lines ≡ drop h.count (all_lines left.text).lines = ap (λ (l : LinesLeft). l.lines) h.rest in
    All-take IsCleanLine count left.lines (subst (All IsCleanLine) (sym lines)
    (All-drop IsCleanLine h.count (all_lines left.text).lines (clean_lines left.text text.utf8 text.no_nul)))

-- of such a text the first fault of the lines left is the first of all
pub left_stops : {left : LinesLeft} {fault : PoFault} {line : ℕ} → AreOfText left → IsText left.text
    → LinesStop left.number left.lines fault line → LeftStops left fault line
left_stops {left} {fault} {line} h is stopped =
    let number : left.number ≡ 1 + h.count = ap (λ (l : LinesLeft). l.number) h.rest in
    let lines : left.lines ≡ drop h.count (all_lines left.text).lines = ap (λ (l : LinesLeft). l.lines) h.rest in
    TextFault.stops h.small is.utf8 is.no_nul
    (stops_after h.count 1 (all_lines left.text).lines h.items fault line h.spelt
    (subst (λ n. LinesStop n (drop h.count (all_lines left.text).lines) fault line) number
    (subst (λ l. LinesStop left.number l fault line) lines stopped)))

-- the first fault of a text, by what its bytes are and by that of the lines that are left
pub first_of_text : {left : LinesLeft} → AreOfText left → (found : Option PoError) (error : PoError)
    → MatchOption found (IsText left.text) (λ e. TextFault left.text e.kind e.line)
    → LinesStop left.number left.lines error.kind error.line
    → LeftStops left (unwrap_or found error).kind (unwrap_or found error).line
first_of_text h None error is stopped = left_stops h is stopped
first_of_text h (Some first) error is stopped = is

-- the bytes of the first lines that are left
pub rest_text : (rest : Option (Bor (List ℕ))) (own empty : Bor (List ℕ)) → own ≡ unwrap_or rest empty
    → empty.now ≡ [] → (count len : ℕ) → len ≡ lines_len (take count (lines_of_rest rest))
    → IsText (take len own.now) ↔ All IsCleanLine (take count (lines_of_rest rest))
rest_text None own empty is none count len e = (
  λ text. rw (take_all {A = List ℕ} count [] (omega arith)) (All-nil IsCleanLine),
  λ clean. rw (is, none, take_all {A = ℕ} len [] (omega arith))
      (record { utf8 = IsUtf8-nil; no_nul = All-nil (λ b. b ≢ 0) }),
)
rest_text (Some rest) own empty is none count len e = rw (is, e) (first_lines_clean count rest.now)

-- What a piece of a text holds, and what is left after it.

-- a piece that is cut off, where its lines are clean
pub clean_piece : {size len : ℕ} {old new : LinesLeft} {items : List TextItem} (cut : IsCut size len old new items)
    → All IsCleanLine (take cut.read.count old.lines) → IsPiece size old new items
clean_piece cut clean = record { read = cut.read; clean = clean; ends = cut.ends }

-- where they aren't, the text isn't either
pub text_holds_other : {size len : ℕ} {old new : LinesLeft} {items : List TextItem} → IsCut size len old new items
    → AreOfText old → (clean : Bool)
    → ((count : ℕ) → len ≡ lines_len (take count old.lines) → IsTrue clean ↔ All IsCleanLine (take count old.lines))
    → clean ≡ false → IsText old.text → ⊥
text_holds_other {old = old} cut h clean tested not text =
    let is = (tested cut.read.count cut.len_is).1 (left_clean cut.read.count old h text) in absurd (cc (is, not))

pub has_fault : {T : Type 0} {Fits : Type 0} (Is : T → Type 0) (found : Option T) → MatchOption found Fits Is
    → (Fits → ⊥) → IsSome found
has_fault Is None fits other = absurd (other fits)
has_fault Is (Some fault) is other = refl

-- a piece above 2 ^ 31 bytes is all that is left
pub piece_whole : {size : ℕ} {old new : LinesLeft} {items : List TextItem} → IsPiece size old new items → AreOfText old
    → 2 ^ 31 < size → new.lines ≡ []
piece_whole {size} {old} {new} piece h large = ended piece.ends where
  some_next : (number : ℕ) (lines : List (List ℕ)) → LineBeginsAnew number lines → 0 < lines_len lines
  some_next number [] anew = absurd anew
  some_next number (line ∷ lines) anew = omega (arith, sum_by-cons (λ (l : List ℕ). length l + 1) line lines)

  ended : (new.lines ≡ []) ⊎ CanEnd size old piece.read.count → new.lines ≡ []
  ended (inl over) = over
  ended (inr can) =
      let next = some_next (old.number + piece.read.count) (drop piece.read.count old.lines) can.anew in
      absurd (omega (
        arith,
        can.large,
        of_text_few old h,
        next,
        sum_by-take-drop (λ (l : List ℕ). length l + 1) old.lines piece.read.count,
      ))

pub piece_hold : {size : ℕ} {old new : LinesLeft} {items : List TextItem} → IsPiece size old new items
    → All HoldsText items
piece_hold {old = old} {items = items} piece =
    lines_texts old.number (take piece.read.count old.lines) items piece.read.spelt piece.clean

pub piece_few : {size : ℕ} {old new : LinesLeft} {items : List TextItem} → IsPiece size old new items → AreOfText old
    → length items ≤ 2 ^ 31
piece_few {size} {old} {new} {items} piece h =
    few (take piece.read.count old.lines) piece.read.spelt
    (sum_by-take-le (λ (l : List ℕ). length l + 1) old.lines piece.read.count) where
      few : (lines : List (List ℕ)) → SpellsLines old.number lines items → lines_len lines ≤ lines_len old.lines
          → length items ≤ 2 ^ 31
      few [] spelt le = omega (arith, ap length spelt)
      few (line ∷ lines) spelt le = omega (arith, lines-few old.number (line ∷ lines) items spelt, of_text_few old h)

-- what is left after a piece, in what was left before
pub piece_spelt : (size : ℕ) (old new : LinesLeft) (items more : List TextItem) → IsPiece size old new items
    → SpellsLeft new more → SpellsLeft old (items ++ more)
piece_spelt size old new items more piece h =
    let count = piece.read.count in
    let left = subst (λ (left : LinesLeft). SpellsLeft left more) piece.read.rest h in (
      subst (All IsCleanLine) (take-append-drop count old.lines)
          (All-append IsCleanLine (take count old.lines) (drop count old.lines) piece.clean left.0),
      joined_after count old.number old.lines items more piece.read.spelt left.1,
    )

-- where no line is left after a piece, what was left before spells its items
pub piece_all : (size : ℕ) (old new : LinesLeft) (items : List TextItem) → IsPiece size old new items → new.lines ≡ []
    → SpellsLeft old items
piece_all size old new items piece over =
    let nothing : SpellsLeft new [] = (
      rw over (All-nil IsCleanLine),
      subst (λ (lines : List (List ℕ)). SpellsLines new.number lines []) (sym over) refl,
    ) in
    rw append-nil at (piece_spelt size old new items [] piece nothing)

pub piece_stops : (size : ℕ) (old new : LinesLeft) (items : List TextItem) (fault : PoFault) (line : ℕ)
    → IsPiece size old new items → LeftStops new fault line → LeftStops old fault line
piece_stops size old new items fault line piece h =
    subst (λ (text : List ℕ). TextFault text fault line) (ap (λ (left : LinesLeft). left.text) piece.read.rest) h

-- items that end a translation end in a string
ends_in_string : (before : ℕ) (items : List TextItem) → IsTranslation (drop before items) → EndsInString items
ends_in_string zero [] is = tt
ends_in_string zero (word ∷ strings) is = after word strings is.1 is.2 where
  after : (item : TextItem) (strings : List TextItem) → strings ≢ [] → All IsString strings
      → EndsInString (item ∷ strings)
  after item [] some all = absurd (some refl)
  after item (string ∷ []) some all = All-head IsString string [] all
  after item (string ∷ next ∷ strings) some all =
      after string (next ∷ strings) (λ e. absurd (cc)) (All-tail IsString string (next ∷ strings) all)
ends_in_string (suc before) [] is = tt
ends_in_string (suc before) (item ∷ []) is = absurd (subst IsTranslation (drop_all before [] (omega arith)) is)
ends_in_string (suc before) (item ∷ next ∷ items) is = ends_in_string before (next ∷ items) is

pub piece_ends : (size : ℕ) (old new : LinesLeft) (items : List TextItem) (piece : IsPiece size old new items)
    → (new.lines ≡ []) ⊎ EndsInString items
    ⊎ ((2 ^ 16 ≤ lines_len (take piece.read.count old.lines)) × EndsInComment items)
piece_ends size old new items piece = ended piece.ends where
  last : {len : ℕ} → EndsPiece len items → EndsInString items ⊎ ((2 ^ 16 ≤ len) × EndsInComment items)
  last (inl translation) = inl (ends_in_string translation.0 items translation.1)
  last (inr comment) = inr comment

  ended : (new.lines ≡ []) ⊎ CanEnd size old piece.read.count
      → (new.lines ≡ []) ⊎ EndsInString items
      ⊎ ((2 ^ 16 ≤ lines_len (take piece.read.count old.lines)) × EndsInComment items)
  ended (inl over) = inl over
  ended (inr can) =
      let same = lines_once old.number (take piece.read.count old.lines) can.spelt piece.read.spelt in
      let len = lines_len (take piece.read.count old.lines) in
      inr (last {len = len} (subst (EndsPiece len) same can.ends))

-- where the items of a line begin anew, so does whatever the lines from it on spell
line_anew : (number : ℕ) (lines : List (List ℕ)) (item : TextItem) (items : List TextItem) → LineBeginsAnew number lines
    → SpellsLines number lines (item ∷ items) → IsNew item
line_anew number [] item items anew h = absurd anew
line_anew number (line ∷ lines) item items anew h = first anew.0 anew.2 (line_items_once anew.1 h.2) where
  first : (here : List TextItem) → BeginsAnew here → here ≡ h.0 → IsNew item
  first [] new same = absurd new
  first (one ∷ here) new same =
      let is : item ≡ one = let all = h.4 in cc in
      subst IsNew (sym is) new

pub piece_anew : (size : ℕ) (old new : LinesLeft) (items : List TextItem) → IsPiece size old new items → LeftAnew new
piece_anew size old new items piece item more h = ended piece.ends where
  ended : (new.lines ≡ []) ⊎ CanEnd size old piece.read.count → IsNew item
  ended (inl over) = let none : item ∷ more ≡ [] =
      subst (λ (lines : List (List ℕ)). SpellsLines new.number lines (item ∷ more)) over h.1 in absurd (cc)
  ended (inr can) = line_anew (old.number + piece.read.count) (drop piece.read.count old.lines) item more can.anew
      (subst (λ (left : LinesLeft). SpellsLeft left (item ∷ more)) piece.read.rest h).1

pub piece_shorter : (size : ℕ) (old new : LinesLeft) (items : List TextItem) → IsPiece size old new items
    → old.lines ≢ [] → length new.lines < length old.lines
piece_shorter size old new items piece some = ended piece.ends where
  nothing : {len : ℕ} → EndsPiece len [] → ⊥
  nothing (inl ends) = subst IsTranslation (drop_all ends.0 [] (omega arith)) ends.1
  nothing (inr ends) = ends.1

  counted : (len count : ℕ) (others : List TextItem) → SpellsLines old.number (take count old.lines) others
      → EndsPiece len others → 0 < count
  counted len zero others spelt ends = absurd (nothing {len = len} (subst (EndsPiece len) spelt ends))
  counted len (suc count) others spelt ends = omega arith

  ended : (new.lines ≡ []) ⊎ CanEnd size old piece.read.count → length new.lines < length old.lines
  ended (inl over) = rw over (some_length old.lines some)
  ended (inr can) =
      let length_is = ap (λ (left : LinesLeft). length left.lines) piece.read.rest in
      omega (
        arith,
        length_is,
        length-drop piece.read.count old.lines,
        counted (lines_len (take piece.read.count old.lines)) piece.read.count can.items can.spelt can.ends,
        some_length old.lines some,
      )

-- the last item, where it is a comment
pub comment_at : (items : List Item) (n : ℕ) (item : Item) → n + 1 ≡ length items → Some item ≡ slice_get items n
    → IsCommentItem (view item) ↔ EndsInComment (views items)
comment_at [] n item e is = absurd (omega (arith, e))
comment_at (first ∷ []) zero item e is = let same : item ≡ first = cc in rw same (λ h. h, λ h. h)
comment_at (first ∷ []) (suc n) item e is = absurd (omega (arith, e))
comment_at (first ∷ second ∷ items) zero item e is = absurd (omega (arith, e))
comment_at (first ∷ second ∷ items) (suc n) item e is = let less : n + 1 ≡ length (second ∷ items) =
    omega (arith, e) in comment_at (second ∷ items) n item less is
