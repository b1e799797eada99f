-- Items and faults are on the lines that they name, and a byte order mark is no part of a text.
use Rattle.po_syntax.proofs.Prelude.{All, All-append, All-cons, All-contains_itself, All-head, All-nil, All-tail, BeginsLine, ForbiddenByte, HasFaultOnLine, HasFeeds, HasLine, HoldsItems, HoldsTokens, IsOnItsLine, IsText, IsUtf8, IsUtf8-append, ItemsAreOnTheirLines, LineFault, LinesStop, List, MarkIsOmitted, Marks, NotUtf8, PoFault, Some, SpellsLines, TextFault, TextItem, [], ap, append-nil, append_assoc, arith, bytes_eq-Decides, cond, cond_both, count_by, drop, drop-cons, eqb-false, eqb-true, false, get_or, get_or-take, get_or_default_zero, inl, inr, length, length-append, line_number, line_of, lines_of, marked_text, nat_eq, onto_first, position-Some, refl, slice_split-cons_no, starts_with, subst, suc, sum_by-cons, sym, take, take-append-drop, utf8_valid_len, utf8_valid_len_le, without_byte_order_mark, zero, ℕ, ◌++◌, ◌+◌, ◌<◌, ◌==◌, ◌∙◌, ◌∷◌, ◌≡◌, ◌≢◌}
use Rattle.std.proofs.Common.{length-take}
use Rattle.std.specs.List.{position}
use lib.Utf8.{encode}
use Rattle.po_syntax.proofs.Escapes.{by_byte}
use Rattle.po_syntax.specs.Laws.{after_feed, at_end, at_start, before_feed, feed, in_line, no_line, none, not_utf8, nul, other}
use Rattle.po_syntax.specs.PoText as text_faults
use Rattle.po_syntax.specs.Line as spelt

-- how many LFs a text has
abbrev feeds : List ℕ → ℕ
feeds text = count_by (λ b. b == 10) text

feeds_are : (text : List ℕ) → HasFeeds text (feeds text)
feeds_are [] = none
feeds_are (b ∷ text) =
    subst (HasFeeds (b ∷ text)) (sym (sum_by-cons (λ (x : ℕ). cond (x == 10) 1 0) b text))
    (by_byte (λ a n. HasFeeds (a ∷ text) (n + feeds text)) b 10 {x = 1} {y = 0} (feed (feeds_are text)) (λ no.
    let same : feeds text ≡ 0 + feeds text =
    omega arith in subst (HasFeeds (b ∷ text)) same (other (eqb-false b 10 no) (feeds_are text))))

feeds_append : {first second : List ℕ} {m n : ℕ} → HasFeeds first m → HasFeeds second n
    → HasFeeds (first ++ second) (m + n)
feeds_append {second = second} {n = n} none h = subst (HasFeeds second) (omega arith) h
feeds_append {second = second} {n = n} (feed {text = text} {count = count} more) h =
    subst (HasFeeds (10 ∷ text ++ second)) (omega arith) (feed (feeds_append more h))
feeds_append (other differs more) h = other differs (feeds_append more h)

no_feeds : (line : List ℕ) → All (λ b. b ≢ 10) line → HasFeeds line 0
no_feeds [] lacks = none
no_feeds (b ∷ line) lacks =
    other (All-head (λ x. x ≢ 10) b line lacks) (no_feeds line (All-tail (λ x. x ≢ 10) b line lacks))

-- a text is its only line, or has a first line, after which the others stand
pub data Cut : List ℕ → Type 0 where
  only_line : {text : List ℕ} → All (λ b. b ≢ 10) text → lines_of text ≡ text ∷ [] → Cut text
  first_line : (first rest : List ℕ) → All (λ b. b ≢ 10) first → lines_of (first ++ 10 ∷ rest) ≡ first ∷ lines_of rest
      → Cut (first ++ 10 ∷ rest)

cut_other : (b : ℕ) (text : List ℕ) → (b == 10) ≡ false → Cut text → Cut (b ∷ text)
cut_other b text e (only_line lacks is) =
    only_line (All-cons (λ x. x ≢ 10) b text (eqb-false b 10 e) lacks)
    (slice_split-cons_no (λ x. x == 10) b text e ∙ ap (onto_first b) is)
cut_other b text e (first_line first rest lacks is) =
    first_line (b ∷ first) rest (All-cons (λ x. x ≢ 10) b first (eqb-false b 10 e) lacks)
    (slice_split-cons_no (λ x. x == 10) b (first ++ 10 ∷ rest) e ∙ ap (onto_first b) is)

pub cut : (text : List ℕ) → Cut text
cut [] = only_line (All-nil (λ x. x ≢ 10)) refl
cut (b ∷ text) = by_byte (λ (a : ℕ) (u : Unit {0}). Cut (a ∷ text)) b 10 {x = tt} {y = tt}
    (first_line [] text (All-nil (λ x. x ≢ 10)) refl) (λ e. cut_other b text e (cut text))

-- the items of a line have its number
tokens_numbered : {marks : Marks} {number : ℕ} {text : List ℕ} {items : List TextItem}
    → HoldsTokens marks number text items → All (λ i. line_of i ≡ number) items
tokens_numbered {number = number} spelt.end = All-nil (λ i. line_of i ≡ number)
tokens_numbered (spelt.blank is more) = tokens_numbered more
tokens_numbered {number = number} (spelt.keyword {items = items} word more) =
    All-cons (λ i. line_of i ≡ number) _ items refl (tokens_numbered more)
tokens_numbered {number = number} (spelt.string {items = items} bytes more) =
    All-cons (λ i. line_of i ≡ number) _ items refl (tokens_numbered more)

items_numbered : {number : ℕ} {line : List ℕ} {items : List TextItem} → HoldsItems number line items
    → All (λ i. line_of i ≡ number) items
items_numbered (spelt.indented is more) = items_numbered more
items_numbered {number = number} (spelt.comment is) =
    All-cons (λ i. line_of i ≡ number) _ [] refl (All-nil (λ i. line_of i ≡ number))
items_numbered {number = number} (spelt.obsolete_comment blanks all is) =
    All-cons (λ i. line_of i ≡ number) _ [] refl (All-nil (λ i. line_of i ≡ number))
items_numbered (spelt.live tokens) = tokens_numbered tokens
items_numbered (spelt.previous tokens) = tokens_numbered tokens
items_numbered (spelt.obsolete tokens) = tokens_numbered tokens
items_numbered (spelt.obsolete_previous tokens) = tokens_numbered tokens

on_line : (text line : List ℕ) (number : ℕ) (items : List TextItem) → HasLine text line number
    → HoldsItems number line items → All (IsOnItsLine text) items
on_line text line number items has holds = λ k d below.
    let item = get_or items k d in
    let named : line_of item ≡ number = items_numbered holds k d below in
    record {
      line = line;
      items = items;
      has_line = subst (HasLine text line) (sym named) has;
      holds = subst (λ n. HoldsItems n line items) (sym named) holds;
      among = All-contains_itself items k d below;
    }

-- the text has these lines, from this number on
abbrev HasLines : List ℕ → ℕ → List (List ℕ) → Type 0
HasLines text number [] = Unit {0}
HasLines text number (line ∷ lines) = HasLine text line number × HasLines text (number + 1) lines

lines_left : (n : ℕ) (text before rest : List ℕ) (count : ℕ) → Cut rest → length rest < n → text ≡ before ++ rest
    → BeginsLine before → HasFeeds before count
    → HasLines text (1 + count) (lines_of rest)
lines_left zero text before rest count parts less whole begins counted = absurd (omega (arith, less))
lines_left (suc n) text before rest count (only_line lacks is) less whole begins counted =
    let all : text ≡ before ++ (rest ++ []) = whole ∙ ap (λ l. before ++ l) (sym (append-nil rest)) in
    rw is (
      record {
        before = before;
        after = [];
        feeds = count;
        whole = all;
        begins = begins;
        one_line = lacks;
        ends =
            at_end;
        counted = counted;
        number_is = refl;
      },
      tt,
    )
lines_left (suc n) text before rest count (first_line first more lacks is) less whole begins counted =
    let longer = before ++ first ++ 10 ∷ [] in
    let all : text ≡ longer ++ more =
    whole ∙ sym (append_assoc (before ++ first) (10 ∷ []) more ∙ append_assoc before first (10 ∷ more)) in
    let feeds : HasFeeds longer (count + 1) =
    subst (HasFeeds longer) (omega arith)
    (feeds_append (feeds_append counted (no_feeds first lacks)) (feed none)) in
    let others = lines_left n text longer more (count + 1) (cut more)
    (omega (arith, less, length-append first (10 ∷ more))) all (after_feed (before ++ first)) feeds in
    rw is (
      record {
        before = before;
        after = 10 ∷ more;
        feeds = count;
        whole = whole;
        begins = begins;
        one_line = lacks;
        ends = before_feed;
        counted = counted;
        number_is = refl;
      },
      subst (λ m. HasLines text m (lines_of more)) (omega arith) others,
    )

has_lines : (text : List ℕ) → HasLines text 1 (lines_of text)
has_lines text = lines_left (length text + 1) text [] text 0 (cut text) (omega arith) refl at_start none

items_placed : (text : List ℕ) (number : ℕ) (lines : List (List ℕ)) (items : List TextItem) → HasLines text number lines
    → SpellsLines number lines items → All (IsOnItsLine text) items
items_placed text number [] items has h = rw h (All-nil (IsOnItsLine text))
items_placed text number (line ∷ lines) items has h =
    rw h.4 (All-append (IsOnItsLine text) h.0 h.1 (on_line text line number h.0 has.0 h.2)
    (items_placed text (number + 1) lines h.1 has.1 h.3))

pub items_on_lines : (text : List ℕ) (items : List TextItem) → ItemsAreOnTheirLines text items
items_on_lines text items h = let own =
    without_byte_order_mark text in items_placed own 1 (lines_of own) items (has_lines own) h.lines

fault_placed : (text : List ℕ) (number : ℕ) (lines : List (List ℕ)) (fault : PoFault) (at : ℕ)
    → HasLines text number lines → LinesStop number lines fault at
    → (line : List ℕ) × HasLine text line at × LineFault line fault
fault_placed text number [] fault at has stops = absurd stops
fault_placed text number (line ∷ lines) fault at has (inl here) =
    (line, subst (HasLine text line) (sym here.1) has.0, here.0)
fault_placed text number (line ∷ lines) fault at has (inr later) =
    fault_placed text (number + 1) lines fault at has.1 later.2

-- where a text has a byte
byte_splits : (text : List ℕ) (index d : ℕ) → index < length text
    → text ≡ take index text ++ get_or text index d ∷ drop (suc index) text
byte_splits text index d below =
    sym (take-append-drop index text) ∙ ap (λ l. take index text ++ l) (drop-cons text index d below)

nul_placed : (text : List ℕ) (index : ℕ) → position (λ b. b == 0) text ≡ Some index
    → HasFaultOnLine text ForbiddenByte (line_number text index)
nul_placed text index h =
    let found = position-Some (λ b. b == 0) text index 0 h in
    let whole : text ≡ take index text ++ 0 ∷ drop (suc index) text =
    byte_splits text index 0 found.0
    ∙ ap (λ b. take index text ++ b ∷ drop (suc index) text) (eqb-true _ _ found.1) in
    let lacks : All (λ b. b ≢ 0) (take index text) = λ k d inside.
    let less : k < index = omega (arith, length-take index text) in
    rw (get_or-take index text k d less)
    (eqb-false _ _ (rw (get_or_default_zero text k d (omega (arith, found.0))) (found.2 k less))) in
    subst (λ l. HasFaultOnLine l ForbiddenByte (1 + feeds (take index text))) (sym whole)
    (nul (take index text) (drop (suc index) text) lacks (feeds_are (take index text)))

pub fault_on_line : {text : List ℕ} {fault : PoFault} {line : ℕ} → TextFault text fault line
    → HasFaultOnLine text fault line
fault_on_line (text_faults.too_large large) = no_line large
fault_on_line (text_faults.not_utf8 {text = text} small invalid is) =
    let end = utf8_valid_len text in
    let whole = take-append-drop end text in
    let len : length (take end text) ≡ utf8_valid_len (take end text ++ drop end text) =
    length-take end text ∙ omega (arith, utf8_valid_len_le text) ∙ ap utf8_valid_len (sym whole) in
    subst (HasFaultOnLine text NotUtf8) (sym is)
    (subst (λ l. HasFaultOnLine l NotUtf8 (1 + feeds (take end text))) whole
    (not_utf8 (take end text) (drop end text) len (feeds_are (take end text))))
fault_on_line (text_faults.nul {text = text} {index = index} small utf8 found is) =
    subst (HasFaultOnLine text ForbiddenByte) (sym is) (nul_placed text index found)
fault_on_line (text_faults.stops {text = text} {fault = fault} {line = line} small utf8 no_nul stops) =
    let own = without_byte_order_mark text in
    let at = fault_placed own 1 (lines_of own) fault line (has_lines own) stops in in_line at.1 at.2

-- a byte order mark is UTF-8 without NUL
mark_utf8 : IsUtf8 (0xEF ∷ 0xBB ∷ 0xBF ∷ [])
unfolding encode
mark_utf8 = (0xFEFF ∷ [], (refl, refl))

mark_has_none : All (λ (b : ℕ). b ≢ 0) (0xEF ∷ 0xBB ∷ 0xBF ∷ [])
mark_has_none = All-cons (λ (b : ℕ). b ≢ 0) 0xEF (0xBB ∷ 0xBF ∷ []) (omega arith)
    (All-cons (λ (b : ℕ). b ≢ 0) 0xBB (0xBF ∷ []) (omega arith)
    (All-cons (λ (b : ℕ). b ≢ 0) 0xBF [] (omega arith) (All-nil (λ b. b ≢ 0))))

pub text_after_mark : (text : List ℕ) → IsText text → IsText (marked_text text)
text_after_mark text h = record {
  utf8 = IsUtf8-append (0xEF ∷ 0xBB ∷ 0xBF ∷ []) text mark_utf8 h.utf8;
  no_nul = All-append (λ b. b ≢ 0) (0xEF ∷ 0xBB ∷ 0xBF ∷ []) text mark_has_none h.no_nul;
}

unmarked : (text : List ℕ) → ((rest : List ℕ) → text ≢ marked_text rest) → without_byte_order_mark text ≡ text
unmarked text unlike =
    cond_both (starts_with nat_eq text (0xEF ∷ 0xBB ∷ 0xBF ∷ [])) (drop 3 text) text (λ t. t ≡ text) (λ e.
    let mark : 0xEF ∷ 0xBB ∷ 0xBF ∷ [] ≡ take 3 text = (bytes_eq-Decides (0xEF ∷ 0xBB ∷ 0xBF ∷ []) (take 3 text)).0 e in
    absurd (unlike (drop 3 text) (sym (take-append-drop 3 text) ∙ ap (λ l. l ++ drop 3 text) (sym mark)))) (λ _. refl)

pub mark_omitted : (text : List ℕ) (items : List TextItem) → MarkIsOmitted text items
mark_omitted text items small unlike h =
    let marked = text_after_mark text (record { utf8 = h.utf8; no_nul = h.no_nul }) in
    record {
      small = small;
      utf8 = marked.utf8;
      no_nul = marked.no_nul;
      lines = subst (λ l. SpellsLines 1 (lines_of l) items) (unmarked text unlike) h.lines;
    }
