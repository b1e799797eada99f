-- A text spells one list of items or has one first fault, and not both.
use Rattle.po_syntax.proofs.Prelude.{All, Bool, Err, ForbiddenByte, HoldsItems, IsSmall, IsUtf8, IsUtf8-from_is_utf8, LineFault, LinesStop, List, None, NotUtf8, Ok, Option, PoFault, Some, SpellsLines, SpellsString, SpellsText, TextFault, TextItem, TooLarge, [], ap, arith, cases_lt, eqb-true, false, false≢true, inl, inr, is_utf8, is_utf8-from_IsUtf8, length, line_number, lines_of, not_utf8, nul, position, position-Some, refl, same, stops, sym, too_large, true, utf8_valid_len, without_byte_order_mark, ℕ, ◌++◌, ◌+◌, ◌==◌, ◌^◌, ◌∙◌, ◌∷◌, ◌≡◌, ◌≢◌, ◌⊎◌}
use Rattle.po_syntax.proofs.OneLine.{LineIs, Outcome, line_once, line_once as once_of_line}
use Rattle.po_syntax.proofs.StringsRead.{string_once}
use Rattle.po_syntax.proofs.Utf8Lines.{no_nul_all}

pub strings_once : {text bytes rest others end : List ℕ} → SpellsString text bytes rest → SpellsString text others end
    → (bytes ≡ others) × (rest ≡ end)
strings_once {text = text} {bytes = bytes} {rest = rest} {others = others} {end = end} h g =
    let e = same (string_once text) {one = Ok (bytes, rest)} {other = Ok (others, end)} h g in
    let both : ◌≡◌ {A = List ℕ × List ℕ} (bytes, rest) (others, end) = cc in (ap (λ p. p.0) both, ap (λ p. p.1) both)

pub line_items_once : {line : ℕ} {text : List ℕ} {items others : List TextItem} → HoldsItems line text items
    → HoldsItems line text others → items ≡ others
line_items_once {line} {text} {items} {others} h g = let e =
    same (once_of_line line text) {one = Ok items} {other = Ok others} h g in cc

pub line_not_stopped : {line : ℕ} {text : List ℕ} {items : List TextItem} {fault : PoFault} → HoldsItems line text items
    → LineFault text fault → ⊥
line_not_stopped {line} {text} {items} {fault} h g = let e =
    same (once_of_line line text) {one = Ok items} {other = Err fault} h g in cc

pub line_stops_once : {text : List ℕ} {fault other : PoFault} → LineFault text fault → LineFault text other
    → fault ≡ other
line_stops_once {text} {fault} {other} h g = let e =
    same (once_of_line 0 text) {one = Err fault} {other = Err other} h g in cc

pub lines_once : (number : ℕ) (lines : List (List ℕ)) {items others : List TextItem} → SpellsLines number lines items
    → SpellsLines number lines others → items ≡ others
lines_once number [] h g = h ∙ sym g
lines_once number (line ∷ lines) h g =
    h.4 ∙ rw (line_items_once h.2 g.2, lines_once (number + 1) lines h.3 g.3) (sym g.4)

lines_not_stopped : (number : ℕ) (lines : List (List ℕ)) (items : List TextItem) (fault : PoFault) (at : ℕ)
    → SpellsLines number lines items → LinesStop number lines fault at → ⊥
lines_not_stopped number [] items fault at h g = g
lines_not_stopped number (line ∷ lines) items fault at h (inl g) = line_not_stopped h.2 g.0
lines_not_stopped number (line ∷ lines) items fault at h (inr g) =
    lines_not_stopped (number + 1) lines h.1 fault at h.3 g.2

lines_stop_once : (number : ℕ) (lines : List (List ℕ)) {fault other : PoFault} {at other_line : ℕ}
    → LinesStop number lines fault at → LinesStop number lines other other_line → (fault ≡ other) × (at ≡ other_line)
lines_stop_once number [] h g = absurd h
lines_stop_once number (line ∷ lines) (inl h) (inl g) = (line_stops_once h.0 g.0, h.1 ∙ sym g.1)
lines_stop_once number (line ∷ lines) (inl h) (inr g) = absurd (line_not_stopped g.1 h.0)
lines_stop_once number (line ∷ lines) (inr h) (inl g) = absurd (line_not_stopped h.1 g.0)
lines_stop_once number (line ∷ lines) (inr h) (inr g) = lines_stop_once (number + 1) lines h.2 g.2

pub text_once : (text : List ℕ) (items others : List TextItem) → SpellsText text items → SpellsText text others
    → items ≡ others
text_once text items others h g = lines_once 1 _ h.lines g.lines

no_nul_found : (text : List ℕ) {index : ℕ} → All (λ b. b ≢ 0) text → position (λ b. b == 0) text ≡ Some index → ⊥
no_nul_found text {index} lacks e = let found =
    position-Some (λ b. b == 0) text index 0 e in lacks index 0 found.0 (eqb-true _ _ found.1)

pub text_not_faulty : (text : List ℕ) (items : List TextItem) (fault : PoFault) (line : ℕ) → SpellsText text items
    → TextFault text fault line → ⊥
text_not_faulty text items fault line h (too_large large) = omega (arith, h.small)
text_not_faulty text items fault line h (not_utf8 small other e) = other h.utf8
text_not_faulty text items fault line h (nul small utf8 found e) = no_nul_found text h.no_nul found
text_not_faulty text items fault line h (stops small utf8 no_nul g) = lines_not_stopped 1 _ items fault line h.lines g

pub fault_once : (text : List ℕ) (fault other : PoFault) (line other_line : ℕ) → TextFault text fault line
    → TextFault text other other_line → (fault ≡ other) × (line ≡ other_line)
fault_once text fault other line other_line (too_large p) (too_large q) = (refl, refl)
fault_once text fault other line other_line (too_large p) (not_utf8 q u e) = absurd (omega arith)
fault_once text fault other line other_line (too_large p) (nul q u f e) = absurd (omega arith)
fault_once text fault other line other_line (too_large p) (stops q u n g) = absurd (omega arith)
fault_once text fault other line other_line (not_utf8 p v d) (too_large q) = absurd (omega arith)
fault_once text fault other line other_line (not_utf8 p v d) (not_utf8 q u e) = (refl, d ∙ sym e)
fault_once text fault other line other_line (not_utf8 p v d) (nul q u f e) = absurd (v u)
fault_once text fault other line other_line (not_utf8 p v d) (stops q u n g) = absurd (v u)
fault_once text fault other line other_line (nul p v h d) (too_large q) = absurd (omega arith)
fault_once text fault other line other_line (nul p v h d) (not_utf8 q u e) = absurd (u v)
fault_once text fault other line other_line (nul {index = a} p v h d) (nul {index = b} q u f e) = let same : a ≡ b =
    cc in (refl, d ∙ rw same (sym e))
fault_once text fault other line other_line (nul p v h d) (stops q u n g) = absurd (no_nul_found text n h)
fault_once text fault other line other_line (stops p v m h) (too_large q) = absurd (omega arith)
fault_once text fault other line other_line (stops p v m h) (not_utf8 q u e) = absurd (u v)
fault_once text fault other line other_line (stops p v m h) (nul q u f e) = absurd (no_nul_found text m f)
fault_once text fault other line other_line (stops p v m h) (stops q u n g) = lines_stop_once 1 _ h g

abbrev LineEnds : ℕ → List ℕ → Type 0
LineEnds line text = ((items : List TextItem) × HoldsItems line text items) ⊎ ((fault : PoFault) × LineFault text fault)

pub line_ends : (line : ℕ) (text : List ℕ) → LineEnds line text
line_ends line text = let once = line_once line text in by once.outcome once.holds where
  by : (outcome : Outcome) → LineIs line text outcome → LineEnds line text
  by (Ok items) h = inl (items, h)
  by (Err fault) h = inr (fault, h)

lines_end : (number : ℕ) (lines : List (List ℕ))
    → ((items : List TextItem) × SpellsLines number lines items)
    ⊎ ((fault : PoFault) × (at : ℕ) × LinesStop number lines fault at)
lines_end number [] = inl ([], refl)
lines_end number (line ∷ lines) =
    elim (line_ends number line) [
      | inl first ↦ elim (lines_end (number + 1) lines) [
        | inl others ↦ inl (first.0 ++ others.0, (first.0, others.0, first.1, others.1, refl))
        | inr fault ↦ inr
            (fault.0, fault.1, inr (first.0, first.1, fault.2))
      ]
      | inr fault ↦ inr (fault.0, number, inl (fault.1, refl))
    ]

utf8_or_not : (text : List ℕ) (test : Bool) → is_utf8 text ≡ test → IsUtf8 text ⊎ (IsUtf8 text → ⊥)
utf8_or_not text true e = inl (IsUtf8-from_is_utf8 text e)
utf8_or_not text false e = inr (λ utf8. false≢true (sym e ∙ is_utf8-from_IsUtf8 text utf8))

abbrev TextEnds : List ℕ → Type 0
TextEnds text = ((items : List TextItem) × SpellsText text items)
    ⊎ ((fault : PoFault) × (line : ℕ) × TextFault text fault line)

text_without_nul : (text : List ℕ) → IsSmall text → IsUtf8 text → (found : Option ℕ)
    → position (λ b. b == 0) text ≡ found → TextEnds text
text_without_nul text small utf8 (Some index) e = inr (ForbiddenByte, line_number text index, nul small utf8 e refl)
text_without_nul text small utf8 None e = let no_nul = no_nul_all text e in
    elim (lines_end 1 (lines_of (without_byte_order_mark text))) [
      | inl found ↦ inl (found.0, record { small = small; utf8 = utf8; no_nul = no_nul; lines = found.1 })
      | inr found
          ↦ inr (found.0, found.1, stops small utf8 no_nul found.2)
    ]

pub text_ends : (text : List ℕ) → TextEnds text
text_ends text =
    elim (cases_lt (length text) (2 ^ 31)) [
      | inl small ↦ elim (utf8_or_not text (is_utf8 text) refl) [
        | inl utf8 ↦ text_without_nul text small utf8 (position (λ b. b == 0) text) refl
        | inr other ↦ inr
            (NotUtf8, line_number text (utf8_valid_len text), not_utf8 small other refl)
      ]
      | inr large ↦ inr (TooLarge, 0, too_large large)
    ]
