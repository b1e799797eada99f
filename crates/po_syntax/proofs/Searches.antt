-- What a search for a byte finds, in terms of lists.
use Rattle.po_syntax.proofs.Prelude.{All, Bool, IsFirstByte, List, None, Option, Some, [], arith, cond-false, cond-true, drop, drop-drop, eqb-false, false_from_ne_true, get_or_default_zero, is_byte, le-ltb, length, lines_of, lt-ltb, not_utf8, nul, position, position_or_len, position_or_len_is, slice_split_first, slice_split_none, take, too_large, unwrap_or, ℕ, ◌<◌, ◌∷◌, ◌≡◌, ◌≢◌}

-- the index found, or the length where none is
pub found_or_len : (test : ℕ → Bool) (text : List ℕ) (found : Option ℕ) → IsFirstByte test text found
    → position_or_len test text ≡ unwrap_or found (length text)
found_or_len test text None h =
    position_or_len_is test text (length text) 0 (omega arith)
    (λ k inside. false_from_ne_true _ (h k (omega arith) inside)) (λ beyond. absurd (omega arith))
found_or_len test text (Some index) h =
    let inside : index < length text = omega (arith, h.0.high) in
    position_or_len_is test text index 0 (omega arith)
    (λ k before. false_from_ne_true _ (h.0.before k (omega arith) before)) (λ _. h.1)

-- the index found is the first position that passes
pub position_found : (test : ℕ → Bool) (text : List ℕ) (found : Option ℕ) → IsFirstByte test text found
    → position test text ≡ found
position_found test text None h =
    rw (found_or_len test text None h) (cond-false _ _ _ (le-ltb (length text) (length text) (omega arith)))
position_found test text (Some index) h =
    rw (found_or_len test text (Some index) h) (cond-true _ _ _ (lt-ltb index (length text) (omega (arith, h.0.high))))

pub none_found : (byte : ℕ) (text : List ℕ) → IsFirstByte (is_byte byte) text None → All (λ b. b ≢ byte) text
none_found byte text h = λ k d inside.
    rw (get_or_default_zero text k d inside) (eqb-false _ _ (false_from_ne_true _ (h k (omega arith) inside)))

-- a text without LF is its only line
pub one_line : (text : List ℕ) → IsFirstByte (is_byte 10) text None → lines_of text ≡ text ∷ []
one_line text h = slice_split_none _ text
    (λ k d inside. rw (get_or_default_zero text k d inside) (false_from_ne_true _ (h k (omega arith) inside)))

-- the first line ends before the first LF, and the others are those after it
pub line_cut : (text : List ℕ) (index : ℕ) → IsFirstByte (is_byte 10) text (Some index)
    → lines_of text ≡ take index text ∷ lines_of (drop 1 (drop index text))
line_cut text index h =
    let first : position_or_len (is_byte 10) text ≡ index = found_or_len (is_byte 10) text (Some index) h in
    let inside : index < length text = omega (arith, h.0.high) in
    rw drop-drop (rw first at (slice_split_first (is_byte 10) text 0 (rw first inside)))

pub ruleset text_faults = (none_found, position_found, too_large, not_utf8, nul)
