-- Texts that may stand on a line, as the written bytes of UTF-8 may.
use Rattle.po_writer.proofs.Prelude.{All, All-append, All-cons, All-left, All-nil, All-right, AllPass-from_list_all, Bool, ContainsLines, IsText, IsUtf8, Lacks, List, [], all_scalars, and_parts, append_assoc, arith, common_steps, encode_utf8_all, ended, get_or, last, length, length-append, list_all, ltb-true, nat_lt, none, quoted, subst, sym, true, ℕ, ⊎_elim, ◌&&◌, ◌++◌, ◌+◌, ◌<◌, ◌∷◌, ◌≡◌, ◌≢◌, ◌≤◌}
use Rattle.std.proofs.Math.Utf8.{encode, scalar_cases}
use Rattle.std.proofs.Math.Seq.{drop-append_seam, get_or-append_seam, take-append_seam}
use Rattle.std.proofs.lemmas.Str.{IsCharBoundary-after_ascii, IsUtf8-append, IsUtf8-drop, IsUtf8-from_ascii, IsUtf8-nil, IsUtf8-take}
use Rattle.std.proofs.lemmas.Str.Ascii.{IsAscii-cons, IsAscii-from_all, IsAscii-nil}
use Rattle.po_syntax.proofs.QuotedForms.{quoted_shown, quoted_utf8}

abbrev IsByte : ℕ → Type 0
IsByte b = b < 256

encode_bytes : (c : ℕ) → c < 1114112 → All IsByte (encode c)
unfolding encode
encode_bytes c below = grind (arith, common_steps)

all_bytes : (cs : List ℕ) → all_scalars cs ≡ true → All IsByte (encode_utf8_all cs)
all_bytes [] h = All-nil IsByte
all_bytes (c ∷ cs) h =
    let both = and_parts _ _ h in
    let below : c < 1114112 = ⊎_elim (λ low. omega (arith, low)) (λ high. high.1) (scalar_cases c both.0) in
    All-append IsByte (encode c) (encode_utf8_all cs) (encode_bytes c below) (all_bytes cs both.1)

utf8_bytes : (text : List ℕ) → IsUtf8 text → All IsByte text
utf8_bytes text h = subst (All IsByte) h.1.1 (all_bytes h.0 h.1.0)

pub text_some : (text : List ℕ) → IsText text → All (λ b. (0 < b) × (b < 256)) text
text_some text h = λ k d inside. (omega (arith, h.no_nul k d inside), utf8_bytes text h.utf8 k d inside)

pub text-empty : IsText []
text-empty = record { utf8 = IsUtf8-nil; no_nul = All-nil (λ b. b ≢ 0) }

pub text-feed : IsText (10 ∷ [])
text-feed = record {
  utf8 = IsUtf8-from_ascii (10 ∷ []) (IsAscii-cons 10 [] (omega arith) IsAscii-nil);
  no_nul =
      All-cons (λ b. b ≢ 0) 10 [] (λ e. cc) (All-nil (λ b. b ≢ 0));
}

pub text-append : (xs ys : List ℕ) → IsText xs → IsText ys → IsText (xs ++ ys)
text-append xs ys h g = record
    { utf8 = IsUtf8-append xs ys h.utf8 g.utf8; no_nul = All-append (λ b. b ≢ 0) xs ys h.no_nul g.no_nul }

-- a text that may stand on a line: one without LF
pub record IsLine (text : List ℕ) : Type 0 where
  pub valid : IsText text
  pub one_line : Lacks 10 text

pub line-append : (xs ys : List ℕ) → IsLine xs → IsLine ys → IsLine (xs ++ ys)
line-append xs ys h g = record
    { valid = text-append xs ys h.valid g.valid; one_line = All-append (λ b. b ≢ 10) xs ys h.one_line g.one_line }

-- bytes from space on are neither NUL nor LF
shown_line : (text : List ℕ) → IsUtf8 text → All (λ b. 32 ≤ b) text → IsLine text
shown_line text utf8 shown = grind (arith, common_steps)

pub quoted_line : (text : List ℕ) → IsUtf8 text → IsLine (quoted text)
quoted_line text utf8 = shown_line (quoted text) (quoted_utf8 text utf8) (quoted_shown text (utf8_bytes text utf8))

pub ascii_line : (text : List ℕ) → All (λ b. (32 ≤ b) × (b < 128)) text → IsLine text
ascii_line text h = shown_line text (IsUtf8-from_ascii text (IsAscii-from_all text (λ k d inside. (h k d inside).1)))
    (λ k d inside. (h k d inside).0)

abbrev is_shown_ascii : ℕ → Bool
is_shown_ascii b = nat_lt 31 b && nat_lt b 128

-- a text of such bytes, as it computes
pub plain_line : (text : List ℕ) → list_all is_shown_ascii text ≡ true → IsLine text
plain_line text e =
    ascii_line text (λ k d inside.
    let both = and_parts _ _ (AllPass-from_list_all is_shown_ascii text e k d inside) in
    (omega (arith, ltb-true 31 (get_or text k d) both.0), ltb-true (get_or text k d) 128 both.1))

-- the line of a LF, and the text after it
feed_parts : (line text : List ℕ) → IsText (line ++ 10 ∷ text) → IsText (line ++ 10 ∷ []) × IsText text
feed_parts line text h =
    let ended = line ++ 10 ∷ [] in
    let whole : line ++ 10 ∷ text ≡ ended ++ text = sym (append_assoc line (10 ∷ []) text) in
    let inside : length line < length (line ++ 10 ∷ text) = omega (arith, length-append line (10 ∷ text)) in
    let low : get_or (line ++ 10 ∷ text) (length line) 0 < 128 = rw get_or-append_seam (omega arith) in
    let after = IsCharBoundary-after_ascii (line ++ 10 ∷ text) (length line) h.utf8 inside low in
    let long : length line + 1 ≡ length ended = omega (arith, length-append line (10 ∷ [])) in
    let before = rw (long, whole, take-append_seam) at
    (IsUtf8-take (line ++ 10 ∷ text) (length line + 1) h.utf8 after) in
    let rest = rw (long, whole, drop-append_seam) at (IsUtf8-drop (line ++ 10 ∷ text) (length line + 1) h.utf8 after) in
    let no_nul = rw whole at h.no_nul in (
      record { utf8 = before; no_nul = All-left (λ b. b ≢ 0) ended text no_nul },
      record { utf8 = rest; no_nul = All-right (λ b. b ≢ 0) ended text no_nul },
    )

-- the lines of a text may stand in it
pub text_lines : {text : List ℕ} {lines : List (List ℕ)} → ContainsLines text lines → IsText text → All IsText lines
text_lines none h = All-nil IsText
text_lines (last {b = b} {line = line} lacks) h = All-cons IsText (b ∷ line) [] h (All-nil IsText)
text_lines (ended line {text = text} {lines = lines} lacks more) h =
    let parts = feed_parts line text h in All-cons IsText (line ++ 10 ∷ []) lines parts.0 (text_lines more parts.1)
