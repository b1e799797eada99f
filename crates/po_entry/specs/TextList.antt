-- Lists of texts that the code keeps in one buffer, each behind its length: one byte where that is
-- below 255, else 255 and eight bytes, the lowest first.
use Rattle.std.specs.Prelude.{◌≡◌, ◌^◌, ◌<◌, ◌++◌, ◌∷◌, [], ℕ, zero, suc, List, All, Option, None, Some, drop, length, nat_lt, take, if◌then◌else◌}
use Rattle.std.specs.List.{flat_map}
use Rattle.byteorder.specs.Endian.{little_bytes, little_number}
use Rattle.po_entry.specs.declared.text_list.TextListIter.{TextListIter}

-- the bytes of a length
abbrev pub length_bytes : ℕ → List ℕ
length_bytes length = if nat_lt length 255 then length ∷ [] else 255 ∷ little_bytes 8 length

-- the bytes of a text and its length
abbrev pub measured : List ℕ → List ℕ
measured text = length_bytes (length text) ++ text

-- the length with which bytes begin, and the bytes after it; none where no whole length stands there
abbrev pub text_length : List ℕ → Option (ℕ × List ℕ)
text_length [] = None
text_length (first ∷ rest) =
    if nat_lt first 255 then Some (first, rest)
    else if nat_lt (length rest) 8 then None else Some (little_number 8 rest, drop 8 rest)

-- the text that has this length, before those of the bytes after it
abbrev pub text_before : (List ℕ → List (List ℕ)) → Option (ℕ × List ℕ) → List (List ℕ)
text_before others None = []
text_before others (Some (length, rest)) = take length rest ∷ others (drop length rest)

-- so many texts of a buffer, or fewer where it ends before
abbrev pub cut_texts : ℕ → List ℕ → List (List ℕ)
cut_texts zero bytes = []
cut_texts (suc more) bytes = text_before (cut_texts more) (text_length bytes)

-- all texts of a buffer, which are no more than its bytes
unfoldable pub texts_in : List ℕ → List (List ℕ)
texts_in bytes = cut_texts (length bytes) bytes

-- the bytes are those of the texts that are cut from them
abbrev pub AreTexts : List ℕ → Type 0
AreTexts bytes =
    (flat_map measured (texts_in bytes) ≡ bytes) × All (λ text. length text < 2 ^ 64) (texts_in bytes)

-- the texts that an iterator has yet to give
abbrev pub texts_left : TextListIter → List (List ℕ)
texts_left texts = texts_in texts.bytes.now
