-- How a list of messages is laid out as an MO file: the file header, the two tables, all originals
-- and all translations, without padding and without a hash table (manual, "The Format of GNU MO
-- Files").
use Rattle.std.specs.Prelude.{ℕ, ◌+◌, ◌*◌, List, [], ◌∷◌, ◌++◌, length}
use Rattle.mo_file.specs.declared.byte_order.Order.{Order}
use Rattle.mo_file.specs.ByteOrder.{word_bytes}
use Rattle.mo_file.specs.FileHeader.{magic}
use Rattle.mo_file.specs.Pairs.{Message, originals, translations}

-- the strings, each with its NUL
abbrev pub terminated : List (List ℕ) → List ℕ
terminated [] = []
terminated (s ∷ ss) = (s ++ 0 ∷ []) ++ terminated ss

-- a length and an offset for each of the strings, of which the first stands at this offset and the
-- next after the NUL of the one before
abbrev pub table : Order → ℕ → List (List ℕ) → List ℕ
table order at [] = []
table order at (s ∷ ss) = (word_bytes order (length s) ++ word_bytes order at) ++ table order (at + length s + 1) ss

-- the file header: revision 0, the number of messages, the offsets of the two tables, 28 and
-- 28 + 8N, and a hash table of no entries at 28 + 16N, where the strings begin
abbrev pub header : Order → ℕ → List ℕ
header order count =
    magic order ++ word_bytes order 0 ++ word_bytes order count
    ++ word_bytes order 28 ++ word_bytes order (28 + 8 * count)
    ++ word_bytes order 0 ++ word_bytes order (28 + 16 * count)

-- where the originals begin
abbrev pub originals_offset : List Message → ℕ
originals_offset messages = 28 + 16 * length messages

-- where the translations begin
abbrev pub translations_offset : List Message → ℕ
translations_offset messages = originals_offset messages + length (terminated (originals messages))

-- the whole file, in the order of the list; that its offsets fit 32 bits is asked where it is used
abbrev pub layout : Order → List Message → List ℕ
layout order messages =
    header order (length messages)
    ++ table order (originals_offset messages) (originals messages)
    ++ table order (translations_offset messages) (translations messages)
    ++ terminated (originals messages)
    ++ terminated (translations messages)
