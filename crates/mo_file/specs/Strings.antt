-- The tables of an MO file: for each message the length of a string, without its NUL, and its
-- offset from the start of the file (manual, "The Format of GNU MO Files").
use Rattle.std.specs.Prelude.{ℕ, ◌+◌, ◌*◌, List, map}
use Rattle.std.specs.List.{range_with_len, slice_range}
use Rattle.mo_file.specs.declared.byte_order.Order.{Order}
use Rattle.mo_file.specs.ByteOrder.{word_at}
use Rattle.mo_file.specs.FileHeader.{message_count, originals_table, translations_table}
use Rattle.mo_file.specs.Pairs.{Message}

-- where string i of the table that begins at `table` begins, i counted from 0
abbrev pub offset_at : Order → List ℕ → ℕ → ℕ → ℕ
offset_at order bytes table i = word_at order bytes (table + 8 * i + 4)

-- where it ends: its NUL stands there
abbrev pub end_at : Order → List ℕ → ℕ → ℕ → ℕ
end_at order bytes table i = offset_at order bytes table i + word_at order bytes (table + 8 * i)

-- string i of a table, without its NUL
unfoldable pub string_at : Order → List ℕ → ℕ → ℕ → List ℕ
string_at order bytes table i = slice_range bytes (offset_at order bytes table i) (end_at order bytes table i)

abbrev pub original_at : Order → List ℕ → ℕ → List ℕ
original_at order bytes i = string_at order bytes (originals_table order bytes) i

abbrev pub translation_at : Order → List ℕ → ℕ → List ℕ
translation_at order bytes i = string_at order bytes (translations_table order bytes) i

abbrev pub message_at : Order → List ℕ → ℕ → Message
message_at order bytes i = record { original = original_at order bytes i; translation = translation_at order bytes i }

-- the messages of a file, in the order of its tables
unfoldable pub messages_of : Order → List ℕ → List Message
messages_of order bytes = map (message_at order bytes) (range_with_len 0 (message_count order bytes))
