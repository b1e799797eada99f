-- The file header of an MO file: the magic number, the revision, the number of messages, and where
-- the tables of the originals and of the translations begin. Two more words, for a hash table, are
-- ignored (manual, "The Format of GNU MO Files").
use Rattle.std.specs.Prelude.{◌≡◌, ℕ, List, [], ◌∷◌, take}
use Rattle.mo_file.specs.declared.byte_order.Order.{Order}
use Rattle.mo_file.specs.declared.byte_order.Order.TheVariants.{Little, Big}
use Rattle.mo_file.specs.ByteOrder.{word_at}

-- the magic number 0x950412de as it stands in a file
abbrev pub magic : Order → List ℕ
magic Little = 0xde ∷ 0x12 ∷ 0x04 ∷ 0x95 ∷ []
magic Big = 0x95 ∷ 0x04 ∷ 0x12 ∷ 0xde ∷ []

-- the magic number of a file shows its byte order, that of all its words
abbrev pub HasMagicOf : Order → List ℕ → Type 0
HasMagicOf order bytes = take 4 bytes ≡ magic order

-- the major revision stands in the high 16 bits, the minor one in the low ones
abbrev pub revision : Order → List ℕ → ℕ
revision order bytes = word_at order bytes 4

-- how many messages there are, N
abbrev pub message_count : Order → List ℕ → ℕ
message_count order bytes = word_at order bytes 8

-- where the table of the originals begins
abbrev pub originals_table : Order → List ℕ → ℕ
originals_table order bytes = word_at order bytes 12

-- where the table of the translations begins
abbrev pub translations_table : Order → List ℕ → ℕ
translations_table order bytes = word_at order bytes 16

-- how many entries the hash table has, of which there are none where no hash table is
abbrev pub hash_size : Order → List ℕ → ℕ
hash_size order bytes = word_at order bytes 20
