-- The 32-bit words of an MO file, in either byte order (manual, "The Format of GNU MO Files").
use Rattle.std.specs.Prelude.{ℕ, List, drop, ◌≡◌, refl}
use Rattle.byteorder.specs.Endian.{big_bytes, big_number, little_bytes, little_number}
use Rattle.mo_file.specs.declared.byte_order.Order.{Order}
use Rattle.mo_file.specs.declared.byte_order.Order.TheVariants.{Little, Big}

-- the word that stands at an offset, counted from 0; bytes past the end count as 0
unfoldable pub word_at : Order → List ℕ → ℕ → ℕ
word_at Little bytes at = little_number 4 (drop at bytes)
word_at Big bytes at = big_number 4 (drop at bytes)

-- the four bytes of a word, for a number below 2^32
unfoldable pub word_bytes : Order → ℕ → List ℕ
word_bytes Little number = little_bytes 4 number
word_bytes Big number = big_bytes 4 number

pub little_words_are_read : (bytes : List ℕ) (at : ℕ) → little_number 4 (drop at bytes) ≡ word_at Little bytes at
unfolding word_at
little_words_are_read bytes at = refl

pub little_words_are_written : (number : ℕ) → little_bytes 4 number ≡ word_bytes Little number
unfolding word_bytes
little_words_are_written number = refl

pub big_words_are_read : (bytes : List ℕ) (at : ℕ) → big_number 4 (drop at bytes) ≡ word_at Big bytes at
unfolding word_at
big_words_are_read bytes at = refl

pub big_words_are_written : (number : ℕ) → big_bytes 4 number ≡ word_bytes Big number
unfolding word_bytes
big_words_are_written number = refl
