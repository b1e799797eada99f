-- The messages of a catalogue, as an MO file has them: an original string and its translation
-- (manual, "The Format of GNU MO Files"); and the pairs that a file is built from, as messages.
use Rattle.std.specs.Prelude.{ℕ, List, map}
use Rattle.mo_file.specs.declared.pairs.Pair.{Pair}
use Rattle.mo_file.specs.declared.pairs.BorrowedPair.{BorrowedPair}
use Rattle.mo_file.specs.declared.pairs.Part.{Part}
use Rattle.mo_file.specs.declared.pairs.Part.TheVariants.{Original, Translation}

-- The original and the translation that stands beside it, each without the NUL that ends it. A NUL
-- inside stands before the plural of an original and between the forms of a translation.
pub record Message : Type 0 where
  pub original : List ℕ
  pub translation : List ℕ

-- the originals of a list of messages
abbrev pub originals : List Message → List (List ℕ)
originals messages = map (λ m. m.original) messages

-- the translations of a list of messages
abbrev pub translations : List Message → List (List ℕ)
translations messages = map (λ m. m.translation) messages

abbrev pub message : Pair → Message
message pair = record { original = pair.original.items; translation = pair.translation.items }

abbrev pub messages_of_pairs : List Pair → List Message
messages_of_pairs pairs = map message pairs

-- the same of pairs whose strings are borrowed
abbrev pub borrowed_message : BorrowedPair → Message
borrowed_message pair = record { original = pair.original.now; translation = pair.translation.now }

abbrev pub messages_of_borrowed : List BorrowedPair → List Message
messages_of_borrowed pairs = map borrowed_message pairs

-- one string of a message
abbrev pub string_of : Part → Message → List ℕ
string_of Original m = m.original
string_of Translation m = m.translation

-- that string of each message
abbrev pub strings_of : Part → List Message → List (List ℕ)
strings_of part messages = map (string_of part) messages
