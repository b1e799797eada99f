-- What a message is known by (manual, "The Format of PO Files": a msgid may appear twice only under
-- another context).
use Rattle.std.specs.Prelude.{ℕ, Bool, ◌&&◌, List, map, Option, [], ◌∷◌, ◌++◌, fold, if◌then◌else◌, ◌≡◌, None, codes, length, Some}
use Rattle.std.specs.Option.{option_eq}
use Rattle.std.specs.Str.{bytes_eq}
use Rattle.po_entry.specs.TextEntry.{TextEntry, plain_entry}
use Rattle.std.specs.List.{list_any, position_or_len, flat_map}
use Rattle.std.specs.Hash.{HashWrites, le_bytes, usize}
use Rattle.std.specs.Hash.DefaultHasher.{finish, initial, round, write, write_byte, write_word}
use Rattle.std.proofs.Common.{refl}
use Rattle.po_entry.specs.Rows.{key_bytes}
use Rattle.po_entry.specs.SeenTexts.{digest_of}

-- a message: its context, if it has one, and its msgid
pub record Message : Type 0 where
  pub context : Option (List ℕ)
  pub id : List ℕ

-- one message has one context, or none, and one msgid
abbrev pub same_message : Message → Message → Bool
same_message a b = option_eq bytes_eq a.context b.context && bytes_eq a.id b.id

abbrev pub entry_message : TextEntry → Message
entry_message entry = record { context = entry.context; id = entry.id }

abbrev pub entry_messages : List TextEntry → List Message
entry_messages entries = map entry_message entries

-- The first elements of a list that are alike, in the order in which they appear.

-- the list with one more element after it, unless the list has one that is alike
abbrev pub with_new : {X : Type 0} → (X → X → Bool) → List X → X → List X
with_new alike xs x = if list_any (alike x) xs then xs else xs ++ x ∷ []

-- the elements of a list that are like none before them
abbrev pub first_ones : {X : Type 0} → (X → X → Bool) → List X → List X
first_ones alike xs = fold (with_new alike) [] xs

-- for each element the number of those that are alike, which are numbered from 0 in the order in
-- which the first of each appears
abbrev pub group_numbers : {X : Type 0} → (X → X → Bool) → List X → List ℕ
group_numbers alike xs = map (λ x. position_or_len (alike x) (first_ones alike xs)) xs

-- What an index of messages is seeded by: a digest of all of them. From no section of the manual.

-- the length of a key, and its bytes
abbrev pub key_writes : List ℕ → HashWrites
key_writes key = usize (length key) ++ key ∷ []

-- the keys of all entries, one after another
abbrev pub keys_writes : List TextEntry → HashWrites
keys_writes entries = flat_map (λ entry. key_writes (key_bytes entry.context entry.id)) entries

-- what the msgids `Open` and `ab` are digested to, as Rust's own `DefaultHasher` gives it
pub two_keys : finish (digest_of (keys_writes
    (plain_entry None (codes "Open") None [] ∷ plain_entry None (codes "ab") None [] ∷ []))) ≡ 933136681668346357
unfolding finish round write_word write write_byte initial le_bytes
two_keys = refl

-- The hash of a message: SipHash-1-3, with keys of 0, of its key. From no section of the manual.

unfoldable pub message_hash : Message → ℕ
message_hash message = finish (write initial (key_bytes message.context message.id))

-- the hashes that Rust's own `DefaultHasher::new()` gives
pub without_context : message_hash (record { context = None; id = codes "Open" }) ≡ 8618463552446261747
unfolding message_hash finish round write_word write write_byte initial
without_context = refl

pub with_context : message_hash (record { context = Some (codes "menu"); id = codes "Open" }) ≡ 722068806454250559
unfolding message_hash finish round write_word write write_byte initial le_bytes
with_context = refl
