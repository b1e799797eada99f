-- Laws of the format.
use Rattle.std.specs.Prelude.{ℕ, List, ◌++◌, take, drop, ◌≡◌, ◌⊎◌, ◌+◌, ◌*◌, ◌<◌, ◌≤◌, ◌∷◌, [], codes, length}
use Rattle.mo_file.specs.declared.byte_order.Order.{Order}
use Rattle.mo_file.specs.ByteOrder.{word_bytes}
use Rattle.mo_file.specs.Writing.{layout}
use Rattle.mo_file.specs.Building.{LayoutFits}
use Rattle.mo_file.specs.Pairs.{Message}
use Rattle.mo_file.specs.declared.fault.MoError.{MoError}
use Rattle.mo_file.specs.Key.{keys, AreRising}
use Rattle.mo_file.specs.declared.fault.MoError.TheVariants.{BadRevision}
use Rattle.mo_file.specs.FileHeader.{HasMagicOf, hash_size, revision}
use Rattle.mo_file.specs.View.{IsMoFile}
use Rattle.mo_file.specs.Fault.{IsFirstFault}

-- Files of other revisions than the one that is written ("The Format of GNU MO Files").

-- the major revisions that are read
pub data IsKnownMajor : ℕ → Type 0 where
  zeroth : IsKnownMajor 0
  first : IsKnownMajor 1

-- what is laid out, with another revision in the second word
abbrev pub layout_of_revision : Order → ℕ → List Message → List ℕ
layout_of_revision order revision messages =
    take 4 (layout order messages) ++ word_bytes order revision ++ drop 8 (layout order messages)

-- what is laid out in the order of its keys is a valid file with these very messages
abbrev pub LayoutIsMoFile : Type 0
LayoutIsMoFile =
    (order : Order) (messages : List Message) → AreRising (keys messages) → LayoutFits order messages
    → IsMoFile order (layout order messages) messages

-- a file is valid in one byte order at most, and holds one list of messages
abbrev pub OneMessageList : Type 0
OneMessageList =
    (bytes : List ℕ) (order order' : Order) (messages messages' : List Message) → IsMoFile order bytes messages
    → IsMoFile order' bytes messages' → (order ≡ order') × (messages ≡ messages')

-- every byte string is a valid file, or has a first fault
abbrev pub MoFileOrFault : Type 0
MoFileOrFault =
    (bytes : List ℕ)
    → ((order : Order) × (messages : List Message) × IsMoFile order bytes messages)
    ⊎ ((fault : MoError) × IsFirstFault bytes fault)

-- a byte string has one first fault at most
abbrev pub OneFirstFault : Type 0
OneFirstFault =
    (bytes : List ℕ) (fault fault' : MoError) → IsFirstFault bytes fault → IsFirstFault bytes fault' → fault ≡ fault'

-- a valid file has no first fault
abbrev pub NoFaultOfMoFile : Type 0
NoFaultOfMoFile =
    (bytes : List ℕ) (order : Order) (messages : List Message) (fault : MoError) → IsMoFile order bytes messages
    → IsFirstFault bytes fault → ⊥

-- what is laid out has no hash table
abbrev pub NoHashTableIsLaidOut : Type 0
NoHashTableIsLaidOut =
    (order : Order) (messages : List Message) → LayoutFits order messages → hash_size order (layout order messages) ≡ 0

-- The files of two messages and of one, in either byte order, worked out by hand: the file header, the
-- tables of the originals and of the translations, the originals, the translations.
abbrev pub two_messages : List Message
two_messages =
    record { original = codes "a"; translation = codes "2" } ∷ record { original = codes "b"; translation = codes "1" }
    ∷ []

abbrev pub one_message : List Message
one_message = record { original = codes "a"; translation = codes "b" } ∷ []

abbrev pub file_of_two : List ℕ
file_of_two =
    0xde ∷ 0x12 ∷ 0x04 ∷ 0x95 ∷ 0 ∷ 0 ∷ 0 ∷ 0 ∷ 2 ∷ 0 ∷ 0 ∷ 0 ∷ 28 ∷ 0 ∷ 0 ∷ 0 ∷ 44 ∷ 0 ∷ 0 ∷ 0 ∷ 0 ∷ 0 ∷ 0 ∷ 0 ∷ 60 ∷ 0
    ∷ 0 ∷ 0
    ∷ 1 ∷ 0 ∷ 0 ∷ 0 ∷ 60 ∷ 0 ∷ 0 ∷ 0 ∷ 1 ∷ 0 ∷ 0 ∷ 0 ∷ 62 ∷ 0 ∷ 0 ∷ 0
    ∷ 1 ∷ 0 ∷ 0 ∷ 0 ∷ 64 ∷ 0 ∷ 0 ∷ 0 ∷ 1 ∷ 0 ∷ 0 ∷ 0 ∷ 66 ∷ 0 ∷ 0 ∷ 0
    ∷ codes "a" ++ 0 ∷ codes "b" ++ 0 ∷ codes "2" ++ 0 ∷ codes "1" ++ 0 ∷ []

abbrev pub big_file_of_one : List ℕ
big_file_of_one =
    0x95 ∷ 0x04 ∷ 0x12 ∷ 0xde ∷ 0 ∷ 0 ∷ 0 ∷ 0 ∷ 0 ∷ 0 ∷ 0 ∷ 1 ∷ 0 ∷ 0 ∷ 0 ∷ 28 ∷ 0 ∷ 0 ∷ 0 ∷ 36 ∷ 0 ∷ 0 ∷ 0 ∷ 0 ∷ 0 ∷ 0
    ∷ 0 ∷ 44
    ∷ 0 ∷ 0 ∷ 0 ∷ 1 ∷ 0 ∷ 0 ∷ 0 ∷ 44 ∷ 0 ∷ 0 ∷ 0 ∷ 1 ∷ 0 ∷ 0 ∷ 0 ∷ 46 ∷ codes "a" ++ 0 ∷ codes "b" ++ 0 ∷ []

-- a file of any minor revision of major revision 0 or 1 is as valid as what is laid out
abbrev pub KnownRevisionsAreValid : Type 0
KnownRevisionsAreValid =
    (order : Order) (major minor : ℕ) (messages : List Message) → IsKnownMajor major → minor < 65536
    → AreRising (keys messages) → LayoutFits order messages
    → IsMoFile order (layout_of_revision order (65536 * major + minor) messages) messages

-- a file of major revision 2 or above is refused for that, whatever stands after its second word
abbrev pub OtherRevisionsAreRefused : Type 0
OtherRevisionsAreRefused =
    (order : Order) (bytes : List ℕ) (major minor : ℕ) → 28 ≤ length bytes → HasMagicOf order bytes
    → revision order bytes ≡ 65536 * major + minor → minor < 65536 → 2 ≤ major → IsFirstFault bytes BadRevision
