-- What has become of a file whose messages were to be put in order.
use Rattle.std.specs.Prelude.{◌≡◌, ◌≢◌, ℕ, List, AllPairs, IsPermutation, ◌⊎◌, ◌^◌, ◌<◌, ◌≤◌, length}
use Rattle.mo_file.specs.declared.byte_order.Order.{Order}
use Rattle.mo_file.specs.declared.fault.MoError.{MoError}
use Rattle.mo_file.specs.declared.fault.MoError.TheVariants.{NotSorted}
use Rattle.mo_file.specs.Prelude.{HasFault, HasMagicOf, AreRising, keys, Message, messages_of, layout}
use Rattle.mo_expand.specs.declared.sorted_file.SortedFile.{SortedFile}
use Rattle.mo_expand.specs.declared.sorted_file.SortedFile.TheVariants.{Len, NotMoFile, ListTooShort, EqualKeys, TooLarge}
use Rattle.mo_expand.specs.ExpandedFile.{IsWrittenIfItFits}

-- Files that are MO files but for the order of their keys ("The Format of GNU MO Files"), and the same messages in order.

-- a fault that is told for the order of two keys
abbrev pub IsOrderFault : MoError → Type 0
IsOrderFault (NotSorted i) = Unit {0}
IsOrderFault f = ⊥

-- these bytes are an MO file in this byte order, with these messages, in whatever order their keys are: they have no
-- fault but that a key isn't above the one before it
pub record IsFileInAnyOrder (order : Order) (bytes : List ℕ) (messages : List Message) : Type 0 where
  pub shows : HasMagicOf order bytes
  pub faults : (f : MoError) → HasFault bytes f → IsOrderFault f
  pub lists : messages ≡ messages_of order bytes

-- no two of these messages have one key
abbrev pub HaveDistinctKeys : List Message → Type 0
HaveDistinctKeys messages = AllPairs (λ a b. a ≢ b) (keys messages)

-- the second list has the messages of the first in rising order of their keys
pub record IsInOrder (messages sorted : List Message) : Type 0 where
  pub all : IsPermutation messages sorted
  pub rising : AreRising (keys sorted)

-- the file of these messages in order, which is written where there is room for it, is so long
pub record IsFileOfSorted (order : Order) (messages : List Message) (old new : List ℕ) (len : ℕ) : Type 0 where
  pub sorted : List Message
  pub in_order : IsInOrder messages sorted
  pub len_is : len ≡ length (layout order sorted)
  pub fits : len < 2 ^ 32
  pub written : IsWrittenIfItFits (layout order sorted) old new

-- in order they would have a file that 32 bits don't reach
abbrev pub HaveTooLargeFile : Order → List Message → Type 0
HaveTooLargeFile order messages =
    (sorted : List Message) × IsInOrder messages sorted × (2 ^ 32 ≤ length (layout order sorted))

-- a list of so many messages was there for these of a file
abbrev pub IsSortedFile : Order → List Message → ℕ → List ℕ → List ℕ → SortedFile → Type 0
IsSortedFile order messages many old new (Len n) = IsFileOfSorted order messages old new n
IsSortedFile order messages many old new NotMoFile = ⊥
IsSortedFile order messages many old new ListTooShort = (many < length messages) × (new ≡ old)
IsSortedFile order messages many old new EqualKeys = (¬ HaveDistinctKeys messages) × (new ≡ old)
IsSortedFile order messages many old new TooLarge = HaveTooLargeFile order messages × (new ≡ old)

-- why there is no such file
abbrev pub IsNotSorted : Order → List Message → ℕ → Type 0
IsNotSorted order messages many =
    (many < length messages) ⊎ (¬ HaveDistinctKeys messages) ⊎ HaveTooLargeFile order messages
