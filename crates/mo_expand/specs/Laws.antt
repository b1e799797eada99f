-- Laws of system-dependent messages.
use Rattle.std.specs.Prelude.{◌≡◌, ℕ, List, [], ◌∷◌, None, Some, codes, ◌⊎◌, ◌↔◌, Contains, ◌≢◌, suc, ◌+◌, ◌-◌, ◌*◌, ◌%◌, ◌<◌, ◌≤◌, ◌++◌, All, length, slice_get}
use Rattle.mo_file.specs.declared.byte_order.Order.{Order}
use Rattle.mo_file.specs.declared.byte_order.Order.TheVariants.{Little, Big}
use Rattle.mo_file.specs.Prelude.{LayoutFits, layout, Message, IsMoFile, IsFirstFault, kind, AreRising, key_of, keys, revision, word_at}
use Rattle.mo_expand.specs.declared.platform_text.PlatformText.{PlatformText}
use Rattle.mo_expand.specs.Expanding.{system_message}
use Rattle.mo_expand.specs.ExpandedFile.{expanded_file, expanded_messages, with_message}
use Rattle.std.specs.List.{find, slice_range}
use Rattle.std.specs.Str.{bytes_eq}
use Rattle.mo_file.specs.declared.fault.MoError.{MoError}
use Rattle.mo_expand.specs.SortedFile.{HaveDistinctKeys, IsFileInAnyOrder, IsInOrder}
use Rattle.mo_expand.specs.Segments.{text_of, text_at}

-- the file that GNU's msgfmt 0.21 writes with `--no-hash`, in either byte order, of a message `%<PRIu64> kB` with the
-- translation `%<PRIu64> ko`
abbrev pub example_file : Order → List ℕ
example_file Little =
    222 ∷ 18 ∷ 4 ∷ 149 ∷ 1 ∷ 0 ∷ 0 ∷ 0 ∷ 0 ∷ 0 ∷ 0 ∷ 0 ∷ 48 ∷ 0 ∷ 0 ∷ 0 ∷ 48 ∷ 0 ∷ 0 ∷ 0 ∷ 3 ∷ 0 ∷ 0 ∷ 0 ∷ 48 ∷ 0 ∷
    0 ∷ 0 ∷ 1 ∷ 0 ∷ 0 ∷ 0 ∷ 60 ∷ 0 ∷ 0 ∷ 0 ∷ 1 ∷ 0 ∷ 0 ∷ 0 ∷ 68 ∷ 0 ∷ 0 ∷ 0 ∷ 72 ∷ 0 ∷ 0 ∷ 0 ∷ 0 ∷ 0 ∷ 0 ∷ 0 ∷ 0 ∷ 0 ∷
    0 ∷ 0 ∷ 0 ∷ 0 ∷ 0 ∷ 0 ∷ 7 ∷ 0 ∷ 0 ∷ 0 ∷ 116 ∷ 0 ∷ 0 ∷ 0 ∷ 76 ∷ 0 ∷ 0 ∷ 0 ∷ 96 ∷ 0 ∷ 0 ∷ 0 ∷ 123 ∷ 0 ∷ 0 ∷ 0 ∷ 1 ∷
    0 ∷ 0 ∷ 0 ∷ 0 ∷ 0 ∷ 0 ∷ 0 ∷ 4 ∷ 0 ∷ 0 ∷ 0 ∷ 255 ∷ 255 ∷ 255 ∷ 255 ∷ 128 ∷ 0 ∷ 0 ∷ 0 ∷ 1 ∷ 0 ∷ 0 ∷ 0 ∷ 0 ∷ 0 ∷ 0 ∷
    0 ∷ 4 ∷ 0 ∷ 0 ∷ 0 ∷ 255 ∷ 255 ∷ 255 ∷ 255 ∷ 80 ∷ 82 ∷ 73 ∷ 117 ∷ 54 ∷ 52 ∷ 0 ∷ 37 ∷ 32 ∷ 107 ∷ 66 ∷ 0 ∷ 37 ∷ 32 ∷
    107 ∷ 111 ∷ 0 ∷ []
example_file Big =
    149 ∷ 4 ∷ 18 ∷ 222 ∷ 0 ∷ 0 ∷ 0 ∷ 1 ∷ 0 ∷ 0 ∷ 0 ∷ 0 ∷ 0 ∷ 0 ∷ 0 ∷ 48 ∷ 0 ∷ 0 ∷ 0 ∷ 48 ∷ 0 ∷ 0 ∷ 0 ∷ 3 ∷ 0 ∷ 0 ∷ 0 ∷
    48 ∷ 0 ∷ 0 ∷ 0 ∷ 1 ∷ 0 ∷ 0 ∷ 0 ∷ 60 ∷ 0 ∷ 0 ∷ 0 ∷ 1 ∷ 0 ∷ 0 ∷ 0 ∷ 68 ∷ 0 ∷ 0 ∷ 0 ∷ 72 ∷ 0 ∷ 0 ∷ 0 ∷ 0 ∷ 0 ∷ 0 ∷
    0 ∷ 0 ∷ 0 ∷ 0 ∷ 0 ∷ 0 ∷ 0 ∷ 0 ∷ 0 ∷ 7 ∷ 0 ∷ 0 ∷ 0 ∷ 116 ∷ 0 ∷ 0 ∷ 0 ∷ 76 ∷ 0 ∷ 0 ∷ 0 ∷ 96 ∷ 0 ∷ 0 ∷ 0 ∷ 123 ∷ 0 ∷
    0 ∷ 0 ∷ 1 ∷ 0 ∷ 0 ∷ 0 ∷ 0 ∷ 0 ∷ 0 ∷ 0 ∷ 4 ∷ 255 ∷ 255 ∷ 255 ∷ 255 ∷ 0 ∷ 0 ∷ 0 ∷ 128 ∷ 0 ∷ 0 ∷ 0 ∷ 1 ∷ 0 ∷ 0 ∷ 0 ∷
    0 ∷ 0 ∷ 0 ∷ 0 ∷ 4 ∷ 255 ∷ 255 ∷ 255 ∷ 255 ∷ 80 ∷ 82 ∷ 73 ∷ 117 ∷ 54 ∷ 52 ∷ 0 ∷ 37 ∷ 32 ∷ 107 ∷ 66 ∷ 0 ∷ 37 ∷ 32 ∷
    107 ∷ 111 ∷ 0 ∷ []

-- a platform that has `lu` for PRIu64 has the message in either byte order, and no other
abbrev pub ExampleIsCompleted : Type 0
ExampleIsCompleted =
    (order : Order) (t : PlatformText) → t.name.now ≡ codes "PRIu64" → t.text.now ≡ codes "lu"
    → (system_message order (example_file order) (t ∷ []) 0
    ≡ Some (record { original = codes "%lu kB"; translation = codes "%lu ko" }))
    × (system_message order (example_file order) (t ∷ []) 1 ≡ None)

-- an expanded file that 32 bits reach is valid, and its messages are those
abbrev pub ExpandedFileIsMoFile : Type 0
ExpandedFileIsMoFile =
    (order : Order) (bytes : List ℕ) (texts : List PlatformText) (messages : List Message)
    → IsMoFile order bytes messages
    → LayoutFits order (expanded_messages order bytes texts messages)
    → IsMoFile order (expanded_file order bytes texts messages) (expanded_messages order bytes texts messages)

-- a platform that lacks it hasn't
abbrev pub ExampleNeedsItsText : Type 0
ExampleNeedsItsText = (order : Order) → system_message order (example_file order) [] 0 ≡ None

-- Laws of files whose keys are in any order, and of the same messages in order.

-- a valid file is one in any order, and its messages are in order
abbrev pub MoFileIsInOrder : Type 0
MoFileIsInOrder =
    (order : Order) (bytes : List ℕ) (messages : List Message) → IsMoFile order bytes messages
    → IsFileInAnyOrder order bytes messages × IsInOrder messages messages

-- of the others it is those of which `NotSorted` is told, the last kind of fault
abbrev pub OrderAloneIsTold : Type 0
OrderAloneIsTold =
    (bytes : List ℕ) (fault : MoError) → IsFirstFault bytes fault
    → (kind fault ≡ 7) ↔ ((order : Order) × (messages : List Message) × IsFileInAnyOrder order bytes messages)

-- messages have one order at most, and where two keys are equal none
abbrev pub OneOrder : Type 0
OneOrder =
    (messages sorted others : List Message) → IsInOrder messages sorted
    → HaveDistinctKeys messages × (IsInOrder messages others → sorted ≡ others)

-- the file of messages in order is valid, and its messages are those in order
abbrev pub SortedFileIsMoFile : Type 0
SortedFileIsMoFile =
    (order : Order) (messages sorted : List Message) → IsInOrder messages sorted → LayoutFits order sorted
    → IsMoFile order (layout order sorted) sorted

-- under each key the messages in order have the message that they have in any order, or none
abbrev pub SameMessageUnderKey : Type 0
SameMessageUnderKey =
    (messages sorted : List Message) (key : List ℕ) → IsInOrder messages sorted
    → find (λ m. bytes_eq (key_of m.original) key) sorted ≡ find (λ m. bytes_eq (key_of m.original) key) messages

-- a message whose key is there isn't added, and the others stay as they are; any other stands among them in order
abbrev pub MessageIsAddedInOrder : Type 0
MessageIsAddedInOrder =
    (m : Message) (messages : List Message) → AreRising (keys messages)
    → (Contains (keys messages) (key_of m.original) × (with_message m messages ≡ messages))
    ⊎ ((¬ Contains (keys messages) (key_of m.original)) × IsInOrder (m ∷ messages) (with_message m messages))

-- The text of a system-dependent string, with a case for each kind of segment ("The Format of GNU MO Files").

-- these are so many bytes of the file from an offset on
pub record IsPart (bytes : List ℕ) (start len : ℕ) (text : List ℕ) : Type 0 where
  pub inside : start + len ≤ length bytes
  pub is : text ≡ slice_range bytes start (start + len)

-- these are the bytes from an offset on up to the last one, which is a NUL, of so many
pub record IsBeforeNul (bytes : List ℕ) (start len : ℕ) (text : List ℕ) : Type 0 where
  pub some : 0 < len
  pub nul : slice_get bytes (start + (len - 1)) ≡ Some 0
  pub is : text ≡ slice_range bytes start (start + (len - 1))

-- a name of the file, by its number
pub record IsName (order : Order) (bytes : List ℕ) (number : ℕ) (name : List ℕ) : Type 0 where
  pub among : number < word_at order bytes 28
  pub listed : word_at order bytes 32 + 8 * number + 8 ≤ length bytes
  pub is : IsBeforeNul bytes (word_at order bytes (word_at order bytes 32 + 8 * number + 4))
      (word_at order bytes (word_at order bytes 32 + 8 * number)) name

-- so many segments, which are described from one offset on and have their bytes from another on, are this text: the
-- last one is its bytes, and each other its bytes and what the platform has for its name
pub data AreSegments (order : Order) (bytes : List ℕ) (texts : List PlatformText) : ℕ → ℕ → ℕ → List ℕ → Type 0 where
  last : {at start : ℕ} {text : List ℕ} → at + 8 ≤ length bytes → word_at order bytes (at + 4) ≡ 0xffffffff
      → IsBeforeNul bytes start (word_at order bytes at) text → AreSegments order bytes texts 1 at start text
  before : {more at start : ℕ} {literal name inserted rest : List ℕ} → at + 8 ≤ length bytes
      → word_at order bytes (at + 4) ≢ 0xffffffff → IsPart bytes start (word_at order bytes at) literal
      → IsName order bytes (word_at order bytes (at + 4)) name → text_of texts name ≡ Some inserted
      → AreSegments order bytes texts more (at + 8) (start + word_at order bytes at) rest
      → AreSegments order bytes texts (suc more) at start (literal ++ inserted ++ rest)

-- the text of a string is that of its segments, of which it has 256 at most
abbrev pub TextIsItsSegments : Type 0
TextIsItsSegments =
    (order : Order) (bytes : List ℕ) (texts : List PlatformText) (at : ℕ) (text : List ℕ)
    → (text_at order bytes texts at ≡ Some text)
    ↔ ((many : ℕ) × (many ≤ 256) × (at + 4 ≤ length bytes)
    × AreSegments order bytes texts many (at + 4) (word_at order bytes at) text)

-- of a platform's texts the first one with a name counts
abbrev pub FirstTextCounts : Type 0
FirstTextCounts =
    (others after : List PlatformText) (it : PlatformText) → All (λ other. other.name.now ≢ it.name.now) others
    → text_of (others ++ it ∷ after) it.name.now ≡ Some it.text.now

-- a file has a system-dependent message of this number: it has the twelve words of such a file, its minor revision is
-- 1 or above, and it has both tables whole
pub record IsSystemNumber (order : Order) (bytes : List ℕ) (number : ℕ) : Type 0 where
  pub long : 48 ≤ length bytes
  pub minor : revision order bytes % 65536 ≢ 0
  pub originals : word_at order bytes 40 + 4 * word_at order bytes 36 ≤ length bytes
  pub translations : word_at order bytes 44 + 4 * word_at order bytes 36 ≤ length bytes
  pub counted : number < word_at order bytes 36

-- such a message is there where both of its strings are
abbrev pub MessageIsItsStrings : Type 0
MessageIsItsStrings =
    (order : Order) (bytes : List ℕ) (texts : List PlatformText) (number : ℕ) (m : Message)
    → (system_message order bytes texts number ≡ Some m)
    ↔ (IsSystemNumber order bytes number
    × (text_at order bytes texts (word_at order bytes (word_at order bytes 40 + 4 * number)) ≡ Some m.original)
    × (text_at order bytes texts (word_at order bytes (word_at order bytes 44 + 4 * number)) ≡ Some m.translation))
