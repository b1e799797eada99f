-- What has become of a file that was to be expanded.
use Rattle.std.specs.Prelude.{ℕ, ◌+◌, List, [], ◌∷◌, length, map, Option, None, Some, ◌≡◌, ◌⊎◌, ◌^◌, ◌<◌, ◌≤◌, take}
use Rattle.std.specs.List.{range_with_len, sum_by}
use Rattle.std.specs.declared.cmp.Ordering.{Ordering}
use Rattle.std.specs.declared.cmp.Ordering.TheVariants.{Less, Equal, Greater}
use Rattle.mo_file.specs.declared.byte_order.Order.{Order}
use Rattle.mo_file.specs.Prelude.{key_of, key_cmp, Message, layout}
use Rattle.mo_expand.specs.declared.platform_text.PlatformText.{PlatformText}
use Rattle.mo_expand.specs.Expanding.{system_count, system_message}
use Rattle.mo_expand.specs.declared.expanded_file.ExpandedFile.{ExpandedFile}
use Rattle.mo_expand.specs.declared.expanded_file.ExpandedFile.TheVariants.{Len, NotMoFile, ListTooShort, RoomTooShort, TooLarge}

-- The messages of an expanded file: those of the file, and of its system-dependent messages those whose keys it lacks.

-- a message and others, the first of which is `other`, by how the key of that compares with that of the message
abbrev pub beside : Ordering → Message → Message → List Message → List Message → List Message
beside Less m other others with_others = other ∷ with_others
beside Equal m other others with_others = other ∷ others
beside Greater m other others with_others = m ∷ other ∷ others

-- adds a message before the first whose key is above its own; where its key is there, it isn't added
unfoldable pub with_message : Message → List Message → List Message
with_message m [] = m ∷ []
with_message m (other ∷ others) =
    beside (key_cmp (key_of other.original) (key_of m.original)) m other others (with_message m others)

-- adds messages in their order, of which some aren't there
unfoldable pub with_messages : List Message → List (Option Message) → List Message
with_messages messages [] = messages
with_messages messages (None ∷ more) = with_messages messages more
with_messages messages (Some m ∷ more) = with_messages (with_message m messages) more

-- the system-dependent messages of a file, completed by the texts of a platform
abbrev pub system_messages : Order → List ℕ → List PlatformText → List (Option Message)
system_messages order bytes texts =
    map (system_message order bytes texts) (range_with_len 0 (system_count order bytes))

-- the strings of a message that may not be there, together
abbrev pub strings_len : Option Message → ℕ
strings_len None = 0
strings_len (Some m) = length m.original + length m.translation

-- the messages of a file, and those
abbrev pub expanded_messages : Order → List ℕ → List PlatformText → List Message → List Message
expanded_messages order bytes texts messages = with_messages messages (system_messages order bytes texts)

-- the expanded file of a file with these messages
abbrev pub expanded_file : Order → List ℕ → List PlatformText → List Message → List ℕ
expanded_file order bytes texts messages = layout order (expanded_messages order bytes texts messages)

-- a file is written where there is room for it
abbrev pub IsWrittenIfItFits : List ℕ → List ℕ → List ℕ → Type 0
IsWrittenIfItFits file old new =
    (length file ≤ length old → take (length file) new ≡ file) × (length old < length file → new ≡ old)

-- a list of so many messages, and room of so many bytes, were there for its messages and for the strings of the
-- system-dependent ones, of which those that the platform lacks need none
abbrev pub IsExpandedFile : Order → List ℕ → List PlatformText → List Message → ℕ → ℕ → List ℕ → List ℕ → ExpandedFile
    → Type 0
IsExpandedFile order bytes texts messages many room old new (Len n) =
    (n ≡ length (expanded_file order bytes texts messages))
    × (n < 2 ^ 32)
    × IsWrittenIfItFits (expanded_file order bytes texts messages) old new
IsExpandedFile order bytes texts messages many room old new NotMoFile = ⊥
IsExpandedFile order bytes texts messages many room old new ListTooShort =
    (many < length messages + system_count order bytes) × (new ≡ old)
IsExpandedFile order bytes texts messages many room old new RoomTooShort =
    (room < sum_by strings_len (system_messages order bytes texts)) × (new ≡ old)
IsExpandedFile order bytes texts messages many room old new TooLarge =
    (2 ^ 32 ≤ length (expanded_file order bytes texts messages)) × (new ≡ old)

-- why there is no expanded file
abbrev pub IsNotExpanded : Order → List ℕ → List PlatformText → List Message → ℕ → ℕ → Type 0
IsNotExpanded order bytes texts messages many room =
    (many < length messages + system_count order bytes)
    ⊎ (room < sum_by strings_len (system_messages order bytes texts))
    ⊎ (2 ^ 32 ≤ length (expanded_file order bytes texts messages))
