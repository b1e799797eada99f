-- What has become of a message that was to be written.
use Rattle.std.specs.Prelude.{◌≡◌, ℕ, ◌+◌, ◌<◌, ◌≤◌, List, length, Option, None, Some, Result, Ok, Err, ◌*◌, ◌%◌, ◌&&◌, nat_le, nat_lt, if◌then◌else◌}
use Rattle.std.specs.List.{slice_range}
use Rattle.mo_file.specs.Prelude.{Message, word_at, revision}
use Rattle.mo_expand.specs.declared.joining.Missing.{Missing}
use Rattle.mo_expand.specs.declared.joining.Missing.TheVariants.{Absent, Full}
use Rattle.mo_file.specs.declared.byte_order.Order.{Order}
use Rattle.mo_expand.specs.declared.platform_text.PlatformText.{PlatformText}
use Rattle.mo_expand.specs.Segments.{text_at}

-- it is there, or there is none, or the room was too short for it
abbrev pub IsExpanded : List ℕ → List ℕ → Option Message → Result (ℕ × ℕ) Missing → Type 0
IsExpanded old new message (Ok (middle, end)) =
    (message ≡ Some (record { original = slice_range new 0 middle; translation = slice_range new middle end }))
    × (middle ≤ end) × (end ≤ length new)
IsExpanded old new message (Err Absent) = message ≡ None
IsExpanded old new message (Err Full) =
    (m : Message) × (message ≡ Some m) × (length old < length m.original + length m.translation)

-- The messages of the system-dependent strings of a file, completed by the texts of a platform.

-- how many system-dependent messages a file has: none where the minor revision is 0, the file has fewer than 48 bytes,
-- or a table of them ends after the file's end
abbrev pub system_count : Order → List ℕ → ℕ
system_count order bytes =
    if nat_le 48 (length bytes) && nat_le 1 (revision order bytes % 65536)
    && nat_le (word_at order bytes 40 + 4 * word_at order bytes 36) (length bytes)
    && nat_le (word_at order bytes 44 + 4 * word_at order bytes 36) (length bytes) then word_at order bytes 36
    else 0

-- a message, where both of its strings are there
abbrev pub message_from : Option (List ℕ) → Option (List ℕ) → Option Message
message_from (Some o) (Some t) = Some (record { original = o; translation = t })
message_from (Some o) None = None
message_from None t = None

-- the message that an index stands for; none where the platform lacks a text, or a string isn't well formed
abbrev pub expanded_at : Order → List ℕ → List PlatformText → ℕ → Option Message
expanded_at order bytes texts j =
    message_from
    (text_at order bytes texts (word_at order bytes (word_at order bytes 40 + 4 * j)))
    (text_at order bytes texts (word_at order bytes (word_at order bytes 44 + 4 * j)))

-- that of the file, which has no other indices
abbrev pub system_message : Order → List ℕ → List PlatformText → ℕ → Option Message
system_message order bytes texts j =
    if nat_lt j (system_count order bytes) then expanded_at order bytes texts j else None
