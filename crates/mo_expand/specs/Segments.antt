-- The system-dependent strings of an MO file whose minor revision is 1 or above. After the seven words of the file
-- header stand five more: how many names there are and where their table is, how many messages, and where the tables
-- of their originals and translations are. The table of names has a length and an offset for each. Those of the
-- strings have an offset, where a string is described: the offset of its bytes, and then for each segment how many of
-- these bytes it has, and which name stands after them, or 0xffffffff after the last. A length counts a NUL at the end.
use Rattle.std.specs.Prelude.{ℕ, List, [], ◌∷◌, Option, None, Some, if◌then◌else◌, zero, suc, ◌+◌, ◌-◌, ◌*◌, ◌==◌, ◌&&◌, nat_le, nat_lt, ◌++◌, length, slice_index_or, option_and_then}
use Rattle.std.specs.Str.{bytes_eq}
use Rattle.mo_expand.specs.declared.platform_text.PlatformText.{PlatformText}
use Rattle.std.specs.List.{slice_range}
use Rattle.mo_file.specs.declared.byte_order.Order.{Order}
use Rattle.mo_file.specs.Prelude.{word_at}

-- The texts that a platform has for names as PRIu64, by which system-dependent strings are completed.

-- the text of the first of them that has this name
abbrev pub text_of : List PlatformText → List ℕ → Option (List ℕ)
text_of [] name = None
text_of (t ∷ ts) name = if bytes_eq t.name.now name then Some t.text.now else text_of ts name

-- the bytes from an offset on without the NUL that is the last of them, where the file has them
abbrev pub terminated_part : List ℕ → ℕ → ℕ → Option (List ℕ)
terminated_part bytes start len =
    if nat_lt 0 len && slice_index_or bytes (start + (len - 1)) 1 == 0 then
    Some (slice_range bytes start (start + (len - 1)))
    else None

-- a part of the file, where it has these bytes
abbrev pub part : List ℕ → ℕ → ℕ → Option (List ℕ)
part bytes start len =
    if nat_le (start + len) (length bytes) then Some (slice_range bytes start (start + len)) else None

-- the name that a reference stands for
abbrev pub name_of : Order → List ℕ → ℕ → Option (List ℕ)
name_of order bytes reference =
    let at = word_at order bytes 32 + 8 * reference in
    if nat_lt reference (word_at order bytes 28) && nat_le (at + 8) (length bytes) then
    terminated_part bytes (word_at order bytes (at + 4)) (word_at order bytes at)
    else None

-- the text that the platform has for it
abbrev pub inserted : Order → List ℕ → List PlatformText → ℕ → Option (List ℕ)
inserted order bytes texts reference = option_and_then (text_of texts) (name_of order bytes reference)

-- three texts as one, where each is there
abbrev pub join : Option (List ℕ) → Option (List ℕ) → Option (List ℕ) → Option (List ℕ)
join (Some a) (Some b) (Some c) = Some (a ++ b ++ c)
join (Some a) (Some b) None = None
join (Some a) None c = None
join None b c = None

-- the most segments that a string may have
abbrev pub segment_limit : ℕ
segment_limit = 256

-- the text of a segment, which is described at `at` and has its bytes at `start`, and of those after it
abbrev pub from_segment : Order → List ℕ → List PlatformText → ℕ → ℕ → Option (List ℕ) → Option (List ℕ)
from_segment order bytes texts at start rest =
    if nat_le (at + 8) (length bytes) then
    if word_at order bytes (at + 4) == 0xffffffff then terminated_part bytes start (word_at order bytes at)
    else join (part bytes start (word_at order bytes at))
    (inserted order bytes texts (word_at order bytes (at + 4))) rest
    else None

-- the text of the segments from one on, where they are no more than `most`
unfoldable pub joined : Order → List ℕ → List PlatformText → ℕ → ℕ → ℕ → Option (List ℕ)
joined order bytes texts zero at start = None
joined order bytes texts (suc most) at start =
    from_segment order bytes texts at start (joined order bytes texts most (at + 8) (start + word_at order bytes at))

-- the text of the string that is described at an offset
abbrev pub text_at : Order → List ℕ → List PlatformText → ℕ → Option (List ℕ)
text_at order bytes texts at =
    if nat_le (at + 4) (length bytes) then joined order bytes texts segment_limit (at + 4) (word_at order bytes at)
    else None
