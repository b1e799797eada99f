-- Internal: what it is to write a text into a part of some room.
use Rattle.std.specs.Prelude.{◌≡◌, ℕ, ◌+◌, ◌<◌, ◌≤◌, List, ◌++◌, length, take, option_map, Option, None, Some, Result, Ok, Err}
use Rattle.std.specs.List.{slice_range}
use Rattle.mo_expand.specs.declared.joining.Segment.{Segment}
use Rattle.mo_expand.specs.declared.joining.Segment.TheVariants.{Last, Before}
use Rattle.mo_file.specs.Prelude.{Message}
use Rattle.mo_expand.specs.Expanding.{IsExpanded}
use Rattle.mo_expand.specs.Segments.{join}
use Rattle.mo_expand.specs.declared.joining.Missing.{Missing}
use Rattle.mo_expand.specs.declared.joining.Missing.TheVariants.{Absent, Full}

-- the room has a text from one offset up to another, and what stood before it
pub record HasText (old new : List ℕ) (start end : ℕ) (text : List ℕ) : Type 0 where
  pub order : start ≤ end
  pub inside : end ≤ length new
  pub before : take start new ≡ take start old
  pub is : slice_range new start end ≡ text

-- the text is there up to an offset, or there is no room for it
abbrev pub IsPut : List ℕ → List ℕ → ℕ → List ℕ → Option ℕ → Type 0
IsPut old new start text (Some end) = HasText old new start end text
IsPut old new start text None = length old < start + length text

-- what has become of a text that may not be there
abbrev pub IsWritten : List ℕ → List ℕ → ℕ → Option (List ℕ) → Result ℕ Missing → Type 0
IsWritten old new start text (Ok end) =
    (text ≡ Some (slice_range new start end)) × HasText old new start end (slice_range new start end)
IsWritten old new start text (Err Absent) = text ≡ None
IsWritten old new start text (Err Full) = (t : List ℕ) → text ≡ Some t → length old < start + length t

-- what has become of a message that may not be there, where there may be no room for one that isn't
abbrev pub IsTried : List ℕ → List ℕ → Option Message → Result (ℕ × ℕ) Missing → Type 0
IsTried old new message (Err Full) =
    (m : Message) → message ≡ Some m → length old < length m.original + length m.translation
IsTried old new message result = IsExpanded old new message result

-- the text of a segment that was read, and of those after it
abbrev pub with_rest : Option Segment → Option (List ℕ) → Option (List ℕ)
with_rest None rest = None
with_rest (Some (Last text)) rest = Some text.now
with_rest (Some (Before literal text)) rest = join (Some literal.now) (Some text.now) rest

-- the beginning of a whole text is there up to an offset, and this is the rest of it
pub record IsJoining (old room : List ℕ) (start at : ℕ) (whole rest : Option (List ℕ)) : Type 0 where
  pub order : start ≤ at
  pub inside : at ≤ length room
  pub len : length room ≡ length old
  pub before : take start room ≡ take start old
  pub is : whole ≡ option_map (λ r. slice_range room start at ++ r) rest
