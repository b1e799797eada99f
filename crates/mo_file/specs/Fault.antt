-- The faults for which bytes aren't an MO file (manual, "The Format of GNU MO Files"), and which of
-- them is reported.
use Rattle.std.specs.Prelude.{◌≡◌, ◌≢◌, ℕ, ◌+◌, ◌*◌, ◌/◌, ◌<◌, ◌⊎◌, List, length, Some, slice_get}
use Rattle.std.specs.declared.cmp.Ordering.TheVariants.{Less}
use Rattle.mo_file.specs.declared.byte_order.Order.{Order}
use Rattle.mo_file.specs.declared.fault.MoError.{MoError}
use Rattle.mo_file.specs.declared.fault.MoError.TheVariants.{TooShort, BadMagic, BadRevision, TableOutside, StringOutside, NoTerminator, NotSorted}
use Rattle.mo_file.specs.FileHeader.{HasMagicOf, revision, message_count, originals_table, translations_table}
use Rattle.mo_file.specs.Strings.{end_at, original_at}
use Rattle.mo_file.specs.Key.{key_of, key_cmp}

-- the original or the translation of message i ends past the end of the file
abbrev pub IsOutside : Order → List ℕ → ℕ → Type 0
IsOutside order bytes i =
    (length bytes < end_at order bytes (originals_table order bytes) i)
    ⊎ (length bytes < end_at order bytes (translations_table order bytes) i)

-- no NUL follows the original or the translation of message i
abbrev pub IsUnterminated : Order → List ℕ → ℕ → Type 0
IsUnterminated order bytes i =
    (slice_get bytes (end_at order bytes (originals_table order bytes) i) ≢ Some 0)
    ⊎ (slice_get bytes (end_at order bytes (translations_table order bytes) i) ≢ Some 0)

-- the key of message i + 1 isn't above that of message i
abbrev pub IsNotRising : Order → List ℕ → ℕ → Type 0
IsNotRising order bytes i =
    key_cmp (key_of (original_at order bytes i)) (key_of (original_at order bytes (i + 1))) ≢ Less

-- The faults after the magic number, of bytes that are read in this order. The major revision is 0
-- or 1, and the minor one is anything; a message is named by its index, for `NotSorted` by that of
-- the later of the two keys. The numbers are whole, so sums of offsets and lengths don't wrap
-- around. `TooShort` and `BadMagic` are none of these.
abbrev pub HasFaultIn : Order → List ℕ → MoError → Type 0
HasFaultIn order bytes BadRevision = 1 < revision order bytes / 65536
HasFaultIn order bytes TableOutside =
    (length bytes < originals_table order bytes + 8 * message_count order bytes)
    ⊎ (length bytes < translations_table order bytes + 8 * message_count order bytes)
HasFaultIn order bytes (StringOutside i) = (i < message_count order bytes) × IsOutside order bytes i
HasFaultIn order bytes (NoTerminator i) = (i < message_count order bytes) × IsUnterminated order bytes i
HasFaultIn order bytes (NotSorted i) =
    (j : ℕ) × (i ≡ j + 1) × (i < message_count order bytes) × IsNotRising order bytes j
HasFaultIn order bytes f = ⊥

-- these bytes have this fault, whatever others they have
abbrev pub HasFault : List ℕ → MoError → Type 0
HasFault bytes TooShort = length bytes < 28
HasFault bytes BadMagic = (order : Order) → ¬ HasMagicOf order bytes
HasFault bytes f = (order : Order) × HasMagicOf order bytes × HasFaultIn order bytes f

-- the order in which kinds of faults are reported
abbrev pub kind : MoError → ℕ
kind TooShort = 1
kind BadMagic = 2
kind BadRevision = 3
kind TableOutside = 4
kind (StringOutside i) = 5
kind (NoTerminator i) = 6
kind (NotSorted i) = 7

-- the message that a fault names; 0 for one that names none
abbrev pub index : MoError → ℕ
index (StringOutside i) = i
index (NoTerminator i) = i
index (NotSorted i) = i
index f = 0

-- a fault is reported before another by its kind, then by its message
abbrev pub IsBefore : MoError → MoError → Type 0
IsBefore f e = (kind f < kind e) ⊎ ((kind f ≡ kind e) × (index f < index e))

-- the fault that is reported for these bytes: they have it, and none that is reported before it
pub record IsFirstFault (bytes : List ℕ) (e : MoError) : Type 0 where
  pub holds : HasFault bytes e
  pub first : (f : MoError) → IsBefore f e → ¬ HasFault bytes f

-- the comparisons of neighbouring keys that come before a fault is found
abbrev pub comparisons_before : MoError → ℕ
comparisons_before (NotSorted i) = i
comparisons_before f = 0
