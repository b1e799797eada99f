-- Internal: what has been checked of a file while it is opened.
use Rattle.std.specs.Prelude.{◌≡◌, ℕ, ◌+◌, ◌*◌, ◌/◌, ◌<◌, ◌≤◌, List, length, Option, None, Some}
use Rattle.mo_file.specs.declared.byte_order.Order.{Order}
use Rattle.mo_file.specs.declared.file_header.FileHeader.{FileHeader}
use Rattle.mo_file.specs.FileHeader.{HasMagicOf, revision, message_count, originals_table, translations_table}
use Rattle.mo_file.specs.Fault.{IsNotRising, IsOutside, IsUnterminated}

-- the file header is that of these bytes, and both tables lie inside the file
pub record IsHeader (header : FileHeader) (bytes : List ℕ) : Type 0 where
  pub long : 28 ≤ length bytes
  pub shows : HasMagicOf header.order bytes
  pub known : revision header.order bytes / 65536 ≤ 1
  pub count : header.count ≡ message_count header.order bytes
  pub originals : header.originals ≡ originals_table header.order bytes
  pub translations : header.translations ≡ translations_table header.order bytes
  pub originals_inside : header.originals + 8 * header.count ≤ length bytes
  pub translations_inside : header.translations + 8 * header.count ≤ length bytes

-- each string lies inside the file, and a NUL follows it
pub record HasStrings (order : Order) (bytes : List ℕ) : Type 0 where
  pub inside : (i : ℕ) → i < message_count order bytes → ¬ IsOutside order bytes i
  pub terminated : (i : ℕ) → i < message_count order bytes → ¬ IsUnterminated order bytes i

-- the keys of the first n messages rise
abbrev pub AreRisingBelow : Order → List ℕ → ℕ → Type 0
AreRisingBelow order bytes n = (i : ℕ) → i + 1 < n → ¬ IsNotRising order bytes i

-- the first index below n at which P holds
abbrev pub IsFirstBelow : (ℕ → Type 0) → ℕ → Option ℕ → Type 0
IsFirstBelow P n None = (k : ℕ) → k < n → ¬ P k
IsFirstBelow P n (Some i) = (i < n) × P i × ((k : ℕ) → k < i → ¬ P k)

-- all of the file has been checked
pub record IsChecked (header : FileHeader) (bytes : List ℕ) : Type 0 where
  pub read : IsHeader header bytes
  pub strings : HasStrings header.order bytes
  pub sorted : AreRisingBelow header.order bytes header.count
