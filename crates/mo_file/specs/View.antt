-- What a valid MO file is, and which list of messages it holds (manual, "The Format of GNU MO
-- Files").
use Rattle.std.specs.Prelude.{◌≡◌, ℕ, List, ◌≤◌, Some, slice_get}
use Rattle.mo_file.specs.declared.byte_order.Order.{Order}
use Rattle.mo_file.specs.declared.fault.MoError.{MoError}
use Rattle.mo_file.specs.FileHeader.{HasMagicOf}
use Rattle.mo_file.specs.Strings.{messages_of}
use Rattle.mo_file.specs.Fault.{HasFault}
use Rattle.mo_file.specs.Pairs.{Message, translations}
use Rattle.std.specs.List.{slice_range}

-- these bytes are an MO file in this order, with these messages: they have none of the seven faults
pub record IsMoFile (order : Order) (bytes : List ℕ) (messages : List Message) : Type 0 where
  pub shows : HasMagicOf order bytes
  pub faultless : (f : MoError) → ¬ HasFault bytes f
  pub lists : messages ≡ messages_of order bytes

-- the bytes of a file, and its messages
pub record FileView : Type 0 where
  pub bytes : List ℕ
  pub messages : List Message

-- the string is what a file has from one offset up to another, where a NUL follows it
pub record IsStringAt (bytes : List ℕ) (start end : ℕ) (string : List ℕ) : Type 0 where
  pub order : start ≤ end
  pub text : string ≡ slice_range bytes start end
  pub terminated : slice_get bytes end ≡ Some 0

-- the translation of message i is what the file has there
abbrev pub IsTranslationAt : FileView → ℕ → ℕ → ℕ → Type 0
IsTranslationAt file i start end =
    (translation : List ℕ) × (slice_get (translations file.messages) i ≡ Some translation)
    × IsStringAt file.bytes start end translation
