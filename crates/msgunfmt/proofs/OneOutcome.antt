-- A file has one text or one fault, beside out of memory.
use Rattle.msgunfmt.proofs.Prelude.{All-weaker, AreWrittenAs, EmptyText, EntryTextFault, ForbiddenByte, ForeignCharset, HasAdmittedCharset, HasFirstEntryTextFault, HasForeignCharset, HasTexts, IsCatalogueEntry, IsFileOf, IsUnformatFault, List, Message, Mo, NoFaultWhereUnformatted, NotUtf8, OneFirstFault, OneMessageList, OneText, OneUnformatFault, OutOfMemory, PoFault, Some, TextEntry, [], ap, arith, cases_lt, get_or, get_or-take, get_or_from_slice_get, inl, inr, length, length-take, no_texts_fault, one_texts_fault, refl, slice_get_within, subst, sym, take, unformatted, written_text, ℕ, ◌<◌, ◌∙◌, ◌∷◌, ◌≡◌}
use Rattle.po_syntax.specs.declared.fault.PoFault.TheVariants.{ForbiddenByte as BadByte, NotUtf8 as BadText}
use Rattle.msgunfmt.proofs.Messages.{texts_of}
use Rattle.mo_file.specs.declared.fault.MoError.{MoError}

-- messages that are written have no fault in their texts
no_first_fault : (text : List ℕ) (messages : List Message) (i : ℕ) (kind : PoFault) → AreWrittenAs text messages
    → HasFirstEntryTextFault i kind messages → ⊥
no_first_fault text messages i kind written fault =
    let entries = unformatted messages in
    let here : get_or entries i fault.entry ≡ fault.entry =
    get_or_from_slice_get entries i fault.entry fault.entry fault.is_entry in
    let valid = subst IsCatalogueEntry here
    (written.valid i fault.entry (slice_get_within entries i fault.entry fault.is_entry)) in
    no_texts_fault (texts_of fault.entry valid.valid) fault.fault

no_foreign : (text : List ℕ) (messages : List Message) → AreWrittenAs text messages → HasForeignCharset messages → ⊥
no_foreign text messages written fault =
    fault.foreign (All-weaker IsCatalogueEntry HasAdmittedCharset (λ e v. v.charset)
    (unformatted messages) written.valid)

-- what holds of the messages of a file holds of the same messages
pub moved : OneMessageList → (bytes : List ℕ) (P Q : List Message → Type 0) (file : IsFileOf bytes P) → IsFileOf bytes Q
    → Q file.messages
moved unique bytes P Q file other =
    subst Q (unique bytes other.order file.order other.messages file.messages other.valid file.valid).1 other.holds

pub no_fault : OneMessageList → NoFaultWhereUnformatted
no_fault unique bytes text (Mo f) file fault = absurd (file.valid.faultless f fault.holds)
no_fault unique bytes text (NotUtf8 i) file fault =
    absurd (no_first_fault text file.messages i BadText file.holds
    (moved unique bytes (AreWrittenAs text) (HasFirstEntryTextFault i BadText) file fault))
no_fault unique bytes text (ForbiddenByte i) file fault =
    absurd (no_first_fault text file.messages i BadByte file.holds
    (moved unique bytes (AreWrittenAs text) (HasFirstEntryTextFault i BadByte) file fault))
no_fault unique bytes text ForeignCharset file fault =
    absurd (no_foreign text file.messages file.holds
    (moved unique bytes (AreWrittenAs text) HasForeignCharset file fault))
no_fault unique bytes text OutOfMemory file fault = refl

pub one_text : OneMessageList → OneText
one_text unique bytes text other file file' =
    let again = moved unique bytes (AreWrittenAs text) (AreWrittenAs other) file file' in file.holds.written
    ∙ sym again.written

abbrev pub SomeEntryIsWritten : Type 0
SomeEntryIsWritten = (entries : List TextEntry) → written_text entries ≡ [] → entries ≡ []

no_messages : (messages : List Message) → unformatted messages ≡ [] → messages ≡ []
no_messages [] none = refl
no_messages (m ∷ messages) none = cc

pub empty_text : SomeEntryIsWritten → EmptyText
empty_text some bytes text file = (
  λ empty. no_messages file.messages (some (unformatted file.messages) (sym file.holds.written ∙ empty)),
  λ none. file.holds.written ∙ ap (λ messages. written_text (unformatted messages)) none,
)

-- A file has one fault at most, beside out of memory.

-- a message before the first one with such a fault has none
not_before : (messages : List Message) (i j : ℕ) (a b : PoFault) → HasFirstEntryTextFault i a messages
    → HasFirstEntryTextFault j b messages → i < j → ⊥
not_before messages i j a b f g below =
    let entries = unformatted messages in
    let within : i < length entries = slice_get_within entries i f.entry f.is_entry in
    let inside : i < length (take j entries) = omega (arith, within, below, length-take j entries) in
    let here : get_or (take j entries) i f.entry ≡ f.entry =
    get_or-take j entries i f.entry below ∙ get_or_from_slice_get entries i f.entry f.entry f.is_entry in
    no_texts_fault (subst HasTexts here (g.before i f.entry inside)) f.fault

same_place : (messages : List Message) (i j : ℕ) (a b : PoFault) → HasFirstEntryTextFault i a messages
    → HasFirstEntryTextFault j b messages → i ≡ j
same_place messages i j a b f g = elim (cases_lt i j) [
  | inl below ↦ absurd (not_before messages i j a b f g below)
  | inr past ↦ elim (cases_lt j i) [
    | inl above ↦ absurd (not_before messages j i b a g f above)
    | inr same ↦ omega (arith, past, same)
  ]
]

same_kind : (messages : List Message) (i : ℕ) (a b : PoFault) → HasFirstEntryTextFault i a messages
    → HasFirstEntryTextFault i b messages → a ≡ b
same_kind messages i a b f g =
    let entry : g.entry ≡ f.entry = let same : Some g.entry ≡ Some f.entry = sym g.is_entry ∙ f.is_entry in cc in
    one_texts_fault f.fault (subst (λ e. EntryTextFault e b) entry g.fault)

same_fault : (messages : List Message) (i j : ℕ) (a b : PoFault) → HasFirstEntryTextFault i a messages
    → HasFirstEntryTextFault j b messages → (i ≡ j) × (a ≡ b)
same_fault messages i j a b f g =
    let place = same_place messages i j a b f g in
    (place, same_kind messages i a b f (subst (λ k. HasFirstEntryTextFault k b messages) (sym place) g))

no_foreign_after : (messages : List Message) (i : ℕ) (a : PoFault) → HasForeignCharset messages
    → HasFirstEntryTextFault i a messages → ⊥
no_foreign_after messages i a foreign f =
    let entries = unformatted messages in
    let here = get_or_from_slice_get entries i f.entry f.entry f.is_entry in
    no_texts_fault (subst HasTexts here (foreign.texts i f.entry (slice_get_within entries i f.entry f.is_entry)))
    f.fault

module _ (unique : OneMessageList) (one : OneFirstFault) where
  both : (bytes : List ℕ) (i j : ℕ) (a b : PoFault) → IsFileOf bytes (HasFirstEntryTextFault i a)
      → IsFileOf bytes (HasFirstEntryTextFault j b) → (i ≡ j) × (a ≡ b)
  both bytes i j a b f g =
      same_fault f.messages i j a b f.holds
      (moved unique bytes (HasFirstEntryTextFault i a) (HasFirstEntryTextFault j b) f g)

  apart : (bytes : List ℕ) (i : ℕ) (a : PoFault) → IsFileOf bytes HasForeignCharset
      → IsFileOf bytes (HasFirstEntryTextFault i a) → ⊥
  apart bytes i a f g = no_foreign_after f.messages i a f.holds
      (moved unique bytes HasForeignCharset (HasFirstEntryTextFault i a) f g)

  valid : (bytes : List ℕ) (P : List Message → Type 0) (fault : MoError) → IsUnformatFault bytes (Mo fault)
      → IsFileOf bytes P → ⊥
  valid bytes P fault f file = file.valid.faultless fault f.holds

  pub fault_once : OneUnformatFault
  fault_once bytes (Mo a) (Mo b) f g x y = ap (λ (e : MoError). Mo e) (one bytes a b f g)
  fault_once bytes (Mo a) (NotUtf8 j) f g x y = absurd (valid bytes (HasFirstEntryTextFault j BadText) a f g)
  fault_once bytes (Mo a) (ForbiddenByte j) f g x y = absurd (valid bytes (HasFirstEntryTextFault j BadByte) a f g)
  fault_once bytes (Mo a) ForeignCharset f g x y = absurd (valid bytes HasForeignCharset a f g)
  fault_once bytes (NotUtf8 i) (Mo b) f g x y = absurd (valid bytes (HasFirstEntryTextFault i BadText) b g f)
  fault_once bytes (NotUtf8 i) (NotUtf8 j) f g x y = ap (λ (k : ℕ). NotUtf8 k) (both bytes i j BadText BadText f g).0
  fault_once bytes (NotUtf8 i) (ForbiddenByte j) f g x y = let same : BadText ≡ BadByte =
      (both bytes i j BadText BadByte f g).1 in cc
  fault_once bytes (NotUtf8 i) ForeignCharset f g x y = absurd (apart bytes i BadText g f)
  fault_once bytes (ForbiddenByte i) (Mo b) f g x y = absurd (valid bytes (HasFirstEntryTextFault i BadByte) b g f)
  fault_once bytes (ForbiddenByte i) (NotUtf8 j) f g x y = let same : BadByte ≡ BadText =
      (both bytes i j BadByte BadText f g).1 in cc
  fault_once bytes (ForbiddenByte i) (ForbiddenByte j) f g x y =
      ap (λ (k : ℕ). ForbiddenByte k) (both bytes i j BadByte BadByte f g).0
  fault_once bytes (ForbiddenByte i) ForeignCharset f g x y = absurd (apart bytes i BadByte g f)
  fault_once bytes ForeignCharset (Mo b) f g x y = absurd (valid bytes HasForeignCharset b g f)
  fault_once bytes ForeignCharset (NotUtf8 j) f g x y = absurd (apart bytes j BadText f g)
  fault_once bytes ForeignCharset (ForbiddenByte j) f g x y = absurd (apart bytes j BadByte f g)
  fault_once bytes ForeignCharset ForeignCharset f g x y = refl
  fault_once bytes OutOfMemory other f g x y = absurd (x refl)
  fault_once bytes error OutOfMemory f g x y = absurd (y refl)
