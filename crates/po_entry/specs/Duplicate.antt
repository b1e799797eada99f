-- Live entries with one context and msgid (manual, "The Format of PO Files": a msgid may appear
-- twice only under another context).
use Rattle.std.specs.Prelude.{◌≡◌, ◌≢◌, ◌<◌, ◌≤◌, ℕ, Bool, true, List, ◌∷◌, ◌++◌, AllPairs, get_or, length, ◌⊎◌, ◌&&◌, map, filter, Option, All, Contains}
use Rattle.std.specs.Option.{option_eq}
use Rattle.std.specs.Str.{bytes_eq}
use Rattle.po_entry.specs.TextEntry.{TextEntry}
use Rattle.po_entry.specs.Validity.{out_of_memory}
use Rattle.po_syntax.specs.declared.fault.PoFault.TheVariants.{Duplicate}
use Rattle.po_syntax.specs.declared.fault.PoError.{PoError}
use Rattle.po_entry.specs.declared.duplicate.JoinError.{JoinError}
use Rattle.po_entry.specs.Joined.{InputEntry, is_live, in_input}
use Rattle.std.specs.List.{position_or_len}
use Rattle.po_entry.specs.Message.{first_ones, entry_message, entry_messages, same_message}
use Rattle.po_entry.specs.declared.repeats.EntryPlace.{EntryPlace}
use Rattle.po_entry.specs.Spelling.{ReadsText}
use Rattle.po_entry.specs.Faults.{IsReadFault}

-- What stands twice in a list, and what a table keeps of numbers: of lists of any kind, and from no
-- section of the manual.

-- `later` is the earliest element that is like one before it, and `first` is that one: no two of those
-- before `later` are alike
pub record IsFirstRepeat {X : Type 0} (Alike : X → X → Type 0) (list : List X) (first later : X) : Type 0 where
  pub before : List X
  pub between : List X
  pub after : List X
  pub order : list ≡ (before ++ first ∷ between) ++ later ∷ after
  pub same : Alike first later
  pub differ : AllPairs (λ a b. ¬ Alike a b) (before ++ first ∷ between)

-- each of the indexes is at most this
abbrev pub AreUpTo : ℕ → List ℕ → Type 0
AreUpTo most indexes = (number : ℕ) → get_or indexes number 0 ≤ most

-- of the first `n` of the things, which have these numbers, no two live ones have the same number
abbrev pub DifferUpTo : {X : Type 0} → (X → Bool) → List ℕ → List X → ℕ → Type 0
DifferUpTo {X = X} live numbers things n =
    (i j : ℕ) (d : X) → i < j → j < n → live (get_or things i d) ≡ true → live (get_or things j d) ≡ true
    → get_or numbers i 0 ≢ get_or numbers j 0

-- `later` is the index of the earliest live thing that has the number of an earlier live one, and
-- `first` the index of that one
pub record RepeatsAt {X : Type 0} (live : X → Bool) (numbers : List ℕ) (things : List X)
    (first later : ℕ) : Type 0 where
  pub earlier : first < later
  pub within : later < length things
  pub first_live : (d : X) → live (get_or things first d) ≡ true
  pub later_live : (d : X) → live (get_or things later d) ≡ true
  pub same : get_or numbers first 0 ≡ get_or numbers later 0
  pub differ : DifferUpTo live numbers things later

-- the entry has this context, or none where this is none, and this msgid
abbrev pub is_of_message : Option (List ℕ) → List ℕ → TextEntry → Bool
is_of_message context id entry = option_eq bytes_eq entry.context context && bytes_eq entry.id id

-- the entries have the same context, or both none, and the same msgid; a plural makes no difference
abbrev pub IsSameMessage : TextEntry → TextEntry → Type 0
IsSameMessage a b = (a.context ≡ b.context) × (a.id ≡ b.id)

-- no entry has the context and msgid of a later one
abbrev pub AllDiffer : List TextEntry → Type 0
AllDiffer entries = AllPairs (λ a b. ¬ IsSameMessage a b) entries

-- no live entry has the context and msgid of another live one
abbrev pub HasNoDuplicate : List TextEntry → Type 0
HasNoDuplicate entries = AllDiffer (filter is_live entries)

-- the live ones of the entries, in order
abbrev pub live_entries : List InputEntry → List InputEntry
live_entries entries = filter (λ e. is_live e.entry) entries

-- `later` is the earliest live entry that repeats an earlier live one, and `first` is that one
abbrev pub IsFirstDuplicate : List InputEntry → InputEntry → InputEntry → Type 0
IsFirstDuplicate entries first later =
    IsFirstRepeat (λ a b. IsSameMessage a.entry b.entry) (live_entries entries) first later

-- what is reported of a duplicate: where the later entry stands (`input`, and the line of the
-- error), and where the first does (`first_input`, and the line in the kind of the fault)
abbrev pub duplicate_fault : InputEntry → InputEntry → JoinError
duplicate_fault first later = record {
  input = later.input;
  first_input = first.input;
  error = record { kind = Duplicate first.entry.line; line = later.entry.line };
}

-- out of memory, which has no line (0) and is of no input, for which 0 stands
abbrev pub join_out_of_memory : JoinError
join_out_of_memory = record { input = 0; first_input = 0; error = out_of_memory }

-- why a joined list is refused: its first duplicate, or out of memory
abbrev pub IsDuplicateFault : List InputEntry → JoinError → Type 0
IsDuplicateFault entries error =
    (error ≡ join_out_of_memory)
    ⊎ ((first later : InputEntry) × IsFirstDuplicate entries first later × (error ≡ duplicate_fault first later))

-- why the entries of one catalogue are refused
abbrev pub IsDuplicateFaultOf : List TextEntry → PoError → Type 0
IsDuplicateFaultOf entries error =
    (error ≡ out_of_memory)
    ⊎ ((first later : InputEntry) × IsFirstDuplicate (map (in_input 0) entries) first later
    × (error ≡ (duplicate_fault first later).error))

-- Live entries that repeat an earlier one, by the numbers of their messages.

-- the number of an entry's message among those of a list of entries
abbrev pub number_in : List TextEntry → TextEntry → ℕ
number_in all entry = position_or_len (same_message (entry_message entry))
    (first_ones same_message (entry_messages all))

-- the entry's message is one of theirs
abbrev pub IsNumbered : List TextEntry → TextEntry → Type 0
IsNumbered all entry = Contains (entry_messages all) (entry_message entry)

-- these are the numbers of the entries among all
pub record AreNumbered (all entries : List TextEntry) (numbers : List ℕ) : Type 0 where
  pub among : All (IsNumbered all) entries
  pub numbers_are : numbers ≡ map (number_in all) entries

-- whether it is live, where duplicates are looked for
abbrev pub is_looked_at : EntryPlace → Bool
is_looked_at place = place.is_live

-- where the entries stand, and which of them are looked at
abbrev pub place_of : (TextEntry → Bool) → TextEntry → EntryPlace
place_of is_there entry = record { line = entry.line; is_live = is_there entry }

abbrev pub are_placed : (TextEntry → Bool) → List TextEntry → List EntryPlace
are_placed is_there entries = map (place_of is_there) entries

-- the lines of the first two of the entries that are of one message
abbrev pub RepeatsOnLines : List TextEntry → ℕ × ℕ → Type 0
RepeatsOnLines entries lines =
    (first later : TextEntry) × IsFirstRepeat IsSameMessage entries first later × (lines ≡ (first.line, later.line))

-- the first duplicate of the entries
abbrev pub Repeats : List TextEntry → PoError → Type 0
Repeats entries error =
    (first later : InputEntry) × IsFirstDuplicate (map (in_input 0) entries) first later
    × (error ≡ (duplicate_fault first later).error)

-- Texts in which no live entry repeats an earlier one, and the first fault of the others (manual, "The
-- Format of PO Files").

-- the text reads as these entries, no two live ones of which are of one message
pub record ReadsDistinct (text : List ℕ) (entries : List TextEntry) : Type 0 where
  pub reads : ReadsText text entries
  pub distinct : HasNoDuplicate entries

-- the first duplicate of a text that reads as entries
pub record HasDuplicate (text : List ℕ) (error : PoError) : Type 0 where
  pub entries : List TextEntry
  pub reads : ReadsText text entries
  pub first : InputEntry
  pub later : InputEntry
  pub duplicate : IsFirstDuplicate (map (in_input 0) entries) first later
  pub error_is : error ≡ (duplicate_fault first later).error

-- the first fault of a text: why it doesn't read; or, of a text that does, its first duplicate
abbrev pub IsTextFault : List ℕ → PoError → Type 0
IsTextFault text error = IsReadFault text error.kind error.line ⊎ HasDuplicate text error
