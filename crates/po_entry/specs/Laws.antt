-- What laws say of entries and of their messages (manual, "The Format of PO Files").
use Rattle.std.specs.Prelude.{◌≡◌, ◌≢◌, false, List, ◌∷◌, ◌++◌, ℕ, ◌+◌, Bool, not, ◌&&◌, nat_lt, [], map, filter, length, bytes_eq, codes, decimal}
use Rattle.po_syntax.specs.declared.fault.PoFault.TheVariants.{Duplicate as DuplicateOf}
use Rattle.po_entry.specs.declared.duplicate.JoinError.{JoinError}
use Rattle.po_entry.specs.Duplicate.{IsDuplicateFault, IsSameMessage, join_out_of_memory}
use Rattle.po_entry.specs.Joined.{InputEntry, in_input, is_live_header, joined}
use Rattle.std.specs.List.{list_any}
use Rattle.po_entry.specs.TextEntry.{TextEntry}
use Rattle.po_entry.specs.Header.{is_header, first_form}
use Rattle.po_entry.specs.Stats.{stats_of}
use Rattle.po_entry.specs.declared.stats.Stats.{Stats}

-- the fault is at an entry, and names an entry of the same message that stands before it; both are
-- live
pub record NamesEarlier (entries : List InputEntry) (error : JoinError) : Type 0 where
  pub before : List InputEntry
  pub between : List InputEntry
  pub after : List InputEntry
  pub named : InputEntry
  pub reported : InputEntry
  pub order : entries ≡ before ++ named ∷ (between ++ reported ∷ after)
  pub named_line : error.error.kind ≡ DuplicateOf named.entry.line
  pub named_input : error.first_input ≡ named.input
  pub reported_line : error.error.line ≡ reported.entry.line
  pub reported_input : error.input ≡ reported.input
  pub one_message : IsSameMessage named.entry reported.entry
  pub named_live : named.entry.obsolete ≡ false
  pub reported_live : reported.entry.obsolete ≡ false

-- the fault of a duplicate, if an allocation didn't fail
abbrev pub FaultNamesEarlier : List InputEntry → JoinError → Type 0
FaultNamesEarlier entries error =
    IsDuplicateFault entries error → error ≢ join_out_of_memory → NamesEarlier entries error

-- Which entries the joined list of several inputs omits, said of all their entries at once (manual,
-- "Invoking the msgfmt Program": several input files).

-- all entries of the inputs from this one on, in order, each with its input
abbrev pub entries_from : ℕ → List (List TextEntry) → List InputEntry
entries_from input [] = []
entries_from input (entries ∷ inputs) = map (in_input input) entries ++ entries_from (input + 1) inputs

-- all entries of the inputs, in order
abbrev pub entries_of_inputs : List (List TextEntry) → List InputEntry
entries_of_inputs inputs = entries_from 0 inputs

-- an input before this one has a live header
abbrev pub has_header_before : List InputEntry → ℕ → Bool
has_header_before entries input = list_any (λ e. nat_lt e.input input && is_live_header e.entry) entries

-- of these entries one is omitted where it is a live header and an earlier input has one
abbrev pub is_omitted : List InputEntry → InputEntry → Bool
is_omitted entries e = is_live_header e.entry && has_header_before entries e.input

-- The joined list is all entries but those that are live headers where an earlier input has one.
abbrev pub OmitsLaterHeaders : List (List TextEntry) → Type 0
OmitsLaterHeaders inputs =
    joined inputs ≡ filter (λ e. not (is_omitted (entries_of_inputs inputs) e)) (entries_of_inputs inputs)

-- What is promised of the statistics beyond their definition (manual, "Invoking the msgfmt
-- Program": `--statistics`).

-- the live entries but the header
abbrev pub live_messages : List TextEntry → List TextEntry
live_messages entries = filter (λ e. not e.obsolete && not (is_header e)) entries

abbrev pub has_empty_first_form : TextEntry → Bool
has_empty_first_form e = bytes_eq (first_form e.forms) []

-- each live entry but the header is counted once
abbrev pub CountsAddUp : List TextEntry → Type 0
CountsAddUp entries =
    (stats_of entries).translated + (stats_of entries).fuzzy + (stats_of entries).untranslated
    ≡ length (live_messages entries)

-- the untranslated ones are those with an empty first form, whether they are fuzzy or not
abbrev pub EmptyAreUntranslated : List TextEntry → Type 0
EmptyAreUntranslated entries =
    (stats_of entries).untranslated ≡ length (filter has_empty_first_form (live_messages entries))

-- the fuzzy ones are those with the flag `fuzzy` whose first form isn't empty
abbrev pub FlaggedAreFuzzy : List TextEntry → Type 0
FlaggedAreFuzzy entries =
    (stats_of entries).fuzzy ≡ length (filter (λ e. e.fuzzy && not (has_empty_first_form e)) (live_messages entries))

-- a count before its noun, which has an `s` for each count but 1
pub data WritesCount : ℕ → List ℕ → List ℕ → Type 0 where
  one : {noun : List ℕ} → WritesCount 1 noun (codes "1" ++ 32 ∷ noun)
  other : {count : ℕ} {noun : List ℕ} → count ≢ 1 → WritesCount count noun (decimal count ++ 32 ∷ noun ++ codes "s")

-- a further count stands after a comma, if it isn't 0
pub data WritesFurther : ℕ → List ℕ → List ℕ → Type 0 where
  omitted : {noun : List ℕ} → WritesFurther 0 noun []
  written : {count : ℕ} {noun text : List ℕ} → count ≢ 0 → WritesCount count noun text
      → WritesFurther count noun (codes ", " ++ text)

-- the line has the count of translated messages, then the two others, and a full stop
pub record WritesStatistics (stats : Stats) (line : List ℕ) : Type 0 where
  pub translated : List ℕ
  pub fuzzy : List ℕ
  pub untranslated : List ℕ
  pub first : WritesCount stats.translated (codes "translated message") translated
  pub second : WritesFurther stats.fuzzy (codes "fuzzy translation") fuzzy
  pub third : WritesFurther stats.untranslated (codes "untranslated message") untranslated
  pub whole : line ≡ translated ++ fuzzy ++ untranslated ++ codes ".\n"
