-- The joined list of the catalogues of several inputs (manual, "Invoking the msgfmt Program":
-- several input files).
use Rattle.std.specs.Prelude.{ℕ, ◌+◌, Bool, false, not, ◌&&◌, ◌||◌, List, [], ◌∷◌, ◌++◌, map, filter, if◌then◌else◌}
use Rattle.std.specs.List.{list_any}
use Rattle.po_entry.specs.TextEntry.{TextEntry}
use Rattle.po_entry.specs.Header.{is_header}

-- an entry of one of several inputs, which are counted from 0
pub record InputEntry : Type 0 where
  pub input : ℕ
  pub entry : TextEntry

-- the entry isn't obsolete
abbrev pub is_live : TextEntry → Bool
is_live entry = not entry.obsolete

abbrev pub is_live_header : TextEntry → Bool
is_live_header entry = is_header entry && is_live entry

-- the entry, as one of this input
abbrev pub in_input : ℕ → TextEntry → InputEntry
in_input input entry = record { input = input; entry = entry }

-- the entries of an input, without its live headers where an earlier input has one
abbrev pub kept_entries : Bool → List TextEntry → List TextEntry
kept_entries headed entries = if headed then filter (λ e. not (is_live_header e)) entries else entries

-- the entries of the inputs from this one on, where `headed` says whether an earlier one has a live
-- header, translated or not
abbrev pub joined_from : ℕ → Bool → List (List TextEntry) → List InputEntry
joined_from input headed [] = []
joined_from input headed (entries ∷ inputs) =
    map (in_input input) (kept_entries headed entries)
    ++ joined_from (input + 1) (headed || list_any is_live_header entries) inputs

-- the entries of all inputs in order, without the live headers of an input if an earlier input has
-- a live header
abbrev pub joined : List (List TextEntry) → List InputEntry
joined inputs = joined_from 0 false inputs

-- the entries, whatever their inputs
abbrev pub entries_of : List InputEntry → List TextEntry
entries_of entries = map (λ e. e.entry) entries

-- the joined list, whatever the inputs of its entries
abbrev pub joined_entries : List (List TextEntry) → List TextEntry
joined_entries inputs = entries_of (joined inputs)
