-- Which entries of a catalogue are selected, and how they are changed (manual, "Invoking the
-- msgattrib Program"). That a live header is always kept, stays live and keeps its forms is this
-- project's own rule.
use Rattle.std.specs.Prelude.{◌≡◌, Bool, false, not, ◌&&◌, ◌||◌, List, [], map, filter, if◌then◌else◌, ◌≢◌, ◌⊎◌, ◌+◌, ◌<◌, ◌≤◌, ℕ, get_or, length}
use Rattle.po_entry.specs.Prelude.{TextEntry, no_previous, is_header, is_live, is_live_header, has_translation}
use Rattle.msgattrib.specs.declared.selection.Selection.{Selection}

-- the condition holds, if its option is given
abbrev pub if_given : Bool → Bool → Bool
if_given option condition = not option || condition

-- the entry meets each given condition
abbrev pub meets : Selection → TextEntry → Bool
meets s e =
    if_given s.translated (has_translation e) && if_given s.untranslated (not (has_translation e))
    && if_given s.no_fuzzy (not e.fuzzy) && if_given s.only_fuzzy e.fuzzy
    && if_given s.no_obsolete (is_live e) && if_given s.only_obsolete (not (is_live e))

-- a live header is kept whatever is given
abbrev pub is_kept : Selection → TextEntry → Bool
is_kept s e = is_live_header e || meets s e

abbrev pub fuzzy_after : Selection → TextEntry → Bool
fuzzy_after s e = s.set_fuzzy || (e.fuzzy && not s.clear_fuzzy)

-- with `--empty` an entry that was fuzzy and isn't any more loses its forms, except a header
abbrev pub is_emptied : Selection → TextEntry → Bool
is_emptied s e = s.empty && e.fuzzy && not (fuzzy_after s e) && not (is_header e)

-- a live header stays live
abbrev pub obsolete_after : Selection → TextEntry → Bool
obsolete_after s e = if s.set_obsolete then not (is_live_header e) else e.obsolete && not s.clear_obsolete

-- the entry, as it is changed
abbrev pub changed : Selection → TextEntry → TextEntry
changed s e = record e {
  fuzzy = fuzzy_after s e;
  forms = if is_emptied s e then map (λ _. []) e.forms else e.forms;
  obsolete = obsolete_after s e;
  previous = if s.clear_previous then no_previous else e.previous;
}

-- the entries that are kept, each changed
abbrev pub selected : Selection → List TextEntry → List TextEntry
selected s entries = map (changed s) (filter (is_kept s) entries)

-- no option is given
abbrev pub every_entry : Selection
every_entry = record {
  translated = false;
  untranslated = false;
  no_fuzzy = false;
  only_fuzzy = false;
  no_obsolete = false;
  only_obsolete = false;
  set_fuzzy = false;
  clear_fuzzy = false;
  set_obsolete = false;
  clear_obsolete = false;
  clear_previous = false;
  empty = false;
}

-- no option that changes entries is given; `--empty` alone changes none
pub record ChangesNothing (s : Selection) : Type 0 where
  pub set_fuzzy : s.set_fuzzy ≡ false
  pub clear_fuzzy : s.clear_fuzzy ≡ false
  pub set_obsolete : s.set_obsolete ≡ false
  pub clear_obsolete : s.clear_obsolete ≡ false
  pub clear_previous : s.clear_previous ≡ false

-- What becomes of entries of which one is changed (manual, "Invoking the msgattrib Program").

-- all entries but the one with this index stay, in their places
pub record OthersStay (index : ℕ) (old new : List TextEntry) : Type 0 where
  pub others : (i : ℕ) (other : TextEntry) → i < length old → i ≢ index → get_or new i other ≡ get_or old i other
  pub longer : length old ≤ length new

-- the entry with this index stays there, and none is added; or its copy alone is added, at the end
abbrev pub IsThereOrCopied : ℕ → List TextEntry → List TextEntry → ℕ → Type 0
IsThereOrCopied index old new at =
    ((at ≡ index) × (length new ≡ length old)) ⊎ ((at ≡ length old) × (length new ≡ length old + 1))

-- the entry with this index stands there or at the end, changed as the selection says; the others stay
pub record IsChangedAt (s : Selection) (index : ℕ) (old new : List TextEntry) (at : ℕ) : Type 0 where
  pub place : IsThereOrCopied index old new at
  pub inside : at < length new
  pub entry : (other : TextEntry) → get_or new at other ≡ changed s (get_or old index other)
  pub rest : OthersStay index old new
