-- What each option of msgattrib promises, in the words of the manual ("Invoking the msgattrib
-- Program"). That a live header is always kept, stays live and keeps its forms is this project's
-- own rule.
use Rattle.std.specs.Prelude.{◌≡◌, ◌≢◌, ◌⊎◌, true, false, List, [], All, filter, length}
use Rattle.po_entry.specs.Prelude.{TextEntry, no_previous, is_header, first_form, is_live_header}
use Rattle.msgattrib.specs.declared.selection.Selection.{Selection}
use Rattle.msgattrib.specs.Selected.{changed, is_kept}

-- the entries that are kept, before they are changed
abbrev pub kept : Selection → List TextEntry → List TextEntry
kept s entries = filter (is_kept s) entries

-- each of the entries, but a live header
abbrev pub AllButHeader : (TextEntry → Type 0) → List TextEntry → Type 0
AllButHeader P entries = All (λ e. is_live_header e ≡ false → P e) entries

-- `--translated`: keep translated, remove untranslated messages
abbrev pub KeepsTranslated : Selection → List TextEntry → Type 0
KeepsTranslated s entries = s.translated ≡ true → AllButHeader (λ e. first_form e.forms ≢ []) (kept s entries)

-- `--untranslated`: keep untranslated, remove translated messages
abbrev pub KeepsUntranslated : Selection → List TextEntry → Type 0
KeepsUntranslated s entries = s.untranslated ≡ true → AllButHeader (λ e. first_form e.forms ≡ []) (kept s entries)

-- `--no-fuzzy`: remove messages marked fuzzy
abbrev pub RemovesFuzzy : Selection → List TextEntry → Type 0
RemovesFuzzy s entries = s.no_fuzzy ≡ true → AllButHeader (λ e. e.fuzzy ≡ false) (kept s entries)

-- `--only-fuzzy`: keep messages marked fuzzy, remove all other messages
abbrev pub KeepsFuzzy : Selection → List TextEntry → Type 0
KeepsFuzzy s entries = s.only_fuzzy ≡ true → AllButHeader (λ e. e.fuzzy ≡ true) (kept s entries)

-- `--no-obsolete`: remove obsolete messages
abbrev pub RemovesObsolete : Selection → List TextEntry → Type 0
RemovesObsolete s entries = s.no_obsolete ≡ true → AllButHeader (λ e. e.obsolete ≡ false) (kept s entries)

-- `--only-obsolete`: keep obsolete messages, remove all other messages
abbrev pub KeepsObsolete : Selection → List TextEntry → Type 0
KeepsObsolete s entries = s.only_obsolete ≡ true → AllButHeader (λ e. e.obsolete ≡ true) (kept s entries)

-- what a given option removes
abbrev pub IsUnwanted : Selection → TextEntry → Type 0
IsUnwanted s e =
    ((s.translated ≡ true) × (first_form e.forms ≡ []))
    ⊎ ((s.untranslated ≡ true) × (first_form e.forms ≢ []))
    ⊎ ((s.no_fuzzy ≡ true) × (e.fuzzy ≡ true))
    ⊎ ((s.only_fuzzy ≡ true) × (e.fuzzy ≡ false))
    ⊎ ((s.no_obsolete ≡ true) × (e.obsolete ≡ true))
    ⊎ ((s.only_obsolete ≡ true) × (e.obsolete ≡ false))

-- `--set-fuzzy`: set all messages fuzzy, also where `--clear-fuzzy` is given
abbrev pub SetsFuzzy : Selection → TextEntry → Type 0
SetsFuzzy s e = s.set_fuzzy ≡ true → (changed s e).fuzzy ≡ true

-- `--clear-fuzzy`: set all messages non-fuzzy
abbrev pub ClearsFuzzy : Selection → TextEntry → Type 0
ClearsFuzzy s e = s.set_fuzzy ≡ false → s.clear_fuzzy ≡ true → (changed s e).fuzzy ≡ false

-- `--set-obsolete`: set all messages obsolete, also where `--clear-obsolete` is given
abbrev pub SetsObsolete : Selection → TextEntry → Type 0
SetsObsolete s e = s.set_obsolete ≡ true → is_live_header e ≡ false → (changed s e).obsolete ≡ true

-- `--clear-obsolete`: set all messages non-obsolete
abbrev pub ClearsObsolete : Selection → TextEntry → Type 0
ClearsObsolete s e = s.set_obsolete ≡ false → s.clear_obsolete ≡ true → (changed s e).obsolete ≡ false

-- `--clear-previous`: remove the previous texts from all messages
abbrev pub ClearsPrevious : Selection → TextEntry → Type 0
ClearsPrevious s e = s.clear_previous ≡ true → (changed s e).previous ≡ no_previous

-- `--empty`: when fuzzy is removed, also set msgstr empty, but not that of a header
abbrev pub Empties : Selection → TextEntry → Type 0
Empties s e =
    s.empty ≡ true → e.fuzzy ≡ true → (changed s e).fuzzy ≡ false → is_header e ≡ false
    → All (λ form. form ≡ []) (changed s e).forms × (length (changed s e).forms ≡ length e.forms)

-- without these options a mark stays, and so do the previous texts
pub record MarksStay (s : Selection) (e : TextEntry) : Type 0 where
  pub fuzzy : s.set_fuzzy ≡ false → s.clear_fuzzy ≡ false → (changed s e).fuzzy ≡ e.fuzzy
  pub obsolete : s.set_obsolete ≡ false → s.clear_obsolete ≡ false → (changed s e).obsolete ≡ e.obsolete
  pub previous : s.clear_previous ≡ false → (changed s e).previous ≡ e.previous

-- forms are emptied only by `--empty`, and only where a mark fuzzy is removed
abbrev pub FormsStay : Selection → TextEntry → Type 0
FormsStay s e = (s.empty ≡ false) ⊎ (e.fuzzy ≡ false) ⊎ ((changed s e).fuzzy ≡ true) → (changed s e).forms ≡ e.forms

-- all else is as it was
pub record RestStays (s : Selection) (e : TextEntry) : Type 0 where
  pub comments : (changed s e).comments ≡ e.comments
  pub extracted : (changed s e).extracted ≡ e.extracted
  pub references : (changed s e).references ≡ e.references
  pub flags : (changed s e).flags ≡ e.flags
  pub context : (changed s e).context ≡ e.context
  pub id : (changed s e).id ≡ e.id
  pub plural : (changed s e).plural ≡ e.plural
  pub line : (changed s e).line ≡ e.line
