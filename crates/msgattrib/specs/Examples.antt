-- Entries that were selected and changed by hand (manual, "Invoking the msgattrib Program").
-- tests/mutants/msgattrib/definitions has a wrong form of each definition, which they refuse.
use Rattle.std.specs.Prelude.{◌≡◌, refl, true, [], ◌∷◌, Some, None, codes}
use Rattle.po_entry.specs.Prelude.{TextEntry, plain_entry}
use Rattle.msgattrib.specs.Selected.{selected, every_entry}
use Rattle.msgattrib.specs.declared.selection.Selection.{Selection}

abbrev pub header : TextEntry
header = plain_entry None [] None (codes "Language: de\n" ∷ [])

abbrev pub of_a : TextEntry
of_a = plain_entry None (codes "a") None (codes "b" ∷ [])

abbrev pub fuzzy_of_a : TextEntry
fuzzy_of_a = record of_a { fuzzy = true; previous = record { context = None; id = Some (codes "c"); plural = None } }

-- `--only-fuzzy --no-obsolete --clear-fuzzy --empty --set-obsolete --clear-previous`
abbrev pub of_fuzzy : Selection
of_fuzzy = record every_entry {
  only_fuzzy = true;
  no_obsolete = true;
  clear_fuzzy = true;
  empty = true;
  set_obsolete = true;
  clear_previous = true;
}

pub entries_are_selected :
    (selected of_fuzzy (header ∷ fuzzy_of_a ∷ of_a ∷ record fuzzy_of_a { obsolete = true } ∷ [])
    ≡ header ∷ record of_a { forms = [] ∷ []; obsolete = true } ∷ [])
    × (selected every_entry (fuzzy_of_a ∷ []) ≡ fuzzy_of_a ∷ [])
entries_are_selected = (refl, refl)
