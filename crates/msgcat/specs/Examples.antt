-- What two inputs are merged to by hand (manual, "Invoking the msgcat Program").
-- tests/mutants/msgcat/definitions has a wrong form of each definition, which this refuses.
use Rattle.std.specs.Prelude.{◌≡◌, refl, true, false, ℕ, List, [], ◌∷◌, Some, None, codes}
use Rattle.po_entry.specs.Prelude.{TextEntry, plain_entry}
use Rattle.msgcat.specs.Inputs.{Named}
use Rattle.msgcat.specs.Merged.{merged}

abbrev pub header : TextEntry
header = plain_entry None [] None (codes "Language: de\n" ∷ [])

abbrev pub message : List ℕ → List ℕ → TextEntry
message id form = plain_entry None id None (form ∷ [])

-- untranslated, obsolete, and with a comment; in the other input with two forms, this comment and another
abbrev pub of_a_po : Named
of_a_po = record {
  name = codes "a.po";
  entries = header ∷ message (codes "a") [] ∷ record (message (codes "b") (codes "v")) { obsolete = true }
      ∷ record (message (codes "c") (codes "x")) { comments = codes " d" ∷ [] } ∷ [];
}

abbrev pub plural_c : TextEntry
plural_c = record (plain_entry None (codes "c") (Some (codes "cs")) (codes "y\n" ∷ codes "z" ∷ [])) {
  comments = codes " d" ∷ codes " e" ∷ [];
  previous = record { context = None; id = Some (codes "f"); plural = None };
}

abbrev pub of_b_po : Named
of_b_po = record {
  name = codes "b.po";
  entries = message (codes "a") (codes "u") ∷ message (codes "b") (codes "w") ∷ plural_c ∷ [];
}

-- with `--more-than=1 --less-than=3`, and with `--use-first`
pub messages_are_merged :
    (merged (record { more_than = 1; less_than = Some 3; unique = false; use_first = false }) (of_a_po ∷ of_b_po ∷ [])
    ≡ header ∷ message (codes "a") (codes "u") ∷ record plural_c {
      fuzzy = true;
      forms = codes "#-#-#-#-#  a.po  #-#-#-#-#\nx\n#-#-#-#-#  b.po  #-#-#-#-#\ny\n"
          ∷ codes "#-#-#-#-#  b.po  #-#-#-#-#\nz\n" ∷ [];
    } ∷ [])
    × (merged (record { more_than = 0; less_than = None; unique = false; use_first = true }) (of_a_po ∷ of_b_po ∷ [])
    ≡ header ∷ message (codes "a") (codes "u") ∷ message (codes "b") (codes "w")
    ∷ record plural_c { forms = codes "x" ∷ []; comments = codes " d" ∷ [] } ∷ [])
messages_are_merged = (refl, refl)
