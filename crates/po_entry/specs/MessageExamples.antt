-- What the definitions of this crate say of lists of entries that were compared by hand (manual,
-- "Invoking the msgfmt Program"). tests/mutants/po_entry/definitions has a wrong form of each, which
-- one of these refuses.
use Rattle.std.specs.Prelude.{◌≡◌, refl, ℕ, true, false, List, [], ◌∷◌, Some, None, codes, map}
use Rattle.std.specs.Fmt.{digits}
use Rattle.std.proofs.Common.{arith, inr}
use Rattle.po_syntax.specs.declared.fault.PoFault.TheVariants.{Duplicate, OutOfMemory}
use Rattle.po_entry.specs.Spelling.{ReadsText}
use Rattle.po_entry.specs.TextEntry.{TextEntry, plain_entry}
use Rattle.po_entry.specs.Joined.{InputEntry, is_live, is_live_header, in_input, kept_entries, joined_from, joined, entries_of, joined_entries}
use Rattle.po_entry.specs.Duplicate.{is_of_message, IsSameMessage, AllDiffer, HasNoDuplicate, IsFirstDuplicate, join_out_of_memory, ReadsDistinct, IsTextFault}
use Rattle.po_entry.specs.Stats.{has_translation, stats_of, stats_line}
use Rattle.po_entry.specs.Message.{entry_message, same_message, first_ones}

-- a header; msgid "a" with msgstr "b", live and obsolete; the same in the context "c", untranslated
abbrev pub header : TextEntry
header = plain_entry None [] None (codes "Language: de\n" ∷ [])

abbrev pub of_a : TextEntry
of_a = plain_entry None (codes "a") None (codes "b" ∷ [])

abbrev pub obsolete_of_a : TextEntry
obsolete_of_a = record of_a { obsolete = true }

abbrev pub obsolete_header : TextEntry
obsolete_header = record header { obsolete = true }

abbrev pub of_a_in_c : TextEntry
of_a_in_c = plain_entry (Some (codes "c")) (codes "a") None ([] ∷ codes "d" ∷ [])

pub second_of_input : InputEntry
second_of_input = record { input = 1; entry = of_a }

pub inputs_are_joined : (in_input 2 of_a ≡ record { input = 2; entry = of_a })
    × (kept_entries true (header ∷ obsolete_header ∷ of_a ∷ []) ≡ obsolete_header ∷ of_a ∷ [])
    × (joined_from 1 false ((header ∷ []) ∷ (header ∷ of_a ∷ []) ∷ []) ≡ record { input = 1; entry = header }
    ∷ record { input = 2; entry = of_a } ∷ [])
    × (joined ((of_a ∷ []) ∷ (header ∷ of_a_in_c ∷ []) ∷ (header ∷ []) ∷ []) ≡ record { input = 0; entry = of_a }
    ∷ record { input = 1; entry = header } ∷ record { input = 1; entry = of_a_in_c } ∷ [])
    × (entries_of (in_input 4 of_a ∷ in_input 0 header ∷ []) ≡ of_a ∷ header ∷ [])
    × (joined_entries ((header ∷ of_a ∷ []) ∷ (header ∷ of_a_in_c ∷ []) ∷ []) ≡ header ∷ of_a ∷ of_a_in_c ∷ [])
inputs_are_joined = (refl, refl, refl, refl, refl, refl)

pub entries_are_told_apart : (map is_live (of_a ∷ obsolete_of_a ∷ []) ≡ true ∷ false ∷ [])
    × (map is_live_header (header ∷ obsolete_header ∷ of_a ∷ []) ≡ true ∷ false ∷ false ∷ [])
    × (map has_translation (of_a ∷ obsolete_of_a ∷ of_a_in_c ∷ []) ≡ true ∷ true ∷ false ∷ [])
    × (map (is_of_message None (codes "a")) (header ∷ of_a ∷ obsolete_of_a ∷ of_a_in_c ∷ []) ≡ false ∷ true ∷ true
    ∷ false ∷ [])
entries_are_told_apart = (refl, refl, refl, refl)

-- the forms, and whether they are obsolete, make no difference
pub forms_make_no_other_message : IsSameMessage of_a (record obsolete_of_a { forms = [] })
forms_make_no_other_message = (refl, refl)

pub message_twice : AllDiffer (of_a ∷ header ∷ of_a ∷ []) → ⊥
message_twice differ = differ 0 2 header (omega arith) (omega arith) (refl, refl)

-- an obsolete entry may repeat a live one
pub obsolete_is_no_duplicate : HasNoDuplicate (of_a ∷ obsolete_of_a ∷ [])
obsolete_is_no_duplicate i j d below within = absurd (omega (arith, below, within))

pub duplicate_is_not_read : (text : List ℕ) → ReadsDistinct text (of_a ∷ of_a ∷ []) → ⊥
duplicate_is_not_read text reads = reads.distinct 0 1 header (omega arith) (omega arith) (refl, refl)

abbrev pub of_a_on : ℕ → TextEntry
of_a_on line = record of_a { line = line }

-- the third entry repeats the first; that the second does makes no difference, as it is obsolete
pub first_duplicate : (i j : ℕ) → IsFirstDuplicate
    (in_input i (of_a_on 2) ∷ in_input i obsolete_of_a ∷ in_input j (of_a_on 7) ∷ in_input j header ∷ [])
    (in_input i (of_a_on 2)) (in_input j (of_a_on 7))
first_duplicate i j = record {
  before = [];
  between = [];
  after = in_input j header ∷ [];
  order = refl;
  same = (refl, refl);
  differ = λ k l d below within. absurd (omega (arith, below, within));
}

pub memory_is_of_no_input : join_out_of_memory
    ≡ record { input = 0; first_input = 0; error = record { kind = OutOfMemory; line = 0 } }
memory_is_of_no_input = refl

pub duplicate_of_text : (text : List ℕ) → ReadsText text (of_a_on 2 ∷ obsolete_of_a ∷ of_a_on 7 ∷ header ∷ [])
    → IsTextFault text (record { kind = Duplicate 2; line = 7 })
duplicate_of_text text reads = inr record {
  entries = of_a_on 2 ∷ obsolete_of_a ∷ of_a_on 7 ∷ header ∷ [];
  reads = reads;
  first = in_input 0 (of_a_on 2);
  later = in_input 0 (of_a_on 7);
  duplicate = first_duplicate 0 0;
  error_is = refl;
}

-- a header, one translated, one fuzzy, two untranslated, of which one has the flag `fuzzy`, two obsolete
pub messages_are_counted : stats_of
    (header ∷ of_a ∷ record of_a { fuzzy = true } ∷ of_a_in_c ∷ record of_a_in_c { fuzzy = true } ∷ obsolete_of_a
    ∷ record of_a_in_c { obsolete = true } ∷ [])
    ≡ record { translated = 1; fuzzy = 1; untranslated = 2 }
messages_are_counted = refl

pub statistics_are_reported : stats_line (record { translated = 1; fuzzy = 2; untranslated = 0 })
    ≡ codes "1 translated message, 2 fuzzy translations.\n"
unfolding digits
statistics_are_reported = refl

pub messages_are_told_apart :
    first_ones same_message (map entry_message (of_a ∷ of_a_in_c ∷ obsolete_of_a ∷ header ∷ []))
    ≡ map entry_message (of_a ∷ of_a_in_c ∷ header ∷ []) × (entry_message of_a_in_c
    ≡ record { context = Some (codes "c"); id = codes "a" })
messages_are_told_apart = (refl, refl)
