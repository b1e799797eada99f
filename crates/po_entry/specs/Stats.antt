-- Whether an entry has a translation, and the statistics of a catalogue (manual, "Invoking the msgfmt
-- Program": `--statistics`).
use Rattle.std.specs.Prelude.{ℕ, ◌+◌, Bool, not, ◌&&◌, ◌==◌, List, [], ◌++◌, length, filter, codes, decimal, if◌then◌else◌}
use Rattle.po_entry.specs.TextEntry.{TextEntry}
use Rattle.po_entry.specs.Header.{is_header, first_form}
use Rattle.po_entry.specs.Joined.{is_live}
use Rattle.po_entry.specs.declared.stats.Stats.{Stats}

-- Live entries count, but for the header. Each of them is translated, fuzzy or untranslated; an
-- untranslated one isn't fuzzy, whatever its flags.
abbrev pub is_counted : TextEntry → Bool
is_counted entry = is_live entry && not (is_header entry)

-- the first form isn't empty; it decides for all forms of the entry
abbrev pub has_translation : TextEntry → Bool
has_translation entry = not (length (first_form entry.forms) == 0)

abbrev pub is_translated : TextEntry → Bool
is_translated entry = is_counted entry && has_translation entry && not entry.fuzzy

abbrev pub is_fuzzy : TextEntry → Bool
is_fuzzy entry = is_counted entry && has_translation entry && entry.fuzzy

abbrev pub is_untranslated : TextEntry → Bool
is_untranslated entry = is_counted entry && not (has_translation entry)

abbrev pub one_if : Bool → ℕ
one_if test = if test then 1 else 0

-- how many of the entries are translated, fuzzy and untranslated, whichever of them are compiled
abbrev pub stats_of : List TextEntry → Stats
stats_of entries = record {
  translated = length (filter is_translated entries);
  fuzzy = length (filter is_fuzzy entries);
  untranslated = length (filter is_untranslated entries);
}

-- the counts, with one more entry, of which these are known
abbrev pub counted_stats : Stats → Bool → Bool → Bool → Stats
counted_stats stats is_counted has_translation fuzzy = record {
  translated = stats.translated + one_if (is_counted && has_translation && not fuzzy);
  fuzzy = stats.fuzzy + one_if (is_counted && has_translation && fuzzy);
  untranslated = stats.untranslated + one_if (is_counted && not has_translation);
}

-- the counts, with one more entry
abbrev pub added_stats : Stats → TextEntry → Stats
added_stats stats entry = counted_stats stats (is_counted entry) (has_translation entry) entry.fuzzy

-- a count with its noun, which is in the singular for 1 alone
abbrev pub counted : ℕ → List ℕ → List ℕ
counted count noun = decimal count ++ noun ++ (if count == 1 then [] else codes "s")

-- a further count, after a comma, unless it is 0
abbrev pub further : ℕ → List ℕ → List ℕ
further count noun = if count == 0 then [] else codes ", " ++ counted count noun

-- the line that reports the statistics; the count of translated ones is there even if it is 0
abbrev pub stats_line : Stats → List ℕ
stats_line stats =
    counted stats.translated (codes " translated message")
    ++ further stats.fuzzy (codes " fuzzy translation")
    ++ further stats.untranslated (codes " untranslated message")
    ++ codes ".\n"
