-- Statistics: how many entries are translated, fuzzy and untranslated, and the line that says so.
use Rattle.po_entry.proofs.Prelude.{Bool, CountsAddUp, EmptyAreUntranslated, FlaggedAreFuzzy, List, Stats, TextEntry, WritesCount, WritesFurther, WritesStatistics, [], and_assoc, and_comm, ap, append-nil, arith, codes, common_steps, cond, count_by-le-length, counted, decimal, eqb-false, eqb-true, false, filter, further, if◌then◌else◌, length, length-filter, length-take, not, refl, rules, stats_line, stats_of, subst, sym, take, true, ℕ, ◌&&◌, ◌++◌, ◌+◌, ◌<◌, ◌==◌, ◌∙◌, ◌∷◌, ◌≡◌, ◌≤◌}
use Rattle.std.proofs.Common.{bytes_eq}
use Rattle.std.proofs.lemmas.Fmt.{decimal_digit}
use Rattle.po_entry.specs.Laws.{omitted, one, other, written}

filtered_is_short : (test : TextEntry → Bool) (entries : List TextEntry) → length (filter test entries) ≤ length entries
filtered_is_short test entries = omega (arith, length-filter test entries, count_by-le-length test entries)

-- each count is at most the number of entries
pub record AreAtMost (stats : Stats) (count : ℕ) : Type 0 where
  pub translated : stats.translated ≤ count
  pub fuzzy : stats.fuzzy ≤ count
  pub untranslated : stats.untranslated ≤ count

stats_are_at_most : (stats : Stats) (entries : List TextEntry) (count : ℕ) → stats ≡ stats_of entries
    → length entries ≤ count → AreAtMost stats count
stats_are_at_most stats entries count e short = grind (arith, common_steps, filtered_is_short)

-- the counts of the first entries of a list
pub counts_of_first : (stats : Stats) (entries : List TextEntry) (i : ℕ) → stats ≡ stats_of (take i entries)
    → AreAtMost stats i
counts_of_first stats entries i e = stats_are_at_most stats (take i entries) i e (omega (arith, length-take i entries))

one_more : (counted has fuzzy : Bool) (e : TextEntry) (ts fs us all : List TextEntry)
    → length ts + length fs + length us ≡ length all
    → length (cond (counted && has && not fuzzy) (e ∷ ts) ts) + length (cond (counted && has && fuzzy) (e ∷ fs) fs)
    + length (cond (counted && not has) (e ∷ us) us) ≡ length (cond counted (e ∷ all) all)
one_more true true true e ts fs us all h = omega (arith, h)
one_more true true false e ts fs us all h = omega (arith, h)
one_more true false fuzzy e ts fs us all h = omega (arith, h)
one_more false has fuzzy e ts fs us all h = h

pub counts_add_up : (entries : List TextEntry) → CountsAddUp entries
counts_add_up [] = refl
counts_add_up (e ∷ entries) = grind (arith, common_steps, one_more, counts_add_up entries)

empty_is : (form : List ℕ) → bytes_eq form [] ≡ (length form == 0)
empty_is [] = refl
empty_is (x ∷ form) = let some : 0 < length (x ∷ form) = omega arith in grind (arith, some)

-- of one more entry that passes, or doesn't, among those that count
one_kept : (counted passes : Bool) (p : TextEntry → Bool) (e : TextEntry) (found all : List TextEntry) → p e ≡ passes
    → length found ≡ length (filter p all)
    → length (cond (counted && passes) (e ∷ found) found) ≡ length (filter p (cond counted (e ∷ all) all))
one_kept true true p e found all is h = rw is (omega (arith, h))
one_kept true false p e found all is h = rw is h
one_kept false passes p e found all is h = h

not_not : (b : Bool) → b ≡ not (not b)
not_not true = refl
not_not false = refl

pub empty_are_untranslated : (entries : List TextEntry) → EmptyAreUntranslated entries
empty_are_untranslated [] = refl
empty_are_untranslated (e ∷ entries) = search (rules, one_kept, empty_is, not_not, empty_are_untranslated entries)

pub flagged_are_fuzzy : (entries : List TextEntry) → FlaggedAreFuzzy entries
flagged_are_fuzzy [] = refl
flagged_are_fuzzy (e ∷ entries) = search (rules, and_assoc, one_kept, empty_is, and_comm, flagged_are_fuzzy entries)

count_written : (count : ℕ) (noun : List ℕ) → WritesCount count noun (counted count (32 ∷ noun))
count_written count noun = by (count == 1) refl where
  by : (b : Bool) → (count == 1) ≡ b
      → WritesCount count noun (decimal count ++ (32 ∷ noun) ++ (if b then [] else codes "s"))
  by true e = subst (λ n. WritesCount n noun (decimal n ++ (32 ∷ noun) ++ [])) (sym (eqb-true count 1 e))
      (subst (WritesCount 1 noun)
      (sym (ap (λ l. l ++ 32 ∷ noun ++ []) (decimal_digit 1 (omega arith)) ∙ append-nil (codes "1" ++ 32 ∷ noun)))
      one)
  by false e = other (eqb-false count 1 e)

further_written : (count : ℕ) (noun : List ℕ) → WritesFurther count noun (further count (32 ∷ noun))
further_written count noun = by (count == 0) refl where
  by : (b : Bool) → (count == 0) ≡ b
      → WritesFurther count noun (if b then [] else codes ", " ++ counted count (32 ∷ noun))
  by true e = subst (λ n. WritesFurther n noun []) (sym (eqb-true count 0 e)) omitted
  by false e = written (eqb-false count 0 e) (count_written count noun)

pub statistics_written : (stats : Stats) → WritesStatistics stats (stats_line stats)
statistics_written stats = record {
  translated = counted stats.translated (codes " translated message");
  fuzzy = further stats.fuzzy (codes " fuzzy translation");
  untranslated = further stats.untranslated (codes " untranslated message");
  first = count_written stats.translated (codes "translated message");
  second = further_written stats.fuzzy (codes "fuzzy translation");
  third = further_written stats.untranslated (codes "untranslated message");
  whole = refl;
}
