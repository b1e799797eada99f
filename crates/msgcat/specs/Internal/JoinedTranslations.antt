-- The translations that are joined, and those that were seen so far. Internal to this crate.
use Rattle.std.specs.Prelude.{ℕ, max, List, [], ◌∷◌, fold, length, map, slice_get, ◌≡◌, bytes_eq}
use Rattle.std.specs.List.{flat_map, range_with_len, list_any}
use Rattle.std.specs.Option.{option_map_or}
use Rattle.po_entry.specs.Prelude.{forms_left, translation_bytes}
use Rattle.msgcat.specs.declared.joined_translations.FormsLeft.{FormsLeft}
use Rattle.msgcat.specs.Inputs.{NamedEntry}
use Rattle.msgcat.specs.Merged.{marked}
use Rattle.std.specs.Ordering.{nat_cmp}
use Rattle.std.specs.Cmp.Lexicographic.{slice_cmp}
use Rattle.std.specs.Borrow.{Bor}
use Rattle.std.specs.BTreeSet.{BTreeSet, contains}

-- the name of an input, and forms
pub record FormList : Type 0 where
  pub name : List ℕ
  pub forms : List (List ℕ)

-- what is left of a translation
abbrev pub form_list : FormsLeft → FormList
form_list left = record { name = left.name.now; forms = forms_left left.forms }

abbrev pub form_lists : List FormsLeft → List FormList
form_lists all = map form_list all

-- all forms of a translation
abbrev pub named_forms : NamedEntry → FormList
named_forms translation = record { name = translation.name; forms = translation.entry.forms }

-- the forms of this index, joined, of the lists that have such a form
abbrev pub joined_at : ℕ → List FormList → List ℕ
joined_at i lists = flat_map (λ l. option_map_or (marked l.name) (slice_get l.forms i) []) lists

-- the largest count of forms
abbrev pub most_forms : List FormList → ℕ
most_forms lists = fold (λ count l. max count (length l.forms)) 0 lists

abbrev pub joined_lists : List FormList → List (List ℕ)
joined_lists lists = map (λ i. joined_at i lists) (range_with_len 0 (most_forms lists))

-- a list without its first form, where it has one
abbrev pub rest_of : List ℕ → List (List ℕ) → List FormList
rest_of name [] = []
rest_of name (form ∷ forms) = record { name = name; forms = forms } ∷ []

-- the lists that have a form, each without its first
abbrev pub rests : List FormList → List FormList
rests lists = flat_map (λ l. rest_of l.name l.forms) lists

-- the set has just the translations of these definitions
abbrev pub HasTranslations : BTreeSet (Bor (List ℕ)) → List NamedEntry → Type 0
HasTranslations seen found =
    (q : Bor (List ℕ))
    → contains (λ x y. slice_cmp nat_cmp x.now y.now) seen q
    ≡ list_any (λ d. bytes_eq q.now (translation_bytes d.entry)) found
