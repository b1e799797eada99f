-- What each option keeps, removes and changes.
use Rattle.msgattrib.proofs.Prelude.{All, All-filter, All-map, All-weaker, AllButHeader, Bool, ChangesNothing, ClearsFuzzy, ClearsObsolete, ClearsPrevious, Empties, FormsStay, IsCatalogueEntry, IsEntry, IsUnwanted, KeepsFuzzy, KeepsObsolete, KeepsTranslated, KeepsUntranslated, List, MarksStay, RemovesFuzzy, RemovesObsolete, RestStays, Selection, SetsFuzzy, SetsObsolete, TextEntry, [], and-false, and-true, ap, arith, changed, every_entry, false, filter, filter_passes, first_form, fuzzy_after, has_translation, if_given, if◌then◌else◌, inl, inr, is_emptied, is_header, is_kept, is_live_header, kept, length, length-map, map, meets, no_previous, not, obsolete_after, or-true, refl, selected, sym, true, ℕ, ◌&&◌, ◌==◌, ◌||◌, ◌∙◌, ◌∷◌, ◌≡◌, ◌≢◌, ◌⊎◌}
use Rattle.std.proofs.lemmas.Bool.{and_parts, false≢true, ne_eqb, not-false, not-true, or_parts}
use Rattle.po_syntax.specs.Facts.Filters.{all_pass}
use Rattle.po_entry.proofs.AdmittedTexts.{IsEntry-emptied, IsEntry-without_previous}

given : (option condition : Bool) → if_given option condition ≡ true → option ≡ true → condition ≡ true
given true condition h is = h
given false condition h is = cc

not_given : (option condition : Bool) → if_given option condition ≡ false → (option ≡ true) × (condition ≡ false)
not_given true condition h = (refl, h)
not_given false condition h = cc

one_fails : (a b : Bool) → (a && b) ≡ false → (a ≡ false) ⊎ (b ≡ false)
one_fails true b h = inr h
one_fails false b h = inl refl

has_some : (form : List ℕ) → not (length form == 0) ≡ true → form ≢ []
has_some form h is = false≢true (ap (λ (f : List ℕ). not (length f == 0)) (sym is) ∙ h)

has_none : (form : List ℕ) → not (length form == 0) ≡ false → form ≡ []
has_none [] h = refl
has_none (x ∷ form) h = absurd (false≢true (sym h ∙ ap not (ne_eqb (length (x ∷ form)) 0 (λ e. omega (arith, e)))))

-- the conditions that are given hold
record IsMet (s : Selection) (e : TextEntry) : Type 0 where
  translated : if_given s.translated (has_translation e) ≡ true
  untranslated : if_given s.untranslated (not (has_translation e)) ≡ true
  no_fuzzy : if_given s.no_fuzzy (not e.fuzzy) ≡ true
  only_fuzzy : if_given s.only_fuzzy e.fuzzy ≡ true
  no_obsolete : if_given s.no_obsolete (not e.obsolete) ≡ true
  only_obsolete : if_given s.only_obsolete (not (not e.obsolete)) ≡ true

met : (s : Selection) (e : TextEntry) → meets s e ≡ true → IsMet s e
met s e h =
    let a = and_parts _ (if_given s.only_obsolete (not (not e.obsolete))) h in
    let b = and_parts _ (if_given s.no_obsolete (not e.obsolete)) a.0 in
    let c = and_parts _ (if_given s.only_fuzzy e.fuzzy) b.0 in
    let d = and_parts _ (if_given s.no_fuzzy (not e.fuzzy)) c.0 in
    let f = and_parts (if_given s.translated (has_translation e))
    (if_given s.untranslated (not (has_translation e))) d.0 in
    record {
      translated = f.0;
      untranslated = f.1;
      no_fuzzy = d.1;
      only_fuzzy = c.1;
      no_obsolete = b.1;
      only_obsolete =
          a.1;
    }

-- what holds of each entry that meets the conditions
all_met : (s : Selection) (P : TextEntry → Type 0) → ((e : TextEntry) → IsMet s e → P e) → (entries : List TextEntry)
    → AllButHeader P (kept s entries)
all_met s P h entries =
    All-weaker (λ e. is_kept s e ≡ true) (λ e. is_live_header e ≡ false → P e)
    (λ e is_kept other. h e (met s e (sym (ap (λ (b : Bool). b || meets s e) other) ∙ is_kept))) (kept s entries)
    (filter_passes (is_kept s) entries)

pub keeps_translated : (s : Selection) (entries : List TextEntry) → KeepsTranslated s entries
keeps_translated s entries on =
    all_met s (λ e. first_form e.forms ≢ [])
    (λ e m. has_some (first_form e.forms) (given s.translated (has_translation e) m.translated on)) entries

pub keeps_untranslated : (s : Selection) (entries : List TextEntry) → KeepsUntranslated s entries
keeps_untranslated s entries on =
    all_met s (λ e. first_form e.forms ≡ [])
    (λ e m. has_none (first_form e.forms)
    (not-true (has_translation e) (given s.untranslated (not (has_translation e)) m.untranslated on))) entries

pub removes_fuzzy : (s : Selection) (entries : List TextEntry) → RemovesFuzzy s entries
removes_fuzzy s entries on =
    all_met s (λ e. e.fuzzy ≡ false) (λ e m. not-true e.fuzzy (given s.no_fuzzy (not e.fuzzy) m.no_fuzzy on)) entries

pub keeps_fuzzy : (s : Selection) (entries : List TextEntry) → KeepsFuzzy s entries
keeps_fuzzy s entries on = all_met s (λ e. e.fuzzy ≡ true) (λ e m. given s.only_fuzzy e.fuzzy m.only_fuzzy on) entries

pub removes_obsolete : (s : Selection) (entries : List TextEntry) → RemovesObsolete s entries
removes_obsolete s entries on =
    all_met s (λ e. e.obsolete ≡ false)
    (λ e m. not-true e.obsolete (given s.no_obsolete (not e.obsolete) m.no_obsolete on)) entries

pub keeps_obsolete : (s : Selection) (entries : List TextEntry) → KeepsObsolete s entries
keeps_obsolete s entries on =
    all_met s (λ e. e.obsolete ≡ true)
    (λ e m. not-false e.obsolete
    (not-true (not e.obsolete) (given s.only_obsolete (not (not e.obsolete)) m.only_obsolete on))) entries

-- an entry that isn't kept fails a condition
pub only_unwanted : (s : Selection) (e : TextEntry) → is_kept s e ≡ false → IsUnwanted s e
only_unwanted s e h = elim
    (one_fails _ (if_given s.only_obsolete (not (not e.obsolete))) (or_parts (is_live_header e) (meets s e) h).1) [
      | inr f ↦ let n = not_given s.only_obsolete (not (not e.obsolete)) f in
          inr (inr (inr (inr (inr (n.0, not-true e.obsolete (not-false (not e.obsolete) n.1))))))
      | inl a ↦ elim (one_fails _ (if_given s.no_obsolete (not e.obsolete)) a) [
        | inr f ↦ let n = not_given s.no_obsolete (not e.obsolete) f in
            inr (inr (inr (inr (inl (n.0, not-false e.obsolete n.1)))))
        | inl b ↦ elim (one_fails _ (if_given s.only_fuzzy e.fuzzy) b) [
          | inr f ↦ let n = not_given s.only_fuzzy e.fuzzy f in inr (inr (inr (inl n)))
          | inl c ↦ elim (one_fails _ (if_given s.no_fuzzy (not e.fuzzy)) c) [
            | inr f ↦ let n = not_given s.no_fuzzy (not e.fuzzy) f in inr (inr (inl (n.0, not-false e.fuzzy n.1)))
            | inl d ↦ elim (one_fails (if_given s.translated (has_translation e))
                (if_given s.untranslated (not (has_translation e))) d) [
                  | inr f ↦ let n = not_given s.untranslated (not (has_translation e)) f in
                      inr (inl (n.0, has_some (first_form e.forms) (not-false (has_translation e) n.1)))
                  | inl f ↦ let n = not_given s.translated (has_translation e) f in
                      inl (n.0, has_none (first_form e.forms) n.1)
                ]
          ]
        ]
      ]
    ]

pub sets_fuzzy : (s : Selection) (e : TextEntry) → SetsFuzzy s e
sets_fuzzy s e on = ap (λ (b : Bool). b || (e.fuzzy && not s.clear_fuzzy)) on

pub clears_fuzzy : (s : Selection) (e : TextEntry) → ClearsFuzzy s e
clears_fuzzy s e off on = rw (off, on) (and-false e.fuzzy)

pub sets_obsolete : (s : Selection) (e : TextEntry) → SetsObsolete s e
sets_obsolete s e on other = rw (on, other) refl

pub clears_obsolete : (s : Selection) (e : TextEntry) → ClearsObsolete s e
clears_obsolete s e off on = rw (off, on) (and-false e.obsolete)

pub clears_previous : (s : Selection) (e : TextEntry) → ClearsPrevious s e
clears_previous s e on = rw on refl

is_emptied_where : (empty fuzzy after header : Bool) → empty ≡ true → fuzzy ≡ true → after ≡ false → header ≡ false
    → (empty && fuzzy && not after && not header) ≡ true
is_emptied_where empty fuzzy after header a b c d = rw (a, b, c, d) refl

emptied_forms : (forms : List (List ℕ)) (b : Bool) → b ≡ true
    → All (λ (form : List ℕ). form ≡ []) (if b then map (λ _. []) forms else forms)
    × (length (if b then map (λ _. []) forms else forms) ≡ length forms)
emptied_forms forms true h =
    (All-map (λ (form : List ℕ). form ≡ []) (λ _. []) forms (λ k d below. refl), length-map forms (λ _. []))
emptied_forms forms false h = cc

pub empties : (s : Selection) (e : TextEntry) → Empties s e
empties s e on fuzzy cleared header =
    emptied_forms e.forms _ (is_emptied_where s.empty e.fuzzy (fuzzy_after s e) (is_header e) on fuzzy cleared header)

pub marks_stay : (s : Selection) (e : TextEntry) → MarksStay s e
marks_stay s e = record {
  fuzzy = λ set clear. rw (set, clear) (and-true e.fuzzy);
  obsolete = λ set clear. rw (set, clear) (and-true e.obsolete);
  previous = λ clear. rw clear refl;
}

pub rest_stays : (s : Selection) (e : TextEntry) → RestStays s e
rest_stays s e = record {
  comments = refl;
  extracted = refl;
  references = refl;
  flags = refl;
  context = refl;
  id = refl;
  plural = refl;
  line = refl;
}

not_emptied : (empty fuzzy after header : Bool) → (empty ≡ false) ⊎ (fuzzy ≡ false) ⊎ (after ≡ true)
    → (empty && fuzzy && not after && not header) ≡ false
not_emptied false fuzzy after header h = refl
not_emptied true false after header h = refl
not_emptied true true true header h = refl
not_emptied true true false header (inl h) = cc
not_emptied true true false header (inr (inl h)) = cc
not_emptied true true false header (inr (inr h)) = cc

pub forms_stay : (s : Selection) (e : TextEntry) → FormsStay s e
forms_stay s e h = ap (λ (b : Bool). if b then map (λ _. []) e.forms else e.forms)
    (not_emptied s.empty e.fuzzy (fuzzy_after s e) (is_header e) h)

-- What is selected: all where nothing is given, the same again by conditions alone, entries that
-- can stand in a catalogue, and a live header always.

-- a flag that isn't taken away empties nothing
not_emptied_again : (empty fuzzy header : Bool) → (empty && fuzzy && not (fuzzy && true) && header) ≡ false
not_emptied_again true true header = refl
not_emptied_again true false header = refl
not_emptied_again false fuzzy header = refl

unchanged : (s : Selection) (e : TextEntry) → ChangesNothing s → changed s e ≡ e
unchanged s e h =
    rw (
      h.set_fuzzy,
      h.clear_fuzzy,
      h.set_obsolete,
      h.clear_obsolete,
      h.clear_previous,
      not_emptied_again s.empty e.fuzzy (not (is_header e)),
      and-true e.fuzzy,
      and-true e.obsolete,
    )
    refl

all_unchanged : (s : Selection) (entries : List TextEntry) → ChangesNothing s → map (changed s) entries ≡ entries
all_unchanged s [] h = refl
all_unchanged s (e ∷ entries) h = rw (unchanged s e h, all_unchanged s entries h) refl

all_kept : (entries : List TextEntry) → filter (is_kept every_entry) entries ≡ entries
all_kept [] = refl
all_kept (e ∷ entries) = rw (or-true (is_live_header e), all_kept entries) refl

pub nothing_given : (entries : List TextEntry) → selected every_entry entries ≡ entries
nothing_given entries =
    let none : ChangesNothing every_entry =
    record {
      set_fuzzy = refl;
      clear_fuzzy = refl;
      set_obsolete = refl;
      clear_obsolete = refl;
      clear_previous =
          refl;
    } in
    rw (all_kept entries) (all_unchanged every_entry entries none)

pub selected_once : (s : Selection) (entries : List TextEntry) → ChangesNothing s
    → selected s (selected s entries) ≡ selected s entries
selected_once s entries h =
    rw (all_unchanged s (filter (is_kept s) entries) h)
    (rw (all_pass (is_kept s) (filter (is_kept s) entries) (filter_passes (is_kept s) entries))
    (all_unchanged s (filter (is_kept s) entries) h))

pub kept_as_they_are : (s : Selection) (entries : List TextEntry) → ChangesNothing s
    → selected s entries ≡ filter (is_kept s) entries
kept_as_they_are s entries h = all_unchanged s (filter (is_kept s) entries) h

IsEntry-marked : (e : TextEntry) (fuzzy obsolete : Bool) → IsEntry e
    → IsEntry (record e { fuzzy = fuzzy; obsolete = obsolete })
IsEntry-marked e fuzzy obsolete h = record {
  quoted_texts = h.quoted_texts;
  comments = h.comments;
  extracted = h.extracted;
  references = h.references;
  flags = h.flags;
  distinct_flags = h.distinct_flags;
  context = h.context;
  id = h.id;
  some_form = h.some_form;
  one_form = h.one_form;
}

IsEntry-emptied_if : (e : TextEntry) (b : Bool) → IsEntry e
    → IsEntry (record e { forms = if b then map (λ _. []) e.forms else e.forms })
IsEntry-emptied_if e true h = IsEntry-emptied e h
IsEntry-emptied_if e false h = h

IsEntry-cleared_if : (e : TextEntry) (b : Bool) → IsEntry e
    → IsEntry (record e { previous = if b then no_previous else e.previous })
IsEntry-cleared_if e true h = IsEntry-without_previous e h
IsEntry-cleared_if e false h = h

header_kept : (emptied header : Bool) → header ≡ true → (emptied && not header) ≡ false
header_kept emptied header is = rw is (and-false emptied)

pub changed_can_stand : (s : Selection) (e : TextEntry) → IsCatalogueEntry e → IsCatalogueEntry (changed s e)
changed_can_stand s e h =
    let emptied : TextEntry = record e { forms = if is_emptied s e then map (λ _. []) e.forms else e.forms } in
    let cleared : TextEntry = record emptied { previous = if s.clear_previous then no_previous else e.previous } in
    record {
      valid = IsEntry-marked cleared (fuzzy_after s e) (obsolete_after s e)
          (IsEntry-cleared_if emptied s.clear_previous (IsEntry-emptied_if e (is_emptied s e) h.valid));
      charset = λ header. rw (header_kept (s.empty && e.fuzzy && not (fuzzy_after s e)) (is_header e) header)
          (h.charset header);
    }

pub selected_can_stand : (s : Selection) (entries : List TextEntry) → All IsCatalogueEntry entries
    → All IsCatalogueEntry (selected s entries)
selected_can_stand s entries h =
    let kept = filter (is_kept s) entries in
    All-map IsCatalogueEntry (changed s) kept
    (All-weaker IsCatalogueEntry (λ e. IsCatalogueEntry (changed s e)) (changed_can_stand s) kept
    (All-filter (is_kept s) IsCatalogueEntry entries h))

header_of_live : (header obsolete : Bool) → (header && not obsolete) ≡ true → header ≡ true
header_of_live true obsolete live = refl
header_of_live false obsolete live = cc

-- a live header is as live under `--set-obsolete`, and without it
live_after : (header obsolete set clear : Bool) → (header && not obsolete) ≡ true
    → (header && not (if set then not (header && not obsolete) else obsolete && not clear)) ≡ true
live_after true false true clear live = refl
live_after true false false clear live = refl
live_after true true set clear live = cc
live_after false obsolete set clear live = cc

pub live_header_kept : (s : Selection) (e : TextEntry) → is_live_header e ≡ true → is_kept s e ≡ true
live_header_kept s e live = rw live refl

pub live_header_live : (s : Selection) (e : TextEntry) → is_live_header e ≡ true → is_live_header (changed s e) ≡ true
live_header_live s e live = live_after (is_header e) e.obsolete s.set_obsolete s.clear_obsolete live

pub live_header_forms : (s : Selection) (e : TextEntry) → is_live_header e ≡ true → (changed s e).forms ≡ e.forms
live_header_forms s e live =
    rw (header_kept (s.empty && e.fuzzy && not (fuzzy_after s e)) (is_header e)
    (header_of_live (is_header e) e.obsolete live)) refl
