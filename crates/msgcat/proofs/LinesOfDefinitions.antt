-- The lines of definitions, which change nothing but the line of what they are merged to.
use Rattle.msgcat.proofs.Prelude.{AllZip, Bool, CommentKind, Extracted, Flags, IsSameButLine, LinesAreNotMerged, List, MergeOptions, NamedEntry, None, Option, Reference, Some, TextEntry, Translator, [], ap, ap₂, comment_of, filter, filter_map, find, find_map, first_of, first_ones, first_translated, first_with, flat_map-map, fold, fold-map, has_plural, has_previous, has_translation, if◌then◌else◌, is_joined, joined_form, joined_forms, length, length-map, map, marked, max, merged_entry, named, nat_lt, not, option_map_or, range_with_len, refl, same_forms, sym, texts_of, translations, with_line, with_others, ℕ, ◌&&◌, ◌||◌, ◌∙◌, ◌∷◌, ◌≡◌}
use Rattle.std.specs.Prelude.{option_map, slice_get}
use Rattle.msgcat.proofs.SeenTexts.{first_ones-map}

abbrev unlined : NamedEntry → NamedEntry
unlined d = named d.name (with_line 0 d.entry)

same_unlined : (ds es : List NamedEntry) → AllZip IsSameButLine ds es → map unlined ds ≡ map unlined es
same_unlined [] [] h = refl
same_unlined [] (e ∷ es) h = absurd h
same_unlined (d ∷ ds) [] h = absurd h
same_unlined (d ∷ ds) (e ∷ es) h =
    ap₂ (λ (x : NamedEntry) (xs : List NamedEntry). x ∷ xs) (ap₂ named h.0.name h.0.entry) (same_unlined ds es h.1)

first_unlined : (ds : List NamedEntry) → first_of (map unlined ds) ≡ with_line 0 (first_of ds)
first_unlined [] = refl
first_unlined (d ∷ ds) = refl

module _ (has : TextEntry → Bool) (same : (e : TextEntry) → has (with_line 0 e) ≡ has e) where
  with_unlined : (ds : List NamedEntry) → first_with has (map unlined ds) ≡ with_line 0 (first_with has ds)
  with_unlined ds = ap₂ (λ (o : Option NamedEntry) (e : TextEntry). option_map_or (λ (d : NamedEntry). d.entry) o e)
      (find_map (λ (d : NamedEntry). has d.entry) unlined ds
      ∙ (λ i. option_map unlined (find (λ d. same d.entry i) ds))) (first_unlined ds)
      ∙ found (find (λ d. has d.entry) ds) where
        found : (o : Option NamedEntry)
            → option_map_or (λ (d : NamedEntry). d.entry) (option_map unlined o) (with_line 0 (first_of ds))
            ≡ with_line 0 (option_map_or (λ (d : NamedEntry). d.entry) o (first_of ds))
        found None = refl
        found (Some d) = refl

translated_unlined : (ds : List NamedEntry) → first_translated (map unlined ds) ≡ with_line 0 (first_translated ds)
translated_unlined ds = with_unlined has_translation (λ e. refl) ds

texts_unlined : (kind : CommentKind) (e : TextEntry) → texts_of kind (with_line 0 e) ≡ texts_of kind e
texts_unlined Translator e = refl
texts_unlined kind e = refl

collected_unlined : (kind : CommentKind) (done : List (List ℕ)) (ds : List NamedEntry)
    → fold (λ done d. with_others done (texts_of kind d.entry)) done (map unlined ds)
    ≡ fold (λ done d. with_others done (texts_of kind d.entry)) done ds
collected_unlined kind done ds = fold-map (λ done d. with_others done (texts_of kind d.entry)) unlined done ds
    ∙ (λ i. fold (λ done d. with_others done (texts_unlined kind d.entry i)) done ds)

comment_unlined : (o : MergeOptions) (kind : CommentKind) (ds : List NamedEntry)
    → comment_of o kind (map unlined ds) ≡ comment_of o kind ds
comment_unlined o kind ds =
    ap₂ (λ (a b : List (List ℕ)). if o.use_first then a else b)
    (ap (texts_of kind) (translated_unlined ds) ∙ texts_unlined kind (first_translated ds))
    (collected_unlined kind [] ds)

translations_unlined : (ds : List NamedEntry) → translations (map unlined ds) ≡ map unlined (translations ds)
translations_unlined ds =
    ap (first_ones same_forms) (filter_map (λ (d : NamedEntry). has_translation d.entry) unlined ds)
    ∙ first_ones-map unlined same_forms (filter (λ d. has_translation d.entry) ds)

joined_unlined : (o : MergeOptions) (ds : List NamedEntry) → is_joined o (map unlined ds) ≡ is_joined o ds
joined_unlined o ds = ap (λ n. not o.use_first && nat_lt 1 n)
    (ap length (translations_unlined ds) ∙ length-map (translations ds) unlined)

form_unlined : (i : ℕ) (ts : List NamedEntry) → joined_form (map unlined ts) i ≡ joined_form ts i
form_unlined i ts = flat_map-map
    (λ (t : NamedEntry). option_map_or (marked t.name) (slice_get t.entry.forms i) []) unlined ts

count_unlined : (n : ℕ) (ts : List NamedEntry)
    → fold (λ count t. max count (length t.entry.forms)) n (map unlined ts)
    ≡ fold (λ count t. max count (length t.entry.forms)) n ts
count_unlined n ts = fold-map (λ count (t : NamedEntry). max count (length t.entry.forms)) unlined n ts

forms_unlined : (ts : List NamedEntry) → joined_forms (map unlined ts) ≡ joined_forms ts
forms_unlined ts = λ i. map (λ index. form_unlined index ts i) (range_with_len 0 (count_unlined 0 ts i))

merged_unlined : (o : MergeOptions) (ds : List NamedEntry)
    → with_line 0 (merged_entry o (map unlined ds)) ≡ with_line 0 (merged_entry o ds)
merged_unlined o ds =
    let first = first_unlined ds in
    let translated = translated_unlined ds in
    let joined = joined_unlined o ds in
    let previous = with_unlined has_previous (λ e. refl) ds in
    let plural = with_unlined has_plural (λ e. refl) ds in
    let forms : joined_forms (translations (map unlined ds)) ≡ joined_forms (translations ds) =
    ap joined_forms (translations_unlined ds) ∙ forms_unlined (translations ds) in
    λ i. record {
      comments = comment_unlined o Translator ds i;
      extracted = comment_unlined o Extracted ds i;
      references = comment_unlined o Reference ds i;
      fuzzy = joined i || (translated i).fuzzy;
      flags = comment_unlined o Flags ds i;
      previous = (previous i).previous;
      context = (first i).context;
      id = (first i).id;
      plural = (plural i).plural;
      forms = if joined i then forms i else (translated i).forms;
      obsolete = (first i).obsolete;
      line = 0;
    }

pub lines_not_merged : (o : MergeOptions) (ds es : List NamedEntry) → LinesAreNotMerged o ds es
lines_not_merged o ds es h =
    sym (merged_unlined o ds) ∙ ap (λ l. with_line 0 (merged_entry o l)) (same_unlined ds es h) ∙ merged_unlined o es
