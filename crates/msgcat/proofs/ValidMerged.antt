-- What valid definitions are merged to is valid.
use Rattle.msgcat.proofs.Prelude.{All, All-append, All-cons, All-contains, All-contains_itself, All-filter, All-head, All-map, All-nil, All-tail, AreDistinct, Bool, CommentKind, Contains, Contains-append_cases, Contains-append_right, Contains-get_or, Extracted, Flags, IsComment, IsDefinition, IsEntry, IsFlag, IsReference, IsText, IsTranslatorComment, List, MergeOptions, NamedEntry, None, Reference, TextEntry, Translator, [], any_map, ap, append-nil, ap₂, arith, bytes_eq, bytes_eq-Decides, codes, collected, comment_of, cond, cond_ap, cond_both, definitions, ended, ends_with, false, false≢true, filter, filter-append, filter_map, filter_passes, find, first_of, first_ones, first_translated, first_with, fold, fold_push, form_count, get_or, has_plural, has_previous, has_translation, if◌then◌else◌, inl, inr, is_joined, is_live, joined_form, joined_forms, length, length-map-range_with_len, list_any, list_any_at, map-append, marked, max, merged_entry, named_entries, named_entry, nat_eq, nat_tests, not, not-true, option_map_or, option_to_list, previous_texts, quoted_parts, range_with_len, refl, rules, same_forms, slice_get, subst, suc, sym, take, take_more, texts_of, translations, true, with_new, with_others, zero, ℕ, ◌++◌, ◌+◌, ◌<◌, ◌∙◌, ◌∷◌, ◌≡◌}
use Rattle.msgcat.specs.declared.definition.NamedEntry.{NamedEntry as BorrowedEntry}
use Rattle.po_writer.proofs.Utf8Lines.{plain_line, text-append, text-empty, text-feed}
use Rattle.msgcat.proofs.SeenTexts.{all_first_ones}

pub any_named : (p : TextEntry → Bool) (ds : List BorrowedEntry)
    → list_any (λ d. p d.entry) ds ≡ list_any (λ d. p d.entry) (named_entries ds)
any_named p ds = sym (any_map (λ (d : NamedEntry). p d.entry) named_entry ds)

-- what defines a message, by whether a member is live
pub named_left : (group new : List BorrowedEntry) (some : Bool) → some ≡ list_any (λ d. is_live d.entry) group
    → new ≡ (if some then filter (λ d. is_live d.entry) group else group)
    → named_entries new ≡ definitions (named_entries group)
named_left group new some any are =
    let live : BorrowedEntry → Bool = λ d. is_live d.entry in
    ap named_entries are ∙ sym (cond_ap named_entries some (filter live group) group)
    ∙ ap₂ (λ (b : Bool) (l : List NamedEntry). cond b l (named_entries group)) (any ∙ any_named is_live group)
    (sym (filter_map (λ (d : NamedEntry). is_live d.entry) named_entry group))

pub named_more : (ds : List BorrowedEntry) (i : ℕ) (d : BorrowedEntry) → i < length ds → d ≡ get_or ds i d
    → named_entries (take (i + 1) ds) ≡ named_entries (take i ds) ++ named_entry d ∷ []
named_more ds i d below at =
    ap named_entries (take_more ds i d below ∙ ap (λ (x : BorrowedEntry). take i ds ++ x ∷ []) (sym at))
    ∙ map-append named_entry (take i ds) (d ∷ [])

pub translations_more : (ds : List BorrowedEntry) (i : ℕ) (d : BorrowedEntry) (b c : Bool) → i < length ds
    → d ≡ get_or ds i d → has_translation d.entry ≡ b
    → list_any (same_forms (named_entry d)) (translations (named_entries (take i ds))) ≡ c
    → translations (named_entries (take (i + 1) ds))
    ≡ cond b (cond c (translations (named_entries (take i ds)))
    (translations (named_entries (take i ds)) ++ named_entry d ∷ [])) (translations (named_entries (take i ds)))
translations_more ds i d b c below at translated met =
    ap translations (named_more ds i d below at)
    ∙ ap (first_ones same_forms)
    (filter-append (λ (x : NamedEntry). has_translation x.entry) (named_entries (take i ds))
    (named_entry d ∷ [])) ∙ found b translated where
      found : (t : Bool) → has_translation d.entry ≡ t
          → first_ones same_forms (filter (λ x. has_translation x.entry) (named_entries (take i ds))
          ++ filter (λ x. has_translation x.entry) (named_entry d ∷ []))
          ≡ cond t (cond c (translations (named_entries (take i ds)))
          (translations (named_entries (take i ds)) ++ named_entry d ∷ []))
          (translations (named_entries (take i ds)))
      found true e =
          ap (λ (t : Bool). first_ones same_forms
          (filter (λ x. has_translation x.entry) (named_entries (take i ds)) ++ cond t (named_entry d ∷ []) [])) e
          ∙ fold_push (with_new same_forms) [] (filter (λ x. has_translation x.entry) (named_entries (take i ds)))
          (named_entry d)
          ∙ ap (λ (t : Bool). if t then translations (named_entries (take i ds))
          else translations (named_entries (take i ds)) ++ named_entry d ∷ []) met
      found false e =
          ap (λ (t : Bool). first_ones same_forms
          (filter (λ x. has_translation x.entry) (named_entries (take i ds)) ++ cond t (named_entry d ∷ []) [])) e
          ∙ ap (first_ones same_forms) (append-nil (filter (λ x. has_translation x.entry) (named_entries (take i ds))))

-- What valid definitions are merged to is valid.

-- the first definition that has something

found_keeps : (Q : TextEntry → Type 0) (p : NamedEntry → Bool) (ds : List NamedEntry) (e : TextEntry)
    → All (λ d. Q d.entry) ds → Q e → Q (option_map_or (λ (d : NamedEntry). d.entry) (find p ds) e)
found_keeps Q p [] e h g = g
found_keeps Q p (d ∷ ds) e h g =
    grind (arith, All-head (λ x. Q x.entry) d ds h, found_keeps Q p ds e (All-tail (λ x. Q x.entry) d ds h) g)

pub first_keeps : (Q : TextEntry → Type 0) (ds : List NamedEntry) → 0 < length ds → All (λ d. Q d.entry) ds
    → Q (first_of ds)
first_keeps Q [] some h = absurd (omega (arith, some))
first_keeps Q (d ∷ ds) some h = h 0 d some

pub first_with_keeps : (Q : TextEntry → Type 0) (has : TextEntry → Bool) (ds : List NamedEntry) → 0 < length ds
    → All (λ d. Q d.entry) ds → Q (first_with has ds)
first_with_keeps Q has ds some h = found_keeps Q (λ d. has d.entry) ds (first_of ds) h (first_keeps Q ds some h)

no_plural : (ds : List NamedEntry) (e : TextEntry)
    → (option_map_or (λ (d : NamedEntry). d.entry) (find (λ d. has_plural d.entry) ds) e).plural ≡ None
    → All (λ d. d.entry.plural ≡ None) ds
no_plural [] e none = All-nil (λ d. d.entry.plural ≡ None)
no_plural (d ∷ ds) e none =
    All-cons (λ x. x.entry.plural ≡ None) d ds (grind arith) (no_plural ds e (grind arith))

-- collected texts, of which holds what holds of none and of more of them
module _ (P : List (List ℕ) → Type 0) (none : P [])
    (more : (done ts : List (List ℕ)) → P done → P ts → P (with_others done ts)) where
  collected_keeps : (of : TextEntry → List (List ℕ)) (done : List (List ℕ)) (ds : List NamedEntry) → P done
      → All (λ d. P (of d.entry)) ds → P (fold (λ l d. with_others l (of d.entry)) done ds)
  collected_keeps of done [] h g = h
  collected_keeps of done (d ∷ ds) h g =
      collected_keeps of (with_others done (of d.entry)) ds
      (more done (of d.entry) h (All-head (λ x. P (of x.entry)) d ds g)) (All-tail (λ x. P (of x.entry)) d ds g)

  comment_keeps : (o : MergeOptions) (kind : CommentKind) (ds : List NamedEntry) → 0 < length ds
      → All (λ d. P (texts_of kind d.entry)) ds → P (comment_of o kind ds)
  comment_keeps o kind ds some h =
      cond_both o.use_first (texts_of kind (first_translated ds)) (collected (texts_of kind) ds) P
      (λ _. first_with_keeps (λ e. P (texts_of kind e)) has_translation ds some h)
      (λ _. collected_keeps (texts_of kind) [] ds none h)

-- what is left of distinct texts is distinct
distinct_filter : (p : List ℕ → Bool) (xs : List (List ℕ)) → AreDistinct xs → AreDistinct (filter p xs)
distinct_filter p [] h = tt
distinct_filter p (x ∷ xs) h =
    let more = distinct_filter p xs h.1 in
    let among = All-filter p (Contains xs) xs (All-contains_itself xs) in
    cond_both (p x) (x ∷ filter p xs) (filter p xs) AreDistinct
    (λ _. (λ later. h.0 (All-contains (Contains xs) (filter p xs) x among later), more)) (λ _. more)

distinct_append : (xs ys : List (List ℕ)) → AreDistinct xs → AreDistinct ys
    → ((t : List ℕ) → Contains xs t → Contains ys t → ⊥) → AreDistinct (xs ++ ys)
distinct_append [] ys h g apart = g
distinct_append (x ∷ xs) ys h g apart = (
  λ among. elim (Contains-append_cases xs ys x among)
      [ inl a ↦ h.0 a | inr b ↦ apart x (Contains-get_or (x ∷ xs) 0 x (omega arith)) b ],
  distinct_append xs ys h.1 g (λ t a b. apart t (Contains-append_right (x ∷ []) xs t a) b),
)

others_distinct : (done ts : List (List ℕ)) → AreDistinct done → AreDistinct ts → AreDistinct (with_others done ts)
others_distinct done ts h g =
    let p : List ℕ → Bool = λ t. not (list_any (bytes_eq t) done) in
    distinct_append done (filter p ts) h (distinct_filter p ts g)
    (λ t a b. false≢true (sym (not-true (list_any (bytes_eq t) done)
    (All-contains (λ x. p x ≡ true) (filter p ts) t (filter_passes p ts) b))
    ∙ list_any_at (bytes_eq t) done a.0 t a.1 ((bytes_eq-Decides t _).1 (sym a.2))))

-- joined forms

marked_text : (name form : List ℕ) → IsText name → IsText form → IsText (marked name form)
marked_text name form h g =
    text-append ((codes "#-#-#-#-#  " ++ name) ++ codes "  #-#-#-#-#\n") (ended form)
    (text-append (codes "#-#-#-#-#  " ++ name) (codes "  #-#-#-#-#\n")
    (text-append (codes "#-#-#-#-#  ") name (plain_line (codes "#-#-#-#-#  ") refl).valid h)
    (text-append (codes "  #-#-#-#-#") (10 ∷ []) (plain_line (codes "  #-#-#-#-#") refl).valid text-feed))
    (cond_both (ends_with nat_eq form (10 ∷ [])) form (form ++ 10 ∷ []) IsText (λ _. g)
    (λ _. text-append form (10 ∷ []) g text-feed))

piece_text : (name : List ℕ) (forms : List (List ℕ)) (i : ℕ) → IsText name → All IsText forms
    → IsText (option_map_or (marked name) (slice_get forms i) [])
piece_text name [] i h g = text-empty
piece_text name (f ∷ forms) zero h g = marked_text name f h (All-head IsText f forms g)
piece_text name (f ∷ forms) (suc i) h g = piece_text name forms i h (All-tail IsText f forms g)

joined_text : (ts : List NamedEntry) (i : ℕ) → All IsDefinition ts → IsText (joined_form ts i)
joined_text [] i h = text-empty
joined_text (t ∷ ts) i h =
    let d = All-head IsDefinition t ts h in
    text-append (option_map_or (marked t.name) (slice_get t.entry.forms i) []) (joined_form ts i)
    (piece_text t.name t.entry.forms i (record { utf8 = d.utf8; no_nul = d.no_nul })
    (quoted_parts IsText t.entry d.valid.quoted_texts).forms) (joined_text ts i (All-tail IsDefinition t ts h))

pub translations_all : (P : NamedEntry → Type 0) (ds : List NamedEntry) → All P ds → All P (translations ds)
translations_all P ds h =
    all_first_ones same_forms P (filter (λ d. has_translation d.entry) ds)
    (All-filter (λ d. has_translation d.entry) P ds h)

-- what holds of each count of forms holds of the largest
largest_keeps : (P : ℕ → Type 0) (n : ℕ) (ts : List NamedEntry) → P n → All (λ t. P (length t.entry.forms)) ts
    → P (fold (λ count t. max count (length t.entry.forms)) n ts)
largest_keeps P n [] h g = h
largest_keeps P n (t ∷ ts) h g =
    let here = All-head (λ x. P (length x.entry.forms)) t ts g in
    largest_keeps P (max n (length t.entry.forms)) ts (grind arith)
    (All-tail (λ x. P (length x.entry.forms)) t ts g)

pub count_keeps : (P : ℕ → Type 0) (ts : List NamedEntry) → 0 < length ts → All (λ t. P (length t.entry.forms)) ts
    → P (form_count ts)
count_keeps P [] some g = absurd (omega (arith, some))
count_keeps P (t ∷ ts) some g =
    let first : length t.entry.forms ≡ max 0 (length t.entry.forms) = omega arith in
    largest_keeps P (max 0 (length t.entry.forms)) ts
    (subst P first (All-head (λ x. P (length x.entry.forms)) t ts g)) (All-tail (λ x. P (length x.entry.forms)) t ts g)

-- where translations are joined there is more than one
pub several : (o : MergeOptions) (ds : List NamedEntry) → is_joined o ds ≡ true → 1 < length (translations ds)
several o ds joined = grind (arith, nat_tests)

pub forms_joined : (o : MergeOptions) (ds : List NamedEntry) → is_joined o ds ≡ true
    → (merged_entry o ds).forms ≡ joined_forms (translations ds)
forms_joined o ds joined = rw joined refl

pub count_joined : (ts : List NamedEntry) → length (joined_forms ts) ≡ form_count ts
count_joined ts = length-map-range_with_len (joined_form ts) 0 (form_count ts)

-- the merged entry
module _ (o : MergeOptions) (ds : List NamedEntry) (some : 0 < length ds) (h : All IsDefinition ds) where
  entries : All (λ d. IsEntry d.entry) ds
  entries = λ k d below. (h k d below).valid

  own : IsEntry (first_of ds)
  own = first_keeps IsEntry ds some entries

  texts : (P : List ℕ → Type 0) (kind : CommentKind) → ((e : TextEntry) → IsEntry e → All P (texts_of kind e))
      → All P (comment_of o kind ds)
  texts P kind f =
      let more = λ (done ts : List (List ℕ)) (before : All P done) (new : All P ts).
      All-append P done (filter (λ t. not (list_any (bytes_eq t) done)) ts) before
      (All-filter (λ t. not (list_any (bytes_eq t) done)) P ts new) in
      comment_keeps (All P) (All-nil P) more o kind ds some
      (λ k d below. f (get_or ds k d).entry (entries k d below))

  -- a fact of the forms, where it holds of joined ones and of those of each definition
  forms_keep : (Q : List (List ℕ) → Type 0) → (0 < length (translations ds) → Q (joined_forms (translations ds)))
      → All (λ d. Q d.entry.forms) ds → Q (merged_entry o ds).forms
  forms_keep Q joined each =
      cond_both (is_joined o ds) (joined_forms (translations ds)) (first_translated ds).forms Q
      (λ is. joined (omega (arith, several o ds is)))
      (λ _. first_with_keeps (λ e. Q e.forms) has_translation ds some each)

  counted : (P : ℕ → Type 0) → All (λ d. P (length d.entry.forms)) ds → P (length (merged_entry o ds).forms)
  counted P each = forms_keep (λ fs. P (length fs)) (λ several. subst P (sym (count_joined (translations ds)))
      (count_keeps P (translations ds) several (translations_all (λ t. P (length t.entry.forms)) ds each))) each

  quoted : All IsText (previous_texts (first_with has_previous ds).previous ++ option_to_list (first_of ds).context
      ++ (first_of ds).id ∷ [] ++ option_to_list (first_with has_plural ds).plural ++ (merged_entry o ds).forms)
  quoted =
      let parts = λ (has : TextEntry → Bool). quoted_parts IsText (first_with has ds)
      (first_with_keeps IsEntry has ds some entries).quoted_texts in
      let previous = (parts has_previous).previous in
      let plural = (parts has_plural).plural in
      let first = quoted_parts IsText (first_of ds) own.quoted_texts in
      let forms = forms_keep (All IsText) (λ several. All-map IsText (joined_form (translations ds))
      (range_with_len 0 (form_count (translations ds)))
      (λ k d below. joined_text (translations ds) _ (translations_all IsDefinition ds h)))
      (λ k d below. (quoted_parts IsText (get_or ds k d).entry (entries k d below).quoted_texts).forms) in
      search (rules, All-append {X = List ℕ})

  pub merged_is_entry : IsEntry (merged_entry o ds)
  merged_is_entry = record {
    quoted_texts = quoted;
    comments = texts IsTranslatorComment Translator (λ e v. v.comments);
    extracted = texts IsComment Extracted (λ e v. v.extracted);
    references = texts IsReference Reference (λ e v. v.references);
    flags = texts IsFlag Flags (λ e v. v.flags);
    distinct_flags = comment_keeps AreDistinct tt others_distinct o Flags ds some
        (λ k d below. (entries k d below).distinct_flags);
    context = own.context;
    id = own.id;
    some_form = counted (λ n. 0 < n) (λ k d below. (entries k d below).some_form);
    one_form = λ none. counted (λ n. n ≡ 1)
        (λ k d below. (entries k d below).one_form (no_plural ds (first_of ds) none k d below));
  }
