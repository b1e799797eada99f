-- A message with one definition, and the first definition that has a part.
use Rattle.msgcat.proofs.Prelude.{All, All-cons, All-contains, All-head, All-nil, All-tail, Bool, CommentKind, Contains, Extracted, Flags, List, MergeOptions, NamedEntry, None, Option, Reference, Some, TextEntry, Translator, [], all_pass, ap, append-nil, ap₂, arith, bytes_eq, bytes_eq-Decides, collected, comment_of, cond_both, false, false_from_ne_true, find, find_map, first_of, first_translated, first_with, fold, get_or, has_plural, has_previous, has_translation, if◌then◌else◌, is_joined, joined_forms, length, list_any, list_any_at, merged_entry, named_entries, named_entry, none_pass, not, option_map, option_map_or, refl, sym, texts_of, translations, with_others, ℕ, ◌++◌, ◌<◌, ◌||◌, ◌∙◌, ◌∷◌, ◌≡◌}
use Rattle.msgcat.specs.declared.definition.NamedEntry.{NamedEntry as BorrowedEntry}
use Rattle.msgcat.proofs.EntryLaws.{joined_where_they_differ}
use Rattle.msgcat.proofs.ValidMerged.{first_keeps, first_with_keeps}
use Rattle.std.specs.Borrow.{Bor}
use Rattle.std.specs.Option.{unwrap_or}

-- definitions of one entry
abbrev AreOf : TextEntry → List NamedEntry → Type 0
AreOf e ds = All (λ d. d.entry ≡ e) ds

nothing_new : (ts : List (List ℕ)) → with_others ts ts ≡ ts
nothing_new ts =
    ap (λ (l : List (List ℕ)). ts ++ l)
    (none_pass (λ t. not (list_any (bytes_eq t) ts)) ts
    (λ k d below. ap (λ (b : Bool). not b)
    (list_any_at (bytes_eq (get_or ts k d)) ts k d below
    ((bytes_eq-Decides (get_or ts k d) (get_or ts k d)).1 refl))))
    ∙ append-nil ts

module _ (e : TextEntry) where
  none_collected : (kind : CommentKind) (ds : List NamedEntry) → AreOf e ds
      → fold (λ l d. with_others l (texts_of kind d.entry)) (texts_of kind e) ds ≡ texts_of kind e
  none_collected kind [] h = refl
  none_collected kind (d ∷ ds) h =
      ap (λ x. fold (λ l y. with_others l (texts_of kind y.entry)) (with_others (texts_of kind e) (texts_of kind x)) ds)
      (All-head (λ x. x.entry ≡ e) d ds h)
      ∙ ap (λ l. fold (λ l y. with_others l (texts_of kind y.entry)) l ds) (nothing_new (texts_of kind e))
      ∙ none_collected kind ds (All-tail (λ x. x.entry ≡ e) d ds h)

  collected_once : (kind : CommentKind) (ds : List NamedEntry) → 0 < length ds → AreOf e ds
      → collected (texts_of kind) ds ≡ texts_of kind e
  collected_once kind [] some h = absurd (omega (arith, some))
  collected_once kind (d ∷ ds) some h =
      ap (λ l. fold (λ l y. with_others l (texts_of kind y.entry)) l ds)
      (all_pass (λ t. not (list_any (bytes_eq t) [])) (texts_of kind d.entry) (λ k x below. refl)
      ∙ ap (texts_of kind) (All-head (λ x. x.entry ≡ e) d ds h))
      ∙ none_collected kind ds (All-tail (λ x. x.entry ≡ e) d ds h)

  module _ (o : MergeOptions) (ds : List NamedEntry) (some : 0 < length ds) (h : AreOf e ds) where
    first : (has : TextEntry → Bool) → first_with has ds ≡ e
    first has = first_with_keeps (λ x. x ≡ e) has ds some h

    comment : (kind : CommentKind) → comment_of o kind ds ≡ texts_of kind e
    comment kind =
        cond_both o.use_first (texts_of kind (first_translated ds)) (collected (texts_of kind) ds)
        (λ l. l ≡ texts_of kind e) (λ _. ap (texts_of kind) (first has_translation))
        (λ _. collected_once kind ds some h)

    not_joined : is_joined o ds ≡ false
    not_joined = false_from_ne_true (is_joined o ds) (λ joined.
        let two = ((joined_where_they_differ o ds).0 joined).1 in
        let are = λ (d : NamedEntry) (among : Contains ds d). All-contains (λ x. x.entry ≡ e) ds d h among in
        two.differ (ap (λ (x : TextEntry). x.forms) (are two.one two.among_one ∙ sym (are two.other two.among_other))))

    -- definitions of one entry are merged to it
    pub merged_to_it : merged_entry o ds ≡ e
    merged_to_it =
        let translated = first has_translation in
        let fuzzy = ap₂ (λ (a b : Bool). a || b) not_joined (ap (λ (x : TextEntry). x.fuzzy) translated) in
        let forms = ap₂ (λ (b : Bool) (fs : List (List ℕ)). if b then joined_forms (translations ds) else fs) not_joined
        (ap (λ (x : TextEntry). x.forms) translated) in
        let own = first_keeps (λ x. x ≡ e) ds some h in
        λ i. record {
          comments = comment Translator i;
          extracted = comment Extracted i;
          references = comment Reference i;
          fuzzy = fuzzy i;
          flags = comment Flags i;
          previous = (first has_previous i).previous;
          context = (own i).context;
          id = (own i).id;
          plural = (first has_plural i).plural;
          forms = forms i;
          obsolete = (own i).obsolete;
          line = (own i).line;
        }

pub one_definition : (o : MergeOptions) (d : NamedEntry) → merged_entry o (d ∷ []) ≡ d.entry
one_definition o d = merged_to_it d.entry o (d ∷ []) (omega arith)
    (All-cons (λ x. x.entry ≡ d.entry) d [] refl (All-nil (λ x. x.entry ≡ d.entry)))

pub one_of : (o : MergeOptions) (ds : List BorrowedEntry) (d : BorrowedEntry) → length ds ≡ 1 → d ≡ get_or ds 0 d
    → d.entry ≡ merged_entry o (named_entries ds)
one_of o [] d one at = absurd (omega (arith, one))
one_of o (x ∷ []) d one at = ap (λ (y : BorrowedEntry). y.entry) at ∙ sym (one_definition o (named_entry x))
one_of o (x ∷ y ∷ ds) d one at = absurd (omega (arith, one))

pub first_is : (ds : List BorrowedEntry) (d : BorrowedEntry) → 0 < length ds → d ≡ get_or ds 0 d
    → d.entry ≡ first_of (named_entries ds)
first_is [] d some at = absurd (omega (arith, some))
first_is (x ∷ ds) d some at = ap (λ (y : BorrowedEntry). y.entry) at

pub first_found : (has : TextEntry → Bool) (ds : List BorrowedEntry) (found : Option (Bor BorrowedEntry))
    (other : Bor BorrowedEntry) → 0 < length ds → other.now ≡ get_or ds 0 other.now
    → option_map (λ d. d.now) found ≡ find (λ d. has d.entry) ds
    → (unwrap_or found other).now.entry ≡ first_with has (named_entries ds)
first_found has ds found other some first is = by found is where
  by : (f : Option (Bor BorrowedEntry)) → option_map (λ d. d.now) f ≡ find (λ d. has d.entry) ds
      → (unwrap_or f other).now.entry ≡ first_with has (named_entries ds)
  by None none =
      first_is ds other.now some first
      ∙ sym (ap (λ (r : Option NamedEntry). option_map_or (λ (x : NamedEntry). x.entry) r (first_of (named_entries ds)))
      (find_map (λ (x : NamedEntry). has x.entry) named_entry ds ∙ ap (option_map named_entry) (sym none)))
  by (Some d) same =
      sym (ap (λ (r : Option NamedEntry). option_map_or (λ (x : NamedEntry). x.entry) r (first_of (named_entries ds)))
      (find_map (λ (x : NamedEntry). has x.entry) named_entry ds ∙ ap (option_map named_entry) (sym same)))
