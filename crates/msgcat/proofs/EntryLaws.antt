-- The parts of a merged entry, its forms, and which messages are kept.
use Rattle.msgcat.proofs.Prelude.{All, All-cons, All-contains, All-contains_itself, All-filter, All-head, All-nil, All-tail, All-weaker, Any-from_list_any, AreLiveOf, Bool, CommentKind, CommentsOfFirst, Contains, Decides, DefinedByLive, EndsForm, FaultIsOfNoLine, FormsAreJoined, FormsOfFirst, IsEquivalence, IsFirstTranslated, IsJoinedForm, IsTranslated, IsUntranslated, JoinedAsLongest, JoinedIsFuzzy, JoinedWhereTheyDiffer, List, MergeOptions, NamedEntry, None, ObsoleteWhereNoneIsLive, Option, PluralOfFirst, PoError, PreviousOfFirst, Some, TextEntry, TextPrevious, TextsInOrder, TextsOfAll, TranslatedStays, TranslationsDiffer, Translator, [], any_first_ones, any_passing, ap, append_assoc, ap₂, arith, bytes_eq-Decides, collected, comment_of, cond, cond_both, definitions, ended, ends_with, false, false_from_ne_true, false≢true, filter, filter_agree, filter_passes, find, find-append, first_form, first_of, first_translated, first_with, fold, fold_push, form_count, get_or, get_or-map-range_with_len, has_plural, has_previous, has_text, has_translation, if◌then◌else◌, inl, inr, is_joined, is_live, is_some, joined_form, joined_forms, length, list_any, list_any-append, list_any_none, lists_equiv, live as first_live, marked, max, merged_entry, nat_eq, nat_list_eq_equiv, nat_tests, no_more, no_previous, none as none_translated, not, not-false, obsolete, of_nothing, on_equiv, option_map_or, or-false, or_assoc, or_parts, refl, same_forms, slice_eq-Decides, slice_get, subst, sym, texts_eq, texts_of, translated, translations, true, with_feed, with_form, with_others, without_feed, without_form, ℕ, ◌&&◌, ◌++◌, ◌<◌, ◌==◌, ◌||◌, ◌∙◌, ◌∷◌, ◌≡◌, ◌≢◌, ◌≤◌}
use Rattle.std.proofs.Common.{bytes_eq}
use Rattle.std.proofs.lemmas.List.Prefix.{end_rest}
use Rattle.msgcat.specs.Laws.{no_entry}
use Rattle.po_syntax.specs.Facts.Runs.{from_end}
use Rattle.msgcat.proofs.SeenTexts.{Apart, all_first_ones, apart_first_ones, has_others, none_all}
use Rattle.msgcat.proofs.ValidMerged.{count_joined, count_keeps, first_keeps, forms_joined, several}
use Rattle.std.proofs.lemmas.Map.Views.{any-filter_same, list_any-from_Contains}

-- the texts of one kind of a merged entry
pub texts_merged : (o : MergeOptions) (kind : CommentKind) (ds : List NamedEntry)
    → texts_of kind (merged_entry o ds) ≡ comment_of o kind ds
texts_merged o Translator ds = refl
texts_merged o kind ds = refl

texts_collected : (o : MergeOptions) (kind : CommentKind) (ds : List NamedEntry) → o.use_first ≡ false
    → texts_of kind (merged_entry o ds) ≡ collected (texts_of kind) ds
texts_collected o kind ds off = texts_merged o kind ds ∙ rw off refl

-- a text is collected exactly if a definition has it
any_collected : (kind : CommentKind) (text : List ℕ) (done : List (List ℕ)) (ds : List NamedEntry)
    → list_any (bytes_eq text) (fold (λ l d. with_others l (texts_of kind d.entry)) done ds)
    ≡ (list_any (bytes_eq text) done || list_any (λ d. has_text kind text d.entry) ds)
any_collected kind text done [] = sym (or-false (list_any (bytes_eq text) done))
any_collected kind text done (d ∷ ds) =
    any_collected kind text (with_others done (texts_of kind d.entry)) ds
    ∙ ap (λ (b : Bool). b || list_any (λ x. has_text kind text x.entry) ds)
    (list_any-append (bytes_eq text) done (filter (λ t. not (list_any (bytes_eq t) done)) (texts_of kind d.entry))
    ∙ has_others text done (texts_of kind d.entry))
    ∙ or_assoc (list_any (bytes_eq text) done) (has_text kind text d.entry)
    (list_any (λ x. has_text kind text x.entry) ds)

pub texts_of_all : (o : MergeOptions) (kind : CommentKind) (text : List ℕ) (ds : List NamedEntry)
    → TextsOfAll o kind text ds
texts_of_all o kind text ds off =
    ap (list_any (bytes_eq text)) (texts_collected o kind ds off) ∙ any_collected kind text [] ds

pub texts_in_order : (o : MergeOptions) (kind : CommentKind) (before : List NamedEntry) (d : NamedEntry)
    → TextsInOrder o kind before d
texts_in_order o kind before d off =
    texts_collected o kind (before ++ d ∷ []) off
    ∙ fold_push (λ (done : List (List ℕ)) (x : NamedEntry). with_others done (texts_of kind x.entry)) [] before d
    ∙ ap₂ (λ (l m : List (List ℕ)). l ++ m) (sym (texts_collected o kind before off))
    (filter_agree (λ t. not (list_any (bytes_eq t) (collected (texts_of kind) before)))
    (λ t. not (list_any (λ b. has_text kind t b.entry) before)) (λ t. ap not (any_collected kind t [] before))
    (texts_of kind d.entry))

pub joined_is_fuzzy : (o : MergeOptions) (ds : List NamedEntry) → JoinedIsFuzzy o ds
joined_is_fuzzy o ds joined = rw joined refl

pub find_none : {X : Type 0} (p : X → Bool) (xs : List X) → All (λ x. p x ≡ false) xs → find p xs ≡ None
find_none p [] none = refl
find_none p (x ∷ xs) none =
    rw (All-head (λ y. p y ≡ false) x xs none) (find_none p xs (All-tail (λ y. p y ≡ false) x xs none))

-- what the first definition has that has something
pub first_is : (has : TextEntry → Bool) (before : List NamedEntry) (d : NamedEntry) (after : List NamedEntry)
    → All (λ b. has b.entry ≡ false) before → has d.entry ≡ true → first_with has (before ++ d ∷ after) ≡ d.entry
first_is has before d after none is =
    let p = λ (x : NamedEntry). has x.entry in
    rw (find-append p before (d ∷ after), find_none p before none, is) refl

some_plural : (plural : Option (List ℕ)) → plural ≢ None → is_some plural ≡ true
some_plural None is = absurd (is refl)
some_plural (Some text) is = refl

some_previous : (previous : TextPrevious) → previous ≢ no_previous
    → (is_some previous.context || is_some previous.id || is_some previous.plural) ≡ true
some_previous previous is = of previous.context previous.id previous.plural is where
  of : (context id plural : Option (List ℕ)) → record { context = context; id = id; plural = plural } ≢ no_previous
      → (is_some context || is_some id || is_some plural) ≡ true
  of (Some text) id plural is = refl
  of None (Some text) plural is = refl
  of None None (Some text) is = refl
  of None None None is = absurd (is refl)

pub forms_end : (form : List ℕ) → EndsForm form (ended form)
forms_end = from_end (λ form. EndsForm form (ended form)) of_nothing (λ text b ih.
    let form = text ++ b ∷ [] in
    let last : ends_with nat_eq form (10 ∷ []) ≡ (nat_eq 10 b && true) = rw (end_rest form (b ∷ []) text refl) refl in
    cond_both (ends_with nat_eq form (10 ∷ [])) form (form ++ 10 ∷ []) (EndsForm form)
    (λ is. let feed : 10 ≡ b = grind (arith, nat_tests) in
    subst (λ c. EndsForm (text ++ c ∷ []) (text ++ c ∷ [])) feed (with_feed text))
    (λ isnt. let other : b ≢ 10 = grind (arith, nat_tests) in
    subst (EndsForm form) (sym (append_assoc text (b ∷ []) (10 ∷ []))) (without_feed text other)))

joined_is : (i : ℕ) (ts : List NamedEntry) → IsJoinedForm i ts (joined_form ts i)
joined_is i [] = no_more
joined_is i (t ∷ ts) = by (slice_get t.entry.forms i) refl (joined_is i ts) where
  by : (found : Option (List ℕ)) → slice_get t.entry.forms i ≡ found → IsJoinedForm i ts (joined_form ts i)
      → IsJoinedForm i (t ∷ ts) (option_map_or (marked t.name) found [] ++ joined_form ts i)
  by None e rest = without_form e rest
  by (Some form) e rest = with_form e (forms_end form) rest

pub forms_are_joined : (o : MergeOptions) (ds : List NamedEntry) → FormsAreJoined o ds
forms_are_joined o ds i joined inside =
    let all = translations ds in
    let forms = forms_joined o ds joined in
    let below : i < form_count all = omega (arith, inside, ap length forms, count_joined all) in
    subst (IsJoinedForm i all)
    (sym (ap (λ (l : List (List ℕ)). get_or l i []) forms
    ∙ get_or-map-range_with_len (joined_form all) 0 (form_count all) i i [] below (omega arith)))
    (joined_is i all)

pub previous_of_first : (o : MergeOptions) (before : List NamedEntry) (d : NamedEntry) (after : List NamedEntry)
    → PreviousOfFirst o before d after
previous_of_first o before d after none is =
    ap (λ (e : TextEntry). e.previous)
    (first_is has_previous before d after
    (All-weaker (λ b. b.entry.previous ≡ no_previous) (λ b. has_previous b.entry ≡ false) (λ b e. rw e refl) before
    none)
    (some_previous d.entry.previous is))

pub plural_of_first : (o : MergeOptions) (before : List NamedEntry) (d : NamedEntry) (after : List NamedEntry)
    → PluralOfFirst o before d after
plural_of_first o before d after none is =
    ap (λ (e : TextEntry). e.plural)
    (first_is has_plural before d after
    (All-weaker (λ b. b.entry.plural ≡ None) (λ b. has_plural b.entry ≡ false) (λ b e. rw e refl) before none)
    (some_plural d.entry.plural is))

live_of : (es : List NamedEntry) → AreLiveOf es (filter (λ e. is_live e.entry) es)
live_of [] = no_entry
live_of (e ∷ es) = by e.entry.obsolete refl (live_of es) where
  lives : List NamedEntry
  lives = filter (λ x. is_live x.entry) es

  by : (b : Bool) → e.entry.obsolete ≡ b → AreLiveOf es lives → AreLiveOf (e ∷ es) (cond (not b) (e ∷ lives) lives)
  by true is rest = obsolete is rest
  by false is rest = first_live is rest

pub defined_by_live : (group : List NamedEntry) → DefinedByLive group
defined_by_live group =
    let p = λ (e : NamedEntry). is_live e.entry in record {
      some_live = λ e among is.
          let any = All-contains (λ x. p x ≡ true → list_any p group ≡ true) group e (any_passing p group) among
          (ap not is) in
          subst (λ (b : Bool). AreLiveOf group (if b then filter p group else group)) (sym any) (live_of group);
      none_live = λ all.
          ap (λ (b : Bool). if b then filter p group else group)
          (list_any_none p group (All-weaker (λ x. x.entry.obsolete ≡ true) (λ x. p x ≡ false)
          (λ x. ap not) group all));
    }

live_first : (es : List NamedEntry) → list_any (λ e. is_live e.entry) es ≡ true
    → (first_of (filter (λ e. is_live e.entry) es)).obsolete ≡ false
live_first [] h = cc
live_first (e ∷ es) h = grind (arith, live_first es)

pub obsolete_where_none_is_live : (o : MergeOptions) (group : List NamedEntry) → ObsoleteWhereNoneIsLive o group
obsolete_where_none_is_live o group some = found (list_any (λ e. is_live e.entry) group) refl where
  found : (b : Bool) → list_any (λ e. is_live e.entry) group ≡ b
      → (first_of (if b then filter (λ e. is_live e.entry) group else group)).obsolete ≡ not b
  found true e = live_first group e
  found false e = first_keeps (λ e. e.obsolete ≡ true) group some (All-weaker (λ e. is_live e.entry ≡ false)
      (λ e. e.entry.obsolete ≡ true) (λ e. not-false e.entry.obsolete) group (none_all (λ e. is_live e.entry) group e))

pub fault_is_of_no_line : (entries : List TextEntry) (error : PoError) → FaultIsOfNoLine entries error
fault_is_of_no_line entries error (inl memory) = ap (λ (e : PoError). e.line) memory
fault_is_of_no_line entries error (inr foreign) = ap (λ (e : PoError). e.line) foreign.1

-- When translations are joined, and which definition's forms a merged entry has.

-- the test of a definition with a translation, and what it decides
abbrev pub has : NamedEntry → Bool
has d = has_translation d.entry

bytes_decide : (form : List ℕ) → Decides (not (length form == 0)) (form ≢ [])
bytes_decide [] = grind arith
bytes_decide (b ∷ form) = grind (arith, nat_tests)

pub has_is : (d : NamedEntry) → has d ≡ true → IsTranslated d
has_is d = (bytes_decide (first_form d.entry.forms)).0

pub is_has : (d : NamedEntry) → IsTranslated d → has d ≡ true
is_has d = (bytes_decide (first_form d.entry.forms)).1

has_none : (d : NamedEntry) → IsUntranslated d → has d ≡ false
has_none d lacks = false_from_ne_true (has d) (λ is. has_is d is lacks)

-- definitions with the same forms
forms_decide : (a b : NamedEntry)
    → (same_forms a b ≡ true → a.entry.forms ≡ b.entry.forms) × (a.entry.forms ≡ b.entry.forms → same_forms a b ≡ true)
forms_decide a b = slice_eq-Decides bytes_eq-Decides a.entry.forms b.entry.forms
    (texts_eq a.entry.forms b.entry.forms) refl

pub forms_laws : IsEquivalence same_forms
forms_laws = on_equiv (λ (d : NamedEntry). d.entry.forms) (lists_equiv nat_list_eq_equiv)

-- a definition of the message that has a translation
pub record IsOne (ds : List NamedEntry) (d : NamedEntry) : Type 0 where
  pub among : Contains ds d
  pub is : IsTranslated d

pub each_is : (ds : List NamedEntry) → All (IsOne ds) (translations ds)
each_is ds = all_first_ones same_forms (IsOne ds) (filter has ds) (λ k d below. record {
  among = All-filter has (Contains ds) ds (All-contains_itself ds) k d below;
  is = has_is (get_or (filter has ds) k d) (filter_passes has ds k d below);
})

any_of : (ds : List NamedEntry) (d : NamedEntry) → Contains ds d → IsTranslated d
    → list_any (same_forms d) (translations ds) ≡ true
any_of ds d h is =
    any_first_ones same_forms forms_laws d (filter has ds)
    ∙ any-filter_same (same_forms d) has true
    (λ k same. ap (λ forms. not (length (first_form forms) == 0)) (sym ((forms_decide d k).0 same)) ∙ is_has d is)
    ds
    ∙ list_any-from_Contains forms_laws d ds h

two_differ : (ds ts : List NamedEntry) → 1 < length ts → All (IsOne ds) ts → Apart same_forms ts → TranslationsDiffer ds
two_differ ds [] more all apart = absurd (omega (arith, more))
two_differ ds (t ∷ []) more all apart = absurd (omega (arith, more))
two_differ ds (a ∷ b ∷ ts) more all apart =
    let one = All-head (IsOne ds) a (b ∷ ts) all in
    let other = All-head (IsOne ds) b ts (All-tail (IsOne ds) a (b ∷ ts) all) in
    let unlike = (or_parts (same_forms a b) (list_any (same_forms a) ts) apart.0).0 in
    record {
      one = a;
      other = b;
      among_one = one.among;
      among_other = other.among;
      one_translated = one.is;
      other_translated = other.is;
      differ = λ same. false≢true (sym unlike ∙ (forms_decide a b).1 same);
    }

more_than_one : (a b : NamedEntry) (ts : List NamedEntry) → list_any (same_forms a) ts ≡ true
    → list_any (same_forms b) ts ≡ true → a.entry.forms ≢ b.entry.forms → 1 < length ts
more_than_one a b [] p q differ = absurd (false≢true p)
more_than_one a b (t ∷ []) p q differ = grind (arith, forms_decide a t, forms_decide b t)
more_than_one a b (t ∷ u ∷ ts) p q differ = omega arith

pub joined_where_they_differ : (o : MergeOptions) (ds : List NamedEntry) → JoinedWhereTheyDiffer o ds
joined_where_they_differ o ds = (
  λ joined. (
    grind arith,
    two_differ ds (translations ds) (several o ds joined) (each_is ds)
        (apart_first_ones same_forms forms_laws (filter has ds)),
  ),
  λ (off, t).
      let more = more_than_one t.one t.other (translations ds) (any_of ds t.one t.among_one t.one_translated)
      (any_of ds t.other t.among_other t.other_translated) t.differ in grind (arith, nat_tests),
)

-- the largest count of forms, from a count on
abbrev largest : ℕ → List NamedEntry → ℕ
largest n ts = fold (λ count t. max count (length t.entry.forms)) n ts

bounded : (n : ℕ) (ts : List NamedEntry) → (n ≤ largest n ts) × All (λ t. length t.entry.forms ≤ largest n ts) ts
bounded n [] = (omega arith, All-nil (λ t. length t.entry.forms ≤ n))
bounded n (t ∷ ts) =
    let later = bounded (max n (length t.entry.forms)) ts in (
      omega (arith, later.0),
      All-cons (λ x. length x.entry.forms ≤ largest n (t ∷ ts)) t ts (omega (arith, later.0)) later.1,
    )

no_longer : (d : NamedEntry) (count : ℕ) (ts : List NamedEntry) → list_any (same_forms d) ts ≡ true
    → All (λ t. length t.entry.forms ≤ count) ts → length d.entry.forms ≤ count
no_longer d count ts h all =
    let any = Any-from_list_any (same_forms d) ts h in
    let same = ap length ((forms_decide d any.1).0 any.4) in
    let most = All-contains (λ t. length t.entry.forms ≤ count) ts any.1 all (any.0, any.2, any.3) in
    omega (arith, same, most)

pub joined_as_longest : (o : MergeOptions) (ds : List NamedEntry) → JoinedAsLongest o ds
joined_as_longest o ds joined =
    let ts = translations ds in
    let count : length (merged_entry o ds).forms ≡ form_count ts =
    ap length (forms_joined o ds joined) ∙ count_joined ts in
    let found = count_keeps (λ n. (t : NamedEntry) × IsOne ds t × (length t.entry.forms ≡ n)) ts
    (omega (arith, several o ds joined)) (λ k d below. (get_or ts k d, each_is ds k d below, refl)) in
    record {
      longest = found.0;
      among = found.1.among;
      translated = found.1.is;
      as_many = found.2 ∙ sym count;
      none_longer = λ d among is. let most =
          no_longer d (form_count ts) ts (any_of ds d among is) (bounded 0 ts).1 in omega (arith, count, most);
    }

first_translated_is : {ds : List NamedEntry} {d : NamedEntry} → IsFirstTranslated ds d → first_translated ds ≡ d.entry
first_translated_is (translated before after {d = d} before_none is) =
    first_is has_translation before d after (All-weaker IsUntranslated (λ b. has b ≡ false) has_none before before_none)
    (is_has d is)
first_translated_is (none_translated {d = d} {after = after} h) =
    ap (λ (r : Option NamedEntry). option_map_or (λ (x : NamedEntry). x.entry) r d.entry)
    (find_none has (d ∷ after) (All-weaker IsUntranslated (λ b. has b ≡ false) has_none (d ∷ after) h))

pub forms_of_first : (o : MergeOptions) (ds : List NamedEntry) (d : NamedEntry) → FormsOfFirst o ds d
forms_of_first o ds d apart first = let same = first_translated_is first in rw (apart, same) (refl, refl)

pub comments_of_first : (o : MergeOptions) (kind : CommentKind) (ds : List NamedEntry) (d : NamedEntry)
    → CommentsOfFirst o kind ds d
comments_of_first o kind ds d on first =
    let same = first_translated_is first in texts_merged o kind ds ∙ rw (on, same) refl

any-filter : {X : Type 0} (p q : X → Bool) (xs : List X) → list_any p (filter q xs) ≡ list_any (λ x. q x && p x) xs
any-filter p q [] = refl
any-filter p q (x ∷ xs) = grind (arith, any-filter p q xs)

-- a definition of the group's message has a translation
any_defined : (group : List NamedEntry) (d : NamedEntry) → Contains group d → d.entry.obsolete ≡ false
    → IsTranslated d → list_any has (definitions group) ≡ true
any_defined group d among live is =
    let lives : NamedEntry → Bool = λ x. is_live x.entry in
    let any = λ (p : NamedEntry → Bool). All-contains (λ x. p x ≡ true → list_any p group ≡ true) group d
    (any_passing p group) among in
    cond_both (list_any lives group) (filter lives group) group (λ l. list_any has l ≡ true)
    (λ _. any-filter has lives group ∙ any (λ x. lives x && has x) (rw live (is_has d is))) (λ _. any has (is_has d is))

found_has : (ds : List NamedEntry) (none : TextEntry) → list_any has ds ≡ true
    → has_translation (option_map_or (λ (d : NamedEntry). d.entry) (find has ds) none) ≡ true
found_has [] none h = absurd (false≢true h)
found_has (d ∷ ds) none h = grind (arith, found_has ds none)

-- a joined form of a translation has the line of its input
marked_some : (name form rest : List ℕ) → marked name form ++ rest ≢ []
marked_some name form rest e = cc

some_joined : (t : NamedEntry) (ts : List NamedEntry) → IsTranslated t → joined_form (t ∷ ts) 0 ≢ []
some_joined t ts is = by t.entry.forms refl where
  by : (forms : List (List ℕ)) → t.entry.forms ≡ forms
      → option_map_or (marked t.name) (slice_get forms 0) [] ++ joined_form ts 0 ≢ []
  by [] e = absurd (is (ap first_form e))
  by (form ∷ forms) e = marked_some t.name form (joined_form ts 0)

some_form : (forms : List (List ℕ)) → first_form forms ≢ [] → 0 < length forms
some_form [] some = absurd (some refl)
some_form (form ∷ forms) some = omega arith

first_form_is : (forms : List (List ℕ)) → first_form forms ≡ get_or forms 0 []
first_form_is [] = refl
first_form_is (form ∷ forms) = refl

first_joined : (ds ts : List NamedEntry) → 0 < length ts → All (IsOne ds) ts → first_form (joined_forms ts) ≢ []
first_joined ds [] more all = absurd (omega (arith, more))
first_joined ds (t ∷ ts) more all =
    let below : 0 < form_count (t ∷ ts) = count_keeps (λ n. 0 < n) (t ∷ ts) more (All-weaker (IsOne ds)
    (λ x. 0 < length x.entry.forms) (λ x one. some_form x.entry.forms one.is) (t ∷ ts) all) in
    let form : first_form (joined_forms (t ∷ ts)) ≡ joined_form (t ∷ ts) 0 = first_form_is (joined_forms (t ∷ ts))
    ∙ get_or-map-range_with_len (joined_form (t ∷ ts)) 0 (form_count (t ∷ ts)) 0 0 [] below (omega arith) in
    λ e. some_joined t ts (All-head (IsOne ds) t ts all).is (sym form ∙ e)

translated_some : (o : MergeOptions) (ds : List NamedEntry) → list_any has ds ≡ true
    → first_form (merged_entry o ds).forms ≢ []
translated_some o ds any =
    cond_both (is_joined o ds) (joined_forms (translations ds)) (first_translated ds).forms (λ fs. first_form fs ≢ [])
    (λ joined. first_joined ds (translations ds) (omega (arith, several o ds joined)) (each_is ds))
    (λ _. has_is (record { name = []; entry = first_translated ds }) (found_has ds (first_of ds) any))

pub stays : (o : MergeOptions) (group : List NamedEntry) → TranslatedStays o group
stays o group d among live is = translated_some o (definitions group) (any_defined group d among live is)
