-- The references and flags that comments list, and whether one of them is fuzzy.
use Rattle.po_entry.proofs.Prelude.{All, All-append, All-cons, All-nil, All-push, All-weaker, Bool, CommentKind, CommentText, Contains, Contains-from_any, Decides, EndsReference, Extracted, FailsFirst, Flags, HaveFuzzyFlag, IsAdmittedName, IsBlank, IsWithoutBlanks, KeepsFlags, List, ListsFlags, ListsReferences, NamesAdmitted, NamesFlag, Reference, Translator, [], all_listed_flags, ap, append-nil, append_assoc, arith, ascii, blank, both_ways, bytes_eq-Decides, cases_Bool, codes, common_steps, cond, cond-false, cond-true, cond_both, end_parts, eqb-false, eqb-true, false, false_from_ne_true, false≢true, filter, first as keeps_first, flag, flags_of, fold, fold_push, from_end, fuzzy, fuzzy_of, get_or, here as fuzzy_here, inl, inr, is_blank, is_fuzzy_flag, is_not_empty, kept_is, last, later as fuzzy_later, list_any, list_any-append, list_any_at, listed_flags, listed_references, map, more as lists_more, ne_eqb, nil_from_length, no_flag, no_name, no_text, none, or-false, or-true, or_assoc, or_cases, or_from, or_left, or_parts, or_right, parts_of, prefix_len, reference, refl, repeated, rules, skip_blanks, slice_split-cons_yes, slice_split_at, slice_split_none, subst, suc, sym, take, template, to_ascii_lowercase, trimmed, true, us_ascii, utf8, utf_8, with_flag, without_end, zero, ℕ, ◌++◌, ◌<◌, ◌==◌, ◌||◌, ◌↔◌, ◌∙◌, ◌∷◌, ◌≡◌, ◌≢◌}
use Rattle.std.proofs.Common.{bytes_eq}
use Rattle.po_syntax.proofs.Keywords.{skip_prefix}
use Rattle.po_entry.proofs.EntryLayout.{lacks_fails}

-- a part of a list that was cut is among the elements unless it is empty
abbrev kept : List ℕ → List (List ℕ) → List (List ℕ)
kept element elements = cond (is_not_empty element) (element ∷ elements) elements

some_kept : (element : List ℕ) → element ≢ [] → (elements : List (List ℕ)) → kept element elements ≡ element ∷ elements
some_kept element some elements = grind (arith, common_steps, cond-true, ne_eqb, nil_from_length)

-- what holds of the last part of a text that is cut, and with each part before it, holds of the text
by_parts : (cut : ℕ → Bool) (P : List ℕ → Type 0) → ((part : List ℕ) → All (λ b. cut b ≡ false) part → P part)
    → ((part : List ℕ) (b : ℕ) (rest : List ℕ) → All (λ b. cut b ≡ false) part → cut b ≡ true → P rest
    → P (part ++ b ∷ rest)) → (text : List ℕ) → P text
by_parts cut P ends after text = by text [] (All-nil (λ b. cut b ≡ false)) where
  by : (text part : List ℕ) → All (λ b. cut b ≡ false) part → P (part ++ text)
  by [] part all = subst P (sym (append-nil part)) (ends part all)
  by (b ∷ text) part all =
      elim (cases_Bool (cut b)) [
        | inl e ↦ after part b text all e (by text [] (All-nil (λ b. cut b ≡ false)))
        | inr e ↦ subst P (append_assoc part (b ∷ []) text)
            (by text (part ++ b ∷ []) (All-push (λ b. cut b ≡ false) part b all e))
      ]

-- references

cut_at_blank : (b : ℕ) (text : List ℕ) → IsBlank b → listed_references (b ∷ text) ≡ listed_references text
cut_at_blank b text is = ap (filter is_not_empty) (slice_split-cons_yes is_blank b text is)

element_then : (element rest : List ℕ) → All (λ b. is_blank b ≡ false) element → EndsReference rest
    → listed_references (element ++ rest) ≡ kept element (listed_references rest)
element_then element [] all ends = search (rules, append-nil, slice_split_none)
element_then element (b ∷ rest) all ends = grind (arith, common_steps, slice_split_at, cut_at_blank)

after_element : (element rest : List ℕ) → All (λ b. is_blank b ≡ false) element → EndsReference rest
    → ListsReferences rest (listed_references rest)
    → ListsReferences (element ++ rest) (listed_references (element ++ rest))
after_element [] rest all ends later = later
after_element (b ∷ element) rest all ends later =
    let read = b ∷ element in
    let some : read ≢ [] = λ e. cc in
    rw (element_then read rest all ends, some_kept read some (listed_references rest))
    (reference some (All-weaker _ _ (λ b. both_ways (is_blank b)) read all) ends later)

lists : (text : List ℕ) → ListsReferences text (listed_references text)
lists = by_parts is_blank (λ text. ListsReferences text (listed_references text))
    (λ part all. subst (λ t. ListsReferences t (listed_references t)) (append-nil part)
    (after_element part [] all tt no_text))
    (λ part b rest all is later. after_element part (b ∷ rest) all is (rw (cut_at_blank b rest is) (blank is later)))

are_elements : {text : List ℕ} {elements : List (List ℕ)} → ListsReferences text elements
    → elements ≡ listed_references text
are_elements no_text = refl
are_elements (blank {b = b} {text = text} is later) = are_elements later ∙ sym (cut_at_blank b text is)
are_elements (reference {element = element} {rest = rest} some all ends later) =
    search (rules, some_kept, element_then, All-weaker, false_from_ne_true, are_elements later)

pub references_listed : (text : List ℕ) (references : List (List ℕ))
    → (references ≡ listed_references text) ↔ ListsReferences text references
references_listed text references = (λ e. subst (ListsReferences text) (sym e) (lists text), are_elements)

-- texts without the blanks at their ends

trimmed_is : (text : List ℕ) → IsWithoutBlanks text (trimmed text)
trimmed_is text =
    let start = parts_of is_blank text in
    let end = end_parts is_blank (skip_blanks text) in record {
      before = take (prefix_len is_blank text) text;
      after = end.end;
      whole = sym start.whole ∙ ap (λ l. take (prefix_len is_blank text) text ++ l) end.whole;
      before_blank = start.passes;
      after_blank = end.passes;
      no_first = λ b rest e. both_ways (is_blank b)
          (subst (FailsFirst is_blank) (end.whole ∙ ap (λ l. l ++ end.end) e) start.ends);
      no_last = λ prefix b e. both_ways (is_blank b) (end.fails prefix b e);
    }

is_trimmed : (text kept : List ℕ) → IsWithoutBlanks text kept → trimmed text ≡ kept
is_trimmed text [] h =
    let blanks = h.before ++ h.after in
    let all = All-append IsBlank h.before h.after h.before_blank h.after_blank in
    ap trimmed (h.whole ∙ sym (append-nil blanks)) ∙ ap (without_end is_blank) (skip_prefix blanks [] all tt)
is_trimmed text (b ∷ kept) h =
    let other = false_from_ne_true (is_blank b) (h.no_first b kept refl) in
    ap trimmed h.whole
    ∙ ap (without_end is_blank) (skip_prefix h.before ((b ∷ kept) ++ h.after) h.before_blank other)
    ∙ kept_is is_blank (b ∷ kept) (λ prefix c e. false_from_ne_true _ (h.no_last prefix c e)) h.after h.after_blank

-- flags

names : (text : List ℕ) → NamesFlag text (kept (trimmed text) [])
names text = at (trimmed text) (trimmed_is text) where
  at : (element : List ℕ) → IsWithoutBlanks text element → NamesFlag text (kept element [])
  at [] h = no_flag h
  at (b ∷ element) h = subst (NamesFlag text) (sym (some_kept (b ∷ element) (λ e. cc) [])) (flag (λ e. cc) h)

kept_append : (element : List ℕ) (elements : List (List ℕ)) → kept element [] ++ elements ≡ kept element elements
kept_append element elements = grind (arith, common_steps, cases_Bool)

-- some flags that a text lists
abbrev Named : List ℕ → Type 0
Named text = (flags : List (List ℕ)) × ListsFlags text flags

list_flags : (text : List ℕ) → Named text
list_flags =
    let lacks = All-weaker (λ b. (b == 44) ≡ false) (λ b. b ≢ 44) (λ b e. eqb-false b 44 e) in
    by_parts (λ b. b == 44) Named (λ part all. (kept (trimmed part) [], last (lacks part all) (names part)))
    (λ part b rest all is later. subst (λ a. Named (part ++ a ∷ rest)) (sym (eqb-true b 44 is))
    (kept (trimmed part) [] ++ later.0, lists_more (lacks part all) (names part) later.1))

named_is : {text : List ℕ} {here : List (List ℕ)} → NamesFlag text here → here ≡ kept (trimmed text) []
named_is (no_flag {text = text} h) = ap (λ w. kept w []) (sym (is_trimmed text [] h))
named_is (flag {text = text} {kept = element} some h) =
    sym (some_kept element some []) ∙ ap (λ w. kept w []) (sym (is_trimmed text element h))

are_flags : {text : List ℕ} {flags : List (List ℕ)} → ListsFlags text flags → flags ≡ listed_flags text
are_flags (last {text = text} lacks here) = grind (arith, common_steps, named_is, slice_split_none, lacks_fails)
are_flags (lists_more {text = text} {rest = rest} {here = here} {later = later} lacks named others) =
    grind (arith, common_steps, named_is, kept_append, slice_split_at, lacks_fails, are_flags others)

pub flags_listed : (text : List ℕ) (flags : List (List ℕ)) → (flags ≡ listed_flags text) ↔ ListsFlags text flags
flags_listed text flags = (
  λ e. let found = list_flags text in subst (ListsFlags text) (are_flags found.1 ∙ sym e) found.1,
  are_flags,
)

-- the flags that are kept

pub among_says : (flags : List (List ℕ)) (element : List ℕ) → list_any (bytes_eq element) flags ≡ true
    → Contains flags element
among_says flags element e =
    Contains-from_any {eq = bytes_eq} (λ x y same. (bytes_eq-Decides x y).0 same) element flags e

pub among_passes : (flags : List (List ℕ)) (element : List ℕ) → Contains flags element
    → list_any (bytes_eq element) flags ≡ true
among_passes flags element h = grind (arith, common_steps, list_any_at, bytes_eq-Decides)

-- it isn't kept where these are
abbrev passed_over : List (List ℕ) → List ℕ → Bool
passed_over flags element = is_fuzzy_flag element || list_any (bytes_eq element) flags

abbrev keep : List (List ℕ) → List (List ℕ)
keep named = fold with_flag [] named

over_more : (flags : List (List ℕ)) (new element : List ℕ)
    → passed_over (flags ++ new ∷ []) element ≡ (passed_over flags element || bytes_eq element new)
over_more flags new element = simp (list_any-append, or_assoc, or-false)

or_under : (x y : Bool) → (y ≡ true → x ≡ true) → x ≡ (x || y)
or_under x true h = h refl ∙ sym (or-true x)
or_under x false h = sym (or-false x)

-- the flags that are kept pass over what all that are named do
same_flags : (named : List (List ℕ)) (element : List ℕ) → passed_over (keep named) element ≡ passed_over named element
same_flags =
    from_end (λ named. (element : List ℕ) → passed_over (keep named) element ≡ passed_over named element) (λ _. refl)
    (λ named new before element.
    let flags = keep named in
    rw (fold_push with_flag [] named new, over_more named new element, ← before element)
    (cond_both (passed_over flags new) flags (flags ++ new ∷ [])
    (λ l. passed_over l element ≡ (passed_over flags element || bytes_eq element new))
    (λ over. or_under _ _ (λ is. rw ((bytes_eq-Decides element new).0 is) over))
    (λ _. over_more flags new element)))

keep_more : (named : List (List ℕ)) (element : List ℕ)
    → keep (named ++ element ∷ []) ≡ cond (passed_over named element) (keep named) (keep named ++ element ∷ [])
keep_more named element = grind (arith, common_steps, fold_push, same_flags)

keeps : (named : List (List ℕ)) → KeepsFlags named (keep named)
keeps = from_end (λ named. KeepsFlags named (keep named)) none (λ named element before.
    rw (keep_more named element)
    (cond_both (passed_over named element) _ _ (KeepsFlags (named ++ element ∷ []))
    (λ over. elim (or_cases _ _ over) [
      | inl is ↦ subst (λ f. KeepsFlags (named ++ f ∷ []) (keep named))
          (sym ((bytes_eq-Decides element (codes "fuzzy")).0 is)) (fuzzy before)
      | inr there ↦ repeated before (among_says named element there)
    ])
    (λ no.
    let absent = or_parts _ _ no in
    keeps_first before (λ is. both_ways _ absent.0 ((bytes_eq-Decides element (codes "fuzzy")).1 is))
    (λ there. both_ways _ absent.1 (among_passes named element there)))))

kept_once : {named flags : List (List ℕ)} → KeepsFlags named flags → flags ≡ keep named
kept_once none = refl
kept_once (keeps_first {named = named} {flag = element} before other absent) =
    let no = or_from _ _ (false_from_ne_true _ (λ e. other ((bytes_eq-Decides element (codes "fuzzy")).0 e)))
    (false_from_ne_true _ (λ e. absent (among_says named element e))) in
    ap (λ l. l ++ element ∷ []) (kept_once before) ∙ sym (keep_more named element ∙ cond-false _ _ _ no)
kept_once (fuzzy {named = named} before) = kept_once before ∙ sym (keep_more named (codes "fuzzy"))
kept_once (repeated {named = named} {flag = element} before there) =
    search (rules, keep_more, cond-true, or_right, among_passes, kept_once before)

pub flags_kept : (comment_texts : List CommentText) (flags : List (List ℕ))
    → (flags ≡ flags_of comment_texts) ↔ KeepsFlags (all_listed_flags comment_texts) flags
flags_kept comment_texts flags = grind (arith, common_steps, keeps, kept_once)

-- Where an entry's comments make it fuzzy, and which charsets are admitted.

module _ {X : Type 0} (p : X → Bool) where
  -- where an element passes a test, some element does
  pub any_passing : (xs : List X) → All (λ y. p y ≡ true → list_any p xs ≡ true) xs
  any_passing [] = All-nil (λ y. p y ≡ true → false ≡ true)
  any_passing (x ∷ xs) = All-cons (λ y. p y ≡ true → (p x || list_any p xs) ≡ true) x xs
      (λ h. or_left (p x) (list_any p xs) h)
      (All-weaker (λ y. p y ≡ true → list_any p xs ≡ true) (λ y. p y ≡ true → (p x || list_any p xs) ≡ true)
      (λ y c h. or_right (p x) (list_any p xs) (c h)) xs (any_passing xs))

fuzzy_among : (flags : List (List ℕ)) → list_any is_fuzzy_flag flags ≡ true → Contains flags (codes "fuzzy")
fuzzy_among flags h = Contains-from_any {eq = λ x y. bytes_eq y x} (λ x y same. sym ((bytes_eq-Decides y x).0 same))
    (codes "fuzzy") flags h

among_fuzzy : (flags : List (List ℕ)) → Contains flags (codes "fuzzy") → list_any is_fuzzy_flag flags ≡ true
among_fuzzy flags h = grind (arith, common_steps, list_any_at, bytes_eq-Decides)

flags_of_text : (text : List ℕ) → ListsFlags text (listed_flags text)
flags_of_text text = (flags_listed text (listed_flags text)).0 refl

flags_first : (text : List ℕ) (after : List CommentText)
    → fuzzy_of (record { kind = Flags; text = text } ∷ after)
    ≡ (list_any is_fuzzy_flag (listed_flags text) || fuzzy_of after)
flags_first text after = list_any-append is_fuzzy_flag (listed_flags text) (all_listed_flags after)

fuzzy_flagged : (comment_texts : List CommentText) → fuzzy_of comment_texts ≡ true → HaveFuzzyFlag comment_texts
fuzzy_flagged [] h = absurd (false≢true h)
fuzzy_flagged (first ∷ after) h = by first.kind first.text h (fuzzy_flagged after) where
  by : (kind : CommentKind) (text : List ℕ) → fuzzy_of (record { kind = kind; text = text } ∷ after) ≡ true
      → (fuzzy_of after ≡ true → HaveFuzzyFlag after)
      → HaveFuzzyFlag (record { kind = kind; text = text } ∷ after)
  by Translator text g more = fuzzy_later (more g)
  by Extracted text g more = fuzzy_later (more g)
  by Reference text g more = fuzzy_later (more g)
  by Flags text g more = found (list_any is_fuzzy_flag (listed_flags text)) refl
      (sym (flags_first text after) ∙ g) where
        found : (b : Bool) → list_any is_fuzzy_flag (listed_flags text) ≡ b → (b || fuzzy_of after) ≡ true
            → HaveFuzzyFlag (record { kind = Flags; text = text } ∷ after)
        found true e there = fuzzy_here (flags_of_text text) (fuzzy_among (listed_flags text) e)
        found false e there = fuzzy_later (more there)

flagged_fuzzy : {comment_texts : List CommentText} → HaveFuzzyFlag comment_texts → fuzzy_of comment_texts ≡ true
flagged_fuzzy (fuzzy_here {text = text} {flags = flags} {after = after} listed among) =
    grind (arith, common_steps, flags_first, flags_listed, among_fuzzy)
flagged_fuzzy (fuzzy_later {first = first} {after = after} h) = search (rules, flags_first, or_right, flagged_fuzzy h)

pub fuzzy_where_flagged : (comment_texts : List CommentText)
    → Decides (fuzzy_of comment_texts) (HaveFuzzyFlag comment_texts)
fuzzy_where_flagged comment_texts = (fuzzy_flagged comment_texts, flagged_fuzzy)

abbrev admitted_names : List (List ℕ)
admitted_names = [] ∷ codes "utf-8" ∷ codes "utf8" ∷ codes "us-ascii" ∷ codes "ascii" ∷ codes "charset" ∷ []

-- the admitted name at each place of the list
name_at : (k : ℕ) (name : List ℕ) → k < 6 → get_or admitted_names k name ≡ name → NamesAdmitted name
name_at zero name less e = subst NamesAdmitted e no_name
name_at (suc zero) name less e = subst NamesAdmitted e utf_8
name_at (suc (suc zero)) name less e = subst NamesAdmitted e utf8
name_at (suc (suc (suc zero))) name less e = subst NamesAdmitted e us_ascii
name_at (suc (suc (suc (suc zero)))) name less e = subst NamesAdmitted e ascii
name_at (suc (suc (suc (suc (suc zero))))) name less e = subst NamesAdmitted e template
name_at (suc (suc (suc (suc (suc (suc k)))))) name less e = absurd (omega (arith, less))

is_listed : {name : List ℕ} → NamesAdmitted name → Contains admitted_names name
is_listed no_name = (0, omega arith, refl)
is_listed utf_8 = (1, omega arith, refl)
is_listed utf8 = (2, omega arith, refl)
is_listed us_ascii = (3, omega arith, refl)
is_listed ascii = (4, omega arith, refl)
is_listed template = (5, omega arith, refl)

pub admitted : (name : List ℕ) → IsAdmittedName name ↔ NamesAdmitted (map to_ascii_lowercase name)
admitted name = (λ h. name_at h.0 (map to_ascii_lowercase name) h.1 h.2, is_listed)
