-- Headers of a catalogue, the charsets that they name, and whether these are admitted.
use Rattle.po_entry.proofs.Prelude.{AdmitsCharset, All, All-cons, All-head, All-nil, All-tail, Bool, CommentKind, CommentText, Contains, Contains-append_left, Contains-push, Contains-push_cases, Decides, EndsName, EntryTextFault, Extracted, FailsFirst, Flags, ForbiddenByte, HasAdmittedCharset, HasTexts, HaveReferences, IfSome, IsAdmittedName, IsAfterName, IsAround, IsClean, IsHeaderEntry, IsUtf8, IsUtf8-from_is_utf8, Lacks, List, NamesCharset, None, NotUtf8, Option, PoFault, Reference, Some, TextEntry, Translator, Vec, [], after_charset, and_parts, ap, append_cancel_left, arith, at_byte, at_end, before_first, cases_Bool, cases_eq, charset_of, codes, common_steps, cond, cond-false, cond-true, drop, drop_at, ends_name, eqb-true, false, false≢true, filter, first_form, get_or, inl, inr, is_header, is_none, is_utf8, is_utf8-from_IsUtf8, length, list_any, listed_references, ltb-false, map, named, nat_eq, no_comment, not, not-false, not-true, other_kind, parts_of, position, position_or_len, quoted_texts, references, references_of, refl, rules, same_kind, slice_get, starts_is, starts_with, subst, suc, sym, take, take_all, texts, to_ascii_lowercase, true, unnamed, ℕ, ◌++◌, ◌==◌, ◌||◌, ◌∙◌, ◌∷◌, ◌≡◌, ◌≢◌, ◌≤◌, ◌⊎◌}
use Rattle.std.specs.Prelude.{IsTrue, bytes_eq, flat_map, ◌↔◌}
use Rattle.po_entry.proofs.CommentElements.{admitted, among_passes, among_says, references_listed}
use Rattle.po_entry.specs.Validity.{forbidden, not_utf8}

-- one more name that may be meant
pub one_more_name : (names : List (List ℕ)) (name x : List ℕ) (a b : Bool) → (IsTrue a ↔ Contains names x)
    → (IsTrue b ↔ (x ≡ name)) → (IsTrue (a || b) ↔ Contains (names ++ name ∷ []) x)
one_more_name names name x true b p q = (λ t. Contains-append_left names (name ∷ []) x (p.0 refl), λ h. refl)
one_more_name names name x false true p q =
    let P : List ℕ → Type 0 =
    λ y. Contains (names ++ name ∷ []) y in (λ t. rw (q.0 refl) (Contains-push names name), λ h. refl)
one_more_name names name x false false p q = grind (arith, common_steps, false≢true, Contains-push_cases, names)

pub first_text : (forms : List (Vec ℕ)) (v : Vec ℕ) → Some v ≡ slice_get forms 0 → first_form (texts forms) ≡ v.items
first_text [] v e = cc
first_text (w ∷ forms) v e = let same : w ≡ v = cc in ap (λ (u : Vec ℕ). u.items) same

pub nonempty : (b : ℕ) (name : List ℕ) → (length (b ∷ name) == 0) ≡ true → ⊥
nonempty b name t = let h : length (b ∷ name) ≡ 0 = eqb-true _ _ t in omega (arith, h)

-- the empty word, in lowercase
pub no_name : (f : ℕ → ℕ) (name : List ℕ) (a : Bool) → a ≡ (length name == 0)
    → (IsTrue a ↔ Contains ([] ∷ []) (map f name))
no_name f [] a e = (λ t. Contains-push [] [], λ h. e)
no_name f (b ∷ name) a e = grind (arith, common_steps, nonempty, Contains-push_cases)

-- what stands before the first place where a test passes
pub before_found : (p : ℕ → Bool) (xs : List ℕ) (i : ℕ) → Some i ≡ position p xs → take i xs ≡ before_first p xs
before_found p xs i e = grind (arith, common_steps)

pub before_none : (p : ℕ → Bool) (xs : List ℕ) → None ≡ position p xs → xs ≡ before_first p xs
before_none p xs e = grind (arith, common_steps, ltb-false, take_all)

-- The charset that is found in a header's text is the one that it names.

-- no `charset=` stands in the text before this many bytes
abbrev IsEarliest : List ℕ → ℕ → Type 0
IsEarliest text place = (other more : List ℕ) → IsAround text other more → place ≤ length other

abbrev HasNone : List ℕ → Type 0
HasNone text = (before rest : List ℕ) → IsAround text before rest → ⊥

-- where the text after the first `charset=` begins, or that there is none
abbrev Found : List ℕ → List ℕ → Type 0
Found text rest = (HasNone text × (rest ≡ []))
    ⊎ ((before : List ℕ) × IsAround text before rest × IsEarliest text (length before))

starts : List ℕ → Bool
starts text = starts_with nat_eq text (codes "charset=")

prefix_starts : (text rest : List ℕ) → IsAround text [] rest → starts text ≡ true
unfolding starts
prefix_starts text rest e = grind (arith, common_steps, starts_is)

starts_prefix : (text : List ℕ) → starts text ≡ true → IsAround text [] (drop 8 text)
unfolding starts
starts_prefix text e = grind (arith, common_steps, starts_is)

tail_around : (b x : ℕ) (text before rest : List ℕ) → IsAround (b ∷ text) (x ∷ before) rest → IsAround text before rest
tail_around b x text before rest e = cc

none_more : (b : ℕ) (text : List ℕ) → starts (b ∷ text) ≡ false → HasNone text → HasNone (b ∷ text)
none_more b text other none [] rest e = false≢true (sym other ∙ prefix_starts (b ∷ text) rest e)
none_more b text other none (x ∷ before) rest e = none before rest (tail_around b x text before rest e)

earliest_more : (b place : ℕ) (text : List ℕ) → starts (b ∷ text) ≡ false → IsEarliest text place
    → IsEarliest (b ∷ text) (suc place)
earliest_more b place text other first [] more e = absurd (false≢true (sym other ∙ prefix_starts (b ∷ text) more e))
earliest_more b place text other first (x ∷ before) more e = grind (arith, common_steps, tail_around)

found_more : (b : ℕ) (text rest : List ℕ) → starts (b ∷ text) ≡ false → Found text rest → Found (b ∷ text) rest
found_more b text rest other (inl (none, is)) = inl (none_more b text other none, is)
found_more b text rest other (inr (before, around, first)) =
    inr (b ∷ before, ap (λ t. b ∷ t) around, earliest_more b (length before) text other first)

none_in_nothing : HasNone []
none_in_nothing [] rest e = cc
none_in_nothing (x ∷ before) rest e = cc

found : (text : List ℕ) → Found text (after_charset text)
unfolding starts
found [] = inl (none_in_nothing, refl)
found (b ∷ text) =
    elim (cases_Bool (starts (b ∷ text))) [
      | inl e ↦ subst (Found (b ∷ text)) (sym (cond-true (starts (b ∷ text)) _ _ e))
          (inr ([], starts_prefix (b ∷ text) e, λ other more h. omega arith))
      | inr e ↦ subst (Found (b ∷ text)) (sym (cond-false (starts (b ∷ text)) _ _ e))
          (found_more b text (after_charset text) e (found text))
    ]

not_end : (b : ℕ) → not (ends_name b) ≡ true → EndsName b → ⊥
not_end b e h = false≢true (sym (not-true (ends_name b) e) ∙ h)

after_name : (rest : List ℕ) → FailsFirst (λ b. not (ends_name b)) rest → IsAfterName rest
after_name [] h = at_end
after_name (b ∷ rest) h = at_byte (not-false (ends_name b) h)

-- the bytes up to the first that ends a name
pub record IsName (text : List ℕ) : Type 0 where
  rest : List ℕ
  whole : text ≡ before_first ends_name text ++ rest
  holds_no_end : All (λ b. EndsName b → ⊥) (before_first ends_name text)
  ends : IsAfterName rest

all_not_end : (name : List ℕ) → All (λ b. not (ends_name b) ≡ true) name → All (λ b. EndsName b → ⊥) name
all_not_end name h = λ k d below. not_end (get_or name k d) (h k d below)

name_at : (text : List ℕ) → IsName text
name_at text =
    let parts = parts_of (λ b. not (ends_name b)) text in record {
      rest = drop (position_or_len ends_name text) text;
      whole = sym parts.whole;
      holds_no_end = all_not_end (before_first ends_name text) parts.passes;
      ends = after_name (drop (position_or_len ends_name text) text) parts.ends;
    }

charset_of_found : (text rest : List ℕ) → Found text rest → NamesCharset text (before_first ends_name rest)
charset_of_found text rest (inl (none, is)) =
    subst (λ r. NamesCharset text (before_first ends_name r)) (sym is) (unnamed none)
charset_of_found text rest (inr (before, around, first)) =
    let name = name_at rest in
    named before name.rest (around ∙ ap (λ r. before ++ (codes "charset=" ++ r)) name.whole) first name.holds_no_end
    name.ends

found_named : (text : List ℕ) → NamesCharset text (charset_of text)
found_named text = charset_of_found text (after_charset text) (found text)

after_not_first : (b : ℕ) (rest name : List ℕ) → IsAfterName rest → rest ≡ b ∷ name → (EndsName b → ⊥) → ⊥
after_not_first b rest name at_end e has = cc
after_not_first b rest name (at_byte {b = c} ends) e has = let same : c ≡ b = cc in has (subst EndsName same ends)

name_once : (name other rest end : List ℕ) → All (λ b. EndsName b → ⊥) name → All (λ b. EndsName b → ⊥) other
    → IsAfterName rest → IsAfterName end → name ++ rest ≡ other ++ end → name ≡ other
name_once [] [] rest end a b p q e = refl
name_once [] (x ∷ other) rest end a b p q e = search (rules, after_not_first, All-head)
name_once (x ∷ name) [] rest end a b p q e =
    absurd (after_not_first x end (name ++ rest) q (sym e) (All-head (λ c. EndsName c → ⊥) x name a))
name_once (x ∷ name) (y ∷ other) rest end a b p q e =
    let here : x ≡ y = cc in
    let more : name ++ rest ≡ other ++ end = cc in
    let later = name_once name other rest end (All-tail (λ c. EndsName c → ⊥) x name a)
    (All-tail (λ c. EndsName c → ⊥) y other b) p q more in
    rw (here, later) refl

same_rest : (before other rest end : List ℕ) → length before ≡ length other → before ++ rest ≡ other ++ end → rest ≡ end
same_rest before other rest end l e = sym (drop_at before rest (length before) refl) ∙ ap (drop (length before)) e
    ∙ drop_at other end (length before) (sym l)

named_once : {text name other : List ℕ} → NamesCharset text name → NamesCharset text other → name ≡ other
named_once (unnamed none) (unnamed others) = refl
named_once (unnamed none) (named {name = called} other end about earliest has stops) = grind (arith, common_steps)
named_once (named {name = name} before rest around first holds ends) (unnamed none) = grind (arith, common_steps)
named_once (named {name = name} before rest around first holds ends)
    (named {name = called} other end about earliest has stops) =
    let p = first other (called ++ end) about in
    let q = earliest before (name ++ rest) around in
    let after = same_rest before other (codes "charset=" ++ (name ++ rest)) (codes "charset=" ++ (called ++ end))
    (omega (arith, p, q)) (sym around ∙ about) in
    name_once name called rest end holds has ends stops
    (append_cancel_left (codes "charset=") (name ++ rest) (called ++ end) after)

pub charset_named : (text name : List ℕ) → (name ≡ charset_of text) ↔ NamesCharset text name
charset_named text name =
    (λ e. subst (NamesCharset text) (sym e) (found_named text), λ h. named_once h (found_named text))

none_is : (context : Option (List ℕ)) → is_none context ≡ true → context ≡ None
none_is None h = refl
none_is (Some text) h = absurd (false≢true h)

pub empty_is : (id : List ℕ) → (length id == 0) ≡ true → id ≡ []
empty_is [] h = refl
empty_is (b ∷ id) h = absurd (nonempty b id h)

pub header_decided : (entry : TextEntry) → Decides (is_header entry) (IsHeaderEntry entry)
header_decided entry = grind (arith, common_steps, and_parts, none_is, empty_is)

named_is : (entry : TextEntry) {form name : List ℕ} {forms : List (List ℕ)} → entry.forms ≡ form ∷ forms
    → NamesCharset form name → charset_of (first_form entry.forms) ≡ name
named_is entry {form} {name} {forms} forms_are names = grind (arith, common_steps, charset_named, names)

pub admits_charset : (entry : TextEntry) → AdmitsCharset entry
admits_charset entry = record {
  of_header = λ {form} {name} {forms} header forms_are names.
      let same = named_is entry forms_are names in (
        λ h. (admitted name).0 (subst IsAdmittedName same (h ((header_decided entry).1 header))),
        λ h is. subst IsAdmittedName (sym same) ((admitted name).1 h),
      );
  of_other = λ other is. absurd (other ((header_decided entry).0 is));
}

pub have_references : (comments : List CommentText) → HaveReferences comments (references_of comments)
have_references [] = no_comment
have_references (c ∷ cs) = by c.kind refl (have_references cs) where
  rest : List CommentText
  rest = filter (λ (x : CommentText). same_kind Reference x.kind) cs

  by : (kind : CommentKind) → c.kind ≡ kind → HaveReferences cs (references_of cs)
      → HaveReferences (c ∷ cs)
      (flat_map listed_references (map (λ (x : CommentText). x.text) (cond (same_kind Reference kind) (c ∷ rest) rest)))
  by Reference is later = references is ((references_listed c.text (listed_references c.text)).0 refl) later
  by Translator is later = other_kind (λ e. cc) later
  by Extracted is later = other_kind (λ e. cc) later
  by Flags is later = other_kind (λ e. cc) later

-- It is known of the texts and of the charset of an entry whether they are admitted.

-- the claim holds, or it doesn't
abbrev pub Settled : Type 0 → Type 0
Settled P = P ⊎ (P → ⊥)

pub all_settled : {X : Type 0} (P : X → Type 0) → ((x : X) → Settled (P x)) → (xs : List X) → Settled (All P xs)
all_settled P each [] = inl (All-nil P)
all_settled P each (x ∷ xs) = elim (each x) [
  | inl here ↦ elim (all_settled P each xs)
      [ inl later ↦ inl (All-cons P x xs here later) | inr never ↦ inr (λ h. never (All-tail P x xs h)) ]
  | inr never ↦ inr (λ h. never (All-head P x xs h))
]

some_settled : {X : Type 0} (P : X → Type 0) → ((x : X) → Settled (P x)) → (value : Option X) → Settled (IfSome value P)
some_settled P each None = inl tt
some_settled P each (Some x) = each x

utf8_settled : (text : List ℕ) → Settled (IsUtf8 text)
utf8_settled text = elim (cases_Bool (is_utf8 text)) [
  | inl is ↦ inl (IsUtf8-from_is_utf8 text is)
  | inr never ↦ inr (λ utf8. false≢true (sym never ∙ is_utf8-from_IsUtf8 text utf8))
]

lacks_settled : (byte : ℕ) (text : List ℕ) → Settled (Lacks byte text)
lacks_settled byte text =
    all_settled (λ b. b ≢ byte)
    (λ b. elim (cases_eq b byte) [ inl same ↦ inr (λ other. other same) | inr other ↦ inl other ]) text

contains_settled : (texts : List (List ℕ)) (text : List ℕ) → Settled (Contains texts text)
contains_settled texts text = elim (cases_Bool (list_any (bytes_eq text) texts)) [
  | inl is ↦ inl (among_says texts text is)
  | inr never ↦ inr (λ h. false≢true (sym never ∙ among_passes texts text h))
]

clean_settled : (entry : TextEntry) → Settled (IsClean entry)
clean_settled entry = elim (all_settled (Lacks 0) (lacks_settled 0) (quoted_texts entry)) [
  | inl no_nul ↦ elim (some_settled (Lacks 4) (lacks_settled 4) entry.context) [
    | inl context ↦ elim (lacks_settled 4 entry.id)
        [ inl id ↦ inl (record { no_nul = no_nul; context = context; id = id }) | inr never ↦ inr (λ h. never h.id) ]
    | inr never ↦ inr (λ h. never h.context)
  ]
  | inr never ↦ inr (λ h. never h.no_nul)
]

-- the texts of an entry can stand in it, or have a fault
pub texts_or_fault : (entry : TextEntry) → HasTexts entry ⊎ ((kind : PoFault) × EntryTextFault entry kind)
texts_or_fault entry = elim (all_settled IsUtf8 utf8_settled (quoted_texts entry)) [
  | inl utf8 ↦ elim (clean_settled entry) [
    | inl clean ↦ inl (record { utf8 = utf8; clean = clean })
    | inr never ↦ inr
        (ForbiddenByte, forbidden utf8 never)
  ]
  | inr never ↦ inr (NotUtf8, not_utf8 never)
]

-- its charset is admitted where it is a header, or it isn't
pub charset_settled : (entry : TextEntry) → Settled (HasAdmittedCharset entry)
charset_settled entry = elim (cases_Bool (is_header entry)) [
  | inl header ↦ elim (contains_settled
      ([] ∷ codes "utf-8" ∷ codes "utf8" ∷ codes "us-ascii" ∷ codes "ascii" ∷ codes "charset" ∷ [])
      (map to_ascii_lowercase (charset_of (first_form entry.forms))))
      [ inl admitted ↦ inl (λ t. admitted) | inr never ↦ inr (λ h. never (h header)) ]
  | inr none ↦ inl (λ t. absurd (false≢true (sym none ∙ t)))
]
