-- The fields of an entry that its comments make, their bytes UTF-8 as the text is.
use Rattle.po_reader.proofs.Prelude.{All, All-append, All-cons, All-filter, All-head, All-left, All-map, All-nil, All-push, All-right, All-tail, AreDistinct, Bool, CommentKind, CommentText, Contains, Contains-push_cases, Extracted, FailsFirst, Flags, Head, HoldsHead, IsCharBoundary-after_ascii, IsCharBoundary-before_ascii, IsCleanLine, IsCommentOf, IsFlag, IsReference, IsText, IsUtf8-drop, IsUtf8-take, Lacks, List, None, Option, PreviousText, Reference, TextEntry, TextPrevious, Translator, [], ap, append-nil, append_assoc, arith, bytes_eq, cases_Bool, codes, common_steps, drop, eqb-false, eqb-true, false, false≢true, filter, filter_passes, flat_map, fold_push, get_or, if◌then◌else◌, inl, inr, is_blank, is_fuzzy_flag, is_not_empty, kept_entry, kept_texts, length, length-append, list_any, list_any_at, listed_flags, listed_references, map, ne_eqb, no_previous, not-true, prefix_len, refl, same_kind, skip_blanks, slice_split, slice_texts, subst, suc, sym, take, texts_of, trimmed, true, with_flag, with_head, with_kept_head, with_previous, without_end, ℕ, ◌++◌, ◌+◌, ◌<◌, ◌==◌, ◌||◌, ◌∙◌, ◌∷◌, ◌≡◌, ◌≢◌}
use Rattle.std.specs.Borrow.{Bor}
use Rattle.std.specs.Fn.{CalledAt}
use Rattle.std.specs.Iterator.{Yields}
use Rattle.std.specs.Slice.Iter.{split_callee, split_done, split_rest, split_steps}
use Rattle.std.specs.Prelude.{fold, ◌≤◌}
use Rattle.std.proofs.lemmas.List.Splits.{slice_split_at, slice_split_none}
use Rattle.std.proofs.lemmas.Iterator.Consumers.{YieldsList-end}
use Rattle.std.proofs.lemmas.Iterator.Splits.{YieldsList-from_slice_split}
use denote.Param.Members.{Mut}
use Rattle.po_syntax.specs.Facts.Runs.{end_parts, kept_is, parts_of, run_length}
use Rattle.po_syntax.proofs.Keywords.{of_blank}
use Rattle.std.proofs.Math.Seq.{drop-append_seam, get_or-append_seam, take-append_seam}
use Rattle.std.proofs.lemmas.Slice.Eq.{bytes_eq-Decides}

abbrev pub is_comma : ℕ → Bool
is_comma b = b == 44

-- at the end of a loop over the parts of a text all of them were yielded
pub all_parts : {F : Type 0} (s made t u : _) {g : Mut F (Bor ℕ × Unit {0}) Bool} (xs : List (Bor (List ℕ)))
    → Yields (split_steps g) s xs t → {r : Option (Bor (List ℕ))} → r ≡ None → split_steps g t r u
    → s ≡ made → (ends : ℕ → Bool) (text : List ℕ) {f : F} → split_rest made ≡ text → split_done made ≡ false
    → split_callee made ≡ f
    → ((x : ℕ) (b : Bool) (q : F) → CalledAt g f x b q → (q ≡ f) × (b ≡ ends x))
    → map (λ x. x.now) xs ≡ slice_split ends text
all_parts s made t u {g = g} xs y none step is ends text rest done closure tests =
    (YieldsList-end (YieldsList-from_slice_split g ends text (ap split_rest is ∙ rest) (ap split_done is ∙ done)
    (ap split_callee is ∙ closure) tests) xs t y _ u none step).0

-- an empty flag isn't `fuzzy`
pub any_listed : (parts : List (List ℕ)) → list_any (λ part. is_fuzzy_flag (trimmed part)) parts
    ≡ list_any is_fuzzy_flag (filter is_not_empty (map trimmed parts))
any_listed [] = refl
any_listed (part ∷ parts) = grind (arith, common_steps, ne_eqb, any_listed parts)

-- one text, without a comma, has one flag, unless it is empty
pub only_flag : (texts : List (Bor (List ℕ))) (none : Bor (List ℕ)) → 1 ≤ length texts → length texts < 2
    → ((k d : ℕ) → 0 ≤ k → k < length (get_or texts 0 none).now
    → is_comma (get_or (get_or texts 0 none).now k d) ≡ false)
    → flat_map listed_flags (slice_texts texts) ≡ filter is_not_empty (trimmed (get_or texts 0 none).now ∷ [])
only_flag [] none some few other = absurd (omega (arith, some))
only_flag (text ∷ []) none some few other =
    append-nil (listed_flags text.now) ∙ ap (λ parts. filter is_not_empty (map trimmed parts))
    (slice_split_none is_comma text.now (λ k d inside. other k d (omega arith) inside))
only_flag (text ∷ next ∷ texts) none some few other = absurd (omega (arith, few))

none_kept : (all : Bool) → [] ≡ kept_texts all []
none_kept true = refl
none_kept false = refl

pub holds_nothing : (all : Bool) (head : Head) → head.comments ≡ [] → head.extracted ≡ [] → head.references ≡ []
    → head.flags.items ≡ [] → head.fuzzy ≡ false → head.previous ≡ no_previous → HoldsHead all head [] []
holds_nothing all head comments extracted references flags fuzzy previous = grind (arith, common_steps, none_kept)

pub holds_previous : (all : Bool) (head : Head) (fields : TextPrevious) (comment_texts : List CommentText)
    (previous : List PreviousText) (text : PreviousText) → HoldsHead all head comment_texts previous
    → fields ≡ with_previous text.keyword text.text head.previous
    → HoldsHead all (record head { previous = fields }) comment_texts (previous ++ text ∷ [])
holds_previous all head fields comment_texts previous text h e = grind (arith, common_steps, fold_push)

-- the entry that is made of a head
pub kept_from : (all : Bool) (cs : List CommentText) (previous : List PreviousText) (own : TextEntry)
    → with_kept_head all cs previous own ≡ kept_entry all (with_head cs previous own)
kept_from true cs previous own = refl
kept_from false cs previous own = refl

pub all_kept : (entries : List TextEntry) → map (kept_entry true) entries ≡ entries
all_kept [] = refl
all_kept (entry ∷ entries) = ap (λ es. entry ∷ es) (all_kept entries)

-- what holds of elements that are mapped holds where they are mapped
pub all_unmapped : {X Y : Type 0} (P : Y → Type 0) (f : X → Y) (xs : List X) → All P (map f xs) → All (λ x. P (f x)) xs
all_unmapped P f [] h = All-nil (λ x. P (f x))
all_unmapped P f (x ∷ xs) h =
    All-cons (λ y. P (f y)) x xs (All-head P (f x) (map f xs) h) (all_unmapped P f xs (All-tail P (f x) (map f xs) h))

-- The fields that the comments of a text make: their bytes stay UTF-8 where a line is cut and trimmed.

-- what holds of a text that is cut at a byte that passes the test holds of both parts
abbrev Cuts : (List ℕ → Type 0) → (ℕ → Bool) → Type 0
Cuts P test = (xs : List ℕ) (b : ℕ) (ys : List ℕ) → test b ≡ true → P (xs ++ b ∷ ys) → P xs × P ys

all_cut : (P : ℕ → Type 0) (xs : List ℕ) (b : ℕ) (ys : List ℕ) → All P (xs ++ b ∷ ys) → All P xs × All P ys
all_cut P xs b ys h = (All-left P xs (b ∷ ys) h, All-tail P b ys (All-right P xs (b ∷ ys) h))

line_cut : (test : ℕ → Bool) → ((b : ℕ) → test b ≡ true → b < 128) → Cuts IsCleanLine test
line_cut test ascii xs b ys e h =
    let text = xs ++ b ∷ ys in
    let whole : text ≡ (xs ++ b ∷ []) ++ ys = sym (append_assoc xs (b ∷ []) ys) in
    let long : length xs + 1 ≡ length (xs ++ b ∷ []) = omega (arith, length-append xs (b ∷ [])) in
    let inside : length xs < length text = omega (arith, length-append xs (b ∷ ys)) in
    let low : get_or text (length xs) 0 < 128 = rw get_or-append_seam (ascii b e) in
    let before = rw take-append_seam at
    (IsUtf8-take text (length xs) h.utf8 (IsCharBoundary-before_ascii text (length xs) inside low)) in
    let after = rw (long, whole, drop-append_seam) at
    (IsUtf8-drop text (length xs + 1) h.utf8 (IsCharBoundary-after_ascii text (length xs) h.utf8 inside low)) in
    let no_nul = all_cut (λ c. c ≢ 0) xs b ys h.no_nul in
    let one_line = all_cut (λ c. c ≢ 10) xs b ys h.one_line in (
      record { utf8 = before; no_nul = no_nul.0; one_line = one_line.0 },
      record { utf8 = after; no_nul = no_nul.1; one_line = one_line.1 },
    )

blank_ascii : (b : ℕ) → is_blank b ≡ true → b < 128
blank_ascii b e = of_blank (λ a. a < 128) (omega arith) (omega arith) (omega arith) (omega arith) (omega arith) b e

-- a part of a text that is cut, in which no byte passes
abbrev IsPart : (List ℕ → Type 0) → (ℕ → Bool) → List ℕ → Type 0
IsPart P test part = P part × All (λ b. test b ≡ false) part

parts_hold : (P : List ℕ → Type 0) (test : ℕ → Bool) → Cuts P test → (text prefix : List ℕ)
    → All (λ b. test b ≡ false) prefix → P (prefix ++ text) → All (IsPart P test) (slice_split test (prefix ++ text))
parts_hold P test cut [] prefix none h =
    rw (append-nil prefix, slice_split_none test prefix none)
    (All-cons (IsPart P test) prefix [] (subst P (append-nil prefix) h, none) (All-nil (IsPart P test)))
parts_hold P test cut (b ∷ text) prefix none h =
    elim (cases_Bool (test b)) [
      | inl e ↦
          let both = cut prefix b text e h in
          rw (slice_split_at test prefix b text none e)
          (All-cons (IsPart P test) prefix (slice_split test text) (both.0, none)
          (parts_hold P test cut text [] (All-nil (λ c. test c ≡ false)) both.1))
      | inr e ↦
          let moved : (prefix ++ b ∷ []) ++ text ≡ prefix ++ b ∷ text = append_assoc prefix (b ∷ []) text in
          subst (λ t. All (IsPart P test) (slice_split test t)) moved
          (parts_hold P test cut text (prefix ++ b ∷ []) (All-push (λ c. test c ≡ false) prefix b none e)
          (subst P (sym moved) h))
    ]

-- and it holds without the bytes at both ends that pass
after_run : (P : List ℕ → Type 0) (test : ℕ → Bool) → Cuts P test → (run rest : List ℕ) → All (λ b. test b ≡ true) run
    → P (run ++ rest) → P rest
after_run P test cut [] rest all h = h
after_run P test cut (b ∷ run) rest all h =
    after_run P test cut run rest (All-tail (λ c. test c ≡ true) b run all)
    (cut [] b (run ++ rest) (All-head (λ c. test c ≡ true) b run all) h).1

before_run : (P : List ℕ → Type 0) (test : ℕ → Bool) → Cuts P test → (kept run : List ℕ) → All (λ b. test b ≡ true) run
    → P (kept ++ run) → P kept
before_run P test cut kept [] all h = subst P (append-nil kept) h
before_run P test cut kept (b ∷ run) all h = (cut kept b run (All-head (λ c. test c ≡ true) b run all) h).0

trimmed_holds : (P : List ℕ → Type 0) → Cuts P is_blank → (text : List ℕ) → P text → P (trimmed text)
trimmed_holds P cut text h =
    let start = parts_of is_blank text in
    let end = end_parts is_blank (skip_blanks text) in
    before_run P is_blank cut (trimmed text) end.end end.passes
    (subst P end.whole (after_run P is_blank cut (take (prefix_len is_blank text) text)
    (skip_blanks text) start.passes (subst P (sym start.whole) h)))

first_kept : (p : ℕ → Bool) (kept end : List ℕ) → FailsFirst p (kept ++ end) → FailsFirst p kept
first_kept p [] end h = tt
first_kept p (b ∷ kept) end h = h

-- a trimmed text is its own
trimmed_once : (text : List ℕ) → trimmed (trimmed text) ≡ trimmed text
trimmed_once text =
    let kept = trimmed text in
    let parts = end_parts is_blank (skip_blanks text) in
    let first : FailsFirst is_blank kept =
    first_kept is_blank kept parts.end (subst (FailsFirst is_blank) parts.whole (parts_of is_blank text).ends) in
    ap (without_end is_blank)
    (ap (λ n. drop n kept) (run_length is_blank [] kept (All-nil (λ b. is_blank b ≡ true)) first))
    ∙ sym (ap (without_end is_blank) (append-nil kept))
    ∙ kept_is is_blank kept parts.fails [] (All-nil (λ b. is_blank b ≡ true))

-- a comment of a head is one of its kind
abbrev pub SoundCommentText : CommentText → Type 0
SoundCommentText comment_text = IsCommentOf comment_text.kind comment_text.text

same_kinds : (a b : CommentKind) → same_kind a b ≡ true → b ≡ a
same_kinds Translator Translator e = refl
same_kinds Extracted Extracted e = refl
same_kinds Reference Reference e = refl
same_kinds Flags Flags e = refl
same_kinds a b e = cc

pub kind_sound : (kind : CommentKind) (comment_texts : List CommentText) → All SoundCommentText comment_texts
    → All (IsCommentOf kind) (texts_of kind comment_texts)
kind_sound kind comment_texts h =
    let of_kind : CommentText → Bool = λ c. same_kind kind c.kind in
    All-map (IsCommentOf kind) (λ (c : CommentText). c.text) (filter of_kind comment_texts)
    (λ k d inside. subst (λ (found : CommentKind). IsCommentOf found (get_or (filter of_kind comment_texts) k d).text)
    (same_kinds kind _ (filter_passes of_kind comment_texts k d inside))
    (All-filter of_kind SoundCommentText comment_texts h k d inside))

line_text : (kind : CommentKind) (text : List ℕ) → IsCommentOf kind text → IsCleanLine text
line_text kind text h = record
    { utf8 = h.comment.valid.utf8; no_nul = h.comment.valid.no_nul; one_line = h.comment.one_line }

-- the elements of texts, where those of each are sound
each_sound : (kind : CommentKind) (P : List ℕ → Type 0) (listed : List ℕ → List (List ℕ))
    → ((text : List ℕ) → IsCleanLine text → All P (listed text)) → (texts : List (List ℕ))
    → All (IsCommentOf kind) texts → All P (flat_map listed texts)
each_sound kind P listed sound [] h = All-nil P
each_sound kind P listed sound (text ∷ texts) h =
    All-append P (listed text) (flat_map listed texts)
    (sound text (line_text kind text (All-head (IsCommentOf kind) text texts h)))
    (each_sound kind P listed sound texts (All-tail (IsCommentOf kind) text texts h))

some_byte : (text : List ℕ) → is_not_empty text ≡ true → text ≢ []
some_byte text e none = let length_zero : length text ≡ 0 = ap length none in eqb-false _ _ (not-true _ e) length_zero

elements_sound : (text : List ℕ) → IsCleanLine text → All IsReference (listed_references text)
elements_sound text h =
    let parts = parts_hold IsCleanLine is_blank (line_cut is_blank blank_ascii) text []
    (All-nil (λ b. is_blank b ≡ false)) h in
    λ k d inside.
    let part = All-filter is_not_empty (IsPart IsCleanLine is_blank) (slice_split is_blank text) parts k d inside in
    record {
      valid = record { utf8 = part.0.utf8; no_nul = part.0.no_nul };
      some_byte = some_byte _ (filter_passes is_not_empty (slice_split is_blank text) k d inside);
      no_blank = part.1;
      one_line = part.0.one_line;
    }

pub references_sound : (texts : List (List ℕ)) → All (IsCommentOf Reference) texts
    → All IsReference (flat_map listed_references texts)
references_sound texts h = each_sound Reference IsReference listed_references elements_sound texts h

-- an element of a flag line
pub record SoundFlagElement (element : List ℕ) : Type 0 where
  pub valid : IsText element
  pub some : element ≢ []
  pub no_blank_ends : trimmed element ≡ element
  pub no_comma : Lacks 44 element
  pub one_line : Lacks 10 element

-- a part of a flag line, also one that is trimmed
abbrev IsFlagPart : List ℕ → Type 0
IsFlagPart part = IsCleanLine part × Lacks 44 part

flag_cut : Cuts IsFlagPart is_blank
flag_cut xs b ys e h =
    let line = line_cut is_blank blank_ascii xs b ys e h.0 in let no_comma =
    all_cut (λ c. c ≢ 44) xs b ys h.1 in ((line.0, no_comma.0), (line.1, no_comma.1))

comma_ascii : (b : ℕ) → (b == 44) ≡ true → b < 128
comma_ascii b e = omega (arith, eqb-true b 44 e)

flag_elements_sound : (text : List ℕ) → IsCleanLine text → All SoundFlagElement (listed_flags text)
flag_elements_sound text h =
    let parts = parts_hold IsCleanLine (λ b. b == 44) (line_cut (λ b. b == 44) comma_ascii) text []
    (All-nil (λ b. (b == 44) ≡ false)) h in
    let Q : List ℕ → Type 0 = λ part. IsFlagPart part × (trimmed part ≡ part) in
    let each : All Q (map trimmed (slice_split (λ b. b == 44) text)) =
    All-map Q trimmed (slice_split (λ b. b == 44) text)
    (λ k d inside. let part = parts k d inside in (
      trimmed_holds IsFlagPart flag_cut _ (part.0, λ i z within. eqb-false _ _ (part.1 i z within)),
      trimmed_once (get_or (slice_split (λ b. b == 44) text) k d),
    )) in
    λ k d inside.
    let part = All-filter is_not_empty Q (map trimmed (slice_split (λ b. b == 44) text)) each k d inside in
    record {
      valid = record { utf8 = part.0.0.utf8; no_nul = part.0.0.no_nul };
      some = some_byte _ (filter_passes is_not_empty (map trimmed (slice_split (λ b. b == 44) text)) k d inside);
      no_blank_ends = part.1;
      no_comma = part.0.1;
      one_line = part.0.0.one_line;
    }

pub all_flag_elements_sound : (texts : List (List ℕ)) → All (IsCommentOf Flags) texts
    → All SoundFlagElement (flat_map listed_flags texts)
all_flag_elements_sound texts h = each_sound Flags SoundFlagElement listed_flags flag_elements_sound texts h

-- flags that can stand in an entry
pub record SoundFlags (flags : List (List ℕ)) : Type 0 where
  pub all : All IsFlag flags
  pub distinct : AreDistinct flags

distinct_push : (flags : List (List ℕ)) (element : List ℕ) → AreDistinct flags → (Contains flags element → ⊥)
    → AreDistinct (flags ++ element ∷ [])
distinct_push [] element h new = (λ (k, below, is). omega (arith, below), tt)
distinct_push (flag ∷ flags) element h new = (
  λ among. elim (Contains-push_cases flags element flag among)
      [ inl before ↦ h.0 before | inr same ↦ new (0, omega arith, sym same) ],
  distinct_push flags element h.1 (λ (k, below, is). new (suc k, omega (arith, below), is)),
)

not_among : (flags : List (List ℕ)) (element : List ℕ) → list_any (bytes_eq element) flags ≡ false
    → Contains flags element → ⊥
not_among flags element e (k, below, is) =
    false≢true (sym e ∙ list_any_at (bytes_eq element) flags k element below ((bytes_eq-Decides element _).1 (sym is)))

flag_added : (flags : List (List ℕ)) (element : List ℕ) → SoundFlags flags → SoundFlagElement element
    → SoundFlags (with_flag flags element)
flag_added flags element h w = found (is_fuzzy_flag element) (list_any (bytes_eq element) flags) refl refl where
  found : (f a : Bool) → is_fuzzy_flag element ≡ f → list_any (bytes_eq element) flags ≡ a
      → SoundFlags (if f || a then flags else flags ++ element ∷ [])
  found true a e d = h
  found false true e d = h
  found false false e d =
      let here : IsFlag element = record {
        valid = w.valid;
        some_byte = w.some;
        no_blank_ends = w.no_blank_ends;
        no_comma = w.no_comma;
        one_line = w.one_line;
        not_fuzzy = λ same. false≢true (sym e ∙ (bytes_eq-Decides element (codes "fuzzy")).1 same);
      } in
      record {
        all = All-push IsFlag flags element h.all here;
        distinct =
            distinct_push flags element h.distinct (not_among flags element d);
      }

pub flags_sound : (elements : List (List ℕ)) (flags : List (List ℕ)) → SoundFlags flags → All SoundFlagElement elements
    → SoundFlags (fold with_flag flags elements)
flags_sound [] flags h w = h
flags_sound (element ∷ elements) flags h w =
    flags_sound elements (with_flag flags element)
    (flag_added flags element h (All-head SoundFlagElement element elements w))
    (All-tail SoundFlagElement element elements w)
