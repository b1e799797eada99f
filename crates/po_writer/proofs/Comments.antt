-- The comments and previous texts of a written entry give its fields back.
use Rattle.po_writer.proofs.Prelude.{All, All-cons, All-head, All-nil, All-right, All-tail, AreDistinct, Bool, Comment, CommentKind, CommentText, Contains, Extracted, Flags, HoldsItems, IsReference, IsTranslatorComment, List, PreviousText, Reference, SpellsComment, SpellsHead, TextItem, Translator, [], all_flags, ap, append-nil, append_assoc, ap₂, arith, bytes_eq, codes, comment, comment_lines, common_steps, cond, drop, elements_line, eqb-true, extracted as extracted_mark, false, false_from_ne_true, filter, filter-append, flags as flags_mark, flat_map, get_or_default, head_comment, is_blank, is_fuzzy_flag, is_mark, is_not_empty, length, length-append, list_any, listed_flags, listed_references, map, map-append, ne_eqb, nothing, or_parts, prefix_len, previous_text, reference, refl, rules, same_from_push, same_kind, skip_blanks, slice_index_or, slice_split, slice_split_at, slice_split_none, subst, suc, sym, texts_of, translator, trim_returns, trimmed, true, with_flag, without_end, ℕ, ◌++◌, ◌+◌, ◌<◌, ◌==◌, ◌||◌, ◌∙◌, ◌∷◌, ◌≡◌, ◌≢◌}
use Rattle.std.proofs.Common.{fold}
use Rattle.po_syntax.specs.Facts.Runs.{FailsLast, from_end}
use Rattle.po_writer.proofs.Utf8Lines.{IsLine, line-append, plain_line}
use Rattle.po_syntax.proofs.Keywords.{or_step}
use Rattle.po_writer.proofs.WrittenLines.{BeginsLow, Block, empty_block, line_block, two_blocks}
use Rattle.std.proofs.lemmas.List.Folds.{list_any-append, list_any_none}
use Rattle.std.proofs.lemmas.Slice.Eq.{bytes_eq-Decides}

-- the text may stand on a line, holds a byte, and ends with no blank
pub record IsListed (text : List ℕ) : Type 0 where
  pub line : IsLine text
  pub some : 0 < length text
  pub ends : FailsLast is_blank text

last_after : (xs ys : List ℕ) → 0 < length ys → FailsLast is_blank ys → FailsLast is_blank (xs ++ ys)
last_after xs =
    from_end (λ ys. 0 < length ys → FailsLast is_blank ys → FailsLast is_blank (xs ++ ys))
    (λ some. absurd (omega (arith, some)))
    (λ ys y ih some h before x e. let same = same_from_push (xs ++ ys) before y x (append_assoc xs ys (y ∷ []) ∙ e) in
    ap is_blank (sym same.1) ∙ h ys y refl)

pub listed_after : (xs ys : List ℕ) → IsLine xs → IsListed ys → IsListed (xs ++ ys)
listed_after xs ys h g =
    record {
      line = line-append xs ys h g.line;
      some = omega (arith, g.some, length-append xs ys);
      ends =
          last_after xs ys g.some g.ends;
    }

-- elements after a first one, each after the separator
abbrev pub following : List ℕ → List (List ℕ) → List ℕ
following separator elements = flat_map (λ element. separator ++ element) elements

pub elements_listed : (separator element : List ℕ) (elements : List (List ℕ)) → IsLine separator → IsListed element
    → All IsListed elements → IsListed (element ++ following separator elements)
elements_listed separator element [] s h g = rw (append-nil element) h
elements_listed separator element (next ∷ elements) s h g =
    rw (append_assoc separator next (following separator elements))
    (listed_after element _ h.line
    (listed_after separator _ s
    (elements_listed separator next elements s (All-head IsListed next elements g)
    (All-tail IsListed next elements g))))

-- such a text ends with no CR
pub no_return : (text : List ℕ) → IsListed text → trim_returns text ≡ text
no_return text h = grind (arith, common_steps, append-nil, or_parts, All-nil)

pub some_text : (text : List ℕ) → text ≢ [] → 0 < length text
some_text [] h = absurd (h refl)
some_text (b ∷ text) h = omega arith

one_element : (element : List ℕ) (elements : List (List ℕ)) → 0 < length element
    → filter is_not_empty (element ∷ elements) ≡ element ∷ filter is_not_empty elements
one_element element elements some = rw (ne_eqb (length element) 0 (λ e. omega (arith, e, some))) refl

pub reference_listed : (text : List ℕ) → IsReference text → IsListed text
reference_listed text h = record {
  line = record { valid = h.valid; one_line = h.one_line };
  some = some_text text h.some_byte;
  ends = λ before b e. All-head (λ c. is_blank c ≡ false) b []
      (All-right (λ c. is_blank c ≡ false) before (b ∷ []) (subst (All (λ c. is_blank c ≡ false)) e h.no_blank));
}

pub references_cut : (element : List ℕ) (elements : List (List ℕ)) → IsReference element → All IsReference elements
    → listed_references (element ++ following (32 ∷ []) elements) ≡ element ∷ elements
references_cut element [] h g = search (rules, append-nil, slice_split_none, one_element, some_text)
references_cut element (next ∷ elements) h g =
    ap (filter is_not_empty) (slice_split_at is_blank element 32 (next ++ following (32 ∷ []) elements) h.no_blank refl)
    ∙ one_element element (slice_split is_blank (next ++ following (32 ∷ []) elements))
    (some_text element h.some_byte)
    ∙ ap (λ t. element ∷ t) (references_cut next elements (All-head IsReference next elements g)
    (All-tail IsReference next elements g))

-- an element of a `#,` line
pub record IsFlagElement (element : List ℕ) : Type 0 where
  pub line : IsLine element
  pub some : 0 < length element
  pub no_blank_ends : trimmed element ≡ element
  pub no_comma : All (λ b. (b == 44) ≡ false) element

pub flag_listed : (element : List ℕ) → IsFlagElement element → IsListed element
flag_listed element h = grind (arith, common_steps)

skip_blank : (text : List ℕ) → skip_blanks (32 ∷ text) ≡ skip_blanks text
skip_blank text = let next : 1 + prefix_len is_blank text ≡ suc (prefix_len is_blank text) =
    omega arith in ap (λ n. drop n (32 ∷ text)) next

trimmed_element : (element : List ℕ) → IsFlagElement element → trimmed (32 ∷ element) ≡ element
trimmed_element element h = ap (without_end is_blank) (skip_blank element) ∙ h.no_blank_ends

pub flags_cut : (element : List ℕ) (elements : List (List ℕ)) → IsFlagElement element → All IsFlagElement elements
    → listed_flags (32 ∷ element ++ following (44 ∷ 32 ∷ []) elements) ≡ element ∷ elements
flags_cut element [] h g = search (rules, All-cons, append-nil, slice_split_none, trimmed_element, one_element)
flags_cut element (next ∷ elements) h g =
    let whole = All-cons (λ b. (b == 44) ≡ false) 32 element refl h.no_comma in
    ap (λ t. filter is_not_empty (map trimmed t))
    (slice_split_at (λ b. b == 44) (32 ∷ element) 44 (32 ∷ next ++ following (44 ∷ 32 ∷ []) elements) whole refl)
    ∙ rw (trimmed_element element h)
    (one_element element (map trimmed (slice_split (λ b. b == 44) (32 ∷ next ++ following (44 ∷ 32 ∷ []) elements)))
    h.some) ∙ ap (λ t. element ∷ t)
    (flags_cut next elements (All-head IsFlagElement next elements g)
    (All-tail IsFlagElement next elements g))

-- The comments and previous texts that stand before an entry's own lines.

-- the items are these comments and previous texts
abbrev pub HeadPart : List CommentText → List PreviousText → List TextItem → Type 0
HeadPart comment_texts previous here = SpellsHead here comment_texts previous

pub two_parts : {here later : List TextItem} {comment_texts more : List CommentText}
    {previous others : List PreviousText} → SpellsHead here comment_texts previous → SpellsHead later more others
    → SpellsHead (here ++ later) (comment_texts ++ more) (previous ++ others)
two_parts nothing g = g
two_parts (head_comment h) g = head_comment (two_parts h g)
two_parts {later = later} (previous_text {own = own} {items = items} w h) g =
    rw (append_assoc own items later) (previous_text w (two_parts h g))

-- the comments and previous texts of two blocks
pub head_blocks : {comment_texts more : List CommentText} {previous others : List PreviousText} {xs ys : List ℕ}
    → Block (HeadPart comment_texts previous) xs → Block (HeadPart more others) ys
    → Block (HeadPart (comment_texts ++ more) (previous ++ others)) (xs ++ ys)
head_blocks first second = two_blocks first second (λ here later g h. two_parts g h)

abbrev pub comment_of : CommentKind → List ℕ → CommentText
comment_of kind text = record { kind = kind; text = text }

-- after `#` the line is a comment of this kind, and the rest is what follows its mark
abbrev pub IsCommentLine : CommentKind → List ℕ → List ℕ → Type 0
IsCommentLine kind [] rest = ⊥
IsCommentLine kind (b ∷ text) rest = (b ≡ 35) × SpellsComment text kind rest

comment_held : (kind : CommentKind) (line rest : List ℕ) (number : ℕ) → IsCommentLine kind line rest
    → trim_returns rest ≡ rest → HoldsItems number line (Comment kind rest number ∷ [])
comment_held kind [] rest number h trimmed = absurd h
comment_held kind (b ∷ text) rest number h trimmed =
    subst (λ a. HoldsItems number (a ∷ text) (Comment kind rest number ∷ [])) (sym h.0)
    (subst (λ shown. HoldsItems number (35 ∷ text) (Comment kind shown number ∷ [])) trimmed (comment h.1))

-- a line that is such a comment
pub comment_block : (kind : CommentKind) (line rest : List ℕ) → IsLine line → BeginsLow line
    → IsCommentLine kind line rest → trim_returns rest ≡ rest
    → Block (HeadPart (comment_of kind rest ∷ []) []) (line ++ 10 ∷ [])
comment_block kind line rest clean low shape trimmed =
    line_block line clean low
    (λ number. (
      Comment kind rest number ∷ [],
      head_comment nothing,
      comment_held kind line rest number shape trimmed,
    ))

-- the comments of one kind
abbrev pub head_comments : CommentKind → List (List ℕ) → List CommentText
head_comments kind [] = []
head_comments kind (text ∷ texts) = comment_of kind text ∷ head_comments kind texts

-- after this mark the text is a comment of this kind, on a line of its own
pub record IsMarked (kind : CommentKind) (mark : List ℕ) (text : List ℕ) : Type 0 where
  pub line : IsLine (mark ++ text)
  pub low : BeginsLow (mark ++ text)
  pub shape : IsCommentLine kind (mark ++ text) text
  pub trimmed : trim_returns text ≡ text

pub comments_block : (kind : CommentKind) (mark : List ℕ) (texts : List (List ℕ)) → All (IsMarked kind mark) texts
    → Block (HeadPart (head_comments kind texts) []) (comment_lines mark texts)
comments_block kind mark [] h = empty_block nothing
comments_block kind mark (text ∷ texts) h =
    let first = All-head (IsMarked kind mark) text texts h in
    head_blocks (comment_block kind (mark ++ text) text first.line first.low first.shape first.trimmed)
    (comments_block kind mark texts (All-tail (IsMarked kind mark) text texts h))

pub extracted_shape : (text : List ℕ) → IsCommentLine Extracted (codes "#." ++ text) text
extracted_shape text = (refl, extracted_mark)

pub reference_shape : (text : List ℕ) → IsCommentLine Reference (codes "#:" ++ text) text
reference_shape text = (refl, reference)

pub flags_shape : (text : List ℕ) → IsCommentLine Flags (codes "#," ++ text) text
flags_shape text = (refl, flags_mark)

mark_contained : (b : ℕ) → is_mark b ≡ true → Contains (codes ".:,|~") b
mark_contained b e =
    or_step (b == 46 || b == 58 || b == 44 || b == 124) (b == 126)
    (or_step (b == 46 || b == 58 || b == 44) (b == 124)
    (or_step (b == 46 || b == 58) (b == 44) (or_step (b == 46) (b == 58)
    (λ h. (0, omega arith, sym (eqb-true b 46 h))) (λ h. (1, omega arith, sym (eqb-true b 58 h))))
    (λ h. (2, omega arith, sym (eqb-true b 44 h)))) (λ h. (3, omega arith, sym (eqb-true b 124 h))))
    (λ h. (4, omega arith, sym (eqb-true b 126 h))) e

pub translator_shape : (text : List ℕ) → IsTranslatorComment text → IsCommentLine Translator (codes "#" ++ text) text
translator_shape [] h = (refl, translator tt)
translator_shape (b ∷ text) h =
    (refl, translator (false_from_ne_true (is_mark b) (λ is. h.plain refl b text refl (mark_contained b is))))

-- The comments of a written entry give its fields back.

-- the text of the comment that holds these elements, where there are any
abbrev pub elements_text : List ℕ → List (List ℕ) → List (List ℕ)
elements_text separator [] = []
elements_text separator (element ∷ elements) = (32 ∷ element ++ following separator elements) ∷ []

texts_of-append : (kind : CommentKind) (xs ys : List CommentText)
    → texts_of kind (xs ++ ys) ≡ texts_of kind xs ++ texts_of kind ys
texts_of-append kind xs ys = grind (arith, common_steps, filter-append, map-append)

-- of the comments of one kind, those of a kind
one_kind : (kind other : CommentKind) (b : Bool) → same_kind kind other ≡ b → (texts : List (List ℕ))
    → texts_of kind (head_comments other texts) ≡ cond b texts []
one_kind kind other true is [] = refl
one_kind kind other false is [] = refl
one_kind kind other true is (text ∷ texts) = rw is (ap (λ t. text ∷ t) (one_kind kind other true is texts))
one_kind kind other false is (text ∷ texts) = rw is (one_kind kind other false is texts)

-- the comments of all kinds, in the order in which they are written
abbrev pub all_comments : List (List ℕ) → List (List ℕ) → List (List ℕ) → List (List ℕ) → List CommentText
all_comments comments extracted references flags =
    ((head_comments Translator comments ++ head_comments Extracted extracted) ++ head_comments Reference references)
    ++ head_comments Flags flags

pub kind_texts : (kind : CommentKind) (comments extracted references flags : List (List ℕ))
    → texts_of kind (all_comments comments extracted references flags)
    ≡ ((cond (same_kind kind Translator) comments [] ++ cond (same_kind kind Extracted) extracted [])
    ++ cond (same_kind kind Reference) references []) ++ cond (same_kind kind Flags) flags []
kind_texts kind comments extracted references flags = search (rules, texts_of-append, one_kind)

pub references_kept : (elements : List (List ℕ)) → All IsReference elements
    → flat_map listed_references (elements_text (32 ∷ []) elements) ≡ elements
references_kept [] h = refl
references_kept (element ∷ elements) h =
    append-nil (listed_references (32 ∷ element ++ following (32 ∷ []) elements))
    ∙ references_cut element elements (All-head IsReference element elements h)
    (All-tail IsReference element elements h)

pub flag_elements_kept : (elements : List (List ℕ)) → All IsFlagElement elements
    → flat_map listed_flags (elements_text (44 ∷ 32 ∷ []) elements) ≡ elements
flag_elements_kept [] h = refl
flag_elements_kept (element ∷ elements) h = search (rules, append-nil, flags_cut, All-head, All-tail)

differs : (a b : List ℕ) → (a ≡ b → ⊥) → bytes_eq a b ≡ false
differs a b h = false_from_ne_true (bytes_eq a b) (λ e. h ((bytes_eq-Decides a b).0 e))

-- a flag other than `fuzzy`
abbrev pub IsPlainFlag : List ℕ → Type 0
IsPlainFlag flag = flag ≡ codes "fuzzy" → ⊥

none_fuzzy : (flags : List (List ℕ)) → All IsPlainFlag flags → list_any is_fuzzy_flag flags ≡ false
none_fuzzy flags h = list_any_none is_fuzzy_flag flags
    (λ k d inside. differs (slice_index_or flags k d) (codes "fuzzy") (h k d inside))

pub fuzzy_kept : (fuzzy : Bool) (flags : List (List ℕ)) → All IsPlainFlag flags
    → list_any is_fuzzy_flag (all_flags fuzzy flags) ≡ fuzzy
fuzzy_kept true flags h = refl
fuzzy_kept false flags h = none_fuzzy flags h

-- none of these texts is the element
abbrev IsNew : List (List ℕ) → List ℕ → Type 0
IsNew texts element = list_any (bytes_eq element) texts ≡ false

new_push : (texts : List (List ℕ)) (last element : List ℕ) → IsNew texts element → (element ≡ last → ⊥)
    → IsNew (texts ++ last ∷ []) element
new_push texts last element h g = list_any-append (bytes_eq element) texts (last ∷ [])
    ∙ ap₂ (λ (a b : Bool). a || (b || false)) h (differs element last g)

found : (rest : List (List ℕ)) (k : ℕ) (d flag : List ℕ) → k < length rest → slice_index_or rest k d ≡ flag
    → slice_index_or rest k flag ≡ flag
found rest k d flag inside e = get_or_default rest k flag d inside ∙ e

still_new : (texts rest : List (List ℕ)) (flag : List ℕ) → All (IsNew texts) rest → (Contains rest flag → ⊥)
    → All (IsNew (texts ++ flag ∷ [])) rest
still_new texts rest flag h g = search (rules, new_push, found)

flags_added : (texts flags : List (List ℕ)) → All IsPlainFlag flags → AreDistinct flags → All (IsNew texts) flags
    → fold with_flag texts flags ≡ texts ++ flags
flags_added texts [] p d n = sym (append-nil texts)
flags_added texts (flag ∷ flags) p d n =
    rw (differs flag (codes "fuzzy") (All-head IsPlainFlag flag flags p), All-head (IsNew texts) flag flags n)
    (flags_added (texts ++ flag ∷ []) flags (All-tail IsPlainFlag flag flags p) d.1
    (still_new texts flags flag (All-tail (IsNew texts) flag flags n) d.0) ∙ append_assoc texts (flag ∷ []) flags)

pub flags_kept : (fuzzy : Bool) (flags : List (List ℕ)) → All IsPlainFlag flags → AreDistinct flags
    → fold with_flag [] (all_flags fuzzy flags) ≡ flags
flags_kept true flags p d = flags_added [] flags p d (λ k e inside. refl)
flags_kept false flags p d = flags_added [] flags p d (λ k e inside. refl)

-- a line of elements after the mark of its kind
pub elements_block : (kind : CommentKind) (mark separator : List ℕ) (elements : List (List ℕ))
    → ((text : List ℕ) → IsCommentLine kind (mark ++ text) (32 ∷ text)) → IsLine mark
    → ((text : List ℕ) → BeginsLow (mark ++ text)) → IsLine separator → All IsListed elements
    → Block (HeadPart (head_comments kind (elements_text separator elements)) [])
    (elements_line mark separator elements)
elements_block kind mark separator [] shape m low s h = empty_block nothing
elements_block kind mark separator (element ∷ elements) shape m low s h =
    let text = element ++ following separator elements in
    let all = elements_listed separator element elements s (All-head IsListed element elements h)
    (All-tail IsListed element elements h) in
    comment_block kind (mark ++ text) (32 ∷ text) (line-append mark text m all.line) (low text) (shape text)
    (no_return (32 ∷ text) (listed_after (32 ∷ []) text (plain_line (32 ∷ []) refl) all))
