-- A written entry reads as the entry, but for its line.
use Rattle.po_writer.proofs.Prelude.{All, All-cons, All-head, All-left, All-right, All-tail, All-weaker, AllPass-from_list_all, AreInOrder, Bool, CommentKind, CommentText, Extracted, Flags, IfSome, IsComment, IsEntry, IsFlag, IsReference, IsText, IsTranslatorComment, Keyword, List, MsgCtxt, MsgId, MsgIdPlural, MsgStr, MsgStrAt, None, Option, PreviousText, Reference, Some, SpellsBody, SpellsContext, SpellsEntry, SpellsForms, SpellsHead, SpellsKeywordText, SpellsTranslation, TextEntry, TextItem, TextPrevious, Translator, [], all_flags, all_listed_flags, ap, append-nil, arith, codes, comment_lines, decimal, elements_line, entry as spells_entry, entry_lines, false, flags_of, flat_map, form_lines, fuzzy_of, is_fuzzy_flag, keyword_lines, length, length-append, list_any, listed_flags, listed_references, ne_eqb, not, not-true, option_to_list, optional_lines, own_lines, own_marks, own_prefix, previous_lines, previous_marks, previous_of, previous_prefix, references_of, refl, rules, subst, texts_of, translation_lines, true, with, with_flag, with_head, with_line, without, ℕ, ◌++◌, ◌+◌, ◌<◌, ◌==◌, ◌^◌, ◌∙◌, ◌∷◌, ◌≡◌}
use Rattle.po_entry.specs.Spelling.{none}
use Rattle.po_writer.proofs.WrittenLines.{Block, empty_block, two_blocks, weaker_block}
use Rattle.po_writer.proofs.KeywordLines.{IsLineKeyword, IsLinePrefix, TextPart, context_written, id_written, no_prefix, numbered, own_obsolete, plural_written, previous_live, previous_obsolete, single_written, text_block}
use Rattle.po_writer.proofs.Comments.{HeadPart, IsFlagElement, IsListed, IsMarked, all_comments, comments_block, elements_block, elements_text, extracted_shape, flag_elements_kept, flag_listed, flags_kept, flags_shape, fuzzy_kept, head_blocks, kind_texts, reference_listed, reference_shape, references_kept, some_text, translator_shape}
use Rattle.po_writer.proofs.WrittenLists.{keyword_some}
use Rattle.std.proofs.Common.{fold}
use Rattle.po_entry.proofs.AdmittedTexts.{on_option, quoted_parts}
use Rattle.po_writer.proofs.Utf8Lines.{line-append, plain_line}
use Rattle.po_entry.specs.Spelling as spell

-- the previous text of this keyword, where there is one
abbrev pub previous_text : Keyword → Option (List ℕ) → List PreviousText
previous_text keyword None = []
previous_text keyword (Some text) = record { keyword = keyword; text = text } ∷ []

previous_part : (obsolete : Bool) (keyword : Keyword) (text : List ℕ) (here : List TextItem)
    → TextPart keyword (previous_marks obsolete) text here → HeadPart [] (previous_text keyword (Some text)) here
previous_part obsolete keyword text here h =
    subst (λ items. SpellsHead items [] (previous_text keyword (Some text))) (append-nil here)
    (spell.previous_text {obsolete = obsolete} h.1 spell.nothing)

previous_block : (prefix spelling : List ℕ) (keyword : Keyword) (obsolete : Bool) (text : Option (List ℕ))
    → IsLinePrefix prefix (previous_marks obsolete) → IsLineKeyword spelling keyword
    → IfSome text IsText → Block (HeadPart [] (previous_text keyword text)) (optional_lines prefix spelling text)
previous_block prefix spelling keyword obsolete None p k h = empty_block spell.nothing
previous_block prefix spelling keyword obsolete (Some text) p k h =
    weaker_block (text_block prefix spelling keyword (previous_marks obsolete) text p k h)
    (λ items g. previous_part obsolete keyword text items g)

form_block : (prefix : List ℕ) (obsolete : Bool) (index : ℕ) (form : List ℕ) → IsLinePrefix prefix (own_marks obsolete)
    → IsText form → index < 2 ^ 32
    → Block (TextPart (MsgStrAt index) (own_marks obsolete) form)
    (keyword_lines prefix (codes "msgstr[" ++ decimal index ++ codes "]") form)
form_block prefix obsolete index form p h few = search (rules, text_block, numbered)

-- each form takes a byte, so indices are small where lines are few
forms_block : (prefix : List ℕ) (obsolete : Bool) (index : ℕ) (forms : List (List ℕ))
    → IsLinePrefix prefix (own_marks obsolete) → All IsText forms
    → index + length (form_lines prefix index forms) < 2 ^ 32
    → Block (λ here. SpellsForms obsolete index here forms) (form_lines prefix index forms)
forms_block prefix obsolete index [] p h few = empty_block spell.no_form
forms_block prefix obsolete index (form ∷ forms) p h few =
    let line = keyword_lines prefix (codes "msgstr[" ++ decimal index ++ codes "]") form in
    let size = length-append line (form_lines prefix (index + 1) forms) in
    let some = keyword_some prefix (codes "msgstr[" ++ decimal index ++ codes "]") form in
    two_blocks (form_block prefix obsolete index form p (All-head IsText form forms h) (omega (arith, few, size, some)))
    (forms_block prefix obsolete (index + 1) forms p (All-tail IsText form forms h) (omega (arith, few, size, some)))
    (λ here rest h g. spell.more_forms h.1 g)

-- how the forms of an entry are given
pub record HasForms (plural : Option (List ℕ)) (forms : List (List ℕ)) : Type 0 where
  pub some : 0 < length forms
  pub one : plural ≡ None → length forms ≡ 1
  pub texts : All IsText forms
  pub plural_text : IfSome plural IsText

translation_block : (prefix : List ℕ) (obsolete : Bool) (plural : Option (List ℕ)) (forms : List (List ℕ))
    → IsLinePrefix prefix (own_marks obsolete) → HasForms plural forms
    → length (translation_lines prefix plural forms) < 2 ^ 32
    → Block (λ here. SpellsTranslation obsolete here plural forms) (translation_lines prefix plural forms)
translation_block prefix obsolete plural [] p h few = absurd (omega (arith, h.some))
translation_block prefix obsolete None (form ∷ []) p h few =
    rw (append-nil (keyword_lines prefix (codes "msgstr") form))
    (weaker_block (text_block prefix (codes "msgstr") MsgStr (own_marks obsolete) form p single_written
    (All-head IsText form [] h.texts)) (λ here h. spell.single h.1))
translation_block prefix obsolete None (form ∷ next ∷ forms) p h few = absurd (omega (arith, h.one refl))
translation_block prefix obsolete (Some text) (form ∷ forms) p h few =
    two_blocks (text_block prefix (codes "msgid_plural") MsgIdPlural
    (own_marks obsolete) text p plural_written h.plural_text)
    (forms_block prefix obsolete 0 (form ∷ forms) p h.texts
    (omega (
      arith,
      few,
      length-append (keyword_lines prefix (codes "msgid_plural") text)
          (form_lines prefix 0 (form ∷ forms)),
    ))) (λ here rest h g. spell.plural h.1 g)

-- the items are a context, if any, and a msgid
abbrev OriginalPart : Bool → Option (List ℕ) → List ℕ → List TextItem → Type 0
OriginalPart obsolete context id here =
    (line : ℕ) × (first : List TextItem) × (own : List TextItem) × (here ≡ first ++ own)
    × SpellsContext obsolete first context × SpellsKeywordText MsgId (own_marks obsolete) line own id

original_block : (prefix : List ℕ) (obsolete : Bool) (context : Option (List ℕ)) (id : List ℕ)
    → IsLinePrefix prefix (own_marks obsolete) → IfSome context IsText → IsText id
    → Block (OriginalPart obsolete context id)
    (optional_lines prefix (codes "msgctxt") context ++ keyword_lines prefix (codes "msgid") id)
original_block prefix obsolete None id p c i =
    weaker_block (text_block prefix (codes "msgid") MsgId (own_marks obsolete) id p id_written i)
    (λ here h. (h.0, [], here, refl, spell.no_context, h.1))
original_block prefix obsolete (Some context) id p c i =
    two_blocks (text_block prefix (codes "msgctxt") MsgCtxt (own_marks obsolete) context p context_written c)
    (text_block prefix (codes "msgid") MsgId (own_marks obsolete) id p id_written i)
    (λ here later h g. (g.0, here, later, refl, spell.context h.1, g.1))

-- the items are an entry's own lines
abbrev pub BodyPart : TextEntry → List TextItem → Type 0
BodyPart e here = (line : ℕ) × SpellsBody here (with_line line e)

-- an entry's own lines
pub body_block : (prefix : List ℕ) (e : TextEntry) → IsLinePrefix prefix (own_marks e.obsolete)
    → IfSome e.context IsText → IsText e.id → HasForms e.plural e.forms → length (own_lines prefix e) < 2 ^ 32
    → Block (BodyPart e) (own_lines prefix e)
body_block prefix e p c i h few =
    let original = optional_lines prefix (codes "msgctxt") e.context ++ keyword_lines prefix (codes "msgid") e.id in
    let forms = translation_block prefix e.obsolete e.plural e.forms p h
    (omega (arith, few, length-append original (translation_lines prefix e.plural e.forms))) in
    two_blocks (original_block prefix e.obsolete e.context e.id p c i) forms
    (λ here later g t. (g.0, rw g.3 (spell.own_lines {entry = with_line g.0 e} g.4 g.5 t)))

-- the previous texts, each after its keyword
abbrev pub all_previous : TextPrevious → List PreviousText
all_previous texts = (previous_text MsgCtxt texts.context ++ previous_text MsgId texts.id)
    ++ previous_text MsgIdPlural texts.plural

previous_cases : (context id plural : Option (List ℕ))
    → let texts : TextPrevious = record { context = context; id = id; plural = plural } in
    (previous_of (all_previous texts) ≡ texts) × AreInOrder (all_previous texts)
previous_cases None None None = (refl, without (without (without none)))
previous_cases None None (Some p) = (refl, without (without (with none)))
previous_cases None (Some i) None = (refl, without (with (without none)))
previous_cases None (Some i) (Some p) = (refl, without (with (with none)))
previous_cases (Some c) None None = (refl, with (without (without none)))
previous_cases (Some c) None (Some p) = (refl, with (without (with none)))
previous_cases (Some c) (Some i) None = (refl, with (with (without none)))
previous_cases (Some c) (Some i) (Some p) = (refl, with (with (with none)))

-- they are those of the entry, and in their order
pub previous_kept : (texts : TextPrevious)
    → (previous_of (all_previous texts) ≡ texts) × AreInOrder (all_previous texts)
previous_kept texts = previous_cases texts.context texts.id texts.plural

-- the previous texts of an entry
pub previous_lines_block : (prefix : List ℕ) (obsolete : Bool) (texts : TextPrevious)
    → IsLinePrefix prefix (previous_marks obsolete) → IfSome texts.context IsText → IfSome texts.id IsText
    → IfSome texts.plural IsText → Block (HeadPart [] (all_previous texts)) (previous_lines prefix texts)
previous_lines_block prefix obsolete texts p c i q =
    head_blocks (head_blocks
    (previous_block prefix (codes "msgctxt") MsgCtxt obsolete texts.context p context_written c)
    (previous_block prefix (codes "msgid") MsgId obsolete texts.id p id_written i))
    (previous_block prefix (codes "msgid_plural") MsgIdPlural obsolete texts.plural p plural_written q)

-- A written entry reads as the entry, but for its line.

-- the items are this entry, but for its line
abbrev pub EntryPart : TextEntry → List TextItem → Type 0
EntryPart e here = (line : ℕ) × SpellsEntry here (with_line line e)

-- the lines before an entry's own
abbrev head_lines : TextEntry → List ℕ
head_lines e =
    comment_lines (codes "#") e.comments ++ comment_lines (codes "#.") e.extracted
    ++ elements_line (codes "#: ") (codes " ") e.references ++ elements_line (codes "#, ") (codes ", ")
    (all_flags e.fuzzy e.flags)
    ++ previous_lines (previous_prefix e.obsolete) e.previous

-- the comments that an entry is written with
abbrev pub entry_comments : TextEntry → List CommentText
entry_comments e = all_comments e.comments e.extracted (elements_text (32 ∷ []) e.references)
    (elements_text (44 ∷ 32 ∷ []) (all_flags e.fuzzy e.flags))

-- the list with one more at the beginning, where the test passes
all_with : (P : List ℕ → Type 0) (fuzzy : Bool) (flags : List (List ℕ)) → P (codes "fuzzy") → All P flags
    → All P (all_flags fuzzy flags)
all_with P true flags h g = All-cons P (codes "fuzzy") flags h g
all_with P false flags h g = g

fuzzy_element : IsFlagElement (codes "fuzzy")
fuzzy_element = record {
  line = plain_line (codes "fuzzy") refl;
  some = omega arith;
  no_blank_ends = refl;
  no_comma =
      λ k d inside. not-true _ (AllPass-from_list_all (λ b. not (b == 44)) (codes "fuzzy") refl k d inside);
}

flag_element : (text : List ℕ) → IsFlag text → IsFlagElement text
flag_element text h = search (rules, some_text, ne_eqb)

flag_elements : (e : TextEntry) → IsEntry e → All IsFlagElement (all_flags e.fuzzy e.flags)
flag_elements e h = all_with IsFlagElement e.fuzzy e.flags fuzzy_element
    (All-weaker IsFlag IsFlagElement flag_element e.flags h.flags)

entry_back : (e : TextEntry) (line : ℕ) → IsEntry e
    → with_head (entry_comments e) (all_previous e.previous) (with_line line e) ≡ with_line line e
entry_back e line h =
    let R = elements_text (32 ∷ []) e.references in
    let F = elements_text (44 ∷ 32 ∷ []) (all_flags e.fuzzy e.flags) in
    let of = λ (kind : CommentKind). kind_texts kind e.comments e.extracted R F in
    let plain = All-weaker IsFlag (λ flag. flag ≡ codes "fuzzy" → ⊥) (λ flag g. g.not_fuzzy) e.flags h.flags in
    let written : all_listed_flags (entry_comments e) ≡ all_flags e.fuzzy e.flags =
    ap (flat_map listed_flags) (of Flags) ∙ flag_elements_kept (all_flags e.fuzzy e.flags) (flag_elements e h) in
    let comments : texts_of Translator (entry_comments e) ≡ e.comments = of Translator ∙ simp append-nil in
    let extracted : texts_of Extracted (entry_comments e) ≡ e.extracted = of Extracted ∙ simp append-nil in
    let references : references_of (entry_comments e) ≡ e.references =
    ap (flat_map listed_references) (of Reference ∙ append-nil R) ∙ references_kept e.references h.references in
    let fuzzy : fuzzy_of (entry_comments e) ≡ e.fuzzy =
    ap (list_any is_fuzzy_flag) written ∙ fuzzy_kept e.fuzzy e.flags plain in
    let flags : flags_of (entry_comments e) ≡ e.flags =
    ap (fold with_flag []) written ∙ flags_kept e.fuzzy e.flags plain h.distinct_flags in
    rw (comments, extracted, references, fuzzy, flags, (previous_kept e.previous).0) refl

entry_part : (e : TextEntry) (head own : List TextItem) → IsEntry e
    → HeadPart (entry_comments e) (all_previous e.previous) head → BodyPart e own → EntryPart e (head ++ own)
entry_part e head own valid h g = (
  g.0,
  subst (λ x. SpellsEntry (head ++ own) x) (entry_back e g.0 valid)
      (spells_entry h (previous_kept e.previous).1 g.1),
)

translator_marked : (text : List ℕ) → IsTranslatorComment text → IsMarked Translator (codes "#") text
translator_marked text g = search (rules, line-append, plain_line, translator_shape)

extracted_marked : (text : List ℕ) → IsComment text → IsMarked Extracted (codes "#.") text
extracted_marked text g = search (rules, line-append, plain_line, extracted_shape)

previous_prefix_line : (obsolete : Bool) → IsLinePrefix (previous_prefix obsolete) (previous_marks obsolete)
previous_prefix_line true =
    record { marked = previous_obsolete; line = plain_line (codes "#~| ") refl; low = omega arith }
previous_prefix_line false = record { marked = previous_live; line = plain_line (codes "#| ") refl; low = omega arith }

own_prefix_line : (obsolete : Bool) → IsLinePrefix (own_prefix obsolete) (own_marks obsolete)
own_prefix_line true = record { marked = own_obsolete; line = plain_line (codes "#~ ") refl; low = omega arith }
own_prefix_line false = record { marked = no_prefix; line = plain_line [] refl; low = tt }

-- an entry's lines
pub entry_block : (e : TextEntry) → IsEntry e → length (entry_lines e) < 2 ^ 32 → Block (EntryPart e) (entry_lines e)
entry_block e h few =
    let fs = all_flags e.fuzzy e.flags in
    let parts = quoted_parts IsText e h.quoted_texts in
    let before = option_to_list e.previous.context ++ option_to_list e.previous.id in
    let prior = option_to_list e.previous.plural in
    let first = All-left IsText before prior parts.previous in
    let some = λ (text : Option (List ℕ)) (all : All IsText (option_to_list text)). (on_option IsText text).0 all in
    let comments = comments_block Translator (codes "#") e.comments
    (All-weaker IsTranslatorComment (IsMarked Translator (codes "#")) translator_marked e.comments h.comments) in
    let extracted = comments_block Extracted (codes "#.") e.extracted
    (All-weaker IsComment (IsMarked Extracted (codes "#.")) extracted_marked e.extracted h.extracted) in
    let references = elements_block Reference (codes "#: ") (codes " ") e.references (λ t. reference_shape (32 ∷ t))
    (plain_line (codes "#: ") refl) (λ t. omega arith) (plain_line (codes " ") refl)
    (All-weaker IsReference IsListed reference_listed e.references h.references) in
    let flags = elements_block Flags (codes "#, ") (codes ", ") fs (λ t. flags_shape (32 ∷ t))
    (plain_line (codes "#, ") refl) (λ t. omega arith) (plain_line (codes ", ") refl)
    (All-weaker IsFlagElement IsListed flag_listed fs (flag_elements e h)) in
    let head = previous_lines_block (previous_prefix e.obsolete) e.obsolete e.previous (previous_prefix_line e.obsolete)
    (some e.previous.context (All-left IsText (option_to_list e.previous.context) (option_to_list e.previous.id) first))
    (some e.previous.id (All-right IsText (option_to_list e.previous.context) (option_to_list e.previous.id) first))
    (some e.previous.plural (All-right IsText before prior parts.previous)) in
    let own = body_block (own_prefix e.obsolete) e (own_prefix_line e.obsolete) (some e.context parts.context)
    (All-head IsText e.id [] parts.id)
    (record { some = h.some_form; one = h.one_form; texts = parts.forms; plural_text = some e.plural parts.plural })
    (omega (arith, few, length-append (head_lines e) (own_lines (own_prefix e.obsolete) e))) in
    let all : Block (HeadPart (entry_comments e) (all_previous e.previous)) _ =
    weaker_block (head_blocks (head_blocks (head_blocks (head_blocks comments extracted) references) flags) head)
    (λ items g. subst (λ c. SpellsHead items c (all_previous e.previous)) (append-nil (entry_comments e)) g) in
    two_blocks all own (λ a b g i. entry_part e a b h g i)
