-- What the definitions of this crate say of entries that were read by hand (manual, "The Format of PO
-- Files"). tests/mutants/po_entry/definitions has a wrong form of each, which one of these refuses.
use Rattle.std.specs.Prelude.{◌≡◌, ◌≢◌, refl, ℕ, true, false, List, [], ◌∷◌, ◌++◌, Some, None, codes, filter, map, All, IsUtf8}
use Rattle.std.specs.Borrow.{Bor}
use Rattle.std.specs.Char.{encode_utf8}
use Rattle.std.specs.List.{range_with_len}
use Rattle.std.proofs.Common.{arith}
use Rattle.std.proofs.lemmas.Bool.{false≢true}
use Rattle.std.proofs.lemmas.List.Elements.{All-cons, All-nil}
use Rattle.po_syntax.specs.declared.fault.PoFault.TheVariants.{ForbiddenByte, BadPluralIndex, ForeignCharset, OutOfMemory}
use Rattle.po_syntax.specs.declared.item.CommentKind.TheVariants.{Translator, Extracted, Reference, Flags}
use Rattle.po_syntax.specs.declared.item.Keyword.TheVariants.{MsgCtxt, MsgId, MsgIdPlural, MsgStr, MsgStrAt}
use Rattle.po_syntax.specs.Prelude.{TextFault, own_marks, previous_marks, TextItem}
use Rattle.po_syntax.specs.Line.{end, live}
use Rattle.po_syntax.specs.Item.{Comment, Word, Str}
use Rattle.po_entry.specs.Texts.{Lacks, trimmed}
use Rattle.po_entry.specs.Comments.{CommentText, PreviousText, same_kind, texts_of, is_not_empty, listed_references, listed_flags, references_of, all_listed_flags, is_fuzzy_flag, fuzzy_of, with_flag, flags_of, with_previous, previous_of}
use Rattle.po_entry.specs.TextEntry.{TextPrevious, no_previous, TextEntry, slice_texts, plain_entry, quoted_texts}
use Rattle.po_entry.specs.Header.{is_header, after_charset, ends_name, charset_of, IsAdmittedName, first_form, HasAdmittedCharset}
use Rattle.po_entry.specs.Spelling.{SpellsStrings, last, more, SpellsKeywordText, keyword_text, SpellsHead, nothing, head_comment, previous_text, AreSome, none, with, without, AreInOrder, SpellsContext, context, no_context, SpellsForms, no_form, more_forms, SpellsTranslation, single, plural, SpellsBody, own_lines, with_head, SpellsEntry, entry, SpellsEntries, comments, entries, ReadsItems, ReadsText}
use Rattle.po_entry.specs.Validity.{IsClean, EntryTextFault, forbidden, HasTexts, out_of_memory}
use Rattle.po_entry.specs.Faults.{IsViable, IsOwn, with_obsolete, IsWrongIndex, IsMixed, index, last_line, at, EntriesStop, here, later, CharsetFault, foreign, ItemsStop, in_items, IsReadFault, in_text}

pub third_byte_lacks : Lacks 4 (97 ∷ 3 ∷ 4 ∷ []) → ⊥
third_byte_lacks lacks = lacks 2 0 (omega arith) refl

-- a comment `#: a.c:1 b.c:2`, one `#, c-format, fuzzy`, and a translator's
abbrev pub reference_comment : CommentText
reference_comment = record { kind = Reference; text = codes " a.c:1 b.c:2" }

abbrev pub flag_comment : CommentText
flag_comment = record { kind = Flags; text = codes " c-format, fuzzy" }

abbrev pub translator_comment : CommentText
translator_comment = record { kind = Translator; text = codes " c" }

abbrev pub previous_id : PreviousText
previous_id = record { keyword = MsgId; text = codes "x" }

abbrev pub previous_plural : PreviousText
previous_plural = record { keyword = MsgIdPlural; text = codes "xs" }

abbrev pub previous_of_plural : TextPrevious
previous_of_plural = record { context = None; id = Some (codes "x"); plural = Some (codes "xs") }

-- msgctxt "c", msgid "a", msgid_plural "b", msgstr[0] "d" and msgstr[1] "e", after `#| msgid "x"`
abbrev pub plural_entry : TextEntry
plural_entry = record {
  comments = codes " c" ∷ [];
  extracted = [];
  references = codes "a.c:1" ∷ codes "b.c:2" ∷ [];
  fuzzy = true;
  flags = codes "c-format" ∷ [];
  previous = record { context = None; id = Some (codes "x"); plural = None };
  context = Some (codes "c");
  id = codes "a";
  plural = Some (codes "b");
  forms = codes "d" ∷ codes "e" ∷ [];
  obsolete = false;
  line = 5;
}

pub comments_of_kinds : (map (same_kind Flags) (Translator ∷ Extracted ∷ Reference ∷ Flags ∷ []) ≡ false ∷ false ∷ false
    ∷ true ∷ [])
    × (texts_of Reference (flag_comment ∷ reference_comment ∷ translator_comment ∷ []) ≡ codes " a.c:1 b.c:2" ∷ [])
    × (map is_not_empty ([] ∷ codes " " ∷ []) ≡ false ∷ true ∷ [])
    × (trimmed (codes " c format\t ") ≡ codes "c format")
comments_of_kinds = (refl, refl, refl, refl)

pub references_are_listed : (listed_references (codes " a.c:1  b.c:2\t") ≡ codes "a.c:1" ∷ codes "b.c:2" ∷ [])
    × (references_of (reference_comment ∷ flag_comment ∷ record reference_comment { text = codes " a.c:3" } ∷ [])
    ≡ codes "a.c:1" ∷ codes "b.c:2" ∷ codes "a.c:3" ∷ [])
references_are_listed = (refl, refl)

pub flags_are_listed : (listed_flags (codes " fuzzy,, c-format ,range: 0..1") ≡ codes "fuzzy" ∷ codes "c-format"
    ∷ codes "range: 0..1" ∷ [])
    × (all_listed_flags (reference_comment ∷ flag_comment ∷ flag_comment ∷ []) ≡ codes "c-format" ∷ codes "fuzzy"
    ∷ codes "c-format" ∷ codes "fuzzy" ∷ [])
    × (map is_fuzzy_flag (codes "fuzzy" ∷ codes "Fuzzy" ∷ codes "fuzzy-logic" ∷ []) ≡ true ∷ false ∷ false ∷ [])
    × (map fuzzy_of ((reference_comment ∷ flag_comment ∷ []) ∷ (reference_comment ∷ []) ∷ []) ≡ true ∷ false ∷ [])
flags_are_listed = (refl, refl, refl, refl)

pub flags_are_kept_once : (with_flag (codes "a" ∷ []) (codes "b") ≡ codes "a" ∷ codes "b" ∷ [])
    × (flags_of (flag_comment ∷ reference_comment ∷ flag_comment ∷ []) ≡ codes "c-format" ∷ [])
flags_are_kept_once = (refl, refl)

pub previous_texts_are : (no_previous ≡ record { context = None; id = None; plural = None })
    × (with_previous MsgId (codes "x") no_previous ≡ record { context = None; id = Some (codes "x"); plural = None })
    × (previous_of (previous_id ∷ previous_plural ∷ []) ≡ previous_of_plural)
previous_texts_are = (refl, refl, refl)

-- a header, as in the manual; an entry with an empty msgid in a context; msgid "a" with msgstr "b"
abbrev pub utf8_header : TextEntry
utf8_header = plain_entry None [] None (codes "Content-Type: text/plain; charset=UTF-8\n" ∷ [])

abbrev pub empty_in_context : TextEntry
empty_in_context = plain_entry (Some (codes "c")) [] None (codes "b" ∷ [])

abbrev pub entry_of_a : TextEntry
entry_of_a = plain_entry None (codes "a") None (codes "b" ∷ [])

pub headers_and_forms : (map is_header
    (utf8_header ∷ record utf8_header { obsolete = true } ∷ empty_in_context ∷ entry_of_a ∷ [])
    ≡ true ∷ true ∷ false ∷ false ∷ [])
    × (first_form (codes "d" ∷ codes "e" ∷ []) ≡ codes "d")
    × (quoted_texts plural_entry ≡ codes "x" ∷ codes "c" ∷ codes "a" ∷ codes "b" ∷ codes "d" ∷ codes "e" ∷ [])
headers_and_forms = (refl, refl, refl)

pub charset_is_found : (after_charset (codes "text/plain; charset=UTF-8\n") ≡ codes "UTF-8\n")
    × (filter ends_name (range_with_len 0 256) ≡ 9 ∷ 10 ∷ 13 ∷ 32 ∷ 59 ∷ [])
    × (charset_of (codes "Content-Type: text/plain; charset=UTF-8\nLanguage: de\n") ≡ codes "UTF-8")
charset_is_found = (refl, refl, refl)

pub utf_8_is_admitted : IsAdmittedName (codes "Utf-8")
utf_8_is_admitted = (1, omega arith, refl)

pub header_is_admitted : HasAdmittedCharset utf8_header
header_is_admitted is = (1, omega arith, refl)

-- an obsolete header is asked for its charset too
pub obsolete_header_is_asked : HasAdmittedCharset (record utf8_header { obsolete = true })
    → IsAdmittedName (codes "UTF-8")
obsolete_header_is_asked admitted = admitted refl

pub strings_are_joined : SpellsStrings (own_marks false)
    (Str (codes "a") (own_marks false) 1 ∷ Str (codes "b") (own_marks false) 2 ∷ []) (codes "ab")
strings_are_joined = more last

pub text_of_msgid : SpellsKeywordText MsgId (own_marks true) 3
    (Word MsgId (own_marks true) 3 ∷ Str (codes "a") (own_marks true) 3 ∷ []) (codes "a")
text_of_msgid = keyword_text last

pub head_of_two : SpellsHead
    (Comment Flags (codes " c-format, fuzzy") 1 ∷ Word MsgId (previous_marks true) 2
    ∷ Str (codes "x") (previous_marks true) 2 ∷ [])
    (flag_comment ∷ []) (previous_id ∷ [])
head_of_two = head_comment (previous_text {obsolete = true} (keyword_text last) nothing)

pub some_of_three : AreSome (MsgCtxt ∷ MsgIdPlural ∷ []) (MsgCtxt ∷ MsgId ∷ MsgIdPlural ∷ [])
some_of_three = with (without (with none))

pub previous_in_order : AreInOrder (previous_id ∷ previous_plural ∷ [])
previous_in_order = without (with (with none))

pub context_of_obsolete : SpellsContext true
    (Word MsgCtxt (own_marks true) 3 ∷ Str (codes "c") (own_marks true) 3 ∷ []) (Some (codes "c"))
context_of_obsolete = context (keyword_text last)

-- `msgstr[0] "d"` and `msgstr[1] "e"`
abbrev pub items_of_forms : List TextItem
items_of_forms =
    Word (MsgStrAt 0) (own_marks false) 6 ∷ Str (codes "d") (own_marks false) 6
    ∷ Word (MsgStrAt 1) (own_marks false) 7 ∷ Str (codes "e") (own_marks false) 7 ∷ []

pub forms_in_order : SpellsForms false 0 items_of_forms (codes "d" ∷ codes "e" ∷ [])
forms_in_order =
    more_forms {own = Word (MsgStrAt 0) (own_marks false) 6 ∷ Str (codes "d") (own_marks false) 6 ∷ []}
    (keyword_text last) (
    more_forms {own = Word (MsgStrAt 1) (own_marks false) 7 ∷ Str (codes "e") (own_marks false) 7 ∷ []}
    (keyword_text last) no_form)

pub plural_translation : SpellsTranslation false
    (Word MsgIdPlural (own_marks false) 5 ∷ Str (codes "b") (own_marks false) 5 ∷ items_of_forms)
    (Some (codes "b")) (codes "d" ∷ codes "e" ∷ [])
plural_translation =
    plural {own = Word MsgIdPlural (own_marks false) 5 ∷ Str (codes "b") (own_marks false) 5 ∷ []}
    (keyword_text last) forms_in_order

-- `msgctxt "c"`, `msgid "a"` on line 4, `msgstr "b"`
pub body_of_context : SpellsBody
    (Word MsgCtxt (own_marks false) 3 ∷ Str (codes "c") (own_marks false) 3
    ∷ Word MsgId (own_marks false) 4 ∷ Str (codes "a") (own_marks false) 4
    ∷ Word MsgStr (own_marks false) 5 ∷ Str (codes "b") (own_marks false) 5 ∷ [])
    (record entry_of_a { context = Some (codes "c"); line = 4 })
body_of_context =
    own_lines {first = Word MsgCtxt (own_marks false) 3 ∷ Str (codes "c") (own_marks false) 3 ∷ []}
    {own = Word MsgId (own_marks false) 4 ∷ Str (codes "a") (own_marks false) 4 ∷ []}
    (context (keyword_text last)) (keyword_text last) (single (keyword_text last))

-- `msgid "a"` and `msgstr "b"`
pub body_of_a : SpellsBody
    (Word MsgId (own_marks false) 2 ∷ Str (codes "a") (own_marks false) 2
    ∷ Word MsgStr (own_marks false) 3 ∷ Str (codes "b") (own_marks false) 3 ∷ [])
    (record entry_of_a { line = 2 })
body_of_a =
    own_lines {first = []} {own = Word MsgId (own_marks false) 2 ∷ Str (codes "a") (own_marks false) 2 ∷ []}
    no_context (keyword_text last) (single (keyword_text last))

pub head_is_taken : with_head (translator_comment ∷ flag_comment ∷ []) (previous_id ∷ []) entry_of_a
    ≡ record entry_of_a {
      comments = codes " c" ∷ [];
      fuzzy = true;
      flags = codes "c-format" ∷ [];
      previous = record { context = None; id = Some (codes "x"); plural = None };
    }
head_is_taken = refl

-- a translator's comment, `msgid "a"` and `msgstr "b"`
pub entry_with_comment : SpellsEntry
    (Comment Translator (codes " c") 1 ∷ Word MsgId (own_marks false) 2 ∷ Str (codes "a") (own_marks false) 2
    ∷ Word MsgStr (own_marks false) 3 ∷ Str (codes "b") (own_marks false) 3 ∷ [])
    (record entry_of_a { comments = codes " c" ∷ []; line = 2 })
entry_with_comment =
    entry {head = Comment Translator (codes " c") 1 ∷ []}
    (head_comment nothing) (without (without (without none))) body_of_a

pub comment_at_end : SpellsEntries (Comment Translator (codes " c") 1 ∷ []) []
comment_at_end = comments (head_comment nothing)

-- its own items, and after them a comment that belongs to no entry
pub entry_then_comment : SpellsEntries
    (Word MsgId (own_marks false) 2 ∷ Str (codes "a") (own_marks false) 2
    ∷ Word MsgStr (own_marks false) 3 ∷ Str (codes "b") (own_marks false) 3 ∷ Comment Translator (codes " c") 4 ∷ [])
    (record entry_of_a { line = 2 } ∷ [])
entry_then_comment =
    entries {own = Word MsgId (own_marks false) 2 ∷ Str (codes "a") (own_marks false) 2
    ∷ Word MsgStr (own_marks false) 3 ∷ Str (codes "b") (own_marks false) 3 ∷ []}
    (entry nothing (without (without (without none))) body_of_a) (comments (head_comment nothing))

id_is_utf8 : IsUtf8 (codes "a")
unfolding encode_utf8
id_is_utf8 = (codes "a", (refl, refl))

form_is_utf8 : IsUtf8 (codes "b")
unfolding encode_utf8
form_is_utf8 = (codes "b", (refl, refl))

a_lacks_nul : Lacks 0 (codes "a")
a_lacks_nul = All-cons (λ b. b ≢ 0) 97 [] (λ e. omega (arith, e)) (All-nil (λ b. b ≢ 0))

b_lacks_nul : Lacks 0 (codes "b")
b_lacks_nul = All-cons (λ b. b ≢ 0) 98 [] (λ e. omega (arith, e)) (All-nil (λ b. b ≢ 0))

pub a_is_clean : IsClean entry_of_a
a_is_clean = record {
  no_nul = All-cons (Lacks 0) (codes "a") (codes "b" ∷ []) a_lacks_nul
      (All-cons (Lacks 0) (codes "b") [] b_lacks_nul (All-nil (Lacks 0)));
  context = tt;
  id = All-cons (λ b. b ≢ 4) 97 [] (λ e. omega (arith, e)) (All-nil (λ b. b ≢ 4));
}

pub eot_is_not_clean : IsClean (plain_entry None (97 ∷ 4 ∷ []) None (codes "b" ∷ [])) → ⊥
eot_is_not_clean clean = clean.id 1 0 (omega arith) refl

pub a_has_texts : HasTexts entry_of_a
a_has_texts = record {
  utf8 = All-cons IsUtf8 (codes "a") (codes "b" ∷ []) id_is_utf8
      (All-cons IsUtf8 (codes "b") [] form_is_utf8 (All-nil IsUtf8));
  clean = a_is_clean;
}

-- where a header is read, its charset is admitted
pub header_is_read : ReadsItems
    (Word MsgId (own_marks false) 1 ∷ Str [] (own_marks false) 1 ∷ Word MsgStr (own_marks false) 1
    ∷ Str (codes "b") (own_marks false) 1 ∷ [])
    (record entry_of_a { id = []; line = 1 } ∷ []) → HasAdmittedCharset (record entry_of_a { id = []; line = 1 })
header_is_read reads = reads.charsets 0 entry_of_a (omega arith)

pub nothing_is_read : ReadsText [] []
nothing_is_read = record {
  items = [];
  spelt = record {
    small = omega arith;
    utf8 = ([], (refl, refl));
    no_nul = All-nil (λ b. b ≢ 0);
    lines =
        ([], [], live end, refl, refl);
  };
  read = record { reads = comments nothing; texts = All-nil HasTexts; charsets = All-nil HasAdmittedCharset };
}

pub slices_have_texts : (a b : Bor (List ℕ)) → slice_texts (a ∷ b ∷ []) ≡ a.now ∷ b.now ∷ []
slices_have_texts a b = refl

pub items_are_told_apart : (out_of_memory ≡ record { kind = OutOfMemory; line = 0 })
    × (with_obsolete true (Word MsgId (previous_marks false) 2) ≡ Word MsgId (previous_marks true) 2)
    × (map last_line ([] ∷ items_of_forms ∷ []) ≡ 0 ∷ 7 ∷ [])
    × IsOwn (Str (codes "a") (own_marks true) 1)
items_are_told_apart = (refl, refl, refl, refl)

-- `msgid "a"` and `msgid_plural "b"`
abbrev pub before_forms : List TextItem
before_forms =
    Word MsgId (own_marks false) 4 ∷ Str (codes "a") (own_marks false) 4
    ∷ Word MsgIdPlural (own_marks false) 5 ∷ Str (codes "b") (own_marks false) 5 ∷ []

abbrev pub entry_of_plural : TextEntry
entry_of_plural =
    record (plain_entry None (codes "a") (Some (codes "b")) (codes "d" ∷ codes "e" ∷ [])) { line = 4 }

body_of_plural : SpellsBody (before_forms ++ items_of_forms) entry_of_plural
body_of_plural =
    own_lines {first = []} {own = Word MsgId (own_marks false) 4 ∷ Str (codes "a") (own_marks false) 4 ∷ []}
    no_context (keyword_text last) plural_translation

entry_with_forms : SpellsEntries (before_forms ++ items_of_forms) (entry_of_plural ∷ [])
entry_with_forms =
    entries {own = before_forms ++ items_of_forms} {items = []}
    (entry nothing (without (without (without none))) body_of_plural) (comments nothing)

pub beginning_is_viable : IsViable before_forms
beginning_is_viable = (items_of_forms, entry_of_plural ∷ [], entry_with_forms)

-- `msgstr[1]` where `msgstr[0]` has to stand
abbrev pub second_form : TextItem
second_form = Word (MsgStrAt 1) (own_marks false) 6

other_index : IsWrongIndex before_forms second_form
other_index = (
  refl,
  0,
  false,
  (λ e. omega (arith, e)),
  (
    Str (codes "d") (own_marks false) 6 ∷ Word (MsgStrAt 1) (own_marks false) 7
        ∷ Str (codes "e") (own_marks false) 7 ∷ [],
    entry_of_plural ∷ [],
    entry_with_forms,
  ),
)

pub second_index_first : (IsViable (before_forms ++ second_form ∷ []) → ⊥)
    → ItemsStop (before_forms ++ second_form ∷ []) BadPluralIndex 6
second_index_first isnt =
    in_items (at {prefix = before_forms} {item = second_form} [] beginning_is_viable isnt (index other_index))

-- `#~ msgstr` after a live `msgid "a"`
pub obsolete_after_live : IsMixed (Word MsgId (own_marks false) 2 ∷ Str (codes "a") (own_marks false) 2 ∷ [])
    (Word MsgStr (own_marks true) 3)
obsolete_after_live = (
  refl,
  (
    false,
    (
      Str (codes "b") (own_marks false) 3 ∷ [],
      record entry_of_a { line = 2 } ∷ [],
      entries {own = Word MsgId (own_marks false) 2 ∷ Str (codes "a") (own_marks false) 2
          ∷ Word MsgStr (own_marks false) 3 ∷ Str (codes "b") (own_marks false) 3 ∷ []} {items = []}
          (entry nothing (without (without (without none))) body_of_a) (comments nothing),
    ),
  ),
)

abbrev pub entry_with_eot : TextEntry
entry_with_eot = plain_entry None (97 ∷ 4 ∷ []) None (codes "b" ∷ [])

pub eot_is_forbidden : All IsUtf8 (quoted_texts entry_with_eot) → EntryTextFault entry_with_eot ForbiddenByte
eot_is_forbidden utf8 = forbidden utf8 eot_is_not_clean

abbrev pub koi8_r_header : TextEntry
koi8_r_header = record (plain_entry None [] None (codes "Content-Type: text/plain; charset=KOI8-R\n" ∷ [])) { line = 5 }

pub koi8_r_is_foreign : (HasAdmittedCharset koi8_r_header → ⊥)
    → EntriesStop HasAdmittedCharset CharsetFault (entry_of_a ∷ koi8_r_header ∷ []) ForeignCharset 5
koi8_r_is_foreign isnt = later (λ is. absurd (false≢true is)) (here (foreign isnt) refl)

pub nul_is_reported : TextFault (10 ∷ 0 ∷ []) ForbiddenByte 2 → IsReadFault (10 ∷ 0 ∷ []) ForbiddenByte 2
nul_is_reported fault = in_text fault
