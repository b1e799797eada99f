-- The entry of a message, of the parts into which its strings are cut.
use Rattle.msgunfmt.proofs.Prelude.{Adds, All, All-append, All-cons, All-head, All-left, All-nil, All-right, All-tail, AllZip, AppendsEntry, AppendsMessage, AreLaid, Bool, CanLie, ContainsForms, ContainsKey, ContainsMsgid, HasAdmittedCharset, HasTexts, HoldsMessage, IsAfterPart, IsEntryOf, Lacks, LiesIn, List, Message, None, Option, RefusesEntry, RefusesMessage, Some, TextEntry, UnformatError, [], after_context, ap, append-nil, ap₂, arith, at_end, at_nul, before_all, before_is, before_plural, context_cut, context_none, context_of, each_part, entries_in, entry_at, entry_of_message, false, first_all, first_cut, first_part, forms, get_or, id_all, id_cut, id_of, is_nul, join_with_byte, join_with_byte-slice_split, key_alone, key_of, length, map, message_entry, msgid_alone, onto_first, plain_entry, plural_cut, plural_none, plural_of, quoted_texts, refl, row_of, slice_get, slice_split-cons_no, slice_split-cons_yes, split_none, subst, sym, take, taken_forms, true, unformatted, with_entry, ℕ, ◌++◌, ◌<◌, ◌==◌, ◌↔◌, ◌∙◌, ◌∷◌, ◌≡◌, ◌≢◌}
use Rattle.std.proofs.lemmas.Bool.Decides.{Decides-eqb}
use Rattle.std.specs.Prelude.{option_to_list}
use Rattle.po_entry.specs.declared.drafts.Drafts.{Drafts}
use Rattle.po_entry.specs.declared.row.Row.{Row}
use Rattle.msgunfmt.proofs.Messages.{message_valid}

-- a text has a first such byte, or none
data Cut (byte : ℕ) : List ℕ → Type 0 where
  nowhere : {text : List ℕ} → Lacks byte text → Cut byte text
  where_first : (before after : List ℕ) → Lacks byte before → Cut byte (before ++ byte ∷ after)

cut_more : (byte b : ℕ) → b ≢ byte → {text : List ℕ} → Cut byte text → Cut byte (b ∷ text)
cut_more byte b other (nowhere {text} lacks) = nowhere (All-cons (λ c. c ≢ byte) b text other lacks)
cut_more byte b other (where_first before after lacks) =
    where_first (b ∷ before) after (All-cons (λ c. c ≢ byte) b before other lacks)

cut : (byte : ℕ) (text : List ℕ) → Cut byte text
cut byte [] = nowhere (All-nil (λ c. c ≢ byte))
cut byte (b ∷ text) =
    let P : Bool → Type 0 = λ t. (b == byte) ≡ t → Cut byte (b ∷ text) in
    (elim (b == byte) as P [
      | true ↦ λ same. subst (λ (x : ℕ). Cut byte (x ∷ text)) (sym ((Decides-eqb b byte).0 same))
          (where_first [] text (All-nil (λ c. c ≢ byte)))
      | false ↦ λ differ. cut_more byte b (λ e. let same : (b == byte) ≡ true = (Decides-eqb b byte).1 e in cc)
          (cut byte text)
    ]) refl

-- the msgid of a key
msgid_of : (key : List ℕ) → Cut 4 key → ContainsMsgid key (context_of key) (id_of key)
msgid_of key (nowhere lacks) = rw (context_none key lacks, id_all key lacks) (msgid_alone lacks)
msgid_of key (where_first before after lacks) =
    rw (context_cut before after lacks, id_cut before after lacks) (after_context lacks)

-- the first part of a text, and what is after it
record FirstPart (text : List ℕ) : Type 0 where
  part : List ℕ
  after : List ℕ
  lacks : Lacks 0 part
  ends : IsAfterPart after
  is : text ≡ part ++ after
  taken : take 1 (forms text) ≡ part ∷ []

first_part_of : (text : List ℕ) → Cut 0 text → FirstPart text
first_part_of text (nowhere lacks) = record {
  part = text;
  after = [];
  lacks = lacks;
  ends = at_end;
  is = sym (append-nil text);
  taken = first_all text lacks;
}
first_part_of text (where_first before after lacks) = record {
  part = before;
  after = 0 ∷ after;
  lacks = lacks;
  ends = at_nul;
  is = refl;
  taken = first_cut before after lacks;
}

-- the key of an original, and the plural
key_is : (original : List ℕ) → Cut 0 original → ContainsKey original (key_of original) (plural_of original)
key_is original (nowhere lacks) = rw (before_all 0 original lacks, plural_none original lacks) (key_alone lacks)
key_is original (where_first before after lacks) =
    let first = first_part_of after (cut 0 after) in
    rw (before_is 0 before after lacks, plural_cut before after lacks first.part first.taken)
    (subst (λ (t : List ℕ). ContainsKey (before ++ 0 ∷ t) before (Some first.part)) (sym first.is)
    (before_plural first.after lacks first.lacks first.ends))

-- a text has a first part, and no part contains a NUL
pub record Parts (text : List ℕ) : Type 0 where
  pub first : List ℕ
  pub others : List (List ℕ)
  pub are : forms text ≡ first ∷ others
  pub lack : All (Lacks 0) (first ∷ others)

empty : Lacks 0 []
empty = All-nil (λ c. c ≢ 0)

pub parts_of : (text : List ℕ) → Parts text
parts_of [] = record { first = []; others = []; are = refl; lack = All-cons (Lacks 0) [] [] empty (All-nil (Lacks 0)) }
parts_of (b ∷ text) =
    let inner = parts_of text in
    let P : Bool → Type 0 = λ t. is_nul b ≡ t → Parts (b ∷ text) in
    (elim (is_nul b) as P [
      | true ↦ λ nul. record {
        first = [];
        others = inner.first ∷ inner.others;
        are =
            slice_split-cons_yes is_nul b text nul ∙ ap (λ l. [] ∷ l) inner.are;
        lack =
            All-cons (Lacks 0) [] (inner.first ∷ inner.others) empty inner.lack;
      }
      | false ↦ λ other. record {
        first = b ∷ inner.first;
        others = inner.others;
        are = slice_split-cons_no is_nul b text other ∙ ap (onto_first b) inner.are;
        lack =
            let differs : b ≢ 0 = λ e. let same : is_nul b ≡ true = (Decides-eqb b 0).1 e in cc in
            All-cons (Lacks 0) (b ∷ inner.first) inner.others
            (All-cons (λ c. c ≢ 0) b inner.first differs (All-head (Lacks 0) inner.first inner.others inner.lack))
            (All-tail (Lacks 0) inner.first inner.others inner.lack);
      }
    ]) refl

forms_are : (plural : Option (List ℕ)) (translation : List ℕ)
    → ContainsForms translation plural (taken_forms plural (forms translation))
forms_are None translation =
    let first = first_part_of translation (cut 0 translation) in
    rw first.taken (subst (λ (t : List ℕ). ContainsForms t None (first.part ∷ [])) (sym first.is)
    (first_part first.after first.lacks first.ends))
forms_are (Some plural) translation =
    let parts = parts_of translation in
    let whole : join_with_byte 0 (parts.first ∷ parts.others) ≡ translation =
    ap (join_with_byte 0) (sym parts.are) ∙ join_with_byte-slice_split 0 translation in
    rw parts.are (subst (λ (t : List ℕ). ContainsForms t (Some plural) (parts.first ∷ parts.others)) whole
    (each_part parts.lack))

pub entries_are : (messages : List Message) → AllZip IsEntryOf messages (unformatted messages)
entries_are [] = tt
entries_are (m ∷ messages) = (
  record {
    key = key_of m.original;
    msgid = msgid_of (key_of m.original) (cut 4 (key_of m.original));
    original = key_is m.original (cut 0 m.original);
    translation = forms_are (plural_of m.original) m.translation;
    plain = refl;
  },
  entries_are messages,
)

-- The entry of a message, as it is laid out.

-- the first part of a text has one part, itself
pub first_alone : (text first : List ℕ) → take 1 (forms text) ≡ first ∷ [] → forms first ≡ take 1 (forms text)
first_alone text first is =
    let parts = parts_of text in
    let both : parts.first ∷ [] ≡ first ∷ [] = ap (take 1) (sym parts.are) ∙ is in
    let same : parts.first ≡ first = cc in
    split_none 0 first (subst (Lacks 0) same (All-head (Lacks 0) parts.first parts.others parts.lack)) ∙ sym is

-- no part of a message has a NUL
key_lacks : {original key : List ℕ} {plural : Option (List ℕ)} → ContainsKey original key plural
    → Lacks 0 key × All (Lacks 0) (option_to_list plural)
key_lacks (key_alone lacks) = (lacks, All-nil (Lacks 0))
key_lacks (before_plural {key} {plural} after lacks also ends) =
    (lacks, All-cons (Lacks 0) plural [] also (All-nil (Lacks 0)))

msgid_lacks : {key id : List ℕ} {context : Option (List ℕ)} → ContainsMsgid key context id → Lacks 0 key
    → All (Lacks 0) (option_to_list context) × Lacks 0 id
msgid_lacks (msgid_alone no_eot) lacks = (All-nil (Lacks 0), lacks)
msgid_lacks (after_context {context} {id} no_eot) lacks = (
  All-cons (Lacks 0) context [] (All-left (λ b. b ≢ 0) context (4 ∷ id) lacks) (All-nil (Lacks 0)),
  All-tail (λ b. b ≢ 0) 4 id (All-right (λ b. b ≢ 0) context (4 ∷ id) lacks),
)

forms_lack : {translation : List ℕ} {plural : Option (List ℕ)} {texts : List (List ℕ)}
    → ContainsForms translation plural texts → All (Lacks 0) texts × (0 < length texts)
forms_lack (first_part {form} after lacks ends) =
    (All-cons (Lacks 0) form [] lacks (All-nil (Lacks 0)), omega arith)
forms_lack (each_part all) = (all, omega arith)

pub can_lie : (m : Message) → CanLie (entry_of_message m)
can_lie m =
    let parts = (entries_are (m ∷ [])).0 in
    let key = key_lacks parts.original in
    let msgid = msgid_lacks parts.msgid key.0 in
    let texts = forms_lack parts.translation in
    let context = option_to_list (context_of (key_of m.original)) in
    let id = id_of (key_of m.original) in
    let own = All-append (Lacks 0) context (id ∷ []) msgid.0 (All-cons (Lacks 0) id [] msgid.1 (All-nil (Lacks 0))) in
    let both = All-append (Lacks 0) (context ++ (id ∷ [])) (option_to_list (plural_of m.original)) own key.1 in
    record {
      no_nul = All-append (Lacks 0) _ (taken_forms (plural_of m.original) (forms m.translation)) both texts.0;
      some_form = texts.1;
    }

-- the entry of the parts of a message
pub of_parts : (original translation key id taken : List ℕ) (context plural : Option (List ℕ))
    → key ≡ key_of original → context ≡ context_of key → id ≡ id_of key → plural ≡ plural_of original
    → forms taken ≡ taken_forms plural (forms translation)
    → message_entry context id plural taken
    ≡ entry_of_message (record { original = original; translation = translation })
of_parts original translation key id taken context plural is_key is_context is_id is_plural are =
    ap (λ c. plain_entry c id plural (forms taken)) (is_context ∙ ap context_of is_key)
    ∙ ap (λ i. plain_entry (context_of (key_of original)) i plural (forms taken)) (is_id ∙ ap id_of is_key)
    ∙ ap (λ p. plain_entry (context_of (key_of original)) (id_of (key_of original)) p (forms taken)) is_plural
    ∙ ap (λ fs. plain_entry (context_of (key_of original)) (id_of (key_of original)) (plural_of original) fs)
    (are ∙ ap (λ p. taken_forms p (forms translation)) is_plural)

-- an entry that is laid out where there were no rows
pub held : (m : Message) (old new : Drafts) → old.rows.items ≡ [] → Adds (entry_of_message m) old new
    → (AreLaid old → AreLaid new × (CanLie (entry_of_message m)
    → entries_in new ≡ entries_in old ++ entry_of_message m ∷ [])) → HoldsMessage m new
held m old new none adds law =
    let row = row_of (length old.bytes.items) (entry_of_message m) in
    let rows : new.rows.items ≡ row ∷ [] = adds.row ∙ ap (λ l. l ++ row ∷ []) none in
    let after = law (subst (All (LiesIn old.bytes.items)) (sym none) (All-nil (LiesIn old.bytes.items))) in
    let lie : All (LiesIn new.bytes.items) (row ∷ []) = subst (All (LiesIn new.bytes.items)) rows after.0 in
    let entries : entry_at new.bytes.items row ∷ [] ≡ entry_of_message m ∷ [] =
    sym (ap (λ l. map (entry_at new.bytes.items) l) rows) ∙ after.1 (can_lie m)
    ∙ ap (λ l. map (entry_at old.bytes.items) l ++ entry_of_message m ∷ []) none in
    record {
      row = row;
      rows = rows;
      lies = All-head (LiesIn new.bytes.items) row [] lie;
      entry = cc;
    }

-- the entry that is read where it is laid out
pub laid_entry : (m : Message) (drafts : Drafts) (bytes : List ℕ) (row : Row) (entry : TextEntry)
    → HoldsMessage m drafts → bytes ≡ drafts.bytes.items → row ≡ get_or drafts.rows.items 0 row
    → entry ≡ entry_at bytes row → entry ≡ entry_of_message m
laid_entry m drafts bytes row entry holds is at reads =
    let first : row ≡ holds.row = at ∙ ap (λ rows. get_or rows 0 row) holds.rows in
    reads ∙ ap₂ (λ (b : List ℕ) (r : Row). entry_at b r) is first ∙ holds.entry

pub no_nul : (m : Message) (entry : TextEntry) → entry ≡ entry_of_message m → All (Lacks 0) (quoted_texts entry)
no_nul m entry is = subst (λ (e : TextEntry). All (Lacks 0) (quoted_texts e)) (sym is) (can_lie m).no_nul

pub appended : (messages : List Message) (i : ℕ) (m : Message) (entry : TextEntry) (old new : List ℕ)
    → slice_get (unformatted messages) i ≡ Some (entry_of_message m) → entry ≡ entry_of_message m
    → (is_admitted : Bool) → AppendsEntry entry old new is_admitted → AppendsMessage messages i old new is_admitted
appended messages i m entry old new at is is_admitted a = record {
  entry = entry_of_message m;
  is_entry = at;
  valid = message_valid m (subst HasTexts is a.texts);
  admitted = subst (λ (e : TextEntry). (is_admitted ≡ true) ↔ HasAdmittedCharset e) is a.admitted;
  text = subst (λ (e : TextEntry). new ≡ with_entry old e) is a.text;
}

pub refused : (messages : List Message) (i : ℕ) (m : Message) (entry : TextEntry)
    → slice_get (unformatted messages) i ≡ Some (entry_of_message m) → entry ≡ entry_of_message m
    → (error : UnformatError) → RefusesEntry entry i error → RefusesMessage messages i error
refused messages i m entry at is error why =
    (entry_of_message m, at, subst (λ (e : TextEntry). RefusesEntry e i error) is why)
