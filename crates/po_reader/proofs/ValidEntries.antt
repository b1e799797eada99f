-- The entries that items spell are valid if they can have their texts, and the drafts that were read of them.
use Rattle.po_reader.proofs.Prelude.{All, All-append, All-cons, All-head, All-left, All-map, All-nil, All-right, All-tail, All-weaker, AreDistinct, AreDraftsOf, Bool, CanLie, ChecksStop, Comment, CommentText, EntryTextFault, Extracted, Flags, HasAdmittedCharset, HasTexts, Head, HoldsText, IsCatalogueEntry, IsComment, IsCommentOf, IsEntry, IsFlag, IsReference, IsTranslatorComment, IsUtf8, IsUtf8-append, ItemsStop, Lacks, List, None, OfString, Option, PoFault, PreviousText, ReadsUpTo, Reference, SpellsEntries, Str, TextEntry, TextItem, Translator, Word, [], all_listed_flags, ap, arith, common_steps, entries_in, false, flags_of, get_or, in_charset, in_texts, inl, inr, kept_entry, length, map, outcome, quoted_texts, references_of, refl, rules, subst, sym, texts_of, true, with_head, ℕ, ◌++◌, ◌<◌, ◌∙◌, ◌∷◌, ◌≡◌, ◌≢◌}
use Rattle.po_reader.proofs.CommentFields.{SoundCommentText, SoundFlagElement, SoundFlags, all_flag_elements_sound, all_unmapped, flags_sound, kind_sound, references_sound}
use Rattle.po_reader.proofs.EntryTexts.{entries_texts, entry_texts}
use Rattle.po_entry.specs.declared.drafts.Drafts.{Drafts}
use Rattle.po_reader.proofs.ToSpelling.{whole_spelt}
use Rattle.po_entry.specs.Spelling as spell
use Rattle.po_entry.specs.Validity as validity
use Rattle.po_entry.specs.Faults as faults

head_sound : {own : List TextItem} {comment_texts : List CommentText} {previous : List PreviousText}
    → spell.SpellsHead own comment_texts previous → All HoldsText own → All SoundCommentText comment_texts
head_sound spell.nothing h = All-nil SoundCommentText
head_sound (spell.head_comment {kind = kind} {text = text} {line = line} {items = items}
    {comment_texts = comment_texts} more) h =
    All-cons SoundCommentText (record { kind = kind; text = text }) comment_texts
    (All-head HoldsText (Comment kind text line) items h)
    (head_sound more (All-tail HoldsText (Comment kind text line) items h))
head_sound (spell.previous_text {own = own} {items = items} w more) h =
    head_sound more (All-right HoldsText own items h)

-- some form, and one alone where there is no plural
translation_sound : {obsolete : Bool} {items : List TextItem} {plural : Option (List ℕ)} {forms : List (List ℕ)}
    → spell.SpellsTranslation obsolete items plural forms → (0 < length forms) × (plural ≡ None → length forms ≡ 1)
translation_sound (spell.single w) = (omega arith, λ none. refl)
translation_sound (spell.plural w f) = (omega arith, λ none. absurd cc)

-- an entry that sound items spell, but for what its texts must be
pub record SoundEntry (spelt : TextEntry) : Type 0 where
  pub comments : All IsTranslatorComment spelt.comments
  pub extracted : All IsComment spelt.extracted
  pub references : All IsReference spelt.references
  pub flags : All IsFlag spelt.flags
  pub distinct_flags : AreDistinct spelt.flags
  pub some_form : 0 < length spelt.forms
  pub one_form : spelt.plural ≡ None → length spelt.forms ≡ 1
  pub no_nul : All (Lacks 0) (quoted_texts spelt)

entry_sound : (comment_texts : List CommentText) (previous : List PreviousText) {items : List TextItem}
    (own : TextEntry) → All SoundCommentText comment_texts → spell.SpellsBody items own
    → All (Lacks 0) (quoted_texts (with_head comment_texts previous own))
    → SoundEntry (with_head comment_texts previous own)
entry_sound comment_texts previous own n (spell.own_lines c w t) no_nul =
    let translator : All (IsCommentOf Translator) (texts_of Translator comment_texts) =
    kind_sound Translator comment_texts n in
    let extracted : All (IsCommentOf Extracted) (texts_of Extracted comment_texts) =
    kind_sound Extracted comment_texts n in
    let references : All IsReference (references_of comment_texts) =
    references_sound (texts_of Reference comment_texts) (kind_sound Reference comment_texts n) in
    let elements : All SoundFlagElement (all_listed_flags comment_texts) =
    all_flag_elements_sound (texts_of Flags comment_texts) (kind_sound Flags comment_texts n) in
    let flags : SoundFlags (flags_of comment_texts) =
    flags_sound (all_listed_flags comment_texts) [] (record { all = All-nil IsFlag; distinct = tt }) elements in
    record {
      comments = translator;
      extracted = All-weaker (IsCommentOf Extracted) IsComment (λ text h. h.comment)
          (texts_of Extracted comment_texts) extracted;
      references = references;
      flags = flags.all;
      distinct_flags = flags.distinct;
      some_form = (translation_sound t).0;
      one_form = (translation_sound t).1;
      no_nul = no_nul;
    }

-- no string that items hold has a NUL
no_nul_one : (item : TextItem) → HoldsText item → OfString (Lacks 0) item
no_nul_one (Comment kind text line) h = tt
no_nul_one (Word keyword marks line) h = tt
no_nul_one (Str bytes marks line) h = h

no_nul_items : (items : List TextItem) → All HoldsText items → All (OfString (Lacks 0)) items
no_nul_items items h = All-weaker HoldsText (OfString (Lacks 0)) no_nul_one items h

-- every entry that sound items spell
pub entries_sound : {items : List TextItem} {entries : List TextEntry} → SpellsEntries items entries
    → All HoldsText items → All SoundEntry entries
entries_sound (spell.comments only) h = All-nil SoundEntry
entries_sound (spell.entries {items = rest} {others = others}
    (spell.entry {head = head} {own = own} {comment_texts = comment_texts} {previous = previous}
    {body = body} above order lines) more) h =
    let entry = All-left HoldsText (head ++ own) rest h in
    let first = All-left HoldsText head own entry in
    All-cons SoundEntry (with_head comment_texts previous body) others
    (entry_sound comment_texts previous body (head_sound above first) lines
    (entry_texts (Lacks 0) (All-append (λ b. b ≢ 0)) above lines (no_nul_items head first)
    (no_nul_items own (All-right HoldsText head own entry))))
    (entries_sound more (All-right HoldsText (head ++ own) rest h))

-- with texts that it can have, it is an entry
pub entry_valid : (spelt : TextEntry) → SoundEntry spelt → HasTexts spelt → IsEntry spelt
entry_valid spelt h t = search rules

-- where the strings are UTF-8, the texts of what is kept are
utf8_one : (all : Bool) (entry : TextEntry) → All IsUtf8 (quoted_texts entry)
    → All IsUtf8 (quoted_texts (kept_entry all entry))
utf8_one true entry h = h
utf8_one false entry h = h

pub kept_utf8 : (all : Bool) {items : List TextItem} {entries : List TextEntry} → SpellsEntries items entries
    → All (OfString IsUtf8) items → All (λ entry. All IsUtf8 (quoted_texts entry)) (map (kept_entry all) entries)
kept_utf8 all {entries = entries} spelt h =
    let texts = entries_texts IsUtf8 IsUtf8-append spelt h in
    All-map (λ (entry : TextEntry). All IsUtf8 (quoted_texts entry)) (kept_entry all) entries
    (λ k d inside. utf8_one all (get_or entries k d) (texts k d inside))

sound_one : (all : Bool) (entry : TextEntry) → SoundEntry entry → SoundEntry (kept_entry all entry)
sound_one true entry h = h
sound_one false entry h = grind (arith, common_steps, All-nil)

-- what is kept of entries that sound items spell
module _ (all : Bool) {items : List TextItem} {entries : List TextEntry} (spelt : SpellsEntries items entries)
    (hold : All HoldsText items) where
  abbrev kept : List TextEntry
  kept = map (kept_entry all) entries

  sound : All SoundEntry kept
  sound = All-map SoundEntry (kept_entry all) entries
      (λ k d inside. sound_one all (get_or entries k d) (entries_sound spelt hold k d inside))

  -- it can be laid out, and no text of it has a NUL
  pub kept_lie : All CanLie kept
  kept_lie = All-weaker SoundEntry CanLie (λ entry s. record { no_nul = s.no_nul; some_form = s.some_form }) kept sound

  pub kept_no_nul : All (λ entry. All (Lacks 0) (quoted_texts entry)) kept
  kept_no_nul = All-weaker SoundEntry (λ entry. All (Lacks 0) (quoted_texts entry)) (λ entry s. s.no_nul) kept sound

  -- where they can have their texts, and the charsets are admitted, they can stand in a catalogue
  pub kept_stand : All HasTexts kept → All HasAdmittedCharset kept → All IsCatalogueEntry kept
  kept_stand texts charsets = λ k d inside.
      record {
        valid = entry_valid (get_or kept k d) (sound k d inside) (texts k d inside);
        charset = charsets k d inside;
      }

pub texts_one : (all : Bool) (entry : TextEntry) → HasTexts (kept_entry all entry) → HasTexts entry
texts_one true entry h = h
texts_one false entry h =
    record { utf8 = h.utf8; clean = record { no_nul = h.clean.no_nul; context = h.clean.context; id = h.clean.id } }

pub kept_texts : (all : Bool) (entries : List TextEntry) → All HasTexts (map (kept_entry all) entries)
    → All HasTexts entries
kept_texts all entries h =
    λ k d inside. texts_one all (get_or entries k d) (all_unmapped HasTexts (kept_entry all) entries h k d inside)

pub admitted_one : (all : Bool) (entry : TextEntry) → HasAdmittedCharset (kept_entry all entry)
    → HasAdmittedCharset entry
admitted_one true entry h = h
admitted_one false entry h = h

pub kept_admitted : (all : Bool) (entries : List TextEntry) → All HasAdmittedCharset (map (kept_entry all) entries)
    → All HasAdmittedCharset entries
kept_admitted all entries h =
    λ k d inside. admitted_one all (get_or entries k d)
    (all_unmapped HasAdmittedCharset (kept_entry all) entries h k d inside)

pub whole_fault : (all : Bool) (entry : TextEntry) (kind : PoFault) → EntryTextFault (kept_entry all entry) kind
    → EntryTextFault entry kind
whole_fault true entry kind fails = fails
whole_fault false entry kind (validity.not_utf8 some) = validity.not_utf8 some
whole_fault false entry kind (validity.forbidden utf8 some) =
    validity.forbidden utf8 (λ clean. some (record { no_nul = clean.no_nul; context = clean.context; id = clean.id }))

pub whole_foreign : (all : Bool) (entry : TextEntry) (kind : PoFault) → faults.CharsetFault (kept_entry all entry) kind
    → faults.CharsetFault entry kind
whole_foreign true entry kind fails = fails
whole_foreign false entry kind (faults.foreign refused) = faults.foreign refused

kept_line : (all : Bool) (entry : TextEntry) → (kept_entry all entry).line ≡ entry.line
kept_line true entry = refl
kept_line false entry = refl

-- the first entry that fails, of those that are kept, is the first of all
pub kept_stop : {P : TextEntry → Type 0} {F : TextEntry → PoFault → Type 0} (all : Bool)
    → ((entry : TextEntry) → P (kept_entry all entry) → P entry)
    → ((entry : TextEntry) (kind : PoFault) → F (kept_entry all entry) kind → F entry kind)
    → (entries : List TextEntry) {kind : PoFault} {line : ℕ}
    → faults.EntriesStop P F (map (kept_entry all) entries) kind line → faults.EntriesStop P F entries kind line
kept_stop all passes fails [] stops = elim stops [ ]
kept_stop all passes fails (entry ∷ entries) {kind} (faults.EntriesStop.here f e) =
    faults.EntriesStop.here (fails entry kind f) (e ∙ kept_line all entry)
kept_stop all passes fails (entry ∷ entries) (faults.EntriesStop.later r s) =
    faults.EntriesStop.later (passes entry r) (kept_stop all passes fails entries s)

module _ (all : Bool) (items : List TextItem) (head : Head) (drafts : Drafts) (read : ReadsUpTo all items head drafts)
    (hold : All HoldsText items) where
  spelt : SpellsEntries items read.entries
  spelt = whole_spelt 0 items read.entries (ap (outcome 0) read.leads)

  same : entries_in drafts ≡ map (kept_entry all) read.entries
  same = read.kept (kept_lie all spelt hold)

  pub drafts_no_nul : All (λ entry. All (Lacks 0) (quoted_texts entry)) (entries_in drafts)
  drafts_no_nul = subst (All (λ entry. All (Lacks 0) (quoted_texts entry))) (sym same) (kept_no_nul all spelt hold)

  pub drafts_utf8 : All (OfString IsUtf8) items → All (λ entry. All IsUtf8 (quoted_texts entry)) (entries_in drafts)
  drafts_utf8 utf8 = subst (All (λ entry. All IsUtf8 (quoted_texts entry))) (sym same) (kept_utf8 all spelt utf8)

  pub drafts_of : All HasTexts (entries_in drafts) → All HasAdmittedCharset (entries_in drafts)
      → AreDraftsOf all items drafts
  drafts_of texts charsets =
      let texts = subst (All HasTexts) same texts in
      let charsets = subst (All HasAdmittedCharset) same charsets in
      record {
        keeps = (
          read.entries,
          record {
            reads = spelt;
            texts = kept_texts all read.entries texts;
            charsets = kept_admitted all read.entries charsets;
          },
          same,
        );
        laid = read.laid;
        valid = subst (All IsCatalogueEntry) (sym same) (kept_stand all spelt hold texts charsets);
      }

  pub drafts_stop : (fault : PoFault) (line : ℕ) → ChecksStop (entries_in drafts) fault line
      → ItemsStop items fault line
  drafts_stop fault line h =
      elim (subst (λ (entries : List TextEntry). ChecksStop entries fault line) same h) [
        | inl stops ↦ in_texts spelt (kept_stop all (texts_one all) (whole_fault all) read.entries stops)
        | inr (texts, stops) ↦ in_charset spelt (kept_texts all read.entries texts)
            (kept_stop all (admitted_one all) (whole_foreign all) read.entries stops)
      ]
