-- From spelling to reading: what items spell is what the reader comes to.
use Rattle.po_reader.proofs.Prelude.{AfterForm, Before, Between, Bool, CommentText, EndsInString, Entries, Form, Gap, Id, In, InHead, IsApart, Keyword, List, Marks, MsgIdPlural, MsgStrAt, Option, Outcome, PreviousText, SoFar, Some, Str, TextEntry, TextItem, Translation, Word, [], ap, append-nil, append_assoc, arith, begins_form, begins_string, bool_eq_equiv, closed, comes_to, common_steps, ends_rest, eq-eqb, false, is_form, lt-ltb, no_comment_last, no_lines, only, outcome_of, rank, refl, start, sym, true, turn, turn_gap, with_comment, with_entry, with_own, with_previous_text, with_text, ℕ, ◌++◌, ◌∙◌, ◌∷◌, ◌≡◌}
use Rattle.po_entry.specs.Spelling as spell
use Rattle.po_reader.proofs.ReaderSteps.{Rise, forms_end, keywords, order_rises, same_marks-refl, text_ends}

pub string_step : (read : SoFar) (keyword : Keyword) (marks : Marks) (some : Bool) (text bytes : List ℕ) (line : ℕ)
    → turn (In read keyword marks some text) (Str bytes marks line) ≡ In read keyword marks true (text ++ bytes)
string_step read keyword marks some text bytes line = rw (same_marks-refl marks) refl

strings_run : {marks : Marks} {own : List TextItem} {bytes : List ℕ} → spell.SpellsStrings marks own bytes
    → (end : ℕ) (read : SoFar) (keyword : Keyword) (some : Bool) (text : List ℕ) (rest : List TextItem)
    → comes_to end (In read keyword marks some text) (own ++ rest)
    ≡ comes_to end (In read keyword marks true (text ++ bytes)) rest
strings_run {marks} (spell.last {line = line} {bytes = bytes}) end read keyword some text rest =
    ap (λ stage. comes_to end stage rest) (string_step read keyword marks some text bytes line)
strings_run {marks} (spell.more {line = line} {bytes = bytes} {others = others} {strings = strings} s) end read keyword
    some text rest =
    ap (λ stage. comes_to end stage (strings ++ rest)) (string_step read keyword marks some text bytes line)
    ∙ rw (sym (append_assoc text bytes others)) (strings_run s end read keyword true (text ++ bytes) rest)

-- a previous text is no plural form
pub no_form : (keyword : Keyword) (obsolete : Bool) (line : ℕ)
    → is_form (Word keyword (spell.previous_marks obsolete) line) ≡ false
no_form (MsgStrAt index) obsolete line = refl
no_form keyword obsolete line = refl

begins_with : {keyword : Keyword} {marks : Marks} {line : ℕ} {own : List TextItem} {text : List ℕ}
    → spell.SpellsKeywordText keyword marks line own text → (rest : List TextItem)
    → begins_form (own ++ rest) ≡ is_form (Word keyword marks line)
begins_with (spell.keyword_text s) rest = refl

-- the entry with these own lines is read
abbrev and_entry : SoFar → TextEntry → SoFar
and_entry read body = with_entry (with_own read body)

-- a head that was read as well
abbrev and_head : SoFar → List CommentText → List PreviousText → SoFar
and_head read comment_texts previous =
    record read { comment_texts = read.comment_texts ++ comment_texts; previous = read.previous ++ previous }

module _ (end : ℕ) (to : Outcome) where
  -- from this gap on, where a text has ended, the items come to this
  pub record Comes (gap : Gap) (items : List TextItem) : Type 0 where
    pub string : begins_string items ≡ false
    pub comes : comes_to end (Between gap) items ≡ to

  -- in a head, which may stand after a form
  record HeadComes (read : SoFar) (above : ℕ) (items : List TextItem) : Type 0 where
    on : Comes (InHead read above) items
    form : begins_form items ≡ false

  -- a keyword that may follow, and its text
  pub text_comes : {keyword : Keyword} {marks : Marks} {line : ℕ} {own : List TextItem} {text : List ℕ}
      → spell.SpellsKeywordText keyword marks line own text → (gap : Gap) (read : SoFar) (rest : List TextItem)
      → turn_gap gap (Word keyword marks line) ≡ In read keyword marks false []
      → Comes (closed read keyword marks text) rest → Comes gap (own ++ rest)
  text_comes {keyword} {marks} {text = text} (spell.keyword_text {strings = strings} s) gap read rest opens more =
      record {
        string = refl;
        comes = ap (λ next. comes_to end next (strings ++ rest)) opens ∙ strings_run s end read keyword false [] rest
            ∙ ap outcome_of (text_ends end read keyword marks text rest more.string) ∙ more.comes;
      }

  -- further forms, after one
  forms_come : {obsolete : Bool} {index : ℕ} {own : List TextItem} {forms : List (List ℕ)}
      → spell.SpellsForms obsolete index own forms → (read : SoFar) (rest : List TextItem)
      → read.own.obsolete ≡ obsolete
      → HeadComes (and_entry read (record read.own { forms = read.own.forms ++ forms })) 0 rest
      → Comes (AfterForm read index) (own ++ rest)
  forms_come {index = index} spell.no_form read rest same more = record {
    string = more.on.string;
    comes = ap outcome_of (forms_end end read index rest more.form) ∙ (rw (append-nil read.own.forms) at more.on.comes);
  }
  forms_come {obsolete} {index}
      (spell.more_forms {own = own} {items = items} {form = form} {forms = forms} w f) read rest same more =
      rw (append_assoc own items rest)
      (text_comes w (AfterForm read index) read (items ++ rest)
      (rw (same, bool_eq_equiv.refl obsolete, eq-eqb index index refl) refl)
      (forms_come f (with_own read (with_text (MsgStrAt index) form read.own)) rest same
      (rw (sym (append_assoc read.own.forms (form ∷ []) forms)) at more)))

  translation_comes : (read : SoFar) {own : List TextItem} {plural : Option (List ℕ)} {forms : List (List ℕ)}
      → spell.SpellsTranslation read.own.obsolete own plural forms → (rest : List TextItem)
      → HeadComes (and_entry read (record read.own { plural = plural; forms = forms })) 0 rest
      → Comes (Before read Translation) (own ++ rest)
  translation_comes read (spell.single w) rest more =
      text_comes w (Before read Translation) read rest (rw (bool_eq_equiv.refl read.own.obsolete) refl) more.on
  translation_comes read (spell.plural {own = own} {text = text} w
      (spell.more_forms {own = first} {items = items} {form = form} v f)) rest more =
      let next : SoFar = with_own read (with_text MsgIdPlural text read.own) in
      rw (append_assoc own (first ++ items) rest, append_assoc first items rest)
      (text_comes w (Before read Translation) read (first ++ (items ++ rest))
      (rw (bool_eq_equiv.refl read.own.obsolete) refl)
      (text_comes v (Before next (Form 0)) next (items ++ rest) (rw (bool_eq_equiv.refl read.own.obsolete) refl)
      (forms_come f (with_own next (with_text (MsgStrAt 0) form next.own)) rest refl more)))

  body_comes : {own : List TextItem} {body : TextEntry} → spell.SpellsBody own body
      → (read : SoFar) (above : ℕ) (rest : List TextItem) → HeadComes (and_entry read body) 0 rest
      → HeadComes read above (own ++ rest)
  body_comes (spell.own_lines {entry = e} {own = own} {last = last} spell.no_context w t) read above rest more =
      rw (append_assoc own last rest) (record {
        on = text_comes w (InHead read above) (with_own read (record (no_lines e.obsolete) { line = e.line }))
            (last ++ rest) refl (translation_comes _ t rest more);
        form = begins_with w (last ++ rest);
      })
  body_comes (spell.own_lines {entry = e} {first = first} {own = own} {last = last} (spell.context {text = context} c)
      w t) read above rest more =
      let started : SoFar = with_own read (record (no_lines e.obsolete) { context = Some context }) in
      rw (append_assoc (first ++ own) last rest, append_assoc first own (last ++ rest)) (record {
        on = text_comes c (InHead read above) (with_own read (no_lines e.obsolete)) (own ++ (last ++ rest)) refl
            (text_comes w (Before started Id) (with_own started (record started.own { line = e.line })) (last ++ rest)
            (rw (bool_eq_equiv.refl e.obsolete) refl) (translation_comes _ t rest more));
        form = begins_with c (own ++ (last ++ rest));
      })

  head_comes : {own : List TextItem} {comment_texts : List CommentText} {previous : List PreviousText}
      → spell.SpellsHead own comment_texts previous → (above : ℕ) → Rise above (keywords previous)
      → (read : SoFar) (rest : List TextItem)
      → ((last : ℕ) → HeadComes (and_head read comment_texts previous) last rest) → HeadComes read above (own ++ rest)
  head_comes spell.nothing above rise read rest more =
      rw (append-nil read.comment_texts, append-nil read.previous) at (more above)
  head_comes (spell.head_comment {kind = kind} {text = text} {comment_texts = others} h) above rise read rest more =
      let comment : CommentText = record { kind = kind; text = text } in
      let next = head_comes h above rise (with_comment read comment) rest
      (λ last. rw (sym (append_assoc read.comment_texts (comment ∷ []) others)) at (more last)) in
      record { on = record { string = refl; comes = next.on.comes }; form = refl }
  head_comes (spell.previous_text {keyword = keyword} {obsolete = obsolete} {text = bytes} {own = own} {items = items}
      {others = others} w h) above rise read rest more =
      let text : PreviousText = record { keyword = keyword; text = bytes } in
      rw (append_assoc own items rest) (record {
        on = text_comes w (InHead read above) read (items ++ rest) (rw (lt-ltb above (rank keyword) rise.0) refl)
            (head_comes h (rank keyword) rise.1 (with_previous_text read text) rest
            (λ last. rw (sym (append_assoc read.previous (text ∷ []) others)) at (more last))).on;
        form = begins_with w (items ++ rest) ∙ no_form keyword obsolete _;
      })

  entry_comes : {own : List TextItem} {first : TextEntry} → spell.SpellsEntry own first
      → (before : List TextEntry) (rest : List TextItem) → HeadComes (only (before ++ first ∷ [])) 0 rest
      → HeadComes (only before) 0 (own ++ rest)
  entry_comes (spell.entry {head = prefix} {own = own} {comment_texts = comment_texts} {previous = previous} h order b)
      before rest more =
      rw (append_assoc prefix own rest)
      (head_comes h 0 (order_rises previous order) (only before) (own ++ rest)
      (λ last. body_comes b (and_head (only before) comment_texts previous) last rest more))

  -- after entries that end in a string, what stands after them goes on with the next entry
  entries_come : {items : List TextItem} {entries : List TextEntry} → spell.SpellsEntries items entries
      → (before : List TextEntry) (rest : List TextItem) → EndsInString items
      → HeadComes (only (before ++ entries)) 0 rest → HeadComes (only before) 0 (items ++ rest)
  entries_come (spell.comments comments) before rest ends more =
      rw (no_comment_last comments ends) (rw append-nil at more)
  entries_come (spell.entries {own = own} {items = items} {first = first} {others = others} e many) before rest ends
      more =
      rw (append_assoc own items rest)
      (entry_comes e before (items ++ rest)
      (entries_come many (before ++ first ∷ []) rest (ends_rest own items ends)
      (rw (sym (append_assoc before (first ∷ []) others)) at more)))

comments_come : {items : List TextItem} {comment_texts : List CommentText} → spell.SpellsHead items comment_texts []
    → (end : ℕ) (read : SoFar) → HeadComes end (Entries read.entries) read 0 items
comments_come spell.nothing end read = record { on = record { string = refl; comes = refl }; form = refl }
comments_come (spell.head_comment {kind = kind} {text = text} h) end read =
    grind (arith, common_steps, comments_come h end (with_comment read (record { kind = kind; text = text })))

whole_comes : {items : List TextItem} {entries : List TextEntry} → spell.SpellsEntries items entries
    → (end : ℕ) (before : List TextEntry) → HeadComes end (Entries (before ++ entries)) (only before) 0 items
whole_comes (spell.comments comments) end before = rw append-nil (comments_come comments end (only before))
whole_comes (spell.entries {items = items} {first = first} {others = others} e more) end before =
    rw (sym (append_assoc before (first ∷ []) others))
    (entry_comes end _ e before items (whole_comes more end (before ++ first ∷ [])))

pub spelt_runs : {items : List TextItem} {entries : List TextEntry} → spell.SpellsEntries items entries
    → (end : ℕ) (before : List TextEntry) → comes_to end (start before) items ≡ Entries (before ++ entries)
spelt_runs spelt end before = (whole_comes spelt end before).on.comes

pub spelt_go_on : {items : List TextItem} {entries : List TextEntry} → spell.SpellsEntries items entries
    → (end : ℕ) (before : List TextEntry) (rest : List TextItem) → EndsInString items → IsApart rest
    → comes_to end (start before) (items ++ rest) ≡ comes_to end (start (before ++ entries)) rest
spelt_go_on {entries = entries} spelt end before rest ends apart =
    (entries_come end (comes_to end (start (before ++ entries)) rest) spelt before rest ends
    (record { on = record { string = apart.0; comes = refl }; form = apart.1 })).on.comes
