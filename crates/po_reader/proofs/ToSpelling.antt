-- From reading to spelling: what the reader comes to is what items spell, as each place awaits what makes a whole with
-- the items before it.
use Rattle.po_reader.proofs.Prelude.{AfterForm, BadOrder, Before, Between, Bool, Comment, CommentText, Entries, Fault, Form, Gap, Id, In, InHead, Keyword, List, Marks, MixedObsolete, MsgCtxt, MsgId, MsgIdPlural, MsgStr, MsgStrAt, None, Option, PoFault, PreviousText, SoFar, Some, Stage, Stop, Str, TextEntry, TextItem, Translation, Wanted, Word, [], append-nil, append_assoc, arith, beq, booleans_Decides, closed, comes_to, eqb-true, false, if◌then◌else◌, inl, inr, is_form, is_wanted, line_of, ltb-true, nat_lt, no_lines, only, opened, own_marks, previous_marks, rank, refl, same_marks, stray_string, subst, sym, true, turn, turn_gap, turn_head, turn_own, unwanted, with_comment, with_entry, with_head, with_keyword, with_own, with_previous_text, with_text, ℕ, ◌++◌, ◌<◌, ◌==◌, ◌∷◌, ◌≡◌, ◌⊎◌}
use Rattle.po_entry.specs.Spelling as spell
use Rattle.po_reader.proofs.ReaderSteps.{Rise, keywords, marked, never, rise_order, same_marks_true}

-- Whole says of the items that are left at a place, and of all entries, that with what was read they make a whole.

-- own lines are awaited that complete the entry, and then others
abbrev AwaitsTranslation : (List TextItem → List TextEntry → Type 0) → SoFar → Type 0
AwaitsTranslation Whole read =
    (own rest : List TextItem) (plural : Option (List ℕ)) (forms : List (List ℕ)) (more : List TextEntry)
    → spell.SpellsTranslation read.own.obsolete own plural forms → spell.SpellsEntries rest more
    → Whole (own ++ rest) (read.entries
    ++ with_head read.comment_texts read.previous (record read.own { plural = plural; forms = forms }) ∷ more)

abbrev AwaitsOwn : (List TextItem → List TextEntry → Type 0) → SoFar → Wanted → Type 0
AwaitsOwn Whole read Id =
    (line : ℕ) (own : List TextItem) (text : List ℕ)
    → spell.SpellsKeywordText MsgId (own_marks read.own.obsolete) line own text
    → AwaitsTranslation (λ items. Whole (own ++ items))
    (with_own read (with_text MsgId text (with_keyword MsgId line read.own)))
AwaitsOwn Whole read Translation = AwaitsTranslation Whole read
AwaitsOwn Whole read (Form index) =
    (own rest : List TextItem) (form : List ℕ) (forms : List (List ℕ)) (more : List TextEntry)
    → spell.SpellsForms read.own.obsolete index own (form ∷ forms) → spell.SpellsEntries rest more
    → Whole (own ++ rest) (read.entries
    ++ with_head read.comment_texts read.previous (record read.own { forms = read.own.forms ++ form ∷ forms }) ∷ more)

-- comments are awaited that are the last items; or the rest of a head, own lines, and other entries
record AwaitsHead (Whole : List TextItem → List TextEntry → Type 0) (read : SoFar) (above : ℕ) : Type 0 where
  over : (items : List TextItem) (comment_texts : List CommentText) → spell.SpellsHead items comment_texts []
      → above ≡ 0 → Whole items read.entries
  entry : (head own rest : List TextItem) (comment_texts : List CommentText) (previous : List PreviousText)
      (body : TextEntry) (more : List TextEntry) → spell.SpellsHead head comment_texts previous
      → Rise above (keywords previous) → spell.SpellsBody own body → spell.SpellsEntries rest more
      → Whole (head ++ (own ++ rest))
      (read.entries ++ with_head (read.comment_texts ++ comment_texts) (read.previous ++ previous) body ∷ more)

abbrev AwaitsGap : (List TextItem → List TextEntry → Type 0) → Gap → Type 0
AwaitsGap Whole (InHead read above) = AwaitsHead Whole read above
AwaitsGap Whole (Before read wanted) = AwaitsOwn Whole read wanted
AwaitsGap Whole (AfterForm read index) = AwaitsOwn Whole read (Form index) × AwaitsHead Whole (with_entry read) 0

-- the strings that are left of a text, one at least where it has none yet
abbrev StringsLeft : Bool → Marks → List TextItem → List ℕ → Type 0
StringsLeft some marks own bytes = spell.SpellsStrings marks own bytes ⊎ ((some ≡ true) × (own ≡ []) × (bytes ≡ []))

abbrev Awaits : (List TextItem → List TextEntry → Type 0) → Stage → Type 0
Awaits Whole (Between gap) = AwaitsGap Whole gap
Awaits Whole (In read keyword marks some text) =
    (own : List TextItem) (bytes : List ℕ) → StringsLeft some marks own bytes
    → AwaitsGap (λ items. Whole (own ++ items)) (closed read keyword marks (text ++ bytes))
Awaits Whole (Stop fault line) = Unit {0}

-- what comes to entries is what its place awaits
abbrev Goes : ℕ → List TextItem → Type 1
Goes end items =
    (Whole : List TextItem → List TextEntry → Type 0) (stage : Stage) (entries : List TextEntry) → Awaits Whole stage
    → comes_to end stage items ≡ Entries entries → Whole items entries

-- after entries others are awaited
entries_awaited : (Whole : List TextItem → List TextEntry → Type 0) (before : List TextEntry)
    → ((rest : List TextItem) (more : List TextEntry) → spell.SpellsEntries rest more → Whole rest (before ++ more))
    → AwaitsHead Whole (only before) 0
entries_awaited Whole before each = record {
  over = λ items comment_texts h zero. rw append-nil at (each items [] (spell.comments h));
  entry = λ head own rest comment_texts previous body more h rise b others.
      rw (append_assoc head own rest) at (each ((head ++ own) ++ rest) (with_head comment_texts previous body ∷ more)
      (spell.entries (spell.entry h (rise_order previous rise) b) others));
}

module _ (Whole : List TextItem → List TextEntry → Type 0) (read : SoFar) where
  module _ (above : ℕ) (w : AwaitsHead Whole read above) where
    comment_awaited : (text : CommentText) (line : ℕ)
        → AwaitsHead (λ items. Whole (Comment text.kind text.text line ∷ items)) (with_comment read text) above
    comment_awaited text line = record {
      over = λ items comment_texts h zero. w.over (Comment text.kind text.text line ∷ items) _
          (spell.head_comment h) zero;
      entry = λ head own rest comment_texts previous body more h rise b others.
          rw (append_assoc read.comment_texts (text ∷ []) comment_texts)
          (w.entry (Comment text.kind text.text line ∷ head) own rest _ previous body more (spell.head_comment h) rise
          b others);
    }

    previous_awaited : (keyword : Keyword) (obsolete : Bool) (line : ℕ) → above < rank keyword
        → (own : List TextItem) (text : List ℕ)
        → spell.SpellsKeywordText keyword (previous_marks obsolete) line own text
        → AwaitsHead (λ items. Whole (own ++ items))
        (with_previous_text read (record { keyword = keyword; text = text })) (rank keyword)
    previous_awaited keyword obsolete line lt own text spelt = record {
      over = λ items comment_texts h zero. absurd (omega (arith, lt, zero));
      entry = λ head body rest comment_texts previous entry more h rise b others.
          rw (append_assoc read.previous (record { keyword = keyword; text = text } ∷ []) previous)
          (rw (append_assoc own head (body ++ rest)) at
          (w.entry (own ++ head) body rest comment_texts _ entry more (spell.previous_text spelt h) (lt, rise) b
          others));
    }

    -- after a context, if there is one
    body_awaited : (obsolete : Bool) (first : List TextItem) (context : Option (List ℕ))
        → spell.SpellsContext obsolete first context
        → AwaitsOwn (λ items. Whole (first ++ items))
        (with_own read (record (no_lines obsolete) { context = context })) Id
    body_awaited obsolete first context spelt line own text id last rest plural forms more translation others =
        let body : TextEntry = record (no_lines obsolete) {
          context = context;
          line = line;
          id = text;
          plural = plural;
          forms = forms;
        } in
        rw (append_assoc (first ++ own) last rest, append_assoc first own (last ++ rest)) at
        (rw (append-nil read.comment_texts, append-nil read.previous) at
        (w.entry [] (first ++ own ++ last) rest [] [] body more spell.nothing tt
        (spell.own_lines {entry = body} spelt id translation) others))

-- the test passes where the items would be refused otherwise
only_if : (end : ℕ) (items : List TextItem) (entries : List TextEntry) (b : Bool) (stage : Stage) (fault : PoFault)
    (line : ℕ) → comes_to end (if b then stage else Stop fault line) items ≡ Entries entries
    → (b ≡ true) × (comes_to end stage items ≡ Entries entries)
only_if end items entries true stage fault line e = (refl, e)
only_if end items entries false stage fault line e = absurd (never end fault line items entries e)

module _ (end : ℕ) (items : List TextItem) (goes : Goes end items) (Whole : List TextItem → List TextEntry → Type 0)
    (entries : List TextEntry) where
  -- a keyword, and what is awaited after its text
  text_goes : (read : SoFar) (keyword : Keyword) (marks : Marks) (line : ℕ)
      → ((own : List TextItem) (text : List ℕ) → spell.SpellsKeywordText keyword marks line own text
      → AwaitsGap (λ items. Whole (own ++ items)) (closed read keyword marks text))
      → comes_to end (In read keyword marks false []) items ≡ Entries entries
      → Whole (Word keyword marks line ∷ items) entries
  text_goes read keyword marks line each e =
      goes (λ items. Whole (Word keyword marks line ∷ items)) (In read keyword marks false []) entries awaited e where
        awaited : Awaits (λ items. Whole (Word keyword marks line ∷ items)) (In read keyword marks false [])
        awaited own bytes (inl strings) = each (Word keyword marks line ∷ own) bytes (spell.keyword_text strings)
        awaited own bytes (inr none) = absurd cc

  head_goes : (read : SoFar) (above : ℕ) (item : TextItem) → AwaitsHead Whole read above
      → comes_to end (turn_head read above item) items ≡ Entries entries → Whole (item ∷ items) entries
  head_goes read above (Comment kind text line) w e =
      goes (λ items. Whole (Comment kind text line ∷ items)) _ entries
      (comment_awaited Whole read above w (record { kind = kind; text = text }) line) e
  head_goes read above (Str bytes marks line) w e = absurd (never end BadOrder line items entries e)
  head_goes read above (Word keyword marks line) w e = word keyword marks.obsolete marks.previous e where
    word : (keyword : Keyword) (o p : Bool)
        → comes_to end (turn_head read above (Word keyword (marked o p) line)) items
        ≡ Entries entries → Whole (Word keyword (marked o p) line ∷ items) entries
    word keyword o true e =
        let higher = only_if end items entries (nat_lt above (rank keyword)) _ BadOrder line e in
        text_goes read keyword (previous_marks o) line
        (previous_awaited Whole read above w keyword o line (ltb-true _ _ higher.0)) higher.1
    word MsgId o false e =
        text_goes _ MsgId (own_marks o) line
        (body_awaited Whole read above w o [] None spell.no_context line) e
    word MsgCtxt o false e =
        text_goes _ MsgCtxt (own_marks o) line
        (λ own text spelt. body_awaited Whole read above w o own (Some text) (spell.context spelt)) e
    word keyword o false e = absurd (never end BadOrder line items entries e)

  -- a keyword that is wanted
  wanted_goes : (read : SoFar) (wanted : Wanted) (keyword : Keyword) (line : ℕ) → is_wanted wanted keyword ≡ true
      → AwaitsOwn Whole read wanted
      → comes_to end (opened read read.own keyword line) items ≡ Entries entries
      → Whole (Word keyword (own_marks read.own.obsolete) line ∷ items) entries
  wanted_goes read Id MsgId line is w e = text_goes _ MsgId _ line (w line) e
  wanted_goes read Translation MsgStr line is w e =
      text_goes read MsgStr _ line (λ own text spelt. entries_awaited (λ items. Whole (own ++ items)) _
      (λ rest more others. rw append_assoc (w own rest None (text ∷ []) more (spell.single spelt) others))) e
  wanted_goes read Translation MsgIdPlural line is w e =
      text_goes read MsgIdPlural _ line (λ own text spelt last rest form forms more spelt_forms others.
      rw (append_assoc own last rest) at
      (w (own ++ last) rest (Some text) (form ∷ forms) more (spell.plural spelt spelt_forms) others)) e
  wanted_goes read (Form index) (MsgStrAt found) line is w e =
      let first = rw (sym (eqb-true found index is)) at w in
      text_goes read (MsgStrAt found) _ line (λ own text spelt. (
        λ last rest form forms more spelt_forms others.
            rw (append_assoc read.own.forms (text ∷ []) (form ∷ forms)) (rw (append_assoc own last rest) at
            (first (own ++ last) rest text (form ∷ forms) more (spell.more_forms spelt spelt_forms) others)),
        entries_awaited (λ items. Whole (own ++ items)) _ (λ rest more others. rw append_assoc
            (first own rest text [] more (rw append-nil at (spell.more_forms spelt spell.no_form)) others)),
      )) e
  wanted_goes read wanted keyword line is w e = absurd cc

  own_goes : (read : SoFar) (wanted : Wanted) (item : TextItem) → AwaitsOwn Whole read wanted
      → comes_to end (turn_own read wanted item) items ≡ Entries entries → Whole (item ∷ items) entries
  own_goes read wanted (Word keyword marks line) w e = word marks.obsolete marks.previous e where
    word : (o p : Bool) → comes_to end
        (turn_own read wanted (Word keyword (marked o p) line)) items ≡ Entries entries
        → Whole (Word keyword (marked o p) line ∷ items) entries
    word o true e = absurd (never end BadOrder line items entries e)
    word o false e =
        let fits = only_if end items entries (is_wanted wanted keyword) _ (unwanted wanted keyword) line e in
        let same = only_if end items entries (beq read.own.obsolete o) _ MixedObsolete line fits.1 in
        subst (λ b. Whole (Word keyword (own_marks b) line ∷ items) entries)
        ((booleans_Decides read.own.obsolete o).0 same.0) (wanted_goes read wanted keyword line fits.0 w same.1)
  own_goes read wanted item w e = absurd (never end BadOrder (line_of item) items entries e)

  gap_goes : (gap : Gap) (item : TextItem) → AwaitsGap Whole gap
      → comes_to end (turn_gap gap item) items ≡ Entries entries → Whole (item ∷ items) entries
  gap_goes (InHead read above) item w e = head_goes read above item w e
  gap_goes (Before read wanted) item w e = own_goes read wanted item w e
  gap_goes (AfterForm read index) item w e = chosen (is_form item) e where
    chosen : (b : Bool) → comes_to end
        (if b then turn_own read (Form index) item else turn_head (with_entry read) 0 item) items ≡ Entries entries
        → Whole (item ∷ items) entries
    chosen true e = own_goes read (Form index) item w.0 e
    chosen false e = head_goes (with_entry read) 0 item w.1 e

  -- one more string of a text
  string_goes : (read : SoFar) (keyword : Keyword) (marks found : Marks) (some : Bool) (text bytes : List ℕ) (line : ℕ)
      → Awaits Whole (In read keyword marks some text)
      → comes_to end (turn (In read keyword marks some text) (Str bytes found line)) items ≡ Entries entries
      → Whole (Str bytes found line ∷ items) entries
  string_goes read keyword marks found some text bytes line w e =
      let same = only_if end items entries (same_marks marks found) _ (stray_string marks found) line e in
      subst (λ (m : Marks). Whole (Str bytes m line ∷ items) entries) (same_marks_true marks found same.0)
      (goes (λ items. Whole (Str bytes marks line ∷ items)) _ entries awaited same.1) where
        spelt : (own : List TextItem) (others : List ℕ) → StringsLeft true marks own others
            → spell.SpellsStrings marks (Str bytes marks line ∷ own) (bytes ++ others)
        spelt own others (inl strings) = spell.more strings
        spelt own others (inr none) = rw (none.1, none.2, append-nil bytes) spell.last

        awaited : Awaits (λ items. Whole (Str bytes marks line ∷ items)) (In read keyword marks true (text ++ bytes))
        awaited own others strings =
            subst (λ (t : List ℕ). AwaitsGap (λ items. Whole (Str bytes marks line ∷ (own ++ items)))
            (closed read keyword marks t)) (sym (append_assoc text bytes others))
            (w (Str bytes marks line ∷ own) (bytes ++ others) (inl (spelt own others strings)))

-- where the items end
gap_over : (end : ℕ) (Whole : List TextItem → List TextEntry → Type 0) (gap : Gap) (entries : List TextEntry)
    → AwaitsGap Whole gap → comes_to end (Between gap) [] ≡ Entries entries → Whole [] entries
gap_over end Whole (InHead read above) entries w e = chosen (above == 0) refl e where
  chosen : (b : Bool) → (above == 0) ≡ b → (if b then Entries read.entries else Fault BadOrder end) ≡ Entries entries
      → Whole [] entries
  chosen true zero e = subst (Whole []) (cc e) (w.over [] [] spell.nothing (eqb-true above 0 zero))
  chosen false zero e = absurd cc
gap_over end Whole (Before read wanted) entries w e = absurd cc
gap_over end Whole (AfterForm read index) entries w e = subst (Whole []) (cc e) (w.1.over [] [] spell.nothing refl)

-- a text to which nothing is added
text_over : (Whole : List TextItem → List TextEntry → Type 0) (read : SoFar) (keyword : Keyword) (marks : Marks)
    (text : List ℕ) → Awaits Whole (In read keyword marks true text) → AwaitsGap Whole (closed read keyword marks text)
text_over Whole read keyword marks text w =
    subst (λ (t : List ℕ). AwaitsGap Whole (closed read keyword marks t)) (append-nil text)
    (w [] [] (inr (refl, refl, refl)))

all_go : (end : ℕ) (items : List TextItem) → Goes end items
all_go end [] Whole (Between gap) entries w e = gap_over end Whole gap entries w e
all_go end [] Whole (In read keyword marks true text) entries w e =
    gap_over end Whole (closed read keyword marks text) entries (text_over Whole read keyword marks text w) e
all_go end [] Whole (In read keyword marks false text) entries w e = absurd cc
all_go end [] Whole (Stop fault line) entries w e = absurd cc
all_go end (item ∷ items) Whole (Between gap) entries w e =
    gap_goes end items (all_go end items) Whole entries gap item w e
all_go end (item ∷ items) Whole (Stop fault line) entries w e = absurd (never end fault line items entries e)
all_go end (Str bytes found line ∷ items) Whole (In read keyword marks some text) entries w e =
    string_goes end items (all_go end items) Whole entries read keyword marks found some text bytes line w e
all_go end (item ∷ items) Whole (In read keyword marks true text) entries w e =
    gap_goes end items (all_go end items) Whole entries (closed read keyword marks text) item
    (text_over Whole read keyword marks text w) e
all_go end (item ∷ items) Whole (In read keyword marks false text) entries w e =
    absurd (never end BadOrder (line_of item) items entries e)

-- after these entries, the items spell those that the reader finds
pub runs_spelt : (end : ℕ) (before : List TextEntry) (items : List TextItem) (all : List TextEntry)
    → comes_to end (Between (InHead (only before) 0)) items ≡ Entries all
    → (more : List TextEntry) × spell.SpellsEntries items more × (all ≡ before ++ more)
runs_spelt end before items all e =
    all_go end items (λ items all. (more : List TextEntry) × spell.SpellsEntries items more × (all ≡ before ++ more))
    (Between (InHead (only before) 0)) all (entries_awaited _ before (λ rest more h. (more, h, refl))) e

pub whole_spelt : (end : ℕ) (items : List TextItem) (entries : List TextEntry)
    → comes_to end (Between (InHead (only []) 0)) items ≡ Entries entries → spell.SpellsEntries items entries
whole_spelt end items entries e = let spelt =
    runs_spelt end [] items entries e in subst (spell.SpellsEntries items) (sym spelt.2) spelt.1
