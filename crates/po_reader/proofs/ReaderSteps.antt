-- Steps of the reader, which hang on what the next item is.
use Rattle.po_reader.proofs.Prelude.{AfterForm, All, All-push, AreInOrder, AreSome, BadOrder, Before, Between, Bool, CommentText, EndsEntry, EndsHead, Entries, Err, Fault, Form, Gap, Id, In, InHead, IsApart, IsFaultOf, IsString, Keyword, List, Marks, MsgCtxt, MsgId, MsgIdPlural, MsgStr, MsgStrAt, Ok, OnOk, PoError, PoFault, PreviousText, Reached, Result, Row, SoFar, Some, Stage, Stop, Str, TextEntry, TextItem, Translation, Wanted, Word, [], add-one, after_head, and_parts, ap, arith, begins_body, begins_form, begins_own, begins_string, begins_word, bool_eq_equiv, closed, comes_to, common_steps, drop, drop-cons, entry_at, eqb-true, false, false≢true, first_line, fold_stays, get_or, in_head, is_wanted, last_line, length, line_of, map, no_lines, none as no_previous, not-true, opened, outcome, outcome_of, rank, reached, refl, same_marks, settled, settled_gap, slice_get, subst, suc, sym, take, take_all, taken_here, true, turn, view, views, with, with_entry, with_previous_text, without, zero, ℕ, ◌+◌, ◌-◌, ◌<◌, ◌↔◌, ◌∙◌, ◌∷◌, ◌≡◌, ◌≢◌, ◌≤◌}
use Rattle.po_syntax.specs.declared.item.Item.{Item}

pub on_ok_always : {T E : Type 0} {P : Type 0} (r : Result T E) → P → OnOk r P
on_ok_always (Ok y) p = p
on_ok_always (Err e) p = tt

-- the ranks of the keywords rise from above this one
abbrev pub Rise : ℕ → List Keyword → Type 0
Rise above [] = Unit {0}
Rise above (keyword ∷ keywords) = (above < rank keyword) × Rise (rank keyword) keywords

abbrev pub keywords : List PreviousText → List Keyword
keywords previous = map (λ (text : PreviousText). text.keyword) previous

rise_lower : (low above : ℕ) (some : List Keyword) → low < above → Rise above some → Rise low some
rise_lower low above [] lt h = tt
rise_lower low above (keyword ∷ some) lt h = (omega (arith, lt, h.0), h.1)

some_rise : {some all : List Keyword} → AreSome some all → (above : ℕ) → Rise above all → Rise above some
some_rise no_previous above h = tt
some_rise (with {keyword = keyword} s) above h = (h.0, some_rise s (rank keyword) h.1)
some_rise (without {keyword = keyword} {some = some} s) above h =
    rise_lower above (rank keyword) some h.0 (some_rise s (rank keyword) h.1)

pub order_rises : (previous : List PreviousText) → AreInOrder previous → Rise 0 (keywords previous)
order_rises previous h = some_rise h 0 (omega arith, (omega arith, (omega arith, tt)))

none_after : (some : List Keyword) → Rise 3 some → AreSome some []
none_after [] h = no_previous
none_after (MsgStr ∷ some) h = absurd (omega (arith, h.0))
none_after (keyword ∷ some) h = absurd (omega (arith, h.0))

after_id : (some : List Keyword) → Rise 2 some → AreSome some (MsgIdPlural ∷ [])
after_id [] h = without no_previous
after_id (MsgIdPlural ∷ some) h = with (none_after some h.1)
after_id (keyword ∷ some) h = absurd (omega (arith, h.0))

after_context : (some : List Keyword) → Rise 1 some → AreSome some (MsgId ∷ MsgIdPlural ∷ [])
after_context [] h = without (without no_previous)
after_context (MsgId ∷ some) h = with (after_id some h.1)
after_context (MsgIdPlural ∷ some) h = without (with (none_after some h.1))
after_context (keyword ∷ some) h = absurd (omega (arith, h.0))

rises_some : (some : List Keyword) → Rise 0 some → AreSome some (MsgCtxt ∷ MsgId ∷ MsgIdPlural ∷ [])
rises_some [] h = without (without (without no_previous))
rises_some (MsgCtxt ∷ some) h = with (after_context some h.1)
rises_some (MsgId ∷ some) h = without (with (after_id some h.1))
rises_some (MsgIdPlural ∷ some) h = without (without (with (none_after some h.1)))
rises_some (keyword ∷ some) h = absurd (omega (arith, h.0))

pub rise_order : (previous : List PreviousText) → Rise 0 (keywords previous) → AreInOrder previous
rise_order previous h = rises_some (keywords previous) h

-- what stands where there is no row
abbrev pub no_row : Row
no_row = record {
  start = 0;
  context = 0;
  key = 0;
  own = 0;
  head = 0;
  line = 0;
  has_plural = false;
  fuzzy = false;
  obsolete = false;
}

module _ (bytes : List ℕ) (rows : List Row) (i : ℕ) where
  -- the entry at an index stands first after it
  pub rest_here : i < length rows
      → map (entry_at bytes) (drop i rows) ≡ entry_at bytes (get_or rows i no_row)
      ∷ map (entry_at bytes) (drop (i + 1) rows)
  rest_here below = rw add-one (ap (map (entry_at bytes)) (drop-cons rows i no_row below))

  -- one more entry that was checked
  pub asked_more : (P : TextEntry → Type 0) → i < length rows → All P (map (entry_at bytes) (take i rows))
      → P (entry_at bytes (get_or rows i no_row)) → All P (map (entry_at bytes) (take (i + 1) rows))
  asked_more P below so_far here =
      subst (All P) (sym (taken_here bytes rows i no_row below)) (All-push P _ _ so_far here)

  -- all entries were checked
  pub asked_all : (P : TextEntry → Type 0) → length rows ≤ i → All P (map (entry_at bytes) (take i rows))
      → All P (map (entry_at bytes) rows)
  asked_all P past so_far = rw take_all at so_far

pub last_at : (items : List Item) (n : ℕ) (item : Item) → n + 1 ≡ length items → Some item ≡ slice_get items n
    → line_of (view item) ≡ last_line (views items)
last_at [] n item e is = absurd (omega (arith, e))
last_at (first ∷ []) zero item e is = let same : item ≡ first = cc in ap (λ i. line_of (view i)) same
last_at (first ∷ []) (suc n) item e is = absurd (omega (arith, e))
last_at (first ∷ second ∷ items) zero item e is = absurd (omega (arith, e))
last_at (first ∷ second ∷ items) (suc n) item e is = let less : n + 1 ≡ length (second ∷ items) =
    omega (arith, e) in last_at (second ∷ items) n item less is

pub some_length : (items : List Item) (item : Item) → Some item ≡ slice_get items (length items - 1)
    → length items - 1 + 1 ≡ length items
some_length [] item e = cc
some_length (first ∷ items) item e = omega arith

pub entry_at_end : (items : List Item) (n : ℕ) (item : Item) → n + 1 ≡ length items → Some item ≡ slice_get items n
    → IsString (view item) ↔ EndsEntry (views items)
entry_at_end [] n item e is = absurd (omega (arith, e))
entry_at_end (first ∷ []) zero item e is = let same : item ≡ first = cc in rw same (λ h. (λ none. cc, h), λ h. h.1)
entry_at_end (first ∷ []) (suc n) item e is = absurd (omega (arith, e))
entry_at_end (first ∷ second ∷ items) zero item e is = absurd (omega (arith, e))
entry_at_end (first ∷ second ∷ items) (suc n) item e is =
    let less : n + 1 ≡ length (second ∷ items) = omega (arith, e) in
    let more = entry_at_end (second ∷ items) n item less is in
    (λ h. (λ none. cc, (more.0 h).1), λ h. more.1 (λ none. cc, h.1))

-- Steps of the reader that hang on what the next item is.

abbrev pub marked : Bool → Bool → Marks
marked obsolete previous = record { obsolete = obsolete; previous = previous }

pub same_marks-refl : (marks : Marks) → same_marks marks marks ≡ true
same_marks-refl marks = rw (bool_eq_equiv.refl marks.obsolete, bool_eq_equiv.refl marks.previous) refl

pub same_marks_true : (a b : Marks) → same_marks a b ≡ true → a ≡ b
same_marks_true a b e = grind (arith, common_steps, and_parts)

-- no item was refused
abbrev pub goes_on : Stage → Bool
goes_on (Stop fault line) = false
goes_on stage = true

-- after a refused item nothing is read
pub stopped : (end : ℕ) (fault : PoFault) (line : ℕ) (items : List TextItem)
    → comes_to end (Stop fault line) items ≡ Fault fault line
stopped end fault line items =
    ap (λ stage. outcome end (settled stage)) (fold_stays turn (Stop fault line) (λ item. refl) items)

pub never : (end : ℕ) (fault : PoFault) (line : ℕ) (items : List TextItem) (entries : List TextEntry)
    → comes_to end (Stop fault line) items ≡ Entries entries → ⊥
never end fault line items entries e = let fails = stopped end fault line items in cc

-- a text ends where no string stands
pub text_ends : (end : ℕ) (read : SoFar) (keyword : Keyword) (marks : Marks) (text : List ℕ) (rest : List TextItem)
    → begins_string rest ≡ false
    → reached end (In read keyword marks true text) rest ≡ reached end (Between (closed read keyword marks text)) rest
text_ends end read keyword marks text (Str bytes found line ∷ rest) e = cc
text_ends end read keyword marks text rest e = refl

-- an entry ends where no further form stands
pub forms_end : (end : ℕ) (read : SoFar) (index : ℕ) (rest : List TextItem) → begins_form rest ≡ false
    → reached end (Between (AfterForm read index)) rest ≡ reached end (Between (InHead (with_entry read) 0)) rest
forms_end end read index [] e = refl
forms_end end read index (item ∷ rest) e = rw e refl

-- a string is wanted, and something else stands first
pub no_string : (end : ℕ) (items : List TextItem) → begins_string items ≡ false
    → (read : SoFar) (keyword : Keyword) (marks : Marks) (some : Bool) (text : List ℕ)
    → (some ≡ true → begins_string items ≡ true)
    → comes_to end (In read keyword marks some text) items ≡ Fault BadOrder (first_line end items)
no_string end items none read keyword marks true text begins = absurd (false≢true (sym none ∙ begins refl))
no_string end [] none read keyword marks false text begins = refl
no_string end (Str bytes found line ∷ items) none read keyword marks false text begins = cc
no_string end (item ∷ items) none read keyword marks false text begins = stopped end BadOrder (line_of item) items

-- a keyword of own lines is wanted, and no keyword stands first
pub no_keyword : (end : ℕ) (items : List TextItem) → begins_word items ≡ false → (read : SoFar) (wanted : Wanted)
    → comes_to end (Between (Before read wanted)) items ≡ Fault BadOrder (first_line end items)
no_keyword end [] none read wanted = refl
no_keyword end (Word other found line ∷ items) none read wanted = cc
no_keyword end (item ∷ items) none read wanted = stopped end BadOrder (line_of item) items

-- an item that is refused stands first
pub first_refused : (end : ℕ) (items rest : List TextItem) (item : TextItem) (fault : PoFault) → items ≡ item ∷ rest
    → (stage : Stage) → turn stage item ≡ Stop fault (line_of item)
    → comes_to end stage items ≡ Fault fault (first_line end items)
first_refused end items rest item fault is stage e =
    rw is (ap (λ next. comes_to end next rest) e ∙ stopped end fault (line_of item) rest)

-- an item that is taken stands first
pub taken : (end : ℕ) (items rest : List TextItem) (item : TextItem) → items ≡ item ∷ rest → (stage next : Stage)
    → turn stage item ≡ next → reached end stage items ≡ reached end next rest
taken end items rest item is stage next e = rw is (ap (λ s. reached end s rest) e)

-- what a later place comes to an earlier one does
pub fails_from : {earlier later : Reached} {error : PoError} → earlier ≡ later
    → IsFaultOf (λ fault line. outcome_of later ≡ Fault fault line) error
    → IsFaultOf (λ fault line. outcome_of earlier ≡ Fault fault line) error
fails_from same fails = record { fault = λ other. ap outcome_of same ∙ fails.fault other; memory = fails.memory }

pub out_of_order : {earlier later : Reached} {error : PoError} (at : ℕ) → earlier ≡ later
    → error ≡ record { kind = BadOrder; line = at } → outcome_of later ≡ Fault BadOrder at
    → IsFaultOf (λ fault line. outcome_of earlier ≡ Fault fault line) error
out_of_order at same is fails =
    rw is (record { fault = λ other. ap outcome_of same ∙ fails; memory = λ memory. absurd cc })

pub form_follows : (end : ℕ) (read : SoFar) (index : ℕ) (rest : List TextItem) → begins_form rest ≡ true
    → reached end (Between (AfterForm read index)) rest ≡ reached end (Between (Before read (Form index))) rest
form_follows end read index [] e = cc
form_follows end read index (item ∷ rest) e = rw e refl

-- which keywords are wanted
pub form_wanted : (index : ℕ) (keyword : Keyword) → is_wanted (Form index) keyword ≡ true → keyword ≡ MsgStrAt index
form_wanted index (MsgStrAt found) e = ap (λ i. MsgStrAt i) (eqb-true found index e)
form_wanted index keyword e = cc

pub single_wanted : (keyword : Keyword) → is_wanted Translation keyword ≡ true → (keyword ≡ MsgIdPlural → ⊥)
    → keyword ≡ MsgStr
single_wanted MsgStr e other = refl
single_wanted MsgIdPlural e other = absurd (other refl)
single_wanted keyword e other = cc

pub id_wanted : (keyword : Keyword) → is_wanted Id keyword ≡ true → keyword ≡ MsgId
id_wanted MsgId e = refl
id_wanted keyword e = cc

-- own lines begin with a context, or with a msgid
pub context_begins : (end : ℕ) (items rest : List TextItem) (marks : Marks) (line : ℕ)
    → items ≡ Word MsgCtxt marks line ∷ rest → begins_own items ≡ true → (read : SoFar) (above : ℕ)
    → reached end (Between (InHead read above)) items
    ≡ reached end (opened read (no_lines marks.obsolete) MsgCtxt line) rest
context_begins end items rest marks line is begins read above = let own : marks.previous ≡ false =
    not-true _ (and_parts _ _ (rw is at begins)).0 in rw (is, own) refl

-- a previous text ends in its head
pub previous_closed : (read : SoFar) (keyword : Keyword) (marks : Marks) (text : List ℕ) → marks.previous ≡ true
    → closed read keyword marks text ≡ InHead (with_previous_text read (record { keyword = keyword; text = text }))
    (rank keyword)
previous_closed read keyword marks text e = rw e refl

-- a head that ends at the end of the items has no previous text there
pub head_over : (end above : ℕ) (items : List TextItem) (entries : List TextEntry) (comment_texts : List CommentText)
    (previous : List PreviousText) → items ≡ [] → EndsHead above items → (above ≡ 0 → previous ≡ [])
    → (previous ≡ []) × (reached end (Between (InHead (after_head entries comment_texts previous) above)) items
    ≡ record { end = end; stage = in_head entries comment_texts })
head_over end above [] entries comment_texts previous none ends plain = (plain ends, rw (plain ends, ends) refl)
head_over end above (item ∷ items) entries comment_texts previous none ends plain = cc

pub own_lines_begin : (above : ℕ) (items : List TextItem) → EndsHead above items → items ≢ [] → begins_own items ≡ true
own_lines_begin above [] ends some = absurd (some refl)
own_lines_begin above (item ∷ items) ends some = ends

-- items that begin with neither a string nor a form go on from the settled place
gap_settles : (end : ℕ) (gap : Gap) (items : List TextItem) → IsApart items
    → reached end (Between gap) items ≡ reached end (Between (settled_gap gap)) items
gap_settles end (InHead read above) items apart = refl
gap_settles end (Before read wanted) items apart = refl
gap_settles end (AfterForm read index) items apart = forms_end end read index items apart.1

pub settles : (end : ℕ) (stage : Stage) (items : List TextItem) → IsApart items
    → reached end stage items ≡ reached end (settled stage) items
settles end (Between gap) items apart = gap_settles end gap items apart
settles end (Stop fault line) items apart = refl
settles end (In read keyword marks true text) items apart = grind (arith, common_steps, text_ends, gap_settles, apart)
settles end (In read keyword marks false text) items apart = refl

-- where a head ends, or the items end too early for it
pub own_ends : (above : ℕ) (items rest : List TextItem) (keyword : Keyword) (marks : Marks) (line : ℕ)
    → items ≡ Word keyword marks line ∷ rest → marks.previous ≡ false → begins_body keyword ≡ true
    → EndsHead above items
own_ends above items rest keyword marks line is own body = rw (is, own, body) refl

pub none_ends : (above : ℕ) (items : List TextItem) → items ≡ [] → above ≡ 0 → EndsHead above items
none_ends above [] is none = none
none_ends above (item ∷ items) is none = absurd cc

pub head_refused : (end above : ℕ) (items : List TextItem) (read : SoFar) → items ≡ [] → above ≢ 0
    → comes_to end (Between (InHead read above)) items ≡ Fault BadOrder (first_line end items)
head_refused end above (item ∷ items) read is some = absurd cc
head_refused end above [] read is some = grind (arith, common_steps, eqb-true)
