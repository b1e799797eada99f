-- Items that are refused where they stand, and what is wrong with them.
use Rattle.po_reader.proofs.Prelude.{AfterForm, BadOrder, BadPluralIndex, Before, Between, Bool, Comment, CommentKind, Form, Gap, Id, In, InHead, IsOwn, IsViable, IsWrongIndex, Keyword, List, Marks, Misfit, MixedObsolete, MsgCtxt, MsgId, MsgIdPlural, MsgStr, MsgStrAt, PoFault, SoFar, Stage, Stop, Str, TextItem, Translation, Word, [], ap, beq, bool_eq_equiv, closed, eq-eqb, eqb-false, eqb-true, false, if◌then◌else◌, index, line_of, mixed, nat_lt, ne_eqb, opened, order, own_marks, previous_marks, rank, refl, same_marks, stray_string, subst, sym, true, true≢false, turn, turn_gap, turn_own, with_entry, with_obsolete, ℕ, ◌&&◌, ◌++◌, ◌==◌, ◌∙◌, ◌∷◌, ◌≡◌}
use Rattle.po_reader.proofs.ReaderSteps.{goes_on, marked}
use Rattle.po_reader.proofs.FromSpelling.{no_form, string_step}

module _ (prefix : List TextItem) where
  -- the item is taken, or refused with its misfit, on its own line
  pub data Step (item : TextItem) : Stage → Type 0 where
    taken : {next : Stage} → goes_on next ≡ true → Step item next
    refused : {fault : PoFault} → Misfit prefix item fault → Step item (Stop fault (line_of item))

  -- the item could stand after the prefix
  abbrev CanFollow : TextItem → Type 0
  CanFollow item = IsViable (prefix ++ item ∷ [])

  -- what could follow the prefix, by the step from its place
  abbrev pub Could : Stage → Type 0
  Could stage = (item : TextItem) → goes_on (turn stage item) ≡ true → CanFollow item

  abbrev pub Never : Stage → Type 0
  Never stage = (item : TextItem) → goes_on (turn stage item) ≡ false → CanFollow item → ⊥

  -- and of own keywords on this line, by the step from a gap
  abbrev CouldWord : Gap → ℕ → Type 0
  CouldWord gap line =
      (keyword : Keyword) (o : Bool) → goes_on (turn_gap gap (Word keyword (own_marks o) line)) ≡ true
      → CanFollow (Word keyword (own_marks o) line)

  abbrev NeverWord : Gap → ℕ → Type 0
  NeverWord gap line =
      (keyword : Keyword) (o : Bool) → goes_on (turn_gap gap (Word keyword (own_marks o) line)) ≡ false
      → CanFollow (Word keyword (own_marks o) line) → ⊥

  -- an item that is no own one is out of order
  foreign : (item : TextItem) → (IsOwn item → ⊥) → Misfit prefix item BadOrder
  foreign item not_own = order (λ w. not_own (own item w)) (λ w. not_own w.0) where
    own : (item : TextItem) → IsWrongIndex prefix item → IsOwn item
    own (Word (MsgStrAt found) marks line) w = w.0
    own item w = absurd w

  -- an own keyword is out of order where no form could stand, nor it under any mark
  stray_word : (keyword : Keyword) (obsolete : Bool) (line : ℕ)
      → ((index : ℕ) (o : Bool) → CanFollow (Word (MsgStrAt index) (own_marks o) line) → ⊥)
      → ((o : Bool) → CanFollow (Word keyword (own_marks o) line) → ⊥)
      → Misfit prefix (Word keyword (own_marks obsolete) line) BadOrder
  stray_word keyword obsolete line no_form no_mark =
      order (no_index keyword no_mark) (λ w. no_mark w.1.0 w.1.1) where
        no_index : (keyword : Keyword) → ((o : Bool) → CanFollow (Word keyword (own_marks o) line) → ⊥)
            → IsWrongIndex prefix (Word keyword (own_marks obsolete) line) → ⊥
        no_index (MsgStrAt found) _ w = no_form w.1 w.2 w.4
        no_index keyword _ w = w

  -- taken by a test, or else refused
  tested : (item : TextItem) (b : Bool) (next : Stage) (fault : PoFault) → goes_on next ≡ true
      → (b ≡ false → Misfit prefix item fault) → Step item (if b then next else Stop fault (line_of item))
  tested item true next fault on misfit = taken on
  tested item false next fault on misfit = refused (misfit refl)

  -- a keyword that is wanted is refused for its mark
  mixed_step : (read : SoFar) (keyword : Keyword) (obsolete : Bool) (line : ℕ)
      → CanFollow (Word keyword (own_marks read.own.obsolete) line)
      → (IsWrongIndex prefix (Word keyword (own_marks obsolete) line) → ⊥)
      → Step (Word keyword (own_marks obsolete) line) (if beq read.own.obsolete obsolete
      then opened read read.own keyword line else Stop MixedObsolete line)
  mixed_step read keyword obsolete line follows right =
      tested (Word keyword (own_marks obsolete) line) (beq read.own.obsolete obsolete) _ MixedObsolete refl
      (λ other. mixed right (refl, (read.own.obsolete, follows)))

  -- where a form is wanted, one of another index is refused for its index
  form_step : (read : SoFar) (n found : ℕ) (obsolete : Bool) (line : ℕ)
      → ((index : ℕ) (o : Bool) → goes_on (turn_own read (Form n) (Word (MsgStrAt index) (own_marks o) line)) ≡ true
      → CanFollow (Word (MsgStrAt index) (own_marks o) line))
      → ((index : ℕ) (o : Bool) → goes_on (turn_own read (Form n) (Word (MsgStrAt index) (own_marks o) line)) ≡ false
      → CanFollow (Word (MsgStrAt index) (own_marks o) line) → ⊥)
      → Step (Word (MsgStrAt found) (own_marks obsolete) line)
      (turn_own read (Form n) (Word (MsgStrAt found) (own_marks obsolete) line))
  form_step read n found obsolete line could never = by (found == n) refl where
    follows : (other : ℕ) → (other == n) ≡ true → CanFollow (Word (MsgStrAt other) (own_marks read.own.obsolete) line)
    follows other is = could other read.own.obsolete (rw (is, bool_eq_equiv.refl read.own.obsolete) refl)

    by : (b : Bool) → (found == n) ≡ b → Step (Word (MsgStrAt found) (own_marks obsolete) line) (if b
        then (if beq read.own.obsolete obsolete then opened read read.own (MsgStrAt found) line
        else Stop MixedObsolete line) else Stop BadPluralIndex line)
    by true is =
        mixed_step read (MsgStrAt found) obsolete line (follows found is)
        (λ w. never w.1 w.2 (rw (ne_eqb w.1 n (λ e. w.3 (e ∙ sym (eqb-true found n is)))) refl) w.4)
    by false isnt =
        refused (index (refl, n, read.own.obsolete, (λ e. eqb-false found n isnt (sym e)), follows n (eq-eqb n n refl)))

  word_step : (gap : Gap) (keyword : Keyword) (obsolete : Bool) (line : ℕ) → CouldWord gap line → NeverWord gap line
      → Step (Word keyword (own_marks obsolete) line) (turn_gap gap (Word keyword (own_marks obsolete) line))
  word_step (AfterForm read n) (MsgStrAt found) obsolete line could never =
      form_step read n found obsolete line (λ index. could (MsgStrAt index)) (λ index. never (MsgStrAt index))
  word_step (Before read (Form n)) (MsgStrAt found) obsolete line could never =
      form_step read n found obsolete line (λ index. could (MsgStrAt index)) (λ index. never (MsgStrAt index))
  word_step (Before read Id) MsgId obsolete line could never =
      mixed_step read MsgId obsolete line
      (could MsgId read.own.obsolete (rw (bool_eq_equiv.refl read.own.obsolete) refl))
      (λ w. w)
  word_step (Before read Translation) MsgIdPlural obsolete line could never =
      mixed_step read MsgIdPlural obsolete line
      (could MsgIdPlural read.own.obsolete (rw (bool_eq_equiv.refl read.own.obsolete) refl)) (λ w. w)
  word_step (Before read Translation) MsgStr obsolete line could never =
      mixed_step read MsgStr obsolete line
      (could MsgStr read.own.obsolete (rw (bool_eq_equiv.refl read.own.obsolete) refl)) (λ w. w)
  word_step gap (MsgStrAt found) obsolete line could never =
      refused (stray_word (MsgStrAt found) obsolete line (λ index o. never (MsgStrAt index) o refl)
      (λ o. never (MsgStrAt found) o refl))
  word_step (InHead read above) MsgCtxt obsolete line could never = taken refl
  word_step (InHead read above) MsgId obsolete line could never = taken refl
  word_step (AfterForm read n) MsgCtxt obsolete line could never = taken refl
  word_step (AfterForm read n) MsgId obsolete line could never = taken refl
  word_step gap keyword obsolete line could never =
      refused (order (λ w. w) (λ w. never keyword w.1.0 refl w.1.1))

  -- a keyword of a previous text
  previous_misfit : (keyword : Keyword) (o : Bool) (line : ℕ)
      → Misfit prefix (Word keyword (previous_marks o) line) BadOrder
  previous_misfit keyword o line = foreign (Word keyword (previous_marks o) line) (λ own. true≢false own)

  previous_step : (gap : Gap) (keyword : Keyword) (o : Bool) (line : ℕ)
      → Step (Word keyword (previous_marks o) line) (turn_gap gap (Word keyword (previous_marks o) line))
  previous_step (InHead read above) keyword o line =
      tested (Word keyword (previous_marks o) line) (nat_lt above (rank keyword)) _ BadOrder refl
      (λ low. previous_misfit keyword o line)
  previous_step (Before read wanted) keyword o line = refused (previous_misfit keyword o line)
  previous_step (AfterForm read number) keyword o line =
      rw (no_form keyword o line)
      (tested (Word keyword (previous_marks o) line) (nat_lt 0 (rank keyword))
      (In (with_entry read) keyword (previous_marks o) false []) BadOrder refl (λ low. previous_misfit keyword o line))

  comment_step : (gap : Gap) (kind : CommentKind) (text : List ℕ) (line : ℕ)
      → Step (Comment kind text line) (turn_gap gap (Comment kind text line))
  comment_step (Before read wanted) kind text line = refused (foreign (Comment kind text line) (λ own. own))
  comment_step gap kind text line = taken refl

  any_word_step : (gap : Gap) (keyword : Keyword) (o p : Bool) (line : ℕ) → CouldWord gap line → NeverWord gap line
      → Step (Word keyword (marked o p) line) (turn_gap gap (Word keyword (marked o p) line))
  any_word_step gap keyword o true line could never = previous_step gap keyword o line
  any_word_step gap keyword o false line could never = word_step gap keyword o line could never

  -- a string that no keyword precedes
  string_out : (gap : Gap) (bytes : List ℕ) (marks : Marks) (line : ℕ)
      → turn_gap gap (Str bytes marks line) ≡ Stop BadOrder line
  string_out (InHead read above) bytes marks line = refl
  string_out (Before read wanted) bytes marks line = refl
  string_out (AfterForm read number) bytes marks line = refl

  unlike : (read : SoFar) (keyword : Keyword) (marks : Marks) (text : List ℕ) (line : ℕ) (fault : PoFault) (same : Bool)
      → goes_on (if same && false then In read keyword marks true text else Stop fault line) ≡ false
  unlike read keyword marks text line fault true = refl
  unlike read keyword marks text line fault false = refl

  stray : (read : SoFar) (keyword : Keyword) (some : Bool) (text bytes : List ℕ) (line : ℕ) (a p b q : Bool)
      → Could (In read keyword (marked a p) some text) → Never (In read keyword (marked a p) some text)
      → Misfit prefix (Str bytes (marked b q) line) (stray_string (marked a p) (marked b q))
  stray read keyword some text bytes line a true b false could never =
      order (λ w. w) (λ w. never (Str bytes (own_marks w.1.0) line)
      (unlike read keyword (previous_marks a) (text ++ bytes) line _ (beq a w.1.0)) w.1.1)
  stray read keyword some text bytes line a false b false could never =
      mixed (λ w. w) (
        refl,
        (
          a,
          could (Str bytes (own_marks a) line)
              (ap goes_on (string_step read keyword (own_marks a) some text bytes line)),
        ),
      )
  stray read keyword some text bytes line a p b q could never =
      foreign (Str bytes (previous_marks b) line) (λ own. true≢false own)

  -- a keyword where a string is wanted
  no_word : (read : SoFar) (keyword : Keyword) (marks : Marks) (text : List ℕ) (other : Keyword) (o p : Bool) (line : ℕ)
      → Never (In read keyword marks false text) → Misfit prefix (Word other (marked o p) line) BadOrder
  no_word read keyword marks text other o true line never = previous_misfit other o line
  no_word read keyword marks text other o false line never =
      stray_word other o line (λ index o. never (Word (MsgStrAt index) (own_marks o) line) refl)
      (λ o. never (Word other (own_marks o) line) refl)

  pub step : (stage : Stage) (item : TextItem) → goes_on stage ≡ true → Could stage → Never stage
      → Step item (turn stage item)
  step (Stop fault at) item on could never = absurd cc
  step (Between gap) (Comment kind text line) on could never = comment_step gap kind text line
  step (Between gap) (Word keyword marks line) on could never =
      any_word_step gap keyword marks.obsolete marks.previous line
      (λ k o. could (Word k (own_marks o) line)) (λ k o. never (Word k (own_marks o) line))
  step (Between gap) (Str bytes marks line) on could never =
      subst (Step (Str bytes marks line)) (sym (string_out gap bytes marks line))
      (refused (order (λ w. w) (λ w. never (with_obsolete w.1.0 (Str bytes marks line))
      (ap goes_on (string_out gap bytes (marked w.1.0 marks.previous) line)) w.1.1)))
  step (In read keyword marks some text) (Str bytes found line) on could never =
      tested (Str bytes found line) (same_marks marks found) (In read keyword marks true (text ++ bytes))
      (stray_string marks found) refl
      (λ other. stray read keyword some text bytes line marks.obsolete marks.previous found.obsolete found.previous
      could never)
  step (In read keyword marks true text) (Comment kind bytes line) on could never =
      comment_step (closed read keyword marks text) kind bytes line
  step (In read keyword marks true text) (Word other found line) on could never =
      any_word_step (closed read keyword marks text) other found.obsolete found.previous line
      (λ k o. could (Word k (own_marks o) line)) (λ k o. never (Word k (own_marks o) line))
  step (In read keyword marks false text) (Comment kind bytes line) on could never =
      refused (foreign (Comment kind bytes line) (λ own. own))
  step (In read keyword marks false text) (Word other found line) on could never =
      refused (no_word read keyword marks text other found.obsolete found.previous line never)
