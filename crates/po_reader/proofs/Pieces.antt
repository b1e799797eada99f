-- A text that is read in pieces: a piece that reads, and the entries or the fault of what is left after it.
use Rattle.po_reader.proofs.Prelude.{AddsReading, All, All-append, All-head, All-nil, All-tail, BeginsAnew, Bool, CanFollow, CommentText, EndsEntry, EndsInString, Fault, FaultsStay, HasAdmittedCharset, HasTexts, IsApart, IsLeftFault, IsNew, IsPiece, IsReadFault, IsReadSoFar, IsShorter, ItemsFault, ItemsStop, KeepsItems, LeftAnew, LeftStops, LineBeginsAnew, LinesLeft, List, MsgStrAt, OpenPieces, PiecesRead, PoFault, ReadsItems, ReadsLeft, ReadsOn, ReadsText, SpellsEntries, SpellsLeft, SpellsLines, SpellsOn, SpellsText, Stage, StopsStay, Str, TextEntry, TextFault, TextItem, Word, [], ap, append-nil, append_assoc, arith, comes_to, common_steps, drop_all, entries_joined, fold, fold-append, in_head, inl, inr, last_line, length, length-drop, line_items_once, reached, refl, rules, settled, start, subst, suc, sym, take, turn, zero, ℕ, ◌++◌, ◌<◌, ◌∙◌, ◌∷◌, ◌≡◌, ◌≢◌, ◌≤◌, ◌⊎◌}
use Rattle.po_syntax.proofs.Lines.{some_length}
use Rattle.po_syntax.proofs.PieceTexts.{piece_all, piece_anew, piece_shorter, piece_spelt, piece_stops}
use Rattle.po_reader.proofs.FirstFaults.{fault_comes, fault_unread, items_fault, spelt_once}
use Rattle.po_reader.proofs.FromSpelling.{spelt_go_on}
use Rattle.po_reader.proofs.ReaderSteps.{settles}
use Rattle.po_reader.proofs.OneOutcome.{read_or_stopped}
use Rattle.po_entry.specs.Spelling as spelling
use Rattle.po_entry.specs.Faults as faults
use Rattle.po_reader.specs.PieceRead as piece

-- the last line of items is that of those after others
last_after : (front : List TextItem) (item : TextItem) (rest : List TextItem)
    → last_line (front ++ item ∷ rest) ≡ last_line (item ∷ rest)
last_after [] item rest = refl
last_after (first ∷ []) item rest = refl
last_after (first ∷ second ∷ front) item rest = last_after (second ∷ front) item rest

fault_after : (front rest : List TextItem) {entries : List TextEntry} {line : ℕ} {fault : PoFault}
    → SpellsEntries front entries → EndsInString front → IsApart rest → ItemsFault rest fault line
    → ItemsFault (front ++ rest) fault line
fault_after front [] read ends apart wrong = absurd (fault_unread wrong (spelling.comments spelling.nothing))
fault_after front (item ∷ rest) {entries} {line} {fault} read ends apart wrong =
    items_fault [] (front ++ item ∷ rest) fault line
    (ap (λ end. comes_to end (start []) (front ++ item ∷ rest)) (last_after front item rest)
    ∙ spelt_go_on read (last_line (item ∷ rest)) [] (item ∷ rest) ends apart
    ∙ fault_comes entries wrong)

entries_stop_after : {P : TextEntry → Type 0} {F : TextEntry → PoFault → Type 0} (entries : List TextEntry)
    {others : List TextEntry} {fault : PoFault} {line : ℕ} → All P entries → faults.EntriesStop P F others fault line
    → faults.EntriesStop P F (entries ++ others) fault line
entries_stop_after [] h stops = stops
entries_stop_after {P} (first ∷ entries) h stops =
    faults.EntriesStop.later (All-head P first entries h)
    (entries_stop_after entries (All-tail P first entries h) stops)

-- the fault of items that begin anew is that of them after items that read
pub items_stop_after : (front rest : List TextItem) (entries : List TextEntry) {fault : PoFault} {line : ℕ}
    → ReadsItems front entries → EndsInString front → IsApart rest → ItemsStop rest fault line
    → ItemsStop (front ++ rest) fault line
items_stop_after front rest entries read ends apart (ItemsStop.in_items stops) =
    ItemsStop.in_items (fault_after front rest read.reads ends apart stops)
items_stop_after front rest entries read ends apart (ItemsStop.in_texts reads stops) =
    ItemsStop.in_texts (entries_joined read.reads ends reads) (entries_stop_after entries read.texts stops)
items_stop_after front rest entries read ends apart (ItemsStop.in_charset {entries = others} reads texts stops) =
    ItemsStop.in_charset (entries_joined read.reads ends reads) (All-append HasTexts entries others read.texts texts)
    (entries_stop_after entries read.charsets stops)

-- what stands after items that end in a string reads with them
pub reads_joined : {front rest : List TextItem} {entries others : List TextEntry} → ReadsItems front entries
    → EndsInString front → ReadsItems rest others → ReadsItems (front ++ rest) (entries ++ others)
reads_joined {entries = entries} {others = others} read ends more = record {
  reads = entries_joined read.reads ends more.reads;
  texts = All-append HasTexts entries others read.texts more.texts;
  charsets = All-append HasAdmittedCharset entries others read.charsets more.charsets;
}

-- no items read as no entries
pub reads_nothing : ReadsItems [] []
reads_nothing = record {
  reads = spelling.comments spelling.nothing;
  texts = All-nil HasTexts;
  charsets =
      All-nil HasAdmittedCharset;
}

pub no_entries : {rest : List TextItem} {entries : List TextEntry} → SpellsEntries rest entries → rest ≡ []
    → entries ≡ []
no_entries read none = spelt_once none read (spelling.comments spelling.nothing)

-- no items have no fault
pub nothing_stops : {fault : PoFault} {line : ℕ} (rest : List TextItem) → rest ≡ [] → ItemsStop rest fault line → ⊥
nothing_stops rest none stops = read_or_stopped (sym none) reads_nothing stops

-- where no line is left, nothing reads as no entries
left_over : (left : LinesLeft) → left.lines ≡ [] → ReadsLeft left []
left_over left none = grind (arith, common_steps, All-nil, reads_nothing)

-- nothing is spelt where no line is left
nothing_left : (left : LinesLeft) (items : List TextItem) → left.lines ≡ [] → SpellsLeft left items → items ≡ []
nothing_left left items none h = subst (λ (lines : List (List ℕ)). SpellsLines left.number lines items) none h.1

-- a piece that reads, and what is left after it, read together
pub piece_joined : (old new : LinesLeft) (items : List TextItem) (entries : List TextEntry) → SpellsOn old new items
    → (new.lines ≡ []) ⊎ EndsInString items → ReadsItems items entries
    → ReadsOn old new entries
piece_joined old new items entries spelt (inr ends) read more left = record {
  items = items ++ left.items;
  spelt = spelt left.items left.spelt;
  read = reads_joined read ends left.read;
}
piece_joined old new items entries spelt (inl none) read more left =
    grind (arith, common_steps, nothing_left, no_entries, append-nil)

-- what all of the text reads as
whole_left : (text : List ℕ) (left : LinesLeft)
    → ((items : List TextItem) → SpellsLeft left items → SpellsText text items) → (entries : List TextEntry)
    → ReadsLeft left entries → ReadsText text entries
whole_left text left spelt entries read =
    record { items = read.items; spelt = spelt read.items read.spelt; read = read.read }

new_apart : (item : TextItem) (items : List TextItem) → IsNew item → IsApart (item ∷ items)
new_apart (Word (MsgStrAt index) marks line) items new = absurd new
new_apart (Str bytes marks line) items new = absurd new
new_apart item items new = (refl, refl)

-- lines that begin anew spell items that begin with neither a string nor a plural form
apart : (left : LinesLeft) (items : List TextItem) → LeftAnew left → SpellsLeft left items → IsApart items
apart left [] anew h = (refl, refl)
apart left (item ∷ items) anew h = new_apart item items (anew item items h)

-- the faults of what is left after a piece that reads
pub piece_faults : (old new : LinesLeft) (items : List TextItem) (entries : List TextEntry) → SpellsOn old new items
    → StopsStay old new → (new.lines ≡ []) ⊎ EndsInString items → LeftAnew new → ReadsItems items entries
    → FaultsStay old new
piece_faults old new items entries spelt stops ends anew read fault line (piece.in_text stopped) =
    piece.in_text (stops fault line stopped)
piece_faults old new items entries spelt stops (inr ends) anew read fault line
    (piece.in_items {items = rest} more stopped) =
    piece.in_items (spelt rest more) (items_stop_after items rest entries read ends (apart new rest anew more) stopped)
piece_faults old new items entries spelt stops (inl none) anew read fault line
    (piece.in_items {items = rest} more stopped) =
    absurd (nothing_stops rest (nothing_left new rest none more) stopped)

-- nothing is wrong where no line is left
pub faults_over : (old new : LinesLeft) → StopsStay old new → new.lines ≡ [] → FaultsStay old new
faults_over old new stops none fault line (piece.in_text stopped) = piece.in_text (stops fault line stopped)
faults_over old new stops none fault line (piece.in_items {items = rest} more stopped) =
    absurd (nothing_stops rest (nothing_left new rest none more) stopped)

-- where the items of what is left are kept, what is left is
pub items_added : (all : Bool) (old new : LinesLeft) (items : List TextItem) (before : List TextEntry)
    {kept after : List TextEntry} → after ≡ before ++ kept → SpellsOn old new items
    → (new.lines ≡ []) ⊎ EndsInString items
    → KeepsItems all items kept → AddsReading all old new before after
items_added all old new items before added spelt ends h =
    (h.0, added ∙ ap (λ es. before ++ es) h.2, piece_joined old new items h.0 spelt ends h.1)

-- the fault of all of a text is that of the text
fault_of_text : (text : List ℕ) (old : LinesLeft)
    → ((items : List TextItem) → SpellsLeft old items → SpellsText text items)
    → ((fault : PoFault) (line : ℕ) → LeftStops old fault line → TextFault text fault line)
    → (fault : PoFault) (line : ℕ) → IsLeftFault old fault line → IsReadFault text fault line
fault_of_text text old spelt stops fault line (piece.in_text stopped) =
    faults.IsReadFault.in_text (stops fault line stopped)
fault_of_text text old spelt stops fault line (piece.in_items {items = items} h stopped) =
    faults.IsReadFault.in_items (spelt items h) stopped

-- nothing was read yet, and then a piece, and then all

pub read_none : (text : List ℕ) (left : LinesLeft)
    → ((items : List TextItem) → SpellsLeft left items → SpellsText text items)
    → ((fault : PoFault) (line : ℕ) → LeftStops left fault line → TextFault text fault line)
    → IsReadSoFar text left []
read_none text left spelt stops =
    record { reads = whole_left text left spelt; faults = fault_of_text text left spelt stops }

pub read_more : {text : List ℕ} {old new : LinesLeft} {before : List TextEntry} (piece : List TextEntry)
    → IsReadSoFar text old before → ReadsOn old new piece → FaultsStay old new → IsReadSoFar text new (before ++ piece)
read_more piece so_far on stay = record {
  reads = λ more h. rw append_assoc (so_far.reads (piece ++ more) (on more h));
  faults = λ fault line h. so_far.faults fault line (stay fault line h);
}

pub read_all : {text : List ℕ} {left : LinesLeft} {before : List TextEntry} → IsReadSoFar text left before
    → left.lines ≡ [] → ReadsText text before
read_all {left = left} so_far over = rw append-nil at (so_far.reads [] (left_over left over))

-- where items after others lead, if those were read up to a place in a head
pub lead_on : (end : ℕ) (before items : List TextItem) {place : Stage} → settled (fold turn (start []) before) ≡ place
    → CanFollow before items → reached end (start []) (before ++ items) ≡ reached end place items
lead_on end [] items leads follow = ap (λ (stage : Stage). reached end stage items) leads
lead_on end (first ∷ before) items leads (inl none) = absurd cc
lead_on end (first ∷ before) items leads (inr apart) =
    ap (λ (stage : Stage). reached end stage []) (fold-append turn (start []) (first ∷ before) items)
    ∙ settles end (fold turn (start []) (first ∷ before)) items apart
    ∙ ap (λ (stage : Stage). reached end stage items) leads

-- and their fault, if they have one
pub fault_on : (before items : List TextItem) {entries : List TextEntry} {comment_texts : List CommentText}
    → settled (fold turn (start []) before) ≡ in_head entries comment_texts → (fault : PoFault) (line : ℕ)
    → comes_to (last_line items) (start []) (before ++ items) ≡ Fault fault line
    → ItemsFault (before ++ items) fault line
fault_on before [] {entries} {comment_texts} leads fault line e = grind (arith, common_steps, append-nil)
fault_on before (item ∷ items) leads fault line e =
    items_fault [] (before ++ item ∷ items) fault line
    (ap (λ end. comes_to end (start []) (before ++ item ∷ items)) (last_after before item items) ∙ e)

-- what a line spells that begins anew is no string and no plural form, if it is anything
line_apart : (count number : ℕ) (lines : List (List ℕ)) (items : List TextItem) → LineBeginsAnew number lines
    → SpellsLines number (take count lines) items → IsApart items
line_apart count number lines [] anew h = (refl, refl)
line_apart zero number lines (item ∷ items) anew h = absurd cc
line_apart (suc count) number [] (item ∷ items) anew h = absurd anew
line_apart (suc count) number (line ∷ lines) (item ∷ items) anew h =
    first anew.0 anew.2 (line_items_once anew.1 h.2) where
      first : (here : List TextItem) → BeginsAnew here → here ≡ h.0 → IsApart (item ∷ items)
      first [] new same = absurd new
      first (one ∷ here) new same =
          let is : item ≡ one = let all = h.4 in cc in
          new_apart item items (subst IsNew (sym is) new)

-- no line spells nothing
nothing_apart : (count number : ℕ) (lines : List (List ℕ)) (items : List TextItem) → lines ≡ []
    → SpellsLines number (take count lines) items → IsApart items
nothing_apart count number [] [] e h = (refl, refl)
nothing_apart zero number [] (item ∷ items) e h = absurd cc
nothing_apart (suc count) number [] (item ∷ items) e h = absurd cc
nothing_apart count number (line ∷ lines) items e h = absurd cc

-- a piece begins so after another
next_apart : {size : ℕ} {old left new : LinesLeft} {items last : List TextItem} → IsPiece size old left items
    → IsPiece size left new last → IsApart last
next_apart {size} {old} {left} {new} {items} {last} before next = search (rules, nothing_apart, line_apart)

pub open_follow : {size : ℕ} {old left new : LinesLeft} {items last : List TextItem} → OpenPieces size old left items
    → IsPiece size left new last → CanFollow items last
open_follow piece.none next = inl refl
open_follow (piece.further others before other) next = inr (next_apart before next)

-- pieces that were read, one after the other, and what is left after them
open_spelt : {size : ℕ} {old new : LinesLeft} {items : List TextItem} → OpenPieces size old new items
    → SpellsOn old new items
open_spelt piece.none more h = h
open_spelt (piece.further {left = left} {new = new} {items = items} {last = last} others before other) more h =
    rw append_assoc (open_spelt others (last ++ more) (piece_spelt _ left new last more before h))

pub open_stops : {size : ℕ} {old new : LinesLeft} {items : List TextItem} → OpenPieces size old new items
    → StopsStay old new
open_stops piece.none fault line h = h
open_stops (piece.further {left = left} {new = new} {last = last} others before other) fault line h =
    open_stops others fault line (piece_stops _ left new last fault line before h)

piece_fewer : {size : ℕ} {old new : LinesLeft} {items : List TextItem} → IsPiece size old new items
    → length new.lines ≤ length old.lines
piece_fewer {old = old} one = grind (arith, common_steps, length-drop)

-- a piece that is followed by lines has some
pub piece_lessens : {size : ℕ} {old new : LinesLeft} {items : List TextItem} → IsPiece size old new items
    → new.lines ≢ [] → length new.lines < length old.lines
piece_lessens {size} {old} {new} {items} one some = grind (arith, common_steps, drop_all)

open_fewer : {size : ℕ} {old new : LinesLeft} {items : List TextItem} → OpenPieces size old new items
    → length new.lines ≤ length old.lines
open_fewer piece.none = omega arith
open_fewer (piece.further others before other) = omega (arith, piece_fewer before, open_fewer others)

-- the last of some items is that of those after others
ends_after : (front rest : List TextItem) → EndsEntry rest → EndsInString (front ++ rest)
ends_after front [] ends = absurd (ends.0 refl)
ends_after [] (item ∷ rest) ends = ends.1
ends_after (first ∷ []) (item ∷ rest) ends = ends.1
ends_after (first ∷ second ∷ front) (item ∷ rest) ends = ends_after (second ∷ front) (item ∷ rest) ends

module _ {size : ℕ} {old new : LinesLeft} (read : PiecesRead size old new) where
  pub pieces_spelt : SpellsOn old new (read.items ++ read.last)
  pieces_spelt more h =
      rw append_assoc (open_spelt read.others (read.last ++ more)
      (piece_spelt size read.left new read.last more read.piece h))

  pub pieces_stop : StopsStay old new
  pieces_stop fault line h =
      open_stops read.others fault line (piece_stops size read.left new read.last fault line read.piece h)

  -- where no line is left, all that was left spells their items
  pub pieces_all : new.lines ≡ [] → SpellsLeft old (read.items ++ read.last)
  pieces_all over = open_spelt read.others read.last (piece_all size read.left new read.last read.piece over)

  pub pieces_end : (new.lines ≡ []) ⊎ EndsEntry read.last
      → (new.lines ≡ []) ⊎ EndsInString (read.items ++ read.last)
  pieces_end (inl over) = inl over
  pieces_end (inr ends) = inr (ends_after read.items read.last ends)

  pub pieces_anew : LeftAnew new
  pieces_anew = piece_anew size read.left new read.last read.piece

  pub pieces_shorter : IsShorter old new
  pieces_shorter some = chosen read.left.lines refl where
    chosen : (lines : List (List ℕ)) → read.left.lines ≡ lines → length new.lines < length old.lines
    chosen [] is = omega (arith, ap length is, piece_fewer read.piece, some_length old.lines some)
    chosen (line ∷ lines) is =
        let less : length new.lines < length read.left.lines =
        piece_shorter size read.left new read.last read.piece (λ none. cc) in
        omega (arith, less, open_fewer read.others)
