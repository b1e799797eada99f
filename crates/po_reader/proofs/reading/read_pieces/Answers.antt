use Rattle.po_reader.proofs.Prelude.{All, All-append, All-nil, EndsEntry, HoldsText, IsFaultOf-weaker, IsUtf8, OfString, [], and_parts, ap, entry_at, false≢true, in_items, inl, inr, map, passed_on, refl, subst, sym, views, ◌++◌, ◌∙◌, ◌≡◌, ◌⊎◌}
use Rattle.po_entry.specs.Rows.{LiesIn}
use Rattle.po_reader.specs.PieceRead.OpenPieces.{further, none}
use Rattle.po_reader.proofs.Pieces.{open_follow, open_stops, piece_lessens}
use Rattle.po_reader.proofs.ValidEntries.{drafts_no_nul, drafts_of, drafts_stop, drafts_utf8}
use Rattle.po_reader.proofs.reading.read_pieces.Goals as goal
use Rattle.po_reader.proofs.reading.read_pieces.Goals.{in-Err-check_drafts, in-Ok-check_drafts, in-OutOfMemory, in_default, then-ends_entry-via-else-ends_entry+then-are_over, then-ends_entry-via-then-ends_entry}

pub reading-init : goal.reading-init
reading-init c =
    let bytes = c.clear.new.self.bytes.items in
    record {
      items = [];
      others = none;
      hold = All-nil HoldsText;
      utf8 = λ _. All-nil (OfString IsUtf8);
      read = record {
        entries = [];
        comment_texts = [];
        leads = refl;
        holds = c.new-head.ensures c.args.with_comments;
        laid = subst (All (LiesIn bytes)) (sym c.clear.ensures) (All-nil (LiesIn bytes));
        kept = λ can. ap (map (entry_at bytes)) c.clear.ensures;
      };
    }

pub returns-in_err-read-clause-fault : goal.returns-in_err-read-clause-fault
returns-in_err-read-clause-fault c =
    passed_on c.from_residual.result _ c.from_residual.ensures.1
    (IsFaultOf-weaker (open_stops c.reading.invariant.others) c.in_err-read.ensures.fault)

pub returns-in-Err-clause-found : goal.returns-in-Err-clause-found
returns-in-Err-clause-found c =
    let done = c.reading.invariant in
    let piece = c.in_ok-read.ensures.piece in
    let fails = rw c.as_slice-items.ensures.value at c.in-Err.ensures.fault in
    elim c.match-error.branch [
      | in-OutOfMemory w ↦ rw w.result-is tt
      | in_default w ↦
          rw w.result-is (
            record {
              left = c.reading.pieces;
              items = done.items;
              last = views c.in_ok-read.read.items;
              others = done.others;
              piece = piece;
            },
            (
              IsFaultOf-weaker (λ fault line. in_items) (fails done.items (open_follow done.others piece) done.read),
              w.in_default.not-OutOfMemory,
            ),
          )
    ]

pub returns-in-Err-clause-fault : goal.returns-in-Err-clause-fault
returns-in-Err-clause-fault c =
    let done = c.reading.invariant in
    let fails = rw c.as_slice-items.ensures.value at c.in-Err.ensures.fault in
    elim c.match-error.branch [
      | in-OutOfMemory w ↦
          rw w.result-is (record {
            fault = λ other. absurd (other w.in-OutOfMemory.is);
            memory = (fails done.items (open_follow done.others c.in_ok-read.ensures.piece) done.read).memory;
          })
      | in_default w ↦ rw w.result-is tt
    ]

pub check_drafts-requires-clause-lie : goal.check_drafts-requires-clause-lie
check_drafts-requires-clause-lie c =
    let done = c.reading.invariant in
    let read = rw c.as_slice-items.ensures.value at c.in-Ok.ensures.found in
    (read done.items (open_follow done.others c.in_ok-read.ensures.piece) done.read).laid

pub check_drafts-requires-clause-no_nul : goal.check_drafts-requires-clause-no_nul
check_drafts-requires-clause-no_nul c =
    let done = c.reading.invariant in
    let read = rw c.as_slice-items.ensures.value at c.in-Ok.ensures.found in
    drafts_no_nul _ _ _ _ (read done.items (open_follow done.others c.in_ok-read.ensures.piece) done.read)
    (All-append HoldsText done.items (views c.in_ok-read.read.items) done.hold c.in_ok-read.ensures.hold)

pub check_drafts-requires-clause-utf8 : goal.check_drafts-requires-clause-utf8
check_drafts-requires-clause-utf8 c = λ are.
    let done = c.reading.invariant in
    let last = views c.in_ok-read.read.items in
    let read = rw c.as_slice-items.ensures.value at c.in-Ok.ensures.found in
    let both = and_parts c.reading.are_utf8 c.strings_are_utf8-are_utf8.result are in
    drafts_utf8 _ _ _ _ (read done.items (open_follow done.others c.in_ok-read.ensures.piece) done.read)
    (All-append HoldsText done.items last done.hold c.in_ok-read.ensures.hold)
    (All-append (OfString IsUtf8) done.items last (done.utf8 both.0)
    (rw c.as_slice-items.ensures.value at (c.strings_are_utf8-are_utf8.ensures.0 both.1)))

pub returns-then-ends_entry-clause-found : goal.returns-then-ends_entry-clause-found
returns-then-ends_entry-clause-found c =
    let done = c.reading.invariant in
    let last = views c.in_ok-read.read.items in
    let piece = c.in_ok-read.ensures.piece in
    let read = (rw c.as_slice-items.ensures.value at c.in-Ok.ensures.found) done.items
    (open_follow done.others piece) done.read in
    let hold = All-append HoldsText done.items last done.hold c.in_ok-read.ensures.hold in
    let ends : (c.next.new.self.lines ≡ []) ⊎ EndsEntry last = elim c.then-ends_entry.branch [
      | then-ends_entry-via-then-ends_entry w ↦
          inr (rw c.as_slice-items.ensures.value at (c.ends_entry.ensures.0 w.if-ends_entry.true))
      | then-ends_entry-via-else-ends_entry+then-are_over w ↦ inl (w.are_over.ensures.over w.if-are_over.true)
    ] in
    elim c.match-check_drafts.branch [
      | in-Ok-check_drafts w ↦
          rw w.result-is (
            record { left = c.reading.pieces; items = done.items; last = last; others = done.others; piece = piece },
            (
              ends,
              drafts_of _ _ _ _ read hold w.in-Ok-check_drafts.ensures.texts w.in-Ok-check_drafts.ensures.charsets,
            ),
          )
      | in-Err-check_drafts w ↦
          let other = w.in-Err-check_drafts.ensures.other in
          rw w.result-is (
            record { left = c.reading.pieces; items = done.items; last = last; others = done.others; piece = piece },
            (
              record {
                fault = λ _. drafts_stop _ _ _ _ read hold _ _ w.in-Err-check_drafts.ensures.fault;
                memory = λ memory. absurd (other memory);
              },
              other,
            ),
          )
    ]

pub reading-smaller : goal.reading-smaller
reading-smaller c = piece_lessens c.in_ok-read.ensures.piece (c.are_over.ensures.some c.if-are_over.false)

pub reading-preserved : goal.reading-preserved
reading-preserved c =
    let done = c.reading.invariant in
    let last = views c.in_ok-read.read.items in
    let piece = c.in_ok-read.ensures.piece in
    let read = rw c.as_slice-items.ensures.value at c.in-Ok.ensures.found in
    let ends = rw c.as_slice-items.ensures.value at c.ends_entry.ensures.1 in
    record {
      items = done.items ++ last;
      others = further done.others piece (λ h. absurd (false≢true (sym c.if-ends_entry.false ∙ ends h)));
      hold = All-append HoldsText done.items last done.hold c.in_ok-read.ensures.hold;
      utf8 = λ are.
          let both = and_parts c.reading.are_utf8 c.strings_are_utf8-are_utf8.result are in
          All-append (OfString IsUtf8) done.items last (done.utf8 both.0)
          (rw c.as_slice-items.ensures.value at (c.strings_are_utf8-are_utf8.ensures.0 both.1));
      read = read done.items (open_follow done.others piece) done.read;
    }
