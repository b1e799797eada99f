use Rattle.po_reader.proofs.Prelude.{IsFaultOf-weaker, arith, inl, passed_on}
use Rattle.po_reader.specs.PieceRead.IsLeftFault.{in_items, in_text}
use Rattle.po_reader.specs.PieceRead.ReadsPiece.{all, pieces}
use Rattle.po_reader.proofs.Pieces.{faults_over, items_added, piece_faults, pieces_all, pieces_anew, pieces_end, pieces_shorter, pieces_spelt, pieces_stop}
use Rattle.po_reader.proofs.reading.next_store.Goals as goal

pub returns-in_err-read_pieces-clause-fault : goal.returns-in_err-read_pieces-clause-fault
returns-in_err-read_pieces-clause-fault c =
    passed_on c.from_residual.result _ c.from_residual.ensures.1
    (IsFaultOf-weaker (λ fault line. in_text) c.in_err-read_pieces.ensures.fault)

pub returns-in_err-read_pieces-2-clause-fault : goal.returns-in_err-read_pieces-2-clause-fault
returns-in_err-read_pieces-2-clause-fault c =
    passed_on c.from_residual-in_err-read_pieces-2.result _
    c.from_residual-in_err-read_pieces-2.ensures.1
    (IsFaultOf-weaker (λ fault line. in_text)
    (rw c.copy-start.ensures at c.in_err-read_pieces-2.ensures.fault))

pub returns-in-None-clause-found : goal.returns-in-None-clause-found
returns-in-None-clause-found c =
    let found = rw c.in-None.is at c.in_ok-read_pieces.ensures.found in
    items_added c.args.with_comments _ _ _ _ c.in_ok-append.ensures.ok (pieces_spelt found.0)
    (pieces_end found.0 found.1.0) found.1.1.keeps

pub returns-in-None-clause-piece : goal.returns-in-None-clause-piece
returns-in-None-clause-piece c =
    let found = rw c.in-None.is at c.in_ok-read_pieces.ensures.found in
    pieces found.0.others found.0.piece found.1.0

pub returns-in-None-clause-faults : goal.returns-in-None-clause-faults
returns-in-None-clause-faults c =
    let found = rw c.in-None.is at c.in_ok-read_pieces.ensures.found in
    piece_faults _ _ _ found.1.1.keeps.0 (pieces_spelt found.0) (pieces_stop found.0) (pieces_end found.0 found.1.0)
    (pieces_anew found.0) found.1.1.keeps.1

pub returns-in-None-clause-fewer : goal.returns-in-None-clause-fewer
returns-in-None-clause-fewer c = pieces_shorter c.in_ok-read_pieces.ensures.found.0

pub returns-clause-found : goal.returns-clause-found
returns-clause-found c =
    let found = rw (c.in-None-2.is, c.copy-start.ensures) at c.in_ok-read_pieces-2.ensures.found in
    let over = c.in_ok-read_pieces-2.ensures.whole (omega arith) in
    items_added c.args.with_comments _ _ _ _ c.in_ok-append-in-None-2.ensures.ok (pieces_spelt found.0)
    (inl over) found.1.1.keeps

pub returns-clause-piece : goal.returns-clause-piece
returns-clause-piece c =
    let found = rw c.in_default.is at c.in_ok-read_pieces.ensures.found in
    let over = c.in_ok-read_pieces-2.ensures.whole (omega arith) in
    all found.0.others found.0.piece (found.1.0.fault found.1.1) over

pub returns-clause-faults : goal.returns-clause-faults
returns-clause-faults c =
    let found = rw (c.in-None-2.is, c.copy-start.ensures) at c.in_ok-read_pieces-2.ensures.found in
    let over = c.in_ok-read_pieces-2.ensures.whole (omega arith) in
    faults_over c.args.pieces.now _ (pieces_stop found.0) over

pub returns-in-Some-clause-fault : goal.returns-in-Some-clause-fault
returns-in-Some-clause-fault c =
    let found = rw (c.in-Some.is, c.copy-start.ensures) at c.in_ok-read_pieces-2.ensures.found in
    let over = c.in_ok-read_pieces-2.ensures.whole (omega arith) in
    IsFaultOf-weaker (λ fault line. in_items (pieces_all found.0 over)) found.1.0
