use Rattle.po_syntax.proofs.Prelude.{AreOfText, BeginsAnew, EndsPiece, ap, arith, inl, inr, length, lines_of_rest, rules, subst, sym, ◌∙◌, ◌≡◌}
use Rattle.po_syntax.proofs.PieceLines.{can_end, cut_at, cut_off, lent_before, line_stops, lines_begin, none_read, read_on}
use Rattle.po_syntax.proofs.PieceTexts.{len_few, read_few}
use Rattle.po_syntax.proofs.pieces.Pieces.add_piece.Goals as goal
use Rattle.po_syntax.proofs.pieces.Pieces.add_piece.Goals.{else-len-size-via-else-len-size, else-len-size-via-then-len-size+else-can_end, in-Some+in-Ok+then-len-size+then-can_end, in_default}

pub returns-in-Err-clause-fault : goal.returns-in-Err-clause-fault
returns-in-Err-clause-fault c =
    let lines = ap lines_of_rest c.in-Some.is
    ∙ lines_begin c.in-Some.text.now c.first_line.result.0.now c.first_line.result.1 c.first_line.ensures.cut in
    record {
      fault = λ other. line_stops c.loop-rest.invariant.so_far.read lines (c.in-Err.ensures.fault other);
      memory = search rules;
    }

pub loop-rest-init : goal.loop-rest-init
loop-rest-init c =
    rw (← c.self.view_is, c.requires) (none_read _ _)

pub overflow_add-line : goal.overflow_add-line
overflow_add-line c =
    let few = read_few c.loop-rest.invariant.so_far.read (subst AreOfText c.self.view_is c.self.invariant) in
    omega (arith, few)

pub loop-rest-preserved : goal.loop-rest-preserved
loop-rest-preserved c =
    let found = c.in-Ok.ensures.found in
    let own : c.len-count.result ≡ length c.loop-rest.items.items =
    omega (arith, c.len-count.ensures, c.loop-rest.items.ok.0) in
    let cut = cut_at c.loop-rest.items.items c.add_line.new.items.items found.0 c.len-count.result own found.2 in
    let lines = ap lines_of_rest c.in-Some.is
    ∙ lines_begin c.in-Some.text.now c.first_line.result.0.now c.first_line.result.1 c.first_line.ensures.cut in
    read_on c.loop-rest.invariant found.2 c.in-Ok.ensures.lent lines found.1
    (λ large ends anew. elim c.else-len-size.branch [
      | else-len-size-via-then-len-size+else-can_end w ↦
          let entry = rw w.deref.ensures.value at w.can_end.ensures.1 in
          let is = entry (subst (EndsPiece c.loop-rest.len) (sym cut.0) ends, subst BeginsAnew (sym cut.1) anew) in
          absurd (cc (is, w.if-can_end.false))
      | else-len-size-via-else-len-size w ↦ absurd (omega (arith, w.if-len-size.false))
    ])

pub overflow_add-len-in-Some : goal.overflow_add-len-in-Some
overflow_add-len-in-Some c =
    let lines = ap lines_of_rest c.in-Some.is
    ∙ lines_begin c.in-Some.text.now c.first_line.result.0.now c.first_line.result.1 c.first_line.ensures.cut in
    omega (arith, len_few c.loop-rest.invariant.so_far (subst AreOfText c.self.view_is c.self.invariant) lines)

pub returns-clause-cut : goal.returns-clause-cut
returns-clause-cut c = elim c.match-rest.branch [
  | in-Some+in-Ok+then-len-size+then-can_end w ↦
      let found = w.in-Ok.ensures.found in
      let own : w.len-count.result ≡ length c.loop-rest.items.items =
      omega (arith, w.len-count.ensures, c.loop-rest.items.ok.0) in
      let cut = cut_at c.loop-rest.items.items w.add_line.new.items.items found.0 w.len-count.result own found.2 in
      let lines = ap lines_of_rest w.in-Some.is
      ∙ lines_begin w.in-Some.text.now w.first_line.result.0.now w.first_line.result.1 w.first_line.ensures.cut in
      let entry = rw w.deref.ensures.value at (w.can_end.ensures.0 w.if-can_end.true) in
      let kept : c.match-rest.items.items ≡ c.loop-rest.items.items =
      rw (w.items-is, w.truncate.ensures.items) (lent_before _ _ _ w.len-count.result own w.in-Ok.ensures.lent) in
      rw kept
      (cut_off c.loop-rest.invariant (inr (can_end c.loop-rest.invariant.so_far lines found.1
      w.if-len-size.true (subst (EndsPiece c.loop-rest.len) cut.0 entry.0) (subst BeginsAnew cut.1 entry.1))))
  | in_default w ↦
      rw w.items-is
      (cut_off c.loop-rest.invariant (inl (ap lines_of_rest w.in_default.is)))
]
