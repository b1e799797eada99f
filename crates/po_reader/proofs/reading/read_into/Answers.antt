use Rattle.po_reader.proofs.Prelude.{IsFaultOf-weaker, [], ap, append-nil, append_assoc, is_text_fault, passed_on, sym, ◌++◌, ◌∙◌}
use Rattle.po_entry.specs.Faults.IsReadFault.{in_text}
use Rattle.po_reader.proofs.CommentFields.{all_kept}
use Rattle.po_reader.proofs.Pieces.{read_all, read_more, read_none}
use Rattle.po_reader.proofs.reading.read_into.Goals as goal

pub returns-in_err-pieces-clause-fault : goal.returns-in_err-pieces-clause-fault
returns-in_err-pieces-clause-fault c =
    passed_on c.from_residual.result _ c.from_residual.ensures.1
    (IsFaultOf-weaker (λ fault line. in_text) (is_text_fault c.in_err-pieces.ensures.fault))

pub loop-pieces-init : goal.loop-pieces-init
loop-pieces-init c = record {
  before = [];
  read = read_none c.args.text.now c.in_ok-pieces.pieces c.in_ok-pieces.ensures.found c.in_ok-pieces.ensures.stops;
  holds = sym (append-nil c.args.store.now);
}

pub loop-pieces-preserved : goal.loop-pieces-preserved
loop-pieces-preserved c =
    let done = c.loop-pieces.invariant in
    let found = c.in_ok-next_store.ensures.found in
    record {
      before = done.before ++ found.0;
      read = read_more found.0 done.read found.2 c.in_ok-next_store.ensures.faults;
      holds = found.1 ∙ ap (λ l. c.loop-pieces.store ++ l) (all_kept found.0) ∙ ap (λ l. l ++ found.0) done.holds
          ∙ append_assoc c.args.store.now done.before found.0;
    }

pub returns-clause-found : goal.returns-clause-found
returns-clause-found c =
    let done = c.loop-pieces.invariant in
    (done.before, read_all done.read (c.are_over.ensures.over c.loop-pieces-test.false), done.holds)
