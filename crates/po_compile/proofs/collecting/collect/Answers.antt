use Rattle.po_compile.proofs.Prelude.{[], ap, live_messages, map, map-append, passed_on, sym, without_comments, ◌++◌, ◌∙◌}
use Rattle.po_entry.specs.Faults.IsReadFault.{in_text}
use Rattle.po_reader.proofs.Pieces.{read_all, read_more, read_none}
use Rattle.po_syntax.proofs.Faults.{IsFaultOf-weaker, is_text_fault}
use Rattle.po_compile.proofs.CompiledMessages.{uncommented}
use Rattle.po_compile.proofs.collecting.collect.Goals as goal

pub returns-in_err-pieces-clause-fault : goal.returns-in_err-pieces-clause-fault
returns-in_err-pieces-clause-fault c =
    passed_on c.from_residual.result _ c.from_residual.ensures.1
    (IsFaultOf-weaker (λ fault line. in_text) (is_text_fault c.in_err-pieces.ensures.fault))

pub loop-pieces-init : goal.loop-pieces-init
loop-pieces-init c = record {
  before = [];
  read = read_none c.args.text.now c.in_ok-pieces.pieces c.in_ok-pieces.ensures.found c.in_ok-pieces.ensures.stops;
  kept = c.in_ok-entries.ensures;
}

pub loop-pieces-preserved : goal.loop-pieces-preserved
loop-pieces-preserved c =
    let done = c.loop-pieces.invariant in
    let piece = c.in_ok-next_store.ensures.found in
    record {
      before = done.before ++ piece.0;
      read = read_more piece.0 done.read piece.2 c.in_ok-next_store.ensures.faults;
      kept = piece.1 ∙ ap (λ es. es ++ map without_comments piece.0) done.kept
          ∙ sym (map-append without_comments done.before piece.0);
    }

pub returns-clause-found : goal.returns-clause-found
returns-clause-found c =
    let done = c.loop-pieces.invariant in (
      done.before,
      read_all done.read (c.are_over.ensures.over c.loop-pieces-test.false),
      c.of-2.ensures ∙ ap (live_messages c.args.use_fuzzy) done.kept ∙ uncommented c.args.use_fuzzy done.before,
    )
