use Rattle.msgattrib.proofs.Prelude.{AllPairs, List, TextEntry, [], ap, err_from_is_err_and, kept_entry, map, rules, subst, true, ◌++◌, ◌∙◌, ◌≡◌, ◌≢◌}
use Rattle.po_entry.specs.Faults.IsReadFault.{in_text}
use Rattle.po_reader.proofs.CommentFields.{all_kept}
use Rattle.po_reader.proofs.Pieces.{read_all, read_more, read_none}
use Rattle.po_syntax.proofs.Faults.{IsFaultOf-weaker, is_text_fault}
use Rattle.msgattrib.proofs.SelectedEntries.{no_duplicate, piece_selected}
use Rattle.msgattrib.proofs.selected_text.selected_text.Goals.{else-not-all_differ, then-not-all_differ+in_ok-check_duplicates}
use Rattle.msgattrib.proofs.selected_text.selected_text.Goals as goal

pub returns-in_err-pieces : goal.returns-in_err-pieces
returns-in_err-pieces c =
    let p = err_from_is_err_and c.from_residual.result c.from_residual.ensures.1 in
    let why = IsFaultOf-weaker (λ fault line. in_text) (is_text_fault c.in_err-pieces.ensures.fault) in
    rw (p.1, p.2) (search (rules, why))

pub loop-pieces-init : goal.loop-pieces-init
loop-pieces-init c = record {
  before = [];
  read = read_none c.args.text.now c.in_ok-pieces.pieces c.in_ok-pieces.ensures.found c.in_ok-pieces.ensures.stops;
  selected = record {
    parts_are = c.in_ok-parts.ensures;
    hashes_are = c.new-hashes.ensures.items;
  };
  emptied = c.new-store.ensures;
}

pub loop-pieces-preserved : goal.loop-pieces-preserved
loop-pieces-preserved c =
    let done = c.loop-pieces.invariant in
    let found = c.in_ok-next_store.ensures.found in
    let read : c.next_store.new.store ≡ found.0 =
    found.1 ∙ ap (λ (before : List TextEntry). before ++ map (kept_entry true) found.0) done.emptied
    ∙ all_kept found.0 in
    record {
      before = done.before ++ found.0;
      read = read_more found.0 done.read found.2 c.in_ok-next_store.ensures.faults;
      selected = piece_selected c.args.selection.now done.before found.0 c.next_store.new.store c.loop-pieces.parts
          c.add_entries.new.parts c.loop-pieces.hashes.items c.add_entries.new.hashes.items read done.selected
          c.in_ok-add_entries.ensures.parts c.in_ok-add_entries.ensures.hashes;
      emptied = c.clear.ensures;
    }

pub returns : goal.returns
returns c =
    let done = c.loop-pieces.invariant in
    let reads = read_all done.read (c.are_over.ensures.over c.loop-pieces-test.false) in
    record {
      entries = done.before;
      reads = reads;
      distinct = elim c.if-not-all_differ.branch [
        | then-not-all_differ+in_ok-check_duplicates w ↦
            w.in_ok-check_duplicates.ensures.distinct done.before reads
        | else-not-all_differ w ↦
            no_duplicate c.args.selection.now done.before
            (subst (AllPairs (λ a b. a ≢ b)) done.selected.hashes_are
            (c.all_differ.ensures.0 w.if-not-all_differ.false))
      ];
      text_is = c.in_ok-join.ensures.written _ done.selected.parts_are;
    }
