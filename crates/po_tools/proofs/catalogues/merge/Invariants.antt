use Rattle.po_tools.proofs.Prelude.{All, IsCatalogueEntry, inputs_view, merged_messages, messages, take, ◌≡◌}
use Rattle.po_tools.proofs.catalogues.merge.Given as goal

-- the messages so far are merged
abbrev pub invariant-loop-number : goal.invariant-loop-number
invariant-loop-number l = record {
  merged : l.entries.items ≡ merged_messages l.options (take l.number (messages (inputs_view l.fn.inputs)));
  valid : All IsCatalogueEntry l.entries.items;
}
