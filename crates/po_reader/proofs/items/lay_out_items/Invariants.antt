use Rattle.po_reader.proofs.Prelude.{AreLaid, CanFollow, CanLie, CommentText, HoldsHead, List, ReadsUpTo, TextEntry, TextItem, [], comes, entries_in, in_head, kept_entry, last_line, length, map, reached, start, views, ◌++◌, ◌≡◌, ◌≤◌}
use Rattle.std.proofs.Common.{All}
use Rattle.po_reader.proofs.items.lay_out_items.Given as goal

abbrev pub invariant-loop-rest : goal.invariant-loop-rest
invariant-loop-rest l = record {
  reads : (before : List TextItem) → CanFollow before (views l.items)
      → ReadsUpTo l.with_comments before l.fn.head l.fn.drafts
      → (entries : List TextEntry) × (comment_texts : List CommentText)
      × (reached (last_line (views l.items)) (start []) (before ++ views l.items)
      ≡ comes (in_head entries comment_texts) l.rest)
      × HoldsHead l.with_comments l.head comment_texts [] × AreLaid l.drafts
      × (All CanLie (map (kept_entry l.with_comments) entries)
      → entries_in l.drafts ≡ map (kept_entry l.with_comments) entries);
  fewer : length l.rest.items ≤ length l.items;
}

abbrev pub decreases-loop-rest : goal.decreases-loop-rest
decreases-loop-rest l = length l.rest.items
