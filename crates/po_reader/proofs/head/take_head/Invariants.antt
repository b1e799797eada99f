use Rattle.po_reader.proofs.Prelude.{Between, CommentText, HoldsHead, InHead, List, PreviousText, TextEntry, [], after_head, comes, in_head, length, ◌≡◌, ◌≤◌}
use Rattle.po_reader.proofs.head.take_head.Given as goal

abbrev pub invariant-loop-kind : goal.invariant-loop-kind
invariant-loop-kind l = record {
  reads : (before : List CommentText) → (comment_texts : List CommentText) × (previous : List PreviousText)
      × (HoldsHead l.with_comments l.fn.head before [] → HoldsHead l.with_comments l.head comment_texts previous)
      × ((entries : List TextEntry)
      → comes (in_head entries before) l.fn.rest
      ≡ comes (Between (InHead (after_head entries comment_texts previous) l.above)) l.rest)
      × (l.above ≡ 0 → previous ≡ []);
  fewer : length l.rest.items ≤ length l.fn.rest.items;
}

abbrev pub decreases-loop-kind : goal.decreases-loop-kind
decreases-loop-kind l = length l.rest.items
