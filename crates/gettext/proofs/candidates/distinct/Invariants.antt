use Rattle.gettext.proofs.Prelude.{distinct, map, take, ◌≡◌}
use Rattle.gettext.proofs.LocaleNames.{HasNames}
use Rattle.gettext.proofs.candidates.distinct.Given as goal

-- the names so far are kept, each once, and the tree has them
abbrev pub invariant-loop-name : goal.invariant-loop-name
invariant-loop-name l = record {
  are_kept : map (λ name. name.items) l.kept.items ≡ distinct (map (λ name. name.items) (take l.name-index l.names));
  seen : HasNames l.seen (map (λ name. name.items) l.kept.items);
}
