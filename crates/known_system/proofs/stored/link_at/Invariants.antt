use Rattle.known_system.proofs.Prelude.{bytes_of, drop, links_by_path, ◌≡◌}
use Rattle.known_system.proofs.stored.link_at.Given as goal

abbrev pub invariant-loop-link : goal.invariant-loop-link
invariant-loop-link l =
    bytes_of (links_by_path (drop l.link-index l.links)) l.path ≡ bytes_of (links_by_path l.links) l.path
