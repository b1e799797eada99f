use Rattle.known_system.proofs.Prelude.{bytes_of, drop, texts_by_name, ◌≡◌}
use Rattle.known_system.proofs.source.bytes_of.Given as goal

abbrev pub invariant-loop-one : goal.invariant-loop-one
invariant-loop-one l =
    bytes_of (texts_by_name (drop l.one-index l.all)) l.name ≡ bytes_of (texts_by_name l.all) l.name
