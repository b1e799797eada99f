use Rattle.po_writer.proofs.Prelude.{flat_map, texts_left, ◌++◌, ◌≡◌}
use Rattle.po_writer.proofs.entry_lines.push_further.Given as goal

abbrev pub invariant-loop-element : goal.invariant-loop-element
invariant-loop-element l =
    l.out.items ++ flat_map (λ element. l.separator ++ element) (texts_left l.element-iterator)
    ≡ l.initial.out.items ++ flat_map (λ element. l.separator ++ element) (texts_left l.initial.elements)
