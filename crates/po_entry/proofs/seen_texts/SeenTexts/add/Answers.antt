use Rattle.po_entry.proofs.Prelude.{SeenText, ap, map, ◌∙◌}
use Rattle.po_entry.proofs.TextLists.{bytes_of, index_of_key, key_added}
use Rattle.po_entry.proofs.seen_texts.SeenTexts.add.Goals as goal

pub returns-clause-seen : goal.returns-clause-seen
returns-clause-seen c =
    let text : SeenText = record { bytes = c.args.text } in
    rw (← c.self.view_is)
    (ap (map bytes_of) c.in_ok-index.ensures.keys ∙ key_added text c.self.inside.index.keys)

pub returns-clause-index : goal.returns-clause-index
returns-clause-index c =
    let text : SeenText = record { bytes = c.args.text } in
    rw (← c.self.view_is) (c.in_ok-index.ensures.index ∙ index_of_key text c.self.inside.index.keys)
