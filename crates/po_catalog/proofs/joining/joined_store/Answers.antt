use Rattle.po_catalog.proofs.Prelude.{IsCatalogueEntry, List, TextEntry, [], ap, sym, ◌++◌, ◌∙◌, ◌∷◌}
use Rattle.po_catalog.proofs.Entries.{borrowed_holds, borrowed_more}
use Rattle.po_catalog.proofs.joining.joined_store.Goals as goal

pub push_entry-requires : goal.push_entry-requires
push_entry-requires c =
    borrowed_holds IsCatalogueEntry c.args.entries.now c.loop-member.member-index c.member-item.result
    c.loop-member-test.true c.member-item.is c.requires

pub loop-member-preserved : goal.loop-member-preserved
loop-member-preserved c =
    c.in_ok-push_entry.ensures.ok
    ∙ ap (λ (l : List TextEntry). l ++ c.member-item.result.entry.now ∷ []) c.loop-member.invariant
    ∙ sym (borrowed_more c.args.entries.now c.loop-member.member-index c.member-item.result c.loop-member-test.true
    c.member-item.is)
