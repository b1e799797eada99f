use Rattle.msgcat.proofs.Prelude.{YieldsList-from_slice, ap, has_part, rules, ◌∙◌}
use Rattle.std.proofs.lemmas.Iterator.Search.{find_from_yields_List}
use Rattle.msgcat.specs.declared.definition.NamedEntry.{NamedEntry}
use Rattle.msgcat.proofs.OneDefinition.{first_found}
use Rattle.msgcat.proofs.definition.first_with.Goals as goal

pub returns : goal.returns
returns c =
    let has = has_part c.args.part in
    ap (λ d. d.now.entry) c.unwrap_or.ensures
    ∙ first_found has c.args.definitions.now c.find-found.result _ c.requires c.index-definitions-0.is
    (find_from_yields_List (λ (d : NamedEntry). has d.entry) _ _ c.find-found.result c.find-found.ensures.ran
    (YieldsList-from_slice c.args.definitions.now c.iter.ensures.rest) (λ x b q k. search rules))
