use Rattle.po_syntax.proofs.Prelude.{YieldsList-from_slice, all_from_yields_List, owns_utf8, rules, tests}
use Rattle.po_syntax.proofs.StringsRead.{all_owned}
use Rattle.po_syntax.proofs.item.strings_are_utf8.Goals as goal

pub returns : goal.returns
returns c =
    let all = all_from_yields_List owns_utf8 _ _ c.all.result c.all.ensures.ran
    (YieldsList-from_slice c.args.items.now cc) (λ x b q k. search (rules, tests)) in
    rw all (all_owned c.args.items.now c.requires)
