use Rattle.po_entry.proofs.Prelude.{ends_name, rules, sym, ◌∙◌}
use Rattle.std.proofs.Common.{tests}
use Rattle.std.proofs.lemmas.Iterator.{YieldsList-from_slice}
use Rattle.std.proofs.lemmas.Iterator.Search.{position_from_yields_List}
use Rattle.po_entry.proofs.Headers.{before_found, before_none}
use Rattle.po_entry.proofs.charset.charset_of.Goals as goal

pub returns-in-Some : goal.returns-in-Some
returns-in-Some c =
    let found = position_from_yields_List ends_name _ _ _ c.position-end.ensures.ran
    (YieldsList-from_slice c.after_charset-name.result.now cc) (λ x b q k. search (rules, tests)) in
    rw (← c.after_charset-name.ensures) (before_found ends_name _ _ (sym c.in-Some.is ∙ found))

pub returns-in-None : goal.returns-in-None
returns-in-None c =
    let found = position_from_yields_List ends_name _ _ _ c.position-end.ensures.ran
    (YieldsList-from_slice c.after_charset-name.result.now cc) (λ x b q k. search (rules, tests)) in
    rw (← c.after_charset-name.ensures) (before_none ends_name _ (sym c.in-None.is ∙ found))
