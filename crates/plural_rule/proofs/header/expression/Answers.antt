use Rattle.plural_rule.proofs.Prelude.{Some, ap, before_first, is_end, ◌∙◌}
use Rattle.std.specs.Prelude.{option_map}
use Rattle.plural_rule.proofs.HeaderRules.{before_first_none, before_first_some}
use Rattle.plural_rule.proofs.header.expression.Goals as goal

pub returns-in-Some-memchr2 : goal.returns-in-Some-memchr2
returns-in-Some-memchr2 c =
    ap (option_map (before_first is_end)) c.in-Some.ensures
    ∙ ap Some (before_first_some c.in-Some.text.now c.in-Some-memchr2.end c.in-Some-memchr2.ensures)

pub returns-in-None : goal.returns-in-None
returns-in-None c =
    ap (option_map (before_first is_end)) c.in-Some.ensures
    ∙ ap Some (before_first_none c.in-Some.text.now c.in-None.ensures)
