use Rattle.std.proofs.Common.{refl}
use Rattle.plural_rule.specs.Prelude.{rule_in}
use Rattle.pokit_c.proofs.opening.open.Goals as goal

pub returns-in-Ok-clause-opened : goal.returns-in-Ok-clause-opened
returns-in-Ok-clause-opened c zero = (
  record { messages = c.in-Ok.field-0-0.messages; rule = rule_in c.in-Ok.rule c.open_into.new.room },
  record {
    file = c.in-Ok.ensures.exact;
    rule = rw c.in-Ok.rule-is c.in-Ok.ensures.view;
    nplurals = refl;
    few = rw c.in-Ok.rule-is c.in-Ok.ensures.limit;
    program_is = rw c.in-Ok.rule-is c.in-Ok.ensures.program;
  },
)

pub returns-in-Ok-clause-cost : goal.returns-in-Ok-clause-cost
returns-in-Ok-clause-cost c zero = (
  record { messages = c.in-Ok.field-0-0.messages; rule = rule_in c.in-Ok.rule c.open_into.new.room },
  record {
    file = c.in-Ok.ensures.exact;
    rule = rw c.in-Ok.rule-is c.in-Ok.ensures.view;
    nplurals = refl;
    few = rw c.in-Ok.rule-is c.in-Ok.ensures.limit;
    program_is = rw c.in-Ok.rule-is c.in-Ok.ensures.program;
  },
  c.in-Ok.ensures.cost,
)
