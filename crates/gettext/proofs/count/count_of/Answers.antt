use Rattle.gettext.proofs.Prelude.{subst, sym, ◌∙◌}
use Rattle.std.specs.Str.Parse.{ParsesUnsigned}
use Rattle.gettext.proofs.Counts.{count-no_utf8, count-parsed, count-sign}
use Rattle.gettext.proofs.count.count_of.Goals as goal

pub returns-in-Ok : goal.returns-in-Ok
returns-in-Ok c =
    c.unwrap_or.ensures
    ∙ count-parsed c.args.text.now c.parse.result (sym c.starts_with.ensures.value ∙ c.if-not-starts_with.true)
    (subst (λ bs. ParsesUnsigned 64 10 bs c.parse.result) c.in-Ok.ensures.cases.0 c.parse.ensures.value.0)

pub returns-in_default : goal.returns-in_default
returns-in_default c = count-sign c.args.text.now (sym c.starts_with.ensures.value ∙ c.if-not-starts_with.false)

pub returns-in_default-2 : goal.returns-in_default-2
returns-in_default-2 c = count-no_utf8 c.args.text.now (rw c.in_default.is at c.from_utf8.ensures.cases).0
