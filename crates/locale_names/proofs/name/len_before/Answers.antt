use Rattle.locale_names.proofs.Prelude.{◌∙◌}
use Rattle.locale_names.proofs.LanguageParts.{first-or_len}
use Rattle.locale_names.proofs.name.len_before.Goals as goal

pub returns-clause-index : goal.returns-clause-index
returns-clause-index c = c.unwrap_or.ensures ∙ first-or_len c.args.byte c.args.text.now c.memchr.result c.memchr.ensures
