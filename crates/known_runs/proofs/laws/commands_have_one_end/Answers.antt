use Rattle.known_runs.proofs.CommandRuns.{by_substitution, in_file, of_look_up, of_msgfmt}
use Rattle.known_runs.proofs.laws.commands_have_one_end.Goals as goal

pub returns : goal.returns
returns c = record {
  msgfmt = λ text old. of_msgfmt c.one_msgfmt_run.ensures text old;
  look_up = λ text query. of_look_up c.catalogues_are_one.ensures c.one_rule.ensures text query;
  msgattrib = λ text old. in_file (λ run other is so. c.one_msgattrib_run.ensures _ text _ run other is so);
  msgunfmt = λ bytes old. in_file (λ run other is so. c.one_msgunfmt_run.ensures _ run other is so);
  msgcat = λ a b old. in_file (λ run other is so. c.one_msgcat_run.ensures _ _ run other is so);
  envsubst = λ values text. by_substitution values text;
}
