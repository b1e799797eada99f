use Rattle.gettext.proofs.environment.OwnedEnvironment.read.Goals as goal

pub returns : goal.returns
returns g c = record {
  lc_all = c.in_ok-read_variable.ensures;
  lc_messages = c.in_ok-read_variable-2.ensures;
  lang = c.in_ok-read_variable-3.ensures;
  language = c.in_ok-read_variable-4.ensures;
  textdomain = c.in_ok-read_variable-5.ensures;
  textdomaindir = c.in_ok-read_variable-6.ensures;
}
