use Rattle.msgattrib.proofs.OptionLaws.{keeps_translated, keeps_untranslated, removes_fuzzy, keeps_fuzzy, removes_obsolete, keeps_obsolete}
use Rattle.msgattrib.proofs.laws.each_option_keeps.Goals as goal

pub returns : goal.returns
returns c = record {
  translated = keeps_translated;
  untranslated = keeps_untranslated;
  no_fuzzy = removes_fuzzy;
  only_fuzzy = keeps_fuzzy;
  no_obsolete = removes_obsolete;
  only_obsolete = keeps_obsolete;
}
