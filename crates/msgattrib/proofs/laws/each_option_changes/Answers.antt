use Rattle.msgattrib.proofs.OptionLaws.{sets_fuzzy, clears_fuzzy, sets_obsolete, clears_obsolete, clears_previous, empties}
use Rattle.msgattrib.proofs.laws.each_option_changes.Goals as goal

pub returns : goal.returns
returns c = record {
  set_fuzzy = sets_fuzzy;
  clear_fuzzy = clears_fuzzy;
  set_obsolete = sets_obsolete;
  clear_obsolete =
      clears_obsolete;
  clear_previous = clears_previous;
  empty = empties;
}
