use Rattle.msgattrib.proofs.OptionLaws.{marks_stay, forms_stay, rest_stays}
use Rattle.msgattrib.proofs.laws.the_rest_stays.Goals as goal

pub returns : goal.returns
returns c = record { marks = marks_stay; forms = forms_stay; rest = rest_stays }
