use Rattle.po_syntax.proofs.OneOutcome.{line_ends, line_items_once, line_not_stopped, line_stops_once}
use Rattle.po_syntax.proofs.laws.items_or_fault_of_line.Goals as goal

pub returns : goal.returns
returns c = record {
  some = line_ends;
  items = λ line text items others h g. line_items_once h g;
  fault = λ text fault other h g. line_stops_once h g;
  either = λ line text items fault h g. line_not_stopped h g;
}
