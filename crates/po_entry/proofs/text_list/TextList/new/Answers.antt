use Rattle.po_entry.proofs.TextLists.{no_texts, none_AreTexts}
use Rattle.po_entry.proofs.text_list.TextList.new.Goals as goal

pub invariant_of-result : goal.invariant_of-result
invariant_of-result c = none_AreTexts _ c.new.ensures.items

pub returns : goal.returns
returns c = no_texts _ c.new.ensures.items
