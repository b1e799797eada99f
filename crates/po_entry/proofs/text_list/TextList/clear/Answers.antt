use Rattle.po_entry.proofs.TextLists.{no_texts, none_AreTexts}
use Rattle.po_entry.proofs.text_list.TextList.clear.Goals as goal

pub invariant_of-self : goal.invariant_of-self
invariant_of-self c = none_AreTexts _ c.clear.ensures.items

pub returns : goal.returns
returns c = no_texts _ c.clear.ensures.items
