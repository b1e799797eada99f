use Rattle.po_compile.proofs.Meaning.{texts_come_back}
use Rattle.po_compile.proofs.laws.texts_come_back.Goals as goal

pub returns : goal.returns
returns c = texts_come_back c.messages_have_parts.ensures
