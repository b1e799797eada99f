use Rattle.po_compile.proofs.Meaning.{messages_differ}
use Rattle.po_compile.proofs.laws.messages_differ.Goals as goal

pub returns : goal.returns
returns c = messages_differ
