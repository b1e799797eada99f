use Rattle.po_compile.proofs.Meaning.{messages_have_parts}
use Rattle.po_compile.proofs.laws.messages_have_parts.Goals as goal

pub returns : goal.returns
returns c = messages_have_parts
