use Rattle.msgcat.proofs.EntryLaws.{obsolete_where_none_is_live}
use Rattle.msgcat.proofs.laws.obsolete_where_none_is_live.Goals as goal

pub returns : goal.returns
returns c = obsolete_where_none_is_live
