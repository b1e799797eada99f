use Rattle.msgcat.proofs.EntryLaws.{joined_as_longest, joined_where_they_differ}
use Rattle.msgcat.proofs.laws.joined_where_translations_differ.Goals as goal

pub returns : goal.returns
returns c = record { exactly = joined_where_they_differ; longest = joined_as_longest }
