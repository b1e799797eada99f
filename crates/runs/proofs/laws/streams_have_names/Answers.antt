use Rattle.runs.proofs.Paths.{names, one_stream}
use Rattle.runs.proofs.laws.streams_have_names.Goals as goal

pub returns-clause-exactly : goal.returns-clause-exactly
returns-clause-exactly c = names

pub returns-clause-one_stream : goal.returns-clause-one_stream
returns-clause-one_stream c = one_stream
