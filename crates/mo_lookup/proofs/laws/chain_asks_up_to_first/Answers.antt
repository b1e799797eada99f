use Rattle.mo_lookup.proofs.Chains.{asks-all, asks-up-to-first}
use Rattle.mo_lookup.proofs.laws.chain_asks_up_to_first.Goals as goal

pub returns-clause-first : goal.returns-clause-first
returns-clause-first c = asks-up-to-first

pub returns-clause-all : goal.returns-clause-all
returns-clause-all c = asks-all
