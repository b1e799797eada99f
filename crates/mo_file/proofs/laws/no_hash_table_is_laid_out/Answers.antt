use Rattle.mo_file.proofs.RoundTrip.{no_hash_table_is_laid_out}
use Rattle.mo_file.proofs.laws.no_hash_table_is_laid_out.Goals as goal

pub returns : goal.returns
returns c = no_hash_table_is_laid_out
