use Rattle.mo_file.proofs.Prelude.{refl, word_bytes}
use Rattle.mo_file.proofs.laws.files_are_laid_out.Goals as goal

pub returns-clause-little : goal.returns-clause-little
unfolding word_bytes
returns-clause-little c = refl

pub returns-clause-big : goal.returns-clause-big
unfolding word_bytes
returns-clause-big c = refl
