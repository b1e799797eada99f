use Rattle.command_line.proofs.Prelude.{lines_are}
use Rattle.command_line.proofs.laws.texts_are_cut_into_lines.Goals as goal

pub returns : goal.returns
returns c = lines_are
