use Rattle.po_compile.proofs.FileLimit.{layouts_are_limited}
use Rattle.po_compile.proofs.laws.layouts_are_limited.Goals as goal

pub returns : goal.returns
returns c = layouts_are_limited
