use Rattle.po_compile.proofs.CollectedInputs.{alone_refused}
use Rattle.po_compile.proofs.compiling.compile.Goals as goal

pub returns-in-Err-clause-exact : goal.returns-in-Err-clause-exact
returns-in-Err-clause-exact c =
    alone_refused c.args.options c.args.text.now c.in-Err.error c.in-Err.ensures.exact
