use Rattle.process.proofs.Prelude.{writer}
use Rattle.process.proofs.CallOutcomes.{put}
use Rattle.process.proofs.endings.refuse.Goals as goal

pub returns-clause-text : goal.returns-clause-text
returns-clause-text g c =
    let said = c.put_all.ensures in
    rw (← c.in_ok-text.ensures, ← c.as_bytes.ensures.value)
    (put c.put_all.result _ (writer (g.E.ByteOut.contents c.args.err.now) (g.E.ByteOut.failures c.args.err.now))
    (writer (g.E.ByteOut.contents c.put_all.new.writer) (g.E.ByteOut.failures c.put_all.new.writer))
    said.ok said.prefix said.no_failure said.cause)
