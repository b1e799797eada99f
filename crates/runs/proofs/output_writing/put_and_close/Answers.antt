use Rattle.runs.proofs.Prelude.{false, true}
use Rattle.runs.proofs.OutputsInPlace.{put-closed}
use Rattle.runs.proofs.output_writing.put_and_close.Goals as goal

pub returns-then-close : goal.returns-then-close
returns-then-close g c =
    let put = c.put_all.ensures in
    let is = put-closed c.put_all.result true c.new-file.ensures.failures put.ok put.prefix put.no_failure put.cause in
    record {
      call = _;
      log = c.close.ensures;
      is =
          rw (c.if-close.true, c.is_ok-is_put.ensures.value, ← c.new-file.ensures.inner) is;
    }

pub returns-else-close : goal.returns-else-close
returns-else-close g c =
    let put = c.put_all.ensures in
    let is = put-closed c.put_all.result false c.new-file.ensures.failures put.ok put.prefix put.no_failure put.cause in
    record { call = _; log = c.close.ensures; is = rw (c.if-close.false, ← c.new-file.ensures.inner) is }
