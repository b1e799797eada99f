use Rattle.envsubst.proofs.Runs.{took_all, took_all_read, took_beginning, took_of_read, took_of_read_memory}
use Rattle.envsubst.proofs.laws.output_is_replaced.Goals as goal

pub returns : goal.returns
returns c =
    record {
      whole = took_all;
      cut = took_beginning;
      read_fault = took_of_read;
      all_read = took_all_read;
      out_of_memory = took_of_read_memory;
    }
