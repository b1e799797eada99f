-- What a tool does that reads its only input from a reader and writes to two writers: this project's
-- own, as far as the manual's chapters on the tools leave it open.
use Rattle.std.specs.Prelude.{◌≡◌, ◌≢◌, ◌⊎◌, ◌+◌, ◌≤◌, ℕ, List, Result, Err, IfOk, IsErrOf}
use Rattle.std.specs.Io.KnownBytes.{Keeps}
use Rattle.po_tools.specs.ToolRun.{ReaderView}
use Rattle.runs.specs.Prelude.{IsCut, IsDelivered, WriterView, RunView}
use Rattle.runs.specs.declared.tool_fault.ToolFault.{ToolFault}
use Rattle.runs.specs.declared.tool_fault.ToolFault.TheVariants.{ReadFault, WriteFault, OutOfMemory}

-- The tool leaves the reader and the writers, which were `reader`, `out` and `err`, as `reader'`,
-- `out'` and `err'`, and returns this. `IsRun` says which run an input has.
pub record RunsOver (IsRun : List ℕ → RunView → Type 0) (reader reader' : ReaderView) (out out' err err' : WriterView)
    (result : Result ℕ ToolFault) : Type 0 where
  pub calls : reader'.calls ≤ reader.calls + 4294967296
  -- all of the run has gone out; or a prefix, where a writer failed; or nothing
  pub delivered : IfOk result (λ status. IsDelivered IsRun reader.left out.bytes out'.bytes err.bytes err'.bytes status)
  pub prefix : IsErrOf result WriteFault → IsCut IsRun reader.left out.bytes out'.bytes err.bytes err'.bytes
  pub no_output : (result ≡ Err ReadFault) ⊎ (result ≡ Err OutOfMemory) → Keeps out.bytes out'.bytes
  pub no_messages : (result ≡ Err ReadFault) ⊎ (result ≡ Err OutOfMemory) → Keeps err.bytes err'.bytes
  -- each fault is of the device that failed, and no other device failed
  pub read_fault : IsErrOf result ReadFault → reader'.failures ≡ reader.failures + 1
  pub write_fault : IsErrOf result WriteFault → out'.failures + err'.failures ≡ out.failures + err.failures + 1
  pub read_failures : result ≢ Err ReadFault → reader'.failures ≡ reader.failures
  pub out_failures : result ≢ Err WriteFault → out'.failures ≡ out.failures
  pub err_failures : result ≢ Err WriteFault → err'.failures ≡ err.failures
