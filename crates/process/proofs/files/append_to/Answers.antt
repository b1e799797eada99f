use Rattle.process.proofs.Prelude.{ReadsFile, appended, codes, rules, string_bytes, sym, unwritten, ◌++◌, ◌∙◌, ◌≡◌}
use Rattle.std.proofs.Common.{decimal}
use Rattle.runs.specs.Inputs.{gives}
use Rattle.process.proofs.CallOutcomes.{nothing, once}
use Rattle.process.proofs.files.append_to.Goals as goal

pub returns-in_err-info_path : goal.returns-in_err-info_path
returns-in_err-info_path g c = rw c.from_residual.ensures (nothing (unwritten c.requires))

pub returns-in_err-ok : goal.returns-in_err-ok
returns-in_err-ok g c = rw c.from_residual-in_err-ok.ensures (nothing (unwritten c.requires))

pub returns-then-not-is_for_writing : goal.returns-then-not-is_for_writing
returns-then-not-is_for_writing g c = nothing (unwritten c.requires)

pub returns-in_err-path : goal.returns-in_err-path
returns-in_err-path g c = rw c.from_residual-in_err-path.ensures (nothing (unwritten c.requires))

pub returns : goal.returns
returns g c =
    let info : ReadsFile (g.S.SystemCalls.opens c.args.system.now (codes "/proc/self/fdinfo/" ++ decimal c.args.number))
    (gives c.read_named.new.bytes.items) = search rules in
    let path : string_bytes c.in_ok-path.path ≡ codes "/proc/self/fd/" ++ decimal c.args.number = search rules in
    let writes = sym (rw (c.deref-2.ensures.value) at c.is_for_writing.ensures) ∙ c.if-not-is_for_writing.false in
    once _ (rw (c.deref-3.ensures ∙ path) at c.append.ensures) (appended c.requires info writes)
