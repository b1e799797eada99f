use Rattle.runs.proofs.Prelude.{arith, lacking, no_memory, replaces, special, stops, stream, taken, too_long, unknown, ◌+◌, ◌-◌, ◌∙◌, ◌≡◌}
use Rattle.runs.specs.OutputWriting.{unread}
use Rattle.std.proofs.Common.{rules, string_bytes}
use Rattle.runs.specs.Prelude.{link_target}
use Rattle.runs.proofs.OutputsInPlace.{after-call, after-link, done-for, is-fault, is-no-memory}
use Rattle.runs.proofs.output_writing.+write_file.Goals as goal

pub returns-in-Some-stream : goal.returns-in-Some-stream
returns-in-Some-stream g t c =
    after-call _ c.in-Some-stream.ensures
    (done-for (λ course puts. stream c.in-Some.ensures (taken puts)) c.put.ensures)

pub returns-in-None : goal.returns-in-None
returns-in-None g t c = after-call _ c.in-None.ensures (is-fault (stream c.in-Some.ensures lacking))

pub returns-in-Special : goal.returns-in-Special
returns-in-Special g t c =
    after-call _ c.in-Special.ensures
    (done-for (λ course writes. special c.in_default.ensures writes) c.write_in_place.ensures)

pub returns-in-Unknown : goal.returns-in-Unknown
returns-in-Unknown g t c = after-call _ c.in-Unknown.ensures (is-fault (stops c.in_default.ensures unknown))

pub returns-in-Err : goal.returns-in-Err
returns-in-Err g t c =
    after-call _ c.in-Regular.ensures (after-call _ c.in-Err.ensures (is-fault (stops c.in_default.ensures unread)))

pub returns-in-Ok-None : goal.returns-in-Ok-None
returns-in-Ok-None g t c =
    let read = rw c.in-Ok-None.field-0-is at c.in-Ok-None.ensures in
    after-call _ c.in-Regular.ensures
    (after-call _ read
    (after-call _ c.number-number.ensures
    (done-for (λ course are. replaces c.in_default.ensures are) c.replace.ensures)))

pub returns-then-links-eq0 : goal.returns-then-links-eq0
returns-then-links-eq0 g t c =
    let read = rw c.in-Ok-Some.field-0-is at c.in-Ok-Some.ensures in
    after-call _ c.in-Regular.ensures
    (after-call _ read (is-fault (stops c.in_default.ensures (too_long c.if-links-eq0.true))))

pub returns-in_ok-with_file_name-in-Ok-Some : goal.returns-in_ok-with_file_name-in-Ok-Some
returns-in_ok-with_file_name-in-Ok-Some g t c =
    let read = rw c.in-Ok-Some.field-0-is at c.in-Ok-Some.ensures in
    let more : (c.args.links - 1) + 1 ≡ c.args.links = omega (arith, c.if-links-eq0.false) in
    let target : string_bytes c.into_string-target.result ≡ link_target c.args.path.now c.deref.result.now =
    search rules in
    after-link c.in-Regular.old c.in_default.ensures more c.deref.ensures (c.deref-in-Ok-Some.ensures ∙ target)
    c.in-Regular.ensures read c.write_file.ensures

pub returns-in_err-with_file_name-in-Ok-Some : goal.returns-in_err-with_file_name-in-Ok-Some
returns-in_err-with_file_name-in-Ok-Some g t c =
    let read = rw c.in-Ok-Some.field-0-is at c.in-Ok-Some.ensures in
    after-call _ c.in-Regular.ensures
    (after-call _ read (is-no-memory c.from_residual.result c.from_residual.ensures.1
    (stops c.in_default.ensures no_memory)))
