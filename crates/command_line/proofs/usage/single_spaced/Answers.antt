use Rattle.command_line.proofs.Prelude.{ap, rules, string_bytes, ◌++◌, ◌∙◌}
use Rattle.command_line.proofs.Texts.{appended, step}
use Rattle.command_line.proofs.usage.single_spaced.Goals as goal

pub loop-line-preserved : goal.loop-line-preserved
loop-line-preserved c =
    let turn = step _ _ _ c.in-Some.line.now _ c.loop-line.invariant.feed c.in-Some.ensures.steps in
    let so_far = rw turn.1 at c.loop-line.invariant.so_far in
    let more = c.in_ok-push_str.ensures.bytes
    ∙ ap (λ part. string_bytes c.loop-line.answer ++ part) c.spaced_line.ensures in
    record {
      can = tt;
      finite = tt;
      utf8 = search rules;
      feed = turn.0;
      so_far = appended _ _ _ _ _ so_far more;
    }
