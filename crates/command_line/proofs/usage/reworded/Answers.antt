use Rattle.command_line.proofs.Prelude.{ap, option_copied, own_tip, reworded_line, string_bytes, ◌++◌, ◌∙◌, ◌≡◌}
use Rattle.command_line.proofs.Texts.{appended, step}
use Rattle.command_line.proofs.usage.reworded.Goals as goal

pub loop-line-preserved : goal.loop-line-preserved
loop-line-preserved c =
    let turn = step _ _ _ c.in-Some.line.now _ c.loop-line.invariant.feed c.in-Some.ensures.steps in
    let tip : option_copied c.as_deref.result ≡ own_tip c.args.tool c.args.text.now =
    c.as_deref.ensures.value ∙ c.loop-line.invariant.own in
    let so_far = rw turn.1 at c.loop-line.invariant.so_far in
    let part = c.reworded_line.ensures ∙ ap (λ own. reworded_line c.args.tool own c.in-Some.line.now) tip in
    let more = c.in_ok-push_str.ensures.bytes ∙ ap (λ bytes. string_bytes c.loop-line.answer ++ bytes) part in
    record {
      can = tt;
      finite = tt;
      feed = turn.0;
      own = c.loop-line.invariant.own;
      so_far = appended _ _ _ _ _ so_far more;
    }
