use Rattle.command_line.proofs.Prelude.{Some, ap, option_copied, sym, ◌∙◌}
use Rattle.command_line.proofs.Texts.{cut_at_quote, no_word, word}
use Rattle.command_line.proofs.tips.word_after.Goals as goal

pub returns-in_err-rest : goal.returns-in_err-rest
returns-in_err-rest c =
    ap option_copied c.from_residual.ensures
    ∙ sym (no_word c.args.beginning.now c.args.text.now c.in_err-rest.ensures.cases)

pub returns-in-Some : goal.returns-in-Some
returns-in-Some c =
    ap Some (rw c.in-Some.is at (cut_at_quote c.in_ok-rest.rest.now c.split_once.result c.split_once.ensures.cases))
    ∙ sym (word c.args.beginning.now c.args.text.now c.in_ok-rest.rest.now c.in_ok-rest.ensures.cases)

pub returns-in-None : goal.returns-in-None
returns-in-None c =
    ap Some (rw c.in-None.is at (cut_at_quote c.in_ok-rest.rest.now c.split_once.result c.split_once.ensures.cases))
    ∙ sym (word c.args.beginning.now c.args.text.now c.in_ok-rest.rest.now c.in_ok-rest.ensures.cases)
