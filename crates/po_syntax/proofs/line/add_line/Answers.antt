use Rattle.po_syntax.proofs.Prelude.{Comment, CommentLine, Err, IfErr-weaker, Ok, Tokens, YieldsList-from_take_while, [], ap, count_from_yields_List, length-prefix_len, map_push, on_ok_weaker, refl, reverse, rules, shape_of, shape_view, tests, trim_returns, ◌==◌, ◌∙◌, ◌∷◌, ◌≡◌}
use Rattle.std.proofs.lemmas.Iterator.Adapters.{YieldsList-from_rev_slice}
use Rattle.po_syntax.proofs.OneLine.{line_at}
use Rattle.po_syntax.proofs.Utf8Lines.{tokens-utf8}
use Rattle.po_syntax.proofs.line.add_line.Goals as goal

pub returns-in-None-clause-fault : goal.returns-in-None-clause-fault
returns-in-None-clause-fault c = λ _. line_at c.args.line _ (Err _) c.in-None.ensures refl

pub returns-in-Some-Tokens-clause-found : goal.returns-in-Some-Tokens-clause-found
returns-in-Some-Tokens-clause-found c =
    let shape : shape_of c.args.text.now ≡ Tokens c.in-Some-Tokens.marks c.in-Some-Tokens.rest.now =
    c.in-Some-Tokens.ensures ∙ ap shape_view c.in-Some-Tokens.field-0-is in
    on_ok_weaker c.add_tokens.result
    (λ found. (found.0, line_at c.args.line _ (Ok _) shape found.1, found.2)) c.add_tokens.ensures.found

pub returns-in-Some-Tokens-clause-fault : goal.returns-in-Some-Tokens-clause-fault
returns-in-Some-Tokens-clause-fault c =
    let shape : shape_of c.args.text.now ≡ Tokens c.in-Some-Tokens.marks c.in-Some-Tokens.rest.now =
    c.in-Some-Tokens.ensures ∙ ap shape_view c.in-Some-Tokens.field-0-is in
    IfErr-weaker c.add_tokens.result _ _
    (λ e stops reported. line_at c.args.line _ (Err _) shape (stops reported)) c.add_tokens.ensures.fault

pub returns-in-Some-Tokens-clause-lent : goal.returns-in-Some-Tokens-clause-lent
returns-in-Some-Tokens-clause-lent c =
    let shape : shape_of c.args.text.now ≡ Tokens c.in-Some-Tokens.marks c.in-Some-Tokens.rest.now =
    c.in-Some-Tokens.ensures ∙ ap shape_view c.in-Some-Tokens.field-0-is in
    on_ok_weaker c.add_tokens.result
    (λ added. (added.0, added.1, λ utf8. added.2 (tokens-utf8 c.args.text.now shape utf8))) c.add_tokens.ensures.lent

pub returns-in_ok-push-in-Some-Comment-clause-found : goal.returns-in_ok-push-in-Some-Comment-clause-found
returns-in_ok-push-in-Some-Comment-clause-found c =
    let shape : shape_of c.args.text.now ≡ CommentLine c.in-Some-Comment.kind c.in-Some-Comment.rest.now =
    c.in-Some-Comment.ensures ∙ ap shape_view c.in-Some-Comment.field-0-is in
    let rest = c.in-Some-Comment.rest.now in
    let returns = count_from_yields_List c.take_while.result _ c.count-returns.ensures.ran
    (YieldsList-from_take_while _ (λ b. b == 13) (YieldsList-from_rev_slice rest cc) c.take_while.ensures.closure
    c.take_while.ensures.done (λ x b q k. search (rules, tests)))
    ∙ length-prefix_len (λ b. b == 13) (reverse rest) in (
      Comment c.in-Some-Comment.kind (trim_returns c.in-Some-Comment.rest.now) c.args.line ∷ [],
      line_at c.args.line _ (Ok _) shape refl,
      rw (c.in_ok-push-in-Some-Comment.ensures.items, map_push, c.split_at.ensures.front, returns) refl,
    )
