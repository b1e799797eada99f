use Rattle.std.proofs.Common.{◌∙◌}
use Rattle.pokit_c.proofs.looking.look.Goals as goal

pub returns-clause-answered : goal.returns-clause-answered
returns-clause-answered c view opened =
    let messages = c.open_checked-view.ensures.messages opened.file.0 view.messages opened.file.1 in
    let bytes = c.open_checked-view.ensures.bytes in
    let tree = c.program.ensures.tree view opened in
    let place = rw (bytes, c.plural.ensures) at c.locate-found.ensures.place in
    let answered = c.locate-found.ensures.answered view.rule.source in
    c.of.ensures.answered c.args.catalog.now.bytes.now c.args.query.now place
    ∙ (rw (messages, bytes, opened.nplurals, tree, c.context.ensures, c.plural.ensures) at answered)

pub returns-clause-terminated : goal.returns-clause-terminated
returns-clause-terminated c =
    c.of.ensures.terminated c.args.catalog.now.bytes.now c.args.query.now
    (rw (c.open_checked-view.ensures.bytes, c.plural.ensures) at c.locate-found.ensures.place)

pub returns-clause-of_query : goal.returns-clause-of_query
returns-clause-of_query c =
    c.of.ensures.of_query c.args.catalog.now.bytes.now c.args.query.now
    (rw (c.open_checked-view.ensures.bytes, c.plural.ensures) at c.locate-found.ensures.place)

pub returns-clause-comparisons : goal.returns-clause-comparisons
returns-clause-comparisons c view opened =
    let messages = c.open_checked-view.ensures.messages opened.file.0 view.messages opened.file.1 in
    let comparisons = c.locate-found.ensures.comparisons in
    c.of.ensures.comparisons ∙ (rw (messages, c.context.ensures) at comparisons)

pub returns-clause-nodes : goal.returns-clause-nodes
returns-clause-nodes c view opened =
    let steps = c.locate-found.ensures.nodes in
    rw c.of.ensures.steps (rw (c.program.ensures.tree view opened) at steps)
