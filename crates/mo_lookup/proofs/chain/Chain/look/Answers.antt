use Rattle.mo_lookup.proofs.Prelude.{None, Some, arith, query, ◌∙◌}
use Rattle.mo_lookup.proofs.Chains.{HaveNot-all, chain_answered-is, first-found, found-translates, nodes-answering, none-found}
use Rattle.mo_lookup.proofs.chain.Chain.look.Goals as goal

pub returns-then-answer-clause-answered : goal.returns-then-answer-clause-answered
returns-then-answer-clause-answered c =
    let asked = query c.args.context c.args.id.now c.args.plural in
    let catalog = c.catalog-item.result in
    let answers = c.look-answer.ensures.answered in
    let holds = found-translates catalog asked _ answers ∙ c.if-answer.true in
    let inside = rw c.self.view_is at c.loop-index-test.true in
    let first = first-found c.args.self.now asked
    c.loop-index.index _ _ catalog c.loop-index.invariant inside (rw c.self.view_is at c.catalog-item.is) holds in
    (rw c.if-answer.true at answers) ∙ chain_answered-is c.args.self.now asked (Some catalog) first

pub returns-then-answer-clause-nodes : goal.returns-then-answer-clause-nodes
returns-then-answer-clause-nodes c =
    let asked = query c.args.context c.args.id.now c.args.plural in
    let catalog = c.catalog-item.result in
    let holds = found-translates catalog asked _ c.look-answer.ensures.answered ∙ c.if-answer.true in
    let inside = rw c.self.view_is at c.loop-index-test.true in
    let first = first-found c.args.self.now asked
    c.loop-index.index _ _ catalog c.loop-index.invariant inside (rw c.self.view_is at c.catalog-item.is) holds in
    omega (arith, c.look-answer.ensures.nodes, nodes-answering c.args.self.now asked catalog first)

pub returns-clause-answered : goal.returns-clause-answered
returns-clause-answered c =
    let asked = query c.args.context c.args.id.now c.args.plural in
    let end = rw c.self.view_is at c.loop-index-test.false in
    let none = HaveNot-all asked c.args.self.now c.loop-index.index _ _ c.loop-index.invariant end
    (rw c.self.view_is at c.loop-index.auto.index-end) in
    rw c.untranslated_text.ensures
    (chain_answered-is c.args.self.now asked None
    (none-found c.args.self.now asked none))
