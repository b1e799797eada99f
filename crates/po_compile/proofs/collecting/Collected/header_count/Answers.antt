use Rattle.po_compile.proofs.Prelude.{Bool, ap, ap₂, arith, cond, count_by, has_no_key, length, length-filter, live_message, rules, sym, take, take_all, ◌+◌, ◌<◌, ◌∙◌, ◌≡◌, ◌≤◌}
use Rattle.std.proofs.lemmas.List.Filters.{length-filter_more}
use Rattle.po_compile.proofs.JoinedRows.{header_seen}
use Rattle.po_compile.proofs.CompiledMessages.{as_many, message_at}
use Rattle.po_compile.proofs.collecting.Collected.header_count.Goals as goal

pub loop-index-preserved : goal.loop-index-preserved
loop-index-preserved c =
    let own = c.self.inside in
    let messages = c.args.self.now in
    let i = c.loop-index.index in
    let entry = c.get.result in
    let message = live_message own.use_fuzzy entry in
    let here = message_at own.use_fuzzy own.live messages i entry c.self.view_is c.get.ensures.entry in
    let inside : i < length messages =
    omega (arith, c.len-index-end.ensures, as_many own.use_fuzzy own.live messages c.self.view_is) in
    let one : c.from-count.result ≡ cond c.is_header.result 1 0 = search rules in
    ap₂ (λ a b. a + b) (c.loop-index.invariant ∙ sym (length-filter has_no_key (take i messages)))
    (one ∙ ap (λ (b : Bool). cond b 1 0)
    (c.is_header.ensures ∙ sym (header_seen own.use_fuzzy entry) ∙ ap has_no_key (sym here)))
    ∙ sym (length-filter_more has_no_key messages i message inside)
    ∙ length-filter has_no_key (take (i + 1) messages)

pub returns : goal.returns
returns c =
    let own = c.self.inside in
    let messages = c.args.self.now in
    let over : length messages ≤ c.loop-index.index =
    omega (arith, c.len-index-end.ensures, as_many own.use_fuzzy own.live messages c.self.view_is) in
    c.loop-index.invariant ∙ ap (count_by has_no_key) (take_all c.loop-index.index messages over)
    ∙ sym (length-filter has_no_key messages)
