use Rattle.envsubst.proofs.Prelude.{IsPartitionPoint-from_clause, [], ap, bytes_eq, rules, sym, ◌∙◌}
use Rattle.envsubst.proofs.Variables.{Variable, below, partitioned, value-found, value-none, value-other}
use Rattle.envsubst.proofs.replacements.sorted_value.Goals as goal

pub returns-then-eq : goal.returns-then-eq
returns-then-eq c =
    let vars = c.args.vars.now in
    let name = c.args.name.now in
    let found = c.in-Some.field-0.now in
    let item = c.in-Some.ensures.lookup.3 in
    let point = IsPartitionPoint-from_clause (below name) vars _ c.partition_point-index.ensures.partitioned
    (partitioned vars name c.requires) (λ a r q k. search rules) in
    ap (λ (v : Variable). v.1.now) (item.1 found)
    ∙ sym (value-found vars name c.partition_point-index.result found point item.0
    (ap (λ (v : Variable). bytes_eq v.0.now name) (sym (item.1 found)) ∙ sym c.if-eq.ensures))

pub returns-else-eq : goal.returns-else-eq
returns-else-eq c =
    let vars = c.args.vars.now in
    let name = c.args.name.now in
    let found = c.in-Some.field-0.now in
    let item = c.in-Some.ensures.lookup.3 in
    let point = IsPartitionPoint-from_clause (below name) vars _ c.partition_point-index.ensures.partitioned
    (partitioned vars name c.requires) (λ a r q k. search rules) in
    sym (value-other vars name c.partition_point-index.result found c.requires point item.0
    (ap (λ (v : Variable). bytes_eq v.0.now name) (sym (item.1 found)) ∙ sym c.if-eq.ensures))

pub returns-in-None : goal.returns-in-None
returns-in-None c =
    let vars = c.args.vars.now in
    let name = c.args.name.now in
    let nothing : Variable = (record { ref_ptr = (0, 0); now = [] }, record { ref_ptr = (0, 0); now = [] }) in
    let point = IsPartitionPoint-from_clause (below name) vars _ c.partition_point-index.ensures.partitioned
    (partitioned vars name c.requires) (λ a r q k. search rules) in
    sym (value-none vars name c.partition_point-index.result nothing point c.in-None.ensures.lookup.3)
