use Rattle.po_compile.proofs.Prelude.{Equal, ranked, row_key, sym, ◌∙◌, ◌≡◌}
use Rattle.po_compile.proofs.KeyPrefixes.{prefix_decides, second_decides}
use Rattle.po_compile.proofs.row.compare.Goals as goal

pub returns-in_default : goal.returns-in_default
returns-in_default c =
    let a = c.args.a.now in
    let b = c.args.b.now in
    prefix_decides a.prefix b.prefix (row_key a) (row_key b) a.first b.first a.bytes b.bytes c.cmp.result c.cmp.ensures
    c.in_default.not-Equal

pub returns-in_default-cmp : goal.returns-in_default-cmp
returns-in_default-cmp c =
    let a = c.args.a.now in
    let b = c.args.b.now in
    let tie : a.prefix ≡ b.prefix = ranked a.prefix b.prefix Equal c.in-Equal.ensures in
    second_decides a.second_prefix b.second_prefix (row_key a) (row_key b) a.next b.next
    (sym a.first ∙ tie ∙ b.first) a.bytes b.bytes c.cmp-in-Equal.result c.cmp-in-Equal.ensures
    c.in_default-cmp.not-Equal
