use Rattle.po_entry.proofs.Prelude.{ap, arith, length, optional_bytes, own_at, plural_in, split_forms, sym, take, texts_after, ◌++◌, ◌+◌, ◌∙◌}
use Rattle.po_entry.proofs.EntryLayout.{key_cut, plural_cut}
use Rattle.po_entry.proofs.entry_ref.EntryRef.original.Goals as goal

pub split_at-requires : goal.split_at-requires
split_at-requires c =
    let row = c.self.inside.row.now in
    let cut = plural_cut (own_at c.self.inside.bytes.now row) row.key row.has_plural c.split_text.result.0.now _
    (omega (arith, c.self.invariant.key, c.own.ensures.len, ap length c.own.ensures.own)) c.if-not-self.false
    c.self.invariant.nul
    (ap split_forms (sym c.after_key.ensures) ∙ c.split_text.ensures) in
    omega (arith, cut.0, ap length c.own.ensures.own)

pub returns : goal.returns
returns c =
    let row = c.self.inside.row.now in
    let own = own_at c.self.inside.bytes.now row in
    let first = c.split_text.result.0.now in
    let cut = plural_cut own row.key row.has_plural first _
    (omega (arith, c.self.invariant.key, c.own.ensures.len, ap length c.own.ensures.own)) c.if-not-self.false
    c.self.invariant.nul
    (ap split_forms (sym c.after_key.ensures) ∙ c.split_text.ensures) in
    rw (← c.self.view_is) (c.split_at.ensures.front ∙ ap (take (row.key + 1 + length first)) c.own.ensures.own ∙ cut.1
    ∙ ap (λ key. key ++ optional_bytes (plural_in row.has_plural (texts_after row.key own)))
    (key_cut row.context row.key own c.self.invariant.context c.self.invariant.eot))
