use Rattle.po_entry.proofs.Prelude.{[], codes, map, to_ascii_lowercase, ◌∷◌}
use Rattle.po_entry.proofs.Headers.{one_more_name, no_name}
use Rattle.po_entry.proofs.charset.admits_charset.Goals as goal

pub returns : goal.returns
returns c =
    let name = map to_ascii_lowercase c.charset_of-name.result.now in
    let names0 = [] ∷ [] in
    let names1 = [] ∷ codes "utf-8" ∷ [] in
    let names2 = [] ∷ codes "utf-8" ∷ codes "utf8" ∷ [] in
    let names3 = [] ∷ codes "utf-8" ∷ codes "utf8" ∷ codes "us-ascii" ∷ [] in
    let names4 = [] ∷ codes "utf-8" ∷ codes "utf8" ∷ codes "us-ascii" ∷ codes "ascii" ∷ [] in
    rw (← c.charset_of-name.ensures)
    (one_more_name names4 (codes "charset") name _ _
    (one_more_name names3 (codes "ascii") name _ _
    (one_more_name names2 (codes "us-ascii") name _ _
    (one_more_name names1 (codes "utf8") name _ _
    (one_more_name names0 (codes "utf-8") name _ _
    (no_name to_ascii_lowercase c.charset_of-name.result.now _ c.is_empty.ensures) c.eq_ignore_ascii_case.ensures.test)
    c.eq_ignore_ascii_case-2.ensures.test)
    c.eq_ignore_ascii_case-3.ensures.test)
    c.eq_ignore_ascii_case-4.ensures.test)
    c.eq_ignore_ascii_case-5.ensures.test)
