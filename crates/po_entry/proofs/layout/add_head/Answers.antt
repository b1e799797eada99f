use Rattle.po_entry.proofs.Prelude.{List, [], append-nil, append_assoc, measured, optional_bytes, rules, ℕ, ◌++◌, ◌≡◌}
use Rattle.std.proofs.lemmas.Result.{on_ok_weaker}
use Rattle.po_entry.proofs.layout.add_head.Goals as goal

parts : (old a b c d e f g first second third fourth fifth sixth all : List ℕ) → first ≡ old ++ a → second ≡ first ++ b
    → third ≡ second ++ c → fourth ≡ third ++ d → fifth ≡ fourth ++ e → sixth ≡ fifth ++ f → all ≡ sixth ++ g
    → all ≡ old ++ (a ++ (b ++ (c ++ (d ++ (e ++ (f ++ (g ++ [])))))))
parts old a b c d e f g first second third fourth fifth sixth all h i j k l m n =
    rw (n, m, l, k, j, i, h) (simp (append_assoc, append-nil))

pub returns-clause-added : goal.returns-clause-added
returns-clause-added c =
    let previous = c.args.previous.now in
    let context : c.add_optional.new.bytes.items
    ≡ c.add_part-4.new.bytes.items ++ measured (optional_bytes previous.context) = search rules in
    let id : c.add_optional-2.new.bytes.items
    ≡ c.add_optional.new.bytes.items ++ measured (optional_bytes previous.id) = search rules in
    on_ok_weaker c.add_optional-3.result (λ last.
    let plural : c.add_optional-3.new.bytes.items
    ≡ c.add_optional-2.new.bytes.items ++ measured (optional_bytes previous.plural) = search rules in
    rw (← c.has_no_head.ensures, c.if-has_no_head.false)
    (parts _ _ _ _ _ _ _ _ _ _ _ _ _ _ _ (rw c.bytes.ensures at c.in_ok-add_part.ensures.added)
    (rw c.bytes-2.ensures at c.in_ok-add_part-2.ensures.added)
    (rw c.bytes-3.ensures at c.in_ok-add_part-3.ensures.added)
    (rw c.bytes-4.ensures at c.in_ok-add_part-4.ensures.added) context id plural)) c.add_optional-3.ensures.added
