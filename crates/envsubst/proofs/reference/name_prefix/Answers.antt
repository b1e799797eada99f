use Rattle.envsubst.proofs.Prelude.{ap, arith, is_name_byte, length, prefix_len_is, sym, take, take_all, ◌<◌, ◌∙◌}
use Rattle.envsubst.proofs.reference.name_prefix.Goals as goal

pub returns-then-not-is_name_byte : goal.returns-then-not-is_name_byte
returns-then-not-is_name_byte c =
    let bytes = c.args.bytes.now in
    let here : c.loop-len.len < length bytes = c.loop-len-test.true in
    ap (λ n. take n bytes) (sym
    (prefix_len_is is_name_byte bytes c.loop-len.len 0 (omega arith) c.loop-len.invariant
    (λ _. sym c.is_name_byte.ensures ∙ c.if-not-is_name_byte.true)))

pub returns : goal.returns
returns c =
    let bytes = c.args.bytes.now in
    sym (ap (λ n. take n bytes)
    (prefix_len_is is_name_byte bytes (length bytes) 0 (omega arith) (λ k l. c.loop-len.invariant k (omega arith))
    (λ l. absurd (omega arith))) ∙ take_all (length bytes) bytes (omega arith))
