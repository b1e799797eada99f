use Rattle.plural_rule.proofs.Prelude.{OccursAt, Some, ap, arith, cases_lt, drop, inl, inr, length, length-drop, length-take, rules, sym, take, take_rest, true≢false, ◌+◌, ◌-◌, ◌∙◌, ◌≡◌, ◌≤◌}
use Rattle.plural_rule.proofs.HeaderRules.{after_first-none, after_first-some, ends-part, ends-text, found-within, none-before}
use Rattle.plural_rule.proofs.header.after_first.Goals as goal

pub loop-before-preserved : goal.loop-before-preserved
loop-before-preserved c =
    let text = c.args.text.now in
    let name = c.args.name.now in
    let end = c.loop-before.end + (c.in-Some.before + 1) in
    let reaches = found-within text c.loop-before.end c.in-Some.before c.in-Some.ensures.0.high in
    record {
      inside = reaches;
      none = λ j at h. elim (cases_lt (c.loop-before.end + c.in-Some.before) (j + length name)) [
        | inl after ↦
            let part = ends-part name text end j reaches (omega (arith, at, after)) h in
            let fits = part.fits in
            absurd (true≢false (sym (c.if-is_suffix.ensures.1 (omega (arith, fits), part))))
        | inr up ↦ none-before name text c.loop-before.end c.in-Some.before c.requires c.loop-before.invariant.none
            c.in-Some.ensures.0.before j up h
      ];
    }

pub returns-then-is_suffix : goal.returns-then-is_suffix
returns-then-is_suffix c =
    let text = c.args.text.now in
    let name = c.args.name.now in
    let end = c.loop-before.end + (c.in-Some.before + 1) in
    let reaches = found-within text c.loop-before.end c.in-Some.before c.in-Some.ensures.0.high in
    let suffix : (length name ≤ length (take end text))
    × OccursAt (take end text) name (length (take end text) - length name) = search rules in
    let fits = suffix.0 in
    let whole : end - length name + length name ≡ end = omega (arith, fits, length-take end text) in
    after_first-some name text (end - length name) c.requires (ends-text name text end reaches suffix.0 suffix.1)
    (λ j before h. none-before name text c.loop-before.end c.in-Some.before c.requires c.loop-before.invariant.none
    c.in-Some.ensures.0.before j (omega (arith, before, fits, whole)) h)
    ∙ ap (λ n. Some (drop n text)) whole
    ∙ ap Some (sym (take_rest text end))

pub returns : goal.returns
returns c =
    let inside = c.loop-before.invariant.inside in
    let text = c.args.text.now in
    after_first-none c.args.name.now text (λ k h.
    let fits = h.fits in
    none-before c.args.name.now text c.loop-before.end
    (length text - c.loop-before.end) c.requires c.loop-before.invariant.none
    (λ j low high. c.in_default.ensures j low
    (omega (
      arith,
      high,
      length-take (length text - c.loop-before.end) (drop c.loop-before.end text),
      length-drop c.loop-before.end text,
    )))
    k (omega (arith, fits, inside)) h)
