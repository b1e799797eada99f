use Rattle.msgcat.proofs.Prelude.{Bool, ap, ap₂, arith, false, first_translated, form_list, if◌then◌else◌, is_joined, joined_forms, joined_lists, length, length-map, lt-ltb, named_entries, named_forms, nat_lt, nat_tests, not, sym, translations, true, ◌&&◌, ◌<◌, ◌||◌, ◌∙◌, ◌≡◌}
use Rattle.msgcat.proofs.JoinedForms.{joined_lists_named}
use Rattle.msgcat.proofs.merging.merged_forms.Goals.{else-not-options, then-not-options+in_ok-found+else-len-gt1}
use Rattle.msgcat.proofs.merging.merged_forms.Goals as goal

pub returns-then-len-gt1 : goal.returns-then-len-gt1
returns-then-len-gt1 c =
    let ds = named_entries c.args.definitions.now in
    let T = translations ds in
    let found = c.in_ok-found.found in
    let more : 1 < length T =
    omega (
      arith,
      c.if-len-gt1.true,
      c.len.ensures,
      found.ok.0,
      ap length c.in_ok-found.ensures,
      length-map found.items form_list,
      length-map T named_forms,
    ) in
    let joined : is_joined c.args.options.now ds ≡ true =
    ap₂ (λ (a b : Bool). not a && b) c.if-not-options.true (lt-ltb 1 (length T) more) in
    record {
      forms = c.in_ok-joined_forms.ensures ∙ ap joined_lists c.in_ok-found.ensures ∙ joined_lists_named T
          ∙ sym (ap (λ (b : Bool). if b then joined_forms T else (first_translated ds).forms) joined);
      fuzzy = sym (ap (λ (b : Bool). b || (first_translated ds).fuzzy) joined);
    }

pub returns : goal.returns
returns c =
    let ds = named_entries c.args.definitions.now in
    let T = translations ds in
    let apart : is_joined c.args.options.now ds ≡ false = elim c.if-not-options.branch [
      | then-not-options+in_ok-found+else-len-gt1 w ↦
          let found = w.in_ok-found.found in
          let few : length T ≡ found.len =
          omega (
            arith,
            found.ok.0,
            ap length w.in_ok-found.ensures,
            length-map found.items form_list,
            length-map T named_forms,
          ) in
          grind (arith, nat_tests, few, w.if-len-gt1.false, w.len.ensures)
      | else-not-options w ↦ ap (λ (a : Bool). not a && nat_lt 1 (length T)) w.if-not-options.false
    ] in
    record {
      forms = c.in_ok-copy.ensures ∙ c.forms.ensures ∙ ap (λ e. e.forms) c.first_with-taken.ensures
          ∙ sym (ap (λ (b : Bool). if b then joined_forms T else (first_translated ds).forms) apart);
      fuzzy = c.fuzzy.ensures ∙ ap (λ e. e.fuzzy) c.first_with-taken.ensures
          ∙ sym (ap (λ (b : Bool). b || (first_translated ds).fuzzy) apart);
    }
