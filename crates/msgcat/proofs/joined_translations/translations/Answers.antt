use Rattle.msgcat.proofs.Prelude.{FormList, HasTranslations, List, [], ap, ap₂, false, form_list, form_lists, is_at, list_any, map, map-append, named_entries, named_entry, named_forms, nat_cmp, not-false, not-true, same_forms, slice_cmp, subst, sym, take, translations, true, ℕ, ◌++◌, ◌+◌, ◌∙◌, ◌∷◌, ◌≡◌}
use Rattle.msgcat.proofs.JoinedForms.{one_translation_more, seen_here}
use Rattle.msgcat.proofs.ValidMerged.{translations_more}
use Rattle.msgcat.proofs.joined_translations.translations.Goals as goal

pub loop-definition-preserved-then-not-branch : goal.loop-definition-preserved-then-not-branch
loop-definition-preserved-then-not-branch c =
    let ds = c.args.definitions.now in
    let i = c.loop-definition.definition-index in
    let d = named_entry c.definition-item.result in
    let inv = c.loop-definition.invariant in
    let known = seen_here c.loop-definition.seen ds i c.definition-item.result c.translation.result c.requires
    c.loop-definition-test.true c.definition-item.is c.translation.ensures inv.met in
    let met : list_any (same_forms d) (translations (named_entries (take i ds))) ≡ true =
    sym known ∙ not-false _ (sym c.in_ok-insert.ensures.added ∙ c.if-not-branch.true) in
    let unchanged = (rw c.if-not-branch.true at c.in_ok-insert.ensures.unchanged) in
    let same = sym (translations_more ds i c.definition-item.result true true c.loop-definition-test.true
    c.definition-item.is (sym c.has_part.ensures ∙ c.if-not-has_part.false) met) in
    record {
      are_found = inv.are_found ∙ ap (map named_forms) same;
      met = subst (HasTranslations c.insert.new.self) same
          (λ q. ap (list_any (is_at (λ y. slice_cmp nat_cmp q.now y.now))) unchanged ∙ inv.met q);
    }

pub loop-definition-preserved : goal.loop-definition-preserved
loop-definition-preserved c =
    let ds = c.args.definitions.now in
    let i = c.loop-definition.definition-index in
    let d = named_entry c.definition-item.result in
    let T = translations (named_entries (take i ds)) in
    let inv = c.loop-definition.invariant in
    let known = seen_here c.loop-definition.seen ds i c.definition-item.result c.translation.result c.requires
    c.loop-definition-test.true c.definition-item.is c.translation.ensures inv.met in
    let unmet : list_any (same_forms d) T ≡ false =
    sym known ∙ not-true _ (sym c.in_ok-insert.ensures.added ∙ c.if-not-branch.false) in
    let more : translations (named_entries (take (i + 1) ds)) ≡ T ++ d ∷ [] =
    translations_more ds i c.definition-item.result true false c.loop-definition-test.true
    c.definition-item.is (sym c.has_part.ensures ∙ c.if-not-has_part.false) unmet in
    record {
      are_found = ap form_lists c.in_ok-push.ensures.items
          ∙ map-append form_list c.loop-definition.found.items
          (record { name = c.definition-item.result.name; forms = c.forms.result } ∷ [])
          ∙ ap₂ (λ (l : List FormList) (forms : List (List ℕ)). l ++ record { name = d.name; forms = forms } ∷ [])
          inv.are_found c.forms.ensures
          ∙ sym (ap (map named_forms) more ∙ map-append named_forms T (d ∷ []));
      met = subst (HasTranslations c.insert.new.self) (sym more)
          (one_translation_more c.loop-definition.seen c.insert.new.self c.translation.result d T inv.met
          c.translation.ensures c.in_ok-insert.ensures.updates.0);
    }
