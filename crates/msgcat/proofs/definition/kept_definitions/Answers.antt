use Rattle.msgcat.proofs.Prelude.{Bool, IfSome, MergeOptions, YieldsList-from_slice, any_from_yields_List, ap, definitions, false, filter, if◌then◌else◌, is_header, is_kept, is_live, is_wanted, length, length-map, list_any, named_entries, named_entry, rules, sym, true, ◌||◌, ◌∙◌, ◌≡◌}
use Rattle.std.proofs.lemmas.Fn.{filter_same}
use Rattle.std.specs.Bool.{then_some}
use Rattle.std.proofs.Common.{IfNone, List}
use Rattle.msgcat.specs.declared.definition.NamedEntry.{NamedEntry}
use Rattle.msgcat.proofs.ValidMerged.{any_named, named_left}
use Rattle.msgcat.proofs.definition.kept_definitions.Goals as goal
use Rattle.msgcat.proofs.definition.kept_definitions.Goals.{else-any, else-has_header, then-any, then-has_header}

-- what comes of definitions, by whether they are kept
given : {T : Type 0} (items : T → List NamedEntry) (o : MergeOptions) (group : List NamedEntry) (kept : T) (b : Bool)
    → named_entries (items kept) ≡ definitions (named_entries group) → b ≡ is_kept o (named_entries (items kept))
    → IfNone (then_some b kept) (is_kept o (definitions (named_entries group)) ≡ false)
    × IfSome (then_some b kept) (λ kept. (named_entries (items kept) ≡ definitions (named_entries group))
    × (is_kept o (named_entries (items kept)) ≡ true))
given items o group kept true are is = (tt, (are, sym is))
given items o group kept false are is = (sym (ap (is_kept o) are) ∙ sym is, tt)

pub returns : goal.returns
returns c =
    let o = c.args.options.now in
    let group = c.args.group.items in
    let kept = c.if-any.definitions in
    let live = λ (d : NamedEntry). is_live d.entry in
    let count = length (named_entries kept.items) in
    let are : named_entries kept.items ≡ definitions (named_entries group) =
    named_left group kept.items c.any.result
    (any_from_yields_List live _ _ c.any.result c.any.ensures.ran
    (YieldsList-from_slice group (c.iter.ensures.rest ∙ c.deref.ensures.value)) (λ x b q k. search rules))
    (elim c.if-any.branch [
      | then-any w ↦ ap (λ v. v.items) w.definitions-is
          ∙ filter_same _ _ _ (λ x b f' k. search rules) _ _ w.retain.ensures.filtered
          ∙ sym (ap (λ b. if b then filter live group else group) w.if-any.true)
      | else-any w ↦ ap (λ v. v.items) w.definitions-is
          ∙ sym (ap (λ b. if b then filter live group else group) w.if-any.false)
    ]) in
    let header : c.any-has_header.result ≡ list_any (λ d. is_header d.entry) (named_entries kept.items) =
    any_from_yields_List (λ (d : NamedEntry). is_header d.entry) _ _ c.any-has_header.result
    c.any-has_header.ensures.ran
    (YieldsList-from_slice kept.items (c.iter-2.ensures.rest ∙ c.deref-2.ensures.value)) (λ x b q k. search rules)
    ∙ any_named is_header kept.items in
    let is : c.if-has_header.is_kept ≡ is_kept o (named_entries kept.items) = elim c.if-has_header.branch [
      | then-has_header w ↦
          w.is_kept-is ∙ w.if-has_header.true
          ∙ ap (λ (b : Bool). b || is_wanted o count) (sym w.if-has_header.true ∙ header)
      | else-has_header w ↦
          w.is_kept-is ∙ w.is_wanted-is_kept.ensures
          ∙ ap (is_wanted o) (w.len.ensures ∙ kept.ok.0 ∙ sym (length-map kept.items named_entry))
          ∙ ap (λ (b : Bool). b || is_wanted o count) (sym w.if-has_header.false ∙ header)
    ] in
    let both = given (λ v. v.items) o group kept c.if-has_header.is_kept are is in
    rw c.then_some.ensures (record { none = both.0; some = both.1 })
