use Rattle.msgcat.proofs.Prelude.{CanBeMerged, HasAdmittedCharset, IsEntry, List, [], ap, arith, false≢true, get_or, get_or-append_seam, get_or-map, length, length-map, length_push, merged_entry, named_entries, named_entry, subst, sym, ◌++◌, ◌-◌, ◌<◌, ◌∙◌, ◌∷◌, ◌≡◌}
use Rattle.msgcat.specs.declared.definition.NamedEntry.{NamedEntry}
use Rattle.msgcat.proofs.MergedGroups.{foreign_one}
use Rattle.msgcat.proofs.OneDefinition.{one_of}
use Rattle.msgcat.proofs.ValidMerged.{merged_is_entry}
use Rattle.msgcat.proofs.merging.merged_entry.Goals as goal

pub returns-then-len-lt2-clause-merged : goal.returns-then-len-lt2-clause-merged
returns-then-len-lt2-clause-merged c =
    let ds = c.args.definitions.items in
    let single : length ds ≡ 1 =
    omega (arith, c.requires.some, c.len.ensures, c.if-len-lt2.true, c.args.definitions.ok.0) in
    one_of c.args.options.now ds c.swap_remove.result single c.swap_remove.ensures.value

pub returns-then-len-lt2-clause-valid : goal.returns-then-len-lt2-clause-valid
returns-then-len-lt2-clause-valid c =
    let ds = c.args.definitions.items in
    let d = c.swap_remove.result in
    let within : 0 < length (named_entries ds) = omega (arith, c.requires.some, length-map ds named_entry) in
    let can : CanBeMerged (named_entry d) =
    subst CanBeMerged (get_or-map named_entry ds 0 d (named_entry d) c.requires.some
    ∙ ap named_entry (sym c.swap_remove.ensures.value)) (c.requires.can 0 (named_entry d) within) in
    record { valid = can.valid.valid; charset = can.charset }

pub returns-then-not-has_admitted_charset-clause-fault :
    goal.returns-then-not-has_admitted_charset-clause-fault
returns-then-not-has_admitted_charset-clause-fault c =
    let merged = λ (ds : List NamedEntry). merged_entry c.args.options.now (named_entries ds) in
    let are = c.in_ok-fill_merged.ensures ∙ ap merged c.deref.ensures.value in
    foreign_one (merged c.args.definitions.items) (λ admitted. false≢true (sym c.if-not-has_admitted_charset.true
    ∙ c.has_admitted_charset.ensures.1 (subst HasAdmittedCharset (sym are) admitted)))

pub push-requires : goal.push-requires
push-requires c =
    let ds = c.args.definitions.items in
    let are = c.in_ok-fill_merged.ensures
    ∙ ap (λ ds. merged_entry c.args.options.now (named_entries ds)) c.deref.ensures.value in
    let some : 0 < length (named_entries ds) = omega (arith, c.requires.some, length-map ds named_entry) in
    record {
      valid = subst IsEntry (sym are) (merged_is_entry c.args.options.now (named_entries ds) some
          (λ k d below. (c.requires.can k d below).valid));
      charset = c.has_admitted_charset.ensures.0 c.if-not-has_admitted_charset.false;
    }

pub returns-clause-merged : goal.returns-clause-merged
returns-clause-merged c =
    let merged = c.args.merged.now in
    let e = merged_entry c.args.options.now (named_entries c.args.definitions.items) in
    let are : c.push.new.self ≡ merged ++ e ∷ [] =
    c.in_ok-push.ensures.ok
    ∙ ap (λ e. merged ++ e ∷ []) (c.in_ok-fill_merged.ensures
    ∙ ap (λ ds. merged_entry c.args.options.now (named_entries ds)) c.deref.ensures.value) in
    let last : c.len-2.result - 1 ≡ length merged =
    omega (arith, c.len-2.ensures, ap length are, length_push merged e) in
    c.get.ensures.entry e
    ∙ ap (λ l. get_or l (c.len-2.result - 1) e) are
    ∙ ap (λ k. get_or (merged ++ e ∷ []) k e) last
    ∙ get_or-append_seam merged e [] e
