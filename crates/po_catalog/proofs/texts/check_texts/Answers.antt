use Rattle.po_catalog.proofs.Prelude.{Lacks, false≢true, on_option, option_copied, sym, two, ◌∙◌}
use Rattle.po_entry.specs.Validity.EntryTextFault.{not_utf8, forbidden}
use Rattle.po_catalog.proofs.texts.check_texts.Goals as goal

pub returns-then-not-all_meet : goal.returns-then-not-all_meet
returns-then-not-all_meet c =
    not_utf8 (λ all. false≢true (sym c.if-not-all_meet.true ∙ c.all_meet.ensures.1 all))

pub returns-then-not-all_meet-2 : goal.returns-then-not-all_meet-2
returns-then-not-all_meet-2 c =
    forbidden (c.all_meet.ensures.0 c.if-not-all_meet.false)
    (λ clean. false≢true (sym c.if-not-all_meet-2.true ∙ c.all_meet-2.ensures.1 clean.no_nul))

pub returns-then-not-lacks_eot : goal.returns-then-not-lacks_eot
returns-then-not-lacks_eot c =
    let all = two _ _ c.optional_meets.ensures c.meets.ensures in
    forbidden (c.all_meet.ensures.0 c.if-not-all_meet.false) (λ clean. false≢true (sym c.if-not-lacks_eot.true
    ∙ all.1 ((on_option (Lacks 4) (option_copied c.args.context)).1 clean.context, clean.id)))

pub returns : goal.returns
returns c =
    let lacks = (two _ _ c.optional_meets.ensures c.meets.ensures).0 c.if-not-lacks_eot.false in
    record {
      utf8 = c.all_meet.ensures.0 c.if-not-all_meet.false;
      clean = record {
        no_nul = c.all_meet-2.ensures.0 c.if-not-all_meet-2.false;
        context = (on_option (Lacks 4) (option_copied c.args.context)).0 lacks.0;
        id = lacks.1;
      };
    }
