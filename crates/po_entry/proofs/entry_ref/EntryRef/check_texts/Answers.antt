use Rattle.po_entry.proofs.Prelude.{All, IsUtf8, Lacks, false≢true, forbidden, not_utf8, quoted_texts, sym, ◌∙◌}
use Rattle.po_entry.proofs.AdmittedTexts.{of_option, on_option, two}
use Rattle.po_entry.proofs.entry_ref.EntryRef.check_texts.Goals as goal
use Rattle.po_entry.proofs.entry_ref.EntryRef.check_texts.Goals.{else-not-are_utf8-via-else-not-are_utf8, else-not-are_utf8-via-then-not-are_utf8+else-not-is_all_utf8}

pub returns-then-not-is_all_utf8 : goal.returns-then-not-is_all_utf8
returns-then-not-is_all_utf8 c =
    not_utf8 (λ all. false≢true (sym c.if-not-is_all_utf8.true ∙ c.is_all_utf8.ensures.1 all))

pub returns-then-not-lacks_eot : goal.returns-then-not-lacks_eot
returns-then-not-lacks_eot c =
    let utf8 : All IsUtf8 (quoted_texts c.args.self.now) = elim c.else-not-are_utf8.branch [
      | else-not-are_utf8-via-then-not-are_utf8+else-not-is_all_utf8 w ↦
          w.is_all_utf8.ensures.0 w.if-not-is_all_utf8.false
      | else-not-are_utf8-via-else-not-are_utf8 w ↦ c.requires.utf8 w.if-not-are_utf8.false
    ] in
    let context = of_option (Lacks 4) _ _ _ c.context.ensures c.optional_meets.ensures in
    let all = two _ _ context (rw c.id.ensures at c.meets.ensures) in
    forbidden utf8 (λ clean. false≢true (sym c.if-not-lacks_eot.true
    ∙ all.1 ((on_option (Lacks 4) _).1 clean.context, clean.id)))

pub returns : goal.returns
returns c =
    let context = of_option (Lacks 4) _ _ _ c.context.ensures c.optional_meets.ensures in
    let lacks = (two _ _ context (rw c.id.ensures at c.meets.ensures)).0 c.if-not-lacks_eot.false in
    record {
      utf8 = elim c.else-not-are_utf8.branch [
        | else-not-are_utf8-via-then-not-are_utf8+else-not-is_all_utf8 w ↦
            w.is_all_utf8.ensures.0 w.if-not-is_all_utf8.false
        | else-not-are_utf8-via-else-not-are_utf8 w ↦ c.requires.utf8 w.if-not-are_utf8.false
      ];
      clean = record { no_nul = c.requires.no_nul; context = (on_option (Lacks 4) _).0 lacks.0; id = lacks.1 };
    }
