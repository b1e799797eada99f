use Rattle.mo_lookup.proofs.Prelude.{AnswerView, located_view, query, refl, ◌∙◌, ◌≡◌}
use Rattle.mo_lookup.proofs.FormPlaces.{untranslated_view}
use Rattle.mo_lookup.proofs.catalog.Catalog.look_counted.Goals.{in-Id, in-Translation}
use Rattle.mo_lookup.proofs.catalog.Catalog.look_counted.Goals as goal

pub returns-clause-answered : goal.returns-clause-answered
returns-clause-answered c =
    let answered = c.locate-located.ensures.answered c.self.inside.rule.source in
    let located = c.locate-located.result in
    let asked = query c.args.context c.args.id.now c.args.plural in
    let seen : AnswerView = record {
      text = c.match-located.found.0.now;
      found = c.match-located.found.1;
      steps = located.steps;
    } in
    let same : seen ≡ located_view c.self.inside.view.bytes asked located = elim c.match-located.branch [
      | in-Translation w ↦ rw (w.found-is, w.bytes.ensures, w.in-Translation.is) (refl)
      | in-Id w ↦
          rw (w.found-is, w.untranslated_text.ensures)
          (untranslated_view c.self.inside.view.bytes asked located c.locate-located.ensures.place w.in-Id.is)
    ] in
    same ∙ (rw (← c.self.view_is) (rw (c.nplurals.ensures, c.program.ensures.tree) at answered))
