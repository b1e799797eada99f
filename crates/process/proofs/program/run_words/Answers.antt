use Rattle.process.proofs.Prelude.{explains, lacks_memory, map, names_none, refl, runs}
use Rattle.process.specs.Prelude.{AreRefused, IsFoundIn}
use Rattle.process.proofs.program.run_words.Goals as goal

pub returns-in-Err : goal.returns-in-Err
returns-in-Err g c =
    let line = rw (c.from.ensures) at c.report.ensures.line in
    rw (c.report.ensures.ending)
    (lacks_memory c.first_tool-first.result c.first_tool-first.ensures line refl)

pub returns-in-Some : goal.returns-in-Some
returns-in-Some g c =
    let found : IsFoundIn (map (λ word. word.now) c.args.words.now) c.in-Ok-try_get_matches_from.matches = record {
      first = c.first_tool-first.result;
      named = c.first_tool-first.ensures;
      program = c.in-Ok.command;
      offers = c.in-Ok.ensures.takes;
      matches = c.in-Ok-try_get_matches_from.ensures.matches;
    } in
    runs found c.in-Some.ensures c.run_tool.ensures

pub returns-in-Ok-try_get_matches_from : goal.returns-in-Ok-try_get_matches_from
returns-in-Ok-try_get_matches_from g c =
    let found : IsFoundIn (map (λ word. word.now) c.args.words.now) c.in-Ok-try_get_matches_from.matches = record {
      first = c.first_tool-first.result;
      named = c.first_tool-first.ensures;
      program = c.in-Ok.command;
      offers = c.in-Ok.ensures.takes;
      matches = c.in-Ok-try_get_matches_from.ensures.matches;
    } in
    names_none found c.in-None.ensures refl refl

pub returns-in-Ok-explain : goal.returns-in-Ok-explain
returns-in-Ok-explain g c =
    let told = c.in-Ok-explain.ensures.text in
    let refused : AreRefused c.first_tool-first.result (map (λ word. word.now) c.args.words.now) = record {
      program = c.in-Ok.command;
      offers = c.in-Ok.ensures.takes;
      refused = λ taken. c.in-Ok-explain.ensures.refused (c.in-Err-try_get_matches_from.ensures.passes taken);
    } in
    explains c.first_tool-first.result told.0 c.first_tool-first.ensures refused told.1 refl refl refl

pub returns : goal.returns
returns g c =
    let line = rw (c.in-Err-explain.ensures.memory) at c.report-in-Err-explain.ensures.line in
    rw (c.report-in-Err-explain.ensures.ending, c.in-Err-explain.ensures.unwritten)
    (lacks_memory c.first_tool-first.result c.first_tool-first.ensures line refl)
