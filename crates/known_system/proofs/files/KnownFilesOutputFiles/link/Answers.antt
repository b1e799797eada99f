use Rattle.known_system.proofs.Prelude.{FileCall, List, ap, links_by_path, nothing, replay, stored, sym, ◌∙◌}
use Rattle.std.specs.Option.{option_copied}
use Rattle.known_system.proofs.Calls.{answers_link}
use Rattle.known_system.proofs.files.KnownFilesOutputFiles.link.Goals as goal

pub invariant_of-self-in-Ok : goal.invariant_of-self-in-Ok
invariant_of-self-in-Ok c =
    let files = c.args.self.now in
    record {
      tied =
          ap (λ (calls : List FileCall). replay calls nothing) c.then-self-in-Ok.ensures
          ∙ answers_link files.history.calls (links_by_path files.links.now) (stored files.held) (stored files.fresh)
          c.args.path.now c.in-Some.text.now files.tied (sym c.link_at.ensures ∙ ap option_copied c.in-Some.is);
    }
