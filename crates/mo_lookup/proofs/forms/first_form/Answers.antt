use Rattle.mo_lookup.proofs.FormPlaces.{first-at, first-last}
use Rattle.mo_lookup.proofs.forms.first_form.Goals as goal

pub returns-in-Some : goal.returns-in-Some
returns-in-Some c = first-at c.args.translation.now c.args.start c.requires c.in-Some.len c.in-Some.ensures.0
    c.in-Some.ensures.1

pub returns-in-None : goal.returns-in-None
returns-in-None c = first-last c.args.translation.now c.args.start c.requires c.in-None.ensures
