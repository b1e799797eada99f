use Rattle.mo_file.proofs.Cuts.{form_split}
use Rattle.mo_file.proofs.message_parts.split_form.Goals as goal

pub returns-clause-forms : goal.returns-clause-forms
returns-clause-forms c = form_split c.args.translation.now c.split_once_at.result c.split_once_at.ensures
