use Rattle.gettext.proofs.Prelude.{ap, asks_messages, fits_no_gettext, messages_given, option_map, refl, sym, ◌∙◌}
use Rattle.gettext.proofs.arguments.LookUpCommand.of_gettext.Goals as goal

pub returns-in_default : goal.returns-in_default
returns-in_default g c = (
  fits_no_gettext c.is_given-shell.ensures c.texts_of.ensures
      (sym c.messages_of.ensures ∙ ap (option_map messages_given) c.in_default.is),
  refl,
)

pub returns : goal.returns
returns g c =
    asks_messages c.texts_of.ensures (sym c.messages_of.ensures ∙ ap (option_map messages_given) c.in-Some.is)
    c.text_of-2.ensures (record {
      messages = refl;
      context = c.text_of.ensures;
      expand = c.is_given.ensures;
      no_newline = c.is_given-2.ensures;
      shell = c.is_given-shell.ensures;
    })
