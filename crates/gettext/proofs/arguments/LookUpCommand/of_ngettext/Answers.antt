use Rattle.gettext.proofs.Prelude.{ap, asks_plural_form, fits_no_ngettext, option_map, plural_form_given, refl, sym, ◌∙◌}
use Rattle.gettext.proofs.arguments.LookUpCommand.of_ngettext.Goals as goal

pub returns-in_default : goal.returns-in_default
returns-in_default g c = (
  fits_no_ngettext c.texts_of.ensures
      (sym c.plural_form_of.ensures ∙ ap (option_map plural_form_given) c.in_default.is),
  refl,
)

pub returns : goal.returns
returns g c =
    asks_plural_form c.texts_of.ensures
    (sym c.plural_form_of.ensures ∙ ap (option_map plural_form_given) c.in-Some.is) c.text_of-2.ensures (record {
      context = c.text_of.ensures;
      expand = c.is_given.ensures;
      id = refl;
      plural = refl;
      count = refl;
    })
