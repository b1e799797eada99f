use Rattle.msgattrib.proofs.Prelude.{refl}
use Rattle.msgattrib.proofs.options.selection_of.Goals as goal

pub returns : goal.returns
returns g c =
    let fuzzy = c.is_given-fuzzy.ensures in
    let obsolete = c.is_given-obsolete.ensures in
    record {
      translated = c.is_given.ensures;
      untranslated = c.is_given-2.ensures;
      no_fuzzy = c.is_given-3.ensures;
      only_fuzzy = record { first = _; second = _; first_is = c.is_given-4.ensures; second_is = fuzzy; either = refl };
      no_obsolete = c.is_given-5.ensures;
      only_obsolete =
          record { first = _; second = _; first_is = c.is_given-6.ensures; second_is = obsolete; either = refl };
      set_fuzzy = c.is_given-7.ensures;
      clear_fuzzy = record { first = _; second = _; first_is = c.is_given-8.ensures; second_is = fuzzy; either = refl };
      set_obsolete = c.is_given-9.ensures;
      clear_obsolete =
          record { first = _; second = _; first_is = c.is_given-10.ensures; second_is = obsolete; either = refl };
      clear_previous = c.is_given-11.ensures;
      empty = c.is_given-12.ensures;
    }
