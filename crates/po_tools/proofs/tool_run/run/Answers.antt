use Rattle.po_tools.proofs.Prelude.{Err, IsTextOr, List, None, Ok, Option, Some, ap, codes, default_output, err_from_is_err_and, fits_none, looks_up, no_envsubst, option_copied, refl, rules, runs_envsubst, unwrap_or, ℕ, ◌≡◌}
use Rattle.std.specs.Borrow.{Bor}
use Rattle.po_tools.proofs.tool_run.run.Goals as goal

-- the text that is given, or another
text_is : {text : List ℕ → Option (List ℕ) → Type 0} {name : List ℕ} (other value : Bor (List ℕ))
    (given : Option (Bor (List ℕ))) → text name (option_copied given) → value ≡ unwrap_or given other
    → IsTextOr text name other.now value.now
text_is other value given is same =
    record { given = option_copied given; given_is = is; value_is = now_or given same } where
      now_or : (given : Option (Bor (List ℕ))) → value ≡ unwrap_or given other
          → value.now ≡ unwrap_or (option_copied given) other.now
      now_or None same = ap (λ t. t.now) same
      now_or (Some text) same = ap (λ t. t.now) same

pub returns-in-Msgfmt : goal.returns-in-Msgfmt
returns-in-Msgfmt g c =
    let output : IsTextOr (g.A.Arguments.text c.args.given.now) (codes "output-file") default_output
    c.unwrap_or-output.result.now =
    text_is _ _ c.text_of.result c.text_of.ensures c.unwrap_or-output.ensures in
    search (rules, output)

pub returns-in-Msgunfmt : goal.returns-in-Msgunfmt
returns-in-Msgunfmt g c =
    let output : IsTextOr (g.A.Arguments.text c.args.given.now) (codes "output-file") (codes "-")
    c.unwrap_or-output-in-Msgunfmt.result.now =
    text_is _ _ c.text_of-in-Msgunfmt-2.result c.text_of-in-Msgunfmt-2.ensures
    c.unwrap_or-output-in-Msgunfmt.ensures in
    search (rules, output)

pub returns-in-Msgattrib : goal.returns-in-Msgattrib
returns-in-Msgattrib g c =
    let output : IsTextOr (g.A.Arguments.text c.args.given.now) (codes "output-file") (codes "-")
    c.unwrap_or-output-in-Msgattrib.result.now =
    text_is _ _ c.text_of-in-Msgattrib-2.result c.text_of-in-Msgattrib-2.ensures
    c.unwrap_or-output-in-Msgattrib.ensures in
    rw c.in-Msgattrib.is (record {
      selection = c.selection_of-selection.result;
      selection_is = c.selection_of-selection.ensures;
      runs = search (rules, output);
    })

pub returns-in-Msgcat : goal.returns-in-Msgcat
returns-in-Msgcat g c =
    let output : IsTextOr (g.A.Arguments.text c.args.given.now) (codes "output-file") (codes "-")
    c.unwrap_or-output-in-Msgcat.result.now =
    text_is _ _ c.text_of-in-Msgcat.result c.text_of-in-Msgcat.ensures c.unwrap_or-output-in-Msgcat.ensures in
    search (rules, output)

pub returns-in_err-command-in-Gettext : goal.returns-in_err-command-in-Gettext
returns-in_err-command-in-Gettext g c =
    let p = err_from_is_err_and c.from_residual.result c.from_residual.ensures.1 in
    let none = c.in_err-command-in-Gettext.ensures in
    rw (c.in-Gettext.is, p.1, p.2, none.1) (fits_none none.0 refl)

pub returns-in_err-command-in-Ngettext : goal.returns-in_err-command-in-Ngettext
returns-in_err-command-in-Ngettext g c =
    let from = c.from_residual-in_err-command-in-Ngettext in
    let p = err_from_is_err_and from.result from.ensures.1 in
    let none = c.in_err-command-in-Ngettext.ensures in
    rw (c.in-Ngettext.is, p.1, p.2, none.1) (fits_none none.0 refl)

pub returns-in_ok-command-in-Gettext : goal.returns-in_ok-command-in-Gettext
returns-in_ok-command-in-Gettext g c =
    rw c.in-Gettext.is (looks_up c.in_ok-command-in-Gettext.ensures c.run_look_up.ensures refl)

pub returns-in_ok-command-in-Ngettext : goal.returns-in_ok-command-in-Ngettext
returns-in_ok-command-in-Ngettext g c =
    rw c.in-Ngettext.is (looks_up c.in_ok-command-in-Ngettext.ensures c.run_look_up-in-Ngettext.ensures refl)

pub returns-in_err-arguments-in-Envsubst : goal.returns-in_err-arguments-in-Envsubst
returns-in_err-arguments-in-Envsubst g c =
    let p = err_from_is_err_and c.from_residual-in_err-arguments-in-Envsubst.result
    c.from_residual-in_err-arguments-in-Envsubst.ensures.1 in
    let are = c.in_err-arguments-in-Envsubst.ensures in
    rw c.in-Envsubst.is (no_envsubst are.variables_is are.arguments_are
    (record { none = are.taken.0; nothing = refl; fault = rw (p.1, p.2) (ap (λ fault. Err fault) are.taken.1) }))

pub returns-in_err-envsubst-in-Envsubst : goal.returns-in_err-envsubst-in-Envsubst
returns-in_err-envsubst-in-Envsubst g c =
    let from = c.from_residual-in_err-envsubst-in-Envsubst in
    let p = err_from_is_err_and from.result from.ensures.1 in
    let are = c.in_ok-arguments-in-Envsubst.ensures in
    let run = c.in_err-envsubst-in-Envsubst in
    rw (c.in-Envsubst.is, ← c.system.view_is, p.1) (runs_envsubst are.variables_is are.arguments_are are.taken
    (record {
      outcome = Err run.field-0.0;
      runs = run.ensures.output;
      read_failures = run.ensures.read_failures;
      write_failures = run.ensures.write_failures;
      answer = p.2;
      asks_nothing = refl;
      files = refl;
      err = refl;
    }))

pub returns-in_ok-envsubst-in-Envsubst : goal.returns-in_ok-envsubst-in-Envsubst
returns-in_ok-envsubst-in-Envsubst g c =
    let are = c.in_ok-arguments-in-Envsubst.ensures in
    let run = c.in_ok-envsubst-in-Envsubst in
    rw (c.in-Envsubst.is, ← c.system.view_is) (runs_envsubst are.variables_is are.arguments_are are.taken
    (record {
      outcome = Ok tt;
      runs = run.ensures.output;
      read_failures = run.ensures.read_failures;
      write_failures = run.ensures.write_failures;
      answer = refl;
      asks_nothing = refl;
      files = refl;
      err = refl;
    }))
