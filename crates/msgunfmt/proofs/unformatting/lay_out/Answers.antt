use Rattle.msgunfmt.proofs.Prelude.{Adds, Message, TextEntry, ap, entry_of_message, forms, on_ok_weaker, option_copied, subst, sym, taken_forms, ◌∙◌, ◌≡◌}
use Rattle.msgunfmt.proofs.MessageParts.{first_alone, held, of_parts}
use Rattle.msgunfmt.proofs.unformatting.lay_out.Goals.{in-None, in-Some}
use Rattle.msgunfmt.proofs.unformatting.lay_out.Goals as goal

pub returns : goal.returns
returns c =
    let m : Message = record { original = c.args.original.now; translation = c.args.translation.now } in
    let old = c.clear.new.self in
    let new = c.add_message.new.self in
    let translation = c.args.translation.now in
    let taken : forms c.match-plural.forms.now
    ≡ taken_forms (option_copied c.original_parts.result.1) (forms translation) = elim c.match-plural.branch [
      | in-Some w ↦
          ap (λ t. forms t.now) w.forms-is
          ∙ ap (λ p. taken_forms (option_copied p) (forms translation)) (sym w.in-Some.is)
      | in-None w ↦
          ap (λ t. forms t.now) w.forms-is
          ∙ first_alone translation w.first_part-forms.result.now w.first_part-forms.ensures.part
          ∙ ap (λ p. taken_forms (option_copied p) (forms translation)) (sym w.in-None.is)
    ] in
    let same = of_parts c.args.original.now c.args.translation.now c.original_parts.result.0.now
    c.key_parts.result.1.now c.match-plural.forms.now _ _ c.original_parts.ensures.key c.key_parts.ensures.context
    c.key_parts.ensures.id c.original_parts.ensures.plural taken in
    on_ok_weaker c.add_message.result
    (λ added.
    let adds : Adds (entry_of_message m) old new = subst (λ (e : TextEntry). Adds e old new) same added in
    held m old new c.clear.ensures adds (c.drafts_are_added.ensures (entry_of_message m) old new adds))
    c.add_message.ensures.ok
