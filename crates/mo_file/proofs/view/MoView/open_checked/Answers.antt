use Rattle.mo_file.proofs.Prelude.{IsChecked, IsMoFile, List, Message, Order, TooShort, ap, arith, messages_of, sym, ◌∙◌, ◌≡◌}
use Rattle.mo_file.proofs.Faults.{not_below, of-valid}
use Rattle.mo_file.proofs.view.MoView.open_checked.Goals as goal
use Rattle.mo_file.proofs.view.MoView.open_checked.Goals.{in-Big, in-Little}

pub of_words-header-requires : goal.of_words-header-requires
of_words-header-requires c = let long = not_below _ _ (c.requires.2.faultless TooShort) in omega (arith, long)

pub of_words-header-requires-in-Big : goal.of_words-header-requires-in-Big
of_words-header-requires-in-Big c = let long = not_below _ _ (c.requires.2.faultless TooShort) in omega (arith, long)

-- the file header is that of the file, by each order and list of messages with which the file is valid
is_header : (c : goal.Joined-unwrap_or) (order : Order) (messages : List Message) →
    IsMoFile order c.args.bytes.now messages →
    (c.match-unwrap_or.header.order ≡ order) × IsChecked c.match-unwrap_or.header c.args.bytes.now
is_header c = elim c.match-unwrap_or.branch [
  | in-Little w ↦
      let is = w.of_words-header.ensures in
      rw w.header-is
      (of-valid _ _ _ c.of_file.ensures (is.order ∙ sym w.in-Little.is ∙ c.unwrap_or.ensures) is.count is.originals
      is.translations)
  | in-Big w ↦
      let is = w.of_words-header-in-Big.ensures in
      rw w.header-is
      (of-valid _ _ _ c.of_file.ensures (is.order ∙ sym w.in-Big.is ∙ c.unwrap_or.ensures) is.count is.originals
      is.translations)
]

pub invariant_of-result : goal.invariant_of-result
invariant_of-result c = (is_header c _ _ c.requires.2).1

pub returns-clause-messages : goal.returns-clause-messages
returns-clause-messages c order messages valid =
    ap (λ o. messages_of o c.args.bytes.now) (is_header c order messages valid).0 ∙ sym valid.lists
