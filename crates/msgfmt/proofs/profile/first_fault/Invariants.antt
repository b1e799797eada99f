use Rattle.msgfmt.proofs.Prelude.{checked_messages, drop, entry_fault, first_some, ◌≡◌}
use Rattle.msgfmt.proofs.profile.first_fault.Given as goal

-- the messages that are left decide
abbrev pub invariant-loop-message : goal.invariant-loop-message
invariant-loop-message l =
    first_some (entry_fault l.rule.nplurals) (checked_messages (drop l.message-index l.messages))
    ≡ first_some (entry_fault l.rule.nplurals) (checked_messages l.messages)
