use Rattle.command_line.proofs.tips.is_gnus.Goals as goal

pub returns-in-Msgunfmt : goal.returns-in-Msgunfmt
returns-in-Msgunfmt c = rw (c.in-Some.is, c.in-Msgunfmt.is) c.has_word-in-Msgunfmt.ensures

pub returns-in-Msgcat : goal.returns-in-Msgcat
returns-in-Msgcat c = rw (c.in-Some.is, c.in-Msgcat.is) c.has_word-in-Msgcat.ensures
