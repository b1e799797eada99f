use Rattle.std.proofs.Common.{sym}
use Rattle.look_up_tests.proofs.LetterLemmas.{length-letters, letters-rising}
use Rattle.look_up_tests.proofs.look_ups.letters.LettersKeys.len.Goals as goal

pub returns-clause-count : goal.returns-clause-count
returns-clause-count c = sym (length-letters c.args.self.now.many)

pub returns-clause-rising : goal.returns-clause-rising
returns-clause-rising c = letters-rising c.args.self.now.many
