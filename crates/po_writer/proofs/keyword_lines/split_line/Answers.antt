use Rattle.po_writer.proofs.Prelude.{arith, drop_all, length, refl, take_all}
use Rattle.po_writer.proofs.WrittenLines.{first_line, whole_line}
use Rattle.po_writer.proofs.keyword_lines.split_line.Goals as goal

pub returns-in-Some-clause-lines : goal.returns-in-Some-clause-lines
returns-in-Some-clause-lines c =
    rw (c.split_at.ensures.front, c.split_at.ensures.back)
    (λ _. first_line c.args.text.now c.in-Some.end (rw c.in-Some.is at c.memchr.ensures))

pub returns-in-None-clause-lines : goal.returns-in-None-clause-lines
returns-in-None-clause-lines c = λ some.
    rw (
      c.split_at-in-None.ensures.front,
      c.split_at-in-None.ensures.back,
      whole_line c.args.text.now some (rw c.in-None.is at c.memchr.ensures),
      take_all (length c.args.text.now) c.args.text.now (omega arith),
      drop_all (length c.args.text.now) c.args.text.now (omega arith),
    ) refl
