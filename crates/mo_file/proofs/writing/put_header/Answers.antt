use Rattle.mo_file.proofs.Prelude.{refl, ◌∙◌}
use Rattle.mo_file.proofs.FileLayout.{word_bytes-magic}
use Rattle.mo_file.proofs.writing.put_header.Goals as goal

pub returns-clause-text : goal.returns-clause-text
returns-clause-text g c =
    c.put_word.ensures.text
    ∙ rw (
      c.put_word-at-6.ensures.text,
      c.put_word-at-5.ensures.text,
      c.put_word-at-4.ensures.text,
      c.put_word-at-3.ensures.text,
      c.put_word-at-2.ensures.text,
      c.put_word-at.ensures.text,
      word_bytes-magic g.O.FileOrder.order,
    ) refl
