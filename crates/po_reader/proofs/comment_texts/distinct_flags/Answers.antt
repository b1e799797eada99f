use Rattle.po_reader.proofs.CommentFields.{only_flag}
use Rattle.po_reader.proofs.comment_texts.distinct_flags.Goals as goal

pub returns-then-not-contains : goal.returns-then-not-contains
returns-then-not-contains c =
    rw (
      only_flag c.args.texts.now _ c.in-len1.len_at_least c.in-len1.len_below c.if-not-contains.ensures.cases,
      ← c.trimmed.ensures,
    ) c.only_flag.ensures
