use Rattle.po_reader.proofs.Prelude.{is_fuzzy_flag, rules, slice_split, tests, trimmed, ◌∙◌}
use Rattle.std.proofs.lemmas.Iterator.Search.{any_from_yields_List}
use Rattle.std.proofs.lemmas.Iterator.Splits.{YieldsList-from_slice_split}
use Rattle.po_reader.proofs.CommentFields.{any_listed, is_comma}
use Rattle.po_reader.proofs.comment_texts.has_fuzzy.Goals as goal

pub returns : goal.returns
returns c =
    let split = c.split.ensures in
    any_from_yields_List (λ part. is_fuzzy_flag (trimmed part)) _ _ _ c.any.ensures.ran
    (YieldsList-from_slice_split _ is_comma c.args.text.now split.rest split.done split.closure
    (λ x b q k. search (rules, tests))) (λ x b q k. search (rules, tests))
    ∙ any_listed (slice_split is_comma c.args.text.now)
