use Rattle.mo_lookup.proofs.Translations.{no_separator_by_eot}
use Rattle.mo_lookup.proofs.query.has_no_separator.Goals as goal

pub returns-then-is_none : goal.returns-then-is_none
returns-then-is_none c =
    no_separator_by_eot c.args.text.now c.find_byte.result c.find_byte-then-is_none.result c.is_none.result
    c.is_none-then-is_none.result
    c.find_byte.ensures c.find_byte-then-is_none.ensures c.is_none.ensures c.if-is_none.true
    c.is_none-then-is_none.ensures
