use Rattle.mo_file.proofs.Prelude.{arith}
use Rattle.mo_file.proofs.FileLayout.{laid-out, length-layout-strings}
use Rattle.mo_file.proofs.writing.lay_out_in.Goals as goal

pub overflow_cast-count : goal.overflow_cast-count
overflow_cast-count g c =
    let len = length-layout-strings g.P.StringPair.message g.O.FileOrder.order c.args.pairs.now in
    omega (arith, len, c.requires.fits)

pub overflow_mul-originals-2 : goal.overflow_mul-originals-2
overflow_mul-originals-2 g c =
    let len = length-layout-strings g.P.StringPair.message g.O.FileOrder.order c.args.pairs.now in
    omega (arith, len, c.requires.fits)

pub overflow_add-originals : goal.overflow_add-originals
overflow_add-originals g c =
    let len = length-layout-strings g.P.StringPair.message g.O.FileOrder.order c.args.pairs.now in
    omega (arith, len, c.requires.fits)

pub put_header-tables-requires-clause-fits : goal.put_header-tables-requires-clause-fits
put_header-tables-requires-clause-fits g c =
    let len = length-layout-strings g.P.StringPair.message g.O.FileOrder.order c.args.pairs.now in
    omega (arith, len, c.requires.fits)

pub put_header-tables-requires-clause-room : goal.put_header-tables-requires-clause-room
put_header-tables-requires-clause-room g c =
    let len = length-layout-strings g.P.StringPair.message g.O.FileOrder.order c.args.pairs.now in
    omega (arith, len, c.requires.room)

pub put_table-translations-requires-clause-room : goal.put_table-translations-requires-clause-room
put_table-translations-requires-clause-room g c =
    let len = length-layout-strings g.P.StringPair.message g.O.FileOrder.order c.args.pairs.now in
    omega (arith, len, c.requires.room, c.put_header-tables.ensures.end, c.put_header-tables.ensures.len)

pub put_table-translations-requires-clause-fits : goal.put_table-translations-requires-clause-fits
put_table-translations-requires-clause-fits g c =
    let len = length-layout-strings g.P.StringPair.message g.O.FileOrder.order c.args.pairs.now in
    omega (arith, len, c.requires.fits)

pub put_table-requires-clause-room : goal.put_table-requires-clause-room
put_table-requires-clause-room g c =
    let len = length-layout-strings g.P.StringPair.message g.O.FileOrder.order c.args.pairs.now in
    omega (
      arith,
      len,
      c.requires.room,
      c.put_header-tables.ensures.end,
      c.put_header-tables.ensures.len,
      c.put_table-translations.ensures.len,
    )

pub put_table-requires-clause-fits : goal.put_table-requires-clause-fits
put_table-requires-clause-fits g c =
    let len = length-layout-strings g.P.StringPair.message g.O.FileOrder.order c.args.pairs.now in
    omega (arith, len, c.requires.fits, c.put_table-translations.ensures.end)

pub put_strings-middle-requires : goal.put_strings-middle-requires
put_strings-middle-requires g c =
    let len = length-layout-strings g.P.StringPair.message g.O.FileOrder.order c.args.pairs.now in
    omega (
      arith,
      len,
      c.requires.room,
      c.put_header-tables.ensures.len,
      c.put_table-translations.ensures.len,
      c.put_table.ensures.len,
    )

pub put_strings-requires : goal.put_strings-requires
put_strings-requires g c =
    let len = length-layout-strings g.P.StringPair.message g.O.FileOrder.order c.args.pairs.now in
    omega (
      arith,
      len,
      c.requires.room,
      c.put_header-tables.ensures.len,
      c.put_table-translations.ensures.len,
      c.put_table.ensures.len,
      c.put_strings-middle.ensures.len,
      c.put_strings-middle.ensures.end,
    )

pub returns-clause-text : goal.returns-clause-text
returns-clause-text g c =
    laid-out g.P.StringPair.message g.O.FileOrder.order c.args.pairs.now _ _ _ _ _ _ _ _ _
    c.put_header-tables.ensures.end
    c.put_header-tables.ensures.text
    c.put_table-translations.ensures.text c.put_table-translations.ensures.end c.put_table.ensures.text
    c.put_strings-middle.ensures.text c.put_strings-middle.ensures.end c.put_strings.ensures.text
    c.put_strings.ensures.end
