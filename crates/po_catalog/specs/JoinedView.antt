-- What contracts see of the entries of a joined list, which the code borrows.
use Rattle.std.specs.Prelude.{List, map}
use Rattle.po_catalog.specs.declared.joining.InputEntry.{InputEntry as BorrowedEntry}
use Rattle.po_entry.specs.Prelude.{InputEntry}

abbrev pub input_entry : BorrowedEntry → InputEntry
input_entry e = record { input = e.input; entry = e.entry.now }

abbrev pub input_entries : List BorrowedEntry → List InputEntry
input_entries entries = map input_entry entries
