use Rattle.po_reader.proofs.Prelude.{[], last_line}
use Rattle.po_reader.proofs.FromSpelling.{spelt_runs}
use Rattle.po_reader.proofs.ToSpelling.{whole_spelt}
use Rattle.po_reader.proofs.laws.entries_are_spelt.Goals as goal

pub returns : goal.returns
returns c = λ items entries.
    (λ h. whole_spelt (last_line items) items entries h, λ h. spelt_runs h (last_line items) [])
