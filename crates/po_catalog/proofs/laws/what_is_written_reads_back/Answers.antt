use Rattle.po_catalog.proofs.Prelude.{List, TextEntry, ap, map, with_line, written_text, ◌∙◌, ◌≡◌}
use Rattle.po_catalog.proofs.laws.what_is_written_reads_back.Goals as goal

pub returns : goal.returns
returns c = λ entries read valid small reads.
    let written = c.written_text_reads.ensures entries valid small in
    let same : read ≡ written.0 = c.one_reading.ensures (written_text entries) read written.0 reads written.1 in
    ap (λ (list : List TextEntry). map (with_line 0) list) same ∙ written.2
