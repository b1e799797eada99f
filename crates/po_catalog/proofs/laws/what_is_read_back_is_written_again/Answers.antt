use Rattle.po_catalog.proofs.laws.what_is_read_back_is_written_again.Goals as goal

pub returns : goal.returns
returns c = λ entries read valid small reads.
    c.written_text_again.ensures entries read (c.what_is_written_reads_back.ensures entries read valid small reads)
