-- The written text of a list of entries reads as the arranged list, but for the lines.
use Rattle.po_writer.proofs.Prelude.{All, All-append, All-cons, All-filter, All-head, All-nil, All-tail, All-weaker, HasAdmittedCharset, HasTexts, IsCatalogueEntry, IsEntry, IsSmall, IsText, IsUtf8, Lacks, List, ReadsText, SpellsEntries, SpellsText, TextEntry, TextItem, [], ap, append-nil, arith, arranged, comments, end, entry_lines, flat_map, join_by, length, length-append, live, map, ne_eqb, nothing, quoted_texts, refl, rules, with_line, without_byte_order_mark, written_text, ℕ, ◌++◌, ◌<◌, ◌^◌, ◌∷◌, ◌≡◌}
use Rattle.po_entry.specs.Spelling.{entries as joined_entries}
use Rattle.po_writer.proofs.Utf8Lines.{plain_line}
use Rattle.po_writer.proofs.WrittenLines.{BeginsLow, Block, Spells, empty_block, line_block, two_blocks}
use Rattle.po_writer.proofs.WrittenEntries.{EntryPart, entry_block}

-- the second list is the first, whatever the lines are
abbrev IsNumbered : List TextEntry → List TextEntry → Type 0
IsNumbered [] read = read ≡ []
IsNumbered (e ∷ entries) read =
    (line : ℕ) × (more : List TextEntry) × (read ≡ with_line line e ∷ more) × IsNumbered entries more

-- the items are these entries, up to the end of the text
abbrev ListPart : List TextEntry → List TextItem → Type 0
ListPart entries here = (read : List TextEntry) × SpellsEntries here read × IsNumbered entries read

empty_line : Block (λ here. here ≡ []) (10 ∷ [])
empty_line = line_block [] (plain_line [] refl) tt (λ number. ([], refl, live end))

one_more : (e : TextEntry) (entries : List TextEntry) (here later : List TextItem) → EntryPart e here
    → ListPart entries later → ListPart (e ∷ entries) (here ++ later)
one_more e entries here later h g = (with_line h.0 e ∷ g.0, joined_entries h.1 g.1, (h.0, g.0, refl, g.2))

-- entries, each after an empty line
abbrev further_lines : List TextEntry → List ℕ
further_lines entries = flat_map (λ e. (10 ∷ []) ++ entry_lines e) entries

further_block : (entries : List TextEntry) → All IsEntry entries → length (further_lines entries) < 2 ^ 32
    → Block (ListPart entries) (further_lines entries)
further_block [] h few = empty_block ([], comments nothing, refl)
further_block (e ∷ entries) h few =
    let size = length-append ((10 ∷ []) ++ entry_lines e) (further_lines entries) in
    let own : Block (EntryPart e) ((10 ∷ []) ++ entry_lines e) =
    two_blocks empty_line (entry_block e (All-head IsEntry e entries h) (omega (arith, few, size)))
    (λ here later g i. rw g i) in
    two_blocks own (further_block entries (All-tail IsEntry e entries h) (omega (arith, few, size)))
    (one_more e entries)

list_block : (entries : List TextEntry) → All IsEntry entries → length (join_by entry_lines (10 ∷ []) entries) < 2 ^ 32
    → Block (ListPart entries) (join_by entry_lines (10 ∷ []) entries)
list_block [] h few = empty_block ([], comments nothing, refl)
list_block (e ∷ entries) h few =
    let size = length-append (entry_lines e) (further_lines entries) in
    two_blocks (entry_block e (All-head IsEntry e entries h) (omega (arith, few, size)))
    (further_block entries (All-tail IsEntry e entries h) (omega (arith, few, size))) (one_more e entries)

no_mark : (text : List ℕ) → BeginsLow text → without_byte_order_mark text ≡ text
no_mark [] h = refl
no_mark (b ∷ text) h = rw (ne_eqb 0xEF b (λ e. omega (arith, e, h))) refl

spelt_text : (P : List TextItem → Type 0) (text : List ℕ) → Block P text → IsSmall text
    → (items : List TextItem) × P items × SpellsText text items
spelt_text P text block small =
    let s = block.spelling 1 in
    let end : Spells s.next [] [] = ([], [], live end, refl, refl) in
    let whole = rw (append-nil text, append-nil s.items) at (s.before [] [] end) in (
      s.items,
      s.holds,
      record {
        small = small;
        utf8 = block.valid.utf8;
        no_nul = block.valid.no_nul;
        lines =
            rw (no_mark text block.low) whole;
      },
    )

numbered_all : (P Q : TextEntry → Type 0) (entries read : List TextEntry)
    → ((e : TextEntry) (line : ℕ) → P e → Q (with_line line e)) → IsNumbered entries read → All P entries → All Q read
numbered_all P Q [] read each same h = rw same (All-nil Q)
numbered_all P Q (e ∷ entries) read each same h =
    rw same.2 (All-cons Q (with_line same.0 e) same.1 (each e same.0 (All-head P e entries h))
    (numbered_all P Q entries same.1 each same.3 (All-tail P e entries h)))

has_texts : (e : TextEntry) (line : ℕ) → IsCatalogueEntry e → HasTexts (with_line line e)
has_texts e line h = record {
  utf8 = All-weaker IsText IsUtf8 (λ text g. g.utf8) (quoted_texts e) h.valid.quoted_texts;
  clean = record {
    no_nul = All-weaker IsText (Lacks 0) (λ text g. g.no_nul) (quoted_texts e) h.valid.quoted_texts;
    context = h.valid.context;
    id = h.valid.id;
  };
}

numbered_same : (entries read : List TextEntry) → IsNumbered entries read
    → map (with_line 0) read ≡ map (with_line 0) entries
numbered_same [] read same = rw same refl
numbered_same (e ∷ entries) read same = rw same.2 (ap (λ t. with_line 0 e ∷ t) (numbered_same entries same.1 same.3))

all_arranged : (entries : List TextEntry) → All IsCatalogueEntry entries → All IsCatalogueEntry (arranged entries)
all_arranged entries h = search (rules, All-append, All-filter)

-- the entries that the written text reads as
pub written_reads : (entries : List TextEntry) → All IsCatalogueEntry entries → IsSmall (written_text entries)
    → (read : List TextEntry) × ReadsText (written_text entries) read
    × (map (with_line 0) read ≡ map (with_line 0) (arranged entries))
written_reads entries h small =
    let all = all_arranged entries h in
    let block = list_block (arranged entries)
    (All-weaker IsCatalogueEntry IsEntry (λ e g. g.valid) (arranged entries) all) (omega (arith, small)) in
    let spelt = spelt_text (ListPart (arranged entries)) (written_text entries) block small in
    let read = spelt.1.0 in (
      read,
      record {
        items = spelt.0;
        spelt = spelt.2;
        read = record {
          reads = spelt.1.1;
          texts = numbered_all IsCatalogueEntry HasTexts (arranged entries) read has_texts spelt.1.2 all;
          charsets = numbered_all IsCatalogueEntry HasAdmittedCharset (arranged entries) read
              (λ e line g. g.charset) spelt.1.2 all;
        };
      },
      numbered_same (arranged entries) read spelt.1.2,
    )
