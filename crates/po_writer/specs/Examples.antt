-- A text that was written by hand (manual, "The Format of PO Files"), of two entries.
-- tests/mutants/po_writer/definitions has a wrong form of each definition, which it refuses.
use Rattle.std.specs.Prelude.{◌≡◌, refl, true, [], ◌∷◌, ◌++◌, Some, None, codes}
use Rattle.std.specs.Fmt.{digits}
use Rattle.po_syntax.specs.Prelude.{written_byte}
use Rattle.po_entry.specs.Prelude.{TextEntry, plain_entry}
use Rattle.po_writer.specs.WrittenText.{written_text}

abbrev pub obsolete_entry : TextEntry
obsolete_entry = record (plain_entry None (codes "a") None (codes "b" ∷ [])) {
  obsolete = true;
  previous = record { context = None; id = Some (codes "c\nd"); plural = None };
}

abbrev pub plural_entry : TextEntry
plural_entry = record (plain_entry (Some (codes "m")) (codes "e\n") (Some (codes "es")) (codes "x" ∷ codes "y" ∷ [])) {
  comments = codes " f" ∷ [];
  extracted = codes " g" ∷ [];
  references = codes "a.c:1" ∷ codes "b.c:2" ∷ [];
  fuzzy = true;
  flags = codes "c-format" ∷ [];
}

-- the obsolete one goes last
pub text_is_written : written_text (obsolete_entry ∷ plural_entry ∷ [])
    ≡ codes "# f\n#. g\n#: a.c:1 b.c:2\n#, fuzzy, c-format\nmsgctxt \"m\"\nmsgid \"e\\n\"\nmsgid_plural \"es\"\n"
    ++ codes "msgstr[0] \"x\"\nmsgstr[1] \"y\"\n\n#~| msgid \"\"\n#~| \"c\\n\"\n#~| \"d\"\n"
    ++ codes "#~ msgid \"a\"\n#~ msgstr \"b\"\n"
unfolding written_byte digits
text_is_written = refl
