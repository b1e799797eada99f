-- What contracts see of an entry of a catalogue.
use Rattle.std.specs.Prelude.{ℕ, Bool, List, Option}
use Rattle.po_entry.specs.Prelude.{TextEntry, TextPrevious, optional_text, texts}
use Rattle.po_catalog.specs.declared.entry.Entry.TheInside.{Inside}

-- the entry of these fields
abbrev pub entry_of : (comments extracted references : List (List ℕ)) → Bool → List (List ℕ) → TextPrevious
    → Option (List ℕ) → List ℕ → Option (List ℕ) → List (List ℕ) → Bool → ℕ → TextEntry
entry_of comments extracted references fuzzy flags previous context id plural forms obsolete line = record {
  comments = comments;
  extracted = extracted;
  references = references;
  fuzzy = fuzzy;
  flags = flags;
  previous = previous;
  context = context;
  id = id;
  plural = plural;
  forms = forms;
  obsolete = obsolete;
  line = line;
}

-- the entry that has these parts
abbrev pub entry_view : Inside → TextEntry
entry_view parts =
    entry_of parts.comments parts.extracted parts.references parts.fuzzy parts.flags parts.previous
    (optional_text parts.context) parts.id.items (optional_text parts.plural) (texts parts.forms.items) parts.obsolete
    parts.line
