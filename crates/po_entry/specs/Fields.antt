-- What contracts see of the fields of an entry that the code holds.
use Rattle.std.specs.Prelude.{ℕ, List, Option, option_copied, Bool, true, false, ◌&&◌, Some, None, bytes_eq}
use Rattle.std.specs.Borrow.{Bor}
use Rattle.po_entry.specs.declared.fields.Fields.{Fields}
use Rattle.po_entry.specs.TextEntry.{TextEntry, texts, optional_text, slice_texts, plain_entry, TextPrevious}
use Rattle.std.specs.Bool.{beq}
use lib.Pointwise.{pointwise}

-- the entry that these fields make
abbrev pub entry_view : Fields → TextEntry
entry_view fields = record {
  comments = fields.comments;
  extracted = fields.extracted;
  references = fields.references;
  fuzzy = fields.fuzzy;
  flags = fields.flags;
  previous = fields.previous;
  context = optional_text fields.context;
  id = fields.id.items;
  plural = optional_text fields.plural;
  forms = texts fields.forms.items;
  obsolete = fields.obsolete;
  line = fields.line;
}

-- the plain entry of borrowed texts
abbrev pub borrowed_entry : Option (Bor (List ℕ)) → List ℕ → Option (Bor (List ℕ)) → List (Bor (List ℕ)) → TextEntry
borrowed_entry context id plural forms =
    plain_entry (option_copied context) id (option_copied plural) (slice_texts forms)

-- Equality of entries, which looks at all fields but the line.

abbrev pub texts_eq : List (List ℕ) → List (List ℕ) → Bool
texts_eq a b = pointwise bytes_eq a b

abbrev pub optional_eq : Option (List ℕ) → Option (List ℕ) → Bool
optional_eq None None = true
optional_eq None (Some b) = false
optional_eq (Some a) None = false
optional_eq (Some a) (Some b) = bytes_eq a b

abbrev pub previous_eq : TextPrevious → TextPrevious → Bool
previous_eq a b = optional_eq a.context b.context && optional_eq a.id b.id && optional_eq a.plural b.plural

abbrev pub comments_eq : TextEntry → TextEntry → Bool
comments_eq a b =
    texts_eq a.comments b.comments && texts_eq a.extracted b.extracted && texts_eq a.references b.references
    && beq a.fuzzy b.fuzzy && texts_eq a.flags b.flags

abbrev pub bodies_eq : TextEntry → TextEntry → Bool
bodies_eq a b =
    optional_eq a.context b.context && bytes_eq a.id b.id && optional_eq a.plural b.plural && texts_eq a.forms b.forms
    && beq a.obsolete b.obsolete

abbrev pub entry_eq : TextEntry → TextEntry → Bool
entry_eq a b = comments_eq a b && previous_eq a.previous b.previous && bodies_eq a b
