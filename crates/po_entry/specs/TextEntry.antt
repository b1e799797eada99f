-- What contracts see of an entry of a catalogue: its texts are lists of bytes (manual, "The Format
-- of PO Files").
use Rattle.std.specs.Prelude.{◌≡◌, ℕ, Bool, false, List, [], ◌∷◌, ◌++◌, map, Option, None, option_map, option_to_list}
use Rattle.std.specs.Global.{Vec}
use Rattle.std.specs.Borrow.{Bor}

-- the previous context, msgid and plural of an entry, as far as it has them
pub record TextPrevious : Type 0 where
  pub context : Option (List ℕ)
  pub id : Option (List ℕ)
  pub plural : Option (List ℕ)

-- none of the three
abbrev pub no_previous : TextPrevious
no_previous = record { context = None; id = None; plural = None }

-- The fields of an entry: the texts of its translator's comments and of its extracted comments; its
-- references, each by itself; whether the flag `fuzzy` is there, and the other flags; its previous
-- texts; its context, msgid (`id`) and plural; its forms, which are the one of `msgstr` or those of
-- `msgstr[0]` on; whether it is obsolete; and the line of its msgid, 0 where it comes from no text.
pub record TextEntry : Type 0 where
  pub comments : List (List ℕ)
  pub extracted : List (List ℕ)
  pub references : List (List ℕ)
  pub fuzzy : Bool
  pub flags : List (List ℕ)
  pub previous : TextPrevious
  pub context : Option (List ℕ)
  pub id : List ℕ
  pub plural : Option (List ℕ)
  pub forms : List (List ℕ)
  pub obsolete : Bool
  pub line : ℕ

-- the texts that a list of vectors holds
abbrev pub texts : List (Vec ℕ) → List (List ℕ)
texts vectors = map (λ v. v.items) vectors

-- the text that a vector holds, where there is one
abbrev pub optional_text : Option (Vec ℕ) → Option (List ℕ)
optional_text vector = option_map (λ v. v.items) vector

-- the texts that a list of slices holds
abbrev pub slice_texts : List (Bor (List ℕ)) → List (List ℕ)
slice_texts slices = map (λ s. s.now) slices

-- a live entry of these texts, without comments and previous texts, at line 0
abbrev pub plain_entry : Option (List ℕ) → List ℕ → Option (List ℕ) → List (List ℕ) → TextEntry
plain_entry context id plural forms = record {
  comments = [];
  extracted = [];
  references = [];
  fuzzy = false;
  flags = [];
  previous = no_previous;
  context = context;
  id = id;
  plural = plural;
  forms = forms;
  obsolete = false;
  line = 0;
}

-- the entry with this line in place of its own
abbrev pub with_line : ℕ → TextEntry → TextEntry
with_line line entry = record entry { line = line }

-- the entries are equal but for their lines
abbrev pub SameButLine : TextEntry → TextEntry → Type 0
SameButLine a b = with_line 0 a ≡ with_line 0 b

-- the texts of the previous fields that there are
abbrev pub previous_texts : TextPrevious → List (List ℕ)
previous_texts previous =
    option_to_list previous.context ++ option_to_list previous.id ++ option_to_list previous.plural

-- the texts that an entry's quoted strings spell: those of all its keywords, and of no comment
abbrev pub quoted_texts : TextEntry → List (List ℕ)
quoted_texts entry =
    option_to_list entry.previous.context ++ option_to_list entry.previous.id ++ option_to_list entry.previous.plural
    ++ option_to_list entry.context ++ (entry.id ∷ []) ++ option_to_list entry.plural ++ entry.forms
