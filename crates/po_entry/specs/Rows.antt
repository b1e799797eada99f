-- Entries that lie in one buffer: what a row of it means, and how an entry is laid out (manual, "The
-- Format of PO Files"; for keys and forms "The Format of GNU MO Files").
use Rattle.std.specs.Prelude.{◌≡◌, ◌+◌, ◌<◌, ◌≤◌, All, ◌==◌, ◌&&◌, ℕ, zero, suc, Bool, true, List, [], ◌∷◌, ◌++◌, map, length, take, drop, Option, None, Some, is_none, is_some, option_to_list, slice_index_or, if◌then◌else◌, option_copied}
use Rattle.std.specs.List.{flat_map, join_with_byte, slice_split}
use Rattle.po_entry.specs.TextEntry.{TextEntry, TextPrevious, plain_entry, quoted_texts}
use Rattle.po_entry.specs.Texts.{Lacks}
use Rattle.po_entry.specs.TextList.{measured, texts_in}
use Rattle.po_entry.specs.declared.row.Row.{Row}
use Rattle.po_entry.specs.declared.drafts.Drafts.{Drafts}
use Rattle.po_entry.specs.declared.entry_ref.FormIter.{FormIter}

-- the key: the msgid, or the context, an EOT and the msgid
abbrev pub key_bytes : Option (List ℕ) → List ℕ → List ℕ
key_bytes None id = id
key_bytes (Some context) id = context ++ 4 ∷ id

-- a text after a NUL
abbrev pub after_nul : List ℕ → List ℕ
after_nul text = 0 ∷ text

-- a text that may be missing
abbrev pub optional_bytes : Option (List ℕ) → List ℕ
optional_bytes None = []
optional_bytes (Some text) = after_nul text

-- the texts that stand after the key: the plural, where there is one, and the forms
abbrev pub further_texts : TextEntry → List (List ℕ)
further_texts entry = option_to_list entry.plural ++ entry.forms

-- an entry's original in an MO file: the key and, with a plural, a NUL and the plural
abbrev pub original_bytes : TextEntry → List ℕ
original_bytes entry = key_bytes entry.context entry.id ++ optional_bytes entry.plural

-- its translation there: the forms, with a NUL between them
abbrev pub translation_bytes : TextEntry → List ℕ
translation_bytes entry = join_with_byte 0 entry.forms

-- an entry's own texts, as an MO file has them: the key, and after a NUL each further text
abbrev pub own_bytes : TextEntry → List ℕ
own_bytes entry = key_bytes entry.context entry.id ++ flat_map after_nul (further_texts entry)

-- texts with a NUL between them
abbrev pub split_forms : List ℕ → List (List ℕ)
split_forms bytes = slice_split (λ b. b == 0) bytes

-- the entry of a message, whose translation has the forms, with a NUL between them
abbrev pub message_entry : Option (List ℕ) → List ℕ → Option (List ℕ) → List ℕ → TextEntry
message_entry context id plural translation = plain_entry context id plural (split_forms translation)

-- the parts of a head: its lists of texts, and its previous texts
abbrev pub head_parts : TextEntry → List (List ℕ)
head_parts entry =
    flat_map measured entry.comments ∷ flat_map measured entry.extracted ∷ flat_map measured entry.references
    ∷ flat_map measured entry.flags ∷ optional_bytes entry.previous.context ∷ optional_bytes entry.previous.id
    ∷ optional_bytes entry.previous.plural ∷ []

abbrev pub is_empty_list : List (List ℕ) → Bool
is_empty_list texts = length texts == 0

-- no comment, reference, flag or previous text
abbrev pub has_no_head : TextEntry → Bool
has_no_head entry =
    is_empty_list entry.comments && is_empty_list entry.extracted && is_empty_list entry.references
    && is_empty_list entry.flags && is_none entry.previous.context && is_none entry.previous.id
    && is_none entry.previous.plural

-- the parts of a head, each behind its length; nothing where there are none
abbrev pub head_bytes : TextEntry → List ℕ
head_bytes entry = if has_no_head entry then [] else flat_map measured (head_parts entry)

-- an entry with this head alone
abbrev pub headed : List (List ℕ) → List (List ℕ) → List (List ℕ) → List (List ℕ) → TextPrevious → TextEntry
headed comments extracted references flags previous = record (plain_entry None [] None []) {
  comments = comments;
  extracted = extracted;
  references = references;
  flags = flags;
  previous = previous;
}

abbrev pub entry_bytes : TextEntry → List ℕ
entry_bytes entry = own_bytes entry ++ head_bytes entry

-- how long a context is with its EOT; 0 where there is none
abbrev pub context_length : Option (List ℕ) → ℕ
context_length None = 0
context_length (Some context) = suc (length context)

-- the row of an entry whose bytes begin there
abbrev pub row_of : ℕ → TextEntry → Row
row_of start entry = record {
  start = start;
  context = context_length entry.context;
  key = length (key_bytes entry.context entry.id);
  own = length (own_bytes entry);
  head = length (head_bytes entry);
  line = entry.line;
  has_plural = is_some entry.plural;
  fuzzy = entry.fuzzy;
  obsolete = entry.obsolete;
}

-- an entry that can be read where it is laid out: no quoted text has a NUL, and it has a form
pub record CanLie (entry : TextEntry) : Type 0 where
  pub no_nul : All (Lacks 0) (quoted_texts entry)
  pub some_form : 0 < length entry.forms

-- the bytes of an entry's own texts
abbrev pub own_at : List ℕ → Row → List ℕ
own_at bytes row = take row.own (drop row.start bytes)

-- the bytes of an entry's head
abbrev pub head_at : List ℕ → Row → List ℕ
head_at bytes row = take row.head (drop (row.start + row.own) bytes)

abbrev pub context_in : ℕ → List ℕ → Option (List ℕ)
context_in zero own = None
context_in (suc len) own = Some (take len own)

-- the texts, where there are bytes of them
abbrev pub forms_of : Option (List ℕ) → List (List ℕ)
forms_of None = []
forms_of (Some bytes) = split_forms bytes

-- the texts after the key
abbrev pub texts_after : ℕ → List ℕ → List (List ℕ)
texts_after key own = split_forms (drop (suc key) own)

abbrev pub plural_in : Bool → List (List ℕ) → Option (List ℕ)
plural_in has_plural further = if has_plural then Some (slice_index_or further 0 []) else None

abbrev pub forms_in : Bool → List (List ℕ) → List (List ℕ)
forms_in has_plural further = if has_plural then drop 1 further else further

-- the part of a head with this index
abbrev pub part_at : ℕ → List ℕ → List ℕ
part_at index head = slice_index_or (texts_in head) index []

abbrev pub optional_in : List ℕ → Option (List ℕ)
optional_in [] = None
optional_in (nul ∷ text) = Some text

abbrev pub previous_in : List ℕ → TextPrevious
previous_in head = record {
  context = optional_in (part_at 4 head);
  id = optional_in (part_at 5 head);
  plural = optional_in (part_at 6 head);
}

-- the entry that has this row and these bytes
abbrev pub entry_of : Row → List ℕ → List ℕ → TextEntry
entry_of row own head = record {
  comments = texts_in (part_at 0 head);
  extracted = texts_in (part_at 1 head);
  references = texts_in (part_at 2 head);
  fuzzy = row.fuzzy;
  flags = texts_in (part_at 3 head);
  previous = previous_in head;
  context = context_in row.context own;
  id = drop row.context (take row.key own);
  plural = plural_in row.has_plural (texts_after row.key own);
  forms = forms_in row.has_plural (texts_after row.key own);
  obsolete = row.obsolete;
  line = row.line;
}

-- the entry that a row of a buffer means
abbrev pub entry_at : List ℕ → Row → TextEntry
entry_at bytes row = entry_of row (own_at bytes row) (head_at bytes row)

-- the bytes of a context of this length end with an EOT, which is counted in it
abbrev pub EndsContext : ℕ → List ℕ → Type 0
EndsContext zero own = Unit {0}
EndsContext (suc len) own = take (suc len) own ≡ take len own ++ 4 ∷ []

-- a NUL stands between a key of this length and a plural
abbrev pub PluralFollows : Bool → ℕ → List ℕ → Type 0
PluralFollows has_plural key own = has_plural ≡ true → drop key own ≡ 0 ∷ drop (suc key) own

-- the row lies inside of the bytes, and its parts inside of it, with an EOT after the context and a
-- NUL before the plural
pub record LiesIn (bytes : List ℕ) (row : Row) : Type 0 where
  pub within : row.start + row.own + row.head ≤ length bytes
  pub key : row.key ≤ row.own
  pub context : row.context ≤ row.key
  pub eot : EndsContext row.context (own_at bytes row)
  pub nul : PluralFollows row.has_plural row.key (own_at bytes row)

-- the bytes begin with those that there were
abbrev pub Grows : List ℕ → List ℕ → Type 0
Grows old new = take (length old) new ≡ old

-- the entries of drafts
abbrev pub entries_in : Drafts → List TextEntry
entries_in drafts = map (entry_at drafts.bytes.items) drafts.rows.items

-- each row lies inside of the bytes
abbrev pub AreLaid : Drafts → Type 0
AreLaid drafts = All (LiesIn drafts.bytes.items) drafts.rows.items

-- an entry is laid out after the others, and its row added
pub record Adds (entry : TextEntry) (old new : Drafts) : Type 0 where
  pub bytes : new.bytes.items ≡ old.bytes.items ++ entry_bytes entry
  pub row : new.rows.items ≡ old.rows.items ++ row_of (length old.bytes.items) entry ∷ []

-- the row of an entry whose bytes follow so many others
abbrev pub moved : ℕ → Row → Row
moved start row = record row { start = start + row.start }

-- the entry with or without the flag `fuzzy`
abbrev pub set_fuzzy : Bool → TextEntry → TextEntry
set_fuzzy fuzzy entry = record entry { fuzzy = fuzzy }

-- the entry obsolete, or live
abbrev pub set_obsolete : Bool → TextEntry → TextEntry
set_obsolete obsolete entry = record entry { obsolete = obsolete }

-- the entries, of which the one at this index is changed
abbrev pub changed_at : (TextEntry → TextEntry) → ℕ → List TextEntry → List TextEntry
changed_at change at [] = []
changed_at change zero (entry ∷ entries) = change entry ∷ entries
changed_at change (suc at) (entry ∷ entries) = entry ∷ changed_at change at entries

-- Texts with a NUL between them, one after another.

-- the texts that an iterator has yet to give
abbrev pub forms_left : FormIter → List (List ℕ)
forms_left forms = forms_of (option_copied forms.rest)
