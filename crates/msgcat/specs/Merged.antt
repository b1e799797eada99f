-- The entries that several inputs are merged to (manual, "Invoking the msgcat Program").
use Rattle.std.specs.Prelude.{ℕ, max, Bool, not, ◌&&◌, ◌||◌, nat_lt, nat_eq, List, [], ◌∷◌, ◌++◌, map, filter, fold, find, length, slice_get, codes, None, is_some, bytes_eq, if◌then◌else◌, ◌≡◌, ◌⊎◌, true, All, Option, Some}
use Rattle.std.specs.List.{list_any, flat_map, range_with_len, ends_with}
use Rattle.std.specs.Option.{option_map_or}
use Rattle.po_syntax.specs.declared.item.CommentKind.{CommentKind}
use Rattle.po_syntax.specs.declared.item.CommentKind.TheVariants.{Translator, Extracted, Reference, Flags}
use Rattle.po_entry.specs.Prelude.{TextEntry, plain_entry, texts_eq, has_translation, is_header, HasAdmittedCharset, out_of_memory}
use Rattle.msgcat.specs.declared.input.MergeOptions.{MergeOptions}
use Rattle.msgcat.specs.Inputs.{NamedEntry, Named, all_entries}
use Rattle.msgcat.specs.Groups.{first_ones, groups, definitions}
use Rattle.po_syntax.specs.declared.fault.PoError.{PoError}
use Rattle.po_syntax.specs.declared.fault.PoFault.TheVariants.{ForeignCharset}

-- The entry that the definitions of one message are merged to (manual, "Invoking the msgcat
-- Program").

-- the first definition; an entry without forms where there is none
abbrev pub first_of : List NamedEntry → TextEntry
first_of [] = plain_entry None [] None []
first_of (d ∷ ds) = d.entry

-- the first definition that has something, or else the first
abbrev pub first_with : (TextEntry → Bool) → List NamedEntry → TextEntry
first_with has ds = option_map_or (λ (d : NamedEntry). d.entry) (find (λ d. has d.entry) ds) (first_of ds)

abbrev pub has_previous : TextEntry → Bool
has_previous e = is_some e.previous.context || is_some e.previous.id || is_some e.previous.plural

abbrev pub has_plural : TextEntry → Bool
has_plural e = is_some e.plural

-- the definition whose forms are taken, where the translations aren't joined: the first one with a
-- translation, or the first of all
abbrev pub first_translated : List NamedEntry → TextEntry
first_translated ds = first_with has_translation ds

abbrev pub texts_of : CommentKind → TextEntry → List (List ℕ)
texts_of Translator e = e.comments
texts_of Extracted e = e.extracted
texts_of Reference e = e.references
texts_of Flags e = e.flags

-- the texts so far, and those of one more definition that aren't among them
abbrev pub with_others : List (List ℕ) → List (List ℕ) → List (List ℕ)
with_others done texts = done ++ filter (λ t. not (list_any (bytes_eq t) done)) texts

-- the texts of the definitions: of each those that no earlier one has
abbrev pub collected : (TextEntry → List (List ℕ)) → List NamedEntry → List (List ℕ)
collected texts_of ds = fold (λ done d. with_others done (texts_of d.entry)) [] ds

abbrev pub comment_of : MergeOptions → CommentKind → List NamedEntry → List (List ℕ)
comment_of o kind ds = if o.use_first then texts_of kind (first_translated ds) else collected (texts_of kind) ds

abbrev pub same_forms : NamedEntry → NamedEntry → Bool
same_forms a b = texts_eq a.entry.forms b.entry.forms

-- the distinct translations, each in the definition that has it first
abbrev pub translations : List NamedEntry → List NamedEntry
translations ds = first_ones same_forms (filter (λ d. has_translation d.entry) ds)

-- whether different translations are joined
abbrev pub is_joined : MergeOptions → List NamedEntry → Bool
is_joined o ds = not o.use_first && nat_lt 1 (length (translations ds))

-- the form, and a LF if it doesn't end with one
abbrev pub ended : List ℕ → List ℕ
ended form = if ends_with nat_eq form (10 ∷ []) then form else form ++ 10 ∷ []

-- the form, after a line that names its input
abbrev pub marked : List ℕ → List ℕ → List ℕ
marked name form = codes "#-#-#-#-#  " ++ name ++ codes "  #-#-#-#-#\n" ++ ended form

-- the forms of this index, joined, of the translations that have such a form
abbrev pub joined_form : List NamedEntry → ℕ → List ℕ
joined_form ts i = flat_map (λ t. option_map_or (marked t.name) (slice_get t.entry.forms i) []) ts

-- the largest count of forms of a translation
abbrev pub form_count : List NamedEntry → ℕ
form_count ts = fold (λ count t. max count (length t.entry.forms)) 0 ts

abbrev pub joined_forms : List NamedEntry → List (List ℕ)
joined_forms ts = map (joined_form ts) (range_with_len 0 (form_count ts))

-- what the definitions of one message are merged to
abbrev pub merged_entry : MergeOptions → List NamedEntry → TextEntry
merged_entry o ds = record {
  comments = comment_of o Translator ds;
  extracted = comment_of o Extracted ds;
  references = comment_of o Reference ds;
  fuzzy = is_joined o ds || (first_translated ds).fuzzy;
  flags = comment_of o Flags ds;
  previous = (first_with has_previous ds).previous;
  context = (first_of ds).context;
  id = (first_of ds).id;
  plural = (first_with has_plural ds).plural;
  forms = if is_joined o ds then joined_forms (translations ds) else (first_translated ds).forms;
  obsolete = (first_of ds).obsolete;
  line = (first_of ds).line;
}

-- `--less-than`: no limit where it isn't given
abbrev pub is_below : Option ℕ → ℕ → Bool
is_below None count = true
is_below (Some limit) count = nat_lt count limit

-- messages with this many definitions are asked for
abbrev pub is_wanted : MergeOptions → ℕ → Bool
is_wanted o count = nat_lt o.more_than count && is_below o.less_than count && (not o.unique || nat_lt count 2)

-- The message of a header is kept, however many definitions it has.
abbrev pub is_kept_by : {X : Type 0} → (X → Bool) → MergeOptions → List X → Bool
is_kept_by header o ds = list_any header ds || is_wanted o (length ds)

abbrev pub is_kept : MergeOptions → List NamedEntry → Bool
is_kept o ds = is_kept_by (λ d. is_header d.entry) o ds

-- the definitions of each message, in the order in which the messages first appear
abbrev pub messages : List Named → List (List NamedEntry)
messages inputs = map definitions (groups (all_entries inputs))

-- one entry for each message that is kept, by its definitions
abbrev pub merged_messages : MergeOptions → List (List NamedEntry) → List TextEntry
merged_messages o messages = map (merged_entry o) (filter (is_kept o) messages)

-- what the inputs are merged to
abbrev pub merged : MergeOptions → List Named → List TextEntry
merged o inputs = merged_messages o (messages inputs)

-- why entries can't stand in a catalogue: a header's charset isn't admitted, or an allocation
-- failed
abbrev pub IsMergeFault : List TextEntry → PoError → Type 0
IsMergeFault merged error =
    (error ≡ out_of_memory)
    ⊎ ((All HasAdmittedCharset merged → ⊥) × (error ≡ record { kind = ForeignCharset; line = 0 }))
