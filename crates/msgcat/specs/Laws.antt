-- What is promised of merging beyond its definition (manual, "Invoking the msgcat Program").
use Rattle.std.specs.Prelude.{◌≡◌, ℕ, ◌<◌, Bool, false, ◌&&◌, List, [], ◌∷◌, map, filter, length, All, Contains, Option, None, ◌≢◌, ◌↔◌, true, not, ◌++◌, get_or, slice_get, codes, Some, bytes_eq, ◌≤◌}
use Rattle.std.specs.List.{list_any, AllZip}
use Rattle.po_syntax.specs.declared.fault.PoError.{PoError}
use Rattle.po_entry.specs.Prelude.{TextEntry, HasAdmittedCharset, IsEntry, IsCatalogueEntry, AllDiffer, is_of_message, same_message as one_message, SameButLine, no_previous, is_header, is_live, first_form}
use Rattle.po_syntax.specs.Prelude.{IsText}
use Rattle.msgcat.specs.declared.input.MergeOptions.{MergeOptions}
use Rattle.msgcat.specs.Inputs.{Named, NamedEntry, all_entries}
use Rattle.msgcat.specs.Groups.{message_numbers, named_messages, by_number, definitions, first_ones, groups}
use Rattle.msgcat.specs.Merged.{merged_entry, is_joined, IsMergeFault, is_kept, merged, texts_of, translations}
use Rattle.po_syntax.specs.declared.item.CommentKind.{CommentKind}

-- what one definition is merged to is its entry
abbrev pub OneDefinitionStays : MergeOptions → NamedEntry → Type 0
OneDefinitionStays o definition = merged_entry o (definition ∷ []) ≡ definition.entry

-- an input whose name can stand in a text, and whose entries can stand in a catalogue
pub record IsInput (input : Named) : Type 0 where
  pub name : IsText input.name
  pub entries : All IsCatalogueEntry input.entries

-- valid inputs are merged to valid entries
abbrev pub MergedAreEntries : MergeOptions → List Named → Type 0
MergedAreEntries o inputs = All IsInput inputs → All IsEntry (merged o inputs)

-- they can stand in a catalogue, if the charset of each header among them is admitted
abbrev pub MergedCanStand : MergeOptions → List Named → Type 0
MergedCanStand o inputs =
    All IsInput inputs → All HasAdmittedCharset (merged o inputs) → All IsCatalogueEntry (merged o inputs)

-- the entries of the inputs, each named by its input: those of the first, in their order, and then
-- those of the next
pub data StandInTurn : List Named → List NamedEntry → Type 0 where
  no_input : StandInTurn [] []
  no_further : {name : List ℕ} {inputs : List Named} {entries : List NamedEntry} → StandInTurn inputs entries
      → StandInTurn (record { name = name; entries = [] } ∷ inputs) entries
  first_entry : {name : List ℕ} {e : TextEntry} {further : List TextEntry} {inputs : List Named}
      {entries : List NamedEntry} → StandInTurn (record { name = name; entries = further } ∷ inputs) entries
      → StandInTurn (record { name = name; entries = e ∷ further } ∷ inputs)
      (record { name = name; entry = e } ∷ entries)

-- one of the entries is of this message
abbrev pub has_message : Option (List ℕ) → List ℕ → List TextEntry → Bool
has_message context id entries = list_any (is_of_message context id) entries

-- what defines this message in all inputs
abbrev pub definitions_of : Option (List ℕ) → List ℕ → List Named → List NamedEntry
definitions_of context id inputs = definitions (filter (λ e. is_of_message context id e.entry) (all_entries inputs))

-- no two merged entries are of one message
abbrev pub MessagesStandOnce : MergeOptions → List Named → Type 0
MessagesStandOnce o inputs = AllDiffer (merged o inputs)

-- a message is among the merged entries exactly if an input has it and its definitions are kept
abbrev pub KeptMessagesStand : MergeOptions → List Named → Option (List ℕ) → List ℕ → Type 0
KeptMessagesStand o inputs context id =
    has_message context id (merged o inputs)
    ≡ (list_any (λ input. has_message context id input.entries) inputs && is_kept o (definitions_of context id inputs))

-- all messages are kept, and `--use-first` is given or not
abbrev pub keep_all : Bool → MergeOptions
keep_all use_first = record { more_than = 0; less_than = None; unique = false; use_first = use_first }

-- an input in which no message stands twice is merged to its entries
abbrev pub OneInputStays : Bool → Named → Type 0
OneInputStays use_first input = AllDiffer input.entries → merged (keep_all use_first) (input ∷ []) ≡ input.entries

-- inputs among whose entries no message stands twice are merged to all of them, in order
abbrev pub DistinctInputsStay : Bool → List Named → Type 0
DistinctInputsStay use_first inputs =
    AllDiffer (map (λ d. d.entry) (all_entries inputs))
    → merged (keep_all use_first) inputs ≡ map (λ d. d.entry) (all_entries inputs)

-- the same entries under another name
abbrev pub renamed : List ℕ → Named → Named
renamed name input = record { name = name; entries = input.entries }

-- and so it is together with a second input of the same entries, under whatever name
abbrev pub WithItself : Bool → Named → List ℕ → Type 0
WithItself use_first input name =
    AllDiffer input.entries → merged (keep_all use_first) (input ∷ renamed name input ∷ []) ≡ input.entries

-- where different translations aren't joined, the forms are those of one of the definitions
abbrev pub FormsAreOfOne : MergeOptions → List NamedEntry → Type 0
FormsAreOfOne o definitions =
    0 < length definitions → is_joined o definitions ≡ false
    → Contains (map (λ d. d.entry.forms) definitions) (merged_entry o definitions).forms

-- The groups are those of the numbers of the messages, as many as there are messages.
abbrev pub GroupsByNumber : List NamedEntry → Type 0
GroupsByNumber entries =
    by_number (length (first_ones one_message (named_messages entries))) (message_numbers entries) entries
    ≡ groups entries

-- what is merged stays as it is when it is merged once more
abbrev pub MergedAgain : MergeOptions → List Named → Bool → List ℕ → Type 0
MergedAgain o inputs use_first name =
    merged (keep_all use_first) (record { name = name; entries = merged o inputs } ∷ []) ≡ merged o inputs

-- the fault of a merge is of no line
abbrev pub FaultIsOfNoLine : List TextEntry → PoError → Type 0
FaultIsOfNoLine entries error = IsMergeFault entries error → error.line ≡ 0

-- What is promised of the entry that the definitions of one message are merged to, and of which
-- messages are kept (manual, "Invoking the msgcat Program").

-- the entry has this comment, reference or flag
abbrev pub has_text : CommentKind → List ℕ → TextEntry → Bool
has_text kind text e = list_any (bytes_eq text) (texts_of kind e)

-- Without `--use-first` a comment, reference or flag is in the entry exactly if a definition has it.
abbrev pub TextsOfAll : MergeOptions → CommentKind → List ℕ → List NamedEntry → Type 0
TextsOfAll o kind text ds =
    o.use_first ≡ false → has_text kind text (merged_entry o ds) ≡ list_any (λ d. has_text kind text d.entry) ds

-- They stand in the order of the definitions: one more definition adds, after the others, those of
-- its texts that no earlier definition has.
abbrev pub TextsInOrder : MergeOptions → CommentKind → List NamedEntry → NamedEntry → Type 0
TextsInOrder o kind before d =
    o.use_first ≡ false
    → texts_of kind (merged_entry o (before ++ d ∷ []))
    ≡ texts_of kind (merged_entry o before)
    ++ filter (λ text. not (list_any (λ b. has_text kind text b.entry) before)) (texts_of kind d.entry)

-- where different translations are joined, the entry is fuzzy
abbrev pub JoinedIsFuzzy : MergeOptions → List NamedEntry → Type 0
JoinedIsFuzzy o ds = is_joined o ds ≡ true → (merged_entry o ds).fuzzy ≡ true

-- the line that names the input of a form
abbrev pub input_line : List ℕ → List ℕ
input_line name = codes "#-#-#-#-#  " ++ name ++ codes "  #-#-#-#-#\n"

-- a form of a joined one with its end: a LF is added, if it has none there
pub data EndsForm : List ℕ → List ℕ → Type 0 where
  of_nothing : EndsForm [] (10 ∷ [])
  without_feed : (text : List ℕ) {b : ℕ} → b ≢ 10 → EndsForm (text ++ b ∷ []) (text ++ b ∷ 10 ∷ [])
  with_feed : (text : List ℕ) → EndsForm (text ++ 10 ∷ []) (text ++ 10 ∷ [])

-- A joined form has the form of this index of each translation, with its end, after the line of its
-- input, in order; of a translation that lacks that form it has nothing.
pub data IsJoinedForm (i : ℕ) : List NamedEntry → List ℕ → Type 0 where
  no_more : IsJoinedForm i [] []
  with_form : {t : NamedEntry} {form end : List ℕ} {ts : List NamedEntry} {joined : List ℕ}
      → slice_get t.entry.forms i ≡ Some form → EndsForm form end → IsJoinedForm i ts joined
      → IsJoinedForm i (t ∷ ts) ((input_line t.name ++ end) ++ joined)
  without_form : {t : NamedEntry} {ts : List NamedEntry} {joined : List ℕ} → slice_get t.entry.forms i ≡ None
      → IsJoinedForm i ts joined → IsJoinedForm i (t ∷ ts) joined

-- Each form of a joined entry is joined of the different translations.
abbrev pub FormsAreJoined : MergeOptions → List NamedEntry → Type 0
FormsAreJoined o ds =
    (i : ℕ) → is_joined o ds ≡ true → i < length (merged_entry o ds).forms
    → IsJoinedForm i (translations ds) (get_or (merged_entry o ds).forms i [])

-- The previous texts are those of the first definition that has some.
abbrev pub PreviousOfFirst : MergeOptions → List NamedEntry → NamedEntry → List NamedEntry → Type 0
PreviousOfFirst o before d after =
    All (λ b. b.entry.previous ≡ no_previous) before → d.entry.previous ≢ no_previous
    → (merged_entry o (before ++ d ∷ after)).previous ≡ d.entry.previous

-- The plural is that of the first definition that has one.
abbrev pub PluralOfFirst : MergeOptions → List NamedEntry → NamedEntry → List NamedEntry → Type 0
PluralOfFirst o before d after =
    All (λ b. b.entry.plural ≡ None) before → d.entry.plural ≢ None
    → (merged_entry o (before ++ d ∷ after)).plural ≡ d.entry.plural

-- the live ones of entries, in order
pub data AreLiveOf : List NamedEntry → List NamedEntry → Type 0 where
  no_entry : AreLiveOf [] []
  live : {e : NamedEntry} {group lives : List NamedEntry} → e.entry.obsolete ≡ false → AreLiveOf group lives
      → AreLiveOf (e ∷ group) (e ∷ lives)
  obsolete : {e : NamedEntry} {group lives : List NamedEntry} → e.entry.obsolete ≡ true → AreLiveOf group lives
      → AreLiveOf (e ∷ group) lives

-- The definitions of a message are all its live entries where one is live, and else all its entries.
pub record DefinedByLive (group : List NamedEntry) : Type 0 where
  pub some_live : (e : NamedEntry) → Contains group e → e.entry.obsolete ≡ false
      → AreLiveOf group (definitions group)
  pub none_live : All (λ e. e.entry.obsolete ≡ true) group → definitions group ≡ group

-- The entry is obsolete exactly if no entry of the message is live.
abbrev pub ObsoleteWhereNoneIsLive : MergeOptions → List NamedEntry → Type 0
ObsoleteWhereNoneIsLive o group =
    0 < length group → (merged_entry o (definitions group)).obsolete ≡ not (list_any (λ e. is_live e.entry) group)

-- the counts that the options ask for
pub record AskFor (o : MergeOptions) (count : ℕ) : Type 0 where
  pub more_than : o.more_than < count
  pub less_than : (limit : ℕ) → o.less_than ≡ Some limit → count < limit
  pub unique : o.unique ≡ true → count ≡ 1

-- A message that isn't the header's is kept exactly if its definitions are as many as is asked for.
abbrev pub KeptByCount : MergeOptions → List NamedEntry → Type 0
KeptByCount o ds = list_any (λ d. is_header d.entry) ds ≡ false → (is_kept o ds ≡ true) ↔ AskFor o (length ds)

-- definitions that differ at most in the lines of their entries
pub record IsSameButLine (a b : NamedEntry) : Type 0 where
  pub name : a.name ≡ b.name
  pub entry : SameButLine a.entry b.entry

-- Merged entries of such definitions differ at most in their lines.
abbrev pub LinesAreNotMerged : MergeOptions → List NamedEntry → List NamedEntry → Type 0
LinesAreNotMerged o ds es = AllZip IsSameButLine ds es → SameButLine (merged_entry o ds) (merged_entry o es)

-- What is promised of the translations that the definitions of one message have, and of the header's
-- message (manual, "Invoking the msgcat Program").

-- the definition has a translation: its first form isn't empty
abbrev pub IsTranslated : NamedEntry → Type 0
IsTranslated d = first_form d.entry.forms ≢ []

abbrev pub IsUntranslated : NamedEntry → Type 0
IsUntranslated d = first_form d.entry.forms ≡ []

-- one of the definitions has a translation, and another has a different one
pub record TranslationsDiffer (ds : List NamedEntry) : Type 0 where
  pub one : NamedEntry
  pub other : NamedEntry
  pub among_one : Contains ds one
  pub among_other : Contains ds other
  pub one_translated : IsTranslated one
  pub other_translated : IsTranslated other
  pub differ : one.entry.forms ≢ other.entry.forms

-- Translations are joined exactly if `--use-first` isn't given and two of them differ.
abbrev pub JoinedWhereTheyDiffer : MergeOptions → List NamedEntry → Type 0
JoinedWhereTheyDiffer o ds = (is_joined o ds ≡ true) ↔ ((o.use_first ≡ false) × TranslationsDiffer ds)

-- so many forms has the translation with the most
pub record HasLongest (ds : List NamedEntry) (count : ℕ) : Type 0 where
  pub longest : NamedEntry
  pub among : Contains ds longest
  pub translated : IsTranslated longest
  pub as_many : length longest.entry.forms ≡ count
  pub none_longer : (d : NamedEntry) → Contains ds d → IsTranslated d → length d.entry.forms ≤ count

-- A joined entry has as many forms as the translation with the most.
abbrev pub JoinedAsLongest : MergeOptions → List NamedEntry → Type 0
JoinedAsLongest o ds = is_joined o ds ≡ true → HasLongest ds (length (merged_entry o ds).forms)

-- the first definition with a translation, or the first of all where none has one
pub data IsFirstTranslated : List NamedEntry → NamedEntry → Type 0 where
  translated : (before after : List NamedEntry) {d : NamedEntry} → All IsUntranslated before → IsTranslated d
      → IsFirstTranslated (before ++ d ∷ after) d
  none : {d : NamedEntry} {after : List NamedEntry} → All IsUntranslated (d ∷ after) → IsFirstTranslated (d ∷ after) d

-- Where translations aren't joined, the forms and the mark of a fuzzy entry are those of that
-- definition.
abbrev pub FormsOfFirst : MergeOptions → List NamedEntry → NamedEntry → Type 0
FormsOfFirst o ds d =
    is_joined o ds ≡ false → IsFirstTranslated ds d
    → ((merged_entry o ds).forms ≡ d.entry.forms) × ((merged_entry o ds).fuzzy ≡ d.entry.fuzzy)

-- With `--use-first` so are the comments of each kind.
abbrev pub CommentsOfFirst : MergeOptions → CommentKind → List NamedEntry → NamedEntry → Type 0
CommentsOfFirst o kind ds d =
    o.use_first ≡ true → IsFirstTranslated ds d → texts_of kind (merged_entry o ds) ≡ texts_of kind d.entry

-- What is translated stays translated: where a live entry of a message has a translation, so has the
-- entry that they are merged to.
abbrev pub TranslatedStays : MergeOptions → List NamedEntry → Type 0
TranslatedStays o group =
    (d : NamedEntry) → Contains group d → d.entry.obsolete ≡ false → IsTranslated d
    → first_form (merged_entry o (definitions group)).forms ≢ []

-- A header's message is kept, whatever is asked for.
abbrev pub HeadersAreKept : MergeOptions → List NamedEntry → Type 0
HeadersAreKept o ds =
    (d : NamedEntry) → Contains ds d → d.entry.context ≡ None → d.entry.id ≡ [] → is_kept o ds ≡ true
