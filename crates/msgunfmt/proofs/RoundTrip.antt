-- A compiled file comes back from its PO text.
use Rattle.msgunfmt.proofs.Prelude.{All, All-filter, All-head, All-map, All-right, All-tail, All-weaker, AllDiffer, AllZip, Bool, CompilesTo, HasNoDuplicate, IsCatalogueEntry, IsEntry, IsPermutation, IsSmall, IsText, List, Message, None, Option, ReadsDistinct, ReadsText, Some, TextEntry, UnformatThenCompile, [], and_parts, ap, append_assoc, arith, arranged, cond, entry_of_message, false, filter, filter_passes, forms, get_or, has_translation, id_of, is_header, is_live, joined_entries, key_of, layout, length, length-map, map, not, option_to_list, plural_of, previous_texts, quoted_texts, refl, subst, sym, take_all, taken_forms, true, unformatted, with_line, written_text, ℕ, ◌&&◌, ◌++◌, ◌||◌, ◌∙◌, ◌∷◌, ◌≡◌}
use Rattle.std.proofs.Math.ListN.{get_or-map}
use Rattle.std.proofs.lemmas.List.Folds.{map_fixed}
use Rattle.std.proofs.lemmas.List.Sorted.{All-permutation, IsPermutation-refl}
use Rattle.std.proofs.lemmas.Simd.{map-map}
use Rattle.po_entry.specs.Prelude.{plain_entry as bare_entry}
use Rattle.po_compile.specs.Prelude.{AreAccepted, AreMessagesOf, ComesBack, HasSmallLayout, IsCompilation, JoinedEntriesCanStand, LookUpMeansEntries, MessagesAreOne, MessagesDiffer, OneTextIsRead, TextsComeBack, compiled_list, is_compiled, message_of, original_of, translation_of}
use Rattle.po_compile.specs.declared.options.Compiled.{Compiled}
use Rattle.po_compile.specs.declared.options.Options.{Options}
use Rattle.msgunfmt.proofs.Messages.{plain_valid}

-- the texts of an entry alone
abbrev bare : TextEntry → TextEntry
bare entry = bare_entry entry.context entry.id entry.plural entry.forms

forms_back : (plural : Option (List ℕ)) (all : List (List ℕ)) → (plural ≡ None → length all ≡ 1)
    → taken_forms plural all ≡ all
forms_back None all one = take_all 1 all (omega (arith, one refl))
forms_back (Some plural) all one = refl

-- the entry of an entry's message has its texts
entry_back : (entry : TextEntry) → IsEntry entry → ComesBack entry → entry_of_message (message_of entry) ≡ bare entry
entry_back entry valid back =
    let translated = forms (translation_of entry) in
    let original = original_of entry in
    ap (λ context. bare_entry context (id_of (key_of original)) (plural_of original)
    (taken_forms (plural_of original) translated)) back.context
    ∙ ap (λ id. bare_entry entry.context id (plural_of original) (taken_forms (plural_of original) translated)) back.id
    ∙ ap (λ p. bare_entry entry.context entry.id p (taken_forms p translated)) back.plural
    ∙ ap (λ all. bare_entry entry.context entry.id entry.plural (taken_forms entry.plural all)) back.forms_are
    ∙ ap (bare_entry entry.context entry.id entry.plural) (forms_back entry.plural entry.forms valid.one_form)

bare_valid : (entry : TextEntry) → IsEntry entry → IsEntry (bare entry)
bare_valid entry valid =
    let previous = previous_texts entry.previous in
    let context = option_to_list entry.context in
    let own = ((context ++ (entry.id ∷ [])) ++ option_to_list entry.plural) ++ entry.forms in
    let split : quoted_texts entry ≡ previous ++ own = simp append_assoc in
    plain_valid entry.context entry.id entry.plural entry.forms
    (All-right IsText previous own (subst (All IsText) split valid.quoted_texts)) valid.context valid.id
    valid.some_form valid.one_form

-- the entry of a message can stand in a catalogue, is translated, and has this message
record IsAgain (entry : TextEntry) (m : Message) : Type 0 where
  valid : IsCatalogueEntry entry
  translated : has_translation entry ≡ true
  again : message_of entry ≡ m

abbrev IsReturned : Message → Type 0
IsReturned m = IsAgain (entry_of_message m) m

returned : TextsComeBack → (entry : TextEntry) → IsCatalogueEntry entry → has_translation entry ≡ true
    → IsReturned (message_of entry)
returned come_back entry can_stand translated =
    subst (λ e. IsAgain e (message_of entry)) (sym (entry_back entry can_stand.valid (come_back entry can_stand.valid)))
    (record {
      valid = record { valid = bare_valid entry can_stand.valid; charset = can_stand.charset };
      translated =
          translated;
      again = refl;
    })

all_returned : TextsComeBack → (use_fuzzy : Bool) (entries : List TextEntry) (messages : List Message)
    → All IsCatalogueEntry entries
    → AreMessagesOf (compiled_list use_fuzzy entries) messages → All IsReturned messages
all_returned come_back use_fuzzy entries messages valid are =
    let list = compiled_list use_fuzzy entries in
    let can_stand = All-filter (is_compiled use_fuzzy) IsCatalogueEntry entries valid in
    let passes = filter_passes (is_compiled use_fuzzy) entries in
    let each : All (λ e. IsReturned (message_of e)) list =
    λ i d inside. let e = get_or list i d in
    let wanted = and_parts (is_live e) (has_translation e && (use_fuzzy || not e.fuzzy || is_header e))
    (passes i d inside) in
    returned come_back e (can_stand i d inside)
    (and_parts (has_translation e) (use_fuzzy || not e.fuzzy || is_header e) wanted.1).0 in
    All-permutation IsReturned (map message_of list) messages are.all (All-map IsReturned message_of list each)

-- a test that each entry passes omits none
kept : (test : TextEntry → Bool) (entries : List TextEntry) → All (λ e. test e ≡ true) entries
    → filter test entries ≡ entries
kept test [] passes = refl
kept test (entry ∷ entries) passes =
    let Passes : TextEntry → Type 0 = λ e. test e ≡ true in
    ap (λ t. cond t (entry ∷ filter test entries) (filter test entries)) (All-head Passes entry entries passes)
    ∙ ap (λ l. entry ∷ l) (kept test entries (All-tail Passes entry entries passes))

-- what holds whatever the lines
whatever_line : (P : TextEntry → Type 0) → (read entries : List TextEntry)
    → map (with_line 0) read ≡ map (with_line 0) entries
    → ((e : TextEntry) → P (with_line 0 e) → P e) → All (λ e. P (with_line 0 e)) entries → All P read
whatever_line P read entries same any all =
    let all' : All P (map (with_line 0) read) = subst (All P) (sym same) (All-map P (with_line 0) entries all) in
    λ i d inside. any (get_or read i d)
    (subst P (get_or-map (with_line 0) read i d)
    (all' i (with_line 0 d) (omega (arith, length-map read (with_line 0)))))

always : (use_fuzzy header : Bool) → (use_fuzzy || true || header) ≡ true
always true header = refl
always false header = refl

module _ (messages : List Message) (all : All IsReturned messages) where
  abbrev entries : List TextEntry
  entries = unformatted messages

  can_stand : All IsCatalogueEntry entries
  can_stand = All-map IsCatalogueEntry entry_of_message messages
      (All-weaker IsReturned (λ m. IsCatalogueEntry (entry_of_message m)) (λ m r. r.valid) messages all)

  again : map message_of entries ≡ messages
  again =
      map-map message_of entry_of_message messages
      ∙ map_fixed (λ m. message_of (entry_of_message m)) messages
      (All-weaker IsReturned (λ m. message_of (entry_of_message m) ≡ m) (λ m r. r.again) messages all)

  compiled : (use_fuzzy : Bool) → All (λ e. is_compiled use_fuzzy (with_line 0 e) ≡ true) entries
  compiled use_fuzzy =
      All-map (λ e. is_compiled use_fuzzy (with_line 0 e) ≡ true) entry_of_message messages
      (All-weaker IsReturned (λ m. is_compiled use_fuzzy (with_line 0 (entry_of_message m)) ≡ true)
      (λ m r. ap (λ t. t && (use_fuzzy || true || is_header (entry_of_message m))) r.translated
      ∙ always use_fuzzy (is_header (entry_of_message m))) messages all)

  module _ (read : List TextEntry) (lines : map (with_line 0) read ≡ map (with_line 0) entries) where
    read_messages : map message_of read ≡ messages
    read_messages = sym (map-map message_of (with_line 0) read) ∙ ap (map message_of) lines
        ∙ map-map message_of (with_line 0) entries ∙ again

    all_compiled : (use_fuzzy : Bool) → compiled_list use_fuzzy read ≡ read
    all_compiled use_fuzzy =
        kept (is_compiled use_fuzzy) read
        (whatever_line (λ e. is_compiled use_fuzzy e ≡ true) read entries lines (λ e h. h) (compiled use_fuzzy))

    all_live : filter is_live read ≡ read
    all_live = kept is_live read
        (whatever_line (λ e. is_live e ≡ true) read entries lines (λ e h. h)
        (All-map (λ e. is_live (with_line 0 e) ≡ true) entry_of_message messages (λ i d inside. refl)))

    are_messages : (entries' : List TextEntry) → AreMessagesOf entries' messages → AreMessagesOf read messages
    are_messages entries' are =
        record {
          all = subst (λ ms. IsPermutation (map message_of read) ms) read_messages
              (IsPermutation-refl (map message_of read));
          rising = are.rising;
        }

    distinct : MessagesDiffer → (entries' : List TextEntry) → AreMessagesOf entries' messages
        → All IsCatalogueEntry read → HasNoDuplicate read
    distinct differ entries' are valid =
        subst AllDiffer (sym all_live)
        (differ read messages (All-weaker IsCatalogueEntry IsEntry (λ e v. v.valid) read valid)
        (are_messages entries' are))

abbrev pub OneReading : Type 0
OneReading = (text : List ℕ) (entries others : List TextEntry) → ReadsText text entries → ReadsText text others
    → entries ≡ others

abbrev pub EntriesCanStand : Type 0
EntriesCanStand = (text : List ℕ) (entries : List TextEntry) → ReadsText text entries → All IsCatalogueEntry entries

abbrev pub WrittenTextReads : Type 0
WrittenTextReads =
    (entries : List TextEntry) → All IsCatalogueEntry entries → IsSmall (written_text entries)
    → (read : List TextEntry) × ReadsText (written_text entries) read
    × (map (with_line 0) read ≡ map (with_line 0) (arranged entries))

abbrev pub LiveEntriesStay : Type 0
LiveEntriesStay = (entries : List TextEntry) → All (λ e. e.obsolete ≡ false) entries → arranged entries ≡ entries

one_catalogue : OneReading → (text : List ℕ) (read : List TextEntry) (catalogues : List (List TextEntry))
    → ReadsText text read → AllZip ReadsDistinct (text ∷ []) catalogues
    → catalogues ≡ read ∷ []
one_catalogue one text read [] reads each = absurd each
one_catalogue one text read (c ∷ []) reads each =
    ap (λ (e : List TextEntry). e ∷ []) (one text c read each.0.reads reads)
one_catalogue one text read (c ∷ d ∷ catalogues) reads each = absurd each.1

module _ (come_back : TextsComeBack) (differ : MessagesDiffer) (joined_stand : JoinedEntriesCanStand)
    (one_text : OneTextIsRead) (one_list : MessagesAreOne) (means : LookUpMeansEntries)
    (one_reading : OneReading) (stand : EntriesCanStand) (reads : WrittenTextReads) (stay : LiveEntriesStay) where
  module _ (options : Options) (list : List TextEntry) (compiled' : Compiled)
      (is : IsCompilation options list compiled') (all : All IsReturned is.laid_out.messages) where
    abbrev text : List ℕ
    text = written_text (unformatted is.laid_out.messages)

    compiles : IsSmall text → (use_fuzzy : Bool)
        → CompilesTo (record { use_fuzzy = use_fuzzy; order = options.order }) text compiled'.bytes.items
    compiles small use_fuzzy =
        let messages = is.laid_out.messages in
        let entries = unformatted messages in
        let list' = compiled_list options.use_fuzzy list in
        let found = reads entries (can_stand messages all) small in
        let read = found.0 in
        let live = All-map (λ e. e.obsolete ≡ false) entry_of_message messages (λ i d inside. refl) in
        let lines : map (with_line 0) read ≡ map (with_line 0) entries =
        found.2 ∙ ap (map (with_line 0)) (stay entries live) in
        let are = are_messages messages all read lines list' is.laid_out.are_messages in
        let none = distinct messages all read lines differ list' is.laid_out.are_messages (stand text read found.1) in
        let alone = one_text text read (record { reads = found.1; distinct = none }) in
        let same_list : compiled_list use_fuzzy (joined_entries (read ∷ [])) ≡ read =
        ap (compiled_list use_fuzzy) alone.1 ∙ all_compiled messages all read lines use_fuzzy in
        let back : Options = record { use_fuzzy = use_fuzzy; order = options.order } in
        let of_list = subst (λ l. AreMessagesOf l messages) (sym same_list) are in
        let laid_out : HasSmallLayout back (joined_entries (read ∷ [])) =
        record { messages = messages; are_messages = of_list; small = is.laid_out.small } in
        let accepted : AreAccepted back (text ∷ []) (read ∷ []) = record { read = alone.0; layout = laid_out } in
        record {
          catalogues = read ∷ [];
          accepted = accepted;
          messages = messages;
          are_messages = of_list;
          layout_is = sym is.bytes;
          compiled = record { bytes = compiled'.bytes; n = compiled'.n; stats = compiled'.stats };
          is_compiled = record {
            catalogues = read ∷ [];
            read = alone.0;
            is_compiled = record {
              laid_out = laid_out;
              bytes = is.bytes;
              valid = is.valid;
              means = (means back (text ∷ []) (read ∷ []) messages accepted of_list).1;
              count = is.count;
            };
          };
          same_bytes = λ other compiled.
              let only = one_catalogue one_reading text read compiled.catalogues found.1 compiled.read.each in
              let list_is : compiled_list use_fuzzy (joined_entries compiled.catalogues) ≡ read =
              ap (λ cs. compiled_list use_fuzzy (joined_entries cs)) only ∙ same_list in
              let theirs = subst (λ l. AreMessagesOf l compiled.is_compiled.laid_out.messages) list_is
              compiled.is_compiled.laid_out.are_messages in
              let same = one_list read compiled.is_compiled.laid_out.messages messages theirs are in
              compiled.is_compiled.bytes ∙ ap (layout options.order) same ∙ sym is.bytes;
        }

  pub unformat_then_compile : UnformatThenCompile
  unformat_then_compile options texts compiled' is =
      let list = joined_entries is.catalogues in
      let messages = is.is_compiled.laid_out.messages in
      let all = all_returned come_back options.use_fuzzy list messages
      (joined_stand texts is.catalogues is.read) is.is_compiled.laid_out.are_messages in (
        written_text (unformatted messages),
        record {
          order = options.order;
          messages = messages;
          valid = is.is_compiled.valid;
          holds =
              record { valid = can_stand messages all; written = refl };
        },
        compiles options list compiled' is.is_compiled all,
      )
