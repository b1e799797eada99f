-- The inputs that are read one after another and collected, and why they are refused.
use Rattle.po_compile.proofs.Prelude.{All, All-cons, All-filter, All-nil, All-push, AllApart, AllZip, AreCollected, AreMessagesOf, AreRead, AreSortedRows, Bool, Bor, EachApart, HasNoDuplicate, HaveOneKey, HoldCatalogues, InputEntry, InputMessage, IsBuildFault, IsCatalogueEntry, IsCompileFault, IsFaultOf, IsFaultOfInput, IsFirstDuplicate, IsFirstRepeat, IsReadFault, IsReadingFault, IsRepeat, IsRepeatFault, IsRepeatInInput, IsReportedFault, IsSameMessage, IsTextFault, JoinError, LayoutIsMoFile, List, LiveMessage, LookUpMeansEntries, Message, MessagesAreOne, MessagesMeanEntries, Options, OutOfMemory, PoError, PoFault, ReadsDistinct, ReadsText, Row, TextEntry, [], all_messages, all_of_both, ap, append-nil, append_assoc, ap₂, arith, bytes_eq, bytes_eq-Decides, cases_Bool, compiled_list, compiled_of, distinct_has_no_first, drop, drop-cons, duplicate_fault, entries_of, entries_of_input, fault_input, fault_of_input, fault_of_only_input, get_or, get_or-map, in_input, in_input_message, inl, input_keys, input_message, inr, is_live, join_out_of_memory, joined, joined_entries, layout, length, length-append, length-map, length-take, live_entries, live_messages, live_of_entries, map, map-append, none_or_first_repeat, none_repeats, not_from_Decides, one_repeat, out_of_memory, pairs_map, query_key, refl, repeat_by, repeat_fault, repeat_map, row_key, row_view, slice_texts, split_at, subst, suc, sym, take, take-append-drop, take-map, take_more, ℕ, ⊎_elim, ◌++◌, ◌+◌, ◌<◌, ◌^◌, ◌∙◌, ◌∷◌, ◌≡◌, ◌≢◌, ◌≤◌, ◌⊎◌}
use Rattle.po_compile.proofs.JoinedRows.{all_are, joined_valid, of_input}
use Rattle.po_compile.proofs.SortedMessages.{are_messages, at_entry, compiled_valid}
use Rattle.po_syntax.specs.Facts.Zips.{zip_get, zip_length, zip_more, zip_take}
use Rattle.po_compile.proofs.DistinctKeys.{joined_distinct, read_distinct, rising_apart, sorted_keys}
use Rattle.po_compile.proofs.Meaning.{entry_lacks_separators}
use Rattle.po_compile.proofs.CompiledMessages.{query_key_is_one}
use Rattle.std.proofs.lemmas.Slice.Zip.{AllZip-long}
use Rattle.mo_file.specs.declared.building.BuildError.{BuildError}
use Rattle.mo_file.specs.declared.building.BuildError.TheVariants.{NotSorted, OutOfMemory as NoMemory, TooLarge}

input_of_fault : (input : ℕ) (kind : PoFault) → kind ≢ OutOfMemory → fault_input input kind ≡ input
input_of_fault input OutOfMemory other = absurd (other refl)
input_of_fault input kind other = refl

-- what stands for a text beyond the last
abbrev pub no_text : Bor (List ℕ)
no_text = record { ref_ptr = (0, 0); now = [] }

module _ (texts : List (Bor (List ℕ))) (i : ℕ) (inside : i < length texts) where
  abbrev its_text : Bor (List ℕ)
  its_text = get_or texts i no_text

  pub more_texts : slice_texts (take (i + 1) texts) ≡ slice_texts (take i texts) ++ its_text.now ∷ []
  more_texts =
      let now : Bor (List ℕ) → List ℕ = λ s. s.now in
      ap slice_texts (take_more texts i no_text inside) ∙ map-append now (take i texts) (its_text ∷ [])

  pub split_texts : slice_texts texts ≡ slice_texts (take i texts) ++ its_text.now ∷ slice_texts (drop (suc i) texts)
  split_texts =
      let now : Bor (List ℕ) → List ℕ = λ s. s.now in
      ap slice_texts (sym (take-append-drop i texts)) ∙ map-append now (take i texts) (drop i texts)
      ∙ ap (λ ts. slice_texts (take i texts) ++ slice_texts ts) (drop-cons texts i no_text inside)

  pub refused_input : (catalogues : List (List TextEntry)) (error : PoError)
      → AllZip ReadsDistinct (slice_texts (take i texts)) catalogues
      → (error ≡ out_of_memory) ⊎ ((error.kind ≢ OutOfMemory) × IsTextFault its_text.now error)
      → IsReadingFault (slice_texts texts) (fault_of_input i error)
  refused_input catalogues error each why =
      ⊎_elim (λ memory. inl (ap (fault_of_input i) memory))
      (λ fault.
      let input = input_of_fault i error.kind fault.0 in
      let long : i ≡ length (slice_texts (take i texts)) =
      omega (arith, length-take i texts, length-map (take i texts) (λ (s : Bor (List ℕ)). s.now)) in
      inr (inl (record {
        before = slice_texts (take i texts);
        text = its_text.now;
        after = slice_texts (drop (suc i) texts);
        order = split_texts;
        catalogues = catalogues;
        faultless = each;
        input = input ∙ long;
        first_input = input ∙ long;
        fault = fault.1;
      }))) why

-- the joined list of one catalogue is that catalogue
pub joined_one : (entries : List TextEntry) → joined_entries (entries ∷ []) ≡ entries
joined_one entries = ap entries_of (append-nil (map (in_input 0) entries)) ∙ entries_of_input 0 entries

-- one catalogue at most has no duplicate across inputs
pub distinct_of_one : (texts : List (List ℕ)) (catalogues : List (List TextEntry)) → length catalogues ≤ 1
    → AllZip ReadsDistinct texts catalogues → HasNoDuplicate (joined_entries catalogues)
distinct_of_one texts [] few each = λ i j d before inside. absurd (omega (arith, inside))
distinct_of_one [] (c ∷ []) few each = absurd each
distinct_of_one (t ∷ ts) (c ∷ []) few each = subst HasNoDuplicate (sym (joined_one c)) each.0.distinct
distinct_of_one texts (c ∷ d ∷ cs) few each = absurd (omega (arith, few))

module _ (text : List ℕ) where
  -- one text reads as one catalogue
  pub only_read : (entries : List TextEntry) → ReadsDistinct text entries → AreRead (text ∷ []) (entries ∷ [])
  only_read entries reads =
      record { each = (reads, tt); distinct = subst HasNoDuplicate (sym (joined_one entries)) reads.distinct }

-- a text that reads as entries has entries that a catalogue may hold
abbrev pub EntriesCanStand : Type 0
EntriesCanStand = (text : List ℕ) (entries : List TextEntry) → ReadsText text entries → All IsCatalogueEntry entries

each_valid : EntriesCanStand → (texts : List (List ℕ)) (catalogues : List (List TextEntry))
    → AllZip ReadsDistinct texts catalogues → All (All IsCatalogueEntry) catalogues
each_valid stand [] [] each = All-nil (All IsCatalogueEntry)
each_valid stand [] (entries ∷ catalogues) each = absurd each
each_valid stand (text ∷ texts) [] each = absurd each
each_valid stand (text ∷ texts) (entries ∷ catalogues) each =
    All-cons (All IsCatalogueEntry) entries catalogues (stand text entries each.0.reads)
    (each_valid stand texts catalogues each.1)

-- so does the joined list of texts that are read
pub read_valid : EntriesCanStand → (texts : List (List ℕ)) (catalogues : List (List TextEntry))
    → AllZip ReadsDistinct texts catalogues → All IsCatalogueEntry (joined_entries catalogues)
read_valid stand texts catalogues each = joined_valid catalogues (each_valid stand texts catalogues each)

pub look_up_means : EntriesCanStand → LayoutIsMoFile → MessagesMeanEntries → MessagesAreOne → LookUpMeansEntries
look_up_means stand valid_layout mean one options texts catalogues messages accepted are =
    let entries = compiled_list options.use_fuzzy (joined_entries catalogues) in
    let same = one entries accepted.layout.messages messages accepted.layout.are_messages are in (
      valid_layout options.order messages are.rising
          (subst (λ ms. length (layout options.order ms) < 2 ^ 32) same accepted.layout.small),
      mean entries messages (compiled_valid options.use_fuzzy (joined_entries catalogues)
          (read_valid stand texts catalogues accepted.read.each)) are,
    )

-- The inputs that are collected, and why they are refused: the repeats of messages that are collected are
-- the duplicates of the texts.

-- the first repeat in a list of what a function makes of elements is made of theirs
repeat_of_map : {X Y : Type 0} (Alike : Y → Y → Type 0) → ((a b : Y) → Alike a b ⊎ (Alike a b → ⊥))
    → ((x y z : Y) → Alike x z → Alike y z → Alike x y) → (f : X → Y) (xs : List X) (a b : Y)
    → IsFirstRepeat Alike (map f xs) a b
    → (x y : X) × IsFirstRepeat (λ v w. Alike (f v) (f w)) xs x y × (f x ≡ a) × (f y ≡ b)
repeat_of_map Alike decide alike f xs a b h =
    elim (none_or_first_repeat (λ v w. Alike (f v) (f w)) (λ v w. decide (f v) (f w)) xs) [
      | inl differ ↦ absurd (none_repeats Alike (map f xs) a b (pairs_map (λ v w. ¬ Alike v w) f xs differ) h)
      | inr found ↦
          let same = one_repeat Alike alike (map f xs) (f found.0) (f found.1) a b
          (repeat_map Alike f xs found.0 found.1 found.2) h in
          (found.0, found.1, found.2, same.0, same.1)
    ]

one_key : (a b : InputMessage) → HaveOneKey a b ⊎ (HaveOneKey a b → ⊥)
one_key a b =
    let test = bytes_eq a.message.key b.message.key in
    let decides = bytes_eq-Decides a.message.key b.message.key in
    elim (cases_Bool test) [ inl same ↦ inl (decides.0 same) | inr other ↦ inr (not_from_Decides test decides other) ]

module _ (use_fuzzy : Bool) where
  -- the first repeat of the live entries' messages is their first duplicate
  repeat_is : (entries : List InputEntry) (error : JoinError) → All IsCatalogueEntry (entries_of entries)
      → IsRepeat (map (input_message use_fuzzy) (live_entries entries)) error
      → (first later : InputEntry) × IsFirstDuplicate entries first later × (error ≡ duplicate_fault first later)
  repeat_is entries error valid r =
      let live = live_entries entries in
      let message : InputEntry → InputMessage = input_message use_fuzzy in
      let Alike : InputEntry → InputEntry → Type 0 = λ a b. HaveOneKey (message a) (message b) in
      let found = repeat_of_map HaveOneKey one_key (λ x y z a b. a ∙ sym b) message live r.0 r.1 r.2 in
      let live_valid : All IsCatalogueEntry (entries_of live) =
      subst (All IsCatalogueEntry) (live_of_entries entries)
      (All-filter is_live IsCatalogueEntry (entries_of entries) valid) in
      let both = all_of_both Alike (λ e. IsCatalogueEntry e.entry) live found.0 found.1
      (λ k d inside. at_entry IsCatalogueEntry live k d inside live_valid) found.2 in
      let one = entry_lacks_separators found.0.entry both.0.valid in
      let other = entry_lacks_separators found.1.entry both.1.valid in (
        found.0,
        found.1,
        repeat_by Alike (λ a b. IsSameMessage a.entry b.entry) live found.0 found.1
            (query_key_is_one found.0.entry.context found.1.entry.context found.0.entry.id found.1.entry.id
            one.context_eot other.context_eot one.id_eot other.id_eot)
            (λ a b same. ap₂ query_key same.0 same.1) found.2,
        r.3 ∙ ap₂ repeat_fault (sym found.3) (sym found.4),
      )

  module _ (texts more : List (List ℕ)) (catalogues : List (List TextEntry)) (inputs : List (List LiveMessage))
      (read : AllZip ReadsText texts catalogues) (held : HoldCatalogues use_fuzzy catalogues inputs)
      (error : JoinError) where
    -- the first input with a duplicate, whatever inputs are after these
    pub input_refused : IsRepeatInInput inputs error → IsFaultOfInput (texts ++ more) error
    input_refused r =
        let i = r.index in
        let many : length inputs ≡ length catalogues =
        ap length held.messages ∙ length-map catalogues (live_messages use_fuzzy) in
        let inside : i < length catalogues = omega (arith, r.inside, many) in
        let long : length texts ≡ length catalogues = zip_length ReadsText texts catalogues read in
        let within : i < length texts = omega (arith, inside, long) in
        let entries = get_or catalogues i [] in
        let here : get_or inputs i [] ≡ live_messages use_fuzzy entries =
        ap (λ ms. get_or ms i []) held.messages ∙ get_or-map (live_messages use_fuzzy) catalogues i [] [] inside in
        let messages = ap (map (in_input_message 0)) here ∙ of_input use_fuzzy 0 entries in
        let valid : All IsCatalogueEntry entries = held.valid i [] inside in
        let found = repeat_is (map (in_input 0) entries) r.alone
        (subst (All IsCatalogueEntry) (sym (entries_of_input 0 entries)) valid)
        (subst (λ ms. IsRepeat ms r.alone) messages r.repeat) in
        let before : EachApart (map (live_messages use_fuzzy) (take i catalogues)) =
        subst EachApart (ap (take i) held.messages ∙ take-map (live_messages use_fuzzy) i catalogues) r.before in
        let alone : r.alone.error ≡ (duplicate_fault found.0 found.1).error = ap (λ (e : JoinError). e.error) found.3 in
        let index : fault_input i r.alone.error.kind ≡ i = ap (λ (e : JoinError). fault_input i e.error.kind) found.3 in
        let count : length (take i texts) ≡ i = omega (arith, within, length-take i texts) in
        record {
          before = take i texts;
          text = get_or texts i [];
          after = drop (suc i) texts ++ more;
          order = ap (λ ts. ts ++ more) (split_at texts i [] within)
              ∙ append_assoc (take i texts) (get_or texts i [] ∷ drop (suc i) texts) more;
          catalogues = take i catalogues;
          faultless = read_distinct use_fuzzy (take i texts) (take i catalogues)
              (zip_take ReadsText i texts catalogues read) before;
          input = ap (λ (e : JoinError). e.input) r.error_is ∙ index ∙ sym count;
          first_input = ap (λ (e : JoinError). e.first_input) r.error_is ∙ index ∙ sym count;
          fault = inr (record {
            entries = entries;
            reads = zip_get ReadsText texts catalogues i [] [] read inside;
            first = found.0;
            later = found.1;
            duplicate = found.2;
            error_is = ap (λ (e : JoinError). e.error) r.error_is ∙ alone;
          });
        }

    pub each_refused : (error ≡ join_out_of_memory) ⊎ IsRepeatInInput inputs error
        → IsReadingFault (texts ++ more) error
    each_refused (inl memory) = inl memory
    each_refused (inr repeat) = inr (inl (input_refused repeat))

-- what is refused of all inputs
pub inputs_refused : (use_fuzzy : Bool) (texts : List (List ℕ)) (catalogues : List (List TextEntry))
    (inputs : List (List LiveMessage)) (error : JoinError) → AllZip ReadsText texts catalogues
    → HoldCatalogues use_fuzzy catalogues inputs
    → IsRepeatFault inputs error → IsReadingFault texts error
inputs_refused use_fuzzy texts catalogues inputs error read held (inl memory) = inl memory
inputs_refused use_fuzzy texts catalogues inputs error read held (inr (inl repeat)) =
    inr (inl (subst (λ ts. IsFaultOfInput ts error) (append-nil texts)
    (input_refused use_fuzzy texts [] catalogues inputs read held error repeat)))
inputs_refused use_fuzzy texts catalogues inputs error read held (inr (inr across)) =
    let found = repeat_is use_fuzzy (joined catalogues) error (joined_valid catalogues held.valid)
    (subst (λ ms. IsRepeat ms error) (ap all_messages held.messages ∙ all_are use_fuzzy catalogues) across.1) in
    inr (inr (record {
      catalogues = catalogues;
      each = read_distinct use_fuzzy texts catalogues read (subst EachApart held.messages across.0);
      first = found.0;
      later = found.1;
      duplicate = found.2;
      error_is = found.3;
    }))

module _ (use_fuzzy : Bool) where
  -- one more catalogue
  pub held_more : (catalogues : List (List TextEntry)) (inputs : List (List LiveMessage)) (entries : List TextEntry)
      (messages : List LiveMessage) → HoldCatalogues use_fuzzy catalogues inputs → All IsCatalogueEntry entries
      → messages ≡ live_messages use_fuzzy entries
      → HoldCatalogues use_fuzzy (catalogues ++ entries ∷ []) (inputs ++ messages ∷ [])
  held_more catalogues inputs entries messages held valid is = record {
    valid = All-push (All IsCatalogueEntry) catalogues entries held.valid valid;
    messages = ap₂ (λ l m. l ++ m ∷ []) held.messages is
        ∙ sym (map-append (live_messages use_fuzzy) catalogues (entries ∷ []));
  }

  -- one more text
  pub collected_more : EntriesCanStand
      → (texts : List (List ℕ)) (inputs : List (List LiveMessage)) (text : List ℕ) (messages : List LiveMessage)
      → AreCollected use_fuzzy texts inputs
      → (entries : List TextEntry) × ReadsText text entries × (messages ≡ live_messages use_fuzzy entries)
      → AreCollected use_fuzzy (texts ++ text ∷ []) (inputs ++ messages ∷ [])
  collected_more stand texts inputs text messages of found = record {
    catalogues = of.catalogues ++ found.0 ∷ [];
    read = zip_more ReadsText texts of.catalogues text found.0 of.read found.1;
    held = held_more of.catalogues inputs found.0 messages of.held (stand text found.0 found.1) found.2;
  }

  -- as many are collected as there are texts
  pub collected_count : (texts : List (List ℕ)) (inputs : List (List LiveMessage)) → AreCollected use_fuzzy texts inputs
      → length inputs ≡ length texts
  collected_count texts inputs of =
      ap length of.held.messages ∙ length-map of.catalogues (live_messages use_fuzzy)
      ∙ AllZip-long ReadsText texts of.catalogues of.read

  -- texts whose rows are sorted, where no message repeats another
  pub sorted_read : (texts : List (List ℕ)) (inputs : List (List LiveMessage)) (rows : List Row)
      (of : AreCollected use_fuzzy texts inputs) → EachApart inputs → AreSortedRows inputs rows
      → AreRead texts of.catalogues
  sorted_read texts inputs rows of each are = record {
    each = read_distinct use_fuzzy texts of.catalogues of.read (subst EachApart of.held.messages each);
    distinct = joined_distinct use_fuzzy of.catalogues
        (subst (λ ins. AllApart (input_keys (all_messages ins))) of.held.messages
        (sorted_keys inputs rows are.all (rising_apart (map row_key rows) are.rising)));
  }

-- the pairs of sorted rows are the messages of the texts' entries
pub pairs_are : (use_fuzzy : Bool) (texts : List (List ℕ)) (inputs : List (List LiveMessage)) (rows : List Row)
    (of : AreCollected use_fuzzy texts inputs) → AreSortedRows inputs rows → (pairs given : List Message)
    → pairs ≡ compiled_of (map row_view rows) → given ≡ pairs
    → AreMessagesOf (compiled_list use_fuzzy (joined_entries of.catalogues)) given
pairs_are use_fuzzy texts inputs rows of sorted pairs given made is =
    rw (is, made) (are_messages use_fuzzy of.catalogues inputs rows of.held sorted)

-- a fault that is reported is out of memory, or one of the text
fault_of_kind : (text : List ℕ) (error : PoError) (kind : PoFault) → error.kind ≡ kind
    → IsFaultOf (IsReadFault text) error
    → (error ≡ out_of_memory) ⊎ ((error.kind ≢ OutOfMemory) × IsTextFault text error)
fault_of_kind text error OutOfMemory is h =
    let with : PoFault → ℕ → PoError = λ k l. record { kind = k; line = l } in
    inl (ap₂ with is (h.memory is))
fault_of_kind text error kind is h =
    let other : error.kind ≢ OutOfMemory = λ memory. absurd (cc (is, memory)) in
    inr (other, inl (h.fault other))

pub text_fault : (text : List ℕ) (error : PoError) → IsFaultOf (IsReadFault text) error
    → (error ≡ out_of_memory) ⊎ ((error.kind ≢ OutOfMemory) × IsTextFault text error)
text_fault text error h = fault_of_kind text error error.kind refl h

-- why no file is built of sorted messages
pub build_refused : (options : Options) (texts : List (List ℕ)) (catalogues : List (List TextEntry))
    (messages : List Message) (error : BuildError) (reported : JoinError) → AreRead texts catalogues
    → AreMessagesOf (compiled_list options.use_fuzzy (joined_entries catalogues)) messages
    → IsBuildFault options.order messages error → IsReportedFault error reported
    → IsCompileFault options texts reported
build_refused options texts catalogues messages TooLarge reported read are large is =
    inr (record {
      catalogues = catalogues;
      read = read;
      large =
          record { messages = messages; are_messages = are; large = large };
      error_is = is;
    })
build_refused options texts catalogues messages NotSorted reported read are fault is = absurd is
build_refused options texts catalogues messages NoMemory reported read are fault is = inl (inl is)

-- the fault of a text that is the only one is of no other input
pub alone_refused : (options : Options) (text : List ℕ) (error : JoinError) → IsCompileFault options (text ∷ []) error
    → IsCompileFault options (text ∷ []) (fault_of_only_input error.error)
alone_refused options text error fault = subst (IsCompileFault options (text ∷ [])) (by fault) fault where
  alone : error.input ≡ 0 → error.first_input ≡ 0 → error ≡ fault_of_only_input error.error
  alone input first = ap₂ (λ n m. record { input = n; first_input = m; error = error.error }) input first

  by : IsCompileFault options (text ∷ []) error → error ≡ fault_of_only_input error.error
  by (inl (inl memory)) = alone (ap (λ (e : JoinError). e.input) memory) (ap (λ (e : JoinError). e.first_input) memory)
  by (inl (inr (inl fault))) =
      let none : length fault.before ≡ 0 =
      omega (arith, ap length fault.order, length-append fault.before (fault.text ∷ fault.after)) in
      alone (fault.input ∙ none) (fault.first_input ∙ none)
  by (inl (inr (inr found))) =
      let one = AllZip-long ReadsDistinct (text ∷ []) found.catalogues found.each in
      absurd (distinct_has_no_first (joined found.catalogues) found.first found.later
      (distinct_of_one (text ∷ []) found.catalogues (omega (arith, one)) found.each) found.duplicate)
  by (inr large) = alone (ap (λ (e : JoinError). e.input) large.error_is)
      (ap (λ (e : JoinError). e.first_input) large.error_is)
