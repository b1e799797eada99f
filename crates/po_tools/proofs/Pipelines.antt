-- What msgcat or msgattrib wrote, compiled or written again.
use Rattle.po_tools.proofs.Prelude.{All, All-append, All-cons, All-contains_itself, All-filter, All-head, All-nil, All-tail, All-weaker, AllDiffer, AreReadAs, Bool, ChangesNothing, CompiledAreKept, CompilesAlike, Contains, DistinctInputsStay, HasAdmittedCharset, InputEntry, IsCatalogueEntry, IsInput, IsMerged, IsMsgcatRun, IsSameMessage, IsSmall, IsText, KeptCompilesAlike, List, MergedCanStand, MessagesStandOnce, MsgcatAgain, MsgcatCompilesAlike, MsgcatOfSeveral, Named, NamedEntry, NamedFile, OneInputStays, ReadsDistinct, ReadsText, RunView, TextEntry, [], all_entries, all_pass, ap, append-nil, ap₂, arith, arranged, compiled_list, entries_of, every_entry, false, false_from_ne_true, false≢true, filter, filter-append, filter_agree, filter_map, filter_passes, filter_twice, get_or, has_translation, in_input, inl, inr, is_compiled, is_header, is_kept, is_live, is_live_header, joined_from, keep_all, map, merged, message_of, named, none_pass, not, not-true, output_run, refl, selected, subst, suc, sym, true, with_line, written_text, zero, ℕ, ⊎_elim, ◌&&◌, ◌++◌, ◌+◌, ◌||◌, ◌∙◌, ◌∷◌, ◌≡◌, ◌≢◌}
use Rattle.std.proofs.Math.Bool.{and_comm}
use Rattle.msgattrib.specs.declared.selection.Selection.{Selection}
use Rattle.std.proofs.lemmas.List.Kept.{AllPairs-cons, AllPairs-filter}
use Rattle.std.proofs.lemmas.Simd.{map-map}
use Rattle.po_entry.specs.Facts.FirstRepeats.{pairs_map, pairs_of_map}
use Rattle.po_compile.proofs.JoinedRows.{filter_within}
use Rattle.po_compile.proofs.Meaning.{same_or_apart}
use Rattle.po_tools.proofs.OneRun.{msgcat_once}
use Rattle.msgcat.specs.declared.input.MergeOptions.{MergeOptions}
use Rattle.std.specs.List.{list_any}
use Rattle.po_entry.proofs.Headers.{header_decided}
use Rattle.msgcat.proofs.SameInput.{differ_head, differ_tail}

commute : {X : Type 0} (p q : X → Bool) (xs : List X) → filter p (filter q xs) ≡ filter q (filter p xs)
commute p q xs =
    filter_twice q p xs ∙ filter_agree (λ x. q x && p x) (λ x. p x && q x) (λ x. and_comm (q x) (p x)) xs
    ∙ sym (filter_twice p q xs)

-- an entry that is compiled is live, translated, and not fuzzy but where it is the header
lived : (live trans fuzzy header : Bool) → (live && (trans && (false || not fuzzy || header))) ≡ true
    → ((header && live) || (true && true && true && true && live && true)) ≡ true
lived true trans fuzzy true h = refl
lived true trans fuzzy false h = refl
lived false trans fuzzy header h = cc

clear : (live trans fuzzy header : Bool) → (live && (trans && (false || not fuzzy || header))) ≡ true
    → ((header && live) || (true && true && not fuzzy && true && true && true)) ≡ true
clear true trans fuzzy true h = refl
clear true trans false false h = refl
clear true true true false h = h
clear true false true false h = h
clear false trans fuzzy header h = cc

has : (live trans fuzzy header : Bool) → (live && (trans && (false || not fuzzy || header))) ≡ true
    → ((header && live) || (trans && true && true && true && true && true)) ≡ true
has true trans fuzzy true h = refl
has true true fuzzy false h = refl
has true false fuzzy false h = h
has false trans fuzzy header h = cc

module _ (keeps : (s : Selection) (es : List TextEntry) → ChangesNothing s → selected s es ≡ filter (is_kept s) es)
  where
    pub kept : KeptCompilesAlike
    kept s use_fuzzy entries changes =
        ap (filter (is_compiled use_fuzzy)) (keeps s entries changes)
        ∙ commute (is_compiled use_fuzzy) (is_kept s) entries

    -- a condition alone
    abbrev keeping : Bool → Bool → Bool → Selection
    keeping no_fuzzy no_obsolete translated =
        record every_entry { no_fuzzy = no_fuzzy; no_obsolete = no_obsolete; translated = translated }

    alike : (a b c : Bool) → ((e : TextEntry) → is_compiled false e ≡ true → is_kept (keeping a b c) e ≡ true)
        → CompilesAlike (keeping a b c)
    alike a b c implied entries =
        kept (keeping a b c) false entries (record {
          set_fuzzy = refl;
          clear_fuzzy = refl;
          set_obsolete = refl;
          clear_obsolete = refl;
          clear_previous = refl;
        })
        ∙ all_pass (is_kept (keeping a b c)) (compiled_list false entries)
        (All-weaker (λ e. is_compiled false e ≡ true) (λ e. is_kept (keeping a b c) e ≡ true) implied
        (compiled_list false entries) (filter_passes (is_compiled false) entries))

    pub compiled : CompiledAreKept
    compiled = record {
      no_fuzzy = alike true false false (λ e. clear (is_live e) (has_translation e) e.fuzzy (is_header e));
      no_obsolete = alike false true false (λ e. lived (is_live e) (has_translation e) e.fuzzy (is_header e));
      translated = alike false false true (λ e. has (is_live e) (has_translation e) e.fuzzy (is_header e));
    }

-- What msgcat wrote is written again by msgcat, and compiled as the text that it was written of.

abbrev pub OneReading : Type 0
OneReading = (text : List ℕ) (entries others : List TextEntry) → ReadsText text entries → ReadsText text others
    → entries ≡ others

abbrev EntriesCanStand : Type 0
EntriesCanStand = (text : List ℕ) (entries : List TextEntry) → ReadsText text entries → All IsCatalogueEntry entries

abbrev pub WrittenReads : Type 0
WrittenReads =
    (entries : List TextEntry) → All IsCatalogueEntry entries → IsSmall (written_text entries)
    → (read : List TextEntry) × ReadsText (written_text entries) read
    × (map (with_line 0) read ≡ map (with_line 0) (arranged entries))

abbrev WrittenAgain : Type 0
WrittenAgain =
    (entries read : List TextEntry) → map (with_line 0) read ≡ map (with_line 0) (arranged entries)
    → written_text read ≡ written_text entries

abbrev Differ : TextEntry → TextEntry → Type 0
Differ a b = ¬ IsSameMessage a b

-- entries of which one is live and one obsolete are two
differ_apart : (entries : List TextEntry) → AllDiffer entries → (a b : TextEntry) → Contains entries a
    → Contains entries b → a.obsolete ≢ b.obsolete → Differ a b
differ_apart entries differ a b in_a in_b other same =
    ⊎_elim (λ is. other (ap (λ (e : TextEntry). e.obsolete) is))
    (λ either. ⊎_elim (λ apart. apart same) (λ apart. apart (sym same.0, sym same.1)) either)
    (same_or_apart Differ entries differ a b in_a in_b)

pairs_append : (xs ys : List TextEntry) → AllDiffer xs → AllDiffer ys → All (λ x. All (Differ x) ys) xs
    → AllDiffer (xs ++ ys)
pairs_append [] ys differ others cross = others
pairs_append (x ∷ xs) ys differ others cross =
    let head : All (Differ x) xs = λ k d below. differ zero (suc k) d (omega arith) (omega (arith, below)) in
    let tail : AllDiffer xs = λ i j d lt within. differ (suc i) (suc j) d (omega (arith, lt)) (omega (arith, within)) in
    AllPairs-cons Differ x (xs ++ ys)
    (All-append (Differ x) xs ys head (All-head (λ e. All (Differ e) ys) x xs cross))
    (pairs_append xs ys tail others (All-tail (λ e. All (Differ e) ys) x xs cross))

-- arranged entries differ as they did
arranged_differ : (entries : List TextEntry) → AllDiffer entries → AllDiffer (arranged entries)
arranged_differ entries differ =
    let live : TextEntry → Bool = λ e. not e.obsolete in
    let gone : TextEntry → Bool = λ e. e.obsolete in
    let lives = filter live entries in
    let all_gone = filter gone entries in
    let among_live = All-filter live (Contains entries) entries (All-contains_itself entries) in
    let among_gone = All-filter gone (Contains entries) entries (All-contains_itself entries) in
    pairs_append lives all_gone (AllPairs-filter Differ live entries differ)
    (AllPairs-filter Differ gone entries differ)
    (λ k d inside l e within.
    let a = get_or lives k d in
    let b = get_or all_gone l e in
    differ_apart entries differ a b (among_live k d inside) (among_gone l e within)
    (λ same. false≢true (sym (not-true a.obsolete (filter_passes live entries k d inside)) ∙ same
    ∙ filter_passes gone entries l e within)))

-- and so do entries that are read from what is written of them
read_differ : (entries read : List TextEntry) → map (with_line 0) read ≡ map (with_line 0) (arranged entries)
    → AllDiffer entries → AllDiffer read
read_differ entries read lines differ =
    pairs_of_map Differ (with_line 0) read
    (subst AllDiffer (sym lines) (pairs_map Differ (with_line 0) (arranged entries) (arranged_differ entries differ)))

valid_inputs : EntriesCanStand → (files : List NamedFile) (inputs : List Named) → AreReadAs files inputs
    → All (λ file. IsText file.name) files → All IsInput inputs
valid_inputs stand [] [] read names = All-nil IsInput
valid_inputs stand [] (input ∷ inputs) read names = absurd read
valid_inputs stand (file ∷ files) [] read names = absurd read
valid_inputs stand (file ∷ files) (input ∷ inputs) read names =
    let name = All-head (λ (f : NamedFile). IsText f.name) file files names in
    All-cons IsInput input inputs (record {
      name = subst IsText (sym read.0.name) name;
      entries = stand file.bytes input.entries read.0.reads.reads;
    }) (valid_inputs stand files inputs read.1 (All-tail (λ (f : NamedFile). IsText f.name) file files names))

done : (files : List NamedFile) (o : MergeOptions) (run : RunView) → IsMsgcatRun files o run → run.status ≡ 0
    → IsMerged files o run
done files o run (inl unread) ok =
    let one : 1 ≡ 0 = sym (ap (λ (r : RunView). r.status) unread.run_is) ∙ ok in absurd (omega (arith, one))
done files o run (inr (inl foreign)) ok =
    let one : 1 ≡ 0 = sym (ap (λ (r : RunView). r.status) foreign.run_is) ∙ ok in absurd (omega (arith, one))
done files o run (inr (inr merged_is)) ok = merged_is

module _ (use_fuzzy : Bool) (entries : List TextEntry) where
  -- the messages of the compiled ones of entries without their lines
  messages_unnumbered : map message_of (compiled_list use_fuzzy (map (with_line 0) entries))
      ≡ map message_of (compiled_list use_fuzzy entries)
  messages_unnumbered = ap (map message_of) (filter_map (is_compiled use_fuzzy) (with_line 0) entries)
      ∙ map-map message_of (with_line 0) (compiled_list use_fuzzy entries)

  -- an obsolete entry isn't compiled
  compiled_arranged : compiled_list use_fuzzy (arranged entries) ≡ compiled_list use_fuzzy entries
  compiled_arranged =
      let live : TextEntry → Bool = λ e. not e.obsolete in
      let gone : TextEntry → Bool = λ e. e.obsolete in
      let wanted : TextEntry → Bool =
      λ e. has_translation e && (use_fuzzy || not e.fuzzy || is_header e) in
      filter-append (is_compiled use_fuzzy) (filter live entries) (filter gone entries)
      ∙ ap₂ (λ (a b : List TextEntry). a ++ b)
      (filter_within live (is_compiled use_fuzzy) (λ e is. ap (λ b. b && wanted e) is) entries)
      (none_pass (is_compiled use_fuzzy) (filter gone entries)
      (All-weaker (λ e. e.obsolete ≡ true) (λ e. is_compiled use_fuzzy e ≡ false)
      (λ e is. ap (λ b. not b && wanted e) is) (filter gone entries) (filter_passes gone entries)))
      ∙ append-nil (compiled_list use_fuzzy entries)

module _ (one_input : (use_first : Bool) (input : Named) → OneInputStays use_first input) (written_reads : WrittenReads)
    (one_reading : OneReading) where
  module _ (can_stand : (o : MergeOptions) (inputs : List Named) → MergedCanStand o inputs)
      (once : (o : MergeOptions) (inputs : List Named) → MessagesStandOnce o inputs) (written_again : WrittenAgain)
      (stand : EntriesCanStand) where
    -- a run over the text of these entries, which reads as others
    again_is : (entries read : List TextEntry) (use_first : Bool) (file : NamedFile) (again : RunView)
        → file.bytes ≡ written_text entries → ReadsText (written_text entries) read
        → map (with_line 0) read ≡ map (with_line 0) (arranged entries) → AllDiffer read
        → IsMsgcatRun (file ∷ []) (keep_all use_first) again
        → (again.output ≡ written_text entries) × (again.status ≡ 0)
    again_is entries read use_first file again bytes reads lines differ is =
        let input : Named = record { name = file.name; entries = read } in
        let stays : merged (keep_all use_first) (input ∷ []) ≡ read = one_input use_first input differ in
        let distinct : ReadsDistinct file.bytes read = record {
          reads = subst (λ b. ReadsText b read) (sym bytes) reads;
          distinct = AllPairs-filter Differ is_live read differ;
        } in
        let admitted = All-weaker IsCatalogueEntry HasAdmittedCharset (λ e v. v.charset) read
        (stand (written_text entries) read reads) in
        let one = msgcat_once (file ∷ []) (keep_all use_first) again
        (output_run (written_text (merged (keep_all use_first) (input ∷ [])))) is (inr (inr (record {
          inputs = input ∷ [];
          read = (record { name = refl; reads = distinct }, tt);
          admitted = subst (All HasAdmittedCharset) (sym stays) admitted;
          run_is = refl;
        }))) in (
          ap (λ (r : RunView). r.output) one ∙ ap written_text stays ∙ written_again entries read lines,
          ap (λ (r : RunView). r.status) one,
        )

    pub msgcat_again : MsgcatAgain
    msgcat_again files o use_first name first again names is ok small is_again =
        let d = done files o first is ok in
        let entries = merged o d.inputs in
        let output : first.output ≡ written_text entries = ap (λ (r : RunView). r.output) d.run_is in
        let valid = can_stand o d.inputs (valid_inputs stand files d.inputs d.read names) d.admitted in
        let written = written_reads entries valid (subst IsSmall output small) in
        let differ = read_differ entries written.0 written.2 (once o d.inputs) in
        let found = again_is entries written.0 use_first (record { name = name; bytes = first.output }) again output
        written.1 written.2 differ is_again in
        (found.0 ∙ sym output, found.1)

  -- what is read of a text that was written of entries compiles as they do
  pub read_alike : (use_fuzzy : Bool) (entries read : List TextEntry) → All IsCatalogueEntry entries
      → IsSmall (written_text entries) → ReadsText (written_text entries) read
      → map message_of (compiled_list use_fuzzy read) ≡ map message_of (compiled_list use_fuzzy entries)
  read_alike use_fuzzy entries read valid small reads =
      let written = written_reads entries valid small in
      let same = one_reading (written_text entries) read written.0 reads written.1 in
      sym (messages_unnumbered use_fuzzy read)
      ∙ ap (λ (l : List TextEntry). map message_of (compiled_list use_fuzzy l))
      (ap (map (with_line 0)) same ∙ written.2)
      ∙ messages_unnumbered use_fuzzy (arranged entries)
      ∙ ap (map message_of) (compiled_arranged use_fuzzy entries)

  pub compiles_alike : MsgcatCompilesAlike
  compiles_alike input use_first use_fuzzy read valid differ small reads =
      let stays = one_input use_first input differ in
      read_alike use_fuzzy input.entries read valid (subst (λ l. IsSmall (written_text l)) stays small)
      (subst (λ l. ReadsText (written_text l) read) stays reads)

-- Texts among whose entries no message stands twice: what msgcat writes of them compiles as all of them.

abbrev unnamed : List Named → List TextEntry
unnamed inputs = map (λ d. d.entry) (all_entries inputs)

abbrev lists : List Named → List (List TextEntry)
lists inputs = map (λ input. input.entries) inputs

abbrev IsNoHeader : TextEntry → Type 0
IsNoHeader e = is_live_header e ≡ false

both_true : (a b : Bool) → (a && b) ≡ true → a ≡ true
both_true true b h = refl
both_true false b h = h

in_front : (xs ys : List TextEntry) → All IsNoHeader (xs ++ ys) → All IsNoHeader xs
in_front [] ys h = All-nil IsNoHeader
in_front (x ∷ xs) ys h =
    All-cons IsNoHeader x xs (All-head IsNoHeader x (xs ++ ys) h)
    (in_front xs ys (All-tail IsNoHeader x (xs ++ ys) h))

behind : (P : TextEntry → Type 0) (xs ys : List TextEntry) → All P (xs ++ ys) → All P ys
behind P [] ys h = h
behind P (x ∷ xs) ys h = behind P xs ys (All-tail P x (xs ++ ys) h)

differ_behind : (xs ys : List TextEntry) → AllDiffer (xs ++ ys) → AllDiffer ys
differ_behind [] ys h = h
differ_behind (x ∷ xs) ys h = differ_behind xs ys (differ_tail x (xs ++ ys) h)

-- an entry of another message than a header's is none
no_header : (a b : TextEntry) → is_live_header a ≡ true → ¬ IsSameMessage a b → IsNoHeader b
no_header a b is differ = false_from_ne_true (is_live_header b) (λ also.
    let one = (header_decided a).0 (both_true (is_header a) (is_live a) is) in
    let other = (header_decided b).0 (both_true (is_header b) (is_live b) also) in
    differ (one.no_context ∙ sym other.no_context, one.empty_id ∙ sym other.empty_id))

after_header : (xs ys : List TextEntry) → AllDiffer (xs ++ ys) → list_any is_live_header xs ≡ true
    → All IsNoHeader ys
after_header [] ys h some = absurd (false≢true some)
after_header (x ∷ xs) ys h some =
    by (is_live_header x) refl some (λ later. after_header xs ys (differ_tail x (xs ++ ys) h) later) where
      by : (b : Bool) → is_live_header x ≡ b → (b || list_any is_live_header xs) ≡ true
          → (list_any is_live_header xs ≡ true → All IsNoHeader ys) → All IsNoHeader ys
      by true is some rest =
          All-weaker (λ y. ¬ IsSameMessage x y) IsNoHeader (λ y differ. no_header x y is differ) ys
          (behind (λ y. ¬ IsSameMessage x y) xs ys (differ_head x (xs ++ ys) h))
      by false is some rest = rest some

first_unnamed : (name : List ℕ) (entries : List TextEntry) (rest : List NamedEntry)
    → map (λ d. d.entry) (map (named name) entries ++ rest) ≡ entries ++ map (λ d. d.entry) rest
first_unnamed name [] rest = refl
first_unnamed name (e ∷ es) rest = ap (λ l. e ∷ l) (first_unnamed name es rest)

first_joined : (input : ℕ) (entries : List TextEntry) (rest : List InputEntry)
    → entries_of (map (in_input input) entries ++ rest) ≡ entries ++ entries_of rest
first_joined input [] rest = refl
first_joined input (e ∷ es) rest = ap (λ l. e ∷ l) (first_joined input es rest)

-- nothing is omitted where no header is left
joined_behind : (input : ℕ) (inputs : List Named) → All IsNoHeader (unnamed inputs)
    → entries_of (joined_from input true (lists inputs)) ≡ unnamed inputs
joined_behind input [] h = refl
joined_behind input (one ∷ inputs) h =
    let first = first_unnamed one.name one.entries (all_entries inputs) in
    let none = subst (All IsNoHeader) first h in
    let kept = all_pass (λ e. not (is_live_header e)) one.entries
    (All-weaker IsNoHeader (λ e. not (is_live_header e) ≡ true) (λ e is. ap not is) one.entries
    (in_front one.entries (unnamed inputs) none)) in
    first_joined input _ (joined_from (input + 1) true (lists inputs))
    ∙ ap₂ (λ (a b : List TextEntry). a ++ b) kept
    (joined_behind (input + 1) inputs (behind IsNoHeader one.entries (unnamed inputs) none))
    ∙ sym first

-- nor where no message stands twice
joined_all : (input : ℕ) (inputs : List Named) → AllDiffer (unnamed inputs)
    → entries_of (joined_from input false (lists inputs)) ≡ unnamed inputs
joined_all input [] h = refl
joined_all input (one ∷ inputs) h =
    by (list_any is_live_header one.entries) refl
    (joined_all (input + 1) inputs (differ_behind one.entries (unnamed inputs)
    (subst AllDiffer (first_unnamed one.name one.entries (all_entries inputs)) h))) where
      first : unnamed (one ∷ inputs) ≡ one.entries ++ unnamed inputs
      first = first_unnamed one.name one.entries (all_entries inputs)

      by : (b : Bool) → list_any is_live_header one.entries ≡ b
          → entries_of (joined_from (input + 1) false (lists inputs)) ≡ unnamed inputs
          → entries_of (map (in_input input) one.entries ++ joined_from (input + 1) b (lists inputs))
          ≡ unnamed (one ∷ inputs)
      by true has rest =
          first_joined input one.entries (joined_from (input + 1) true (lists inputs))
          ∙ ap (λ (l : List TextEntry). one.entries ++ l)
          (joined_behind (input + 1) inputs
          (after_header one.entries (unnamed inputs) (subst AllDiffer first h) has))
          ∙ sym first
      by false has rest =
          first_joined input one.entries (joined_from (input + 1) false (lists inputs))
          ∙ ap (λ (l : List TextEntry). one.entries ++ l) rest ∙ sym first

pub several_alike : ((use_first : Bool) (inputs : List Named) → DistinctInputsStay use_first inputs)
    → ((use_first : Bool) (input : Named) → OneInputStays use_first input) → WrittenReads → OneReading
    → MsgcatOfSeveral
several_alike distinct one_input written_reads one_reading inputs use_first use_fuzzy read valid differ small reads =
    let stays = distinct use_first inputs differ in
    read_alike one_input written_reads one_reading use_fuzzy (unnamed inputs) read valid
    (subst (λ l. IsSmall (written_text l)) stays small)
    (subst (λ l. ReadsText (written_text l) read) stays reads)
    ∙ ap (λ (l : List TextEntry). map message_of (compiled_list use_fuzzy l)) (sym (joined_all 0 inputs differ))
