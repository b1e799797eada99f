-- What is selected and changed of the entries of a text.
use Rattle.msgattrib.proofs.Prelude.{AddsParts, AllDiffer, AllPairs, AreSelected, Bool, HasNoDuplicate, HaveNoDuplicate, IsChangedAt, IsDuplicateFaultOf, IsMsgattribRun, IsSameMessage, IsSelectionFault, List, ReadsText, Selection, TextEntry, [], ap, append_assoc, ap₂, arith, changed, changed_at, entry_message, error_line, false, filter, filter-append, filter_agree, get_or, get_or_append_left, get_or_push, hashes_of, inl, inr, is_kept, is_live, length, length_push, map, map-append, may_repeat, message_hash, refl, selected, set_fuzzy, set_obsolete, stays_live, subst, suc, sym, take, take_more, true, zero, ℕ, ◌&&◌, ◌++◌, ◌+◌, ◌<◌, ◌||◌, ◌∙◌, ◌∷◌, ◌≡◌, ◌≢◌}
use Rattle.std.proofs.lemmas.List.Kept.{AllPairs-filter}
use Rattle.po_syntax.specs.declared.fault.PoError.{PoError}
use Rattle.po_syntax.specs.declared.fault.PoFault.TheVariants.{OutOfMemory}
use Rattle.po_entry.specs.Facts.FirstRepeats.{pairs_map, pairs_of_map}
use Rattle.po_syntax.specs.Facts.Mapped.{filter_map, filter_twice}
use Rattle.po_reader.proofs.OneOutcome.{text_once}
use Rattle.po_writer.specs.Prelude.{AreParts}
use Rattle.po_writer.specs.declared.parts.TextParts.{TextParts}
use Rattle.runs.specs.Prelude.{refusal, run_view}
use Rattle.runs.specs.declared.run.Run.{Run}

abbrev hash_of : TextEntry → ℕ
hash_of entry = message_hash (entry_message entry)

first_of_either : (a b : Bool) → (a || b) && a ≡ a
first_of_either true b = refl
first_of_either false true = refl
first_of_either false false = refl

second_of_either : (a b : Bool) → (a || b) && b ≡ b
second_of_either true b = refl
second_of_either false true = refl
second_of_either false false = refl

-- entries are selected one by one
pub selected_joined : (s : Selection) (before entries : List TextEntry)
    → selected s before ++ selected s entries ≡ selected s (before ++ entries)
selected_joined s before entries =
    sym (ap (map (changed s)) (filter-append (is_kept s) before entries)
    ∙ map-append (changed s) (filter (is_kept s) before) (filter (is_kept s) entries))

-- the selected entries that are live
live_selected : (s : Selection) (entries : List TextEntry)
    → filter is_live (selected s entries) ≡ map (changed s) (filter (stays_live s) entries)
live_selected s entries = filter_map is_live (changed s) (filter (is_kept s) entries)
    ∙ ap (map (changed s)) (filter_twice (is_kept s) (λ e. is_live (changed s e)) entries)

-- the hashes of further entries
pub hashes_joined : (s : Selection) (before entries : List TextEntry)
    → hashes_of s before ++ hashes_of s entries ≡ hashes_of s (before ++ entries)
hashes_joined s before entries =
    sym (ap (map hash_of) (filter-append (may_repeat s) before entries)
    ∙ map-append hash_of (filter (may_repeat s) before) (filter (may_repeat s) entries))

-- the entries up to the next one
next_taken : (entries : List TextEntry) (i : ℕ) (entry : TextEntry) → i < length entries
    → entry ≡ get_or entries i entry → take i entries ++ entry ∷ [] ≡ take (i + 1) entries
next_taken entries i entry inside is =
    ap (λ (e : TextEntry). take i entries ++ e ∷ []) is ∙ sym (take_more entries i entry inside)

-- the selected ones of the entries up to the next one
pub selected_goes_on : (s : Selection) (entries : List TextEntry) (i : ℕ) (entry : TextEntry) → i < length entries
    → entry ≡ get_or entries i entry
    → selected s (take i entries) ++ selected s (entry ∷ []) ≡ selected s (take (i + 1) entries)
selected_goes_on s entries i entry inside is =
    selected_joined s (take i entries) (entry ∷ []) ∙ ap (selected s) (next_taken entries i entry inside is)

-- an entry that isn't kept isn't selected
pub one_left_out : (s : Selection) (entry : TextEntry) → is_kept s entry ≡ false → selected s (entry ∷ []) ≡ []
one_left_out s entry left = rw left refl

pub one_kept : (s : Selection) (entry : TextEntry) → is_kept s entry ≡ true
    → selected s (entry ∷ []) ≡ changed s entry ∷ []
one_kept s entry kept = rw kept refl

-- the next entry is added where it is selected
pub parts_go_on : (s : Selection) (entries : List TextEntry) (i : ℕ) (entry : TextEntry) (old now new : TextParts)
    → i < length entries → entry ≡ get_or entries i entry → AddsParts (selected s (take i entries)) old now
    → AddsParts (selected s (entry ∷ [])) now new → AddsParts (selected s (take (i + 1) entries)) old new
parts_go_on s entries i entry old now new inside is so_far more before parts =
    subst (λ list. AreParts list new)
    (append_assoc before (selected s (take i entries)) (selected s (entry ∷ []))
    ∙ ap (λ (list : List TextEntry). before ++ list) (selected_goes_on s entries i entry inside is))
    (more (before ++ selected s (take i entries)) (so_far before parts))

-- and so is its hash
pub hashes_go_on : (s : Selection) (entries : List TextEntry) (i : ℕ) (entry : TextEntry) (before : List ℕ)
    → i < length entries → entry ≡ get_or entries i entry
    → (before ++ hashes_of s (take i entries)) ++ hashes_of s (entry ∷ [])
    ≡ before ++ hashes_of s (take (i + 1) entries)
hashes_go_on s entries i entry before inside is =
    append_assoc before (hashes_of s (take i entries)) (hashes_of s (entry ∷ []))
    ∙ ap (λ (list : List ℕ). before ++ list)
    (hashes_joined s (take i entries) (entry ∷ []) ∙ ap (hashes_of s) (next_taken entries i entry inside is))

-- the entries of a piece are selected after those before it
pub piece_selected : (s : Selection) (before entries read : List TextEntry) (old new : TextParts) (had have : List ℕ)
    → read ≡ entries → AreSelected s before old had → AddsParts (selected s read) old new
    → have ≡ had ++ hashes_of s read → AreSelected s (before ++ entries) new have
piece_selected s before entries read old new had have is so_far parts hashes = record {
  parts_are = subst (λ list. AreParts list new)
      (ap (λ list. selected s before ++ selected s list) is ∙ selected_joined s before entries)
      (parts (selected s before) so_far.parts_are);
  hashes_are = hashes
      ∙ ap₂ (λ (list : List ℕ) entries. list ++ hashes_of s entries) so_far.hashes_are is
      ∙ hashes_joined s before entries;
}

-- those that are live, one way or another, are among those that may repeat
among_live : (s : Selection) (entries : List TextEntry)
    → filter is_live (filter (may_repeat s) entries) ≡ filter is_live entries
among_live s entries = filter_twice (may_repeat s) is_live entries
    ∙ filter_agree (λ e. may_repeat s e && is_live e) is_live
    (λ e. first_of_either (is_live e) (stays_live s e)) entries

among_staying : (s : Selection) (entries : List TextEntry)
    → filter (stays_live s) (filter (may_repeat s) entries) ≡ filter (stays_live s) entries
among_staying s entries = filter_twice (may_repeat s) (stays_live s) entries
    ∙ filter_agree (λ e. may_repeat s e && stays_live s e) (stays_live s)
    (λ e. second_of_either (is_live e) (stays_live s e)) entries

-- none stands twice among those that are selected
selected_differ : (s : Selection) (entries : List TextEntry) → AllDiffer (filter (stays_live s) entries)
    → HasNoDuplicate (selected s entries)
selected_differ s entries differ =
    subst AllDiffer (sym (live_selected s entries))
    (pairs_map (λ a b. ¬ IsSameMessage a b) (changed s) (filter (stays_live s) entries) differ)

-- where hashes differ, so do messages
pub no_duplicate : (s : Selection) (entries : List TextEntry) → AllPairs (λ a b. a ≢ b) (hashes_of s entries)
    → HaveNoDuplicate s entries
no_duplicate s entries differ =
    let may = filter (may_repeat s) entries in
    let apart : AllDiffer may =
    λ i j d below inside same. pairs_of_map (λ a b. a ≢ b) hash_of may differ i j d below inside
    (ap₂ (λ context id. message_hash (record { context = context; id = id })) same.0 same.1) in
    let among : (p : TextEntry → Bool) → AllDiffer (filter p may) =
    λ p. AllPairs-filter (λ a b. ¬ IsSameMessage a b) p may apart in
    record {
      read = subst AllDiffer (among_live s entries) (among is_live);
      kept = selected_differ s entries (subst AllDiffer (among_staying s entries) (among (stays_live s)));
    }

-- what a text is read as in an empty store
pub read_whole : (text : List ℕ) (before store : List TextEntry) → before ≡ []
    → (entries : List TextEntry) × ReadsText text entries × (store ≡ before ++ entries) → ReadsText text store
read_whole text before store none found =
    subst (ReadsText text) (sym (found.2 ∙ ap (λ l. l ++ found.0) none)) found.1

-- the text that is read once more reads the same
pub still_distinct : (s : Selection) (text : List ℕ) (entries : List TextEntry) → ReadsText text entries
    → HaveNoDuplicate s entries → (others : List TextEntry) → ReadsText text others → HaveNoDuplicate s others
still_distinct s text entries reads distinct others read =
    subst (HaveNoDuplicate s) (text_once text entries others reads read) distinct

-- the duplicate of a text's entries
pub repeating : (s : Selection) (text : List ℕ) (entries : List TextEntry) (error : PoError) → ReadsText text entries
    → IsDuplicateFaultOf entries error → IsSelectionFault s text error
repeating s text entries error reads (inl memory) = inl (ap (λ (e : PoError). e.kind) memory)
repeating s text entries error reads (inr (first, later, duplicate, error_is)) =
    inr (inl (inr (record {
      entries = entries;
      reads = reads;
      first = first;
      later = later;
      duplicate = duplicate;
      error_is = error_is;
    })))

-- the duplicate of those that are selected
pub repeating_selected : (s : Selection) (text : List ℕ) (entries : List TextEntry) (error : PoError)
    → ReadsText text entries → HasNoDuplicate entries → IsDuplicateFaultOf (selected s entries) error
    → IsSelectionFault s text (record { kind = error.kind; line = 0 })
repeating_selected s text entries error reads distinct (inl memory) = inl (ap (λ (e : PoError). e.kind) memory)
repeating_selected s text entries error reads distinct (inr (first, later, duplicate, error_is)) =
    inr (inr (record {
      entries = entries;
      reads = reads;
      repeats = record {
        distinct = distinct;
        first = first;
        later = later;
        duplicate = duplicate;
        error_is = ap (λ (e : PoError). record { kind = e.kind; line = 0 }) error_is;
      };
    }))

-- the run that reports a fault
pub run_refused : (name text : List ℕ) (s : Selection) (error : PoError) (run : Run) → IsSelectionFault s text error
    → (error.kind ≢ OutOfMemory) × (run_view run ≡ refusal (error_line name error))
    → IsMsgattribRun name s text (run_view run)
run_refused name text s error run (inl memory) reported = absurd (reported.0 memory)
run_refused name text s error run (inr (inl fault)) reported =
    inl (record { error = error; fault = fault; not_memory = reported.0; run_is = reported.1 })
run_refused name text s error run (inr (inr of)) reported =
    inr (inl (record {
      entries = of.entries;
      read = record { reads = of.reads; distinct = of.repeats.distinct };
      first = of.repeats.first;
      later = of.repeats.later;
      duplicate = of.repeats.duplicate;
      run_is = reported.1 ∙ ap (λ (e : PoError). refusal (error_line name e)) of.repeats.error_is;
    }))

pub same_length : (f : TextEntry → TextEntry) (index : ℕ) (entries : List TextEntry)
    → length (changed_at f index entries) ≡ length entries
same_length f index [] = refl
same_length f zero (entry ∷ entries) = refl
same_length f (suc index) (entry ∷ entries) = ap suc (same_length f index entries)

changed_there : (f : TextEntry → TextEntry) (index : ℕ) (entries : List TextEntry) (other : TextEntry)
    → index < length entries → get_or (changed_at f index entries) index other ≡ f (get_or entries index other)
changed_there f index [] other inside = absurd (omega arith)
changed_there f zero (entry ∷ entries) other inside = refl
changed_there f (suc index) (entry ∷ entries) other inside = changed_there f index entries other (omega arith)

same_elsewhere : (f : TextEntry → TextEntry) (index : ℕ) (entries : List TextEntry) (i : ℕ) (other : TextEntry)
    → i ≢ index → get_or (changed_at f index entries) i other ≡ get_or entries i other
same_elsewhere f index [] i other apart = refl
same_elsewhere f zero (entry ∷ entries) zero other apart = absurd (apart refl)
same_elsewhere f zero (entry ∷ entries) (suc i) other apart = refl
same_elsewhere f (suc index) (entry ∷ entries) zero other apart = refl
same_elsewhere f (suc index) (entry ∷ entries) (suc i) other apart =
    same_elsewhere f index entries i other (λ same. apart (ap suc same))

-- an entry of which the marks alone change is changed where it is
pub changed_in_place : (s : Selection) (index : ℕ) (old : List TextEntry) (fuzzy obsolete : Bool) → index < length old
    → ((other : TextEntry) → changed s (get_or old index other)
    ≡ set_obsolete obsolete (set_fuzzy fuzzy (get_or old index other)))
    → IsChangedAt s index old (changed_at (set_obsolete obsolete) index (changed_at (set_fuzzy fuzzy) index old)) index
changed_in_place s index old fuzzy obsolete inside marks =
    let flagged = changed_at (set_fuzzy fuzzy) index old in
    let first : length flagged ≡ length old = same_length (set_fuzzy fuzzy) index old in
    let both : length (changed_at (set_obsolete obsolete) index flagged) ≡ length old =
    same_length (set_obsolete obsolete) index flagged ∙ first in
    record {
      place = inl (refl, both);
      inside = omega arith;
      entry = λ other. changed_there (set_obsolete obsolete) index flagged other (omega arith)
          ∙ ap (set_obsolete obsolete) (changed_there (set_fuzzy fuzzy) index old other inside) ∙ sym (marks other);
      rest = record {
        others = λ i other below apart. same_elsewhere (set_obsolete obsolete) index flagged i other apart
            ∙ same_elsewhere (set_fuzzy fuzzy) index old i other apart;
        longer = omega arith;
      };
    }

-- a changed copy of an entry stands behind all of them
pub changed_in_copy : (s : Selection) (index : ℕ) (old new : List TextEntry) (at : ℕ) (entry : TextEntry)
    → at ≡ length old → ((other : TextEntry) → new ≡ old ++ changed s (get_or old index other) ∷ [])
    → IsChangedAt s index old new at
changed_in_copy s index old new at entry last added =
    let longer : length new ≡ length old + 1 =
    ap length (added entry) ∙ length_push old (changed s (get_or old index entry)) in
    record {
      place = inr (last, longer);
      inside = omega arith;
      entry = λ other. ap (λ (entries : List TextEntry). get_or entries at other) (added other)
          ∙ get_or_push old (changed s (get_or old index other)) other at (sym last);
      rest = record {
        others = λ i other below apart. ap (λ (entries : List TextEntry). get_or entries i other) (added other)
            ∙ get_or_append_left old (changed s (get_or old index other) ∷ []) other i below;
        longer = omega arith;
      };
    }
