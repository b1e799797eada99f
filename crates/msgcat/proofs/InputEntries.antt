-- The entries of inputs that are read one after the other, and the first duplicate in one of them.
use Rattle.msgcat.proofs.Prelude.{All, All-append, All-head, All-left, All-map, All-nil, All-push, All-right, All-tail, All-weaker, AllDiffer, AllZip, AreNumbered, AreReadAs, AreReadInputs, AreReadUpTo, CanBeMerged, Duplicate, EntryPlace, FileFault, HasNoDuplicate, IsCatalogueEntry, IsDefinition, IsFaultOfFirst, IsFileFault, IsFirstRepeating, IsNumbered, IsReadInput, IsTextOf, IsUtf8, Lacks, List, Named, NamedEntry, NamedFile, ReadInput, ReadInputs, ReadsText, RepeatsOnLines, StandInTurn, TextEntry, [], all_entries, ap, append-nil, append_assoc, ap₂, are_placed, arith, cases_order, drop, drop-append_seam, drop-map, entries_at, entry_messages, fill_by_all, filter, first_entry, flat_map-append, get_or, get_or-append, get_or-append_seam, get_or-map, group_numbers, inl, inr, is_live, length, length-append, length-map, map, map-append, name_of, named, named_entries, named_entry, no_entry, no_further, no_input, number_in, place_of, range_with_len, refl, subst, sym, take, take-append-drop, take-append-le, take-append_seam, take-map, take_all, take_more, unnamed, with_part, zip_at, zip_get, zip_length, zip_more, zip_split, ℕ, ◌++◌, ◌+◌, ◌-◌, ◌<◌, ◌∙◌, ◌∷◌, ◌≡◌, ◌≤◌}
use Rattle.std.proofs.lemmas.List.Concat.{get_or-flat_map}
use Rattle.msgcat.specs.Laws.{no_input as no_input_left}
use Rattle.msgcat.specs.declared.definition.NamedEntry.{NamedEntry as BorrowedEntry}
use Rattle.po_entry.specs.Prelude.{same_message}
use Rattle.po_entry.proofs.MessageNumbers.{are_numbered, repeats_of}

pub definitions_more : (before : List NamedEntry) (name : List ℕ) (entries : List TextEntry) → All IsDefinition before
    → IsUtf8 name → Lacks 0 name → All IsCatalogueEntry entries
    → All IsDefinition (before ++ map (named name) entries)
definitions_more before name entries h utf8 no_nul valid =
    All-append IsDefinition before (map (named name) entries) h
    (All-map IsDefinition (named name) entries
    (All-weaker IsCatalogueEntry (λ e. IsDefinition (named name e))
    (λ e v. record { valid = v.valid; utf8 = utf8; no_nul = no_nul }) entries valid))

entries_in_turn : (name : List ℕ) (entries : List TextEntry) (inputs : List Named)
    → StandInTurn inputs (all_entries inputs)
    → StandInTurn (record { name = name; entries = entries } ∷ inputs) (map (named name) entries ++ all_entries inputs)
entries_in_turn name [] inputs rest = no_further rest
entries_in_turn name (e ∷ entries) inputs rest = first_entry (entries_in_turn name entries inputs rest)

pub stand_in_turn : (inputs : List Named) → StandInTurn inputs (all_entries inputs)
stand_in_turn [] = no_input_left
stand_in_turn (input ∷ inputs) = entries_in_turn input.name input.entries inputs (stand_in_turn inputs)

-- The entries of inputs, one after the other, by their indexes among those of all inputs.

abbrev no_named : Named
no_named = record { name = []; entries = [] }

-- the entry that has an index stands in the input that begins there or before, if the next one begins after it
module _ (read : List Named) (inputs : List ReadInput) (are : AreReadInputs read inputs) (index first : ℕ)
    (below : first < length inputs) (begins : (get_or inputs first no_input).start ≤ index)
    (inside : index < length (all_entries (take (first + 1) read))) where
  abbrev entries_of : Named → List NamedEntry
  entries_of input = map (named input.name) input.entries

  abbrev input : Named
  input = get_or read first no_named

  many : length read ≡ length inputs
  many = zip_length IsReadInput read inputs are.known

  within : first < length read
  within = omega (arith, below, many)

  before : List NamedEntry
  before = all_entries (take first read)

  own_read : all_entries (take (first + 1) read) ≡ all_entries (take first read) ++ entries_of input
  own_read = ap all_entries (take_more read first no_named within)
      ∙ flat_map-append entries_of (take first read) (input ∷ [])
      ∙ ap (λ l. all_entries (take first read) ++ l) (append-nil (entries_of input))

  start : (get_or inputs first no_input).start ≡ length (all_entries (take first read))
  start = are.starts first below

  pub name_found : (get_or inputs first no_input).name.now ≡ name_of read index
  name_found =
      let all = all_entries (take first read) in
      let at = index - length all in
      let own_long : length (entries_of input) ≡ length input.entries = length-map input.entries (named input.name) in
      let here : at < length input.entries =
      omega (arith, inside, begins, start, ap length own_read, length-append all (entries_of input), own_long) in
      let in_own : at < length (entries_of input) = omega (arith, here, own_long) in
      let place : length all + at ≡ index = omega (arith, begins, start) in
      (zip_get IsReadInput read inputs first no_named no_input are.known below).name
      ∙ sym (ap (λ n. name_of read n) (sym place)
      ∙ ap (λ (e : NamedEntry). e.name)
      (get_or-flat_map entries_of read first at no_named no_entry within in_own
      ∙ get_or-map (named input.name) input.entries at no_entry.entry no_entry here))

-- the entry at an index, by its name and its text
pub entry_is : (read : List Named) (entries : List TextEntry) (index : ℕ) (definition : BorrowedEntry)
    → entries ≡ unnamed (all_entries read) → index < length entries → definition.name.now ≡ name_of read index
    → definition.entry ≡ get_or entries index no_entry.entry
    → named_entry definition ≡ get_or (all_entries read) index no_entry
entry_is read entries index definition are inside name entry =
    let all = all_entries read in
    let within : index < length all =
    omega (arith, inside, ap length are, length-map all (λ (e : NamedEntry). e.entry)) in
    ap₂ named name
    (entry ∙ ap (λ l. get_or l index no_entry.entry) are
    ∙ get_or-map (λ (e : NamedEntry). e.entry) all index no_entry no_entry.entry within)

-- one more of the entries with these indexes
pub entry_taken : (entries group : List NamedEntry) (found new : List BorrowedEntry) (definition : BorrowedEntry)
    (indexes rest : List ℕ) (index : ℕ) → named_entries found ++ entries_at entries indexes ≡ group
    → indexes ≡ index ∷ rest → new ≡ found ++ definition ∷ []
    → named_entry definition ≡ get_or entries index no_entry
    → named_entries new ++ entries_at entries rest ≡ group
entry_taken entries group found new definition indexes rest index so_far next pushed is =
    ap (λ l. named_entries l ++ entries_at entries rest) pushed
    ∙ ap (λ l. l ++ entries_at entries rest) (map-append named_entry found (definition ∷ []))
    ∙ append_assoc (named_entries found) (named_entry definition ∷ []) (entries_at entries rest)
    ∙ ap (λ (e : NamedEntry). named_entries found ++ e ∷ entries_at entries rest) is
    ∙ ap (λ l. named_entries found ++ entries_at entries l) (sym next) ∙ so_far

-- all entries by their indexes
pub all_at : (entries : List NamedEntry) (count : ℕ) → length entries ≡ count
    → entries_at entries (range_with_len 0 count) ≡ entries
all_at entries count long =
    sym (fill_by_all (λ k. get_or entries k no_entry) entries count no_entry long (λ k below. refl))

pub unnamed_named : (name : List ℕ) (entries : List TextEntry) → unnamed (map (named name) entries) ≡ entries
unnamed_named name [] = refl
unnamed_named name (e ∷ entries) = ap (λ l. e ∷ l) (unnamed_named name entries)

-- the entries of an input, and those of the inputs after it
pub entries_first : (input : Named) (later : List Named)
    → unnamed (all_entries (input ∷ later)) ≡ input.entries ++ unnamed (all_entries later)
entries_first input later =
    map-append (λ (e : NamedEntry). e.entry) (map (named input.name) input.entries) (all_entries later)
    ∙ ap (λ l. l ++ unnamed (all_entries later)) (unnamed_named input.name input.entries)

-- entries that are read can be merged under the names of their inputs
pub all_can : (read : List Named) (inputs : List ReadInput) → AllZip IsReadInput read inputs
    → All IsCatalogueEntry (unnamed (all_entries read)) → All CanBeMerged (all_entries read)
all_can [] [] known valid = All-nil CanBeMerged
all_can [] (i ∷ inputs) known valid = absurd known
all_can (r ∷ read) [] known valid = absurd known
all_can (r ∷ read) (i ∷ inputs) known valid =
    let both = subst (All IsCatalogueEntry) (entries_first r read) valid in
    let first = All-left IsCatalogueEntry r.entries (unnamed (all_entries read)) both in
    All-append CanBeMerged (map (named r.name) r.entries) (all_entries read)
    (All-map CanBeMerged (named r.name) r.entries
    (λ k d below. record {
      valid = record { valid = (first k d below).valid; utf8 = known.0.utf8; no_nul = known.0.no_nul };
      charset = (first k d below).charset;
    }))
    (all_can read inputs known.1 (All-right IsCatalogueEntry r.entries (unnamed (all_entries read)) both))

-- the entries with one more input
pub entries_more : (inputs : List Named) (name : List ℕ) (entries : List TextEntry)
    → unnamed (all_entries inputs) ++ entries
    ≡ unnamed (all_entries (inputs ++ record { name = name; entries = entries } ∷ []))
entries_more inputs name entries =
    let one : Named = record { name = name; entries = entries } in
    sym (ap unnamed (flat_map-append (λ (n : Named). map (named n.name) n.entries) inputs (one ∷ [])
    ∙ ap (λ l. all_entries inputs ++ l) (append-nil (map (named name) entries)))
    ∙ map-append (λ (e : NamedEntry). e.entry) (all_entries inputs) (map (named name) entries)
    ∙ ap (λ l. unnamed (all_entries inputs) ++ l) (unnamed_named name entries))

-- one more input
pub inputs_more : (read : List Named) (inputs new : List ReadInput) (r : Named) (input : ReadInput)
    → AreReadInputs read inputs → IsReadInput r input → input.start ≡ length (all_entries read)
    → new ≡ inputs ++ input ∷ [] → AreReadInputs (read ++ r ∷ []) new
inputs_more read inputs new r input are one start pushed =
    let many = zip_length IsReadInput read inputs are.known in
    subst (AreReadInputs (read ++ r ∷ [])) (sym pushed) (record {
      known = zip_more IsReadInput read inputs r input are.known one;
      starts = λ i below. elim (cases_order i (length inputs)) [
        | inl last ↦
            ap (λ (e : ReadInput). e.start) (ap (λ n. get_or (inputs ++ input ∷ []) n no_input) last
            ∙ get_or-append_seam inputs input [] no_input)
            ∙ start
            ∙ sym (ap (λ l. length (all_entries l)) (ap (λ n. take n (read ++ r ∷ [])) (last ∙ sym many)
            ∙ take-append_seam read (r ∷ [])))
        | inr (inl less) ↦
            let inside : i ≤ length read = omega (arith, less, many) in
            ap (λ (e : ReadInput). e.start) (get_or-append inputs (input ∷ []) no_input i less)
            ∙ are.starts i less
            ∙ sym (ap (λ l. length (all_entries l)) (take-append-le i read (r ∷ []) inside))
        | inr (inr more) ↦ absurd (omega (arith, more, below, length-append inputs (input ∷ [])))
      ];
    })

-- an entry is that of the first input or a later one
pub begins_first : (read : List Named) (inputs : List ReadInput) (index : ℕ) → AreReadInputs read inputs
    → index < length (all_entries read)
    → (0 < length inputs) × ((get_or inputs 0 no_input).start ≤ index)
    × (index < length (all_entries (take (length inputs) read)))
begins_first read inputs index are inside =
    let some = some_input read inputs are.known inside in (
      some,
      omega (arith, are.starts 0 some),
      subst (λ l. index < length (all_entries l))
          (sym (take_all (length inputs) read (omega (arith, zip_length IsReadInput read inputs are.known)))) inside,
    ) where
      some_input : (rs : List Named) (is : List ReadInput) → AllZip IsReadInput rs is → index < length (all_entries rs)
          → 0 < length is
      some_input [] is known less = absurd (omega (arith, less))
      some_input (r ∷ rs) [] known less = absurd known
      some_input (r ∷ rs) (i ∷ is) known less = omega arith

-- Inputs that are read, and the first duplicate in one of them.

-- the entries of an input, and those after them
with_first : (input : Named) (rest : List Named) (part : List TextEntry)
    → with_part (input ∷ rest) part ≡ input.entries ++ with_part rest part
with_first input rest part =
    ap (λ l. l ++ part) (entries_first input rest) ∙ append_assoc input.entries (unnamed (all_entries rest)) part

-- what is left of the inputs, the first of which have no duplicate
pub record AreLeft (read : List Named) (part : List TextEntry) (i : ℕ) (places : List EntryPlace)
    (numbers : List ℕ) : Type 0 where
  pub distinct : All (λ input. HasNoDuplicate input.entries) (take i read)
  pub placed : places ≡ are_placed is_live (with_part (drop i read) part)
  pub numbered : AreNumbered (with_part read part) (with_part (drop i read) part) numbers

pub all_left : (read : List Named) (part : List TextEntry) (places : List EntryPlace) (numbers : List ℕ)
    → places ≡ are_placed is_live (with_part read part)
    → numbers ≡ group_numbers same_message (entry_messages (with_part read part))
    → AreLeft read part 0 places numbers
all_left read part places numbers placed is = record {
  distinct = All-nil (λ input. HasNoDuplicate input.entries);
  placed = placed;
  numbered = are_numbered (with_part read part) numbers is;
}

-- the numbers of the first of some entries, and of the others
module _ (all own others : List TextEntry) (numbers : List ℕ) (are : AreNumbered all (own ++ others) numbers) where
  numbered_first : AreNumbered all own (take (length own) numbers)
  numbered_first = record {
    among = All-left (IsNumbered all) own others are.among;
    numbers_are = ap (take (length own)) are.numbers_are ∙ take-map (number_in all) (length own) (own ++ others)
        ∙ ap (map (number_in all)) (take-append_seam own others);
  }

  numbered_rest : AreNumbered all others (drop (length own) numbers)
  numbered_rest = record {
    among = All-right (IsNumbered all) own others are.among;
    numbers_are = ap (drop (length own)) are.numbers_are ∙ drop-map (number_in all) (length own) (own ++ others)
        ∙ ap (map (number_in all)) (drop-append_seam own others);
  }

pub none_left : (read : List Named) (part : List TextEntry) (inputs : List ReadInput) (i : ℕ)
    (places : List EntryPlace) (numbers : List ℕ)
    → AllZip IsReadInput read inputs → length inputs ≤ i → AreLeft read part i places numbers
    → All (λ input. HasNoDuplicate input.entries) read
none_left read part inputs i places numbers known past left =
    subst (All (λ input. HasNoDuplicate input.entries))
    (take_all i read (omega (arith, past, zip_length IsReadInput read inputs known))) left.distinct

module _ (read : List Named) (part : List TextEntry) (inputs : List ReadInput) (i : ℕ) (input : ReadInput)
    (places : List EntryPlace) (numbers : List ℕ) (known : AllZip IsReadInput read inputs) (inside : i < length inputs)
    (here : input ≡ get_or inputs i input) (left : AreLeft read part i places numbers) where
  abbrev all : List TextEntry
  all = with_part read part

  abbrev at : (r : Named) × IsReadInput r input × (take (i + 1) read ≡ take i read ++ r ∷ [])
      × (drop i read ≡ r ∷ drop (i + 1) read)
  at = zip_at IsReadInput read inputs i input known inside here

  abbrev pub own : List TextEntry
  own = at.0.entries

  abbrev others : List TextEntry
  others = with_part (drop (i + 1) read) part

  split : with_part (drop i read) part ≡ own ++ others
  split = ap (λ l. with_part l part) at.3 ∙ with_first at.0 (drop (i + 1) read) part

  placed : places ≡ are_placed is_live own ++ are_placed is_live others
  placed = left.placed ∙ ap (are_placed is_live) split ∙ map-append (place_of is_live) own others

  long : length (are_placed is_live own) ≡ input.count
  long = length-map own (place_of is_live) ∙ sym at.1.count

  pub own_places : take input.count places ≡ are_placed is_live own
  own_places = ap (take input.count) placed
      ∙ ap (λ n. take n (are_placed is_live own ++ are_placed is_live others)) (sym long)
      ∙ take-append_seam (are_placed is_live own) (are_placed is_live others)

  later_places : drop input.count places ≡ are_placed is_live others
  later_places = ap (drop input.count) placed
      ∙ ap (λ n. drop n (are_placed is_live own ++ are_placed is_live others)) (sym long)
      ∙ drop-append_seam (are_placed is_live own) (are_placed is_live others)

  numbered : AreNumbered all (own ++ others) numbers
  numbered = subst (λ l. AreNumbered all l numbers) split left.numbered

  pub own_numbered : AreNumbered all own (take input.count numbers)
  own_numbered = subst (λ n. AreNumbered all own (take n numbers)) (sym at.1.count)
      (numbered_first all own others numbers numbered)

  pub own_count : length (take input.count numbers) ≡ length (take input.count places)
  own_count = ap length own_numbered.numbers_are ∙ length-map own (number_in all)
      ∙ sym (ap length own_places ∙ length-map own (place_of is_live))

  -- an input without a duplicate
  pub left_after : AllDiffer (filter is_live own)
      → AreLeft read part (i + 1) (drop input.count places) (drop input.count numbers)
  left_after differ = record {
    distinct = subst (All (λ input. HasNoDuplicate input.entries)) (sym at.2)
        (All-push (λ input. HasNoDuplicate input.entries) (take i read) at.0 left.distinct differ);
    placed = later_places;
    numbered = subst (λ n. AreNumbered all others (drop n numbers)) (sym at.1.count)
        (numbered_rest all own others numbers numbered);
  }

  -- one with a duplicate
  pub repeating : (lines : ℕ × ℕ) (fault : FileFault) → RepeatsOnLines (filter is_live own) lines
      → fault.name.now ≡ input.name.now → fault.error ≡ record { kind = Duplicate lines.0; line = lines.1 }
      → IsFirstRepeating read fault
  repeating lines fault found name_is error_is = record {
    before = take i read;
    input = at.0;
    after = drop (i + 1) read;
    order = sym (take-append-drop i read) ∙ ap (λ l. take i read ++ l) at.3;
    distinct = left.distinct;
    name = name_is ∙ at.1.name;
    repeats = repeats_of own lines fault.error found error_is;
  }

-- files whose texts have no duplicate
read_as : (files : List NamedFile) (inputs : List Named) → AllZip IsTextOf files inputs
    → All (λ input. HasNoDuplicate input.entries) inputs → AreReadAs files inputs
read_as [] [] h distinct = tt
read_as [] (i ∷ inputs) h distinct = absurd h
read_as (f ∷ files) [] h distinct = absurd h
read_as (f ∷ files) (i ∷ inputs) h distinct = (
  record {
    name = h.0.name;
    reads =
        record { reads = h.0.reads; distinct = All-head (λ input. HasNoDuplicate input.entries) i inputs distinct };
  },
  read_as files inputs h.1 (All-tail (λ input. HasNoDuplicate input.entries) i inputs distinct),
)

-- the fault of a duplicate
pub repeating_fault : (files : List NamedFile) (read : ReadInputs) (up_to : AreReadUpTo files read) (fault : FileFault)
    → IsFirstRepeating up_to.inputs fault → IsFileFault files fault.name.now fault.error
repeating_fault files read up_to fault found =
    let texts = subst (AllZip IsTextOf up_to.before) found.order up_to.texts in
    let at = zip_split IsTextOf up_to.before found.before found.input found.after texts in
    record {
      before = at.0;
      file = at.1;
      after = at.2 ++ up_to.rest;
      order = up_to.order ∙ ap (λ l. l ++ up_to.rest) at.3 ∙ append_assoc at.0 (at.1 ∷ at.2) up_to.rest;
      inputs = found.before;
      read = read_as at.0 found.before at.4 found.distinct;
      name_is = found.name ∙ at.5.name;
      fault = inr (record {
        entries = found.input.entries;
        reads = at.5.reads;
        first = found.repeats.0;
        later =
            found.repeats.1;
        duplicate = found.repeats.2;
        error_is = found.repeats.3;
      });
    }

-- the fault of a text
pub text_fault : (files : List NamedFile) (read : ReadInputs) (up_to : AreReadUpTo files read) (fault : FileFault)
    → All (λ input. HasNoDuplicate input.entries) up_to.inputs → IsFaultOfFirst up_to.rest fault
    → IsFileFault files fault.name.now fault.error
text_fault files read up_to fault distinct first = record {
  before = up_to.before;
  file = first.file;
  after = first.after;
  order = up_to.order ∙ ap (λ l. up_to.before ++ l) first.first;
  inputs = up_to.inputs;
  read = read_as up_to.before up_to.inputs up_to.texts distinct;
  name_is = first.name;
  fault = inl first.fault_is;
}

-- all are read
pub all_read : (files : List NamedFile) (read : ReadInputs) (up_to : AreReadUpTo files read)
    → All (λ input. HasNoDuplicate input.entries) up_to.inputs → up_to.rest ≡ [] → AreReadAs files up_to.inputs
all_read files read up_to distinct none =
    subst (λ l. AreReadAs l up_to.inputs)
    (sym (up_to.order ∙ ap (λ l. up_to.before ++ l) none ∙ append-nil up_to.before))
    (read_as up_to.before up_to.inputs up_to.texts distinct)

pub no_part : (inputs : List Named) (part : List TextEntry) → part ≡ []
    → with_part inputs part ≡ unnamed (all_entries inputs)
no_part inputs part none =
    ap (with_part inputs) none ∙ append-nil (unnamed (all_entries inputs))

-- one more input
pub text_more : (files : List NamedFile) (i : ℕ) (d : NamedFile) (inputs : List Named) (name : List ℕ)
    (entries : List TextEntry) → i < length files → AllZip IsTextOf (take i files) inputs
    → (get_or files i d).name ≡ name → ReadsText (get_or files i d).bytes entries
    → AllZip IsTextOf (take (i + 1) files) (inputs ++ record { name = name; entries = entries } ∷ [])
text_more files i d inputs name entries inside texts name_is reads =
    subst (λ l. AllZip IsTextOf l (inputs ++ record { name = name; entries = entries } ∷ []))
    (sym (take_more files i d inside))
    (zip_more IsTextOf (take i files) inputs (get_or files i d) (record { name = name; entries = entries }) texts
    (record { name = sym name_is; reads = reads }))
