-- Each message that is kept stands once among the merged entries.
use Rattle.msgcat.proofs.Prelude.{All, All-filter, All-head, All-map, All-tail, All-weaker, AllDiffer, Bool, IsSameMessage, KeptMessagesStand, List, MergeOptions, MessagesStandOnce, Named, NamedEntry, None, Option, TextEntry, [], all_entries, and-false, and_parts, any_first_ones, any_map, ap, ap₂, arith, bytes_eq, bytes_eq-Decides, cond, cond_both, contexts_are, definitions, false, false≢true, filter, filter_agree, filter_passes, first_ones, get_or, has_message, is_kept, is_live, is_of_message, length, list_any, list_any-append, list_any_at, map, merged_entry, merged_messages, named, option_eq, plain_entry, refl, same_message, sym, true, ℕ, ◌&&◌, ◌<◌, ◌||◌, ◌∙◌, ◌∷◌, ◌≡◌}
use Rattle.std.proofs.lemmas.List.Kept.{AllPairs-cons}
use Rattle.msgcat.proofs.SeenTexts.{Apart, apart_first_ones, group_of, same_message_laws}
use Rattle.msgcat.proofs.ValidMerged.{first_keeps}
use Rattle.msgcat.proofs.MergedGroups.{any_same, definitions_some, some_passes}

pub same_is : (a b : NamedEntry) → same_message a b ≡ true → IsSameMessage a.entry b.entry
same_is a b h =
    let parts = and_parts (option_eq bytes_eq a.entry.context b.entry.context) (bytes_eq a.entry.id b.entry.id) h in
    (contexts_are a.entry.context b.entry.context parts.0, (bytes_eq-Decides a.entry.id b.entry.id).0 parts.1)

pub is_same : (a b : NamedEntry) → IsSameMessage a.entry b.entry → same_message a b ≡ true
is_same a b h = ap₂ (λ (c : Option (List ℕ)) (i : List ℕ). option_eq bytes_eq a.entry.context c
    && bytes_eq a.entry.id i) (sym h.0) (sym h.1) ∙ same_message_laws.refl a

definitions_all : (P : NamedEntry → Type 0) (group : List NamedEntry) → All P group → All P (definitions group)
definitions_all P group h =
    cond_both (list_any (λ d. is_live d.entry) group) (filter (λ d. is_live d.entry) group) group (All P)
    (λ _. All-filter (λ d. is_live d.entry) P group h) (λ _. h)

module _ (o : MergeOptions) (es : List NamedEntry) where
  -- what defines the message of an entry
  abbrev pub defined : NamedEntry → List NamedEntry
  defined f = definitions (group_of same_message es f)

  abbrev of_firsts : List NamedEntry → List TextEntry
  of_firsts fs = merged_messages o (map definitions (map (group_of same_message es) fs))

  abbrev pub Stays : NamedEntry → Type 0
  Stays f = IsSameMessage (merged_entry o (defined f)) f.entry

  pub message_stays : (f : NamedEntry) → list_any (same_message f) es ≡ true → Stays f
  message_stays f met =
      let alike : All (λ e. IsSameMessage e.entry f.entry) (group_of same_message es f) =
      All-weaker (λ e. same_message e f ≡ true) (λ e. IsSameMessage e.entry f.entry) (λ e p. same_is e f p)
      (group_of same_message es f) (filter_passes (λ e. same_message e f) es) in
      let some : 0 < length (group_of same_message es f) =
      some_passes (λ (e : NamedEntry). same_message e f) es
      (any_same (λ (e : NamedEntry). same_message e f) (same_message f) (λ e. same_message_laws.symm e f) es
      ∙ met) in
      first_keeps (λ e. IsSameMessage e f.entry) (defined f)
      (definitions_some (λ (d : NamedEntry). is_live d.entry) (group_of same_message es f) some)
      (definitions_all (λ e. IsSameMessage e.entry f.entry) (group_of same_message es f) alike)

  all_stay : All Stays (first_ones same_message es)
  all_stay k d below =
      let fs = first_ones same_message es in
      let f = get_or fs k d in
      message_stays f (sym (any_first_ones same_message same_message_laws f es)
      ∙ list_any_at (same_message f) fs k d below (same_message_laws.refl f))

  all_merged : (P : TextEntry → Type 0) (fs : List NamedEntry) → All (λ f. P (merged_entry o (defined f))) fs
      → All P (of_firsts fs)
  all_merged P fs h =
      let groups = map (group_of same_message es) fs in
      let defs : All (λ ds. P (merged_entry o ds)) (map definitions groups) =
      All-map (λ ds. P (merged_entry o ds)) definitions groups
      (All-map (λ g. P (merged_entry o (definitions g))) (group_of same_message es) fs h) in
      All-map P (merged_entry o) (filter (is_kept o) (map definitions groups))
      (All-filter (is_kept o) (λ ds. P (merged_entry o ds)) (map definitions groups) defs)

  all_differ : (fs : List NamedEntry) → Apart same_message fs → All Stays fs → AllDiffer (of_firsts fs)
  all_differ [] apart h = λ i j d lt within. absurd (omega (arith, within))
  all_differ (f ∷ fs) apart h = found (is_kept o (defined f)) (all_differ fs apart.1 rest) where
    here : Stays f
    here = All-head Stays f fs h

    rest : All Stays fs
    rest = All-tail Stays f fs h

    others : All (λ g. ¬ IsSameMessage (merged_entry o (defined f)) (merged_entry o (defined g))) fs
    others k d below same =
        let g = get_or fs k d in
        let there = rest k d below in
        false≢true (sym apart.0 ∙ list_any_at (same_message f) fs k d below
        (is_same f g (sym here.0 ∙ same.0 ∙ there.0, sym here.1 ∙ same.1 ∙ there.1)))

    found : (b : Bool) → AllDiffer (of_firsts fs)
        → AllDiffer (map (merged_entry o)
        (cond b (defined f ∷ filter (is_kept o) (map definitions (map (group_of same_message es) fs)))
        (filter (is_kept o) (map definitions (map (group_of same_message es) fs)))))
    found true more = AllPairs-cons (λ a b. ¬ IsSameMessage a b) (merged_entry o (defined f)) (of_firsts fs)
        (all_merged (λ e. ¬ IsSameMessage (merged_entry o (defined f)) e) fs others) more
    found false more = more

  module _ (context : Option (List ℕ)) (id : List ℕ) where
    abbrev wanted : NamedEntry
    wanted = named [] (plain_entry context id None [])

    abbrev kept : Bool
    kept = is_kept o (definitions (filter (λ e. is_of_message context id e.entry) es))

    kept_is : (f : NamedEntry) → is_of_message context id f.entry ≡ true → is_kept o (defined f) ≡ kept
    kept_is f is =
        ap (λ (group : List NamedEntry). is_kept o (definitions group))
        (filter_agree (λ e. same_message e f) (λ e. is_of_message context id e.entry)
        (λ e. same_message_laws.symm e f ∙ same_message_laws.congr f wanted e is ∙ same_message_laws.symm wanted e)
        es)

    of_same : (f : NamedEntry) → Stays f
        → is_of_message context id (merged_entry o (defined f)) ≡ is_of_message context id f.entry
    of_same f h = ap₂ (λ (c : Option (List ℕ)) (i : List ℕ). option_eq bytes_eq c context && bytes_eq i id) h.0 h.1

    any_kept : (fs : List NamedEntry) → All Stays fs
        → has_message context id (of_firsts fs) ≡ (list_any (λ f. is_of_message context id f.entry) fs && kept)
    any_kept [] h = refl
    any_kept (f ∷ fs) h = found (is_kept o (defined f)) (is_of_message context id f.entry) refl refl
        (any_kept fs (All-tail Stays f fs h)) where
          is : is_of_message context id (merged_entry o (defined f)) ≡ is_of_message context id f.entry
          is = of_same f (All-head Stays f fs h)

          found : (b c : Bool) → is_kept o (defined f) ≡ b → is_of_message context id f.entry ≡ c
              → has_message context id (of_firsts fs) ≡ (list_any (λ g. is_of_message context id g.entry) fs && kept)
              → has_message context id
              (map (merged_entry o) (cond b
              (defined f ∷ filter (is_kept o) (map definitions (map (group_of same_message es) fs)))
              (filter (is_kept o) (map definitions (map (group_of same_message es) fs)))))
              ≡ ((c || list_any (λ g. is_of_message context id g.entry) fs) && kept)
          found true true e g more =
              ap (λ (t : Bool). t || has_message context id (of_firsts fs)) (is ∙ g) ∙ sym e ∙ kept_is f g
          found true false e g more = ap (λ (t : Bool). t || has_message context id (of_firsts fs)) (is ∙ g) ∙ more
          found false true e g more =
              let none : kept ≡ false = sym (kept_is f g) ∙ e in
              more ∙ ap (λ (k : Bool). list_any (λ g. is_of_message context id g.entry) fs && k) none
              ∙ and-false (list_any (λ g. is_of_message context id g.entry) fs) ∙ sym none
          found false false e g more = more

    any_first : list_any (λ f. is_of_message context id f.entry) (first_ones same_message es)
        ≡ list_any (λ e. is_of_message context id e.entry) es
    any_first =
        any_same (λ (f : NamedEntry). is_of_message context id f.entry) (same_message wanted)
        (λ f. same_message_laws.symm f wanted) (first_ones same_message es)
        ∙ any_first_ones same_message same_message_laws wanted es
        ∙ any_same (same_message wanted) (λ (e : NamedEntry). is_of_message context id e.entry)
        (λ e. same_message_laws.symm wanted e) es

any_named : (p : TextEntry → Bool) (name : List ℕ) (entries : List TextEntry)
    → list_any (λ e. p e.entry) (map (named name) entries) ≡ list_any p entries
any_named p name entries = any_map (λ (e : NamedEntry). p e.entry) (named name) entries

any_input : (p : TextEntry → Bool) (inputs : List Named)
    → list_any (λ e. p e.entry) (all_entries inputs) ≡ list_any (λ input. list_any p input.entries) inputs
any_input p [] = refl
any_input p (input ∷ inputs) =
    list_any-append (λ e. p e.entry) (map (named input.name) input.entries) (all_entries inputs)
    ∙ ap₂ (λ (a b : Bool). a || b) (any_named p input.name input.entries) (any_input p inputs)

pub stand_once : (o : MergeOptions) (inputs : List Named) → MessagesStandOnce o inputs
stand_once o inputs = let es = all_entries inputs in
    all_differ o es (first_ones same_message es) (apart_first_ones same_message same_message_laws es) (all_stay o es)

pub kept_stand : (o : MergeOptions) (inputs : List Named) (context : Option (List ℕ)) (id : List ℕ)
    → KeptMessagesStand o inputs context id
kept_stand o inputs context id =
    let es = all_entries inputs in
    any_kept o es context id (first_ones same_message es) (all_stay o es)
    ∙ ap (λ (b : Bool). b && kept o es context id)
    (any_first o es context id ∙ any_input (is_of_message context id) inputs)
