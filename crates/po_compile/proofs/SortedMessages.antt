-- Messages and rows in rising order of their keys.
use Rattle.po_compile.proofs.Prelude.{All, All-cons, All-filter, All-head, All-map, All-nil, All-permutation, All-tail, All-weaker, AllDiffer, AllPairs, AllPairs-cons, AllPairs-filter, AreMessagesOf, AreRising, AreSortedRows, Bool, Contains, Contains-permutation, Contains-tail, Equal, Greater, HasNoDuplicate, HoldCatalogues, InputEntry, InputMessage, IsCatalogueEntry, IsEntry, IsPermutation, IsPermutation-cons, IsPermutation-map, IsPermutation-middle, IsPermutation-refl, IsPermutation-sym, IsPermutation-trans, IsSameMessage, Less, List, LiveMessage, Message, MessagesAreOne, Ordering, Row, TextEntry, [], all_messages, ap, ap₂, arith, compiled_inputs, compiled_list, compiled_message, compiled_of, count_by, counts_fuzzy, counts_of, counts_translated, counts_untranslated, entries_of, equal_is_same, false, filter, filter_agree, filter_map, filter_twice, get_or, get_or-map, greater_is_less, has_translation, inl, input_message, inr, is_compiled, is_fuzzy, is_header, is_live, is_translated, is_untranslated, joined, joined_entries, key_cmp, key_of, keys, layout, length, length-append, length-filter, length-map, length_permutation, less_is_other, live_entries, live_message, live_messages, live_of_entries, map, map-map, message_of, nat_list_cmp_total, not, original_of, originals, originals_offset, pairs_map, refl, row_view, stats_of, subst, suc, sym, table, terminated, translations, translations_offset, view_of_message, zero, ℕ, ◌&&◌, ◌++◌, ◌<◌, ◌||◌, ◌∙◌, ◌∷◌, ◌≡◌, ◌≢◌, ◌≤◌, ◌⊎◌}
use Rattle.mo_file.specs.Prelude.{header}
use Rattle.mo_file.specs.declared.byte_order.Order.{Order}
use Rattle.po_compile.proofs.CompiledMessages.{query_key_is_one}
use Rattle.po_compile.proofs.Meaning.{LacksSeparators, entry_lacks_separators, key_of-original}
use Rattle.po_compile.proofs.DistinctKeys.{Below, below_from_rising, rising_filter, rising_from_below}
use Rattle.po_compile.proofs.JoinedRows.{IsPermutation-filter, all_are, filter_within, joined_valid}

-- entries of different messages have different keys
pub keys_differ : (e f : TextEntry) → LacksSeparators e → LacksSeparators f → ¬ IsSameMessage e f
    → key_of (original_of e) ≢ key_of (original_of f)
keys_differ e f ce cf apart same =
    apart (query_key_is_one e.context f.context e.id f.id ce.context_eot cf.context_eot ce.id_eot cf.id_eot
    (sym (key_of-original e ce) ∙ same ∙ key_of-original f cf))

-- where no live entry repeats another, no compiled one does
pub compiled_differ : (use_fuzzy : Bool) (entries : List TextEntry) → HasNoDuplicate entries
    → AllDiffer (compiled_list use_fuzzy entries)
compiled_differ use_fuzzy entries none =
    let wanted : TextEntry → Bool = λ e. has_translation e && (use_fuzzy || not e.fuzzy || is_header e) in
    subst AllDiffer (filter_twice is_live wanted entries)
    (AllPairs-filter (λ a b. ¬ IsSameMessage a b) wanted (filter is_live entries) none)

pub compiled_valid : (use_fuzzy : Bool) (entries : List TextEntry) → All IsCatalogueEntry entries
    → All IsEntry (compiled_list use_fuzzy entries)
compiled_valid use_fuzzy entries valid =
    All-filter (is_compiled use_fuzzy) IsEntry entries
    (All-weaker IsCatalogueEntry IsEntry (λ e v. v.valid) entries valid)

terminated_long : (strings : List (List ℕ)) → length strings ≤ length (terminated strings)
terminated_long [] = omega arith
terminated_long (s ∷ strings) =
    omega (arith, terminated_long strings, length-append (s ++ 0 ∷ []) (terminated strings), length-append s (0 ∷ []))

-- a layout has a byte for each message
pub count_below_layout : (order : Order) (messages : List Message) → length messages ≤ length (layout order messages)
count_below_layout order messages =
    let prefix = header order (length messages) ++ table order (originals_offset messages) (originals messages)
    ++ table order (translations_offset messages) (translations messages) in
    let long = length-append (prefix ++ terminated (originals messages)) (terminated (translations messages)) in
    let long' = length-append prefix (terminated (originals messages)) in
    let original : Message → List ℕ = λ m. m.original in
    omega (arith, long, long', terminated_long (originals messages), length-map messages original)

module _ {X : Type 0} (R : X → X → Type 0) where
  -- the first of some goes before each of the others, and these stay in order
  first_before : (x : X) (xs : List X) → AllPairs R (x ∷ xs) → All (R x) xs
  first_before x xs pairs k d inside = pairs zero (suc k) d (omega arith) (omega arith)

  others_stay : (x : X) (xs : List X) → AllPairs R (x ∷ xs) → AllPairs R xs
  others_stay x xs pairs i j d below inside = pairs (suc i) (suc j) d (omega arith) (omega arith)

-- elements in an order
module _ {X : Type 0} (R : X → X → Type 0) (not_itself : (x : X) → ¬ R x x)
    (passes : (x y z : X) → R x y → R y z → R x z) where
  first_or_after : (x : X) (xs : List X) → AllPairs R (x ∷ xs) → (y : X) → Contains (x ∷ xs) y → (x ≡ y) ⊎ R x y
  first_or_after x xs order y (zero, inside, is) = inl is
  first_or_after x xs order y (suc k, inside, is) = inr (subst (R x) is (order zero (suc k) y (omega arith) inside))

  -- what another list has too of those after the first is after its first
  among_others : (x y : X) (xs ys : List X) → x ≡ y → AllPairs R (x ∷ xs)
      → ((z : X) → Contains (x ∷ xs) z → Contains (y ∷ ys) z) → (z : X) → Contains xs z → Contains ys z
  among_others x y xs ys same order all z (k, inside, is) =
      let after = first_before R x xs order k z inside in
      Contains-tail y ys z (λ first. not_itself x (subst (R x) (is ∙ sym (same ∙ first)) after))
      (all z (suc k, omega (arith, inside), is))

  -- there is one order
  one_order : (xs ys : List X) → AllPairs R xs → AllPairs R ys → ((z : X) → Contains xs z → Contains ys z)
      → ((z : X) → Contains ys z → Contains xs z) → xs ≡ ys
  one_order [] [] rx ry f g = refl
  one_order [] (y ∷ ys) rx ry f g = let here = g y (0, omega arith, refl) in absurd (omega (arith, here.1))
  one_order (x ∷ xs) [] rx ry f g = let here = f x (0, omega arith, refl) in absurd (omega (arith, here.1))
  one_order (x ∷ xs) (y ∷ ys) rx ry f g =
      let same : x ≡ y = elim (first_or_after x xs rx y (g y (0, omega arith, refl))) [
        | inl is ↦ is
        | inr after ↦ elim (first_or_after y ys ry x (f x (0, omega arith, refl)))
            [ inl is ↦ sym is | inr before ↦ absurd (not_itself x (passes x y x after before)) ]
      ] in
      ap₂ (λ z zs. z ∷ zs) same (one_order xs ys (others_stay R x xs rx) (others_stay R y ys ry)
      (among_others x y xs ys same rx f) (among_others y x ys xs (sym same) ry g))

  module _ (A : X → X → Type 0) (either : (x y : X) → A x y → R x y ⊎ R y x) where
    -- one more goes into its place
    put_in : (x : X) (xs : List X) → All (A x) xs → AllPairs R xs
        → (ys : List X) × IsPermutation (x ∷ xs) ys × AllPairs R ys
    put_in x [] apart order = (x ∷ [], IsPermutation-refl (x ∷ []), AllPairs-cons R x [] (All-nil (R x)) order)
    put_in x (y ∷ xs) apart order = elim (either x y (All-head (A x) y xs apart)) [
      | inl before ↦
          let later = All-weaker (R y) (R x) (λ z. passes x y z before) xs (first_before R y xs order) in (
            x ∷ y ∷ xs,
            IsPermutation-refl (x ∷ y ∷ xs),
            AllPairs-cons R x (y ∷ xs) (All-cons (R x) y xs before later) order,
          )
      | inr after ↦
          let (ys, moved, rest) = put_in x xs (All-tail (A x) y xs apart) (others_stay R y xs order) in (
            y ∷ ys,
            IsPermutation-trans (x ∷ y ∷ xs) (y ∷ x ∷ xs) (y ∷ ys)
                (IsPermutation-sym (y ∷ x ∷ xs) (x ∷ y ∷ xs) (IsPermutation-middle (y ∷ []) x xs))
                (IsPermutation-cons y (x ∷ xs) ys moved),
            AllPairs-cons R y ys (All-permutation (R y) (x ∷ xs) ys moved
                (All-cons (R y) x xs after (first_before R y xs order))) rest,
          )
    ]

    put_in_order : (xs : List X) → AllPairs A xs → (ys : List X) × IsPermutation xs ys × AllPairs R ys
    put_in_order [] apart = ([], IsPermutation-refl [], λ i j d below inside. absurd (omega (arith, inside)))
    put_in_order (x ∷ xs) apart =
        let (ys, moved, order) = put_in_order xs (others_stay A x xs apart) in
        let (zs, placed, rest) =
        put_in x ys (All-permutation (A x) xs ys moved (first_before A x xs apart)) order in
        (zs, IsPermutation-trans (x ∷ xs) (x ∷ ys) zs (IsPermutation-cons x xs ys moved) placed, rest)

-- the key of a message, and whether that of the first is below that of the second
abbrev key : Message → List ℕ
key m = key_of m.original

not_below_itself : (m : Message) → ¬ Below key m m
not_below_itself m below = less_is_other (key m) (key m) below refl

passed_on : (m n o : Message) → Below key m n → Below key n o → Below key m o
passed_on m n o = nat_list_cmp_total.trans (key m) (key n) (key o)

either_below : (m n : Message) → key m ≢ key n → Below key m n ⊎ Below key n m
either_below m n apart = by (key_cmp (key m) (key n)) refl where
  by : (o : Ordering) → key_cmp (key m) (key n) ≡ o → Below key m n ⊎ Below key n m
  by Less is = inl is
  by Equal is = absurd (apart (equal_is_same (key m) (key n) is))
  by Greater is = inr (greater_is_less (key m) (key n) is)

pub messages_are_one : MessagesAreOne
messages_are_one entries xs ys are also =
    let over = IsPermutation-trans xs (map message_of entries) ys
    (IsPermutation-sym (map message_of entries) xs are.all) also.all in
    one_order (Below key) not_below_itself passed_on xs ys (below_from_rising key xs are.rising)
    (below_from_rising key ys also.rising)
    (λ m. Contains-permutation xs ys m over) (λ m. Contains-permutation ys xs m (IsPermutation-sym xs ys over))

-- entries of different messages have their messages in rising order
pub messages_exist : (entries : List TextEntry) → All LacksSeparators entries → AllDiffer entries
    → (messages : List Message) × AreMessagesOf entries messages
messages_exist entries clean differ =
    let Apart : Message → Message → Type 0 = λ m n. key m ≢ key n in
    let (messages, all, order) = put_in_order (Below key) not_below_itself passed_on Apart either_below
    (map message_of entries) (pairs_map Apart message_of entries (λ i j d below inside.
    keys_differ (get_or entries i d) (get_or entries j d) (clean i d (omega (arith, below, inside))) (clean j d inside)
    (differ i j d below inside))) in
    (messages, record { all = all; rising = rising_from_below key messages order })

-- Rows that are sorted, of which those that are compiled are the messages.

-- what holds of each entry of several inputs
pub at_entry : (P : TextEntry → Type 0) (entries : List InputEntry) (k : ℕ) (d : InputEntry) → k < length entries
    → All P (entries_of entries) → P (get_or entries k d).entry
at_entry P entries k d inside all =
    let entry : InputEntry → TextEntry = λ e. e.entry in
    subst P (get_or-map entry entries k d d.entry inside)
    (all k d.entry (omega (arith, inside, length-map entries entry)))

map_agree : {X Y : Type 0} (f g : X → Y) (xs : List X) → All (λ x. f x ≡ g x) xs → map f xs ≡ map g xs
map_agree f g [] same = refl
map_agree f g (x ∷ xs) same =
    ap₂ (λ y ys. y ∷ ys) (All-head (λ x. f x ≡ g x) x xs same) (map_agree f g xs (All-tail (λ x. f x ≡ g x) x xs same))

module _ (use_fuzzy : Bool) where
  -- the compiled ones of the live entries
  kept_entries : (entries : List InputEntry)
      → filter (λ (m : InputMessage). m.message.status.compiled) (map (input_message use_fuzzy) (live_entries entries))
      ≡ map (input_message use_fuzzy) (compiled_inputs use_fuzzy entries)
  kept_entries entries =
      filter_map (λ (m : InputMessage). m.message.status.compiled) (input_message use_fuzzy) (live_entries entries)
      ∙ ap (map (input_message use_fuzzy))
      (filter_within (λ (e : InputEntry). is_live e.entry) (λ (e : InputEntry). is_compiled use_fuzzy e.entry)
      (λ e dead. rw dead refl) entries)

  -- the messages that are compiled, in the order of the joined list
  pub compiled_views : (catalogues : List (List TextEntry))
      → map view_of_message (filter (λ (m : InputMessage). m.message.status.compiled)
      (all_messages (map (live_messages use_fuzzy) catalogues)))
      ≡ map compiled_message (compiled_inputs use_fuzzy (joined catalogues))
  compiled_views catalogues =
      ap (λ ms. map view_of_message (filter (λ (m : InputMessage). m.message.status.compiled) ms))
      (all_are use_fuzzy catalogues) ∙ ap (map view_of_message) (kept_entries (joined catalogues))
      ∙ map-map view_of_message (input_message use_fuzzy) (compiled_inputs use_fuzzy (joined catalogues))

  compiled_are : (entries : List InputEntry)
      → compiled_of (map (input_message use_fuzzy) (live_entries entries))
      ≡ map message_of (compiled_list use_fuzzy (entries_of entries))
  compiled_are entries =
      let message : InputMessage → Message = λ m. m.message.message in
      let entry : InputEntry → TextEntry = λ e. e.entry in
      ap (map message) (kept_entries entries)
      ∙ map-map message (input_message use_fuzzy) (compiled_inputs use_fuzzy entries)
      ∙ sym (ap (map message_of) (filter_map (is_compiled use_fuzzy) entry entries)
      ∙ map-map message_of entry (compiled_inputs use_fuzzy entries))

  module _ (catalogues : List (List TextEntry)) (inputs : List (List LiveMessage)) (rows : List Row)
      (held : HoldCatalogues use_fuzzy catalogues inputs) (are : AreSortedRows inputs rows) where
    abbrev live : List InputEntry
    live = live_entries (joined catalogues)

    abbrev given : List InputMessage
    given = map (input_message use_fuzzy) live

    moved : IsPermutation given (map row_view rows)
    moved = subst (λ ms. IsPermutation ms (map row_view rows))
        (ap all_messages held.messages ∙ all_are use_fuzzy catalogues) are.all

    -- the key is that of the original
    abbrev IsKeyed : InputMessage → Type 0
    IsKeyed m = key_of m.message.message.original ≡ m.message.key

    keyed : All IsKeyed (map row_view rows)
    keyed =
        let valid : All IsCatalogueEntry (entries_of live) =
        subst (All IsCatalogueEntry) (live_of_entries (joined catalogues))
        (All-filter is_live IsCatalogueEntry (joined_entries catalogues)
        (joined_valid catalogues held.valid)) in
        All-permutation IsKeyed given (map row_view rows) moved
        (All-map IsKeyed (input_message use_fuzzy) live (λ k d inside.
        let v = at_entry IsCatalogueEntry live k d inside valid in
        key_of-original (get_or live k d).entry (entry_lacks_separators (get_or live k d).entry v.valid)))

    -- the messages of the rows that are compiled
    pub are_messages : AreMessagesOf (compiled_list use_fuzzy (joined_entries catalogues))
        (compiled_of (map row_view rows))
    are_messages =
        let compiled : InputMessage → Bool = λ m. m.message.status.compiled in
        let message : InputMessage → Message = λ m. m.message.message in
        let key : InputMessage → List ℕ = λ m. m.message.key in
        let kept = filter compiled (map row_view rows) in
        let filtered = IsPermutation-map message (filter compiled given) kept
        (IsPermutation-filter compiled given (map row_view rows) moved) in
        let keys_are : keys (map message kept) ≡ map key kept =
        map-map (λ (m : Message). key_of m.original) message kept
        ∙ map_agree (λ m. key_of m.message.message.original) key kept
        (All-filter compiled IsKeyed (map row_view rows) keyed) in
        record {
          all = subst (λ ms. IsPermutation ms (map message kept)) (compiled_are (joined catalogues)) filtered;
          rising = subst AreRising (sym keys_are)
              (rising_filter key compiled (map row_view rows)
              (subst AreRising (sym (map-map key row_view rows)) are.rising));
        }

    count_of : (f : TextEntry → Bool) (g : LiveMessage → Bool) → ((e : TextEntry) → g (live_message use_fuzzy e) ≡ f e)
        → ((e : TextEntry) → is_live e ≡ false → f e ≡ false)
        → count_by (λ (r : Row). g (row_view r).message) rows ≡ length (filter f (joined_entries catalogues))
    count_of f g same only =
        let p : Row → Bool = λ r. g (row_view r).message in
        let q : InputMessage → Bool = λ m. g m.message in
        let entry : InputEntry → TextEntry = λ e. e.entry in
        let h : InputEntry → Bool = λ e. f e.entry in
        let is_there : InputEntry → Bool = λ e. is_live e.entry in
        sym (length-filter p rows) ∙ sym (length-map (filter p rows) row_view)
        ∙ sym (ap length (filter_map q row_view rows))
        ∙ length_permutation (filter q given) (filter q (map row_view rows))
        (IsPermutation-filter q given (map row_view rows) moved)
        ∙ ap length (filter_map q (input_message use_fuzzy) live
        ∙ ap (map (input_message use_fuzzy))
        (filter_agree (λ e. g (live_message use_fuzzy e.entry)) h (λ e. same e.entry) live
        ∙ filter_within is_there h (λ e. only e.entry) (joined catalogues)))
        ∙ length-map (filter h (joined catalogues)) (input_message use_fuzzy)
        ∙ sym (length-map (filter h (joined catalogues)) entry)
        ∙ sym (ap length (filter_map f entry (joined catalogues)))

    -- the statistics of the entries
    pub counts_mean : counts_of rows ≡ stats_of (joined_entries catalogues)
    counts_mean =
        let translated = count_of is_translated (λ m. counts_translated m.status) (λ e. refl)
        (λ e dead. rw dead refl) in
        let fuzzy = count_of is_fuzzy (λ m. counts_fuzzy m.status) (λ e. refl) (λ e dead. rw dead refl) in
        let untranslated = count_of is_untranslated (λ m. counts_untranslated m.status) (λ e. refl)
        (λ e dead. rw dead refl) in
        cc
