-- Links between the indexes of the entries of one message, and the walk along them.
use Rattle.msgcat.proofs.Prelude.{All, All-head, All-tail, AreLinked, Bool, HoldInputs, IsChain, List, Named, NamedEntry, TextEntry, [], all_entries, ap, arith, cond, definitions, drop, drop-cons, entries_at, eqb_tells, false, get_or, get_or-map, get_or-map-range_with_len, get_or-set_other, get_or-set_same, get_or_default_zero, groups, if◌then◌else◌, indexes_by, inl, inr, is_live, length, length-map, length-map-range_with_len, length-set, list_any, messages, named, no_entry, not, range_with_len, refl, set, subst, suc, sym, true, with_number, ℕ, ◌+◌, ◌<◌, ◌==◌, ◌||◌, ◌∙◌, ◌∷◌, ◌≡◌, ◌≢◌, ◌≤◌, ◌⊎◌}
use Rattle.msgcat.specs.declared.merge_inputs.Links.{Links}
use Rattle.msgcat.specs.declared.merge_inputs.MergeInputs.{MergeInputs}
use Rattle.msgcat.proofs.GroupsByIndex.{entries_here, group_valid, groups_at, groups_counted, indexes_here, message_at}

-- a chain of later indexes stays as an earlier one is linked
chain_kept : (next : List ℕ) (j v at : ℕ) (list : List ℕ) → j < at → IsChain next at list
    → IsChain (set next j v) at list
chain_kept next j v at [] below h = omega (arith, h, length-set next j v)
chain_kept next j v at (i ∷ list) below h =
    let same : get_or (set next j v) at 0 ≡ get_or next at 0 =
    get_or-set_other next j at v 0 (λ e. omega (arith, e, below)) in
    let less : j < get_or next at 0 = omega (arith, below, h.2) in (
      h.0,
      omega (arith, h.1, length-set next j v),
      omega (arith, same, h.2),
      subst (λ n. IsChain (set next j v) n list) (sym same) (chain_kept next j v (get_or next at 0) list less h.3),
    )

-- the indexes from one on that have this number
abbrev pub indexes_from : ℕ → ℕ → List ℕ → List ℕ
indexes_from n start numbers = with_number n numbers (range_with_len start (length numbers))

-- the entries from an index on are linked
pub record AreLinkedFrom (numbers : List ℕ) (count start : ℕ) (firsts next : List ℕ) : Type 0 where
  pub many : length firsts ≡ count
  pub long : length next ≡ length numbers
  pub later : (n : ℕ) → n < count → start ≤ get_or firsts n 0
  pub chains : (n : ℕ) → n < count → IsChain next (get_or firsts n 0) (indexes_from n start (drop start numbers))

module _ (numbers : List ℕ) (count i start : ℕ) (firsts next : List ℕ) (number : ℕ) (above : start ≡ suc i)
    (inside : i < length numbers) (here : number ≡ get_or numbers i 0) (below : number < count)
    (so_far : AreLinkedFrom numbers count start firsts next) where
  abbrev first : ℕ
  first = get_or firsts number 0

  abbrev new : List ℕ
  new = set next i first

  at_i : get_or new i 0 ≡ first
  at_i = get_or-set_same next i first 0 (omega (arith, inside, so_far.long))

  -- the indexes from this one on
  unfolded : (n : ℕ) → indexes_from n i (drop i numbers)
      ≡ (if number == n then i ∷ indexes_from n start (drop start numbers)
      else indexes_from n start (drop start numbers))
  unfolded n =
      ap (indexes_from n i) (drop-cons numbers i 0 inside ∙ ap (λ k. k ∷ drop (suc i) numbers) (sym here))
      ∙ ap (λ k. if number == n
      then i ∷ with_number n (drop (suc i) numbers) (range_with_len k (length (drop (suc i) numbers)))
      else with_number n (drop (suc i) numbers) (range_with_len k (length (drop (suc i) numbers)))) next_one
      ∙ ap (λ k. if number == n then i ∷ indexes_from n k (drop k numbers) else indexes_from n k (drop k numbers))
      (sym above) where
        next_one : i + 1 ≡ suc i
        next_one = omega arith

  kept : (n : ℕ) → n < count → IsChain new (get_or firsts n 0) (indexes_from n start (drop start numbers))
  kept n less =
      chain_kept next i first (get_or firsts n 0) (indexes_from n start (drop start numbers))
      (omega (arith, above, so_far.later n less)) (so_far.chains n less)

  chain_at : (n : ℕ) → n < count
      → (((number == n) ≡ true) × (number ≡ n)) ⊎ (((number == n) ≡ false) × (number ≢ n))
      → IsChain new (get_or (set firsts number i) n 0) (indexes_from n i (drop i numbers))
  chain_at n less (inl same) =
      let list = indexes_from n start (drop start numbers) in
      let start_is : get_or (set firsts number i) n 0 ≡ i =
      ap (λ k. get_or (set firsts number i) k 0) (sym same.1)
      ∙ get_or-set_same firsts number i 0 (omega (arith, below, so_far.many)) in
      let linked : IsChain new i (i ∷ list) = (
        refl,
        omega (arith, inside, so_far.long, length-set next i first),
        omega (arith, at_i, above, so_far.later number below),
        subst (λ k. IsChain new k list) (sym at_i)
            (subst (λ k. IsChain new (get_or firsts k 0) list) (sym same.1) (kept n less)),
      ) in
      subst (λ k. IsChain new k (indexes_from n i (drop i numbers))) (sym start_is)
      (subst (IsChain new i)
      (sym (unfolded n ∙ ap (λ (b : Bool). if b then i ∷ list else list) same.0)) linked)
  chain_at n less (inr other) =
      let list = indexes_from n start (drop start numbers) in
      let start_is : get_or (set firsts number i) n 0 ≡ get_or firsts n 0 =
      get_or-set_other firsts number n i 0 (λ e. other.1 (sym e)) in
      subst (λ k. IsChain new k (indexes_from n i (drop i numbers))) (sym start_is)
      (subst (IsChain new (get_or firsts n 0))
      (sym (unfolded n ∙ ap (λ (b : Bool). if b then i ∷ list else list) other.0)) (kept n less))

  later_at : (n : ℕ) → n < count
      → (((number == n) ≡ true) × (number ≡ n)) ⊎ (((number == n) ≡ false) × (number ≢ n))
      → i ≤ get_or (set firsts number i) n 0
  later_at n less (inl same) =
      let start_is : get_or (set firsts number i) n 0 ≡ i =
      ap (λ k. get_or (set firsts number i) k 0) (sym same.1)
      ∙ get_or-set_same firsts number i 0 (omega (arith, below, so_far.many)) in
      omega (arith, start_is)
  later_at n less (inr other) =
      let start_is : get_or (set firsts number i) n 0 ≡ get_or firsts n 0 =
      get_or-set_other firsts number n i 0 (λ e. other.1 (sym e)) in
      omega (arith, start_is, above, so_far.later n less)

  -- one more entry is linked
  pub linked_more : AreLinkedFrom numbers count i (set firsts number i) (set next i (get_or firsts number 0))
  linked_more = record {
    many = length-set firsts number i ∙ so_far.many;
    long = length-set next i first ∙ so_far.long;
    later = λ n less. later_at n less (eqb_tells number n);
    chains = λ n less. chain_at n less (eqb_tells number n);
  }

pub all_linked : (numbers : List ℕ) (count : ℕ) (links : Links)
    → AreLinkedFrom numbers count 0 links.firsts.items links.next.items → AreLinked (indexes_by count numbers) links
all_linked numbers count links h =
    let group : ℕ → List ℕ = λ n. with_number n numbers (range_with_len 0 (length numbers)) in
    let many : length (indexes_by count numbers) ≡ count = length-map-range_with_len group 0 count in
    record {
      many = h.many ∙ sym many;
      chains = λ n below.
          let less : n < count = omega (arith, below, many) in
          let zero_more : 0 + n ≡ n = omega arith in
          subst (IsChain links.next.items (get_or links.firsts.items n 0))
          (sym (get_or-map-range_with_len group 0 count n n [] less zero_more)) (h.chains n less);
    }

-- a chain whose index is one of the entries goes on from it
pub chain_on : (next : List ℕ) (at : ℕ) (list : List ℕ) → IsChain next at list → at < length next
    → (rest : List ℕ) × (list ≡ at ∷ rest) × (at < get_or next at 0) × IsChain next (get_or next at 0) rest
chain_on next at [] h inside = absurd (omega (arith, h, inside))
chain_on next at (i ∷ list) h inside = (list, ap (λ k. k ∷ list) (sym h.0), h.2, h.3)

chain_some : (next : List ℕ) (at : ℕ) (list : List ℕ) → IsChain next at list → 0 < length list
    → at < length next
chain_some next at [] h some = absurd (omega (arith, some))
chain_some next at (i ∷ list) h some = h.1

chain_over : (next : List ℕ) (at : ℕ) (list : List ℕ) → IsChain next at list → length next ≤ at → list ≡ []
chain_over next at [] h past = refl
chain_over next at (i ∷ list) h past = absurd (omega (arith, h.1, past))

-- The entries of a message, one after the other by their links.

abbrev pub any_live : List NamedEntry → Bool
any_live entries = list_any (λ d. is_live d.entry) entries

-- the entries that are linked from an index on
pub record AreLeft (read : List Named) (held : MergeInputs) (at : ℕ) (left : List ℕ) : Type 0 where
  pub chain : IsChain held.links.next.items at left
  pub inside : All (λ k. k < length (all_entries read)) left

module _ (read : List Named) (held : MergeInputs) (h : HoldInputs read held) where
  abbrev all : List NamedEntry
  all = all_entries read

  abbrev next : List ℕ
  next = held.links.next.items

  -- those of a message, from its first one on
  module _ (number : ℕ) (below : number < length (messages read)) where
    abbrev pub indexes : List ℕ
    indexes = get_or (groups_at all) number []

    grouped : number < length (groups all)
    grouped = omega (arith, below, length-map (groups all) definitions)

    linked : number < length (groups_at all)
    linked = omega (arith, grouped, groups_counted all)

    pub first_inside : number < length held.links.firsts.items
    first_inside = omega (arith, linked, h.links.many)

    pub group_is : entries_at all indexes ≡ get_or (groups all) number []
    group_is = entries_here all number grouped

    pub all_left : (at : ℕ) → at ≡ get_or held.links.firsts.items number at → AreLeft read held at indexes
    all_left at is =
        subst (λ k. AreLeft read held k indexes)
        (sym (is ∙ get_or_default_zero held.links.firsts.items number at first_inside))
        (record { chain = h.links.chains number linked; inside = indexes_here all number grouped })

    pub first_links : (at : ℕ) → at ≡ get_or held.links.firsts.items number at → at < length next
    first_links at is =
        let some = (group_valid read number (get_or (groups all) number []) below refl h.can).some in
        let many : 0 < length indexes =
        omega (arith, some, ap length (sym group_is), length-map indexes (λ k. get_or all k no_entry)) in
        chain_some next at indexes (all_left at is).chain many

  -- the next one of those that are left
  module _ (at : ℕ) (left : List ℕ) (are : AreLeft read held at left) (inside : at < length next) where
    abbrev pub rest : List ℕ
    rest = (chain_on next at left are.chain inside).0

    pub left_is : left ≡ at ∷ rest
    left_is = (chain_on next at left are.chain inside).1

    indexes_left : All (λ k. k < length all) (at ∷ rest)
    indexes_left = subst (All (λ k. k < length all)) left_is are.inside

    module _ (after : ℕ) (is : after ≡ get_or next at after) where
      value : get_or next at 0 ≡ after
      value = sym (is ∙ get_or_default_zero next at after inside)

      pub later : at < after
      later = omega (arith, (chain_on next at left are.chain inside).2, value)

      pub rest_left : AreLeft read held after rest
      rest_left = record {
        chain = subst (λ k. IsChain next k rest) value (chain_on next at left are.chain inside).3;
        inside = All-tail (λ k. k < length all) at rest indexes_left;
      }

    pub here : at < length all
    here = All-head (λ k. k < length all) at rest indexes_left

    pub stored : at < length held.store
    stored = omega (arith, here, ap length h.store, length-map all (λ (e : NamedEntry). e.entry))

    pub entry_is : get_or held.store at no_entry.entry ≡ (get_or all at no_entry).entry
    entry_is = ap (λ l. get_or l at no_entry.entry) h.store
        ∙ get_or-map (λ (e : NamedEntry). e.entry) all at no_entry no_entry.entry here

    pub any_left : (entry : TextEntry) (obsolete : Bool) → entry ≡ get_or held.store at no_entry.entry
        → entry.obsolete ≡ obsolete → any_live (entries_at all left) ≡ (not obsolete || any_live (entries_at all rest))
    any_left entry obsolete is marked =
        ap (λ l. any_live (entries_at all l)) left_is
        ∙ ap (λ (b : Bool). not b || any_live (entries_at all rest))
        (sym (ap (λ (e : TextEntry). e.obsolete) (is ∙ entry_is)) ∙ marked)

  pub none_left : (at : ℕ) (left : List ℕ) → AreLeft read held at left → length next ≤ at → left ≡ []
  none_left at left are past = chain_over next at left are.chain past

  -- the only entry of a message
  pub only_one : (number : ℕ) (below : number < length (messages read)) (at after : ℕ) (entry : TextEntry)
      → at ≡ get_or held.links.firsts.items number at → after ≡ get_or next at after → length next ≤ after
      → entry ≡ get_or held.store at no_entry.entry
      → (name : List ℕ) × (get_or (messages read) number [] ≡ named name entry ∷ [])
  only_one number below at after entry start follows past is =
      let left = indexes number below in
      let are = all_left number below at start in
      let inside = first_links number below at start in
      let over = none_left after (rest at left are inside) (rest_left at left are inside after follows) past in
      let one = get_or all at no_entry in
      let group : one ∷ [] ≡ get_or (groups all) number [] =
      sym (ap (λ l. entries_at all l) (left_is at left are inside ∙ ap (λ l. at ∷ l) over)) ∙ group_is number below in (
        one.name,
        sym (message_at read number (one ∷ []) below group) ∙ one_defines one
            ∙ ap (λ e. named one.name e ∷ []) (sym (is ∙ entry_is at left are inside)),
      ) where
        one_defines : (d : NamedEntry) → definitions (d ∷ []) ≡ d ∷ []
        one_defines d = by (is_live d.entry) where
          by : (b : Bool) → (if b || false then cond b (d ∷ []) [] else d ∷ []) ≡ d ∷ []
          by true = refl
          by false = refl
