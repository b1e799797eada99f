-- Keys that rise or are apart, the entries that have them, and the first key that stands twice.
use Rattle.po_compile.proofs.Prelude.{All, All-cons, All-from_all_within, All-head, All-map, All-nil, All-tail, All-weaker, AllApart, AllDiffer, AllPairs, AllPairs-cons, AllPairs-filter, AllPairs-from_IsDistinct, AllWithin, AllZip, AreRising, Bool, Bor, EachApart, HasNoDuplicate, HasOneHeader, HaveOneKey, HoldsAt, InputEntry, InputMessage, IsDistinct-from_AllPairs, IsFirstRepeat, IsPermutation, IsPermutation-append_comm, IsPermutation-filter_both, IsPermutation-map, IsPermutation-sym, IsRepeatAt, IsTrue, Less, List, LiveMessage, MatchBool, ReadsDistinct, ReadsText, Row, TextEntry, [], all_messages, all_pass, ap, append-nil, ap₂, arith, bytes_eq, bytes_eq-Decides, drop, entries_of, false, filter, filter_passes, first_of, get_or, get_or-map, get_or-take, get_or_default, has_no_key, if◌then◌else◌, in_input_message, input_keys, input_message, is_joined, is_live, joined, joined_entries, joined_messages, key_cmp, length, length-map, length-take, less_is_other, list_any, live_entries, live_message, live_messages, live_of_entries, map, map-append, map-map, message_keys, nat_list_eq_equiv, not, not-true, pairs_of_map, passes_at_first, position_or_len, prefix_len-le-length, prefix_len_passes, query_key, refl, rising_between, row_key, row_view, slice_texts, split_at, subst, suc, sym, take, take-map, take_more, true, with_seen, ℕ, ◌++◌, ◌+◌, ◌<◌, ◌==◌, ◌||◌, ◌↔◌, ◌∙◌, ◌∷◌, ◌≡◌, ◌≢◌, ◌≤◌}
use Rattle.std.proofs.Math.ListN.{get_or-map as map_at}
use Rattle.std.proofs.lemmas.Map.Keys.{IsDistinct-IsPermutation}
use Rattle.po_compile.proofs.JoinedRows.{all_are}
use Rattle.po_entry.proofs.Headers.{empty_is}
use Rattle.std.proofs.lemmas.List.Quantifiers.{all_pairs_push}
use Rattle.po_entry.proofs.MessageNumbers.{found_within}

-- keys that rise are different
pub rising_apart : (ks : List (List ℕ)) → AreRising ks → AllApart ks
rising_apart ks rising i j d below inside =
    less_is_other (get_or ks i d) (get_or ks j d)
    (ap₂ key_cmp (get_or_default ks i d [] (omega (arith, below, inside))) (get_or_default ks j d [] inside)
    ∙ rising_between ks rising i j below inside)

module _ {X : Type 0} (key : X → List ℕ) where
  -- the key of the first is below that of the second
  abbrev pub Below : X → X → Type 0
  Below a b = key_cmp (key a) (key b) ≡ Less

  pub below_from_rising : (xs : List X) → AreRising (map key xs) → AllPairs Below xs
  below_from_rising xs rising i j d below inside =
      ap₂ key_cmp (sym (get_or-map key xs i d [] (omega (arith, below, inside))))
      (sym (get_or-map key xs j d [] inside))
      ∙ rising_between (map key xs) rising i j below (omega (arith, inside, length-map xs key))

  pub rising_from_below : (xs : List X) → AllPairs Below xs → AreRising (map key xs)
  rising_from_below xs below = record {
    next = λ i inside.
        let long = length-map xs key in
        let d = first_of xs (omega (arith, inside, long)) in
        ap₂ key_cmp (get_or-map key xs i d [] (omega (arith, inside, long)))
        (get_or-map key xs (i + 1) d [] (omega (arith, inside, long)))
        ∙ below i (i + 1) d (omega arith) (omega (arith, inside, long));
  }

  pub rising_filter : (p : X → Bool) (xs : List X) → AreRising (map key xs) → AreRising (map key (filter p xs))
  rising_filter p xs rising = rising_from_below (filter p xs) (AllPairs-filter Below p xs (below_from_rising xs rising))

pub apart_permuted : (ks ls : List (List ℕ)) → IsPermutation ks ls → AllApart ks → AllApart ls
apart_permuted ks ls permuted apart =
    AllPairs-from_IsDistinct bytes_eq-Decides ls
    (IsDistinct-IsPermutation bytes_eq nat_list_eq_equiv.symm ks ls permuted
    (IsDistinct-from_AllPairs bytes_eq-Decides ks apart))

abbrev pub key_of_entry : TextEntry → List ℕ
key_of_entry entry = query_key entry.context entry.id

-- entries whose keys differ
pub entries_differ : (entries : List TextEntry) → AllApart (map key_of_entry entries) → AllDiffer entries
entries_differ entries apart i j d below inside same =
    apart i j (key_of_entry d) below (omega (arith, inside, length-map entries key_of_entry))
    (map_at key_of_entry entries i d ∙ ap₂ query_key same.0 same.1 ∙ sym (map_at key_of_entry entries j d))

module _ (use_fuzzy : Bool) where
  live_distinct : (entries : List TextEntry) → AllApart (message_keys (live_messages use_fuzzy entries))
      → HasNoDuplicate entries
  live_distinct entries apart =
      let key : LiveMessage → List ℕ = λ m. m.key in
      entries_differ (filter is_live entries)
      (subst AllApart (map-map key (live_message use_fuzzy) (filter is_live entries)) apart)

  pub joined_distinct : (catalogues : List (List TextEntry))
      → AllApart (input_keys (all_messages (map (live_messages use_fuzzy) catalogues)))
      → HasNoDuplicate (joined_entries catalogues)
  joined_distinct catalogues apart =
      let live = live_entries (joined catalogues) in
      let key : InputMessage → List ℕ = λ m. m.message.key in
      let entry : InputEntry → TextEntry = λ e. e.entry in
      let keys : input_keys (all_messages (map (live_messages use_fuzzy) catalogues))
      ≡ map key_of_entry (entries_of live) =
      ap input_keys (all_are use_fuzzy catalogues) ∙ map-map key (input_message use_fuzzy) live
      ∙ sym (map-map key_of_entry entry live) in
      subst AllDiffer (sym (live_of_entries (joined catalogues)))
      (entries_differ (entries_of live) (subst AllApart keys apart))

  -- texts that read as catalogues in each of which the keys differ
  pub read_distinct : (texts : List (List ℕ)) (catalogues : List (List TextEntry)) → AllZip ReadsText texts catalogues
      → EachApart (map (live_messages use_fuzzy) catalogues) → AllZip ReadsDistinct texts catalogues
  read_distinct [] [] read apart = tt
  read_distinct [] (c ∷ cs) read apart = absurd read
  read_distinct (t ∷ ts) [] read apart = absurd read
  read_distinct (t ∷ ts) (c ∷ cs) read apart =
      let Apart : List LiveMessage → Type 0 = λ messages. AllApart (message_keys messages) in
      let here = live_messages use_fuzzy c in
      let later = map (live_messages use_fuzzy) cs in (
        record { reads = read.0; distinct = live_distinct c (All-head Apart here later apart) },
        read_distinct ts cs read.1 (All-tail Apart here later apart),
      )

-- the keys of each of two lists, one after the other
keys_after : (ks ls : List (List ℕ)) → AllApart (ks ++ ls) → AllApart ls
keys_after [] ls apart = apart
keys_after (k ∷ ks) ls apart = keys_after ks ls
    (λ i j d below inside. apart (suc i) (suc j) d (omega (arith, below)) (omega (arith, inside)))

keys_before : (ks ls : List (List ℕ)) → AllApart (ks ++ ls) → AllApart ks
keys_before ks ls apart =
    keys_after ls ks (apart_permuted (ks ++ ls) (ls ++ ks) (IsPermutation-append_comm ks ls) apart)

-- the keys of rows are those of the messages
module _ (inputs : List (List LiveMessage)) (rows : List Row)
    (all : IsPermutation (all_messages inputs) (map row_view rows)) where
  keys_moved : IsPermutation (input_keys (all_messages inputs)) (map row_key rows)
  keys_moved = subst (IsPermutation (input_keys (all_messages inputs)))
      (map-map (λ (m : InputMessage). m.message.key) row_view rows)
      (IsPermutation-map (λ (m : InputMessage). m.message.key) (all_messages inputs) (map row_view rows) all)

  pub rows_apart : AllApart (input_keys (all_messages inputs)) → AllApart (map row_key rows)
  rows_apart = apart_permuted (input_keys (all_messages inputs)) (map row_key rows) keys_moved

  pub sorted_keys : AllApart (map row_key rows) → AllApart (input_keys (all_messages inputs))
  sorted_keys = apart_permuted (map row_key rows) (input_keys (all_messages inputs))
      (IsPermutation-sym (input_keys (all_messages inputs)) (map row_key rows) keys_moved)

-- rows that are sorted
pub sorted_all : (inputs : List (List LiveMessage)) (rows sorted : List Row) → map row_view rows ≡ all_messages inputs
    → IsPermutation rows sorted → IsPermutation (all_messages inputs) (map row_view sorted)
sorted_all inputs rows sorted made permuted =
    subst (λ ms. IsPermutation ms (map row_view sorted)) made (IsPermutation-map row_view rows sorted permuted)

-- one header among messages that differ and are no headers
with_header : (headers others : List LiveMessage) → length headers ≤ 1 → All (λ m. has_no_key m ≡ true) headers
    → All (λ m. is_joined true m ≡ true) others → AllApart (message_keys others)
    → AllApart (message_keys (headers ++ others))
with_header [] others few none some apart = apart
with_header (h ∷ []) others few none some apart =
    let key : LiveMessage → List ℕ = λ m. m.key in
    AllPairs-cons (λ k l. k ≢ l) h.key (message_keys others)
    (All-map (λ k. h.key ≢ k) key others (All-weaker (λ m. is_joined true m ≡ true) (λ m. h.key ≢ m.key)
    (λ m is same. absurd (let empty = ap (λ k. length k == 0) (sym same)
    ∙ All-head (λ m. has_no_key m ≡ true) h [] none in let other =
    not-true (has_no_key m) is in cc (empty, other))) others some)) apart
with_header (h ∷ g ∷ headers) others few none some apart = absurd (omega (arith, few))

input_apart : (headed : Bool) (messages : List LiveMessage) → HasOneHeader messages
    → AllApart (message_keys (filter (is_joined headed) messages)) → AllApart (message_keys messages)
input_apart false messages one apart =
    subst (λ ms. AllApart (message_keys ms)) (all_pass (is_joined false) messages (λ k d below. refl)) apart
input_apart true messages one apart =
    let key : LiveMessage → List ℕ = λ m. m.key in
    let headers = filter has_no_key messages in
    let others = filter (is_joined true) messages in
    let parts = IsPermutation-filter_both has_no_key (is_joined true) (λ m. refl) messages in
    apart_permuted (message_keys (headers ++ others)) (message_keys messages)
    (IsPermutation-map key (headers ++ others) messages (IsPermutation-sym messages (headers ++ others) parts))
    (with_header headers others one (filter_passes has_no_key messages) (filter_passes (is_joined true) messages) apart)

each_apart : (input : ℕ) (headed : Bool) (inputs : List (List LiveMessage)) → All HasOneHeader inputs
    → AllApart (input_keys (joined_messages input headed inputs)) → EachApart inputs
each_apart input headed [] one apart = All-nil (λ messages. AllApart (message_keys messages))
each_apart input headed (messages ∷ inputs) one apart =
    let key : InputMessage → List ℕ = λ m. m.message.key in
    let kept = filter (is_joined headed) messages in
    let seen = headed || list_any has_no_key messages in
    let rest = joined_messages (input + 1) seen inputs in
    let split = map-append key (map (in_input_message input) kept) rest
    ∙ ap (λ ks. ks ++ input_keys rest) (map-map key (in_input_message input) kept) in
    let parts = subst AllApart split apart in
    All-cons (λ ms. AllApart (message_keys ms)) messages inputs
    (input_apart headed messages (All-head HasOneHeader messages inputs one)
    (keys_before (message_keys kept) (input_keys rest) parts))
    (each_apart (input + 1) seen inputs (All-tail HasOneHeader messages inputs one)
    (keys_after (message_keys kept) (input_keys rest) parts))

-- where no message repeats another of the joined list, and no input has two headers, none repeats
-- another of its input
pub inputs_apart : (inputs : List (List LiveMessage)) → All HasOneHeader inputs
    → AllApart (input_keys (all_messages inputs)) → EachApart inputs
inputs_apart inputs one apart = each_apart 0 false inputs one apart

-- messages that are apart have one header at most
one_header : (messages : List LiveMessage) → AllApart (message_keys messages) → HasOneHeader messages
one_header messages apart = few (filter has_no_key messages) (filter_passes has_no_key messages)
    (AllPairs-filter (λ (a b : LiveMessage). a.key ≢ b.key) has_no_key messages
    (pairs_of_map (λ k l. k ≢ l) (λ (m : LiveMessage). m.key) messages apart)) where
      few : (headers : List LiveMessage) → All (λ m. has_no_key m ≡ true) headers
          → AllPairs (λ (a b : LiveMessage). a.key ≢ b.key) headers → length headers ≤ 1
      few [] none apart = omega arith
      few (h ∷ []) none apart = omega arith
      few (h ∷ g ∷ headers) none apart =
          absurd (apart 0 1 h (omega arith) (omega arith)
          (empty_is h.key (none 0 h (omega arith)) ∙ sym (empty_is g.key (none 1 h (omega arith)))))

-- inputs in each of which the messages are apart have one header at most each
pub one_header_each : (inputs : List (List LiveMessage)) → EachApart inputs → All HasOneHeader inputs
one_header_each inputs apart =
    All-weaker (λ ms. AllApart (message_keys ms)) HasOneHeader one_header inputs apart

-- whether each input has one header at most, by what is answered of each
pub headers_counted : (inputs : List (List LiveMessage)) (r : Bool)
    → MatchBool r (AllWithin HasOneHeader inputs 0 (length inputs))
    ((k : ℕ) × (k < length inputs) × HoldsAt (λ messages. ¬ HasOneHeader messages) inputs k)
    → IsTrue r ↔ All HasOneHeader inputs
headers_counted inputs true counted = (λ _. All-from_all_within HasOneHeader inputs counted, λ _. refl)
headers_counted inputs false counted = (
  λ no. absurd (cc),
  λ one. absurd (counted.2 [] (one counted.0 [] counted.1)),
)

-- The first key that stands twice.

abbrev pub no_key : Bor (List ℕ)
no_key = record { ref_ptr = (0, 0); now = [] }

abbrev pub key_of : Bor (List ℕ) → List ℕ
key_of key = key.now

pub is_key : (keys : List (Bor (List ℕ))) (i : ℕ) → i < length keys
    → (get_or keys i no_key).now ≡ get_or (slice_texts keys) i (get_or keys i no_key).now
is_key keys i inside = sym (get_or-map key_of keys i no_key (get_or keys i no_key).now inside)

pub keys_more : (keys : List (Bor (List ℕ))) (i : ℕ) → i < length keys
    → slice_texts (take (i + 1) keys) ≡ slice_texts (take i keys) ++ (get_or keys i no_key).now ∷ []
keys_more keys i inside =
    ap slice_texts (take_more keys i no_key inside) ∙ map-append key_of (take i keys) (get_or keys i no_key ∷ [])

-- the keys before this index were seen, and no two of them are the same
pub record AreSeen (keys : List (List ℕ)) (n : ℕ) (seen : List (List ℕ)) : Type 0 where
  pub seen_are : seen ≡ take n keys
  pub apart : AllApart (take n keys)

module _ (keys : List (List ℕ)) (n : ℕ) (key : List ℕ) (seen new : List (List ℕ)) (first : ℕ)
    (inside : n < length keys) (here : key ≡ get_or keys n key) (so_far : AreSeen keys n seen)
    (new_is : new ≡ with_seen seen key) (first_is : first ≡ position_or_len (bytes_eq key) seen) where
  many : length seen ≡ n
  many = let long = ap length so_far.seen_are in omega (arith, long, length-take n keys, inside)

  taken : take (n + 1) keys ≡ seen ++ key ∷ []
  taken = take_more keys n key inside ∙ ap₂ (λ l k. l ++ k ∷ []) (sym so_far.seen_are) (sym here)

  unseen : first ≡ n → list_any (bytes_eq key) seen ≡ false
  unseen none = by (list_any (bytes_eq key) seen) refl where
    by : (b : Bool) → list_any (bytes_eq key) seen ≡ b → b ≡ false
    by true any = absurd (omega (arith, found_within (bytes_eq key) seen any, none, first_is, many))
    by false any = refl

  pub one_more : first ≡ n → AreSeen keys (n + 1) new
  one_more none = record {
    seen_are = new_is ∙ ap (λ (b : Bool). if b then seen else seen ++ key ∷ []) (unseen none) ∙ sym taken;
    apart = subst AllApart (sym taken)
        (all_pairs_push (λ k l. k ≢ l) seen key (subst AllApart (sym so_far.seen_are) so_far.apart) other);
  } where
    other : (k : ℕ) (d : List ℕ) → k < length seen → get_or seen k d ≢ key
    other k d below same =
        let passes = prefix_len_passes (λ x. not (bytes_eq key x)) seen k d
        (omega (arith, below, many, none, first_is)) in
        let equal = (bytes_eq-Decides key (get_or seen k d)).1 (sym same) in
        cc (passes, equal)

  pub repeated : first ≢ n → IsRepeatAt keys first n
  repeated other =
      let before : first < n =
      omega (arith, other, first_is, many, prefix_len-le-length (λ x. not (bytes_eq key x)) seen) in
      let equal = passes_at_first (bytes_eq key) seen [] (omega (arith, before, first_is, many)) in
      let seen_at : get_or seen first [] ≡ get_or keys first [] =
      ap (λ l. get_or l first []) so_far.seen_are ∙ get_or-take n keys first [] before in
      record {
        inside = inside;
        earlier = before;
        same = sym seen_at ∙ ap (λ k. get_or seen k []) first_is
            ∙ sym ((bytes_eq-Decides key (get_or seen (position_or_len (bytes_eq key) seen) [])).0 equal)
            ∙ here ∙ get_or_default keys n key [] inside;
        before = so_far.apart;
      }

pub repeat_found : (messages : List InputMessage) (n k : ℕ) → IsRepeatAt (input_keys messages) k n
    → (first later : InputMessage) → first ≡ get_or messages k first → later ≡ get_or messages n later
    → IsFirstRepeat HaveOneKey messages first later
repeat_found messages n k repeat first later first_is later_is =
    let key : InputMessage → List ℕ = λ m. m.message.key in
    let prefix = take n messages in
    let within : n < length messages = omega (arith, repeat.inside, length-map messages key) in
    let split : prefix ≡ take k prefix ++ first ∷ drop (suc k) prefix =
    split_at prefix k first (omega (arith, repeat.earlier, within, length-take n messages))
    ∙ ap (λ m. take k prefix ++ m ∷ drop (suc k) prefix) (get_or-take n messages k first repeat.earlier
    ∙ sym first_is) in
    record {
      before = take k prefix;
      between = drop (suc k) prefix;
      after = drop (suc n) messages;
      order = split_at messages n later within ∙ ap₂ (λ ms m. ms ++ m ∷ drop (suc n) messages) split (sym later_is);
      same = ap key first_is ∙ sym (get_or-map key messages k first [] (omega (arith, repeat.earlier, within)))
          ∙ repeat.same ∙ get_or-map key messages n later [] within ∙ ap key (sym later_is);
      differ = subst (AllPairs (λ a b. ¬ HaveOneKey a b)) split
          (pairs_of_map (λ a b. a ≢ b) key prefix (subst AllApart (take-map key n messages) repeat.before));
    }

-- one input alone
pub only_messages : (messages : List LiveMessage) → all_messages (messages ∷ []) ≡ map (in_input_message 0) messages
only_messages messages = append-nil (map (in_input_message 0) (filter (is_joined false) messages))
    ∙ ap (map (in_input_message 0)) (all_pass (is_joined false) messages (λ k d below. refl))

pub only_keys : (messages : List LiveMessage) → input_keys (all_messages (messages ∷ [])) ≡ message_keys messages
only_keys messages = let key : InputMessage → List ℕ =
    λ m. m.message.key in ap input_keys (only_messages messages) ∙ map-map key (in_input_message 0) messages
