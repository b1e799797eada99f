-- Files whose keys are in any order, and the expanded file, which is valid.
use Rattle.mo_expand.proofs.Prelude.{AllPairs, AreRising, AreRising-messages_of, BorrowedPair, ExpandedFileIsMoFile, HasMagicOf, HaveDistinctKeys, IsFileInAnyOrder, IsMoFile, IsPermutation, IsPermutation-map, IsSortedBy, List, Message, NotSorted, Order, StringOutside, TableOutside, TooShort, ap, borrowed_message, bytes_eq, bytes_eq-Decides, end_at, inl, inr, is_lt, key_by, key_cmp, key_of, keys, keys-by, layout_is_mo_file, length, message_count, messages_of, messages_of_borrowed, nat_list_eq_equiv, originals_table, refl, rising-from_sorted, subst, sym, system_messages, translations_table, with_messages, ℕ, ◌*◌, ◌+◌, ◌<◌, ◌∙◌, ◌≡◌, ◌≢◌, ◌≤◌}
use Rattle.mo_file.proofs.Faults.{HasMagicOf-unique, not_below}
use Rattle.std.proofs.lemmas.Map.Keys.{IsDistinct-IsPermutation}
use Rattle.std.proofs.lemmas.Map.Made.{AllPairs-from_IsDistinct, IsDistinct-from_AllPairs}
use Rattle.mo_expand.proofs.AddedMessages.{rising-with_messages}

-- what holds of the messages that a file has in the byte order that it shows
pub shown : (bytes : List ℕ) (order : Order) (P : Order → List Message → Type 0) → HasMagicOf order bytes
    → P order (messages_of order bytes) → (order' : Order) (messages : List Message)
    → IsFileInAnyOrder order' bytes messages → P order' messages
shown bytes order P shows holds order' messages file =
    let one : order' ≡ order = HasMagicOf-unique bytes order order' shows file.shows in
    let listed : messages ≡ messages_of order bytes = file.lists ∙ ap (λ o. messages_of o bytes) one in
    subst (λ o. P o messages) (sym one) (subst (P order) (sym listed) holds)

module _ (order : Order) (bytes : List ℕ) (messages : List Message) (file : IsFileInAnyOrder order bytes messages) where
  pub has_header : 28 ≤ length bytes
  has_header = not_below _ _ (file.faults TooShort)

  pub originals-inside : originals_table order bytes + 8 * message_count order bytes ≤ length bytes
  originals-inside = not_below _ _ (λ less. file.faults TableOutside (order, file.shows, inl less))

  pub translations-inside : translations_table order bytes + 8 * message_count order bytes ≤ length bytes
  translations-inside = not_below _ _ (λ less. file.faults TableOutside (order, file.shows, inr less))

  pub original-inside : (i : ℕ) → i < message_count order bytes
      → end_at order bytes (originals_table order bytes) i ≤ length bytes
  original-inside i counted =
      not_below _ _ (λ less. file.faults (StringOutside i) (order, file.shows, (counted, inl less)))

  pub translation-inside : (i : ℕ) → i < message_count order bytes
      → end_at order bytes (translations_table order bytes) i ≤ length bytes
  translation-inside i counted =
      not_below _ _ (λ less. file.faults (StringOutside i) (order, file.shows, (counted, inr less)))

-- the key of a message in a list
abbrev pub listed_key : BorrowedPair → List ℕ
listed_key m = key_by borrowed_message m

-- sorted keys rise where no two are equal
rising-sorted : (list : List BorrowedPair)
    → IsSortedBy (λ a b. is_lt (key_cmp (listed_key a) (listed_key b))) list
    → HaveDistinctKeys (messages_of_borrowed list) → AreRising (keys (messages_of_borrowed list))
rising-sorted list sorted apart =
    let same = keys-by borrowed_message list in
    subst AreRising (sym same)
    (rising-from_sorted listed_key list sorted (subst (λ ks. AllPairs (λ a b. a ≢ b) ks) same apart))

-- the keys of the same messages in another order differ too
pub distinct-permuted : (messages others : List Message) → IsPermutation messages others
    → HaveDistinctKeys messages → HaveDistinctKeys others
distinct-permuted messages others permuted apart =
    AllPairs-from_IsDistinct bytes_eq-Decides (keys others)
    (IsDistinct-IsPermutation bytes_eq nat_list_eq_equiv.symm (keys messages) (keys others)
    (IsPermutation-map (λ (m : Message). key_of m.original) messages others permuted)
    (IsDistinct-from_AllPairs bytes_eq-Decides (keys messages) apart))

-- sorted messages whose keys don't rise: not all keys of the messages differ
pub not_distinct : (messages : List Message) (list : List BorrowedPair)
    → IsPermutation messages (messages_of_borrowed list)
    → IsSortedBy (λ a b. is_lt (key_cmp (listed_key a) (listed_key b))) list
    → ¬ AreRising (keys (messages_of_borrowed list)) → ¬ HaveDistinctKeys messages
not_distinct messages list permuted sorted falls apart =
    falls (rising-sorted list sorted (distinct-permuted messages (messages_of_borrowed list) permuted apart))

-- the messages of a list, and those of the list that is sorted
pub sorted-messages : (messages : List Message) (list sorted : List BorrowedPair)
    → messages_of_borrowed list ≡ messages → IsPermutation list sorted
    → IsPermutation messages (messages_of_borrowed sorted)
sorted-messages messages list sorted listed permuted =
    subst (λ ms. IsPermutation ms (messages_of_borrowed sorted)) listed
    (IsPermutation-map borrowed_message list sorted permuted)

pub rising : (order : Order) (bytes : List ℕ) (messages : List Message) → IsMoFile order bytes messages
    → AreRising (keys messages)
rising order bytes messages is =
    let P : List Message → Type 0 = λ ms. AreRising (keys ms) in
    subst P (sym is.lists) (AreRising-messages_of order bytes
    (λ i inside not. is.faultless (NotSorted (i + 1)) (order, is.shows, (i, refl, inside, not))))

pub expanded_file_is_mo_file : ExpandedFileIsMoFile
expanded_file_is_mo_file order bytes texts messages is fits =
    layout_is_mo_file order (with_messages messages (system_messages order bytes texts))
    (rising-with_messages messages (system_messages order bytes texts) (rising order bytes messages is)) fits
