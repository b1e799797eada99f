-- What is laid out is a valid file, of whatever revision it is.
use Rattle.mo_file.proofs.Prelude.{AreRising, AreRisingBelow, FileHeader, HasMagicOf, HasStrings, IsHeader, IsKnownMajor, IsMoFile, KnownRevisionsAreValid, LayoutIsMoFile, List, Message, NoHashTableIsLaidOut, Order, Some, [], ap, append-nil, append_assoc, arith, drop, drop_at, hash_size, inl, inr, keys, layout, layout_of_revision, length, length-append, length-map, magic, message_at, message_count, messages_of, option_map, originals, originals_offset, originals_table, refl, revision, slice_get, slice_get-map, slice_get_cases, slice_get_past, subst, suc, sym, table, take, take_at, terminated, translations, translations_offset, translations_table, word_bytes, ℕ, ◌*◌, ◌++◌, ◌+◌, ◌/◌, ◌<◌, ◌^◌, ◌∙◌, ◌∷◌, ◌≡◌, ◌≤◌}
use Rattle.mo_file.specs.Laws.{first, zeroth}
use Rattle.mo_file.proofs.FileLayout.{IsString, IsString-laid_out, StandsAt, length-layout, length-magic, length-table, length-word_bytes, word_at-StandsAt}
use Rattle.mo_file.proofs.Faults.{faultless}
use Rattle.mo_file.proofs.RisingKeys.{keys-at, length-keys-messages_of, length-messages_of, messages_of-at}

-- two lists with the same message at each index
same_at_each : (xs ys : List Message) → ((i : ℕ) → slice_get xs i ≡ slice_get ys i) → xs ≡ ys
same_at_each [] [] same = refl
same_at_each [] (y ∷ ys) same = let first = same 0 in cc
same_at_each (x ∷ xs) [] same = let first = same 0 in cc
same_at_each (x ∷ xs) (y ∷ ys) same =
    let first = same 0 in
    let rest = same_at_each xs ys (λ i. same (suc i)) in
    cc

module _ (order : Order) (number : ℕ) (messages : List Message) where
  abbrev count : ℕ
  count = length messages

  -- the words of the header
  abbrev revision_word : List ℕ
  revision_word = word_bytes order number

  abbrev count_word : List ℕ
  count_word = word_bytes order count

  abbrev originals_word : List ℕ
  originals_word = word_bytes order 28

  abbrev translations_word : List ℕ
  translations_word = word_bytes order (28 + 8 * count)

  abbrev hash_words : List ℕ
  hash_words = word_bytes order 0 ++ word_bytes order (28 + 16 * count)

  -- the two tables, and the two rows of strings
  abbrev original_entries : List ℕ
  original_entries = table order (originals_offset messages) (originals messages)

  abbrev translation_entries : List ℕ
  translation_entries = table order (translations_offset messages) (translations messages)

  abbrev original_strings : List ℕ
  original_strings = terminated (originals messages)

  abbrev translation_strings : List ℕ
  translation_strings = terminated (translations messages)

  abbrev body : List ℕ
  body = original_entries ++ (translation_entries ++ (original_strings ++ translation_strings))

  abbrev bytes : List ℕ
  bytes = magic order ++ (revision_word
      ++ (count_word ++ (originals_word ++ (translations_word ++ (hash_words ++ body)))))

  abbrev header_words : List ℕ
  header_words = magic order ++ (revision_word ++ (count_word ++ (originals_word ++ (translations_word ++ hash_words))))

  header_length : length header_words ≡ 28
  header_length = simp (length-append, length-magic, length-word_bytes)

  bytes_length : length bytes ≡ 28 + 16 * count + length original_strings + length translation_strings
  bytes_length = simp (length-append, length-magic, length-word_bytes, length-table, length-map) (omega arith)

  -- a part of the layout
  stands : (prefix part rest : List ℕ) (offset : ℕ) → bytes ≡ prefix ++ (part ++ rest) → length prefix ≡ offset →
      StandsAt bytes offset part
  stands prefix part rest offset is after = record { prefix = prefix; rest = rest; is = is; after = after }

  shows : HasMagicOf order bytes
  shows =
      let rest = revision_word ++ (count_word ++ (originals_word ++ (translations_word ++ (hash_words ++ body)))) in
      take_at (magic order) rest 4 (length-magic order)

  revision_is : number < 2 ^ 32 → revision order bytes ≡ number
  revision_is below =
      let rest = count_word ++ (originals_word ++ (translations_word ++ (hash_words ++ body))) in
      word_at-StandsAt order bytes 4 number
      (stands (magic order) revision_word rest 4 (simp append_assoc) (length-magic order))
      below

  hash_size_is : hash_size order bytes ≡ 0
  hash_size_is =
      let prefix = magic order ++ (revision_word ++ (count_word ++ (originals_word ++ translations_word))) in
      let rest = word_bytes order (28 + 16 * count) ++ body in
      word_at-StandsAt order bytes 20 0
      (stands prefix (word_bytes order 0) rest 20 (simp append_assoc)
      (simp (length-append, length-magic, length-word_bytes)))
      (omega arith)

  module _ (fits : length bytes < 2 ^ 32) where
    small : 28 + 16 * count + length original_strings + length translation_strings < 2 ^ 32
    small = rw bytes_length at fits

    count_is : message_count order bytes ≡ count
    count_is =
        let prefix = magic order ++ revision_word in
        let rest = originals_word ++ (translations_word ++ (hash_words ++ body)) in
        word_at-StandsAt order bytes 8 count
        (stands prefix count_word rest 8 (simp append_assoc) (simp (length-append, length-magic, length-word_bytes)))
        (omega (arith, small))

    originals_table_is : originals_table order bytes ≡ 28
    originals_table_is =
        let prefix = magic order ++ (revision_word ++ count_word) in
        let rest = translations_word ++ (hash_words ++ body) in
        word_at-StandsAt order bytes 12 28
        (stands prefix originals_word rest 12 (simp append_assoc)
        (simp (length-append, length-magic, length-word_bytes)))
        (omega arith)

    translations_table_is : translations_table order bytes ≡ 28 + 8 * count
    translations_table_is =
        let prefix = magic order ++ (revision_word ++ (count_word ++ originals_word)) in
        word_at-StandsAt order bytes 16 (28 + 8 * count)
        (stands prefix translations_word (hash_words ++ body) 16 (simp append_assoc)
        (simp (length-append, length-magic, length-word_bytes)))
        (omega (arith, small))

    -- where the tables and the strings stand
    original_entries_stand : StandsAt bytes (originals_table order bytes) original_entries
    original_entries_stand =
        let prefix = header_words in
        let rest = translation_entries ++ (original_strings ++ translation_strings) in
        stands prefix original_entries rest (originals_table order bytes) (simp append_assoc)
        (header_length ∙ sym originals_table_is)

    translation_entries_stand : StandsAt bytes (translations_table order bytes) translation_entries
    translation_entries_stand =
        let prefix = header_words ++ original_entries in
        let rest = original_strings ++ translation_strings in
        stands prefix translation_entries rest (translations_table order bytes) (simp append_assoc)
        (simp (length-append, length-magic, length-word_bytes, length-table, length-map)
        (omega (arith, translations_table_is)))

    original_strings_stand : StandsAt bytes (originals_offset messages) original_strings
    original_strings_stand =
        let prefix = header_words ++ (original_entries ++ translation_entries) in
        stands prefix original_strings translation_strings (originals_offset messages) (simp append_assoc)
        (simp (length-append, length-magic, length-word_bytes, length-table, length-map) (omega arith))

    translation_strings_stand : StandsAt bytes (translations_offset messages) translation_strings
    translation_strings_stand =
        let prefix = header_words ++ (original_entries ++ (translation_entries ++ original_strings)) in
        stands prefix translation_strings [] (translations_offset messages) (simp (append_assoc, append-nil))
        (simp (length-append, length-magic, length-word_bytes, length-table, length-map) (omega arith))

    -- the strings of message i
    original_here : (i : ℕ) (m : Message) → slice_get messages i ≡ Some m →
        IsString order bytes (originals_table order bytes) i m.original
    original_here i m is =
        let original = λ (x : Message). x.original in
        IsString-laid_out order bytes (originals_table order bytes) (originals_offset messages)
        (originals messages) original_entries_stand
        original_strings_stand (omega (arith, small)) i m.original
        (slice_get-map original messages i ∙ ap (option_map original) is)

    translation_here : (i : ℕ) (m : Message) → slice_get messages i ≡ Some m →
        IsString order bytes (translations_table order bytes) i m.translation
    translation_here i m is =
        let translation = λ (x : Message). x.translation in
        IsString-laid_out order bytes (translations_table order bytes) (translations_offset messages)
        (translations messages) translation_entries_stand
        translation_strings_stand (omega (arith, small)) i m.translation
        (slice_get-map translation messages i ∙ ap (option_map translation) is)

    message_laid : (i : ℕ) (m : Message) → slice_get messages i ≡ Some m → message_at order bytes i ≡ m
    message_laid i m is = rw ((original_here i m is).string, (translation_here i m is).string)

    at_each : (i : ℕ) → slice_get messages i ≡ slice_get (messages_of order bytes) i
    at_each i =
        elim (slice_get_cases messages i).1 [
          | inl here ↦ let inside : i < message_count order bytes = omega (arith, count_is, here.1) in
              here.2 ∙ ap Some (sym (message_laid i here.0 here.2)) ∙ sym (messages_of-at order bytes i inside)
          | inr past ↦ past.1 ∙ sym
              (slice_get_past (messages_of order bytes) i
              (omega (arith, length-messages_of order bytes, count_is, past.0)))
        ]

    lists : messages ≡ messages_of order bytes
    lists = same_at_each messages (messages_of order bytes) at_each

    -- what the header of the layout is read as
    abbrev read_header : FileHeader
    read_header = record { order = order; count = count; originals = 28; translations = 28 + 8 * count }

    header_read : number / 65536 ≤ 1 → number < 2 ^ 32 → IsHeader read_header bytes
    header_read major below =
        let len = bytes_length in
        record {
          long = omega arith;
          shows = shows;
          known = rw (revision_is below) major;
          count = sym count_is;
          originals = sym originals_table_is;
          translations = sym translations_table_is;
          originals_inside = omega arith;
          translations_inside = omega arith;
        }

    -- each message is laid out with both its strings
    both_laid : (i : ℕ) → i < message_count order bytes →
        (m : Message) × (slice_get messages i ≡ Some m)
        × IsString order bytes (originals_table order bytes) i m.original
        × IsString order bytes (translations_table order bytes) i m.translation
    both_laid i lt =
        elim (slice_get_cases messages i).1 [
          | inl here ↦ (here.0, here.2, original_here i here.0 here.2, translation_here i here.0 here.2)
          | inr past ↦ absurd (omega (arith, count_is, past.0))
        ]

    strings_laid : HasStrings order bytes
    strings_laid = record {
      inside = λ i lt outside.
          let both = both_laid i lt in
          let original = both.2.inside in
          let translation = both.3.inside in
          elim outside [ inl h ↦ omega arith | inr h ↦ omega arith ];
      terminated = λ i lt unterminated.
          let both = both_laid i lt in
          elim unterminated [ inl h ↦ h both.2.terminated | inr h ↦ h both.3.terminated ];
    }

    sorted : AreRising (keys messages) → AreRisingBelow order bytes count
    sorted rising i lt unsorted =
        let P : List Message → Type 0 = λ ms. AreRising (keys ms) in
        let risen = subst P lists rising in
        let inside : i + 1 < message_count order bytes = omega (arith, count_is) in
        let listed : i + 1 < length (keys (messages_of order bytes)) =
        omega (arith, length-keys-messages_of order bytes) in
        unsorted (rw (keys-at order bytes i (omega arith), keys-at order bytes (i + 1) inside) at (risen.next i listed))

    file : AreRising (keys messages) → number / 65536 ≤ 1 → number < 2 ^ 32 → IsMoFile order bytes messages
    file rising major below = record {
      shows = shows;
      faultless = faultless read_header bytes (header_read major below) strings_laid (sorted rising);
      lists = lists;
    }

  -- the same bytes, as definitions put them together
  is_of_revision : layout_of_revision order number messages ≡ bytes
  is_of_revision =
      let rest = count_word ++ (originals_word ++ (translations_word ++ (hash_words ++ body))) in
      let whole : layout order messages ≡ (magic order ++ word_bytes order 0) ++ rest = simp append_assoc in
      let front : layout order messages ≡ magic order ++ (word_bytes order 0 ++ rest) = simp append_assoc in
      let first : take 4 (layout order messages) ≡ magic order =
      rw front (take_at (magic order) (word_bytes order 0 ++ rest) 4 (length-magic order)) in
      let last : drop 8 (layout order messages) ≡ rest =
      rw whole (drop_at (magic order ++ word_bytes order 0) rest 8
      (simp (length-append, length-magic, length-word_bytes))) in
      rw (first, last) (simp append_assoc)

is_laid_out : (order : Order) (messages : List Message) → layout order messages ≡ bytes order 0 messages
is_laid_out order messages = simp append_assoc

pub layout_is_mo_file : LayoutIsMoFile
layout_is_mo_file order messages rising fits =
    let is = is_laid_out order messages in
    rw is (file order 0 messages (rw is at fits) rising (omega arith) (omega arith))

pub no_hash_table_is_laid_out : NoHashTableIsLaidOut
no_hash_table_is_laid_out order messages fits = rw (is_laid_out order messages) (hash_size_is order 0 messages)

known_major : (major minor : ℕ) → IsKnownMajor major → minor < 65536
    → ((65536 * major + minor) / 65536 ≤ 1) × (65536 * major + minor < 2 ^ 32)
known_major major minor zeroth below = (omega arith, omega arith)
known_major major minor first below = (omega arith, omega arith)

pub known_revisions_are_valid : KnownRevisionsAreValid
known_revisions_are_valid order major minor messages known below rising fits =
    let number = 65536 * major + minor in
    let major_is = known_major major minor known below in
    let same : length (bytes order number messages) ≡ length (layout order messages) =
    bytes_length order number messages ∙ sym (length-layout order messages) in
    rw (is_of_revision order number messages) (file order number messages (omega arith) rising major_is.0 major_is.1)
