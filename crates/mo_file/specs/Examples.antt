-- What the definitions of this crate say of files that were worked out by hand (manual, "The Format of
-- GNU MO Files"): those of two messages and of one, and `file_of_two` with one byte changed, or cut.
-- tests/mutants/mo_file/definitions has a wrong form of each definition, which one of these refuses.
use Rattle.std.specs.Prelude.{◌≡◌, ◌≢◌, refl, ℕ, zero, suc, ◌+◌, ◌<◌, true, false, List, [], ◌∷◌, ◌++◌, Option, Some, None, map, take, set, codes, unwrap_or}
use Rattle.std.specs.Ordering.{ordering_index}
use Rattle.std.specs.declared.cmp.Ordering.TheVariants.{Less, Equal}
use Rattle.std.proofs.Common.{arith, ap, inl, inr}
use Rattle.mo_file.specs.declared.byte_order.Order.TheVariants.{Little, Big}
use Rattle.mo_file.specs.declared.byte_order.Order.{Order}
use Rattle.mo_file.specs.declared.fault.MoError.{MoError}
use Rattle.mo_file.specs.declared.fault.MoError.TheVariants.{TooShort, BadMagic, BadRevision, TableOutside, StringOutside, NoTerminator, NotSorted}
use Rattle.mo_file.specs.Pairs.{Message, originals, translations}
use Rattle.mo_file.specs.ByteOrder.{word_at, word_bytes}
use Rattle.mo_file.specs.FileHeader.{magic, HasMagicOf, revision, message_count, originals_table, translations_table}
use Rattle.mo_file.specs.Key.{is_nul, key_of, query_key, key_cmp, keys, key_at, AreRising}
use Rattle.mo_file.specs.MessageParts.{is_eot, context_of, id_of, forms, plural_of}
use Rattle.mo_file.specs.Writing.{terminated, table, header, originals_offset, translations_offset, layout}
use Rattle.mo_file.specs.Strings.{offset_at, end_at, string_at, original_at, translation_at, message_at, messages_of}
use Rattle.mo_file.specs.Fault.{IsOutside, IsUnterminated, IsNotRising, HasFaultIn, HasFault, kind, index, IsBefore, IsFirstFault, comparisons_before}
use Rattle.mo_file.specs.View.{FileView, IsMoFile}
use Rattle.mo_file.specs.Laws.{two_messages, one_message, file_of_two, big_file_of_one, OneMessageList, MoFileOrFault, OneFirstFault, NoFaultOfMoFile}

abbrev pub message_with_plural : Message
message_with_plural = record { original = codes "a" ++ 0 ∷ codes "as"; translation = codes "b" }

pub big_file_has_magic : HasMagicOf Big big_file_of_one
big_file_has_magic = refl

-- bytes 1 to 4 in either order; revision 1.2
pub words_of_file : (word_at Little (9 ∷ 1 ∷ 2 ∷ 3 ∷ 4 ∷ []) 1 ∷ word_at Big (9 ∷ 1 ∷ 2 ∷ 3 ∷ 4 ∷ []) 1 ∷ [] ≡ 67305985
    ∷ 16909060 ∷ [])
    × (revision Little (set (set file_of_two 4 2) 6 1) ≡ 65538)
    × (message_count Little file_of_two ≡ 2)
    × (originals_table Big big_file_of_one ∷ translations_table Big big_file_of_one ∷ [] ≡ 28 ∷ 36 ∷ [])
unfolding word_at
words_of_file = (refl, refl, refl, refl)

-- a prefix is below what is longer
pub keys_of_messages : (map is_nul (0 ∷ 4 ∷ 48 ∷ []) ≡ true ∷ false ∷ false ∷ [])
    × (key_of (97 ∷ 98 ∷ 0 ∷ 97 ∷ 0 ∷ []) ≡ codes "ab")
    × (query_key (Some (codes "c")) (codes "a") ∷ query_key (Some []) [] ∷ query_key None (codes "a") ∷ []
    ≡ (99 ∷ 4 ∷ 97 ∷ []) ∷ (4 ∷ []) ∷ (97 ∷ []) ∷ [])
    × (key_cmp (codes "ab") (codes "abc") ≡ Less)
    × (keys (message_with_plural ∷ two_messages) ≡ codes "a" ∷ codes "a" ∷ codes "b" ∷ [])
    × (key_at (codes "a" ∷ codes "b" ∷ []) 1 ≡ codes "b")
keys_of_messages = (refl, refl, refl, refl, refl, refl)

-- an EOT ends a context, and a NUL each other part
pub parts_of_strings : (map is_eot (0 ∷ 4 ∷ 48 ∷ []) ≡ false ∷ true ∷ false ∷ [])
    × (map context_of ((99 ∷ 4 ∷ 97 ∷ 4 ∷ []) ∷ (4 ∷ []) ∷ codes "a" ∷ []) ≡ Some (codes "c") ∷ Some [] ∷ None ∷ [])
    × (map id_of ((99 ∷ 4 ∷ 97 ∷ 4 ∷ []) ∷ (4 ∷ []) ∷ codes "a" ∷ []) ≡ (97 ∷ 4 ∷ []) ∷ [] ∷ codes "a" ∷ [])
    × (forms (120 ∷ 4 ∷ 0 ∷ 0 ∷ 121 ∷ []) ≡ (120 ∷ 4 ∷ []) ∷ [] ∷ (121 ∷ []) ∷ [])
    × (map plural_of ((97 ∷ 0 ∷ 98 ∷ 0 ∷ 99 ∷ []) ∷ codes "a" ∷ []) ≡ Some (codes "b") ∷ None ∷ [])
parts_of_strings = (refl, refl, refl, refl, refl)

next_rises : (i : ℕ) → i + 1 < 2
    → key_cmp (key_at (codes "a" ∷ codes "b" ∷ []) i) (key_at (codes "a" ∷ codes "b" ∷ []) (i + 1)) ≡ Less
next_rises zero less = refl
next_rises (suc i) less = absurd (omega (arith, less))

pub a_and_b_rise : AreRising (codes "a" ∷ codes "b" ∷ [])
a_and_b_rise = record { next = next_rises }

pub strings_of_messages : (originals two_messages ≡ codes "a" ∷ codes "b" ∷ [])
    × (translations two_messages ≡ codes "2" ∷ codes "1" ∷ [])
    × (terminated (codes "a" ∷ [] ∷ codes "b" ∷ []) ≡ 97 ∷ 0 ∷ 0 ∷ 98 ∷ 0 ∷ [])
    × (originals_offset two_messages ∷ translations_offset two_messages ∷ [] ≡ 60 ∷ 64 ∷ [])
strings_of_messages = (refl, refl, refl, refl)

pub files_are_laid_out : (word_bytes Little 258 ++ word_bytes Big 258 ≡ 2 ∷ 1 ∷ 0 ∷ 0 ∷ 0 ∷ 0 ∷ 1 ∷ 2 ∷ [])
    × (magic Little ++ magic Big ≡ 0xde ∷ 0x12 ∷ 0x04 ∷ 0x95 ∷ 0x95 ∷ 0x04 ∷ 0x12 ∷ 0xde ∷ [])
    × (table Little 60 (codes "ab" ∷ codes "c" ∷ []) ≡ 2 ∷ 0 ∷ 0 ∷ 0 ∷ 60 ∷ 0 ∷ 0 ∷ 0 ∷ 1 ∷ 0 ∷ 0 ∷ 0 ∷ 63 ∷ 0 ∷ 0 ∷ 0
    ∷ [])
    × (header Little 2 ≡ take 28 file_of_two)
    × (layout Little two_messages ++ layout Big one_message ≡ file_of_two ++ big_file_of_one)
unfolding word_bytes
files_are_laid_out = (refl, refl, refl, refl, refl)

pub strings_of_file : (offset_at Little file_of_two 28 1 ∷ end_at Little file_of_two 28 1 ∷ [] ≡ 62 ∷ 63 ∷ [])
    × (string_at Little file_of_two 28 1 ∷ original_at Little file_of_two 1 ∷ translation_at Little file_of_two 1 ∷ []
    ≡ codes "b" ∷ codes "b" ∷ codes "1" ∷ [])
    × (message_at Big big_file_of_one 0 ≡ record { original = codes "a"; translation = codes "b" })
    × (messages_of Little file_of_two ≡ two_messages)
unfolding word_at string_at messages_of
strings_of_file = (refl, refl, refl, refl)

-- without its last two bytes, of which the first is all of the second translation
below_67 : 66 < 67
below_67 = omega arith

pub translation_is_outside : IsOutside Little (take 66 file_of_two) 1
unfolding word_at
translation_is_outside = inr below_67

-- with 1 in place of the last NUL
one_is_no_nul : ◌≢◌ {A = Option ℕ} (Some 1) (Some 0)
one_is_no_nul e = absurd (omega (arith, ap (λ o. unwrap_or o 0) e))

pub translation_has_no_end : IsUnterminated Little (set file_of_two 67 1) 1
unfolding word_at
translation_has_no_end = inr one_is_no_nul

-- with both originals at offset 60
equal_is_not_less : Equal ≢ Less
equal_is_not_less e = absurd (omega (arith, ap ordering_index e))

pub keys_are_equal : IsNotRising Little (set file_of_two 40 60) 0
unfolding word_at string_at
keys_are_equal = equal_is_not_less

one_below_two : 1 < 2
one_below_two = omega arith

pub major_revision_2 : HasFaultIn Little (set file_of_two 6 2) BadRevision
unfolding word_at
major_revision_2 = one_below_two

zero_below_two : 0 < 2
zero_below_two = omega arith

-- the fault names the later of the two
pub second_is_not_sorted : HasFault (set file_of_two 40 60) (NotSorted 1)
unfolding word_at string_at
second_is_not_sorted = (Little, refl, (0, refl, one_below_two, equal_is_not_less))

pub no_file_of_27_bytes : HasFault (take 27 file_of_two) TooShort
no_file_of_27_bytes = omega arith

pub file_holds_two : (messages : List Message) → IsMoFile Little file_of_two messages → messages ≡ two_messages
unfolding word_at string_at messages_of
file_holds_two messages file = file.lists

abbrev pub view_of_two : FileView
view_of_two = record { bytes = file_of_two; messages = two_messages }

abbrev pub faults : List MoError
faults =
    TooShort ∷ BadMagic ∷ BadRevision ∷ TableOutside ∷ StringOutside 8 ∷ NoTerminator 8 ∷ NotSorted 8 ∷ []

pub faults_have_an_order : (map kind faults ≡ 1 ∷ 2 ∷ 3 ∷ 4 ∷ 5 ∷ 6 ∷ 7 ∷ [])
    × (map index faults ≡ 0 ∷ 0 ∷ 0 ∷ 0 ∷ 8 ∷ 8 ∷ 8 ∷ [])
    × (map comparisons_before faults ≡ 0 ∷ 0 ∷ 0 ∷ 0 ∷ 0 ∷ 0 ∷ 8 ∷ [])
faults_have_an_order = (refl, refl, refl)

-- the kind decides, and of one kind the message
pub outside_before_unterminated : IsBefore (StringOutside 9) (NoTerminator 3)
    × IsBefore (NoTerminator 3) (NoTerminator 4)
outside_before_unterminated = (inl (omega arith), inr (refl, omega arith))

pub revision_goes_first : (bytes : List ℕ) → IsFirstFault bytes (NotSorted 1) → HasFault bytes BadRevision → ⊥
revision_goes_first bytes is revised = is.first BadRevision (inl (omega arith)) revised

-- what follows from the laws: the one list of a file; that it is valid, where no fault is its first; the
-- one message that is named
pub one_list_of_file : (law : OneMessageList) (bytes : List ℕ) (messages others : List Message)
    → IsMoFile Little bytes messages → IsMoFile Big bytes others → messages ≡ others
one_list_of_file law bytes messages others little big = (law bytes Little Big messages others little big).1

pub valid_without_fault : (law : MoFileOrFault) (bytes : List ℕ) → ((fault : MoError) → IsFirstFault bytes fault → ⊥)
    → (order : Order) × (messages : List Message) × IsMoFile order bytes messages
valid_without_fault law bytes faultless =
    elim (law bytes) [ inl valid ↦ valid | inr first ↦ absurd (faultless first.0 first.1) ]

pub one_message_is_named : (law : OneFirstFault) (bytes : List ℕ) (i j : ℕ) → IsFirstFault bytes (NotSorted i)
    → IsFirstFault bytes (NotSorted j) → i ≡ j
one_message_is_named law bytes i j is other = ap index (law bytes (NotSorted i) (NotSorted j) is other)

pub file_of_two_has_no_fault : (law : NoFaultOfMoFile) (fault : MoError) → IsMoFile Little file_of_two two_messages
    → IsFirstFault file_of_two fault → ⊥
file_of_two_has_no_fault law fault file is = law file_of_two Little two_messages fault file is
