-- What the groups of entries of one message are merged to.
use Rattle.msgcat.proofs.Prelude.{All, All-append, All-cons, All-filter, All-head, All-left, All-map, All-nil, All-right, Bool, Decides, ForeignCharset, HasAdmittedCharset, IsDefinition, IsGroup, IsMergeFault, IsPartWritten, IsTextOfMerged, List, MergeOptions, NamedEntry, PoError, TextEntry, [], all_pass, any_first_ones, ap, ap₂, arith, cases_Bool, cond, cond_both, definitions, definitions_by, false, false_from_ne_true, false≢true, filter, filter-append, first_ones, fold-append, get_or, groups, inl, inr, is_kept, is_live, is_of_part, length, list_any, list_any_at, map, map-append, merged_entry, merged_messages, none_pass, refl, same_message, subst, suc, sym, take, take_more, true, zero, ℕ, ◌++◌, ◌+◌, ◌<◌, ◌||◌, ◌∙◌, ◌∷◌, ◌≡◌, ◌≢◌, ◌⊎◌}
use Rattle.msgcat.proofs.SeenTexts.{group_of, same_message_laws}
use Rattle.std.specs.Prelude.{fold}
use Rattle.po_writer.specs.Prelude.{arranged, with_entry}
use Rattle.po_writer.proofs.WrittenLists.{joined}

pub some_passes : {X : Type 0} (p : X → Bool) (xs : List X) → list_any p xs ≡ true → 0 < length (filter p xs)
some_passes p [] h = absurd (false≢true h)
some_passes p (x ∷ xs) h =
    cond_both (p x) (x ∷ filter p xs) (filter p xs) (λ l. 0 < length l) (λ _. omega arith)
    (λ e. some_passes p xs (ap (λ (b : Bool). b || list_any p xs) (sym e) ∙ h))

pub any_same : {X : Type 0} (p q : X → Bool) → ((x : X) → p x ≡ q x) → (xs : List X) → list_any p xs ≡ list_any q xs
any_same p q h [] = refl
any_same p q h (x ∷ xs) = ap₂ (λ (a b : Bool). a || b) (h x) (any_same p q h xs)

pub groups_valid : (es : List NamedEntry) → All IsDefinition es → All IsGroup (groups es)
groups_valid es h = All-map IsGroup (group_of same_message es) F
    (λ k d below. valid_group (get_or F k d)
    (list_any_at (same_message (get_or F k d)) F k d below (same_message_laws.refl (get_or F k d)))) where
      F : List NamedEntry
      F = first_ones same_message es

      valid_group : (f : NamedEntry) → list_any (same_message f) (first_ones same_message es) ≡ true
          → IsGroup (group_of same_message es f)
      valid_group f met = record {
        some = some_passes (λ (e : NamedEntry). same_message e f) es
            (any_same (λ (e : NamedEntry). same_message e f) (same_message f) (λ e. same_message_laws.symm e f) es
            ∙ sym (any_first_ones same_message same_message_laws f es) ∙ met);
        valid = All-filter (λ e. same_message e f) IsDefinition es h;
      }

pub live_valid : (group : List NamedEntry) → IsGroup group → list_any (λ d. is_live d.entry) group ≡ true
    → IsGroup (filter (λ d. is_live d.entry) group)
live_valid group h live =
    record {
      some = some_passes (λ (d : NamedEntry). is_live d.entry) group live;
      valid =
          All-filter (λ d. is_live d.entry) IsDefinition group h.valid;
    }

pub definitions_some : {X : Type 0} (live : X → Bool) (group : List X) → 0 < length group
    → 0 < length (definitions_by live group)
definitions_some live group some =
    cond_both (list_any live group) (filter live group) group (λ l. 0 < length l) (some_passes live group) (λ _. some)

pub definitions_valid : (group : List NamedEntry) → IsGroup group → IsGroup (definitions group)
definitions_valid group h =
    cond_both (list_any (λ d. is_live d.entry) group) (filter (λ d. is_live d.entry) group) group IsGroup
    (live_valid group h) (λ _. h)

-- what is merged of one message
pub kept_one : (o : MergeOptions) (ds : List NamedEntry) → is_kept o ds ≡ true
    → merged_messages o (ds ∷ []) ≡ merged_entry o ds ∷ []
kept_one o ds some = ap (λ (b : Bool). map (merged_entry o) (cond b (ds ∷ []) [])) some

pub messages_append : (o : MergeOptions) (xs ys : List (List NamedEntry))
    → merged_messages o (xs ++ ys) ≡ merged_messages o xs ++ merged_messages o ys
messages_append o xs ys = ap (map (merged_entry o)) (filter-append (is_kept o) xs ys)
    ∙ map-append (merged_entry o) (filter (is_kept o) xs) (filter (is_kept o) ys)

-- what is merged of the messages up to one, and of that one
pub messages_more : (o : MergeOptions) (all : List (List NamedEntry)) (i : ℕ) → i < length all
    → merged_messages o (take i all) ++ merged_messages o (get_or all i [] ∷ []) ≡ merged_messages o (take (i + 1) all)
messages_more o all i inside =
    sym (ap (merged_messages o) (take_more all i [] inside) ∙ messages_append o (take i all) (get_or all i [] ∷ []))

-- entries among others that can't stand in a catalogue
within : (o : MergeOptions) (all : List (List NamedEntry)) (i : ℕ) → i < length all
    → All HasAdmittedCharset (merged_messages o all)
    → All HasAdmittedCharset (merged_messages o (get_or all i [] ∷ []))
within o [] i inside admitted = absurd (omega (arith, inside))
within o (g ∷ all) zero inside admitted =
    All-left HasAdmittedCharset (merged_messages o (g ∷ [])) (merged_messages o all)
    (subst (All HasAdmittedCharset) (messages_append o (g ∷ []) all) admitted)
within o (g ∷ all) (suc i) inside admitted =
    let less : i < length all = omega (arith, inside) in
    within o all i less (All-right HasAdmittedCharset (merged_messages o (g ∷ [])) (merged_messages o all)
    (subst (All HasAdmittedCharset) (messages_append o (g ∷ []) all) admitted))

pub fault_of_one : (o : MergeOptions) (all : List (List NamedEntry)) (i : ℕ) (error : PoError)
    → i < length all → IsMergeFault (merged_messages o (get_or all i [] ∷ [])) error
    → IsMergeFault (merged_messages o all) error
fault_of_one o all i error inside (inl memory) = inl memory
fault_of_one o all i error inside (inr foreign) =
    inr (λ admitted. foreign.0 (within o all i inside admitted), foreign.1)

-- an entry whose charset isn't admitted can't stand in a catalogue
pub foreign_one : (entry : TextEntry) → (HasAdmittedCharset entry → ⊥)
    → IsMergeFault (entry ∷ []) (record { kind = ForeignCharset; line = 0 })
foreign_one entry foreign = inr (λ all. foreign (All-head HasAdmittedCharset entry [] all), refl)

-- which entries are of a part
of_part : (part : Bool) (e : TextEntry) → Decides (is_of_part part e) (e.obsolete ≡ part)
of_part true e = grind arith
of_part false e = grind arith

-- what one message is merged to is obsolete or not, if it is kept
message_marked : (o : MergeOptions) (ds : List NamedEntry) (mark : Bool) → mark ≡ (merged_entry o ds).obsolete
    → All (λ e. e.obsolete ≡ mark) (merged_messages o (ds ∷ []))
message_marked o ds mark is =
    let Marked : TextEntry → Type 0 = λ e. e.obsolete ≡ mark in
    cond_both (is_kept o ds) (ds ∷ []) [] (λ l. All Marked (map (merged_entry o) l))
    (λ _. All-cons Marked (merged_entry o ds) [] (sym is) (All-nil Marked)) (λ _. All-nil Marked)

-- a part that is written, with those of more entries that are of it
written_more : (part : Bool) (entries more : List TextEntry) (before after new : List ℕ)
    → IsPartWritten part entries before after → new ≡ fold with_entry after (filter (is_of_part part) more)
    → All (λ e. e.obsolete ≡ part → HasAdmittedCharset e) more → IsPartWritten part (entries ++ more) before new
written_more part entries more before after new so_far is admitted = record {
  text_is =
      is ∙ ap (λ text. fold with_entry text (filter (is_of_part part) more)) so_far.text_is
      ∙ sym (fold-append with_entry before (filter (is_of_part part) entries) (filter (is_of_part part) more))
      ∙ ap (fold with_entry before) (sym (filter-append (is_of_part part) entries more));
  admitted = All-append (λ e. e.obsolete ≡ part → HasAdmittedCharset e) entries more so_far.admitted admitted;
}

-- one more message, whose entry is of the part or of the other
pub message_more : (o : MergeOptions) (all : List (List NamedEntry)) (i : ℕ) (part mark : Bool)
    (before after new : List ℕ) → i < length all → mark ≡ (merged_entry o (get_or all i [])).obsolete
    → IsPartWritten part (merged_messages o (take i all)) before after
    → ((mark ≡ part) × (new ≡ fold with_entry after (merged_messages o (get_or all i [] ∷ [])))
    × All HasAdmittedCharset (merged_messages o (get_or all i [] ∷ []))) ⊎ ((mark ≢ part) × (new ≡ after))
    → IsPartWritten part (merged_messages o (take (i + 1) all)) before new
message_more o all i part mark before after new inside marked so_far h =
    let one = merged_messages o (get_or all i [] ∷ []) in
    let marks = message_marked o (get_or all i []) mark marked in
    let more = written_more part (merged_messages o (take i all)) one before after new so_far in
    let of = λ (e : TextEntry). of_part part e in
    subst (λ l. IsPartWritten part l before new) (messages_more o all i inside) (elim h [
      | inl (own, is, admitted) ↦ more
          (is ∙ ap (fold with_entry after)
          (sym (all_pass (is_of_part part) one (λ k d below. (of (get_or one k d)).1 (marks k d below ∙ own)))))
          (λ k d below _. admitted k d below)
      | inr (other, is) ↦
          let none = λ (k : ℕ) (d : TextEntry) (below : k < length one) (p : (get_or one k d).obsolete ≡ part).
          other (sym (marks k d below) ∙ p) in
          more (is ∙ ap (fold with_entry after) (sym (none_pass (is_of_part part) one (λ k d below.
          false_from_ne_true (is_of_part part (get_or one k d)) (λ p. none k d below ((of (get_or one k d)).0 p))))))
          (λ k d below p. absurd (none k d below p))
    ])

-- both parts, one after the other
pub both_written : (entries : List TextEntry) (live all : List ℕ) → IsPartWritten false entries [] live
    → IsPartWritten true entries live all → IsTextOfMerged entries all
both_written entries live all first second = record {
  admitted = λ k d below. elim (cases_Bool (get_or entries k d).obsolete)
      [ inl is ↦ second.admitted k d below is | inr is ↦ first.admitted k d below is ];
  text_is = second.text_is ∙ ap (λ text. fold with_entry text (filter (is_of_part true) entries)) first.text_is
      ∙ sym (fold-append with_entry [] (filter (is_of_part false) entries) (filter (is_of_part true) entries))
      ∙ joined (arranged entries);
}
