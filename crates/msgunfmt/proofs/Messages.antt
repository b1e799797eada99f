-- The entries of messages, one after another, and what is wrong with one.
use Rattle.msgunfmt.proofs.Prelude.{All, All-cons, All-head, All-map, All-more, All-nil, All-tail, All-take, All-weaker, AreWrittenAs, Bool, EntryTextFault, ForbiddenByte, ForeignCharset, HasAdmittedCharset, HasForeignCharset, HasTexts, IfSome, IsCatalogueEntry, IsComment, IsEntry, IsFlag, IsMoFile, IsReference, IsText, IsTranslatorComment, IsUnformatFault, IsUtf8, Lacks, List, Message, Mo, MoFileOrFault, None, NotUtf8, Option, OutOfMemory, PoFault, RefusesEntry, RefusesMessages, Some, TextEntry, TextOrFault, UnformatError, [], ap, arith, context_of, entry_of_message, false, forbidden, forms, get_or, get_or_from_slice_get, id_of, inl, inr, is_nul, key_of, length, length-map, length-slice_split, not_utf8, originals, plain_entry, plural_of, quoted_texts, refl, slice_get, slice_get_within, subst, suc, sym, take, take_all, take_more, taken_forms, translations, true, unformatted, written_text, zero, ℕ, ◌&&◌, ◌++◌, ◌+◌, ◌<◌, ◌↔◌, ◌∙◌, ◌∷◌, ◌≡◌, ◌≢◌, ◌⊎◌}
use Rattle.mo_file.specs.declared.byte_order.Order.{Order}
use Rattle.po_entry.proofs.Headers.{all_settled, charset_settled, texts_or_fault}

-- the texts of an entry can stand in it
pub texts_of : (entry : TextEntry) → IsEntry entry → HasTexts entry
texts_of entry valid = record {
  utf8 = All-weaker IsText IsUtf8 (λ text t. t.utf8) (quoted_texts entry) valid.quoted_texts;
  clean = record {
    no_nul = All-weaker IsText (Lacks 0) (λ text t. t.no_nul) (quoted_texts entry) valid.quoted_texts;
    context = valid.context;
    id = valid.id;
  };
}

-- an entry without comments is one where its texts can stand in it
pub plain_valid : (context : Option (List ℕ)) (id : List ℕ) (plural : Option (List ℕ)) (forms : List (List ℕ))
    → All IsText (quoted_texts (plain_entry context id plural forms))
    → IfSome context (Lacks 4) → Lacks 4 id → 0 < length forms → (plural ≡ None → length forms ≡ 1)
    → IsEntry (plain_entry context id plural forms)
plain_valid context id plural forms texts no_eot also some one = record {
  quoted_texts = texts;
  comments = All-nil IsTranslatorComment;
  extracted = All-nil IsComment;
  references = All-nil IsReference;
  flags = All-nil IsFlag;
  distinct_flags = tt;
  context = no_eot;
  id = also;
  some_form = some;
  one_form = one;
}

some_taken : (plural : Option (List ℕ)) (pieces : List (List ℕ)) → 0 < length pieces
    → (0 < length (taken_forms plural pieces)) × (plural ≡ None → length (taken_forms plural pieces) ≡ 1)
some_taken plural [] some = absurd (omega arith)
some_taken None (piece ∷ pieces) some = (omega arith, λ e. refl)
some_taken (Some plural) (piece ∷ pieces) some = (omega arith, λ e. cc)

-- the entry of a message is one where its texts can stand in it
pub message_valid : (m : Message) → HasTexts (entry_of_message m) → IsEntry (entry_of_message m)
message_valid m texts =
    let taken = some_taken (plural_of m.original) (forms m.translation)
    (omega (arith, length-slice_split is_nul m.translation)) in
    let each : All IsText (quoted_texts (entry_of_message m)) =
    λ i d inside. record { utf8 = texts.utf8 i d inside; no_nul = texts.clean.no_nul i d inside } in
    plain_valid (context_of (key_of m.original)) (id_of (key_of m.original)) (plural_of m.original)
    (taken_forms (plural_of m.original) (forms m.translation)) each texts.clean.context texts.clean.id taken.0
    taken.1

-- the first entry that is refused
pub refused_messages : (messages : List Message) (entry : TextEntry) (i : ℕ)
    → slice_get (unformatted messages) i ≡ Some entry → All IsEntry (take i (unformatted messages))
    → (error : UnformatError) → RefusesEntry entry i error → RefusesMessages messages error
refused_messages messages entry i at before (Mo fault) why = absurd why
refused_messages messages entry i at before (NotUtf8 j) why =
    subst (λ k. RefusesMessages messages (NotUtf8 k)) (sym why.0)
    (record {
      entry = entry;
      is_entry = at;
      fault = why.1;
      before =
          All-weaker IsEntry HasTexts texts_of (take i (unformatted messages)) before;
    })
refused_messages messages entry i at before (ForbiddenByte j) why =
    subst (λ k. RefusesMessages messages (ForbiddenByte k)) (sym why.0)
    (record {
      entry = entry;
      is_entry = at;
      fault = why.1;
      before =
          All-weaker IsEntry HasTexts texts_of (take i (unformatted messages)) before;
    })
refused_messages messages entry i at before ForeignCharset why = absurd why
refused_messages messages entry i at before OutOfMemory why = tt

all_live : (messages : List Message) → All (λ e. e.obsolete ≡ false) (unformatted messages)
all_live messages = All-map (λ (e : TextEntry). e.obsolete ≡ false) entry_of_message messages (λ i d below. refl)

pub live_messages : (n : ℕ) (messages : List Message) → All (λ e. e.obsolete ≡ false) (take n (unformatted messages))
live_messages n messages =
    All-take (λ (e : TextEntry). e.obsolete ≡ false) n (unformatted messages) (all_live messages)

module _ (messages : List Message) (i : ℕ) (entry : TextEntry)
    (at : slice_get (unformatted messages) i ≡ Some entry) where
  inside : i < length (unformatted messages)
  inside = slice_get_within (unformatted messages) i entry at

  here : get_or (unformatted messages) i entry ≡ entry
  here = get_or_from_slice_get (unformatted messages) i entry entry at

  -- the entries up to this one
  pub one_more : take (i + 1) (unformatted messages) ≡ take i (unformatted messages) ++ entry ∷ []
  one_more = take_more (unformatted messages) i entry inside ∙ ap (λ e. take i (unformatted messages) ++ e ∷ []) here

  -- what holds of them
  pub all_more : (P : TextEntry → Type 0) → All P (take i (unformatted messages)) → P entry
      → All P (take (i + 1) (unformatted messages))
  all_more P before last = All-more P (unformatted messages) i entry inside before (subst P (sym here) last)

  pub live_message : entry.obsolete ≡ false
  live_message = subst (λ (e : TextEntry). e.obsolete ≡ false) here (all_live messages i entry inside)

  -- what doesn't hold of the entry doesn't hold of all
  pub not_all : (P : TextEntry → Type 0) → (P entry → ⊥) → All P (unformatted messages) → ⊥
  not_all P not all = not (subst P here (all i entry inside))

pub all_taken : (messages : List Message) → take (length messages) (unformatted messages) ≡ unformatted messages
all_taken messages = take_all (length messages) (unformatted messages)
    (omega (arith, length-map messages entry_of_message))

pub catalogue_entries : (entries : List TextEntry) → All IsEntry entries → All HasAdmittedCharset entries
    → All IsCatalogueEntry entries
catalogue_entries entries valid charsets =
    λ i d inside. record { valid = valid i d inside; charset = charsets i d inside }

-- the entry of a message, by its original and its translation
pub entry_of : (messages : List Message) (i : ℕ) (original translation : List ℕ)
    → slice_get (originals messages) i ≡ Some original → slice_get (translations messages) i ≡ Some translation
    → slice_get (unformatted messages) i
    ≡ Some (entry_of_message (record { original = original; translation = translation }))
entry_of [] i original translation first second = cc
entry_of (m ∷ messages) zero original translation first second =
    let same : m.original ≡ original = cc in
    let same' : m.translation ≡ translation = cc in
    ap (λ o. Some (entry_of_message (record { original = o; translation = m.translation }))) same
    ∙ ap (λ t. Some (entry_of_message (record { original = original; translation = t }))) same'
entry_of (m ∷ messages) (suc i) original translation first second =
    entry_of messages i original translation first second

module _ (messages : List Message) (i : ℕ) (entry : TextEntry)
    (at : slice_get (unformatted messages) i ≡ Some entry) where
  abbrev Admitted : ℕ → Type 0
  Admitted n = All HasAdmittedCharset (take n (unformatted messages))

  -- whether the charsets up to this entry's are admitted
  pub admitted_more : (all last : Bool) → ((last ≡ true) ↔ HasAdmittedCharset entry) → (all ≡ true → Admitted i)
      → (all && last) ≡ true → Admitted (i + 1)
  admitted_more true last decides before is =
      all_more messages i entry at HasAdmittedCharset (before refl) (decides.0 is)
  admitted_more false last decides before is = cc

  pub foreign_more : (all last : Bool) → ((last ≡ true) ↔ HasAdmittedCharset entry)
      → (all ≡ false → All HasAdmittedCharset (unformatted messages) → ⊥)
      → (all && last) ≡ false → All HasAdmittedCharset (unformatted messages) → ⊥
  foreign_more true last decides before is =
      not_all messages i entry at HasAdmittedCharset (λ admitted. let e = decides.1 admitted in cc)
  foreign_more false last decides before is = before refl

module _ (messages : List Message) (n : ℕ) (all : n ≡ length messages)
    (valid : All IsEntry (take n (unformatted messages))) where
  whole : take n (unformatted messages) ≡ unformatted messages
  whole = ap (λ k. take k (unformatted messages)) all ∙ all_taken messages

  every : All IsEntry (unformatted messages)
  every = subst (All IsEntry) whole valid

  pub all_written : (text : List ℕ) → text ≡ written_text (take n (unformatted messages))
      → All HasAdmittedCharset (take n (unformatted messages)) → AreWrittenAs text messages
  all_written text written admitted = record {
    valid = catalogue_entries (unformatted messages) every (subst (All HasAdmittedCharset) whole admitted);
    written = written ∙ ap written_text whole;
  }

  pub some_foreign : (All HasAdmittedCharset (unformatted messages) → ⊥) → HasForeignCharset messages
  some_foreign foreign = record
      { texts = All-weaker IsEntry HasTexts texts_of (unformatted messages) every; foreign = foreign }

-- All bytes have a text or a fault.

-- the first entry with a fault in its texts
record FirstFault (entries : List TextEntry) : Type 0 where
  i : ℕ
  kind : PoFault
  entry : TextEntry
  is_entry : slice_get entries i ≡ Some entry
  fault : EntryTextFault entry kind
  before : All HasTexts (take i entries)

first_fault : (entries : List TextEntry) → All HasTexts entries ⊎ FirstFault entries
first_fault [] = inl (All-nil HasTexts)
first_fault (entry ∷ entries) = elim (texts_or_fault entry) [
  | inl here ↦ elim (first_fault entries) [
    | inl rest ↦ inl (All-cons HasTexts entry entries here rest)
    | inr found ↦ inr (record {
      i = suc found.i;
      kind = found.kind;
      entry = found.entry;
      is_entry = found.is_entry;
      fault = found.fault;
      before = All-cons HasTexts entry (take found.i entries) here found.before;
    })
  ]
  | inr fault ↦ inr (record
      { i = 0; kind = fault.0; entry = entry; is_entry = refl; fault = fault.1; before = All-nil HasTexts })
]

-- it refuses the messages
refused : (messages : List Message) (i : ℕ) (entry : TextEntry) (kind : PoFault)
    → slice_get (unformatted messages) i ≡ Some entry → All HasTexts (take i (unformatted messages))
    → EntryTextFault entry kind
    → (error : UnformatError) × RefusesMessages messages error × (error ≢ OutOfMemory)
refused messages i entry _ is before (not_utf8 fault) =
    (NotUtf8 i, record { entry = entry; is_entry = is; fault = not_utf8 fault; before = before }, λ e. cc)
refused messages i entry _ is before (forbidden utf8 fault) =
    (ForbiddenByte i, record { entry = entry; is_entry = is; fault = forbidden utf8 fault; before = before }, λ e. cc)

message_entries : (messages : List Message) → All HasTexts (unformatted messages) → All IsEntry (unformatted messages)
message_entries [] all = All-nil IsEntry
message_entries (m ∷ messages) all =
    All-cons IsEntry (entry_of_message m) (unformatted messages)
    (message_valid m (All-head HasTexts (entry_of_message m) (unformatted messages) all))
    (message_entries messages (All-tail HasTexts (entry_of_message m) (unformatted messages) all))

-- messages are written or refused
settled_messages : (messages : List Message)
    → ((text : List ℕ) × AreWrittenAs text messages)
    ⊎ ((error : UnformatError) × RefusesMessages messages error × (error ≢ OutOfMemory))
settled_messages messages = elim (first_fault (unformatted messages)) [
  | inl all ↦ elim (all_settled HasAdmittedCharset charset_settled (unformatted messages)) [
    | inl admitted ↦ inl (
      written_text (unformatted messages),
      record {
        valid = catalogue_entries (unformatted messages) (message_entries messages all) admitted;
        written =
            refl;
      },
    )
    | inr foreign ↦ inr (ForeignCharset, record { texts = all; foreign = foreign }, λ e. cc)
  ]
  | inr found ↦ inr (refused messages found.i found.entry found.kind found.is_entry found.before found.fault)
]

pub in_file : (bytes : List ℕ) (error : UnformatError) (order : Order) (messages : List Message)
    → IsMoFile order bytes messages → RefusesMessages messages error → IsUnformatFault bytes error
in_file bytes (Mo fault) order messages valid why = absurd why
in_file bytes (NotUtf8 i) order messages valid why =
    record { order = order; messages = messages; valid = valid; holds = why }
in_file bytes (ForbiddenByte i) order messages valid why =
    record { order = order; messages = messages; valid = valid; holds = why }
in_file bytes ForeignCharset order messages valid why =
    record { order = order; messages = messages; valid = valid; holds = why }
in_file bytes OutOfMemory order messages valid why = tt

pub text_or_fault : MoFileOrFault → TextOrFault
text_or_fault settled bytes = elim (settled bytes) [
  | inl file ↦ elim (settled_messages file.1) [
    | inl written ↦ inl (written.0, record { order = file.0; messages = file.1; valid = file.2; holds = written.1 })
    | inr refused ↦ inr (refused.0, in_file bytes refused.0 file.0 file.1 file.2 refused.1, refused.2)
  ]
  | inr fault ↦ inr (Mo fault.0, fault.1, λ e. cc)
]
