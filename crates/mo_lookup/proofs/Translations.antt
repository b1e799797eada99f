-- The translation under the key of a query, by the index of the key among rising keys.
use Rattle.mo_lookup.proofs.Prelude.{All-from_get_or, AreRising, Bool, Equal, IsFirstByte, IsIndexOf, LacksNulAndEot, Less, List, MatchOption, Message, None, Option, Some, [], and_from, and_parts, ap, arith, can_be_key, cases_lt, equal_is_same, false, false_from_ne_true, find_at, form_at, forms, get_or, get_or-map, get_or_from_slice_get, has_no_separator, header_text, inl, inr, is_byte, is_separator, is_some, key_at, key_cmp, key_of, keys, length, length-map, less_is_other, list_any, list_any_at, list_any_none, ne_eqb, not, not-true, option_and_then, option_map, option_map_or, or_from, or_right, position_or_len, position_or_len_is, refl, rising_between, slice_get, slice_get-get_or, slice_get-map, slice_get_past, slice_get_within, subst, sym, translation_under, translations, true, ℕ, ◌<◌, ◌==◌, ◌↔◌, ◌∙◌, ◌∷◌, ◌≡◌, ◌≢◌}
use Rattle.std.specs.Str.{bytes_eq}
use Rattle.std.proofs.lemmas.Slice.Eq.{bytes_eq-Decides}

-- a text where no NUL is found has no separator where no EOT is found either
pub no_separator_by_eot : (text : List ℕ) (nul eot : Option ℕ) (no_nul no_eot : Bool) →
    IsFirstByte (is_byte 0) text nul → IsFirstByte (is_byte 4) text eot → is_some nul ≡ not no_nul → no_nul ≡ true →
    is_some eot ≡ not no_eot → no_eot ≡ has_no_separator text
no_separator_by_eot text (Some index) eot true no_eot first_nul first_eot is_nul none is_eot = absurd (cc)
no_separator_by_eot text nul eot false no_eot first_nul first_eot is_nul none is_eot = absurd (cc)
no_separator_by_eot text None (Some index) true true first_nul first_eot is_nul none is_eot = absurd (cc)
no_separator_by_eot text None (Some index) true false first_nul first_eot is_nul none is_eot =
    let inside = first_eot.0.high in
    ap not (sym (list_any_at is_separator text index 0 (omega arith)
    (or_right (get_or text index 0 == 0) _ first_eot.1)))
no_separator_by_eot text None None true false first_nul first_eot is_nul none is_eot = absurd (cc)
no_separator_by_eot text None None true true first_nul first_eot is_nul none is_eot =
    ap not
    (
    sym
    (
    list_any_none is_separator text
    (
    All-from_get_or (λ byte. is_separator byte ≡ false) text 0
    (λ i inside. or_from _ _ (false_from_ne_true _ (first_nul i (omega arith) inside))
    (false_from_ne_true _ (first_eot i (omega arith) inside)))
    )
    )
    )

-- a text without a separator lacks NUL and EOT
lacks : (text : List ℕ) → has_no_separator text ≡ true → LacksNulAndEot text
lacks text is i = (λ nul. separated 0 refl nul, λ eot. separated 4 refl eot)
  where
    none : list_any is_separator text ≡ false
    none = not-true (list_any is_separator text) is

    separated : (byte : ℕ) → is_separator byte ≡ true → slice_get text i ≡ Some byte → ⊥
    separated byte one there =
        let here : get_or text i 0 ≡ byte = get_or_from_slice_get text i byte 0 there in
        let some : list_any is_separator text ≡ true =
        list_any_at is_separator text i 0 (slice_get_within text i byte there) (ap is_separator here ∙ one) in
        cc

-- and a text that lacks them has none
has-none : (text : List ℕ) → LacksNulAndEot text → has_no_separator text ≡ true
has-none text lacking =
    ap not (list_any_none is_separator text (All-from_get_or (λ byte. is_separator byte ≡ false) text 0 other))
  where
    other : (i : ℕ) → i < length text → is_separator (get_or text i 0) ≡ false
    other i inside =
        let here = slice_get-get_or text i 0 inside in
        or_from _ _
        (ne_eqb (get_or text i 0) 0 (λ e. (lacking i).0 (here ∙ ap Some e)))
        (ne_eqb (get_or text i 0) 4 (λ e. (lacking i).1 (here ∙ ap Some e)))

pub key-alone : (id : List ℕ) → can_be_key None id ≡ true ↔ LacksNulAndEot id
key-alone id = (λ is. lacks id is, λ lacking. has-none id lacking)

pub key-in-context : (context id : List ℕ)
    → can_be_key (Some context) id ≡ true ↔ (LacksNulAndEot context × LacksNulAndEot id)
key-in-context context id = (
  λ is.
      let parts = and_parts (has_no_separator context) (has_no_separator id) is in
      (lacks context parts.0, lacks id parts.1),
  λ lacking. and_from _ _ (has-none context lacking.0) (has-none id lacking.1),
)

-- The translation under a key, by the index of the key among rising keys.

-- what is read after the end of a list of messages
no_message : Message
no_message = record { original = []; translation = [] }

key_at-original : (messages : List Message) (i : ℕ) → i < length messages →
    key_at (keys messages) i ≡ key_of (get_or messages i no_message).original
key_at-original messages i inside = get_or-map (λ m. key_of m.original) messages i no_message [] inside

-- a message is found by the test on its key exactly where its key is the one that is asked for
tested-other : (messages : List Message) (key : List ℕ) (i : ℕ) → i < length messages → key_at (keys messages) i ≢ key →
    bytes_eq (key_of (get_or messages i no_message).original) key ≡ false
tested-other messages key i inside other =
    let decides = bytes_eq-Decides (key_of (get_or messages i no_message).original) key in
    false_from_ne_true _ (λ same. other (key_at-original messages i inside ∙ decides.0 same))

tested-same : (messages : List Message) (key : List ℕ) (i : ℕ) → i < length messages → key_at (keys messages) i ≡ key →
    bytes_eq (key_of (get_or messages i no_message).original) key ≡ true
tested-same messages key i inside same =
    let decides = bytes_eq-Decides (key_of (get_or messages i no_message).original) key in
    decides.1 (sym (key_at-original messages i inside) ∙ same)

-- what is found is the message at the index of the first key that is the one
under-index : (messages : List Message) (key : List ℕ) (index : ℕ)
    → position_or_len (λ m. bytes_eq (key_of m.original) key) messages ≡ index →
    translation_under key messages ≡ slice_get (translations messages) index
under-index messages key index first =
    ap (option_map (λ m. m.translation))
    (find_at (λ m. bytes_eq (key_of m.original) key) messages ∙ ap (slice_get messages) first)
    ∙ sym (slice_get-map (λ m. m.translation) messages index)

-- where key i is the one, translation i stands under it
pub under-found : (messages : List Message) (key : List ℕ) (i : ℕ) → AreRising (keys messages)
    → i < length (keys messages) →
    key_at (keys messages) i ≡ key → translation_under key messages ≡ slice_get (translations messages) i
under-found messages key i rising inside same =
    let short : i < length messages = omega (arith, length-map messages (λ m. key_of m.original)) in
    let before : (k : ℕ) → k < i → key_at (keys messages) k ≢ key =
    λ k lt. rw (← same) (less_is_other _ _ (rising_between (keys messages) rising k i lt inside)) in
    under-index messages key i
    (
    position_or_len_is (λ m. bytes_eq (key_of m.original) key) messages i no_message (omega arith)
    (λ k lt. tested-other messages key k (omega arith) (before k lt)) (λ lt. tested-same messages key i lt same)
    )

-- where no key is the one, no translation stands under it
pub under-none : (messages : List Message) (key : List ℕ)
    → ((i : ℕ) → i < length (keys messages) → key_at (keys messages) i ≢ key) →
    translation_under key messages ≡ None
under-none messages key none =
    let same_length : length (keys messages) ≡ length messages = length-map messages (λ m. key_of m.original) in
    under-index messages key (length messages)
    (
    position_or_len_is (λ m. bytes_eq (key_of m.original) key) messages (length messages) no_message (omega arith)
    (λ k lt. tested-other messages key k lt (none k (omega arith))) (λ lt. absurd (omega arith))
    )
    ∙ slice_get_past (translations messages) (length messages) (omega (arith, length-map messages (λ m. m.translation)))

-- what a search of the keys finds
pub under-searched : (messages : List Message) (key : List ℕ) (index : Option ℕ) → AreRising (keys messages)
    → IsIndexOf (keys messages) key index →
    translation_under key messages ≡ option_and_then (slice_get (translations messages)) index
under-searched messages key None rising none = under-none messages key none
under-searched messages key (Some i) rising is = under-found messages key i rising is.0 is.1

-- the same for keys that are known to be those of the messages
pub under-listed : (listed : List (List ℕ)) (messages : List Message) (key : List ℕ) (index : Option ℕ)
    → listed ≡ keys messages →
    AreRising listed → IsIndexOf listed key index →
    translation_under key messages ≡ option_and_then (slice_get (translations messages)) index
under-listed listed messages key index are rising is =
    under-searched messages key index (rw are at rising) (rw are at is)

-- and the index is that of a message
pub index-listed : (listed : List (List ℕ)) (messages : List Message) (key : List ℕ) (index : Option ℕ)
    → listed ≡ keys messages →
    AreRising listed → IsIndexOf listed key index →
    MatchOption index (translation_under key messages ≡ None)
    (λ i. (i < length messages) × (translation_under key messages ≡ slice_get (translations messages) i))
index-listed listed messages key None are rising is = under-listed listed messages key None are rising is
index-listed listed messages key (Some i) are rising is = (
  omega (arith, is.0, ap length are, length-map messages (λ m. key_of m.original)),
  under-listed listed messages key (Some i) are rising is,
)

not_below_empty : (x : List ℕ) → key_cmp x [] ≢ Less
not_below_empty [] less = (cc)
not_below_empty (b ∷ bs) less = (cc)

-- where the first key isn't empty, none is
pub none-empty : (ks : List (List ℕ)) → AreRising ks → key_cmp (key_at ks 0) [] ≢ Equal → (i : ℕ) → i < length ks
    → key_at ks i ≢ []
none-empty ks rising unequal i inside empty =
    elim (cases_lt 0 i) [
      | inl after ↦
          let P : List ℕ → Type 0 = λ k. key_cmp (key_at ks 0) k ≡ Less in
          not_below_empty (key_at ks 0) (subst P empty (rising_between ks rising 0 i after inside))
      | inr first ↦
          let at : 0 ≡ i = omega arith in
          unequal (ap (λ k. key_cmp k []) (ap (key_at ks) at ∙ empty))
    ]

-- the header text, where the first key is empty
pub header-first : (messages : List Message) (translation : List ℕ) → AreRising (keys messages)
    → 0 < length (keys messages) →
    key_cmp (key_at (keys messages) 0) [] ≡ Equal → slice_get (translations messages) 0 ≡ Some translation →
    header_text messages ≡ form_at (forms translation) 0
header-first messages translation rising some equal first =
    ap (λ t. option_map_or (λ t. form_at (forms t) 0) t [])
    (under-found messages [] 0 rising some (equal_is_same (key_at (keys messages) 0) [] equal) ∙ first)

-- the header text, where no key is empty
pub header-none : (messages : List Message) → ((i : ℕ) → i < length (keys messages) → key_at (keys messages) i ≢ [])
    → header_text messages ≡ []
header-none messages none = ap (λ t. option_map_or (λ t. form_at (forms t) 0) t []) (under-none messages [] none)

-- both for keys that are known to be those of the messages
pub listed-header-first : (listed : List (List ℕ)) (messages : List Message) (translation : List ℕ)
    → listed ≡ keys messages →
    AreRising listed → 0 < length listed → key_cmp (key_at listed 0) [] ≡ Equal
    → slice_get (translations messages) 0 ≡ Some translation →
    header_text messages ≡ form_at (forms translation) 0
listed-header-first listed messages translation are rising some equal first =
    header-first messages translation (rw are at rising) (rw are at some) (rw are at equal) first

pub listed-header-none : (listed : List (List ℕ)) (messages : List Message) → listed ≡ keys messages → AreRising listed
    →
    (key_cmp (key_at listed 0) [] ≢ Equal) → header_text messages ≡ []
listed-header-none listed messages are rising unequal =
    header-none messages (rw are at (none-empty listed rising unequal))
