-- The messages of entries that are live and compiled, and the keys, originals and translations they have.
use Rattle.po_compile.proofs.Prelude.{All, All-append, All-cons, All-head, All-tail, Bool, Decides, Decides-and, Decides-like, IfSome, InputMessage, IsToBeCompiled, IsTranslated, KeepsCompiled, Lacks, List, LiveMessage, MayBeUsed, None, Option, Row, Some, TextEntry, [], and_parts, ap, append-nil, arith, asked_for, before_all, before_is, compiled as keeps_entry, compiled_list, cond, cond_both, context_cut, context_none, context_of, eqb-true, false, false≢true, filter, filter-append, filter_map, first_form, get_or, get_or-append-add, has_translation, header, id_all, id_cut, id_of, inl, inr, is_compiled, is_header, is_live, is_none, is_nul, join_with_byte, key_of, length, length-append, length-map, list_any, live_message, live_messages, lt-ltb, map, map-append, map-map, nat_lt, ne_eqb, none, not, not-true, not_from_Decides, not_from_false, not_fuzzy, omitted as omits_entry, or_cases, or_left, or_right, plural_part, query_key, refl, row_view, slice_split, split_cut, split_none, sym, take, take_more, true, without_comments, ℕ, ◌&&◌, ◌++◌, ◌+◌, ◌<◌, ◌==◌, ◌||◌, ◌∙◌, ◌∷◌, ◌≡◌, ◌≢◌}
use Rattle.std.proofs.Math.ListN.{get_or-map}

pub key_of-plural_part : (key : List ℕ) (plural : Option (List ℕ)) → Lacks 0 key
    → key_of (key ++ plural_part plural) ≡ key
key_of-plural_part key None lacks = ap key_of (append-nil key) ∙ before_all 0 key lacks
key_of-plural_part key (Some plural) lacks = before_is 0 key plural lacks

-- a key holds no NUL where its context and msgid hold none
pub query_key_lacks : (context : Option (List ℕ)) (id : List ℕ) → IfSome context (Lacks 0) → Lacks 0 id
    → Lacks 0 (query_key context id)
query_key_lacks None id c i = i
query_key_lacks (Some context) id c i =
    All-append (λ b. b ≢ 0) context (4 ∷ id) c (All-cons (λ b. b ≢ 0) 4 id (λ e. cc) i)

split_at_eot : (a b : List ℕ) (x y : List ℕ) → Lacks 4 a → Lacks 4 b → a ++ 4 ∷ x ≡ b ++ 4 ∷ y → (a ≡ b) × (x ≡ y)
split_at_eot [] [] x y la lb e = (refl, cc)
split_at_eot [] (b ∷ bs) x y la lb e = let h : b ≡ 4 = cc in absurd (All-head (λ b. b ≢ 4) b bs lb h)
split_at_eot (a ∷ as') [] x y la lb e = let h : a ≡ 4 = cc in absurd (All-head (λ b. b ≢ 4) a as' la h)
split_at_eot (a ∷ as') (b ∷ bs) x y la lb e =
    let head : a ≡ b = cc in
    let tail : as' ++ 4 ∷ x ≡ bs ++ 4 ∷ y = cc in
    let rest = split_at_eot as' bs x y (All-tail (λ b. b ≢ 4) a as' la) (All-tail (λ b. b ≢ 4) b bs lb) tail in
    (cc (head, rest.0), rest.1)

no_eot_within : (a x y : List ℕ) → Lacks 4 a → a ≡ x ++ 4 ∷ y → ⊥
no_eot_within a x y lacks e =
    let here : get_or a (length x) 0 ≡ 4 = ap (λ l. get_or l (length x) 0) e
    ∙ (let z : length x ≡ length x + 0 = omega arith in ap (λ n. get_or (x ++ 4 ∷ y) n 0) z
    ∙ get_or-append-add x (4 ∷ y) 0 0) in
    lacks (length x) 0 (omega (arith, ap length e, length-append x (4 ∷ y))) here

-- a key without separators is that of one context and one msgid
pub query_key_is_one : (c d : Option (List ℕ)) (i j : List ℕ) → IfSome c (Lacks 4) → IfSome d (Lacks 4) → Lacks 4 i
    → Lacks 4 j
    → query_key c i ≡ query_key d j → (c ≡ d) × (i ≡ j)
query_key_is_one None None i j lc ld li lj e = (refl, e)
query_key_is_one None (Some d) i j lc ld li lj e = absurd (no_eot_within i d j li e)
query_key_is_one (Some c) None i j lc ld li lj e = absurd (no_eot_within j c i lj (sym e))
query_key_is_one (Some c) (Some d) i j lc ld li lj e = let s = split_at_eot c d i j lc ld e in (ap Some s.0, s.1)

-- the pieces between the NULs of a translation are the forms
pub slice_split-join : (form : List ℕ) (forms : List (List ℕ)) → All (Lacks 0) (form ∷ forms)
    → slice_split is_nul (join_with_byte 0 (form ∷ forms)) ≡ form ∷ forms
slice_split-join form [] lacks = split_none 0 form (All-head (Lacks 0) form [] lacks)
slice_split-join form (next ∷ forms) lacks =
    split_cut 0 form (join_with_byte 0 (next ∷ forms)) (All-head (Lacks 0) form (next ∷ forms) lacks)
    ∙ ap (λ l. form ∷ l) (slice_split-join next forms (All-tail (Lacks 0) form (next ∷ forms) lacks))

-- the context and the msgid of a key are those that it was made of
pub context_back : (context : Option (List ℕ)) (id : List ℕ) → IfSome context (Lacks 4) → Lacks 4 id
    → context_of (query_key context id) ≡ context
context_back None id lacks lacks' = context_none id lacks'
context_back (Some context) id lacks lacks' = context_cut context id lacks

pub id_back : (context : Option (List ℕ)) (id : List ℕ) → IfSome context (Lacks 4) → Lacks 4 id
    → id_of (query_key context id) ≡ id
id_back None id lacks lacks' = id_all id lacks'
id_back (Some context) id lacks lacks' = id_cut context id lacks

-- one is there where some are
pub any_counted : {X : Type 0} (p : X → Bool) (xs : List X) → nat_lt 0 (length (filter p xs)) ≡ list_any p xs
any_counted p [] = refl
any_counted p (x ∷ xs) = one (p x) (any_counted p xs) where
  one : (b : Bool) → nat_lt 0 (length (filter p xs)) ≡ list_any p xs
      → nat_lt 0 (length (cond b (x ∷ filter p xs) (filter p xs))) ≡ (b || list_any p xs)
  one true later = lt-ltb 0 (length (x ∷ filter p xs)) (omega arith)
  one false later = later

-- comments make no difference
pub uncommented : (use_fuzzy : Bool) (entries : List TextEntry)
    → live_messages use_fuzzy (map without_comments entries) ≡ live_messages use_fuzzy entries
uncommented use_fuzzy entries =
    ap (map (live_message use_fuzzy)) (filter_map is_live without_comments entries)
    ∙ map-map (live_message use_fuzzy) without_comments (filter is_live entries)

-- there are as many messages as live entries
pub as_many : (use_fuzzy : Bool) (entries : List TextEntry) (messages : List LiveMessage)
    → map (live_message use_fuzzy) entries ≡ messages → length messages ≡ length entries
as_many use_fuzzy entries messages are = sym (ap length are) ∙ length-map entries (live_message use_fuzzy)

-- the message of the live entry at an index
pub message_at : (use_fuzzy : Bool) (entries : List TextEntry) (messages : List LiveMessage) (i : ℕ)
    (entry : TextEntry) → map (live_message use_fuzzy) entries ≡ messages
    → ((other : TextEntry) → entry ≡ get_or entries i other)
    → get_or messages i (live_message use_fuzzy entry) ≡ live_message use_fuzzy entry
message_at use_fuzzy entries messages i entry are is =
    ap (λ ms. get_or ms i (live_message use_fuzzy entry)) (sym are)
    ∙ get_or-map (live_message use_fuzzy) entries i entry ∙ ap (live_message use_fuzzy) (sym (is entry))

-- The test of an entry says whether it is to be compiled.

translated_says : (entry : TextEntry) → has_translation entry ≡ true → IsTranslated entry
translated_says entry e = by_forms entry.forms refl e where
  by_forms : (forms : List (List ℕ)) → entry.forms ≡ forms → not (length (first_form forms) == 0) ≡ true
      → IsTranslated entry
  by_forms [] is e = absurd (cc)
  by_forms ([] ∷ forms) is e = absurd (cc)
  by_forms ((byte ∷ form) ∷ forms) is e = record { byte = byte; form = form; forms = forms; forms_are = is }

translated_passes : (entry : TextEntry) → IsTranslated entry → has_translation entry ≡ true
translated_passes entry h =
    let some : (length (h.byte ∷ h.form) == 0) ≡ false = ne_eqb (length (h.byte ∷ h.form)) 0 (λ e. omega (arith, e)) in
    ap (λ forms. not (length (first_form forms) == 0)) h.forms_are ∙ not_from_false (length (h.byte ∷ h.form) == 0) some

header_says : (context : Option (List ℕ)) (id : List ℕ) → (is_none context && length id == 0) ≡ true
    → (context ≡ None) × (id ≡ [])
header_says None [] e = (refl, refl)
header_says None (b ∷ id) e =
    absurd (omega (arith, eqb-true (length (b ∷ id)) 0 (and_parts true (length (b ∷ id) == 0) e).1))
header_says (Some context) id e = absurd (false≢true (and_parts false (length id == 0) e).0)

used_says : (use_fuzzy : Bool) (entry : TextEntry) → (use_fuzzy || not entry.fuzzy || is_header entry) ≡ true
    → MayBeUsed use_fuzzy entry
used_says use_fuzzy entry e =
    elim (or_cases (use_fuzzy || not entry.fuzzy) (is_header entry) e) [
      | inl first ↦ elim (or_cases use_fuzzy (not entry.fuzzy) first)
          [ inl asked ↦ asked_for asked | inr other ↦ not_fuzzy (not-true entry.fuzzy other) ]
      | inr is ↦ let parts = header_says entry.context entry.id is in header parts.0 parts.1
    ]

used_passes : (use_fuzzy : Bool) (entry : TextEntry) → MayBeUsed use_fuzzy entry
    → (use_fuzzy || not entry.fuzzy || is_header entry) ≡ true
used_passes use_fuzzy entry (not_fuzzy is) =
    or_left (use_fuzzy || not entry.fuzzy) (is_header entry)
    (or_right use_fuzzy (not entry.fuzzy) (not_from_false entry.fuzzy is))
used_passes use_fuzzy entry (asked_for is) =
    or_left (use_fuzzy || not entry.fuzzy) (is_header entry) (or_left use_fuzzy (not entry.fuzzy) is)
used_passes use_fuzzy entry (header context id) =
    or_right (use_fuzzy || not entry.fuzzy) (is_header entry) (rw (context, id) refl)

decided : (use_fuzzy : Bool) (entry : TextEntry)
    → Decides (is_compiled use_fuzzy entry) (IsToBeCompiled use_fuzzy entry)
decided use_fuzzy entry =
    let used = use_fuzzy || not entry.fuzzy || is_header entry in
    let translated : Decides (has_translation entry) (IsTranslated entry) =
    (translated_says entry, translated_passes entry) in
    let may : Decides used (MayBeUsed use_fuzzy entry) = (used_says use_fuzzy entry, used_passes use_fuzzy entry) in
    let live : Decides (not entry.obsolete) (entry.obsolete ≡ false) =
    (not-true entry.obsolete, not_from_false entry.obsolete) in
    Decides-like (is_compiled use_fuzzy entry) (λ h. record { live = h.0; translated = h.1.0; used = h.1.1 })
    (λ h. (h.live, (h.translated, h.used)))
    (Decides-and (not entry.obsolete) (has_translation entry && used) live
    (Decides-and (has_translation entry) used translated may))

pub compiled_list_is_kept : (use_fuzzy : Bool) (entries : List TextEntry)
    → KeepsCompiled use_fuzzy entries (compiled_list use_fuzzy entries)
compiled_list_is_kept use_fuzzy [] = none
compiled_list_is_kept use_fuzzy (entry ∷ entries) =
    let others = compiled_list_is_kept use_fuzzy entries in
    cond_both (is_compiled use_fuzzy entry) (entry ∷ compiled_list use_fuzzy entries) (compiled_list use_fuzzy entries)
    (KeepsCompiled use_fuzzy (entry ∷ entries))
    (λ is. keeps_entry ((decided use_fuzzy entry).0 is) others)
    (λ other. omits_entry (not_from_Decides (is_compiled use_fuzzy entry) (decided use_fuzzy entry) other) others)

abbrev only_compiled : List InputMessage → List InputMessage
only_compiled messages = filter (λ (m : InputMessage). m.message.status.compiled) messages

module _ {X : Type 0} (f : InputMessage → X) (rows : List Row) (i : ℕ) (row : Row) (inside : i < length rows)
    (is : row ≡ get_or rows i row) where
  abbrev so_far : List X
  so_far = map f (only_compiled (map row_view (take i rows)))

  one_more : map f (only_compiled (map row_view (take (i + 1) rows))) ≡ so_far
      ++ map f (only_compiled (row_view row ∷ []))
  one_more =
      ap (λ rs. map f (only_compiled (map row_view rs)))
      (take_more rows i row inside ∙ ap (λ r. take i rows ++ r ∷ []) (sym is))
      ∙ ap (λ ms. map f (only_compiled ms)) (map-append row_view (take i rows) (row ∷ []))
      ∙ ap (map f)
      (filter-append (λ (m : InputMessage). m.message.status.compiled) (map row_view (take i rows)) (row_view row ∷ []))
      ∙ map-append f (only_compiled (map row_view (take i rows))) (only_compiled (row_view row ∷ []))

  -- a row that is compiled
  pub one_kept : row.status.compiled ≡ true
      → map f (only_compiled (map row_view (take (i + 1) rows))) ≡ so_far ++ f (row_view row) ∷ []
  one_kept kept = one_more ∙ ap (λ (b : Bool). so_far ++ map f (cond b (row_view row ∷ []) [])) kept

  -- and one that isn't
  pub one_omitted : row.status.compiled ≡ false
      → map f (only_compiled (map row_view (take (i + 1) rows))) ≡ so_far
  one_omitted omitted =
      one_more ∙ ap (λ (b : Bool). so_far ++ map f (cond b (row_view row ∷ []) [])) omitted ∙ append-nil so_far
