-- The messages of entries mean these entries, in whatever order the list has them.
use Rattle.po_compile.proofs.Prelude.{All, All-append, All-cons, All-contains, All-head, All-nil, All-permutation, All-tail, All-weaker, AllApart, AllPairs, AreMessagesOf, AreRising, Bool, Contains, Contains-permutation, Decides, Decides-and, Decides-eqb, Decides-like, IfSome, IsEntry, IsPermutation, IsPermutation-map, IsPermutation-sym, IsText, Lacks, List, Message, MessagesDiffer, MessagesHaveParts, MessagesMeanEntries, None, OneMoreChangesNoOther, Option, Query, Some, TextEntry, TextsComeBack, [], and_parts, answer, ap, append-nil, ap₂, arith, bytes_eq, bytes_eq-Decides, can_be_key, cases_lt, cond, context_of, definition, fails_before_first, false, find, find-append, find_at, find_map, first_all, first_form, form_at, forms, get_or, get_or_default, get_or_from_slice_get, has_no_separator, header_of, header_text, id_of, if◌then◌else◌, inl, inr, is_of_message, is_separator, join_with_byte, key_of, keys, length, less_is_other, list_any, map, message_of, none-some, not-true, one_answer, option_eq, option_map, option_map_or, option_or, option_to_list, or_parts, original_of, passes_at_first, plural_cut, plural_none, plural_of, plural_part, position_or_len, query_key, refl, slice_get-get_or, slice_get_within, subst, subst₂, sym, translation_of, translation_under, true, unwrap_or, ℕ, ⊎_elim, ◌++◌, ◌<◌, ◌==◌, ◌∙◌, ◌∷◌, ◌≡◌, ◌≢◌, ◌≤◌, ◌⊎◌}
use Rattle.po_compile.proofs.DistinctKeys.{Below, apart_permuted, below_from_rising, entries_differ, key_of_entry, rising_apart}
use Rattle.plural_rule.specs.Prelude.{IsRuleOf, expression_limit}
use Rattle.po_entry.proofs.AdmittedTexts.{quoted_parts}
use Rattle.po_compile.proofs.CompiledMessages.{context_back, id_back, key_of-plural_part, query_key_is_one, query_key_lacks, slice_split-join}
use Rattle.po_syntax.specs.Facts.AllAppend.{All-left, All-right}

-- what a search finds is in the list and passes the test
pub record IsFound {X : Type 0} (test : X → Bool) (xs : List X) (x : X) : Type 0 where
  pub among : Contains xs x
  pub passes : test x ≡ true

pub find_found : {X : Type 0} (test : X → Bool) (xs : List X) (x : X) → find test xs ≡ Some x → IsFound test xs x
find_found test xs x e =
    let place = position_or_len test xs in
    let at = sym (find_at test xs) ∙ e in
    let inside = slice_get_within xs place x at in
    let is = get_or_from_slice_get xs place x x at in
    record { among = (place, inside, is); passes = sym (ap test is) ∙ passes_at_first test xs x inside }

pub find_missed : {X : Type 0} (test : X → Bool) (xs : List X) → find test xs ≡ None → All (λ y. test y ≡ false) xs
find_missed test xs e k d inside = fails_before_first test xs k d (missed (cases_lt k (position_or_len test xs))) where
  missed : (k < position_or_len test xs) ⊎ (position_or_len test xs ≤ k) → k < position_or_len test xs
  missed (inl before) = before
  missed (inr past) = absurd
      (none-some (get_or xs (position_or_len test xs) d)
      (sym e ∙ find_at test xs ∙ slice_get-get_or xs (position_or_len test xs) d (omega (arith, past, inside))))

-- of two elements of a list, which may be one, one stands before the other
pub same_or_apart : {X : Type 0} (R : X → X → Type 0) (xs : List X) → AllPairs R xs → (a b : X) → Contains xs a
    → Contains xs b → (a ≡ b) ⊎ (R a b ⊎ R b a)
same_or_apart R xs pairs a b (i, in_i, at_i) (j, in_j, at_j) =
    let at_b : get_or xs j a ≡ b = get_or_default xs j a b in_j ∙ at_j in
    elim (cases_lt i j) [
      | inl below ↦ inr (inl (subst₂ R at_i at_b (pairs i j a below in_j)))
      | inr past ↦ elim (cases_lt j i) [
        | inl above ↦ inr (inr (subst₂ R at_b at_i (pairs j i a above in_i)))
        | inr others ↦
            let equal : i ≡ j = omega (arith, past, others) in
            inl (sym at_i ∙ ap (λ k. get_or xs k a) equal ∙ at_b)
      ]
    ]

-- messages with rising keys that have one key are one
pub one_message : (messages : List Message) → AreRising (keys messages) → (m n : Message) → Contains messages m
    → Contains messages n
    → key_of m.original ≡ key_of n.original → m ≡ n
one_message messages rising m n in_m in_n same =
    let key : Message → List ℕ = λ x. key_of x.original in
    ⊎_elim (λ is. is) (λ either. absurd (⊎_elim (λ below. less_is_other (key m) (key n) below same)
    (λ above. less_is_other (key n) (key m) above (sym same)) either))
    (same_or_apart (Below key) messages (below_from_rising key messages rising) m n in_m in_n)

abbrev pub has_key : List ℕ → Message → Bool
has_key key m = bytes_eq (key_of m.original) key

-- a message is found under its key in every order
pub find_permuted : (key : List ℕ) (xs ys : List Message) → IsPermutation xs ys → AreRising (keys ys)
    → find (has_key key) ys ≡ find (has_key key) xs
find_permuted key xs ys permuted rising = by_case (find (has_key key) xs) refl (find (has_key key) ys) refl
  where
    by_case : (a : Option Message) → find (has_key key) xs ≡ a → (b : Option Message) → find (has_key key) ys ≡ b
        → b ≡ a
    by_case None ea None eb = refl
    by_case None ea (Some y) eb =
        let found = find_found (has_key key) ys y eb in
        let fails = All-contains (λ m. has_key key m ≡ false) ys y
        (All-permutation (λ m. has_key key m ≡ false) xs ys permuted (find_missed (has_key key) xs ea))
        found.among in
        cc (fails, found.passes)
    by_case (Some x) ea None eb =
        let found = find_found (has_key key) xs x ea in
        let fails = All-contains (λ m. has_key key m ≡ false) ys x (find_missed (has_key key) ys eb)
        (Contains-permutation xs ys x permuted found.among) in
        cc (fails, found.passes)
    by_case (Some x) ea (Some y) eb =
        let fx = find_found (has_key key) xs x ea in
        let fy = find_found (has_key key) ys y eb in
        let kx = (bytes_eq-Decides (key_of x.original) key).0 fx.passes in
        let ky = (bytes_eq-Decides (key_of y.original) key).0 fy.passes in
        ap Some (one_message ys rising y x fy.among (Contains-permutation xs ys x permuted fx.among) (ky ∙ sym kx))

optional : (P : List ℕ → Type 0) (text : Option (List ℕ)) → All P (option_to_list text) → IfSome text P
optional P None h = tt
optional P (Some text) h = All-head P text [] h

-- the texts of an entry that stand in its message hold no NUL, and its context and msgid no EOT
pub record LacksSeparators (entry : TextEntry) : Type 0 where
  pub context_nul : IfSome entry.context (Lacks 0)
  pub context_eot : IfSome entry.context (Lacks 4)
  pub id_nul : Lacks 0 entry.id
  pub plural_nul : IfSome entry.plural (Lacks 0)
  pub id_eot : Lacks 4 entry.id
  pub forms_nul : All (Lacks 0) entry.forms
  pub some_form : 0 < length entry.forms

pub entry_lacks_separators : (entry : TextEntry) → IsEntry entry → LacksSeparators entry
entry_lacks_separators entry valid =
    let parts = quoted_parts IsText entry valid.quoted_texts in
    let lacks = All-weaker IsText (Lacks 0) (λ text t. t.no_nul) in
    record {
      context_nul = optional (Lacks 0) entry.context (lacks (option_to_list entry.context) parts.context);
      context_eot = valid.context;
      id_nul = All-head (Lacks 0) entry.id [] (lacks (entry.id ∷ []) parts.id);
      id_eot = valid.id;
      plural_nul = optional (Lacks 0) entry.plural (lacks (option_to_list entry.plural) parts.plural);
      forms_nul = lacks entry.forms parts.forms;
      some_form = valid.some_form;
    }

pub key_of-original : (entry : TextEntry) → LacksSeparators entry
    → key_of (original_of entry) ≡ query_key entry.context entry.id
key_of-original entry lacks =
    key_of-plural_part (query_key entry.context entry.id) entry.plural
    (query_key_lacks entry.context entry.id lacks.context_nul lacks.id_nul)

some_forms : (all : List (List ℕ)) → 0 < length all → All (Lacks 0) all → forms (join_with_byte 0 all) ≡ all
some_forms [] some lacks = absurd (omega arith)
some_forms (form ∷ others) some lacks = slice_split-join form others lacks

pub forms-translation : (entry : TextEntry) → LacksSeparators entry → forms (translation_of entry) ≡ entry.forms
forms-translation entry lacks = some_forms entry.forms lacks.some_form lacks.forms_nul

-- a text without separators holds no EOT
separators : (text : List ℕ) → list_any is_separator text ≡ false → Lacks 4 text
separators [] h = All-nil (λ b. b ≢ 4)
separators (b ∷ text) h =
    let here = or_parts (is_separator b) (list_any is_separator text) h in
    let not_eot = or_parts (b == 0) (b == 4) here.0 in
    All-cons (λ b. b ≢ 4) b text (λ e. let same : (b == 4) ≡ true = (Decides-eqb b 4).1 e in cc (same, not_eot.1))
    (separators text here.1)

text_lacks_eot : (text : List ℕ) → has_no_separator text ≡ true → Lacks 4 text
text_lacks_eot text h = separators text (not-true (list_any is_separator text) h)

context_lacks_eot : (context : Option (List ℕ)) → has_no_separator (unwrap_or context []) ≡ true
    → IfSome context (Lacks 4)
context_lacks_eot None h = tt
context_lacks_eot (Some context) h = text_lacks_eot context h

pub option_decides : (a b : Option (List ℕ)) → Decides (option_eq bytes_eq a b) (a ≡ b)
option_decides None None = (λ _. refl, λ _. refl)
option_decides None (Some y) = (λ h. cc, λ h. cc)
option_decides (Some x) None = (λ h. cc, λ h. cc)
option_decides (Some x) (Some y) = Decides-like (bytes_eq x y) (λ e. ap Some e) (λ e. cc) (bytes_eq-Decides x y)

-- the message of an entry stands under a key exactly where the entry has its context and msgid
same_test : (context : Option (List ℕ)) (id : List ℕ) → can_be_key context id ≡ true → (entry : TextEntry)
    → LacksSeparators entry
    → has_key (query_key context id) (message_of entry) ≡ is_of_message context id entry
same_test context id can_be entry c =
    let parts = and_parts (has_no_separator (unwrap_or context [])) (has_no_separator id) can_be in
    let key = key_of-original entry c in
    one_answer (has_key (query_key context id) (message_of entry)) (is_of_message context id entry)
    (bytes_eq-Decides (key_of (original_of entry)) (query_key context id))
    (Decides-like (is_of_message context id entry)
    (λ e. key ∙ ap (λ c. query_key c entry.id) e.0 ∙ ap (query_key context) e.1)
    (λ e. query_key_is_one entry.context context entry.id id c.context_eot (context_lacks_eot context parts.0) c.id_eot
    (text_lacks_eot id parts.1) (sym key ∙ e))
    (Decides-and (option_eq bytes_eq entry.context context) (bytes_eq entry.id id)
    (option_decides entry.context context) (bytes_eq-Decides entry.id id)))

find_agree : (p q : TextEntry → Bool) (entries : List TextEntry) → All (λ e. p e ≡ q e) entries
    → find p entries ≡ find q entries
find_agree p q [] same = refl
find_agree p q (entry ∷ entries) same =
    ap₂ (λ b r. cond b (Some entry) r) (All-head (λ e. p e ≡ q e) entry entries same)
    (find_agree p q entries (All-tail (λ e. p e ≡ q e) entry entries same))

find_messages : (context : Option (List ℕ)) (id : List ℕ) → can_be_key context id ≡ true → (entries : List TextEntry)
    → All LacksSeparators entries
    → find (has_key (query_key context id)) (map message_of entries)
    ≡ option_map message_of (find (is_of_message context id) entries)
find_messages context id can_be entries all =
    let test : TextEntry → Bool = λ e. has_key (query_key context id) (message_of e) in
    find_map (has_key (query_key context id)) message_of entries
    ∙ ap (option_map message_of)
    (find_agree test (is_of_message context id) entries
    (All-weaker LacksSeparators (λ e. test e ≡ is_of_message context id e)
    (same_test context id can_be) entries all))

-- the translation under a key is that of the entry that the key defines
translation_of_definition : (entries : List TextEntry) (messages : List Message) → All LacksSeparators entries
    → AreMessagesOf entries messages
    → (context : Option (List ℕ)) (id : List ℕ) → can_be_key context id ≡ true
    → translation_under (query_key context id) messages
    ≡ option_map translation_of (find (is_of_message context id) entries)
translation_of_definition entries messages all are context id can_be =
    ap (option_map (λ (m : Message). m.translation))
    (find_permuted (query_key context id) (map message_of entries) messages are.all are.rising
    ∙ find_messages context id can_be entries all)
    ∙ once_more (find (is_of_message context id) entries)
  where
    once_more : (e : Option TextEntry)
        → option_map (λ (m : Message). m.translation) (option_map message_of e) ≡ option_map translation_of e
    once_more None = refl
    once_more (Some e) = refl

-- what holds of each entry holds of the one that is found
forms_of_found : (entries : List TextEntry) (test : TextEntry → Bool) → All LacksSeparators entries
    → (found : Option TextEntry) → find test entries ≡ found
    → option_map forms (option_map translation_of found) ≡ option_map (λ (e : TextEntry). e.forms) found
forms_of_found entries test all None is = refl
forms_of_found entries test all (Some e) is =
    ap Some (forms-translation e (All-contains LacksSeparators entries e all (find_found test entries e is).among))

form_at_first : (all : List (List ℕ)) → form_at all 0 ≡ first_form all
form_at_first [] = refl
form_at_first (form ∷ others) = refl

header_of_found : (entries : List TextEntry) (test : TextEntry → Bool) → All LacksSeparators entries
    → (found : Option TextEntry) → find test entries ≡ found
    → option_map_or (λ t. form_at (forms t) 0) (option_map translation_of found) []
    ≡ option_map_or (λ (e : TextEntry). first_form e.forms) found []
header_of_found entries test all None is = refl
header_of_found entries test all (Some e) is =
    ap (λ all. form_at all 0)
    (forms-translation e (All-contains LacksSeparators entries e all (find_found test entries e is).among))
    ∙ form_at_first e.forms

found_if_key : (entries : List TextEntry) (messages : List Message) → All LacksSeparators entries
    → AreMessagesOf entries messages
    → (query : Query) (b : Bool) → can_be_key query.context query.id ≡ b
    → cond b (option_map forms (translation_under (query_key query.context query.id) messages)) None
    ≡ option_map (λ (e : TextEntry). e.forms) (cond b (find (is_of_message query.context query.id) entries) None)
found_if_key entries messages all are query true can_be =
    ap (option_map forms) (translation_of_definition entries messages all are query.context query.id can_be)
    ∙ forms_of_found entries (is_of_message query.context query.id) all
    (find (is_of_message query.context query.id) entries) refl
found_if_key entries messages all are query false can_be = refl

header_text_is : (entries : List TextEntry) (messages : List Message) → All LacksSeparators entries
    → AreMessagesOf entries messages → header_text messages ≡ header_of entries
header_text_is entries messages all are =
    ap (λ t. option_map_or (λ t. form_at (forms t) 0) t [])
    (translation_of_definition entries messages all are None [] refl)
    ∙ header_of_found entries (is_of_message None []) all (find (is_of_message None []) entries) refl

pub mean_entries : MessagesMeanEntries
mean_entries entries messages valid are =
    let all : All LacksSeparators entries = All-weaker IsEntry LacksSeparators entry_lacks_separators entries valid in
    record {
      rule = λ rule view. subst (λ text. IsRuleOf expression_limit text rule)
          (header_text_is entries messages all are) view.rule_of_header;
      answers = λ rule query. ap (λ found. answer found rule query)
          (found_if_key entries messages all are query (can_be_key query.context query.id) refl);
    }

second_piece : (key : List ℕ) (plural : Option (List ℕ)) → Lacks 0 key → IfSome plural (Lacks 0)
    → plural_of (key ++ plural_part plural) ≡ plural
second_piece key None lacks none = ap plural_of (append-nil key) ∙ plural_none key lacks
second_piece key (Some plural) lacks some = plural_cut key plural lacks plural (first_all plural some)

pub messages_have_parts : MessagesHaveParts
messages_have_parts entry valid =
    let clean = entry_lacks_separators entry valid in
    record {
      key = key_of-original entry clean;
      plural = second_piece (query_key entry.context entry.id) entry.plural
          (query_key_lacks entry.context entry.id clean.context_nul clean.id_nul) clean.plural_nul;
      forms_are = forms-translation entry clean;
    }

pub texts_come_back : MessagesHaveParts → TextsComeBack
texts_come_back have_parts entry valid =
    let parts = have_parts entry valid in
    record {
      context = ap context_of parts.key ∙ context_back entry.context entry.id valid.context valid.id;
      id = ap id_of parts.key ∙ id_back entry.context entry.id valid.context valid.id;
      plural = parts.plural;
      forms_are = parts.forms_are;
    }

keys_of_entries : (entries : List TextEntry) → All LacksSeparators entries
    → keys (map message_of entries) ≡ map key_of_entry entries
keys_of_entries [] all = refl
keys_of_entries (e ∷ entries) all =
    ap₂ (λ k ks. k ∷ ks) (key_of-original e (All-head LacksSeparators e entries all))
    (keys_of_entries entries (All-tail LacksSeparators e entries all))

pub messages_differ : MessagesDiffer
messages_differ entries messages valid are =
    let all : All LacksSeparators entries = All-weaker IsEntry LacksSeparators entry_lacks_separators entries valid in
    let ks = keys (map message_of entries) in
    let moved = IsPermutation-map (λ m. key_of m.original) (map message_of entries) messages are.all in
    entries_differ entries (subst AllApart (keys_of_entries entries all)
    (apart_permuted (keys messages) ks (IsPermutation-sym ks (keys messages) moved)
    (rising_apart (keys messages) are.rising)))

of_other : (query : Query) (entry : TextEntry) → ¬ ((entry.context ≡ query.context) × (entry.id ≡ query.id))
    → is_of_message query.context query.id entry ≡ false
of_other query entry other = by (is_of_message query.context query.id entry) refl where
  decided : Decides (is_of_message query.context query.id entry)
      ((entry.context ≡ query.context) × (entry.id ≡ query.id))
  decided = Decides-and (option_eq bytes_eq entry.context query.context) (bytes_eq entry.id query.id)
      (option_decides entry.context query.context) (bytes_eq-Decides entry.id query.id)

  by : (b : Bool) → is_of_message query.context query.id entry ≡ b → b ≡ false
  by true is = absurd (other (decided.0 is))
  by false is = refl

find_same : (test : TextEntry → Bool) (before after : List TextEntry) (entry : TextEntry) → test entry ≡ false
    → find test (before ++ entry ∷ after) ≡ find test (before ++ after)
find_same test before after entry fails =
    find-append test before (entry ∷ after)
    ∙ ap (λ (b : Bool). option_or (find test before) (cond b (Some entry) (find test after))) fails
    ∙ sym (find-append test before after)

pub one_more : MessagesMeanEntries → OneMoreChangesNoOther
one_more mean before after entry messages more rule query valid are are_more other =
    let further = All-right IsEntry before (entry ∷ after) valid in
    let others = All-append IsEntry before after (All-left IsEntry before (entry ∷ after) valid)
    (All-tail IsEntry entry after further) in
    let found = find_same (is_of_message query.context query.id) before after entry (of_other query entry other) in
    let defined : definition (before ++ entry ∷ after) query.context query.id
    ≡ definition (before ++ after) query.context query.id =
    ap (λ (f : Option TextEntry). if can_be_key query.context query.id then f else None) found in
    (mean (before ++ entry ∷ after) more valid are_more).answers rule query
    ∙ ap (λ (d : Option TextEntry). answer (option_map (λ (e : TextEntry). e.forms) d) rule query) defined
    ∙ sym ((mean (before ++ after) messages others are).answers rule query)
