-- Entries that are written one after another, in parts, or again.
use Rattle.po_writer.proofs.Prelude.{All, All-push, All-weaker, AreAdded, AreParts, Bool, FollowEntries, HasParts, IsArranged, IsEntry, IsOwnPrefix, IsPreviousPrefix, List, None, Option, Some, StandInOrder, TextEntry, TextParts, WritesComments, WritesElements, WritesEntry, WritesFlags, WritesForms, WritesFurther, WritesKeyword, WritesOptional, WritesTranslation, [], absent, after_empty_line, all_flags, all_pass, ap, append-nil, append_assoc, arith, arranged, codes, comment_lines, common_steps, cond, decimal, elements_line, entry_lines, eqb-false, eqb-true, false, filter, filter-append, filter_passes, first_entry, flat_map, fold, fold-append, fold_push, form, form_lines, fuzzy, in_order, join_by, keyword_lines, length, length-append, line, line_end, live_before, live_first, map, map-append, ne_eqb, next_element, no_comments, no_entries, no_forms, no_further, no_line, no_text, none_pass, not, not-true, not_from_true, obsolete_first, only, optional_lines, own, own_lines, own_live, own_obsolete, own_prefix, plain, present, previous_live, previous_obsolete, previous_prefix, refl, rules, subst, sym, text_lines, translation_lines, true, vec_len, with_entry, with_line, with_plural, written, written_text, ℕ, ◌++◌, ◌+◌, ◌<◌, ◌==◌, ◌∙◌, ◌∷◌, ◌≡◌}
use Rattle.po_writer.specs.Laws.{comment, entry as writes_entry, previous}
use Rattle.po_writer.proofs.WrittenLines.{texts_are_written}

some_after : (xs ys : List ℕ) → 0 < length ys → 0 < length (xs ++ ys)
some_after xs ys h = omega (arith, length-append xs ys)

some_before : (xs ys : List ℕ) → 0 < length xs → 0 < length (xs ++ ys)
some_before xs ys h = omega (arith, length-append xs ys)

pub keyword_some : (prefix keyword text : List ℕ) → 0 < length (keyword_lines prefix keyword text)
keyword_some prefix keyword text = some_after (prefix ++ keyword) (32 ∷ text_lines prefix text) (omega arith)

own_some : (prefix : List ℕ) (entry : TextEntry) → 0 < length (own_lines prefix entry)
own_some prefix entry = search (rules, some_before, some_after, keyword_some)

-- an entry takes some bytes
pub entry_some : (entry : TextEntry) → 0 < length (entry_lines entry)
entry_some entry = some_after _ (own_lines (own_prefix entry.obsolete) entry)
    (own_some (own_prefix entry.obsolete) entry)

pub further : (text : List ℕ) (entries : List TextEntry) → 0 < length text
    → fold with_entry text entries ≡ text ++ flat_map (λ e. (10 ∷ []) ++ entry_lines e) entries
further text [] some = sym (append-nil text)
further text (entry ∷ entries) some =
    let first : with_entry text entry ≡ (text ++ 10 ∷ []) ++ entry_lines entry =
    rw (ne_eqb (length text) 0 (λ e. omega (arith, e))) refl in
    let more : fold with_entry ((text ++ 10 ∷ []) ++ entry_lines entry) entries
    ≡ ((text ++ 10 ∷ []) ++ entry_lines entry) ++ flat_map (λ e. (10 ∷ []) ++ entry_lines e) entries =
    further ((text ++ 10 ∷ []) ++ entry_lines entry) entries
    (some_after (text ++ 10 ∷ []) (entry_lines entry) (entry_some entry)) in
    ap (λ t. fold with_entry t entries) first ∙ more ∙ append_assoc (text ++ 10 ∷ []) (entry_lines entry) _
    ∙ append_assoc text (10 ∷ []) _

pub joined : (entries : List TextEntry) → fold with_entry [] entries ≡ join_by entry_lines (10 ∷ []) entries
joined [] = refl
joined (entry ∷ entries) = further (entry_lines entry) entries (entry_some entry)

abbrev pub IsLive : TextEntry → Type 0
IsLive entry = entry.obsolete ≡ false

-- live entries are arranged as they stand
pub live_stay : (entries : List TextEntry) → All IsLive entries → arranged entries ≡ entries
live_stay entries live =
    rw (
      all_pass (λ e. not e.obsolete) entries (λ k d inside. ap not (live k d inside)),
      none_pass (λ e. e.obsolete) entries live,
    ) (append-nil entries)

-- one live entry more
pub one_more : (entries : List TextEntry) (entry : TextEntry) → All IsLive entries → IsLive entry
    → with_entry (written_text entries) entry ≡ written_text (entries ++ entry ∷ [])
one_more entries entry live last =
    let all = entries ++ entry ∷ [] in
    let before : written_text entries ≡ fold with_entry [] entries =
    ap (join_by entry_lines (10 ∷ [])) (live_stay entries live) ∙ sym (joined entries) in
    let after : written_text all ≡ fold with_entry [] all =
    ap (join_by entry_lines (10 ∷ [])) (live_stay all (All-push IsLive entries entry live last))
    ∙ sym (joined all) in
    ap (λ text. with_entry text entry) before ∙ sym (fold_push with_entry [] entries entry) ∙ sym after

pub some_text : (entries : List TextEntry) → 0 < length entries → 0 < length (join_by entry_lines (10 ∷ []) entries)
some_text [] some = absurd (omega arith)
some_text (entry ∷ entries) some =
    some_before (entry_lines entry) (flat_map (λ e. (10 ∷ []) ++ entry_lines e) entries) (entry_some entry)

some_either : (mark : Bool) (entry : TextEntry) (live obsolete : List TextEntry)
    → 0 < length (cond (not mark) (entry ∷ live) live ++ cond mark (entry ∷ obsolete) obsolete)
some_either false entry live obsolete = omega (arith, length-append (entry ∷ live) obsolete)
some_either true entry live obsolete = omega (arith, length-append live (entry ∷ obsolete))

-- some entry takes some bytes
pub none_written : (entries : List TextEntry) → written_text entries ≡ [] → entries ≡ []
none_written [] empty = refl
none_written (entry ∷ entries) empty =
    let some = some_text (arranged (entry ∷ entries))
    (some_either entry.obsolete entry (filter (λ e. not e.obsolete) entries) (filter (λ e. e.obsolete) entries)) in
    absurd (omega (arith, some, ap length empty))

-- What is written of the arranged entries, whatever their lines are, is what is written of the
-- entries.

-- the entries without their lines
abbrev pub unnumbered : List TextEntry → List TextEntry
unnumbered entries = map (with_line 0) entries

further_same : (entries : List TextEntry)
    → flat_map (λ e. (10 ∷ []) ++ entry_lines e) (unnumbered entries)
    ≡ flat_map (λ e. (10 ∷ []) ++ entry_lines e) entries
further_same [] = refl
further_same (e ∷ entries) = ap (λ t. ((10 ∷ []) ++ entry_lines e) ++ t) (further_same entries)

pub join_same : (entries : List TextEntry)
    → join_by entry_lines (10 ∷ []) (unnumbered entries) ≡ join_by entry_lines (10 ∷ []) entries
join_same [] = refl
join_same (e ∷ entries) = ap (λ t. entry_lines e ++ t) (further_same entries)

-- a test of the obsolete mark
abbrev pub kept : (Bool → Bool) → List TextEntry → List TextEntry
kept test entries = filter (λ e. test e.obsolete) entries

map_cond : (test : Bool) (e : TextEntry) (xs ys : List TextEntry) → xs ≡ unnumbered ys
    → cond test (with_line 0 e ∷ xs) xs ≡ unnumbered (cond test (e ∷ ys) ys)
map_cond true e xs ys h = ap (λ t. with_line 0 e ∷ t) h
map_cond false e xs ys h = h

pub kept_same : (test : Bool → Bool) (entries : List TextEntry)
    → kept test (unnumbered entries) ≡ unnumbered (kept test entries)
kept_same test [] = refl
kept_same test (e ∷ entries) = map_cond (test e.obsolete) e _ (kept test entries) (kept_same test entries)

kept_again : (test : Bool → Bool) (entries : List TextEntry) → kept test (kept test entries) ≡ kept test entries
kept_again test entries =
    all_pass (λ e. test e.obsolete) (kept test entries) (filter_passes (λ e. test e.obsolete) entries)

kept_other : (test other : Bool → Bool) (entries : List TextEntry) → ((b : Bool) → test b ≡ true → other b ≡ false)
    → kept other (kept test entries) ≡ []
kept_other test other entries apart =
    none_pass (λ e. other e.obsolete) (kept test entries)
    (All-weaker (λ (e : TextEntry). test e.obsolete ≡ true) (λ (e : TextEntry). other e.obsolete ≡ false)
    (λ e yes. apart e.obsolete yes) (kept test entries) (filter_passes (λ e. test e.obsolete) entries))

-- arranged entries stay as they are
arranged_again : (entries : List TextEntry) → arranged (arranged entries) ≡ arranged entries
arranged_again entries =
    let live = kept not entries in
    let obsolete = kept (λ b. b) entries in
    let prefix : kept not (live ++ obsolete) ≡ live =
    filter-append (λ e. not e.obsolete) live obsolete
    ∙ rw (kept_again not entries, kept_other (λ b. b) not entries not_from_true) (append-nil live) in
    let back : kept (λ b. b) (live ++ obsolete) ≡ obsolete =
    filter-append (λ e. e.obsolete) live obsolete
    ∙ rw (kept_again (λ b. b) entries, kept_other not (λ b. b) entries not-true) refl in
    rw (prefix, back) refl

arranged_same : (entries : List TextEntry) → arranged (unnumbered entries) ≡ unnumbered (arranged entries)
arranged_same entries =
    rw (kept_same not entries, kept_same (λ b. b) entries)
    (sym (map-append (with_line 0) (kept not entries) (kept (λ b. b) entries)))

text_same : (entries : List TextEntry) → written_text (unnumbered entries) ≡ written_text entries
text_same entries = ap (join_by entry_lines (10 ∷ [])) (arranged_same entries) ∙ join_same (arranged entries)

-- what is written of entries that are the arranged ones but for their lines
pub rewritten : (entries read : List TextEntry) → map (with_line 0) read ≡ map (with_line 0) (arranged entries)
    → written_text read ≡ written_text entries
rewritten entries read same =
    sym (text_same read) ∙ ap written_text same ∙ text_same (arranged entries)
    ∙ ap (join_by entry_lines (10 ∷ [])) (arranged_again entries)

-- A written text in two parts.

-- further entries after those of a part
grown : (before entries : List TextEntry) → fold with_entry (in_order before) entries ≡ in_order (before ++ entries)
grown before entries =
    ap (λ text. fold with_entry text entries) (sym (joined before)) ∙ sym (fold-append with_entry [] before entries)
    ∙ joined (before ++ entries)

none_after : (prefix after : List TextEntry) → length (in_order after) ≡ 0
    → in_order prefix ≡ in_order (prefix ++ after)
none_after prefix [] none = ap in_order (sym (append-nil prefix))
none_after prefix (entry ∷ entries) none = absurd (omega (arith, none, some_text (entry ∷ entries) (omega arith)))

some_both : (prefix after : List TextEntry) → 0 < length (in_order prefix) → 0 < length (in_order after)
    → (in_order prefix ++ 10 ∷ []) ++ in_order after ≡ in_order (prefix ++ after)
some_both prefix [] some more = absurd (omega (arith, more))
some_both prefix (entry ∷ entries) some more =
    append_assoc (in_order prefix) (10 ∷ []) (in_order (entry ∷ entries))
    ∙ sym (further (in_order prefix) (entry ∷ entries) some) ∙ grown prefix (entry ∷ entries)

-- further entries after those of both parts
pub added_parts : (before entries : List TextEntry) (old new : TextParts) → AreAdded entries old new
    → AreParts before old → AreParts (before ++ entries) new
added_parts before entries old new added are = grind (arith, common_steps, grown, filter-append)

-- an entry is added to one part
pub live_added : (entry : TextEntry) (old new : TextParts) → entry.obsolete ≡ false
    → new.live.items ≡ with_entry old.live.items entry → new.obsolete.items ≡ old.obsolete.items
    → AreAdded (entry ∷ []) old new
live_added entry old new is more same = grind (arith, common_steps)

pub obsolete_added : (entry : TextEntry) (old new : TextParts) → entry.obsolete ≡ true
    → new.live.items ≡ old.live.items → new.obsolete.items ≡ with_entry old.obsolete.items entry
    → AreAdded (entry ∷ []) old new
obsolete_added entry old new is same more = grind (arith, common_steps)

-- the text is the live part, where the other is empty
pub live_alone : (parts : TextParts) (entries : List TextEntry) → AreParts entries parts
    → (vec_len parts.obsolete == 0) ≡ true → parts.live.items ≡ written_text entries
live_alone parts entries are none = grind (arith, common_steps, none_after, eqb-true)

-- an empty line stands between the parts
pub both_parts : (parts : TextParts) (entries : List TextEntry) → AreParts entries parts
    → (vec_len parts.live == 0) ≡ false → (vec_len parts.obsolete == 0) ≡ false
    → (parts.live.items ++ 10 ∷ []) ++ parts.obsolete.items ≡ written_text entries
both_parts parts entries are some more = grind (arith, common_steps, some_both, eqb-false)

-- An entry is written line by line, and entries one after another.

comments_written : (mark : List ℕ) (texts : List (List ℕ)) → WritesComments mark texts (comment_lines mark texts)
comments_written mark [] = no_comments
comments_written mark (text ∷ texts) = comment text (comments_written mark texts)

further_written : (separator : List ℕ) (elements : List (List ℕ))
    → WritesFurther separator elements (flat_map (λ e. separator ++ e) elements ++ 10 ∷ [])
further_written separator [] = line_end
further_written separator (element ∷ elements) =
    let others = flat_map (λ (e : List ℕ). separator ++ e) elements in
    subst (WritesFurther separator (element ∷ elements)) (sym (append_assoc (separator ++ element) others (10 ∷ [])))
    (next_element element (further_written separator elements))

elements_written : (mark separator : List ℕ) (elements : List (List ℕ))
    → WritesElements mark separator elements (elements_line mark separator elements)
elements_written mark separator [] = no_line
elements_written mark separator (element ∷ elements) =
    let others = flat_map (λ (e : List ℕ). separator ++ e) elements in
    subst (WritesElements mark separator (element ∷ elements))
    (append_assoc mark element (others ++ 10 ∷ []) ∙ ap (λ l. mark ++ l) (sym (append_assoc element others (10 ∷ [])))
    ∙ sym (append_assoc mark (element ++ others) (10 ∷ [])))
    (line element (further_written separator elements))

flags_written : (is_fuzzy : Bool) (flags : List (List ℕ))
    → WritesFlags is_fuzzy flags (elements_line (codes "#, ") (codes ", ") (all_flags is_fuzzy flags))
flags_written true flags = fuzzy (elements_written (codes "#, ") (codes ", ") (codes "fuzzy" ∷ flags))
flags_written false flags = plain (elements_written (codes "#, ") (codes ", ") flags)

before_previous : (is_obsolete : Bool) → IsPreviousPrefix is_obsolete (previous_prefix is_obsolete)
before_previous true = previous_obsolete
before_previous false = previous_live

before_own : (is_obsolete : Bool) → IsOwnPrefix is_obsolete (own_prefix is_obsolete)
before_own true = own_obsolete
before_own false = own_live

keyword_written : (prefix keyword text : List ℕ) → WritesKeyword prefix keyword text (keyword_lines prefix keyword text)
keyword_written prefix keyword text = written (texts_are_written prefix text)

optional_written : (prefix keyword : List ℕ) (text : Option (List ℕ))
    → WritesOptional prefix keyword text (optional_lines prefix keyword text)
optional_written prefix keyword None = absent
optional_written prefix keyword (Some text) = present (keyword_written prefix keyword text)

forms_written : (prefix : List ℕ) (index : ℕ) (forms : List (List ℕ))
    → WritesForms prefix index forms (form_lines prefix index forms)
forms_written prefix index [] = no_forms
forms_written prefix index (text ∷ forms) =
    form (keyword_written prefix (codes "msgstr[" ++ decimal index ++ codes "]") text)
    (forms_written prefix (index + 1) forms)

translation_written : (prefix : List ℕ) (plural : Option (List ℕ)) (forms : List (List ℕ))
    → (plural ≡ None → length forms ≡ 1) → WritesTranslation prefix plural forms (translation_lines prefix plural forms)
translation_written prefix None [] one = absurd (omega (arith, one refl))
translation_written prefix None (text ∷ []) one =
    let lines = keyword_lines prefix (codes "msgstr") text in
    subst (WritesTranslation prefix None (text ∷ [])) (sym (append-nil lines))
    (only (keyword_written prefix (codes "msgstr") text))
translation_written prefix None (text ∷ other ∷ forms) one = absurd (omega (arith, one refl))
translation_written prefix (Some plural) forms one =
    with_plural (keyword_written prefix (codes "msgid_plural") plural) (forms_written prefix 0 forms)

pub entry_written : (e : TextEntry) → IsEntry e → WritesEntry e (entry_lines e)
entry_written e valid =
    let before = previous_prefix e.obsolete in
    let prefix = own_prefix e.obsolete in
    writes_entry (comments_written (codes "#") e.comments) (comments_written (codes "#.") e.extracted)
    (elements_written (codes "#: ") (codes " ") e.references) (flags_written e.fuzzy e.flags)
    (previous (before_previous e.obsolete) (optional_written before (codes "msgctxt") e.previous.context)
    (optional_written before (codes "msgid") e.previous.id)
    (optional_written before (codes "msgid_plural") e.previous.plural))
    (own (before_own e.obsolete) (optional_written prefix (codes "msgctxt") e.context)
    (keyword_written prefix (codes "msgid") e.id) (translation_written prefix e.plural e.forms valid.one_form))

parts : (entries : List TextEntry)
    → HasParts entries (filter (λ e. not e.obsolete) entries) (filter (λ e. e.obsolete) entries)
parts [] = no_entries
parts (e ∷ entries) = by e.obsolete refl (parts entries) where
  live : List TextEntry
  live = filter (λ x. not x.obsolete) entries

  obsolete : List TextEntry
  obsolete = filter (λ x. x.obsolete) entries

  by : (b : Bool) → e.obsolete ≡ b → HasParts entries live obsolete
      → HasParts (e ∷ entries) (cond (not b) (e ∷ live) live) (cond b (e ∷ obsolete) obsolete)
  by true is rest = obsolete_first is rest
  by false is rest = live_first is rest

pub entries_arranged : (entries : List TextEntry) → IsArranged entries (arranged entries)
entries_arranged entries = live_before (parts entries)

follow : (entries : List TextEntry) → FollowEntries entries (flat_map (λ e. 10 ∷ entry_lines e) entries)
follow [] = no_further
follow (e ∷ entries) = after_empty_line e (follow entries)

pub entries_stand : (entries : List TextEntry) → StandInOrder entries (in_order entries)
entries_stand [] = no_text
entries_stand (e ∷ entries) = first_entry e (follow entries)
