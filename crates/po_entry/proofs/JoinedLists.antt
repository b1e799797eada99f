-- The joined list of several texts, which omits later headers.
use Rattle.po_entry.proofs.Prelude.{All-append, All-filter, All-head, All-map, All-nil, All-tail, All-weaker, Bool, CommentText, EndsInString, InputEntry, IsCatalogueEntry, List, OmitsLaterHeaders, SpellsEntries, SpellsHead, TextEntry, TextItem, [], and-false, and-true, any_map, ap, append_assoc, arith, common_steps, drop, drop_more, entries_from, entries_of, entries_of_inputs, false, filter, filter-append, filter_agree, filter_map, get_or, has_header_before, in_input, is_live_header, is_omitted, joined_from, kept_entries, le-ltb, length, list_any, list_any-append, lt-ltb, map, map-append, nat_lt, not, or-false, refl, rules, subst, sym, true, ℕ, ◌&&◌, ◌++◌, ◌+◌, ◌<◌, ◌||◌, ◌∙◌, ◌∷◌, ◌≡◌, ◌≤◌}
use Rattle.po_entry.specs.Spelling.{comments, entries as spells_entries, head_comment, nothing}
use Rattle.std.proofs.Common.{All}
use Rattle.po_entry.proofs.Duplicates.{entries_of_input}

-- what is left of items that end in a string ends in it
pub ends_rest : (own items : List TextItem) → EndsInString (own ++ items) → EndsInString items
ends_rest [] items h = h
ends_rest (item ∷ own) [] h = tt
ends_rest (item ∷ []) (next ∷ items) h = h
ends_rest (item ∷ second ∷ own) (next ∷ items) h = ends_rest (second ∷ own) (next ∷ items) h

-- comments that end in a string are none
pub no_comment_last : {items : List TextItem} {comment_texts : List CommentText} → SpellsHead items comment_texts []
    → EndsInString items → items ≡ []
no_comment_last nothing h = refl
no_comment_last (head_comment {items = []} c) h = absurd h
no_comment_last (head_comment {items = next ∷ items} c) h = grind (arith, common_steps, no_comment_last c h)

pub entries_joined : {prefix rest : List TextItem} {first others : List TextEntry} → SpellsEntries prefix first
    → EndsInString prefix → SpellsEntries rest others → SpellsEntries (prefix ++ rest) (first ++ others)
entries_joined (comments c) ends g = rw (no_comment_last c ends) g
entries_joined (spells_entries {own = own} {items = items} spelt more) ends g =
    rw append_assoc (spells_entries spelt (entries_joined more (ends_rest own items ends) g))

pub kept_valid : (headed : Bool) (entries : List TextEntry) → All IsCatalogueEntry entries
    → All IsCatalogueEntry (kept_entries headed entries)
kept_valid true entries valid = All-filter (λ e. not (is_live_header e)) IsCatalogueEntry entries valid
kept_valid false entries valid = valid

pub valid_more : (before after : List InputEntry) (input : ℕ) (headed : Bool) (entries : List TextEntry)
    → after ≡ before ++ map (in_input input) (kept_entries headed entries) → All IsCatalogueEntry (entries_of before)
    → All IsCatalogueEntry entries
    → All IsCatalogueEntry (entries_of after)
valid_more before after input headed entries is valid_before valid =
    let kept = kept_entries headed entries in
    let list = ap entries_of is ∙ map-append (λ (e : InputEntry). e.entry) before (map (in_input input) kept)
    ∙ ap (λ l. entries_of before ++ l) (entries_of_input input kept) in
    subst (All IsCatalogueEntry) (sym list)
    (All-append IsCatalogueEntry (entries_of before) kept valid_before (kept_valid headed entries valid))

-- the next input's entries are added, and the inputs after it are left
pub whole_more : (before after : List InputEntry) (input : ℕ) (headed some : Bool) (entries : List TextEntry)
    (inputs : List (List TextEntry)) → input < length inputs → entries ≡ get_or inputs input entries
    → after ≡ before ++ map (in_input input) (kept_entries headed entries) → some ≡ list_any is_live_header entries
    → after ++ joined_from (input + 1) (headed || some) (drop (input + 1) inputs)
    ≡ before ++ joined_from input headed (drop input inputs)
whole_more before after input headed some entries inputs inside here is any = search (rules, append_assoc, drop_more)

-- The joined list omits the live headers of each input that is after one with a live header, and no
-- other entry.

abbrev keeps : List InputEntry → InputEntry → Bool
keeps entries e = not (is_omitted entries e)

abbrev headed : InputEntry → Bool
headed e = is_live_header e.entry

all_kept : {X : Type 0} (xs : List X) → filter (λ _. true) xs ≡ xs
all_kept [] = refl
all_kept (x ∷ xs) = ap (λ l. x ∷ l) (all_kept xs)

-- what is kept of one input
input_kept : (all : List InputEntry) (input : ℕ) (entries : List TextEntry) (test : Bool)
    → has_header_before all input ≡ test
    → filter (keeps all) (map (in_input input) entries) ≡ map (in_input input) (kept_entries test entries)
input_kept all input entries true e =
    filter_map (keeps all) (in_input input) entries
    ∙ ap (map (in_input input))
    (filter_agree (λ t. keeps all (in_input input t)) (λ t. not (is_live_header t))
    (λ t. ap (λ b. not (is_live_header t && b)) e ∙ ap not (and-true (is_live_header t))) entries)
input_kept all input entries false e =
    filter_map (keeps all) (in_input input) entries
    ∙ ap (map (in_input input))
    (filter_agree (λ t. keeps all (in_input input t)) (λ _. true)
    (λ t. ap (λ b. not (is_live_header t && b)) e ∙ ap not (and-false (is_live_header t))) entries
    ∙ all_kept entries)

abbrev counts : ℕ → InputEntry → Bool
counts input e = nat_lt e.input input && is_live_header e.entry

-- all headers of the inputs before this one count
earlier_count : (input : ℕ) (entries : List InputEntry) → All (λ e. e.input < input) entries
    → list_any (counts input) entries ≡ list_any headed entries
earlier_count input [] h = refl
earlier_count input (e ∷ entries) h =
    let here : e.input < input = All-head (λ (o : InputEntry). o.input < input) e entries h in
    rw (
      lt-ltb e.input input here,
      earlier_count input entries (All-tail (λ (o : InputEntry). o.input < input) e entries h),
    ) refl

-- no header of this input or a later one counts
none_count : (input : ℕ) (entries : List InputEntry) → All (λ e. input ≤ e.input) entries
    → list_any (counts input) entries ≡ false
none_count input [] h = refl
none_count input (e ∷ entries) h =
    let here : input ≤ e.input = All-head (λ (o : InputEntry). input ≤ o.input) e entries h in
    rw (
      le-ltb e.input input here,
      none_count input entries (All-tail (λ (o : InputEntry). input ≤ o.input) e entries h),
    ) refl

in_input_all : (P : ℕ → Type 0) (input : ℕ) (entries : List TextEntry) → P input
    → All (λ (e : InputEntry). P e.input) (map (in_input input) entries)
in_input_all P input entries h = All-map (λ (e : InputEntry). P e.input) (in_input input) entries (λ k d below. h)

later_inputs : (input from : ℕ) (inputs : List (List TextEntry)) → input ≤ from
    → All (λ (e : InputEntry). input ≤ e.input) (entries_from from inputs)
later_inputs input from [] h = All-nil (λ (e : InputEntry). input ≤ e.input)
later_inputs input from (entries ∷ inputs) h =
    All-append (λ (e : InputEntry). input ≤ e.input) (map (in_input from) entries) (entries_from (from + 1) inputs)
    (in_input_all (λ n. input ≤ n) from entries h) (later_inputs input (from + 1) inputs (omega (arith, h)))

-- a live header stands before an input exactly where one of the entries before it is one
header_before : (before : List InputEntry) (input : ℕ) (inputs : List (List TextEntry))
    → All (λ e. e.input < input) before
    → has_header_before (before ++ entries_from input inputs) input ≡ list_any headed before
header_before before input inputs h =
    search (rules, list_any-append, none_count, later_inputs, or-false, earlier_count)

-- the inputs from one on, after all entries before it
joined_rest : (all before : List InputEntry) (input : ℕ) (inputs : List (List TextEntry))
    → all ≡ before ++ entries_from input inputs → All (λ e. e.input < input) before
    → joined_from input (list_any headed before) inputs ≡ filter (keeps all) (entries_from input inputs)
joined_rest all before input [] is h = refl
joined_rest all before input (entries ∷ inputs) is h =
    let here = map (in_input input) entries in
    let rest = entries_from (input + 1) inputs in
    let headed_here : has_header_before all input ≡ list_any headed before =
    ap (λ l. has_header_before l input) is ∙ header_before before input (entries ∷ inputs) h in
    let kept = input_kept all input entries (list_any headed before) headed_here in
    let then : list_any headed (before ++ here) ≡ (list_any headed before || list_any is_live_header entries) =
    list_any-append headed before here
    ∙ ap (λ b. list_any headed before || b) (any_map headed (in_input input) entries) in
    let below = All-append (λ (e : InputEntry). e.input < input + 1) before here
    (All-weaker (λ (e : InputEntry). e.input < input) (λ (e : InputEntry). e.input < input + 1)
    (λ e less. omega (arith, less)) before h) (in_input_all (λ n. n < input + 1) input entries (omega arith)) in
    let more = joined_rest all (before ++ here) (input + 1) inputs (is ∙ sym (append_assoc before here rest)) below in
    ap (λ l. l ++ joined_from (input + 1) (list_any headed before || list_any is_live_header entries) inputs) (sym kept)
    ∙ ap (λ b. filter (keeps all) here ++ joined_from (input + 1) b inputs) (sym then)
    ∙ ap (λ l. filter (keeps all) here ++ l) more
    ∙ sym (filter-append (keeps all) here rest)

pub later_headers_omitted : (inputs : List (List TextEntry)) → OmitsLaterHeaders inputs
later_headers_omitted inputs =
    joined_rest (entries_of_inputs inputs) [] 0 inputs refl (All-nil (λ (e : InputEntry). e.input < 0))
