-- The bytes of an entry, read by its row, mean the entry, and give what an MO file has of it.
use Rattle.po_entry.proofs.Prelude.{All, All-append, All-cons, All-head, All-nil, All-tail, Bool, CanLie, EndsContext, Lacks, List, None, Option, PluralFollows, Some, TextEntry, [], after_nul, ap, append-nil, append_assoc, ap₂, arith, common_steps, context_in, context_length, drop, drop-append_seam, entry_of, false, false≢true, flat_map, forms_in, forms_of, further_texts, has_no_head, head_bytes, head_parts, if◌then◌else◌, is_empty_list, is_some, join_with_byte, join_with_byte-slice_split, key_bytes, length, length-append, length-slice_split, length-take, length_bytes, measured, ne_eqb, option_copied, option_to_list, optional_bytes, optional_in, own_bytes, part_at, plural_in, previous_in, quoted_texts, refl, row_of, rules, slice_split, slice_split_at, slice_split_none, split_forms, suc, sym, take, take-append-drop, take-append_seam, take-take, texts_after, texts_in, true, unwrap_or, zero, ℕ, ◌&&◌, ◌++◌, ◌+◌, ◌<◌, ◌==◌, ◌^◌, ◌∙◌, ◌∷◌, ◌≡◌, ◌≤◌}
use Rattle.std.specs.Prelude.{is_none}
use Rattle.po_entry.proofs.AdmittedTexts.{quoted_parts}
use Rattle.po_entry.proofs.TextLists.{no_texts, texts_laid}
use Rattle.std.specs.Borrow.{Bor}

abbrev IsShort : List ℕ → Type 0
IsShort text = length text < 2 ^ 64

-- the key
pub context_fits : (context : Option (List ℕ)) (id : List ℕ) → context_length context ≤ length (key_bytes context id)
context_fits None id = omega arith
context_fits (Some c) id = omega (arith, length-append c (4 ∷ id))

pub key_fits : (entry : TextEntry) → length (key_bytes entry.context entry.id) ≤ length (own_bytes entry)
key_fits entry = grind (arith, common_steps, length-append)

context_found : (context : Option (List ℕ)) (id rest : List ℕ)
    → context_in (context_length context) (key_bytes context id ++ rest) ≡ context
context_found None id rest = refl
context_found (Some c) id rest = grind (arith, common_steps, append_assoc, take-append_seam)

-- an EOT ends the context
pub eot_laid : (context : Option (List ℕ)) (id rest : List ℕ)
    → EndsContext (context_length context) (key_bytes context id ++ rest)
eot_laid None id rest = tt
eot_laid (Some c) id rest =
    let whole : (c ++ 4 ∷ id) ++ rest ≡ c ++ 4 ∷ (id ++ rest) = append_assoc c (4 ∷ id) rest in
    let again : c ++ 4 ∷ (id ++ rest) ≡ (c ++ 4 ∷ []) ++ (id ++ rest) = sym (append_assoc c (4 ∷ []) (id ++ rest)) in
    let longer : suc (length c) ≡ length (c ++ 4 ∷ []) = omega (arith, length-append c (4 ∷ [])) in
    ap₂ (λ n (l : List ℕ). take n l) longer (whole ∙ again) ∙ take-append_seam (c ++ 4 ∷ []) (id ++ rest)
    ∙ ap (λ l. l ++ 4 ∷ []) (sym (ap (take (length c)) whole ∙ take-append_seam c (4 ∷ (id ++ rest))))

-- a NUL stands before the plural
pub nul_laid : (key : List ℕ) (plural : Option (List ℕ)) (forms : List (List ℕ))
    → PluralFollows (is_some plural) (length key) (key ++ flat_map after_nul (option_to_list plural ++ forms))
nul_laid key None forms = λ never. absurd (false≢true never)
nul_laid key (Some text) forms = λ _.
    let more = text ++ flat_map after_nul forms in
    let longer : suc (length key) ≡ length (key ++ 0 ∷ []) = omega (arith, length-append key (0 ∷ [])) in
    let rest : drop (suc (length key)) (key ++ 0 ∷ more) ≡ more =
    ap₂ (λ n (l : List ℕ). drop n l) longer (sym (append_assoc key (0 ∷ []) more))
    ∙ drop-append_seam (key ++ 0 ∷ []) more in
    drop-append_seam key (0 ∷ more) ∙ ap (λ l. 0 ∷ l) (sym rest)

id_found : (context : Option (List ℕ)) (id : List ℕ) → drop (context_length context) (key_bytes context id) ≡ id
id_found None id = refl
id_found (Some c) id =
    let longer : suc (length c) ≡ length (c ++ 4 ∷ []) = omega (arith, length-append c (4 ∷ [])) in
    ap₂ (λ n (l : List ℕ). drop n l) longer (sym (append_assoc c (4 ∷ []) id)) ∙ drop-append_seam (c ++ 4 ∷ []) id

-- the further texts
abbrev is_nul : ℕ → Bool
is_nul b = b == 0

pub lacks_fails : (byte : ℕ) (text : List ℕ) → Lacks byte text → All (λ b. (b == byte) ≡ false) text
lacks_fails byte text lacks = λ k d inside. ne_eqb _ byte (lacks k d inside)

pub first_text : (texts text rest : List ℕ) → texts ≡ text ++ 0 ∷ rest → Lacks 0 text
    → slice_split is_nul texts ≡ text ∷ slice_split is_nul rest
first_text texts text rest is lacks = rw is (slice_split_at is_nul text 0 rest (lacks_fails 0 text lacks) refl)

pub only_text : (text : List ℕ) → Lacks 0 text → slice_split is_nul text ≡ text ∷ []
only_text text lacks = slice_split_none is_nul text (lacks_fails 0 text lacks)

split_texts : (text : List ℕ) (texts : List (List ℕ)) → Lacks 0 text → All (Lacks 0) texts
    → slice_split is_nul (text ++ flat_map after_nul texts) ≡ text ∷ texts
split_texts text [] lacks all = rw append-nil (slice_split_none is_nul text (lacks_fails 0 text lacks))
split_texts text (next ∷ texts) lacks all =
    slice_split_at is_nul text 0 (next ++ flat_map after_nul texts) (lacks_fails 0 text lacks) refl
    ∙ ap (λ parts. text ∷ parts)
    (split_texts next texts (All-head (Lacks 0) next texts all) (All-tail (Lacks 0) next texts all))

texts_found : (key : List ℕ) (texts : List (List ℕ)) → 0 < length texts → All (Lacks 0) texts
    → texts_after (length key) (key ++ flat_map after_nul texts) ≡ texts
texts_found key [] some all = absurd (omega (arith, some))
texts_found key (text ∷ texts) some all =
    let longer : suc (length key) ≡ length (key ++ 0 ∷ []) = omega (arith, length-append key (0 ∷ [])) in
    let more = text ++ flat_map after_nul texts in
    let rest : drop (suc (length key)) (key ++ 0 ∷ more) ≡ more =
    ap₂ (λ n (l : List ℕ). drop n l) longer (sym (append_assoc key (0 ∷ []) more))
    ∙ drop-append_seam (key ++ 0 ∷ []) more in
    ap (slice_split is_nul) rest
    ∙ split_texts text texts (All-head (Lacks 0) text texts all) (All-tail (Lacks 0) text texts all)

plural_found : (plural : Option (List ℕ)) (forms : List (List ℕ))
    → plural_in (is_some plural) (option_to_list plural ++ forms) ≡ plural
plural_found None forms = refl
plural_found (Some text) forms = refl

forms_found : (plural : Option (List ℕ)) (forms : List (List ℕ))
    → forms_in (is_some plural) (option_to_list plural ++ forms) ≡ forms
forms_found None forms = refl
forms_found (Some text) forms = refl

-- the head
short_all : (texts : List (List ℕ)) → length (flat_map measured texts) < 2 ^ 64 → All IsShort texts
short_all [] fits = All-nil IsShort
short_all (text ∷ texts) fits =
    let whole = length-append (measured text) (flat_map measured texts) in
    let first = length-append (length_bytes (length text)) text in
    All-cons IsShort text texts (omega (arith, fits, whole, first)) (short_all texts (omega (arith, fits, whole)))

laid : (texts : List (List ℕ)) → length (flat_map measured texts) < 2 ^ 64 → texts_in (flat_map measured texts) ≡ texts
laid texts fits = texts_laid texts (short_all texts fits)

optional_found : (text : Option (List ℕ)) → optional_in (optional_bytes text) ≡ text
optional_found None = refl
optional_found (Some text) = refl

-- what is read of a head
record MeansHead (entry : TextEntry) (head : List ℕ) : Type 0 where
  pub comments : texts_in (part_at 0 head) ≡ entry.comments
  pub extracted : texts_in (part_at 1 head) ≡ entry.extracted
  pub references : texts_in (part_at 2 head) ≡ entry.references
  pub flags : texts_in (part_at 3 head) ≡ entry.flags
  pub context : optional_in (part_at 4 head) ≡ entry.previous.context
  pub id : optional_in (part_at 5 head) ≡ entry.previous.id
  pub plural : optional_in (part_at 6 head) ≡ entry.previous.plural

both : (a b : Bool) → a && b ≡ true → (a ≡ true) × (b ≡ true)
both true b h = (refl, h)
both false b h = absurd (false≢true h)

no_list : (texts : List (List ℕ)) → is_empty_list texts ≡ true → [] ≡ texts
no_list [] h = refl
no_list (text ∷ texts) h = grind (arith, common_steps, false≢true, ne_eqb)

no_text : (text : Option (List ℕ)) → is_none text ≡ true → None ≡ text
no_text None h = refl
no_text (Some text) h = absurd (false≢true h)

nothing_means : (entry : TextEntry) → has_no_head entry ≡ true → MeansHead entry []
nothing_means entry none = search (rules, both, no_texts, no_list, no_text)

parts_mean : (entry : TextEntry) → length (flat_map measured (head_parts entry)) < 2 ^ 64
    → MeansHead entry (flat_map measured (head_parts entry))
parts_mean entry fits =
    let parts = head_parts entry in
    let cut : texts_in (flat_map measured parts) ≡ parts = laid parts fits in
    let short : All IsShort parts = short_all parts fits in
    record {
      comments = rw cut (laid entry.comments (short 0 [] (omega arith)));
      extracted = rw cut (laid entry.extracted (short 1 [] (omega arith)));
      references = rw cut (laid entry.references (short 2 [] (omega arith)));
      flags = rw cut (laid entry.flags (short 3 [] (omega arith)));
      context = rw cut (optional_found entry.previous.context);
      id = rw cut (optional_found entry.previous.id);
      plural = rw cut (optional_found entry.previous.plural);
    }

head_means : (entry : TextEntry) → length (head_bytes entry) < 2 ^ 64 → MeansHead entry (head_bytes entry)
head_means entry fits = by_cases (has_no_head entry) refl fits
  where
    laid_out : List ℕ
    laid_out = flat_map measured (head_parts entry)

    by_cases : (none : Bool) → has_no_head entry ≡ none → length (if none then [] else laid_out) < 2 ^ 64
        → MeansHead entry (if none then [] else laid_out)
    by_cases true none fits = nothing_means entry none
    by_cases false some fits = parts_mean entry fits

-- the texts after the key have no NUL
further_lack : (entry : TextEntry) → All (Lacks 0) (quoted_texts entry) → All (Lacks 0) (further_texts entry)
further_lack entry all =
    let parts = quoted_parts (Lacks 0) entry all in
    All-append (Lacks 0) (option_to_list entry.plural) entry.forms parts.plural parts.forms

some_further : (entry : TextEntry) → 0 < length entry.forms → 0 < length (further_texts entry)
some_further entry some = omega (arith, some, length-append (option_to_list entry.plural) entry.forms)

-- read by its row, what is laid out is the entry
pub means : (start : ℕ) (entry : TextEntry) → CanLie entry → length (head_bytes entry) < 2 ^ 64
    → entry_of (row_of start entry) (own_bytes entry) (head_bytes entry) ≡ entry
means start entry can fits =
    let key = key_bytes entry.context entry.id in
    let further = further_texts entry in
    let head = head_means entry fits in
    let context : context_in (context_length entry.context) (own_bytes entry) ≡ entry.context =
    context_found entry.context entry.id (flat_map after_nul further) in
    let its_key : take (length key) (own_bytes entry) ≡ key = take-append_seam key (flat_map after_nul further) in
    let id : drop (context_length entry.context) (take (length key) (own_bytes entry)) ≡ entry.id =
    ap (drop (context_length entry.context)) its_key ∙ id_found entry.context entry.id in
    let texts : texts_after (length key) (own_bytes entry) ≡ further =
    texts_found key further (some_further entry can.some_form) (further_lack entry can.no_nul) in
    let plural : plural_in (is_some entry.plural) (texts_after (length key) (own_bytes entry)) ≡ entry.plural =
    ap (plural_in (is_some entry.plural)) texts ∙ plural_found entry.plural entry.forms in
    let forms : forms_in (is_some entry.plural) (texts_after (length key) (own_bytes entry)) ≡ entry.forms =
    ap (forms_in (is_some entry.plural)) texts ∙ forms_found entry.plural entry.forms in
    let previous : previous_in (head_bytes entry) ≡ entry.previous = rw (head.context, head.id, head.plural) refl in
    rw (head.comments, head.extracted, head.references, head.flags, previous, context, id, plural, forms) refl

-- What an MO file has of an entry, cut from the bytes of the entry's own texts.

pub key_cut : (context key : ℕ) (own : List ℕ) → context ≤ key → EndsContext context own
    → take key own ≡ key_bytes (context_in context own) (drop context (take key own))
key_cut zero key own within eot = refl
key_cut (suc n) key own within eot =
    let rest = drop (suc n) (take key own) in
    sym (take-append-drop (suc n) (take key own))
    ∙ ap (λ l. l ++ rest) (take-take (suc n) key own within ∙ eot)
    ∙ append_assoc (take n own) (4 ∷ []) rest

-- an original without a plural
pub key_alone : (key : List ℕ) (has_plural : Bool) (further : List (List ℕ)) → has_plural ≡ false
    → key ≡ key ++ optional_bytes (plural_in has_plural further)
key_alone key false further none = sym (append-nil key)
key_alone key true further none = absurd (false≢true (sym none))

forms_joined : (bytes : List ℕ) → join_with_byte 0 (split_forms bytes) ≡ bytes
forms_joined bytes = join_with_byte-slice_split 0 bytes

-- joined texts begin with the first
begins : (first : List ℕ) (others : List (List ℕ))
    → (after : List ℕ) × (join_with_byte 0 (first ∷ others) ≡ first ++ after)
begins first [] = ([], sym (append-nil first))
begins first (next ∷ others) = (0 ∷ join_with_byte 0 (next ∷ others), refl)

-- an original with a plural, which is the first of the texts after the key
pub plural_cut : (own : List ℕ) (key : ℕ) (has_plural : Bool) (first : List ℕ) (others : List (List ℕ))
    → key ≤ length own → has_plural ≡ true → PluralFollows has_plural key own
    → split_forms (drop (key + 1) own) ≡ first ∷ others
    → (key + 1 + length first ≤ length own)
    × (take (key + 1 + length first) own ≡ take key own ++ optional_bytes (plural_in has_plural (texts_after key own)))
plural_cut own key false first others within some follows split = absurd (false≢true some)
plural_cut own key true first others within some follows split =
    let rest = drop (suc key) own in
    let next : key + 1 ≡ suc key = omega arith in
    let parts : split_forms rest ≡ first ∷ others = ap (λ n. split_forms (drop n own)) (sym next) ∙ split in
    let begin = begins first others in
    let joined : rest ≡ first ++ begin.0 = sym (forms_joined rest) ∙ ap (join_with_byte 0) parts ∙ begin.1 in
    let front = take key own ++ 0 ∷ first in
    let whole : own ≡ front ++ begin.0 =
    sym (take-append-drop key own) ∙ ap (λ l. take key own ++ l) (follows refl ∙ ap (λ l. 0 ∷ l) joined)
    ∙ sym (append_assoc (take key own) (0 ∷ first) begin.0) in
    let long : key + 1 + length first ≡ length front =
    omega (arith, within, length-append (take key own) (0 ∷ first), length-take key own) in (
      omega (arith, long, ap length whole, length-append front begin.0),
      ap (λ n. take n own) long ∙ ap (take (length front)) whole ∙ take-append_seam front begin.0
          ∙ ap (λ texts. take key own ++ optional_bytes (plural_in true texts)) (sym parts),
    )

-- the forms without a plural
pub forms_alone : (own : List ℕ) (key : ℕ) (has_plural : Bool) → has_plural ≡ false
    → drop (key + 1) own ≡ join_with_byte 0 (forms_in has_plural (texts_after key own))
forms_alone own key false none = grind (arith, common_steps, forms_joined)
forms_alone own key true none = absurd (false≢true (sym none))

-- those after a plural
after_plural : (found : Option (Bor (List ℕ))) (none : Bor (List ℕ)) → none.now ≡ []
    → (unwrap_or found none).now ≡ join_with_byte 0 (forms_of (option_copied found))
after_plural None none is = is
after_plural (Some forms) none is = sym (forms_joined forms.now)

pub forms_cut : (own : List ℕ) (key : ℕ) (has_plural : Bool) (first : List ℕ) (found : Option (Bor (List ℕ)))
    (none : Bor (List ℕ)) → has_plural ≡ true → none.now ≡ []
    → split_forms (drop (key + 1) own) ≡ first ∷ forms_of (option_copied found)
    → (unwrap_or found none).now ≡ join_with_byte 0 (forms_in has_plural (texts_after key own))
forms_cut own key false first found none some is split = absurd (false≢true some)
forms_cut own key true first found none some is split = grind (arith, common_steps, found, split, after_plural)

each_after_nul : (texts : List (List ℕ)) → 0 < length texts → flat_map after_nul texts ≡ 0 ∷ join_with_byte 0 texts
each_after_nul [] some = absurd (omega (arith, some))
each_after_nul (text ∷ []) some = append-nil (0 ∷ text)
each_after_nul (text ∷ next ∷ texts) some = grind (arith, common_steps, each_after_nul (next ∷ texts) (omega arith))

-- the forms of a translation, as they are laid out
pub forms_laid : (translation : List ℕ) → flat_map after_nul (split_forms translation) ≡ 0 ∷ translation
forms_laid translation = grind (arith, common_steps, each_after_nul, length-slice_split, forms_joined)
