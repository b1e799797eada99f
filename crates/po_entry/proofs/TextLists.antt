-- Texts in one buffer, each behind its length, and the index of those that were seen.
use Rattle.po_entry.proofs.Prelude.{All-head, All-nil, All-push, All-tail, AreTexts, Bool, List, SeenText, Some, [], ap, append-nil, ap₂, arith, bytes_eq, cases_lt, common_steps, cut_texts, drop_at, flat_map, le-ltb, length, length-append, length-drop, list_any, lt-ltb, map, map-append, measured, position_or_len, refl, rules, suc, sym, take_at, text_before, text_length, texts_in, with_seen, zero, ℕ, ◌++◌, ◌<◌, ◌^◌, ◌||◌, ◌∙◌, ◌∷◌, ◌≡◌, ◌≤◌}
use Rattle.std.proofs.Common.{All}
use Rattle.std.proofs.lemmas.List.Concat.{flat_map-append}
use Rattle.byteorder.specs.Endian.{little_number}
use Rattle.indexmap.specs.IndexSet.{insert_key}

abbrev IsShort : List ℕ → Type 0
IsShort text = length text < 2 ^ 64

-- texts of what is shorter are all that the first one stands before
same_before : (f g : List ℕ → List (List ℕ)) (bytes : List ℕ)
    → ((rest : List ℕ) → length rest < length bytes → f rest ≡ g rest)
    → text_before f (text_length bytes) ≡ text_before g (text_length bytes)
same_before f g [] same = refl
same_before f g (first ∷ rest) same = search (rules, length-drop, cases_lt, lt-ltb, le-ltb)

-- as many as there are bytes are enough
cut_same : (few many : ℕ) (bytes : List ℕ) → length bytes ≤ few → length bytes ≤ many
    → cut_texts few bytes ≡ cut_texts many bytes
cut_same zero zero bytes fits fit = refl
cut_same zero (suc many) [] fits fit = refl
cut_same zero (suc many) (b ∷ bytes) fits fit = absurd (omega (arith, fits))
cut_same (suc few) zero [] fits fit = refl
cut_same (suc few) zero (b ∷ bytes) fits fit = absurd (omega (arith, fit))
cut_same (suc few) (suc many) bytes fits fit =
    same_before (cut_texts few) (cut_texts many) bytes
    (λ rest less. cut_same few many rest (omega (arith, fits, less)) (omega (arith, fit, less)))

-- the first text stands before the others
pub texts_first : (bytes : List ℕ) → texts_in bytes ≡ text_before texts_in (text_length bytes)
unfolding texts_in
texts_first [] = refl
texts_first (b ∷ bytes) =
    same_before (cut_texts (length bytes)) texts_in (b ∷ bytes)
    (λ rest less. cut_same (length bytes) (length rest) rest (omega (arith, less)) (omega arith))

-- eight bytes are the length that stands before what follows them
long_laid : (bytes behind : List ℕ) → length bytes ≡ 8
    → text_length (255 ∷ bytes ++ behind) ≡ Some (little_number 8 (bytes ++ behind), behind)
long_laid bytes behind eight =
    let whole : 8 ≤ length (bytes ++ behind) = omega (arith, eight, length-append bytes behind) in
    rw (le-ltb _ _ whole, drop_at bytes behind 8 eight) refl

-- the length of a text stands before it
length_laid : (text others : List ℕ) → IsShort text
    → text_length (measured text ++ others) ≡ Some (length text, text ++ others)
length_laid text others short = grind (arith, common_steps, cases_lt, lt-ltb, le-ltb, long_laid)

-- what is laid out as texts is cut into them
pub texts_laid : (texts : List (List ℕ)) → All IsShort texts
    → texts_in (flat_map measured texts) ≡ texts
texts_laid [] short = texts_first []
texts_laid (text ∷ texts) short =
    let others = flat_map measured texts in
    texts_first (measured text ++ others)
    ∙ rw (length_laid text others (All-head IsShort text texts short))
    (ap₂ (λ (first : List ℕ) rest. first ∷ rest) (take_at text others (length text) refl)
    (rw (drop_at text others (length text) refl) (texts_laid texts (All-tail IsShort text texts short))))

pub no_texts : (bytes : List ℕ) → bytes ≡ [] → texts_in bytes ≡ []
no_texts bytes none = rw none (texts_first [])

pub none_AreTexts : (bytes : List ℕ) → bytes ≡ [] → AreTexts bytes
none_AreTexts bytes none = rw (no_texts bytes none) (sym none, All-nil _)

-- one more text after the others
more_laid : (bytes text : List ℕ) → AreTexts bytes
    → flat_map measured (texts_in bytes ++ text ∷ []) ≡ bytes ++ measured text
more_laid bytes text h = grind (arith, common_steps, flat_map-append, append-nil)

more_small : (bytes text : List ℕ) → AreTexts bytes → IsShort text
    → All IsShort (texts_in bytes ++ text ∷ [])
more_small bytes text h small = All-push IsShort (texts_in bytes) text h.1 small

pub texts_more : (bytes text : List ℕ) → AreTexts bytes → IsShort text
    → texts_in (bytes ++ measured text) ≡ texts_in bytes ++ text ∷ []
texts_more bytes text h small =
    ap texts_in (sym (more_laid bytes text h))
    ∙ texts_laid (texts_in bytes ++ text ∷ []) (more_small bytes text h small)

pub more_AreTexts : (bytes text : List ℕ) → AreTexts bytes → IsShort text
    → AreTexts (bytes ++ measured text)
more_AreTexts bytes text h small = grind (arith, common_steps, texts_more, more_laid, more_small)

abbrev pub bytes_of : SeenText → List ℕ
bytes_of text = text.bytes.now

abbrev pub same_text : SeenText → SeenText → Bool
same_text a b = bytes_eq a.bytes.now b.bytes.now

any_key : (text : SeenText) (index : List SeenText)
    → list_any (bytes_eq (bytes_of text)) (map bytes_of index) ≡ list_any (same_text text) index
any_key text [] = refl
any_key text (key ∷ index) = ap (λ (b : Bool). same_text text key || b) (any_key text index)

pub index_of_key : (text : SeenText) (index : List SeenText)
    → position_or_len (same_text text) index ≡ position_or_len (bytes_eq (bytes_of text)) (map bytes_of index)
index_of_key text [] = refl
index_of_key text (key ∷ index) = grind (arith, common_steps, index_of_key text index)

pub key_added : (text : SeenText) (index : List SeenText)
    → map bytes_of (insert_key same_text index text) ≡ with_seen (map bytes_of index) (bytes_of text)
key_added text index = grind (arith, common_steps, any_key, map-append)
