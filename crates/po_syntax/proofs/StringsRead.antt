-- A quoted string: after an opening quote a text spells one or has one fault, and not both.
use Rattle.po_syntax.proofs.Prelude.{AddsLent, All, All-cons, All-head, All-nil, All-push, All-tail, Bool, Byte, End, Err, IsFirstByte, IsTrue, IsUtf8, IsUtf8-from_is_utf8, Item, LendsUtf8, List, Marks, None, OfString, Ok, Once, Option, PoFault, Result, Some, SpellsString, Step, Stop, StringFault, UnterminatedString, [], after_escape, after_plain, ap, append_assoc, arith, closed, drop, eqb-false, escape, escape_at, false, false_from_ne_true, false≢true, get_or, in_escape, inl, inr, is_byte2, is_utf8, is_utf8-from_IsUtf8, length, list_all, ne_eqb, not_closed, or_parts, owns_utf8, plain, refl, step_at, subst, suc, sym, take, true, unwrap_or, view, views, zero, ℕ, ◌&&◌, ◌++◌, ◌+◌, ◌<◌, ◌==◌, ◌∙◌, ◌∷◌, ◌≡◌, ◌≢◌, ◌≤◌, ◌⊎◌}
use Rattle.po_syntax.proofs.Escapes.{EscapeSays, by_byte, escape_read, escape_says, escape_shorter, escape_stops}
use Rattle.std.specs.Prelude.{◌↔◌}
use Rattle.std.specs.Global.{Vec}
use Rattle.po_syntax.specs.declared.item.Item.TheVariants.{Comment, Str, Word}
use Rattle.po_syntax.specs.declared.item.SpeltBytes.{SpeltBytes}
use Rattle.po_syntax.specs.declared.item.SpeltBytes.TheVariants.{Escaped, Numbered, Plain}

-- a byte that is neither a quote nor a backslash stands for itself
no_mark : (b : ℕ) → is_byte2 34 92 b ≡ false → (b ≢ 34) × (b ≢ 92)
no_mark b h = let parts = or_parts (b == 34) (b == 92) h in (eqb-false b 34 parts.0, eqb-false b 92 parts.1)

-- none of the first n bytes of the text is a quote or a backslash
abbrev pub ArePlain : ℕ → List ℕ → Type 0
ArePlain n text = (k : ℕ) → k < n → is_byte2 34 92 (get_or text k 0) ≡ false

pub spelt_plain : (n : ℕ) (text : List ℕ) {bytes end : List ℕ} → ArePlain n text → n ≤ length text
    → SpellsString (drop n text) bytes end → SpellsString text (take n text ++ bytes) end
spelt_plain zero text are within h = h
spelt_plain (suc n) [] are within h = absurd (omega arith)
spelt_plain (suc n) (b ∷ text) are within h =
    let other = no_mark b (are 0 (omega arith)) in
    plain other.0 other.1 (spelt_plain n text (λ k less. are (suc k) (omega arith)) (omega arith) h)

pub stops_plain : (n : ℕ) (text : List ℕ) {fault : PoFault} → ArePlain n text → n ≤ length text
    → StringFault (drop n text) fault → StringFault text fault
stops_plain zero text are within h = h
stops_plain (suc n) [] are within h = absurd (omega arith)
stops_plain (suc n) (b ∷ text) are within h =
    let other = no_mark b (are 0 (omega arith)) in
    after_plain other.0 other.1 (stops_plain n text (λ k less. are (suc k) (omega arith)) (omega arith) h)

-- the bytes before the first quote or backslash are plain
pub plain_before : (text : List ℕ) (found : Option ℕ) → IsFirstByte (is_byte2 34 92) text found → let n =
    unwrap_or found (length text) in ArePlain n text × (n ≤ length text)
plain_before text None h = (λ k less. false_from_ne_true _ (h k (omega arith) less), omega arith)
plain_before text (Some index) h =
    (λ k less. false_from_ne_true _ (h.0.before k (omega arith) less), omega (arith, h.0.high))

-- What stands after a run of plain bytes: a closing quote, an escape, or the line's end.
pub closes : (text after : List ℕ) (mark : ℕ) → text ≡ mark ∷ after → mark ≡ 34 → SpellsString text [] after
closes text after mark e is = rw (e, is) closed

pub backslash : (text after : List ℕ) (mark : ℕ) → text ≡ mark ∷ after
    → ((b : ℕ) (rest : List ℕ) → text ≡ b ∷ rest → (b ≡ 34) ⊎ (b ≡ 92)) → mark ≢ 34 → 92 ∷ after ≡ text
backslash text after mark e special other =
    elim (special mark after e) [ inl is ↦ absurd (other is) | inr is ↦ sym (rw is at e) ]

pub stops_at_end : (text : List ℕ) → length text ≡ 0 → StringFault text UnterminatedString
stops_at_end [] e = not_closed
stops_at_end (b ∷ text) e = absurd (omega arith)

pub escape_is : (text : List ℕ) {step : Step} → escape_at text ≡ step → EscapeSays text step
escape_is text e = subst (EscapeSays text) e (escape_says text)

pub ruleset plain_parts = (plain_before, spelt_plain, stops_plain)

-- After an opening quote a text spells one string or has one fault, and not both.

-- it holds of one outcome, or of those that come of a shorter text
pub data Reads {O : Type 0} (Is : List ℕ → O → Type 0) (text : List ℕ) : Type 0 where
  ends : Once (Is text) → Reads Is text
  goes_on : (make : O → O) (next : List ℕ) → length next < length text
      → ((outcome : O) → Is next outcome → Is text (make outcome))
      → ((outcome : O) → Is text outcome → (before : O) × Is next before × (outcome ≡ make before))
      → Reads Is text

once_below : {O : Type 0} (Is : List ℕ → O → Type 0) → ((text : List ℕ) → Reads Is text) → (n : ℕ) (text : List ℕ)
    → length text < n → Once (Is text)
once_below Is reads zero text h = absurd (omega arith)
once_below {O} Is reads (suc n) text h = by (reads text) (once_below Is reads n) where
  by : Reads Is text → ((next : List ℕ) → length next < n → Once (Is next)) → Once (Is text)
  by (ends once) below = once
  by (goes_on make next less holds comes) below =
      let once = below next (omega arith) in record {
        outcome = make once.outcome;
        holds = holds once.outcome once.holds;
        only = λ other is. let before = comes other is in before.2 ∙ ap make (once.only before.0 before.1);
      }

pub reads_once : {O : Type 0} (Is : List ℕ → O → Type 0) → ((text : List ℕ) → Reads Is text) → (text : List ℕ)
    → Once (Is text)
reads_once Is reads text = once_below Is reads (length text + 1) text (omega arith)

-- the bytes of a string and the text after it, or the fault of the text
abbrev pub Reading : Type 0
Reading = Result (List ℕ × List ℕ) PoFault

abbrev pub StringIs : List ℕ → Reading → Type 0
StringIs text (Ok read) = SpellsString text read.0 read.1
StringIs text (Err fault) = StringFault text fault

abbrev with_byte : ℕ → Reading → Reading
with_byte b (Ok read) = Ok (b ∷ read.0, read.1)
with_byte b (Err fault) = Err fault

-- how a text is read whose first step is this one
abbrev Follows : Step → Reading → Type 0
Follows (End rest) reading = reading ≡ Ok ([], rest)
Follows (Byte b next) reading = (more : Reading) × StringIs next more × (reading ≡ with_byte b more)
Follows (Stop fault) reading = reading ≡ Err fault

spelt_follows : {text bytes rest : List ℕ} → SpellsString text bytes rest → Follows (step_at text) (Ok (bytes, rest))
unfolding step_at
spelt_follows closed = refl
spelt_follows (plain {b = b} inside raw more) = rw (ne_eqb b 34 inside, ne_eqb b 92 raw) (Ok (_, _), more, refl)
spelt_follows (escape spelt more) = rw (escape_read spelt) (Ok (_, _), more, refl)

fault_follows : {text : List ℕ} {fault : PoFault} → StringFault text fault → Follows (step_at text) (Err fault)
unfolding step_at
fault_follows not_closed = refl
fault_follows (in_escape h) = rw (escape_stops h) refl
fault_follows (after_plain {b = b} {fault = fault} inside raw more) =
    rw (ne_eqb b 34 inside, ne_eqb b 92 raw) (Err fault, more, refl)
fault_follows (after_escape {fault = fault} spelt more) = rw (escape_read spelt) (Err fault, more, refl)

follows : (text : List ℕ) (reading : Reading) → StringIs text reading → Follows (step_at text) reading
follows text (Ok read) h = spelt_follows h
follows text (Err fault) h = fault_follows h

-- what a step says of the text
abbrev Says : List ℕ → Step → Type 0
Says text (End rest) = SpellsString text [] rest
Says text (Byte b next) =
    (length next < length text) × ((more : Reading) → StringIs next more → StringIs text (with_byte b more))
Says text (Stop fault) = StringFault text fault

after_plain_byte : (b : ℕ) (text : List ℕ) → (b == 34) ≡ false → (b == 92) ≡ false → (more : Reading)
    → StringIs text more → StringIs (b ∷ text) (with_byte b more)
after_plain_byte b text inside raw (Ok read) h = plain (eqb-false b 34 inside) (eqb-false b 92 raw) h
after_plain_byte b text inside raw (Err fault) h = after_plain (eqb-false b 34 inside) (eqb-false b 92 raw) h

after_backslash : (text : List ℕ) (step : Step) → EscapeSays text step → Says (92 ∷ text) step
after_backslash text (End rest) h = absurd h
after_backslash text (Byte b next) h = (omega (arith, escape_shorter h), on) where
  on : (more : Reading) → StringIs next more → StringIs (92 ∷ text) (with_byte b more)
  on (Ok read) more = escape h more
  on (Err fault) more = after_escape h more
after_backslash text (Stop fault) h = in_escape h

says : (text : List ℕ) → Says text (step_at text)
unfolding step_at
says [] = not_closed
says (b ∷ text) =
    let P = λ (a : ℕ) (step : Step). Says (a ∷ text) step in
    by_byte P b 34 closed (λ inside. by_byte P b 92 (after_backslash text (escape_at text) (escape_says text))
    (λ raw. (omega arith, after_plain_byte b text inside raw)))

string_reads : (text : List ℕ) → Reads StringIs text
string_reads text = by (step_at text) (says text) (follows text) where
  by : (step : Step) → Says text step → ((reading : Reading) → StringIs text reading → Follows step reading)
      → Reads StringIs text
  by (End rest) said only = ends (record { outcome = Ok ([], rest); holds = said; only = only })
  by (Byte b next) said only = goes_on (with_byte b) next said.0 said.1 only
  by (Stop fault) said only = ends (record { outcome = Err fault; holds = said; only = only })

pub string_once : (text : List ℕ) → Once (StringIs text)
string_once = reads_once StringIs string_reads

tested : (bytes : List ℕ) (found : Bool) → (IsTrue found ↔ IsUtf8 bytes) → found ≡ is_utf8 bytes
tested bytes true h = sym (is_utf8-from_IsUtf8 bytes (h.0 refl))
tested bytes false h = by (is_utf8 bytes) refl where
  by : (own : Bool) → is_utf8 bytes ≡ own → false ≡ own
  by true e = absurd (false≢true (h.1 (IsUtf8-from_is_utf8 bytes e)))
  by false e = refl

pub numbered : {item : Item} {string : SpeltBytes} {marks : Marks} {line : ℕ} {bytes : Vec ℕ} {found : Bool}
    → item ≡ Str string marks line → string ≡ Numbered bytes → (IsTrue found ↔ IsUtf8 bytes.items)
    → found ≡ owns_utf8 item
numbered {bytes = bytes} {found = found} is string_is h = rw (is, string_is) (tested bytes.items found h)

one : (item : Item) → LendsUtf8 item → IsTrue (owns_utf8 item) ↔ OfString IsUtf8 (view item)
one (Comment kind text line) lent = (λ _. tt, λ _. refl)
one (Word keyword marks line) lent = (λ _. tt, λ _. refl)
one (Str (Plain bytes) marks line) lent = (λ _. lent, λ _. refl)
one (Str (Escaped bytes) marks line) lent = (λ _. lent, λ _. refl)
one (Str (Numbered bytes) marks line) lent = (IsUtf8-from_is_utf8 bytes.items, is_utf8-from_IsUtf8 bytes.items)

both : (own others : Bool) (item : Item) (items : List Item) → (IsTrue own ↔ OfString IsUtf8 (view item))
    → (IsTrue others ↔ All (OfString IsUtf8) (views items))
    → IsTrue (own && others) ↔ All (OfString IsUtf8) (views (item ∷ items))
both true others item items here more = (
  λ passes. All-cons (OfString IsUtf8) (view item) (views items) (here.0 refl) (more.0 passes),
  λ all. more.1 (All-tail (OfString IsUtf8) (view item) (views items) all),
)
both false others item items here more = (
  λ never. absurd (false≢true never),
  λ all. absurd (false≢true (here.1 (All-head (OfString IsUtf8) (view item) (views items) all))),
)

pub all_owned : (items : List Item) → All LendsUtf8 items
    → IsTrue (list_all owns_utf8 items) ↔ All (OfString IsUtf8) (views items)
all_owned [] lent = (λ _. All-nil (OfString IsUtf8), λ _. refl)
all_owned (item ∷ items) lent =
    both (owns_utf8 item) (list_all owns_utf8 items) item items (one item (All-head LendsUtf8 item items lent))
    (all_owned items (All-tail LendsUtf8 item items lent))

-- an item more after others
pub one_more : (text : List ℕ) (old items new : List Item) (item : Item) → AddsLent text old items
    → new ≡ items ++ item ∷ [] → (IsUtf8 text → LendsUtf8 item) → AddsLent text old new
one_more text old items new item before is lent = (
  before.0 ++ item ∷ [],
  is ∙ ap (λ l. l ++ item ∷ []) before.1 ∙ append_assoc old before.0 (item ∷ []),
  λ utf8. All-push LendsUtf8 before.0 item (before.2 utf8) (lent utf8),
)
