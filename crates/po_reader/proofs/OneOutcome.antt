-- What a text reads as, and its first fault: one of both, and one alone.
use Rattle.po_reader.proofs.Prelude.{All, All-cons, All-head, All-nil, All-tail, EntryTextFault, ForeignCharset, HasAdmittedCharset, HasTexts, IsCatalogueEntry, ItemsFault, List, Misfit, OutOfMemory, PoFault, ReadsItems, ReadsText, SpellsEntries, TextEntry, TextItem, [], at, at_end, fault_once, get_or, index, inl, inr, mixed, order, refl, subst, sym, text_reported, ℕ, ◌∙◌, ◌∷◌, ◌≡◌, ◌≢◌, ◌⊎◌}
use Rattle.po_entry.proofs.Headers.{charset_settled, texts_or_fault}
use Rattle.po_entry.proofs.AdmittedTexts.{no_texts_fault, one_texts_fault, texts_fault_reported}
use Rattle.po_reader.proofs.FirstFaults.{fault_unread, items_end, items_fault_once, spelt_once}
use Rattle.po_syntax.proofs.OneOutcome.{text_ends as items_or_fault, text_not_faulty as no_fault, text_once as items_once}
use Rattle.po_reader.proofs.ValidEntries.{entries_sound, entry_valid}
use Rattle.po_syntax.proofs.ItemTexts.{text_items as hold}
use Rattle.po_entry.specs.Faults as fault

module _ {P : TextEntry → Type 0} {F : TextEntry → PoFault → Type 0} where
  -- entries of which each has P or fails all have it, or one is the first that fails
  entries_end : ((entry : TextEntry) → P entry ⊎ ((kind : PoFault) × F entry kind)) → (entries : List TextEntry)
      → All P entries ⊎ ((kind : PoFault) × (line : ℕ) × fault.EntriesStop P F entries kind line)
  entries_end each [] = inl (All-nil P)
  entries_end each (read ∷ entries) = elim (each read) [
    | inl here ↦ elim (entries_end each entries) [
      | inl later ↦ inl (All-cons P read entries here later)
      | inr found ↦ inr
          (found.0, found.1, fault.EntriesStop.later here found.2)
    ]
    | inr found ↦ inr (found.0, read.line, fault.EntriesStop.here found.1 refl)
  ]

  entries_reported : ((entry : TextEntry) (kind : PoFault) → F entry kind → kind ≢ OutOfMemory)
      → {entries : List TextEntry} {kind : PoFault} {line : ℕ} → fault.EntriesStop P F entries kind line
      → kind ≢ OutOfMemory
  entries_reported why (fault.EntriesStop.here {entry = read} {fault = kind} fails is) = why read kind fails
  entries_reported why (fault.EntriesStop.later passes stops) = entries_reported why stops

-- the same fault on the same line
abbrev Same : PoFault → PoFault → ℕ → ℕ → Type 0
Same f g m n = (f ≡ g) × (m ≡ n)

module _ {P : TextEntry → Type 0} {F : TextEntry → PoFault → Type 0}
    (apart : (entry : TextEntry) (kind : PoFault) → P entry → F entry kind → ⊥) where
  entries_go_on : {kind : PoFault} {line : ℕ} {entries : List TextEntry} → fault.EntriesStop P F entries kind line
      → All P entries → ⊥
  entries_go_on {kind} (fault.EntriesStop.here {entry = read} {entries = entries} f l) h =
      apart read kind (All-head P read entries h) f
  entries_go_on (fault.EntriesStop.later {entry = read} {entries = entries} r s) h =
      entries_go_on s (All-tail P read entries h)

  entries_stop_once : ((entry : TextEntry) (f g : PoFault) → F entry f → F entry g → f ≡ g)
      → {m n : ℕ} {f g : PoFault} {entries : List TextEntry} → fault.EntriesStop P F entries f m
      → fault.EntriesStop P F entries g n → Same f g m n
  entries_stop_once once (fault.EntriesStop.here {entry = read} {fault = f} u l)
      (fault.EntriesStop.here {fault = g} v k) = (once read f g u v, l ∙ sym k)
  entries_stop_once once (fault.EntriesStop.here {entry = read} {fault = f} u l) (fault.EntriesStop.later r t) =
      absurd (apart read f r u)
  entries_stop_once once (fault.EntriesStop.later {entry = read} r s) (fault.EntriesStop.here {fault = g} v k) =
      absurd (apart read g r v)
  entries_stop_once once (fault.EntriesStop.later r s) (fault.EntriesStop.later q t) = entries_stop_once once s t

texts_go_on : {kind : PoFault} {line : ℕ} {entries : List TextEntry}
    → fault.EntriesStop HasTexts EntryTextFault entries kind line → All HasTexts entries → ⊥
texts_go_on stops h = entries_go_on (λ entry kind has fails. no_texts_fault has fails) stops h

not_foreign : (entry : TextEntry) (kind : PoFault) → HasAdmittedCharset entry → fault.CharsetFault entry kind → ⊥
not_foreign entry kind admitted (fault.foreign refused) = refused admitted

-- items that read have no fault
pub read_or_stopped : {items others : List TextItem} {a : List TextEntry} {kind : PoFault} {line : ℕ} → items ≡ others
    → ReadsItems items a → fault.ItemsStop others kind line → ⊥
read_or_stopped {a = a} i h (fault.ItemsStop.in_items s) =
    fault_unread s (subst (λ (x : List TextItem). SpellsEntries x a) i h.reads)
read_or_stopped i h (fault.ItemsStop.in_texts reads s) =
    texts_go_on s (subst (All HasTexts) (spelt_once i h.reads reads) h.texts)
read_or_stopped i h (fault.ItemsStop.in_charset reads texts s) =
    entries_go_on not_foreign s (subst (All HasAdmittedCharset) (spelt_once i h.reads reads) h.charsets)

pub text_once : (text : List ℕ) (a b : List TextEntry) → ReadsText text a → ReadsText text b → a ≡ b
text_once text a b h k = spelt_once (items_once text h.items k.items h.spelt k.spelt) h.read.reads k.read.reads

pub text_or_fault : (text : List ℕ) (a : List TextEntry) (kind : PoFault) (line : ℕ) → ReadsText text a
    → fault.IsReadFault text kind line → ⊥
text_or_fault text a kind line h (fault.IsReadFault.in_text f) = no_fault text h.items kind line h.spelt f
text_or_fault text a kind line h (fault.IsReadFault.in_items {items = items} spelt s) =
    read_or_stopped (items_once text h.items items h.spelt spelt) h.read s

charset_or_fault : (entry : TextEntry) → HasAdmittedCharset entry ⊎ ((kind : PoFault) × fault.CharsetFault entry kind)
charset_or_fault entry =
    elim (charset_settled entry) [ inl admitted ↦ inl admitted | inr never ↦ inr (ForeignCharset, fault.foreign never) ]

pub text_ends : (text : List ℕ)
    → ((entries : List TextEntry) × ReadsText text entries)
    ⊎ ((kind : PoFault) × (line : ℕ) × fault.IsReadFault text kind line)
text_ends text = elim (items_or_fault text) [
  | inl spelt ↦ elim (items_end spelt.0) [
    | inl read ↦ elim (entries_end texts_or_fault read.0) [
      | inl readable ↦ elim (entries_end charset_or_fault read.0) [
        | inl admitted ↦ inl (
          read.0,
          record {
            items = spelt.0;
            spelt = spelt.1;
            read =
                record { reads = read.1; texts = readable; charsets = admitted };
          },
        )
        | inr found ↦ inr (
          found.0,
          found.1,
          fault.IsReadFault.in_items spelt.1 (fault.in_charset read.1 readable found.2),
        )
      ]
      | inr found ↦ inr (found.0, found.1, fault.IsReadFault.in_items spelt.1 (fault.in_texts read.1 found.2))
    ]
    | inr found ↦ inr (found.0, found.1, fault.IsReadFault.in_items spelt.1 (fault.ItemsStop.in_items found.2))
  ]
  | inr found ↦ inr (found.0, found.1, fault.in_text found.2)
]

spelt_unread : {items others : List TextItem} {f : PoFault} {m : ℕ} {entries : List TextEntry} → items ≡ others
    → ItemsFault others f m → SpellsEntries items entries → ⊥
spelt_unread {entries = entries} i s r = fault_unread s (subst (λ (x : List TextItem). SpellsEntries x entries) i r)

foreign_once : (entry : TextEntry) (f g : PoFault) → fault.CharsetFault entry f → fault.CharsetFault entry g → f ≡ g
foreign_once entry f g (fault.foreign refused) (fault.foreign also) = refl

stops_once : {m n : ℕ} {f g : PoFault} {items others : List TextItem} → items ≡ others → fault.ItemsStop items f m
    → fault.ItemsStop others g n → Same f g m n
stops_once i (fault.ItemsStop.in_items s) (fault.ItemsStop.in_items t) = items_fault_once i s t
stops_once i (fault.ItemsStop.in_items s) (fault.ItemsStop.in_texts r t) = absurd (spelt_unread (sym i) s r)
stops_once i (fault.ItemsStop.in_items s) (fault.ItemsStop.in_charset r u t) = absurd (spelt_unread (sym i) s r)
stops_once i (fault.ItemsStop.in_texts r t) (fault.ItemsStop.in_items s) = absurd (spelt_unread i s r)
stops_once i (fault.ItemsStop.in_charset r u t) (fault.ItemsStop.in_items s) = absurd (spelt_unread i s r)
stops_once {n = n} {g = g} i (fault.ItemsStop.in_texts r t) (fault.ItemsStop.in_texts q v) =
    entries_stop_once (λ entry kind has fails. no_texts_fault has fails)
    (λ entry f g one other. one_texts_fault one other) t
    (subst (λ (e : List TextEntry). fault.EntriesStop HasTexts EntryTextFault e g n) (sym (spelt_once i r q)) v)
stops_once i (fault.ItemsStop.in_texts r t) (fault.ItemsStop.in_charset q u v) =
    absurd (texts_go_on t (subst (All HasTexts) (sym (spelt_once i r q)) u))
stops_once i (fault.ItemsStop.in_charset r u t) (fault.ItemsStop.in_texts q v) =
    absurd (texts_go_on v (subst (All HasTexts) (spelt_once i r q) u))
stops_once {n = n} {g = g} i (fault.ItemsStop.in_charset r u t) (fault.ItemsStop.in_charset q w v) =
    entries_stop_once not_foreign foreign_once t
    (subst (λ (e : List TextEntry). fault.EntriesStop HasAdmittedCharset fault.CharsetFault e g n)
    (sym (spelt_once i r q)) v)

pub text_fault_once : (text : List ℕ) (kind other : PoFault) (line other_line : ℕ) → fault.IsReadFault text kind line
    → fault.IsReadFault text other other_line → (kind ≡ other) × (line ≡ other_line)
text_fault_once text kind other line other_line (fault.IsReadFault.in_text f) (fault.IsReadFault.in_text g) =
    fault_once text kind other line other_line f g
text_fault_once text kind other line other_line (fault.IsReadFault.in_text f)
    (fault.IsReadFault.in_items {items = items} s t) = absurd (no_fault text items kind line s f)
text_fault_once text kind other line other_line (fault.IsReadFault.in_items {items = items} s t)
    (fault.IsReadFault.in_text g) = absurd (no_fault text items other other_line s g)
text_fault_once text kind other line other_line (fault.IsReadFault.in_items {items = items} s t)
    (fault.IsReadFault.in_items {items = others} k v) = stops_once (items_once text items others s k) t v

misfit_reported : {prefix : List TextItem} {item : TextItem} {kind : PoFault} → Misfit prefix item kind
    → kind ≢ OutOfMemory
misfit_reported (index wrong) = λ same. cc
misfit_reported (mixed right wrong) = λ same. cc
misfit_reported (order right own) = λ same. cc

items_reported : {items : List TextItem} {kind : PoFault} {line : ℕ} → ItemsFault items kind line → kind ≢ OutOfMemory
items_reported (at rest viable blocked misfit) = misfit_reported misfit
items_reported (at_end viable unread) = λ same. cc

pub texts_reported : {entries : List TextEntry} {kind : PoFault} {line : ℕ}
    → fault.EntriesStop HasTexts EntryTextFault entries kind line → kind ≢ OutOfMemory
texts_reported stops = entries_reported (λ entry kind fails. texts_fault_reported fails) stops

foreign_reported : (entry : TextEntry) (kind : PoFault) → fault.CharsetFault entry kind → kind ≢ OutOfMemory
foreign_reported entry kind (fault.foreign refused) = λ same. cc

pub read_reported : (text : List ℕ) (kind : PoFault) (line : ℕ) → fault.IsReadFault text kind line → kind ≢ OutOfMemory
read_reported text kind line (fault.in_text why) = text_reported text kind line why
read_reported text kind line (fault.IsReadFault.in_items spelt (fault.ItemsStop.in_items why)) = items_reported why
read_reported text kind line (fault.IsReadFault.in_items spelt (fault.in_texts reads stops)) = texts_reported stops
read_reported text kind line (fault.IsReadFault.in_items spelt (fault.in_charset reads readable stops)) =
    entries_reported foreign_reported stops

pub read_valid : (text : List ℕ) (entries : List TextEntry) → ReadsText text entries → All IsCatalogueEntry entries
read_valid text entries read =
    let sound = entries_sound read.read.reads (hold text read.items read.spelt) in
    λ k d inside.
    record {
      valid = entry_valid (get_or entries k d) (sound k d inside) (read.read.texts k d inside);
      charset =
          read.read.charsets k d inside;
    }
