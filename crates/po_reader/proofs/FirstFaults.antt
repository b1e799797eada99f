-- Items could become entries exactly where none of them is refused, and their fault is that of the first that is.
use Rattle.po_reader.proofs.Prelude.{AfterForm, BadOrder, Before, Between, Entries, Fault, Form, Gap, Id, In, InHead, IsViable, ItemsFault, Keyword, List, Marks, Misfit, MsgId, MsgStr, MsgStrAt, Outcome, PoFault, SoFar, SpellsEntries, Stage, Stop, Str, TextEntry, TextItem, Translation, Word, [], ap, append-nil, append_assoc, arith, at, at_end, bool_eq_equiv, closed, come_to, comes_to, common_steps, ended, eq-eqb, false, fold-append, index, inl, inr, keyword_text, last, last_line, line_of, mixed, no_lines, order, outcome, outcome_of, own_marks, refl, rules, settled, settled_gap, start, subst, subst₂, sym, true, true≢false, turn, turn_gap, with_keyword, with_own, ℕ, ◌++◌, ◌∙◌, ◌∷◌, ◌≡◌, ◌⊎◌}
use Rattle.std.specs.Prelude.{fold}
use Rattle.po_syntax.specs.Facts.Once.{Once, same}
use Rattle.po_reader.proofs.ReaderSteps.{goes_on, stopped, text_ends}
use Rattle.po_reader.proofs.FromSpelling.{Comes, spelt_runs, string_step, text_comes}
use Rattle.po_reader.proofs.ToSpelling.{runs_spelt, whole_spelt}
use Rattle.po_reader.proofs.MisplacedItems.{Step, refused, step, taken}

-- from this gap on some items complete the entry, of which no string is the first
abbrev Completed : Gap → Type 0
Completed gap = (after : List TextItem) × (entries : List TextEntry) × Comes 0 (Entries entries) gap after

-- a keyword and an empty text, and what completes the entry after them
with_text_after : (gap : Gap) (read : SoFar) (keyword : Keyword) (marks : Marks)
    → turn_gap gap (Word keyword marks 0) ≡ In read keyword marks false []
    → Completed (closed read keyword marks []) → Completed gap
with_text_after gap read keyword marks opens (after, entries, comes) = (
  Word keyword marks 0 ∷ Str [] marks 0 ∷ after,
  entries,
  text_comes 0 (Entries entries) (keyword_text last) gap read after opens comes,
)

translation_completed : (read : SoFar) → Completed (Before read Translation)
translation_completed read =
    with_text_after (Before read Translation) read MsgStr (own_marks read.own.obsolete)
    (rw (bool_eq_equiv.refl read.own.obsolete) refl) ([], _, record { string = refl; comes = refl })

completed : (gap : Gap) → Completed gap
completed (AfterForm read number) = ([], _, record { string = refl; comes = refl })
completed (Before read (Form number)) =
    with_text_after (Before read (Form number)) read (MsgStrAt number) (own_marks read.own.obsolete)
    (rw (bool_eq_equiv.refl read.own.obsolete, eq-eqb number number refl) refl)
    ([], _, record { string = refl; comes = refl })
completed (Before read Translation) = translation_completed read
completed (Before read Id) =
    with_text_after (Before read Id) (with_own read (with_keyword MsgId 0 read.own)) MsgId
    (own_marks read.own.obsolete) (rw (bool_eq_equiv.refl read.own.obsolete) refl) (translation_completed _)
completed (InHead read above) =
    with_text_after (InHead read above) (with_own read (no_lines false)) MsgId (own_marks false) refl
    (translation_completed _)

stage_completed : (stage : Stage) → goes_on stage ≡ true
    → (after : List TextItem) × (entries : List TextEntry) × (comes_to 0 stage after ≡ Entries entries)
stage_completed (Between gap) e = let more = completed gap in (more.0, more.1, more.2.comes)
stage_completed (Stop fault line) e = absurd cc
stage_completed (In read keyword marks some text) e =
    let more = completed (closed read keyword marks (text ++ [])) in (
      Str [] marks 0 ∷ more.0,
      more.1,
      ap (λ stage. comes_to 0 stage more.0) (string_step read keyword marks some text [] 0)
          ∙ ap outcome_of (text_ends 0 read keyword marks (text ++ []) more.0 more.2.string) ∙ more.2.comes,
    )

-- where a list of items leads, after these entries
abbrev led : List TextEntry → List TextItem → Stage
led before items = fold turn (start before) items

led_on : (end : ℕ) (before : List TextEntry) (items after : List TextItem)
    → comes_to end (start before) (items ++ after) ≡ comes_to end (led before items) after
led_on end before items after =
    ap (λ stage. outcome end (settled stage)) (fold-append turn (start before) items after)

viable : (before : List TextEntry) (items : List TextItem) → goes_on (led before items) ≡ true → IsViable items
viable before items e =
    let more = stage_completed (led before items) e in
    let spelt = runs_spelt 0 before (items ++ more.0) more.1 (led_on 0 before items more.0 ∙ more.2) in
    (more.0, spelt.0, spelt.1)

-- items that could become entries go on
on_where_viable : (before : List TextEntry) (items : List TextItem) → IsViable items
    → goes_on (led before items) ≡ true
on_where_viable before items (after, entries, spelt) = by (led before items) refl where
  by : (stage : Stage) → led before items ≡ stage → goes_on (led before items) ≡ true
  by (Stop fault line) is =
      let fails = sym (stopped 0 fault line after) ∙ ap (λ stage. comes_to 0 stage after) (sym is)
      ∙ sym (led_on 0 before items after) ∙ spelt_runs spelt 0 before in absurd cc
  by stage is = ap goes_on is

not_viable : (before : List TextEntry) (items : List TextItem) → goes_on (led before items) ≡ false → IsViable items → ⊥
not_viable before items e possible = true≢false (sym (on_where_viable before items possible) ∙ e)

led_to : (before : List TextEntry) (prefix : List TextItem) (item : TextItem)
    → led before (prefix ++ item ∷ []) ≡ turn (led before prefix) item
led_to before prefix item = fold-append turn (start before) prefix (item ∷ [])

misfit_once : {prefix : List TextItem} {item : TextItem} {f g : PoFault} → Misfit prefix item f → Misfit prefix item g
    → f ≡ g
misfit_once (index w) (index v) = refl
misfit_once (index w) (mixed n m) = absurd (n w)
misfit_once (index w) (order n o) = absurd (n w)
misfit_once (mixed n m) (index w) = absurd (n w)
misfit_once (mixed n m) (mixed o p) = refl
misfit_once (mixed n m) (order o p) = absurd (p m)
misfit_once (order n o) (index w) = absurd (n w)
misfit_once (order n o) (mixed p m) = absurd (o m)
misfit_once (order n o) (order p q) = refl

-- one more item is taken, or refused with its misfit
item_step : (before : List TextEntry) (prefix : List TextItem) (item : TextItem) → goes_on (led before prefix) ≡ true
    → Step prefix item (turn (led before prefix) item)
item_step before prefix item on =
    step prefix (led before prefix) item on
    (λ other goes. viable before (prefix ++ other ∷ []) (ap goes_on (led_to before prefix other) ∙ goes))
    (λ other stops. not_viable before (prefix ++ other ∷ []) (ap goes_on (led_to before prefix other) ∙ stops))

-- where no item is refused, the items come to entries, or end too early
gap_ended : (end : ℕ) (gap : Gap)
    → ((entries : List TextEntry) × (ended end gap ≡ Entries entries)) ⊎ (ended end gap ≡ Fault BadOrder end)
gap_ended end (InHead read above) = grind (arith, common_steps)
gap_ended end (Before read wanted) = inr refl
gap_ended end (AfterForm read number) = inl (_, refl)

stage_ended : (end : ℕ) (stage : Stage) → goes_on stage ≡ true
    → ((entries : List TextEntry) × (comes_to end stage [] ≡ Entries entries))
    ⊎ (comes_to end stage [] ≡ Fault BadOrder end)
stage_ended end (Stop fault line) on = absurd cc
stage_ended end (Between gap) on = gap_ended end (settled_gap gap)
stage_ended end (In read keyword marks true text) on = gap_ended end (settled_gap (closed read keyword marks text))
stage_ended end (In read keyword marks false text) on = inr refl

-- what items come to after these entries
abbrev After : List TextEntry → List TextItem → Outcome
After before items = comes_to (last_line items) (start before) items

refused_comes : (before : List TextEntry) (prefix : List TextItem) (item : TextItem) (rest : List TextItem)
    (fault : PoFault) (line : ℕ) → turn (led before prefix) item ≡ Stop fault line
    → After before (prefix ++ item ∷ rest) ≡ Fault fault line
refused_comes before prefix item rest fault line e = grind (arith, common_steps, led_on, stopped)

-- items spell entries, or have a fault
abbrev pub ItemsAre : List TextItem → Outcome → Type 0
ItemsAre items (Entries entries) = SpellsEntries items entries
ItemsAre items (Fault fault line) = ItemsFault items fault line

-- where all items were taken
ended_are : (items : List TextItem) → goes_on (led [] items) ≡ true → ItemsAre items (come_to items)
ended_are items on = elim (stage_ended (last_line items) (led [] items) on) [
  | inl reads ↦ subst (ItemsAre items) (sym reads.1) (whole_spelt (last_line items) items reads.0 reads.1)
  | inr e ↦ subst (ItemsAre items) (sym e) (at_end (viable [] items on)
      (λ entries spelt. let reads = spelt_runs spelt (last_line items) [] in cc))
]

next_are : (prefix : List TextItem) (item : TextItem) (items : List TextItem) → goes_on (led [] prefix) ≡ true
    → (goes_on (led [] (prefix ++ item ∷ [])) ≡ true
    → ItemsAre ((prefix ++ item ∷ []) ++ items) (come_to ((prefix ++ item ∷ []) ++ items)))
    → ItemsAre (prefix ++ item ∷ items) (come_to (prefix ++ item ∷ items))
next_are prefix item items on more = by (item_step [] prefix item on) refl where
  by : {next : Stage} → Step prefix item next → turn (led [] prefix) item ≡ next
      → ItemsAre (prefix ++ item ∷ items) (come_to (prefix ++ item ∷ items))
  by (taken goes) is =
      rw (append_assoc prefix (item ∷ []) items) at (more (ap goes_on (led_to [] prefix item ∙ is) ∙ goes))
  by (refused {fault = fault} misfit) is =
      subst (ItemsAre (prefix ++ item ∷ items)) (sym (refused_comes [] prefix item items fault (line_of item) is))
      (at items (viable [] prefix on) (not_viable [] (prefix ++ item ∷ []) (ap goes_on (led_to [] prefix item ∙ is)))
      misfit)

items_are : (prefix items : List TextItem) → goes_on (led [] prefix) ≡ true
    → ItemsAre (prefix ++ items) (come_to (prefix ++ items))
items_are prefix [] on = rw append-nil (ended_are prefix on)
items_are prefix (item ∷ items) on = next_are prefix item items on (items_are (prefix ++ item ∷ []) items)

-- the fault of items is what they come to, whatever entries were read before them
pub fault_comes : (before : List TextEntry) {items : List TextItem} {fault : PoFault} {line : ℕ}
    → ItemsFault items fault line → After before items ≡ Fault fault line
fault_comes before (at {prefix = prefix} {item = item} rest {fault = fault} possible never misfit) =
    by (item_step before prefix item (on_where_viable before prefix possible)) refl where
      by : {next : Stage} → Step prefix item next → turn (led before prefix) item ≡ next
          → After before (prefix ++ item ∷ rest) ≡ Fault fault (line_of item)
      by (taken goes) is =
          absurd (never (viable before (prefix ++ item ∷ []) (ap goes_on (led_to before prefix item ∙ is) ∙ goes)))
      by (refused {fault = other} found) is =
          refused_comes before prefix item rest other (line_of item) is
          ∙ ap (λ f. Fault f (line_of item)) (misfit_once found misfit)
fault_comes before {items} (at_end possible none) = search (rules, stage_ended, on_where_viable, runs_spelt)

-- what items come to they are, and nothing else
pub items_once : (items : List TextItem) → Once (ItemsAre items)
items_once items =
    record { outcome = come_to items; holds = items_are [] items refl; only = only } where
      only : (other : Outcome) → ItemsAre items other → other ≡ come_to items
      only (Entries entries) spelt = sym (spelt_runs spelt (last_line items) [])
      only (Fault fault line) wrong = sym (fault_comes [] wrong)

same_items : {items others : List TextItem} (a b : Outcome) → items ≡ others → ItemsAre items a → ItemsAre others b
    → a ≡ b
same_items {others = others} a b e one other =
    same (items_once others) (subst (λ (i : List TextItem). ItemsAre i a) e one) other

pub fault_unread : {items : List TextItem} {fault : PoFault} {line : ℕ} {entries : List TextEntry}
    → ItemsFault items fault line → SpellsEntries items entries → ⊥
fault_unread wrong reads = let same = same_items (Fault _ _) (Entries _) refl wrong reads in cc

pub items_fault_once : {items others : List TextItem} {f g : PoFault} {m n : ℕ} → items ≡ others → ItemsFault items f m
    → ItemsFault others g n → (f ≡ g) × (m ≡ n)
items_fault_once same one other = let both = same_items (Fault _ _) (Fault _ _) same one other in (cc, cc)

-- items spell one list of entries
pub spelt_once : {items others : List TextItem} {a b : List TextEntry} → items ≡ others → SpellsEntries items a
    → SpellsEntries others b → a ≡ b
spelt_once same one other = let both = same_items (Entries _) (Entries _) same one other in cc

pub items_fault : (before : List TextEntry) (items : List TextItem) (fault : PoFault) (line : ℕ)
    → After before items ≡ Fault fault line → ItemsFault items fault line
items_fault before items fault line e = by (items_once items).outcome (items_once items).holds where
  by : (to : Outcome) → ItemsAre items to → ItemsFault items fault line
  by (Entries entries) spelt = let reads = spelt_runs spelt (last_line items) before in absurd cc
  by (Fault other place) wrong =
      let same = sym (fault_comes before wrong) ∙ e in
      subst₂ (λ (f : PoFault) (l : ℕ). ItemsFault items f l) (cc same) (cc same) wrong

-- items spell entries or have a fault
pub items_end : (items : List TextItem)
    → ((entries : List TextEntry) × SpellsEntries items entries)
    ⊎ ((fault : PoFault) × (line : ℕ) × ItemsFault items fault line)
items_end items = by (items_once items).outcome (items_once items).holds where
  by : (to : Outcome) → ItemsAre items to
      → ((entries : List TextEntry) × SpellsEntries items entries)
      ⊎ ((fault : PoFault) × (line : ℕ) × ItemsFault items fault line)
  by (Entries entries) spelt = inl (entries, spelt)
  by (Fault fault line) wrong = inr (fault, line, wrong)
