-- The rows of a buffer of entries that grows.
use Rattle.po_entry.proofs.Prelude.{Adds, All, All-append, All-cons, All-head, All-map, All-nil, All-push, All-set, All-tail, AreLaid, Bool, CanLie, EndsContext, Err, Grows, IsCatalogueEntry, LiesIn, List, Ok, OnErr, PluralFollows, Result, Row, TextEntry, [], ap, append_assoc, ap₂, arith, changed_at, common_steps, drop, drop-append-add, drop-append-le, drop-append_seam, entries_in, entry_at, entry_bytes, filter, get_or-map, head_at, head_bytes, length, length-append, length-drop, length-map, length-take, map, map-append, moved, not, own_at, own_bytes, refl, row_of, rules, set, subst, suc, sym, take, take-append-drop, take-append-le, take-append_seam, take_all, take_more, zero, ℕ, ◌++◌, ◌+◌, ◌<◌, ◌^◌, ◌∙◌, ◌∷◌, ◌≡◌, ◌≤◌}
use Rattle.std.specs.Prelude.{get_or}
use Rattle.po_entry.specs.declared.drafts.Drafts.{Drafts}
use Rattle.po_entry.proofs.EntryLayout.{context_fits, eot_laid, key_fits, means, nul_laid}

pub no_shorter : (old new : List ℕ) → Grows old new → length old ≤ length new
no_shorter old new grows = omega (arith, ap length grows, length-take (length old) new)

pub grows_by : (a more : List ℕ) → Grows a (a ++ more)
grows_by a more = take-append_seam a more

-- Rows of a buffer that grows.

split : (old new : List ℕ) → Grows old new → new ≡ old ++ drop (length old) new
split old new grows = sym (take-append-drop (length old) new) ∙ ap (λ l. l ++ drop (length old) new) grows

-- what lies inside is the same in a buffer that has grown
same_part : (old new : List ℕ) → Grows old new → (from len : ℕ) → from + len ≤ length old
    → take len (drop from new) ≡ take len (drop from old)
same_part old new grows from len within =
    let more = drop (length old) new in
    let left : drop from new ≡ drop from old ++ more =
    ap (drop from) (split old new grows) ∙ drop-append-le from old more (omega (arith, within)) in
    ap (take len) left ∙ take-append-le len (drop from old) more (omega (arith, within, length-drop from old))

-- a row means the same in a buffer that has grown
module _ (old new : List ℕ) (grows : Grows old new) where
  same_own : (row : Row) → LiesIn old row → own_at new row ≡ own_at old row
  same_own row lies = same_part old new grows row.start row.own (omega (arith, lies.within))

  pub same_entry : (row : Row) → LiesIn old row → entry_at new row ≡ entry_at old row
  same_entry row lies =
      let own : own_at new row ≡ own_at old row = same_own row lies in
      let head : head_at new row ≡ head_at old row =
      same_part old new grows (row.start + row.own) row.head (omega (arith, lies.within)) in
      rw (own, head) refl

  pub kept : (rows : List Row) → All (LiesIn old) rows → map (entry_at new) rows ≡ map (entry_at old) rows
  kept [] lie = refl
  kept (row ∷ rows) lie = ap₂ (λ (e : TextEntry) (es : List TextEntry). e ∷ es)
      (same_entry row (All-head (LiesIn old) row rows lie)) (kept rows (All-tail (LiesIn old) row rows lie))

  pub stay : (rows : List Row) → All (LiesIn old) rows → All (LiesIn new) rows
  stay rows lie = λ k d inside.
      let l = lie k d inside in
      let same = same_own (get_or rows k d) l in
      record {
        within = omega (arith, l.within, no_shorter old new grows);
        key = l.key;
        context = l.context;
        eot = subst (EndsContext (get_or rows k d).context) (sym same) l.eot;
        nul = subst (PluralFollows (get_or rows k d).has_plural (get_or rows k d).key) (sym same) l.nul;
      }

-- the row of an entry that is appended
own_found : (entry : TextEntry) (before : List ℕ)
    → own_at (before ++ entry_bytes entry) (row_of (length before) entry) ≡ own_bytes entry
own_found entry before = search (rules, drop-append_seam, take-append_seam)

pub found : (entry : TextEntry) (before : List ℕ) → CanLie entry
    → length (before ++ entry_bytes entry) < 2 ^ 64
    → entry_at (before ++ entry_bytes entry) (row_of (length before) entry) ≡ entry
found entry before can fits =
    let own = own_bytes entry in
    let head = head_bytes entry in
    let own_is : own_at (before ++ (own ++ head)) (row_of (length before) entry) ≡ own = own_found entry before in
    let after_own : drop (length before + length own) (before ++ (own ++ head)) ≡ head =
    ap₂ (λ n (l : List ℕ). drop n l) (sym (length-append before own)) (sym (append_assoc before own head))
    ∙ drop-append_seam (before ++ own) head in
    let head_is : head_at (before ++ (own ++ head)) (row_of (length before) entry) ≡ head =
    ap (take (length head)) after_own ∙ take_all (length head) head (omega arith) in
    rw (own_is, head_is)
    (means (length before) entry can (omega (arith, length-append before (own ++ head), length-append own head)))

pub lies : (entry : TextEntry) (before : List ℕ)
    → LiesIn (before ++ entry_bytes entry) (row_of (length before) entry)
lies entry before = search (rules, length-append, key_fits, context_fits, own_found, eot_laid, nul_laid)

-- one more row
pub row_more : (old new : List ℕ) (rows : List Row) (entry : TextEntry) → All (LiesIn old) rows
    → CanLie entry → length new < 2 ^ 64 → new ≡ old ++ entry_bytes entry
    → map (entry_at new) (rows ++ row_of (length old) entry ∷ []) ≡ map (entry_at old) rows ++ entry ∷ []
row_more old new rows entry lie can fits is =
    let grows : Grows old new = subst (Grows old) (sym is) (grows_by old (entry_bytes entry)) in
    map-append (entry_at new) rows (row_of (length old) entry ∷ [])
    ∙ ap₂ (λ (es : List TextEntry) (e : TextEntry). es ++ e ∷ []) (kept old new grows rows lie)
    (ap (λ bytes. entry_at bytes (row_of (length old) entry)) is
    ∙ found entry old can (subst (λ (l : List ℕ). length l < 2 ^ 64) is fits))

pub all_lie : (old new : List ℕ) (rows : List Row) (entry : TextEntry) → All (LiesIn old) rows
    → new ≡ old ++ entry_bytes entry → All (LiesIn new) (rows ++ row_of (length old) entry ∷ [])
all_lie old new rows entry lie is =
    let grows : Grows old new = subst (Grows old) (sym is) (grows_by old (entry_bytes entry)) in
    All-push (LiesIn new) rows (row_of (length old) entry) (stay old new grows rows lie)
    (subst (λ bytes. LiesIn bytes (row_of (length old) entry)) (sym is) (lies entry old))

-- rows of bytes that follow others
module _ (old bytes : List ℕ) where
  seam : (n : ℕ) → drop (length old + n) (old ++ bytes) ≡ drop n bytes
  seam n = drop-append-add old bytes n

  moved_own : (row : Row) → own_at (old ++ bytes) (moved (length old) row) ≡ own_at bytes row
  moved_own row = ap (take row.own) (seam row.start)

  moved_entry : (row : Row) → entry_at (old ++ bytes) (moved (length old) row) ≡ entry_at bytes row
  moved_entry row =
      let own : own_at (old ++ bytes) (moved (length old) row) ≡ own_at bytes row = moved_own row in
      let further : length old + row.start + row.own ≡ length old + (row.start + row.own) = omega arith in
      let head : head_at (old ++ bytes) (moved (length old) row) ≡ head_at bytes row =
      ap (λ n. take row.head (drop n (old ++ bytes))) further ∙ ap (take row.head) (seam (row.start + row.own)) in
      rw (own, head) refl

  pub moved_entries : (rows : List Row)
      → map (entry_at (old ++ bytes)) (map (moved (length old)) rows) ≡ map (entry_at bytes) rows
  moved_entries [] = refl
  moved_entries (row ∷ rows) =
      ap₂ (λ (e : TextEntry) (es : List TextEntry). e ∷ es) (moved_entry row) (moved_entries rows)

  pub moved_lie : (rows : List Row) → All (LiesIn bytes) rows
      → All (LiesIn (old ++ bytes)) (map (moved (length old)) rows)
  moved_lie rows lie = All-map (LiesIn (old ++ bytes)) (moved (length old)) rows (λ k d inside.
      let l = lie k d inside in
      record {
        within = omega (arith, l.within, length-append old bytes);
        key = l.key;
        context = l.context;
        eot = subst (EndsContext (get_or rows k d).context) (sym (moved_own (get_or rows k d))) l.eot;
        nul = subst (PluralFollows (get_or rows k d).has_plural (get_or rows k d).key)
            (sym (moved_own (get_or rows k d))) l.nul;
      })

-- all entries of a buffer and, after them, those of further bytes
pub appended : (old new bytes : List ℕ) (before after rows : List Row) (start : ℕ) → All (LiesIn old) before
    → All (LiesIn bytes) rows → new ≡ old ++ bytes → start ≡ length old → after ≡ before ++ map (moved start) rows
    → All (LiesIn new) after × (map (entry_at new) after ≡ map (entry_at old) before ++ map (entry_at bytes) rows)
appended old new bytes before after rows start first more bytes_are at rows_are =
    let all = old ++ bytes in
    let both = before ++ map (moved (length old)) rows in
    let are : after ≡ both = rows_are ∙ ap (λ n. before ++ map (moved n) rows) at in
    let lie : All (LiesIn all) both = All-append (LiesIn all) before (map (moved (length old)) rows)
    (stay old all (grows_by old bytes) before first) (moved_lie old bytes rows more) in
    let same : map (entry_at all) both ≡ map (entry_at old) before ++ map (entry_at bytes) rows =
    map-append (entry_at all) before (map (moved (length old)) rows)
    ∙ ap₂ (λ (xs : List TextEntry) (ys : List TextEntry). xs ++ ys)
    (kept old all (grows_by old bytes) before first) (moved_entries old bytes rows) in
    rw (bytes_are, are) (lie, same)

-- the entry of the row at an index
pub entry_here : (P : TextEntry → Type 0) (bytes : List ℕ) (rows : List Row) (i : ℕ) (row : Row) → i < length rows
    → All P (map (entry_at bytes) rows) → P (entry_at bytes (get_or rows i row))
entry_here P bytes rows i row below all =
    let inside : i < length (map (entry_at bytes) rows) = rw length-map below in
    subst P (get_or-map (entry_at bytes) rows i row (entry_at bytes row) below) (all i (entry_at bytes row) inside)

pub taken_here : (bytes : List ℕ) (rows : List Row) (i : ℕ) (row : Row) → i < length rows
    → map (entry_at bytes) (take (i + 1) rows) ≡ map (entry_at bytes) (take i rows)
    ++ entry_at bytes (get_or rows i row) ∷ []
taken_here bytes rows i row below =
    ap (map (entry_at bytes)) (take_more rows i row below)
    ∙ map-append (entry_at bytes) (take i rows) (get_or rows i row ∷ [])

-- a row written over
pub written : (bytes : List ℕ) (change : TextEntry → TextEntry) (rows : List Row) (i : ℕ) (row : Row) → i < length rows
    → (other : Row) → entry_at bytes row ≡ change (entry_at bytes (get_or rows i other))
    → map (entry_at bytes) (set rows i row) ≡ changed_at change i (map (entry_at bytes) rows)
written bytes change [] i row inside other is = refl
written bytes change (first ∷ rows) zero row inside other is = ap (λ (e : TextEntry). e ∷ map (entry_at bytes) rows) is
written bytes change (first ∷ rows) (suc i) row inside other is =
    grind (arith, common_steps, written bytes change rows i row (omega (arith, inside)) other is)

pub all_changed : (P : TextEntry → Type 0) (change : TextEntry → TextEntry) → ((e : TextEntry) → P e → P (change e))
    → (i : ℕ) (entries : List TextEntry) → All P entries → All P (changed_at change i entries)
all_changed P change keeps i [] all = All-nil P
all_changed P change keeps zero (entry ∷ entries) all = search (rules, All-cons, keeps, All-head, All-tail)
all_changed P change keeps (suc i) (entry ∷ entries) all =
    All-cons P entry (changed_at change i entries) (All-head P entry entries all)
    (all_changed P change keeps i entries (All-tail P entry entries all))

abbrev pub kept_live : TextEntry → Bool
kept_live entry = not entry.obsolete

-- a filter of the rows is one of the entries
pub filtered : (bytes : List ℕ) (rows : List Row)
    → map (entry_at bytes) (filter (λ (r : Row). not r.obsolete) rows) ≡ filter kept_live (map (entry_at bytes) rows)
filtered bytes [] = refl
filtered bytes (row ∷ rows) = grind (arith, common_steps, filtered bytes rows)

-- one more draft
pub added : (entry : TextEntry) (old new : Drafts) → Adds entry old new → AreLaid old
    → AreLaid new × (CanLie entry → entries_in new ≡ entries_in old ++ entry ∷ [])
added entry old new h laid = (
  subst (All (LiesIn new.bytes.items)) (sym h.row)
      (all_lie old.bytes.items new.bytes.items old.rows.items entry laid h.bytes),
  λ can. ap (map (entry_at new.bytes.items)) h.row
      ∙ row_more old.bytes.items new.bytes.items old.rows.items entry laid can
      (omega (arith, new.bytes.ok.0, new.bytes.ok.1, new.bytes.small)) h.bytes,
)

-- rows of a buffer that has grown
pub record Keeps (old new : List ℕ) (rows after : List Row) : Type 0 where
  pub lie : All (LiesIn new) after
  pub same : map (entry_at new) after ≡ map (entry_at old) rows

pub keeps : (old new : List ℕ) (rows after : List Row) → Grows old new → after ≡ rows → All (LiesIn old) rows
    → Keeps old new rows after
keeps old new rows after grows is lie = record {
  lie = subst (All (LiesIn new)) (sym is) (stay old new grows rows lie);
  same = ap (map (entry_at new)) is ∙ kept old new grows rows lie;
}

-- what holds also holds where a result is an error
pub always : {T E P : Type 0} (r : Result T E) → P → OnErr r P
always (Ok x) p = record {}
always (Err e) p = p

pub can_lie : (entry : TextEntry) → IsCatalogueEntry entry → CanLie entry
can_lie entry h = record {
  no_nul = λ k d inside. (h.valid.quoted_texts k d inside).no_nul;
  some_form = h.valid.some_form;
}

-- one more entry that can stand in a catalogue
pub record Pushed (old new : List ℕ) (rows after : List Row) (entry : TextEntry) : Type 0 where
  pub lie : All (LiesIn new) after
  pub valid : All IsCatalogueEntry (map (entry_at new) after)
  pub more : map (entry_at new) after ≡ map (entry_at old) rows ++ entry ∷ []

pub pushed : (old new : List ℕ) (rows after : List Row) (entry : TextEntry) → All (LiesIn old) rows
    → All IsCatalogueEntry (map (entry_at old) rows) → IsCatalogueEntry entry → length new < 2 ^ 64
    → new ≡ old ++ entry_bytes entry → after ≡ rows ++ row_of (length old) entry ∷ [] → Pushed old new rows after entry
pushed old new rows after entry lie valid stands fits is rows_are =
    let more : map (entry_at new) after ≡ map (entry_at old) rows ++ entry ∷ [] =
    ap (map (entry_at new)) rows_are ∙ row_more old new rows entry lie (can_lie entry stands) fits is in
    record {
      lie = subst (All (LiesIn new)) (sym rows_are) (all_lie old new rows entry lie is);
      valid = subst (All IsCatalogueEntry) (sym more)
          (All-push IsCatalogueEntry (map (entry_at old) rows) entry valid stands);
      more = more;
    }

-- a row with other flags, and the entry that it has
pub record Flagged (bytes : List ℕ) (all : List TextEntry) (after : List Row) (i : ℕ) (change : TextEntry → TextEntry)
    : Type 0 where
  pub lie : All (LiesIn bytes) after
  pub valid : All IsCatalogueEntry (map (entry_at bytes) after)
  pub changed : map (entry_at bytes) after ≡ changed_at change i all

pub flagged : (f g : Bool → Bool) (bytes : List ℕ) (rows : List Row) {all : List TextEntry} {i : ℕ} {row : Row}
    → map (entry_at bytes) rows ≡ all → i < length all → row ≡ get_or rows i row → All (LiesIn bytes) rows
    → All IsCatalogueEntry (map (entry_at bytes) rows)
    → Flagged bytes all (set rows i (record row { fuzzy = f row.fuzzy; obsolete = g row.obsolete })) i
    (λ e. record e { fuzzy = f e.fuzzy; obsolete = g e.obsolete })
flagged f g bytes rows {all} {i} {row} all_is below is lie valid =
    let inside : i < length rows = omega (arith, ap length all_is, length-map rows (entry_at bytes)) in
    let other : Row → Row = λ r. record r { fuzzy = f r.fuzzy; obsolete = g r.obsolete } in
    let change : TextEntry → TextEntry = λ e. record e { fuzzy = f e.fuzzy; obsolete = g e.obsolete } in
    let same : map (entry_at bytes) (set rows i (other row)) ≡ changed_at change i (map (entry_at bytes) rows) =
    written bytes change rows i (other row) inside row (ap (λ (r : Row). change (entry_at bytes r)) is) in
    let l : LiesIn bytes row = subst (LiesIn bytes) (sym is) (lie i row inside) in
    record {
      lie = All-set (LiesIn bytes) rows i (other row)
          (record { within = l.within; key = l.key; context = l.context; eot = l.eot; nul = l.nul }) lie;
      valid = subst (All IsCatalogueEntry) (sym same)
          (all_changed IsCatalogueEntry change (λ e h. record {
            valid = record {
              quoted_texts = h.valid.quoted_texts;
              comments = h.valid.comments;
              extracted = h.valid.extracted;
              references = h.valid.references;
              flags = h.valid.flags;
              distinct_flags = h.valid.distinct_flags;
              context = h.valid.context;
              id = h.valid.id;
              some_form = h.valid.some_form;
              one_form = h.valid.one_form;
            };
            charset = h.charset;
          }) i (map (entry_at bytes) rows) valid);
      changed = same ∙ ap (changed_at change i) all_is;
    }
