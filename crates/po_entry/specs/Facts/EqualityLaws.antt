-- Equality of entries decides that they are the same but for their lines, so it is an equivalence.
use Rattle.std.proofs.Common.{◌≡◌, ℕ, Bool, true, false, List, Option, Some, None, refl, sym, ap, ◌∙◌}
use Rattle.std.specs.Prelude.{Decides}
use Rattle.std.specs.Cmp.{IsPartialEquivalence, booleans_Decides}
use Rattle.std.proofs.lemmas.Bool.{false≢true}
use Rattle.std.proofs.lemmas.Bool.Decides.{Decides-and}
use Rattle.std.proofs.lemmas.Slice.Eq.{bytes_eq-Decides, slice_eq-Decides}
use Rattle.po_entry.specs.TextEntry.{TextEntry, TextPrevious, SameButLine}
use Rattle.po_entry.specs.Fields.{texts_eq, optional_eq, previous_eq, entry_eq}

pub texts_decide : (a b : List (List ℕ)) → Decides (texts_eq a b) (a ≡ b)
texts_decide a b = slice_eq-Decides bytes_eq-Decides a b (texts_eq a b) refl

optional_decide : (a b : Option (List ℕ)) → Decides (optional_eq a b) (a ≡ b)
optional_decide None None = (λ _. refl, λ _. refl)
optional_decide None (Some b) = (λ t. absurd (false≢true t), λ e. cc)
optional_decide (Some a) None = (λ t. absurd (false≢true t), λ e. cc)
optional_decide (Some a) (Some b) = (
  λ t. ap (λ (x : List ℕ). Some x) ((bytes_eq-Decides a b).0 t),
  λ e. let same : a ≡ b = cc in (bytes_eq-Decides a b).1 same,
)

abbrev rebuilt : TextPrevious → TextPrevious
rebuilt p = record { context = p.context; id = p.id; plural = p.plural }

previous_decide : (a b : TextPrevious) → Decides (previous_eq a b) (a ≡ b)
previous_decide a b =
    let two = Decides-and _ _ (optional_decide a.context b.context) (optional_decide a.id b.id) in
    let fields = Decides-and _ _ two (optional_decide a.plural b.plural) in (
      λ t. let h = fields.0 t in let same : rebuilt a ≡ rebuilt b = rw (h.0.0, h.0.1, h.1) refl in same,
      λ e. fields.1 (
        (ap (λ (p : TextPrevious). p.context) e, ap (λ (p : TextPrevious). p.id) e),
        ap (λ (p : TextPrevious). p.plural) e,
      ),
    )

pub entry_decide : (a b : TextEntry) → Decides (entry_eq a b) (SameButLine a b)
entry_decide a b =
    let extracted = Decides-and _ _ (texts_decide a.comments b.comments) (texts_decide a.extracted b.extracted) in
    let references = Decides-and _ _ extracted (texts_decide a.references b.references) in
    let fuzzy = Decides-and _ _ references (booleans_Decides a.fuzzy b.fuzzy) in
    let comments = Decides-and _ _ fuzzy (texts_decide a.flags b.flags) in
    let id = Decides-and _ _ (optional_decide a.context b.context) (bytes_eq-Decides a.id b.id) in
    let plural = Decides-and _ _ id (optional_decide a.plural b.plural) in
    let forms = Decides-and _ _ plural (texts_decide a.forms b.forms) in
    let messages = Decides-and _ _ forms (booleans_Decides a.obsolete b.obsolete) in
    let all = Decides-and _ _ (Decides-and _ _ comments (previous_decide a.previous b.previous)) messages in (
      λ t.
          let h = all.0 t in
          let comments = h.0.0 in
          let message = h.1 in
          rw (
            comments.0.0.0.0,
            comments.0.0.0.1,
            comments.0.0.1,
            comments.0.1,
            comments.1,
            h.0.1,
            message.0.0.0.0,
            message.0.0.0.1,
            message.0.0.1,
            message.0.1,
            message.1,
          ) refl,
      λ e. all.1 (
        (
          (
            (
              (
                (ap (λ (x : TextEntry). x.comments) e, ap (λ (x : TextEntry). x.extracted) e),
                ap (λ (x : TextEntry). x.references) e,
              ),
              ap (λ (x : TextEntry). x.fuzzy) e,
            ),
            ap (λ (x : TextEntry). x.flags) e,
          ),
          ap (λ (x : TextEntry). x.previous) e,
        ),
        (
          (
            (
              (ap (λ (x : TextEntry). x.context) e, ap (λ (x : TextEntry). x.id) e),
              ap (λ (x : TextEntry). x.plural) e,
            ),
            ap (λ (x : TextEntry). x.forms) e,
          ),
          ap (λ (x : TextEntry). x.obsolete) e,
        ),
      ),
    )

pub answer : (x y : Bool) → (x ≡ true → y ≡ true) → (y ≡ true → x ≡ true) → x ≡ y
answer true true p q = refl
answer true false p q = sym (p refl)
answer false true p q = q refl
answer false false p q = refl

pub entry_eq_laws : IsPartialEquivalence entry_eq
entry_eq_laws = record {
  symm = λ x y.
      answer (entry_eq x y) (entry_eq y x) (λ t. (entry_decide y x).1 (sym ((entry_decide x y).0 t)))
      (λ t. (entry_decide x y).1 (sym ((entry_decide y x).0 t)));
  trans = λ x y z s t. (entry_decide x z).1 ((entry_decide x y).0 s ∙ (entry_decide y z).0 t);
}
