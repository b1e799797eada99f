use Rattle.msgcat.proofs.Prelude.{List, [], ap, append_assoc, ap₂, codes, ended, if◌then◌else◌, sym, ℕ, ◌++◌, ◌∙◌, ◌∷◌, ◌≡◌}
use Rattle.msgcat.proofs.joined_translations.push_marked.Goals as goal

four : (o a n b e : List ℕ) → (((o ++ a) ++ n) ++ b) ++ e ≡ o ++ (((a ++ n) ++ b) ++ e)
four o a n b e = ap (λ (x : List ℕ). (x ++ b) ++ e) (append_assoc o a n)
    ∙ ap (λ (x : List ℕ). x ++ e) (append_assoc o (a ++ n) b) ∙ append_assoc o ((a ++ n) ++ b) e

pub returns : goal.returns
returns c =
    let head = codes "#-#-#-#-#  " in
    let tail = codes "  #-#-#-#-#\n" in
    let name = c.args.name.now in
    let form = c.args.form.now in
    let marks = c.in_ok-extend_from_slice-3.ensures.items ∙ ap (λ (x : List ℕ). x ++ tail)
    (c.in_ok-extend_from_slice-2.ensures.items
    ∙ ap₂ (λ (x y : List ℕ). x ++ y) c.in_ok-extend_from_slice.ensures.items c.as_bytes.ensures.value) in
    let bare = sym c.ends_with.ensures.value ∙ c.if-ends_with.false in
    c.in_ok-extend_from_slice-5.ensures.items ∙ ap (λ (x : List ℕ). x ++ 10 ∷ [])
    (c.in_ok-extend_from_slice-4.ensures.items ∙ ap (λ (x : List ℕ). x ++ form) marks)
    ∙ append_assoc (((c.args.joined.now.items ++ head) ++ name) ++ tail) form (10 ∷ [])
    ∙ ap (λ e. (((c.args.joined.now.items ++ head) ++ name) ++ tail) ++ e)
    (sym (ap (λ b. if b then form else form ++ 10 ∷ []) bare))
    ∙ four c.args.joined.now.items head name tail (ended form)
