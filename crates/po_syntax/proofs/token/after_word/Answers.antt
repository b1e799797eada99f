use Rattle.po_syntax.proofs.Prelude.{AllPass-from_list_all, FailsFirst, List, None, Some, [], after_first_word, ap, bytes_eq-Decides, drop, false, false_from_ne_true, first_word, is_word_byte, length, length-prefix_len, list_all, parts_of, prefix_len, run_length, slice_get, subst, sym, take, take-append-drop, true, ℕ, ◌++◌, ◌∙◌, ◌∷◌, ◌≡◌}
use Rattle.std.specs.Prelude.{bytes_eq}
use Rattle.po_syntax.proofs.token.after_word.Goals as goal
use Rattle.po_syntax.proofs.token.after_word.Goals.{in_default-via-in-Some+else-is_word_byte, in_default-via-in_default}

-- the word ends where a byte of no word follows it
ends : (word text rest : List ℕ) → list_all is_word_byte word ≡ true → bytes_eq (take (length word) text) word ≡ true
    → rest ≡ drop (length word) text → FailsFirst is_word_byte rest
    → (first_word text ≡ word) × (rest ≡ after_first_word text)
ends word text rest all same cut last =
    let front : take (length word) text ≡ word = (bytes_eq-Decides (take (length word) text) word).0 same in
    let whole : word ++ rest ≡ text = rw cut
    (subst (λ (w : List ℕ). w ++ drop (length word) text ≡ text) front (take-append-drop (length word) text)) in
    let count : prefix_len is_word_byte text ≡ length word = subst (λ t. prefix_len is_word_byte t ≡ length word) whole
    (run_length is_word_byte word rest (AllPass-from_list_all is_word_byte word all) last) in
    (ap (λ n. take n text) count ∙ front, cut ∙ ap (λ n. drop n text) (sym count))

-- and goes on where a byte of a word does
goes_on : (word text rest : List ℕ) (b : ℕ) → rest ≡ drop (length word) text → Some b ≡ slice_get rest 0
    → is_word_byte b ≡ true → bytes_eq (first_word text) word ≡ false
goes_on word text [] b e first is = cc
goes_on word text (c ∷ more) b e first is = false_from_ne_true _ (λ same.
    let equal : first_word text ≡ word = (bytes_eq-Decides (first_word text) word).0 same in
    let count : prefix_len is_word_byte text ≡ length word =
    sym (length-prefix_len is_word_byte text) ∙ ap length equal in
    let last : is_word_byte c ≡ false = subst (FailsFirst is_word_byte) (sym e)
    (subst (λ n. FailsFirst is_word_byte (drop n text)) count (parts_of is_word_byte text).ends) in
    absurd (cc (first, last, is)))

no_word : (rest : List ℕ) (b : ℕ) → Some b ≡ slice_get rest 0 → is_word_byte b ≡ false → FailsFirst is_word_byte rest
no_word [] b first is = tt
no_word (c ∷ more) b first is = cc

no_byte : (rest : List ℕ) → None ≡ slice_get rest 0 → FailsFirst is_word_byte rest
no_byte [] none = tt
no_byte (c ∷ more) none = cc

pub returns-in-Some : goal.returns-in-Some
returns-in-Some c =
    let cut = c.in_ok-rest.ensures.cases in
    goes_on c.args.word.now c.args.text.now c.in_ok-rest.rest.now c.in-Some.byte.now cut.1 c.in-Some.ensures.value
    (sym c.is_word_byte.ensures ∙ c.if-is_word_byte.true)

pub returns-in_default : goal.returns-in_default
returns-in_default c =
    let cut = c.in_ok-rest.ensures.cases in
    ends c.args.word.now c.args.text.now c.in_ok-rest.rest.now c.requires cut.0 cut.1 (elim c.in_default.branch [
      | in_default-via-in-Some+else-is_word_byte w ↦
          no_word c.in_ok-rest.rest.now w.in-Some.byte.now w.in-Some.ensures.value
          (sym w.is_word_byte.ensures ∙ w.if-is_word_byte.false)
      | in_default-via-in_default w ↦ no_byte c.in_ok-rest.rest.now w.in_default.ensures.value
    ])
