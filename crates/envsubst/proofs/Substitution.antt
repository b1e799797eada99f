-- The substitution of a text is the text with its references replaced.
use Rattle.envsubst.proofs.Prelude.{BeginsNoReplaced, Bool, Bor, Ending, HoldsNames, List, None, Option, Reference, Replacement, Replaces, Some, SpellsReference, Values, [], after_dollar, and_parts, ap, append-nil, arith, byte-here, byte-later, cases_Bool, cond, cond-false, cond-true, cond_both, cons_option, copied as copies, drop, drop_at, eqb, eqb-false, eqb-true, false, if◌then◌else◌, inl, inr, is_begun_name, is_byte, is_name_byte, is_undecided, length, list_all, names_in, no_reference, no_text, none-some, nothing, option_map, position_or_len, reference, reference_after, refl, replacement_of, subst, substituted, substitution, substitution_after, suc, sym, take, true, true≢false, zero, ℕ, ◌++◌, ◌+◌, ◌==◌, ◌↔◌, ◌∙◌, ◌∷◌, ◌≡◌, ◌≤◌, ◌⊎◌}
use Rattle.std.specs.Int.{from_bool}
use Rattle.envsubst.proofs.References.{after-closed, begun-bytes, closes, ending-none, ends, name_byte-not, name_prefix-stop, no_name_byte, reference_read, reference_spelt}
use Rattle.envsubst.specs.Laws.{replaced}

-- skipped bytes leave the text after them
pub skipped : (values : Values) (n : ℕ) (bs : List ℕ) → substitution_after values n bs ≡ substitution values (drop n bs)
unfolding substitution_after
skipped values zero bs = refl
skipped values (suc n) [] = refl
skipped values (suc n) (b ∷ bs) = skipped values n bs

-- a byte that is no `$` is copied
pub plain : (values : Values) (b : ℕ) (bs : List ℕ) → eqb b 36 ≡ false
    → substitution values (b ∷ bs) ≡ b ∷ substitution values bs
unfolding substitution_after
plain values b bs other =
    ap (λ r. substituted b r (λ skip. substitution_after values skip bs)) (cond-false (eqb b 36) _ None other)

-- a `$` that begins no replaced reference is copied
pub not-replaced : (values : Values) (bs : List ℕ) → replacement_of values (reference_after bs) ≡ None
    → substitution values (36 ∷ bs) ≡ 36 ∷ substitution values bs
unfolding substitution_after
not-replaced values bs none = ap (λ r. substituted 36 r (λ skip. substitution_after values skip bs)) none

-- a replaced reference gives its value, and the text goes on after it
pub is-replaced : (values : Values) (bs : List ℕ) (r : Replacement)
    → replacement_of values (reference_after bs) ≡ Some r
    → substitution values (36 ∷ bs) ≡ r.value ++ substitution values (drop r.size bs)
unfolding substitution_after
is-replaced values bs r some =
    ap (λ o. substituted 36 o (λ skip. substitution_after values skip bs)) some
    ∙ ap (λ l. r.value ++ l) (skipped values r.size bs)

-- the first n bytes are copied
abbrev CopiesPrefix : Values → ℕ → List ℕ → List ℕ → Type 0
CopiesPrefix values n bs rest = substitution values (bs ++ rest) ≡ take n bs ++ substitution values (drop n bs ++ rest)

-- the bytes before the first `$` are copied
pub plain-prefix : (values : Values) (bs rest : List ℕ) → CopiesPrefix values (position_or_len (is_byte 36) bs) bs rest
plain-prefix values [] rest = refl
plain-prefix values (b ∷ bs) rest = elim (cases_Bool (eqb b 36)) [
  | inl e ↦ rw (byte-here 36 b bs e)
  | inr e ↦ rw (byte-later 36 b bs e) (plain values b (bs ++ rest) e ∙ ap (λ l. b ∷ l) (plain-prefix values bs rest))
]

-- bytes without a `$` are copied
pub plain-run : (values : Values) (bs rest : List ℕ) → list_all is_name_byte bs ≡ true
    → substitution values (bs ++ rest) ≡ bs ++ substitution values rest
plain-run values [] rest h = refl
plain-run values (b ∷ bs) rest h =
    let p = and_parts (is_name_byte b) (list_all is_name_byte bs) h in
    plain values b (bs ++ rest) (name_byte-not 36 b no_name_byte.0 p.0) ∙ ap (λ l. b ∷ l) (plain-run values bs rest p.1)

-- a begun reference, and what comes after it
pub after-append : (is_braced : Bool) (name xs : List ℕ)
    → after_dollar is_braced name ++ xs ≡ after_dollar is_braced (name ++ xs)
after-append true name xs = refl
after-append false name xs = refl

-- a begun reference that is none, or isn't replaced, is copied
pub begun-copied : (values : Values) (is_braced : Bool) (name xs : List ℕ) → is_begun_name name ≡ true
    → replacement_of values (reference_after (after_dollar is_braced (name ++ xs))) ≡ None
    → substitution values (36 ∷ after_dollar is_braced (name ++ xs)) ≡ (36 ∷ after_dollar is_braced name)
    ++ substitution values xs
begun-copied values true name xs h none =
    rw (
      not-replaced values (123 ∷ (name ++ xs)) none,
      plain values 123 (name ++ xs) refl,
      plain-run values name xs (begun-bytes name h),
    )
begun-copied values false name xs h none =
    rw (not-replaced values (name ++ xs) none, plain-run values name xs (begun-bytes name h))

-- a reference to a name that isn't replaced
replacement-none : (values : Values) (name : List ℕ) (size : ℕ) (bs : List ℕ)
    → reference_after bs ≡ Some (record { name = name; size = size }) → values name ≡ None
    → replacement_of values (reference_after bs) ≡ None
unfolding replacement_of
replacement-none values name size bs some none =
    ap (replacement_of values) some ∙ ap (option_map (λ v. record { value = v; size = size })) none

-- a reference to a name that is
pub replacement-some : (values : Values) (name value : List ℕ) (size : ℕ) (bs : List ℕ)
    → reference_after bs ≡ Some (record { name = name; size = size }) → values name ≡ Some value
    → replacement_of values (reference_after bs) ≡ Some (record { value = value; size = size })
unfolding replacement_of
replacement-some values name value size bs some is =
    ap (replacement_of values) some ∙ ap (option_map (λ v. record { value = v; size = size })) is

no-replacement : (values : Values) (bs : List ℕ) → reference_after bs ≡ None
    → replacement_of values (reference_after bs) ≡ None
unfolding replacement_of
no-replacement values bs none = ap (replacement_of values) none

-- held bytes of a begun reference, and what comes after them
held-append : (is_braced : Bool) (held name xs : List ℕ) → held ≡ 36 ∷ after_dollar is_braced name
    → held ++ xs ≡ 36 ∷ after_dollar is_braced (name ++ xs)
held-append is_braced held name xs e = ap (λ l. l ++ xs) e ∙ ap (λ l. 36 ∷ l) (after-append is_braced name xs)

-- held bytes that are copied
held-copied : (values : Values) (is_braced : Bool) (held name xs : List ℕ) → held ≡ 36 ∷ after_dollar is_braced name
    → is_begun_name name ≡ true → replacement_of values (reference_after (after_dollar is_braced (name ++ xs))) ≡ None
    → substitution values (held ++ xs) ≡ held ++ substitution values xs
held-copied values is_braced held name xs e h none =
    ap (substitution values) (held-append is_braced held name xs e) ∙ begun-copied values is_braced name xs h none
    ∙ ap (λ l. l ++ substitution values xs) (sym e)

-- held bytes that are replaced
held-replaced : (values : Values) (is_braced : Bool) (held name xs value : List ℕ) (size : ℕ)
    → held ≡ 36 ∷ after_dollar is_braced name
    → reference_after (after_dollar is_braced (name ++ xs)) ≡ Some (record { name = name; size = size })
    → values name ≡ Some value
    → substitution values (held ++ xs) ≡ value ++ substitution values (drop size (after_dollar is_braced (name ++ xs)))
held-replaced values is_braced held name xs value size e some is =
    ap (substitution values) (held-append is_braced held name xs e)
    ∙ is-replaced values (after_dollar is_braced (name ++ xs)) (record { value = value; size = size })
    (replacement-some values name value size _ some is)

pub out-held : (is_braced : Bool) (held name : List ℕ) (next : ℕ) → held ≡ 36 ∷ after_dollar is_braced name
    → is_undecided (36 ∷ after_dollar is_braced (name ++ next ∷ [])) ≡ true → is_undecided (held ++ next ∷ []) ≡ true
out-held is_braced held name next e h = ap is_undecided (held-append is_braced held name (next ∷ []) e) ∙ h

pub out-copied : (values : Values) (is_braced : Bool) (held name : List ℕ) (next : ℕ)
    → held ≡ 36 ∷ after_dollar is_braced name → is_begun_name name ≡ true
    → ((rest : List ℕ) → reference_after (after_dollar is_braced (name ++ next ∷ rest)) ≡ None) → (rest : List ℕ)
    → substitution values (held ++ (next ∷ rest)) ≡ held ++ substitution values (next ∷ rest)
out-copied values is_braced held name next e h none rest =
    held-copied values is_braced held name (next ∷ rest) e h (no-replacement values _ (none rest))

-- held bytes and the next one that are a reference to this name, with its end
abbrev IsNamed : Bool → List ℕ → ℕ → List ℕ → Type 0
IsNamed is_braced name next rest = (size : ℕ)
    × (reference_after (after_dollar is_braced (name ++ next ∷ rest)) ≡ Some (record { name = name; size = size }))
    × (drop size (after_dollar is_braced (name ++ next ∷ rest)) ≡ drop (from_bool is_braced) (next ∷ rest))

is_named : (is_braced : Bool) (name : List ℕ) (next : ℕ) (rest : List ℕ) → is_begun_name name ≡ true
    → (name ≡ [] → ⊥) → is_name_byte next ≡ false → ((is_braced ≡ true) × (next ≡ 125)) ⊎ (is_braced ≡ false)
    → IsNamed is_braced name next rest
is_named false name next rest h some stops end = (
  length name,
  ends name (next ∷ rest) h some (name_prefix-stop next rest stops),
  drop_at name (next ∷ rest) (length name) refl,
)
is_named true name next rest h some stops (inr bare) = absurd (true≢false bare)
is_named true name next rest h some stops (inl brace) = (
  length name + 2,
  ap (λ b. reference_after (123 ∷ (name ++ b ∷ rest))) brace.1 ∙ closes name rest h some,
  after-closed name next rest,
)

pub out-named : (values : Values) (is_braced : Bool) (held name value : List ℕ) (next : ℕ)
    → held ≡ 36 ∷ after_dollar is_braced name → is_begun_name name ≡ true → (name ≡ [] → ⊥)
    → is_name_byte next ≡ false → ((is_braced ≡ true) × (next ≡ 125)) ⊎ (is_braced ≡ false) → values name ≡ Some value
    → (rest : List ℕ)
    → substitution values (held ++ (next ∷ rest))
    ≡ value ++ substitution values (drop (from_bool is_braced) (next ∷ rest))
out-named values is_braced held name value next e h some stops end is rest =
    let named = is_named is_braced name next rest h some stops end in
    held-replaced values is_braced held name (next ∷ rest) value named.0 e named.1 is
    ∙ ap (λ l. value ++ substitution values l) named.2

-- at most the closing brace is taken
pub one-most : (is_braced : Bool) → from_bool is_braced ≤ 1
one-most true = omega arith
one-most false = omega arith

pub out-unnamed : (values : Values) (is_braced : Bool) (held name : List ℕ) (next : ℕ)
    → held ≡ 36 ∷ after_dollar is_braced name → is_begun_name name ≡ true → (name ≡ [] → ⊥)
    → is_name_byte next ≡ false → ((is_braced ≡ true) × (next ≡ 125)) ⊎ (is_braced ≡ false) → values name ≡ None
    → (rest : List ℕ)
    → substitution values (held ++ (next ∷ rest)) ≡ held ++ substitution values (next ∷ rest)
out-unnamed values is_braced held name next e h some stops end none rest =
    let named = is_named is_braced name next rest h some stops end in
    held-copied values is_braced held name (next ∷ rest) e h
    (replacement-none values name named.0 _ named.1 none)

-- what becomes of the bytes held where nothing follows
pub ends-empty : (values : Values) (held : List ℕ) → held ≡ [] → substitution values held ≡ held
unfolding substitution_after
ends-empty values held none = ap (substitution values) none ∙ sym none

alone : (values : Values) (held : List ℕ) → substitution values (held ++ []) ≡ held ++ substitution values []
    → substitution values held ≡ held
alone values held copied = ap (substitution values) (sym (append-nil held)) ∙ copied
    ∙ ap (λ l. held ++ l) (ends-empty values [] refl) ∙ append-nil held

pub ends-copied : (values : Values) (is_braced : Bool) (held name : List ℕ) → held ≡ 36 ∷ after_dollar is_braced name
    → is_begun_name name ≡ true → (is_braced ≡ true) ⊎ (name ≡ []) → substitution values held ≡ held
ends-copied values is_braced held name e h which =
    alone values held (held-copied values is_braced held name [] e h
    (no-replacement values _ (ending-none is_braced name h which)))

pub ends-name : (values : Values) (held name : List ℕ) (o : Option (Bor (List ℕ))) → held ≡ 36 ∷ name
    → is_begun_name name ≡ true → (name ≡ [] → ⊥) → option_map (λ v. v.now) o ≡ values name → Ending values held o
ends-name values held name None e h some is =
    alone values held (held-copied values false held name [] e h
    (replacement-none values name (length name) _ (ends name [] h some refl) (sym is)))
ends-name values held name (Some value) e h some is =
    ap (substitution values) (sym (append-nil held))
    ∙ held-replaced values false held name [] value.now (length name) e (ends name [] h some refl) (sym is)
    ∙ ap (λ l. value.now ++ l)
    (ends-empty values _ (drop_at name [] (length name) refl) ∙ drop_at name [] (length name) refl)
    ∙ append-nil value.now

-- The substitution of a text is the text with its references replaced.

-- what is read at the first byte of a spelt reference
read_at : (b : ℕ) (text name rest : List ℕ) → SpellsReference (b ∷ text) name rest
    → (size : ℕ) × (b ≡ 36) × (reference_after text ≡ Some (record { name = name; size = size }))
    × (drop size text ≡ rest)
read_at b text name rest h =
    let read = reference_read h in
    let dollar : b ≡ 36 = cc in
    let same : text ≡ read.bytes = cc in
    (read.size, dollar, ap reference_after same ∙ read.read, ap (drop read.size) same ∙ read.after)

-- where a byte is no `$`, it begins no reference
not_dollar : (b : ℕ) (text name rest : List ℕ) → eqb b 36 ≡ false → SpellsReference (b ∷ text) name rest → ⊥
not_dollar b text name rest other h = eqb-false b 36 other (read_at b text name rest h).1

begins_none : (values : Values) (text : List ℕ) → replacement_of values (reference_after text) ≡ None
    → BeginsNoReplaced values (36 ∷ text)
begins_none values text none name value rest h is =
    let read = read_at 36 text name rest h in
    none-some _ (sym none ∙ replacement-some values name value read.0 text read.2 is)

-- a replacement is that of a spelt reference
record IsSpelt (values : Values) (text : List ℕ) (r : Replacement) : Type 0 where
  name : List ℕ
  spelt : SpellsReference (36 ∷ text) name (drop r.size text)
  value : values name ≡ Some r.value

replacement_spelt : (values : Values) (text : List ℕ) (o : Option Reference) (r : Replacement)
    → reference_after text ≡ o → replacement_of values o ≡ Some r → IsSpelt values text r
unfolding replacement_of
replacement_spelt values text None r e is = absurd (none-some r is)
replacement_spelt values text (Some found) r e is = non_empty (values found.name) refl is where
  non_empty : (o : Option (List ℕ)) → values found.name ≡ o
      → option_map (λ v. record { value = v; size = found.size }) o ≡ Some r → IsSpelt values text r
  non_empty None none some = absurd (none-some r some)
  non_empty (Some value) some same =
      let it : record { value = value; size = found.size } ≡ r = cc in
      subst (IsSpelt values text) it (record { name = found.name; spelt = reference_spelt text found e; value = some })

-- a `$`, where what comes after it is said of any number of further bytes
dollar_place : (values : Values) (b : ℕ) (text : List ℕ) → b ≡ 36
    → ((skip : ℕ) → Replaces values (drop skip text) (substitution_after values skip text)) → (o : Option Replacement)
    → replacement_of values (reference_after text) ≡ o
    → Replaces values (b ∷ text) (substituted b o (λ skip. substitution_after values skip text))
dollar_place values b text is later None none =
    copies (subst (λ a. BeginsNoReplaced values (a ∷ text)) (sym is) (begins_none values text none)) (later 0)
dollar_place values b text is later (Some r) some =
    let it = replacement_spelt values text (reference_after text) r refl some in
    replaced (subst (λ a. SpellsReference (a ∷ text) it.name (drop r.size text)) (sym is) it.spelt) it.value
    (later r.size)

after : (values : Values) (text : List ℕ) (skip : ℕ)
    → Replaces values (drop skip text) (substitution_after values skip text)
unfolding substitution_after
after values [] zero = nothing
after values [] (suc skip) = nothing
after values (b ∷ text) (suc skip) = after values text skip
after values (b ∷ text) zero =
    cond_both (eqb b 36) (replacement_of values (reference_after text)) None
    (λ o. Replaces values (b ∷ text) (substituted b o (λ skip. substitution_after values skip text)))
    (λ e. dollar_place values b text (eqb-true b 36 e) (after values text)
    (replacement_of values (reference_after text)) refl)
    (λ e. copies (λ name value rest h is. not_dollar b text name rest e h) (after values text 0))

none_replaced : (values : Values) (text : List ℕ) (o : Option Replacement)
    → replacement_of values (reference_after text) ≡ o → BeginsNoReplaced values (36 ∷ text)
    → replacement_of values (reference_after text) ≡ None
none_replaced values text None e none = e
none_replaced values text (Some r) e none =
    let it = replacement_spelt values text (reference_after text) r refl e in
    absurd (none it.name r.value (drop r.size text) it.spelt it.value)

copy_step : (values : Values) (b : ℕ) (text : List ℕ) → BeginsNoReplaced values (b ∷ text)
    → substitution values (b ∷ text) ≡ b ∷ substitution values text
copy_step values b text none =
    elim (cases_Bool (eqb b 36)) [
      | inl e ↦ let is = eqb-true b 36 e in
          let none_here = none_replaced values text (replacement_of values (reference_after text)) refl
          (subst (λ a. BeginsNoReplaced values (a ∷ text)) is none) in
          ap (λ a. substitution values (a ∷ text)) is ∙ not-replaced values text none_here
          ∙ ap (λ a. a ∷ substitution values text) (sym is)
      | inr e ↦ plain values b text e
    ]

replaced_step : (values : Values) (text name value rest : List ℕ) → SpellsReference text name rest
    → values name ≡ Some value → substitution values text ≡ value ++ substitution values rest
replaced_step values text name value rest h is =
    let read = reference_read h in
    ap (substitution values) read.dollar
    ∙ is-replaced values read.bytes (record { value = value; size = read.size })
    (replacement-some values name value read.size read.bytes read.read is)
    ∙ ap (λ l. value ++ substitution values l) read.after

is_substitution : {values : Values} {text result : List ℕ} → Replaces values text result
    → result ≡ substitution values text
unfolding substitution_after
is_substitution nothing = refl
is_substitution {values} (copies {b = b} {text = text} none more) =
    ap (λ l. b ∷ l) (is_substitution more) ∙ sym (copy_step values b text none)
is_substitution {values} (replaced {text = text} {name = name} {value = value} {rest = rest} spelt is more) =
    ap (λ l. value ++ l) (is_substitution more) ∙ sym (replaced_step values text name value rest spelt is)

pub references_replaced : (values : Values) (text result : List ℕ)
    → (result ≡ substitution values text) ↔ Replaces values text result
references_replaced values text result =
    (λ e. subst (Replaces values text) (sym e) (after values text 0), λ h. is_substitution h)

dollar_names : (b : ℕ) (text : List ℕ) (names : List (List ℕ)) → b ≡ 36 → (o : Option Reference)
    → reference_after text ≡ o → HoldsNames text names
    → HoldsNames (b ∷ text) (cons_option (option_map (λ r. r.name) o) names)
dollar_names b text names is None e more =
    no_reference (subst (λ a. (name rest : List ℕ) → SpellsReference (a ∷ text) name rest → ⊥) (sym is)
    (λ name rest h. none-some _ (sym e ∙ (read_at 36 text name rest h).2))) more
dollar_names b text names is (Some r) e more =
    reference (subst (λ a. SpellsReference (a ∷ text) r.name (drop r.size text)) (sym is) (reference_spelt text r e))
    more

names_held : (text : List ℕ) → HoldsNames text (names_in text)
unfolding names_in
names_held [] = no_text
names_held (b ∷ text) =
    cond_both (eqb b 36) (option_map (λ r. r.name) (reference_after text)) None
    (λ o. HoldsNames (b ∷ text) (cons_option o (names_in text)))
    (λ e. dollar_names b text (names_in text) (eqb-true b 36 e) (reference_after text) refl (names_held text))
    (λ e. no_reference (λ name rest h. not_dollar b text name rest e h) (names_held text))

-- the names of a text with one more byte, by what is read at it
names_step : (b : ℕ) (text : List ℕ) (o : Option Reference) → reference_after text ≡ o → b ≡ 36
    → names_in (b ∷ text) ≡ cons_option (option_map (λ r. r.name) o) (names_in text)
unfolding names_in
names_step b text o e is =
    ap (λ a. cons_option (if a == 36 then option_map (λ r. r.name) (reference_after text) else None) (names_in text)) is
    ∙ ap (λ f. cons_option (option_map (λ r. r.name) f) (names_in text)) e

no_name_step : (b : ℕ) (text : List ℕ) → eqb b 36 ≡ false → names_in (b ∷ text) ≡ names_in text
unfolding names_in
no_name_step b text e = ap (λ o. cons_option o (names_in text))
    (cond-false (eqb b 36) (option_map (λ r. r.name) (reference_after text)) None e)

none_names : (b : ℕ) (text : List ℕ) → b ≡ 36 → (o : Option Reference) → reference_after text ≡ o
    → ((name rest : List ℕ) → SpellsReference (b ∷ text) name rest → ⊥) → names_in (b ∷ text) ≡ names_in text
none_names b text is None e none = names_step b text None e is
none_names b text is (Some r) e none =
    absurd (none r.name (drop r.size text)
    (subst (λ a. SpellsReference (a ∷ text) r.name (drop r.size text)) (sym is) (reference_spelt text r e)))

are_names : {text : List ℕ} {names : List (List ℕ)} → HoldsNames text names → names ≡ names_in text
unfolding names_in
are_names no_text = refl
are_names (no_reference {b = b} {text = text} none more) =
    are_names more ∙ sym (elim (cases_Bool (eqb b 36)) [
      | inl e ↦ none_names b text (eqb-true b 36 e)
          (reference_after text) refl none
      | inr e ↦ no_name_step b text e
    ])
are_names (reference {b = b} {text = text} {name = name} {rest = rest} spelt more) =
    let read = read_at b text name rest spelt in
    ap (λ l. name ∷ l) (are_names more)
    ∙ sym (names_step b text (Some (record { name = name; size = read.0 })) read.2 read.1)

pub names_listed : (text : List ℕ) (names : List (List ℕ)) → (names ≡ names_in text) ↔ HoldsNames text names
names_listed text names = (λ e. subst (HoldsNames text) (sym e) (names_held text), λ h. are_names h)

neither : {X : Type 0} (o : Option X) (l : List X) → cons_option o l ≡ [] → (o ≡ None) × (l ≡ [])
neither None l h = (refl, h)
neither (Some x) l h = absurd (cc)

no_name : (o : Option Reference) → option_map (λ (r : Reference). r.name) o ≡ None → o ≡ None
no_name None h = refl
no_name (Some r) h = absurd (cc)

pub stays : (values : Values) (text : List ℕ) → names_in text ≡ [] → substitution values text ≡ text
unfolding names_in substitution_after replacement_of
stays values [] h = refl
stays values (b ∷ bs) h =
    let parts = neither (cond (eqb b 36) (option_map (λ (r : Reference). r.name) (reference_after bs)) None)
    (names_in bs) h in
    elim (cases_Bool (eqb b 36)) [
      | inl e ↦
          let none : reference_after bs ≡ None =
          no_name (reference_after bs) (sym (cond-true (eqb b 36) _ None e) ∙ parts.0) in
          subst (λ c. substitution values (c ∷ bs) ≡ c ∷ bs) (sym (eqb-true b 36 e))
          (not-replaced values bs (ap (replacement_of values) none) ∙ ap (λ l. 36 ∷ l) (stays values bs parts.1))
      | inr e ↦ plain values b bs e ∙ ap (λ l. b ∷ l) (stays values bs parts.1)
    ]
