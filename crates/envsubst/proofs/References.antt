-- A reference is read where it is spelt, and what is read as one is spelt.
use Rattle.envsubst.proofs.Prelude.{All, Bool, Decides-by_and, IsInName, IsName, List, NoNameGoesOn, None, Option, Reference, Some, SpellsReference, [], after_dollar, and_from, and_left, and_parts, and_right, ap, append-nil, arith, bare as bare_name, bare_reference, begins_with, both_ways, braced, braced_reference, cond, cond-false, cond-true, cond_both, drop, drop-drop, drop_at, eqb, eqb-true, false, false_from_ne_true, false≢true, inl, inr, is_begun_name, is_letter, is_name, is_name_byte, is_undecided, is_undecided_after, length, length-append, list_all, list_all-append, lt-ltb, ltb, ltb-true, name_prefix, nat_tests, ne_eqb, reference_after, refl, subst, suc, sym, take, take-append_seam, take_while-cons, true, ℕ, ◌&&◌, ◌++◌, ◌+◌, ◌<◌, ◌∙◌, ◌∷◌, ◌≡◌, ◌≤◌, ◌⊎◌}
use Rattle.std.specs.Bool.{Decides}

-- neither `$` nor a brace is a name byte
pub no_name_byte : (is_name_byte 36 ≡ false) × (is_name_byte 123 ≡ false) × (is_name_byte 125 ≡ false)
unfolding is_name_byte
no_name_byte = (refl, refl, refl)

-- so a name byte is none of them
pub name_byte-not : (a b : ℕ) → is_name_byte a ≡ false → is_name_byte b ≡ true → eqb b a ≡ false
name_byte-not a b fails passes = ne_eqb b a (λ same. both_ways (is_name_byte b) (ap is_name_byte same ∙ fails) passes)

-- a run goes on over name bytes, and ends before another byte
pub name_prefix-append : (name xs : List ℕ) → list_all is_name_byte name ≡ true
    → name_prefix (name ++ xs) ≡ name ++ name_prefix xs
name_prefix-append [] xs h = refl
name_prefix-append (b ∷ bs) xs h =
    let p = and_parts (is_name_byte b) (list_all is_name_byte bs) h in
    take_while-cons is_name_byte b (bs ++ xs) ∙ cond-true (is_name_byte b) _ _ p.0
    ∙ ap (λ l. b ∷ l) (name_prefix-append bs xs p.1)

pub name_prefix-stop : (b : ℕ) (bs : List ℕ) → is_name_byte b ≡ false → name_prefix (b ∷ bs) ≡ []
name_prefix-stop b bs h = take_while-cons is_name_byte b bs ∙ cond-false (is_name_byte b) _ _ h

name_prefix-ends : (name xs : List ℕ) → list_all is_name_byte name ≡ true → name_prefix xs ≡ []
    → name_prefix (name ++ xs) ≡ name
name_prefix-ends name xs h stops =
    name_prefix-append name xs h ∙ ap (λ l. name ++ l) stops ∙ append-nil name

-- a begun name that has a byte is a name of name bytes alone
pub begun-name : (b : ℕ) (bs : List ℕ) → is_begun_name (b ∷ bs) ≡ true
    → (is_name (b ∷ bs) ≡ true) × (list_all is_name_byte (b ∷ bs) ≡ true)
begun-name b bs h = and_parts (is_name (b ∷ bs)) (list_all is_name_byte (b ∷ bs)) h

pub begun-bytes : (name : List ℕ) → is_begun_name name ≡ true → list_all is_name_byte name ≡ true
begun-bytes [] h = refl
begun-bytes (b ∷ bs) h = (begun-name b bs h).1

-- it begins with no brace
no_brace : (b : ℕ) (bs : List ℕ) → is_begun_name (b ∷ bs) ≡ true → eqb b 123 ≡ false
no_brace b bs h =
    name_byte-not 123 b no_name_byte.1 (and_parts (is_name_byte b) (list_all is_name_byte bs) (begun-name b bs h).1).0

-- a begun name goes on with a name byte while it is short enough
pub begun-more : (name : List ℕ) (next : ℕ) → is_begun_name name ≡ true → is_name_byte next ≡ true
    → (name ≡ [] → is_letter next ≡ true) → length name < 255 → is_begun_name (name ++ next ∷ []) ≡ true
unfolding is_name
begun-more [] next h passes first short = and_from _ _ (and_from _ _ (first refl) refl) (and_from _ _ passes refl)
begun-more (b ∷ bs) next h passes first short =
    let p = begun-name b bs h in
    let q = and_parts (is_letter b) (ltb (length bs) 255) p.0 in
    let room : length (bs ++ next ∷ []) < 255 = omega (arith, length-append bs (next ∷ [])) in
    let all = list_all-append is_name_byte (b ∷ bs) (next ∷ []) ∙ and_from _ _ p.1 (and_from _ _ passes refl) in
    and_from _ _ (and_from _ _ q.0 (lt-ltb _ _ room)) all

-- with a brace or without, what is begun is undecided as its name is
undecided-as : (is_braced : Bool) (name : List ℕ) → begins_with 123 (after_dollar is_braced name) ≡ is_braced
    → is_undecided (36 ∷ after_dollar is_braced name) ≡ is_begun_name name
unfolding is_undecided
undecided-as true name e = refl
undecided-as false [] e = refl
undecided-as false (b ∷ bs) e = cond-false (eqb b 123) (is_begun_name bs) (is_begun_name (b ∷ bs)) e

pub begun-undecided : (is_braced : Bool) (name : List ℕ) → is_begun_name name ≡ true
    → is_undecided (36 ∷ after_dollar is_braced name) ≡ true
begun-undecided true name h = undecided-as true name refl ∙ h
begun-undecided false [] h = undecided-as false [] refl
begun-undecided false (b ∷ bs) h = undecided-as false (b ∷ bs) (no_brace b bs h) ∙ h

pub brace-undecided : (is_braced : Bool) (name : List ℕ) (b : ℕ) → name ≡ [] → b ≡ 123 → is_braced ≡ false
    → is_undecided (36 ∷ after_dollar is_braced (name ++ b ∷ [])) ≡ true
unfolding is_undecided
brace-undecided is_braced name b none brace bare = rw (none, brace, bare)

-- a reference that is read after `$`, where the run of name bytes ends after this name
pub ends : (name xs : List ℕ) → is_begun_name name ≡ true → (name ≡ [] → ⊥) → name_prefix xs ≡ []
    → reference_after (name ++ xs) ≡ Some (record { name = name; size = length name })
unfolding reference_after bare_reference
ends [] xs h some stops = absurd (some refl)
ends (c ∷ cs) xs h some stops =
    let p = begun-name c cs h in rw (no_brace c cs h, name_prefix-ends (c ∷ cs) xs p.1 stops, p.0) refl

-- and after `${`
braced_at : (name xs : List ℕ) → is_begun_name name ≡ true → name_prefix xs ≡ []
    → reference_after (123 ∷ (name ++ xs))
    ≡ cond (is_name name && begins_with 125 xs) (Some (record { name = name; size = length name + 2 })) None
unfolding reference_after braced_reference
braced_at name xs h stops =
    rw (name_prefix-ends name xs (begun-bytes name h) stops, drop_at name xs (length name) refl) refl

pub closes : (name : List ℕ) (bs : List ℕ) → is_begun_name name ≡ true → (name ≡ [] → ⊥)
    → reference_after (123 ∷ (name ++ 125 ∷ bs)) ≡ Some (record { name = name; size = length name + 2 })
closes [] bs h some = absurd (some refl)
closes (c ∷ cs) bs h some =
    rw (braced_at (c ∷ cs) (125 ∷ bs) h (name_prefix-stop 125 bs no_name_byte.2), (begun-name c cs h).0) refl

pub not-closed : (name xs : List ℕ) → is_begun_name name ≡ true → name_prefix xs ≡ [] → begins_with 125 xs ≡ false
    → reference_after (123 ∷ (name ++ xs)) ≡ None
not-closed name xs h stops other = rw (braced_at name xs h stops) (cond-false _ _ _ (and_right (is_name name) _ other))

-- at the end of a text
pub ending-none : (is_braced : Bool) (name : List ℕ) → is_begun_name name ≡ true → (is_braced ≡ true) ⊎ (name ≡ [])
    → reference_after (after_dollar is_braced (name ++ [])) ≡ None
unfolding reference_after bare_reference is_name
ending-none true name h which = not-closed name [] h refl refl
ending-none false name h (inl e) = absurd (false≢true e)
ending-none false name h (inr none) = rw none refl

-- where the run isn't a name there is no reference
unnamed : (is_braced : Bool) (xs : List ℕ) → is_name (name_prefix xs) ≡ false
    → (is_braced ≡ false → begins_with 123 xs ≡ false) → reference_after (after_dollar is_braced xs) ≡ None
unfolding reference_after bare_reference braced_reference
unnamed true xs fails brace = rw fails refl
unnamed false xs fails brace = rw (brace refl, fails) refl

-- no name begins with a byte that is no letter
wrong-first : (b : ℕ) (bs : List ℕ) → is_letter b ≡ false → is_name (name_prefix (b ∷ bs)) ≡ false
unfolding is_name
wrong-first b bs fails =
    rw (take_while-cons is_name_byte b bs)
    (cond_both (is_name_byte b) (b ∷ name_prefix bs) [] (λ (run : List ℕ). is_name run ≡ false)
    (λ _. and_left (is_letter b) _ fails) (λ _. refl))

-- a byte that begins neither a name nor a brace
pub not-begun : (is_braced : Bool) (name : List ℕ) (b : ℕ) (bs : List ℕ) → name ≡ [] → is_letter b ≡ false
    → ((b ≡ 123) × (is_braced ≡ true)) ⊎ (b ≡ 123 → ⊥)
    → reference_after (after_dollar is_braced (name ++ b ∷ bs)) ≡ None
not-begun is_braced name b bs none fails other =
    rw none (unnamed is_braced (b ∷ bs) (wrong-first b bs fails)
    (λ bare. elim other [ inl p ↦ absurd (both_ways is_braced bare p.1) | inr ne ↦ ne_eqb b 123 ne ]))

-- a letter is a name byte
pub letter-name_byte : (b : ℕ) → is_letter b ≡ true → is_name_byte b ≡ true
unfolding is_letter is_name_byte
letter-name_byte b h = grind (arith, nat_tests)

-- a name has at most 255 bytes
name-length : (bs : List ℕ) → is_name bs ≡ true → length bs ≤ 255
unfolding is_name
name-length [] h = omega arith
name-length (b ∷ bs) h =
    let below = ltb-true (length bs) 255 (and_parts (is_letter b) (ltb (length bs) 255) h).1 in omega arith

-- a name that is too long
pub not-short : (is_braced : Bool) (name : List ℕ) (b : ℕ) (bs : List ℕ) → is_begun_name name ≡ true → (name ≡ [] → ⊥)
    → is_name_byte b ≡ true → 255 ≤ length name → reference_after (after_dollar is_braced (name ++ b ∷ bs)) ≡ None
not-short is_braced [] b bs h some passes long = absurd (some refl)
not-short is_braced (c ∷ cs) b bs h some passes long =
    let name = c ∷ cs in
    let run = name_prefix-append name (b ∷ bs) (begun-bytes name h)
    ∙ ap (λ l. name ++ l) (take_while-cons is_name_byte b bs ∙ cond-true (is_name_byte b) _ _ passes) in
    let whole = name ++ b ∷ name_prefix bs in
    let long_run = false_from_ne_true (is_name whole)
    (λ is. omega (arith, name-length whole is, length-append name (b ∷ name_prefix bs))) in
    unnamed is_braced (name ++ b ∷ bs) (ap is_name run ∙ long_run) (λ _. no_brace c cs h)

-- a first byte, apart
pub begins : (a : ℕ) (bs : List ℕ) → begins_with a bs ≡ true → bs ≡ a ∷ drop 1 bs
begins a [] h = absurd (false≢true h)
begins a (b ∷ bs) h = ap (λ c. c ∷ bs) (eqb-true b a h)

-- the name that is begun after `$` or `${`
abbrev pub name_after : Bool → List ℕ → List ℕ
name_after true bs = drop 1 (drop 1 bs)
name_after false bs = drop 1 bs

-- a `$`, maybe a brace, and the name
split : (is_braced : Bool) (bs : List ℕ) → begins_with 36 bs ≡ true → begins_with 123 (drop 1 bs) ≡ is_braced
    → bs ≡ 36 ∷ after_dollar is_braced (name_after is_braced bs)
split true bs dollar brace = begins 36 bs dollar ∙ ap (λ l. 36 ∷ l) (begins 123 (drop 1 bs) brace)
split false bs dollar brace = begins 36 bs dollar

held-dollar : (held : List ℕ) → 0 < length held → is_undecided held ≡ true → begins_with 36 held ≡ true
unfolding is_undecided
held-dollar [] some h = absurd (omega arith)
held-dollar (b ∷ bs) some h = (and_parts (eqb b 36) (is_undecided_after bs) h).0

-- what stands after a `$` that is held
pub undecided-parts : (is_braced : Bool) (held : List ℕ) → 0 < length held → is_undecided held ≡ true
    → begins_with 123 (drop 1 held) ≡ is_braced
    → (held ≡ 36 ∷ after_dollar is_braced (name_after is_braced held))
    × (is_begun_name (name_after is_braced held) ≡ true)
undecided-parts is_braced held some h brace =
    let parts = split is_braced held (held-dollar held some h) brace in
    let same = ap (λ l. begins_with 123 (drop 1 l)) (sym parts) ∙ brace in
    (parts, sym (undecided-as is_braced (name_after is_braced held) same) ∙ ap is_undecided (sym parts) ∙ h)

-- a `$` and what is begun after it
pub begun-taken : (is_braced : Bool) (bs : List ℕ) (start n : ℕ) → begins_with 36 bs ≡ true
    → begins_with 123 (drop 1 bs) ≡ is_braced → start ≡ cond is_braced 2 1
    → is_begun_name (take n (drop start bs)) ≡ true → is_undecided (take (start + n) bs) ≡ true
begun-taken true bs start n dollar brace is h =
    let two : start + n ≡ suc (suc n) = omega (arith, is) in
    let begun = rw (is, split true bs dollar brace) at h in
    rw (two, split true bs dollar brace) (begun-undecided true (take n (drop 1 (drop 1 bs))) begun)
begun-taken false bs start n dollar brace is h =
    let one : start + n ≡ suc n = omega (arith, is) in
    rw (one, split false bs dollar brace) (begun-undecided false (take n (drop 1 bs)) (rw is at h))

-- what is after a byte, a name and the closing brace
pub two_more : (n : ℕ) (b : ℕ) (bytes : List ℕ) → drop (n + 2) (b ∷ bytes) ≡ drop 1 (drop n bytes)
two_more n b bytes =
    let two : n + 2 ≡ suc (n + 1) = omega arith in ap (λ (k : ℕ). drop k (b ∷ bytes)) two ∙ sym (drop-drop 1 n bytes)

pub after-closed : (name : List ℕ) (b : ℕ) (bs : List ℕ) → drop (length name + 2) (123 ∷ (name ++ b ∷ bs)) ≡ bs
after-closed name b bs =
    two_more (length name) 123 (name ++ b ∷ bs) ∙ ap (drop 1) (drop_at name (b ∷ bs) (length name) refl)

-- held bytes are at most 257: `${` and the longest name
begun-length : (name : List ℕ) → is_begun_name name ≡ true → length name ≤ 255
begun-length [] h = omega arith
begun-length (b ∷ bs) h = name-length (b ∷ bs) (begun-name b bs h).0

pub undecided-length : (held : List ℕ) → is_undecided held ≡ true → length held ≤ 257
undecided-length [] h = omega arith
undecided-length (b ∷ bs) h = by (begins_with 123 bs) refl where
  by : (is_braced : Bool) → begins_with 123 bs ≡ is_braced → length (b ∷ bs) ≤ 257
  by true e = let u = undecided-parts true (b ∷ bs) (omega arith) h e in
      omega (arith, ap length u.0, begun-length (drop 1 bs) u.1)
  by false e = omega (arith, begun-length bs (undecided-parts false (b ∷ bs) (omega arith) h e).1)

pub nothing-undecided : is_undecided [] ≡ true
unfolding is_undecided
nothing-undecided = refl

-- a text is the longest run of name bytes, and a rest
abbrev pub RunAt : List ℕ → List ℕ → Type 0
RunAt bytes run = (list_all is_name_byte run ≡ true) × NoNameGoesOn (drop (length run) bytes)
    × (run ++ drop (length run) bytes ≡ bytes)

pub run_at : (bytes : List ℕ) → RunAt bytes (name_prefix bytes)
run_at [] = (refl, tt, refl)
run_at (b ∷ bytes) =
    let later = run_at bytes in
    subst (RunAt (b ∷ bytes)) (sym (take_while-cons is_name_byte b bytes))
    (cond_both (is_name_byte b) (b ∷ name_prefix bytes) [] (RunAt (b ∷ bytes))
    (λ passes. (and_from _ _ passes later.0, later.1, ap (λ l. b ∷ l) later.2))
    (λ fails. (refl, λ h. both_ways (is_name_byte b) fails h, refl)))

begun-from : (run : List ℕ) → is_name run ≡ true → list_all is_name_byte run ≡ true → is_begun_name run ≡ true
begun-from [] named all = refl
begun-from (b ∷ bs) named all = and_from _ _ named all

pub run-begun : (bs run : List ℕ) → run ≡ name_prefix bs → is_name run ≡ true
    → is_begun_name (take (length run) bs) ≡ true
run-begun bs run e named =
    let at = run_at bs in
    let taken = ap (take (length run)) (sym at.2 ∙ ap (λ l. l ++ drop (length (name_prefix bs)) bs) (sym e)) in
    ap is_begun_name (taken ∙ take-append_seam run _) ∙ begun-from run named (rw e at.0)

-- so there is room for a byte that is held too
pub undecided-room : (held seen : List ℕ) (next : ℕ) → seen ≡ held → is_undecided (seen ++ next ∷ []) ≡ true
    → length held < 257
undecided-room held seen next same h =
    omega (arith, undecided-length (seen ++ next ∷ []) h, length-append seen (next ∷ []), ap length same)

-- Each reference is read where it is spelt, and what is read as one is spelt.

all_decides : (bytes : List ℕ) → Decides (list_all is_name_byte bytes) (All IsInName bytes)
all_decides bytes = Decides-by_and is_name_byte IsInName (λ text. list_all is_name_byte text)
    (λ b. (λ e. e, λ h. h)) refl (λ _ _. refl) bytes

name_says : (name : List ℕ) → is_name name ≡ true → list_all is_name_byte name ≡ true → IsName name
unfolding is_name
name_says [] h all = absurd (false≢true h)
name_says (b ∷ bytes) h all =
    let p = and_parts (is_letter b) _ h in
    let q = and_parts (is_name_byte b) (list_all is_name_byte bytes) all in
    (p.0, (all_decides bytes).0 q.1, ltb-true (length bytes) 255 p.1)

name_begun : (name : List ℕ) → IsName name → is_begun_name name ≡ true
unfolding is_name
name_begun [] h = absurd h
name_begun (b ∷ bytes) h =
    and_from _ _ (and_from _ _ h.0 (lt-ltb (length bytes) 255 (h.2)))
    (and_from _ _ (letter-name_byte b h.0) ((all_decides bytes).1 h.1))

name_some : (name : List ℕ) → IsName name → name ≡ [] → ⊥
name_some [] h none = h
name_some (b ∷ bytes) h none = cc

-- what is read of a spelt reference
pub record IsRead (text name rest : List ℕ) : Type 0 where
  pub bytes : List ℕ
  pub size : ℕ
  pub dollar : text ≡ 36 ∷ bytes
  pub read : reference_after bytes ≡ Some (record { name = name; size = size })
  pub after : drop size bytes ≡ rest

bare_read : (name rest : List ℕ) → IsName name → NoNameGoesOn rest
    → reference_after (name ++ rest) ≡ Some (record { name = name; size = length name })
bare_read name rest h ended = ends name rest (name_begun name h) (name_some name h) (stops rest ended) where
  stops : (rest : List ℕ) → NoNameGoesOn rest → name_prefix rest ≡ []
  stops [] ended = refl
  stops (b ∷ rest) ended = name_prefix-stop b rest (false_from_ne_true (is_name_byte b) ended)

pub reference_read : {text name rest : List ℕ} → SpellsReference text name rest → IsRead text name rest
reference_read (bare_name {name = name} {rest = rest} h ended) = record {
  bytes = name ++ rest;
  size = length name;
  dollar = refl;
  read = bare_read name rest h ended;
  after = drop_at name rest (length name) refl;
}
reference_read (braced {name = name} {rest = rest} h) = record {
  bytes = 123 ∷ (name ++ 125 ∷ rest);
  size = length name + 2;
  dollar = refl;
  read = closes name rest (name_begun name h) (name_some name h);
  after = after-closed name 125 rest;
}

-- what is read as a reference is spelt
abbrev Says : List ℕ → Option Reference → Type 0
Says bytes None = Unit {0}
Says bytes (Some r) = SpellsReference (36 ∷ bytes) r.name (drop r.size bytes)

bare_says : (bytes : List ℕ) → Says bytes (bare_reference bytes)
unfolding bare_reference
bare_says bytes =
    let run = run_at bytes in
    cond_both (is_name (name_prefix bytes)) _ None (Says bytes)
    (λ named. subst (λ text. SpellsReference (36 ∷ text) (name_prefix bytes) (drop (length (name_prefix bytes)) bytes))
    run.2 (bare_name (name_says (name_prefix bytes) named run.0) run.1))
    (λ _. tt)

braced_says : (bytes : List ℕ) → Says (123 ∷ bytes) (braced_reference bytes)
unfolding braced_reference
braced_says bytes =
    let run = run_at bytes in
    let name = name_prefix bytes in
    let rest = drop (length name) bytes in
    cond_both (is_name name && begins_with 125 rest) _ None (Says (123 ∷ bytes))
    (λ both.
    let p = and_parts (is_name name) (begins_with 125 rest) both in
    let closed = begins 125 rest p.1 in
    subst (λ end. SpellsReference (36 ∷ 123 ∷ bytes) name end) (sym (two_more (length name) 123 bytes))
    (subst (λ text. SpellsReference (36 ∷ 123 ∷ text) name (drop 1 rest)) (ap (λ l. name ++ l) (sym closed) ∙ run.2)
    (braced (name_says name p.0 run.0))))
    (λ _. tt)

says : (bytes : List ℕ) → Says bytes (reference_after bytes)
unfolding reference_after
says bytes =
    cond_both (begins_with 123 bytes) (braced_reference (drop 1 bytes)) (bare_reference bytes) (Says bytes)
    (λ opened. subst (λ text. Says text (braced_reference (drop 1 bytes))) (sym (begins 123 bytes opened))
    (braced_says (drop 1 bytes)))
    (λ _. bare_says bytes)

pub reference_spelt : (bytes : List ℕ) (r : Reference) → reference_after bytes ≡ Some r
    → SpellsReference (36 ∷ bytes) r.name (drop r.size bytes)
reference_spelt bytes r e = subst (Says bytes) e (says bytes)
