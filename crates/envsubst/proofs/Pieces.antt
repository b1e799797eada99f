-- Substitution piece by piece.
use Rattle.envsubst.proofs.Prelude.{Advances, Appends-nil, Appends-trans, AppendsPrefix, AreFeedCalls, ComesOut, FeedCall, FeedCallsAgree, List, Option, Stops, Values, [], ap, append_assoc, arith, byte-at, drop, drop-append-le, drop-drop, drop_more, get_or, held_after, is_byte, is_undecided, length, pieces_of, position_or_len, refl, subst, substitution, sym, take, take-append-drop, take_rest, written_in, ℕ, ◌++◌, ◌+◌, ◌-◌, ◌<◌, ◌∙◌, ◌∷◌, ◌≡◌, ◌≤◌}
use Rattle.envsubst.specs.Internal.Holding.{IsStep}
use Rattle.envsubst.specs.declared.holding.Step.{Step}
use Rattle.envsubst.specs.declared.holding.Step.TheVariants.{Hold, Write}
use Rattle.envsubst.proofs.Substitution.{plain-prefix}

pub Advances-none : (values : Values) (text held : List ℕ) (old : Option (List ℕ)) → text ≡ held
    → Advances values text held old old
Advances-none values text held old e =
    record { written = []; appends = Appends-nil old; passes = λ rest. ap (λ t. substitution values (t ++ rest)) e }

-- one step after another
pub Advances-trans : (values : Values) (a b c : List ℕ) (first second third : Option (List ℕ))
    → Advances values a b first second → Advances values b c second third → Advances values a c first third
Advances-trans values a b c first second third p q = record {
  written = p.written ++ q.written;
  appends = Appends-trans first second third p.written q.written p.appends q.appends;
  passes = λ rest. p.passes rest ∙ ap (λ l. p.written ++ l) (q.passes rest)
      ∙ sym (append_assoc p.written q.written (substitution values (c ++ rest)));
}

-- a step leaves what comes after its text
pub Advances-more : (values : Values) (a b more : List ℕ) (old new : Option (List ℕ)) → Advances values a b old new
    → Advances values (a ++ more) (b ++ more) old new
Advances-more values a b more old new p = record {
  written = p.written;
  appends = p.appends;
  passes = λ rest. ap (substitution values) (append_assoc a more rest) ∙ p.passes (more ++ rest)
      ∙ ap (λ t. p.written ++ substitution values t) (sym (append_assoc b more rest));
}

-- a prefix of what comes out, after a step
pub Stops-after : (values : Values) (a b : List ℕ) (first second third : Option (List ℕ))
    → Advances values a b first second → Stops values b second third → Stops values a first third
Stops-after values a b first second third p q = record {
  written = p.written ++ q.written;
  appends = Appends-trans first second third p.written q.written p.appends q.appends;
  prefix = λ rest. (
    (q.prefix rest).0,
    p.passes rest ∙ ap (λ l. p.written ++ l) (q.prefix rest).1
        ∙ sym (append_assoc p.written q.written (q.prefix rest).0),
  );
}

-- a prefix of what comes out first
pub Stops-out : (values : Values) (a b out : List ℕ) (old new : Option (List ℕ))
    → ((rest : List ℕ) → substitution values (a ++ rest) ≡ out ++ substitution values (b ++ rest))
    → AppendsPrefix old new out → Stops values a old new
Stops-out values a b out old new passes part = record {
  written = take part.0 out;
  appends = part.1;
  prefix = λ rest. (
    drop part.0 out ++ substitution values (b ++ rest),
    passes rest ∙ ap (λ l. l ++ substitution values (b ++ rest)) (sym (take-append-drop part.0 out))
        ∙ append_assoc (take part.0 out) (drop part.0 out) _,
  );
}

-- where the first bytes are seen through a reference
pub Stops-seen : (values : Values) (held seen piece : List ℕ) (old new : Option (List ℕ)) → seen ≡ held
    → Stops values (seen ++ piece) old new → Stops values (held ++ piece) old new
Stops-seen values held seen piece old new same p = subst (λ h. Stops values (h ++ piece) old new) same p

-- the bytes held and the next one, and the piece that it begins
out-piece : (values : Values) (held out : List ℕ) (next taken : ℕ) (piece : List ℕ) → piece ≡ next ∷ drop 1 piece
    → taken ≤ 1
    → ((rest : List ℕ) → substitution values (held ++ (next ∷ rest)) ≡ out
    ++ substitution values (drop taken (next ∷ rest)))
    → (rest : List ℕ) → substitution values ((held ++ piece) ++ rest) ≡ out
    ++ substitution values (drop taken piece ++ rest)
out-piece values held out next taken piece e fits passes rest =
    let more = drop 1 piece in
    ap (substitution values) (append_assoc held piece rest ∙ ap (λ p. held ++ (p ++ rest)) e)
    ∙ passes (more ++ rest)
    ∙ ap (λ t. out ++ substitution values t)
    (drop-append-le taken (next ∷ more) rest (omega arith) ∙ ap (λ p. drop taken p ++ rest) (sym e))

-- the bytes before the first `$`
pub plain-out : (values : Values) (n : ℕ) (piece : List ℕ) → n ≡ position_or_len (is_byte 36) piece → (rest : List ℕ)
    → substitution values (piece ++ rest) ≡ take n piece ++ substitution values (drop n piece ++ rest)
plain-out values n piece e rest =
    subst (λ m. substitution values (piece ++ rest) ≡ take m piece ++ substitution values (drop m piece ++ rest))
    (sym e) (plain-prefix values piece rest)

-- a `$` that is the first byte
pub dollar-first : (n : ℕ) (piece : List ℕ) → n ≡ position_or_len (is_byte 36) piece → n ≡ 0 → 0 < length piece
    → take 1 piece ≡ 36 ∷ []
dollar-first n piece index first some = ap (λ p. take 1 p) (byte-at 36 piece 0 (sym first ∙ index) some)

-- a begun reference of so many bytes, and the byte after it
begun-split : (piece : List ℕ) (n d : ℕ) → n < length piece → drop n piece ≡ get_or piece n d ∷ drop 1 (drop n piece)
begun-split piece n d some = drop_more piece n d some ∙ ap (λ l. get_or piece n d ∷ l) (sym (drop-drop 1 n piece))

pub begun-out : (values : Values) (piece out : List ℕ) (n taken : ℕ) → n < length piece → taken ≤ 1
    → ((rest : List ℕ) → substitution values (take n piece ++ (get_or piece n 0 ∷ rest)) ≡ out
    ++ substitution values (drop taken (get_or piece n 0 ∷ rest)))
    → (rest : List ℕ) → substitution values (piece ++ rest) ≡ out
    ++ substitution values (drop (n + taken) piece ++ rest)
begun-out values piece out n taken within fits passes rest =
    ap (λ p. substitution values (p ++ rest)) (sym (take-append-drop n piece))
    ∙ out-piece values (take n piece) out (get_or piece n 0) taken (drop n piece)
    (begun-split piece n 0 within) fits passes rest
    ∙ ap (λ p. out ++ substitution values (p ++ rest)) (drop-drop taken n piece)

-- the first byte of a piece, and the others
piece-split : (piece : List ℕ) (d : ℕ) → 0 < length piece → piece ≡ get_or piece 0 d ∷ drop 1 piece
piece-split piece d some = drop_more piece 0 d some

pub first-taken : (piece : List ℕ) (d : ℕ) → 0 < length piece → take 1 piece ≡ get_or piece 0 d ∷ []
first-taken piece d some = ap (λ p. take 1 p) (piece-split piece d some)

-- what is done at the next byte, where it is a piece's first
pub out-step : (values : Values) (held piece : List ℕ) (step : Step) → 0 < length held → 0 < length piece
    → ComesOut values held (get_or piece 0 0) step → IsStep values held piece step
out-step values held piece Hold some more h =
    ap (λ l. is_undecided (held ++ l)) (first-taken piece 0 more) ∙ h
out-step values held piece (Write text taken) some more h = (
  omega (arith, h.0, more),
  omega (arith, some),
  out-piece values held text.now (get_or piece 0 0) taken piece (piece-split piece 0 more) h.0 h.1,
)

-- a step over `&piece[at..]`, after the steps before it
pub pass-advances : (values : Values) (text held after piece : List ℕ) (at taken : ℕ)
    (first second third : Option (List ℕ)) → Advances values text (held ++ drop at piece) first second
    → Advances values (held ++ take (length piece - at) (drop at piece))
    (after ++ drop taken (take (length piece - at) (drop at piece))) second third
    → Advances values text (after ++ drop (at + taken) piece) first third
pass-advances values text held after piece at taken first second third p q =
    let step = subst (λ l. Advances values (held ++ l) (after ++ drop taken l) second third) (take_rest piece at) q in
    let whole = Advances-trans values text (held ++ drop at piece)
    (after ++ drop taken (drop at piece)) first second third p step in
    subst (λ l. Advances values text (after ++ l) first third) (drop-drop taken at piece) whole

pub pass-stops : (values : Values) (text held piece : List ℕ) (at : ℕ) (first second third : Option (List ℕ))
    → Advances values text (held ++ drop at piece) first second
    → Stops values (held ++ take (length piece - at) (drop at piece)) second third → Stops values text first third
pass-stops values text held piece at first second third p q =
    Stops-after values text (held ++ drop at piece) first second third p
    (subst (λ l. Stops values (held ++ l) second third) (take_rest piece at) q)

-- the law of calls, from any bytes that are held at first
calls-from : (values : Values) (held : List ℕ) (calls : List FeedCall) → AreFeedCalls values held calls
    → (rest : List ℕ)
    → substitution values (held ++ (pieces_of calls ++ rest)) ≡ written_in calls
    ++ substitution values (held_after held calls ++ rest)
calls-from values held [] h rest = refl
calls-from values held (c ∷ calls) h rest =
    ap (λ l. substitution values (held ++ l)) (append_assoc c.piece (pieces_of calls) rest)
    ∙ ap (λ l. substitution values (l ++ (c.piece ++ (pieces_of calls ++ rest)))) (sym h.0)
    ∙ ap (substitution values) (sym (append_assoc c.before c.piece (pieces_of calls ++ rest)))
    ∙ h.1 (pieces_of calls ++ rest)
    ∙ ap (λ l. c.written ++ l) (calls-from values c.after calls h.2 rest)
    ∙ sym (append_assoc c.written (written_in calls) _)

pub calls-agree : FeedCallsAgree
calls-agree values calls h rest = sym (calls-from values [] calls h rest)
