-- A run of envsubst, and what it has written where it ends.
use Rattle.envsubst.proofs.Prelude.{Advances, Appends, Appends-nil, Appends-trans, AppendsPrefix, Bor, Consumes, Consumes-kept, Consumes-nil, Consumes-trans, EndsAs, Err, HasGoneOut, IfSome, IsAtEnd, Keeps, List, None, Ok, OnErr, OnOk, Option, OutOfMemory, ReadFault, Replaces, Result, RunsEnvsubst, Some, Stops, StopsAtEnd, StopsWithin, Substitutes, Took, TookAll, TookAllRead, TookBeginning, TookBeginningOfRead, ToolFault, Values, WriteFault, [], ap, append-nil, append_assoc, arith, drop, inl, inr, length, length-append, names_given, names_in, pairs_in, refl, subst, substitution, sym, take, take-add, take-append-add, take-append-drop, take_all, values_of, values_of_slices, variables_of, ℕ, ◌++◌, ◌+◌, ◌-◌, ◌<◌, ◌∙◌, ◌≡◌, ◌≤◌}
use Rattle.envsubst.proofs.Pieces.{Advances-more, Advances-none, Advances-trans, Stops-after}
use Rattle.envsubst.proofs.Substitution.{references_replaced}
use Rattle.std.proofs.Common.{option_map}
use Rattle.envsubst.specs.ByArguments.{substituted}
use Rattle.envsubst.specs.Arguments.{replaced}

-- the bytes that were read have come out, but for those that are held
pub record HasFed (values : Values) (input left : Option (List ℕ)) (held : List ℕ)
    (old new : Option (List ℕ)) : Type 0 where
  pub read : List ℕ
  pub reads : Consumes input left read
  pub advances : Advances values read held old new

pub fed-none : (values : Values) (input : Option (List ℕ)) (held : List ℕ) (old : Option (List ℕ)) → held ≡ []
    → HasFed values input input held old old
fed-none values input held old none =
    record { read = []; reads = Consumes-nil input; advances = Advances-none values [] held old (sym none) }

pub fed-more : (values used : Values) (a b c : Option (List ℕ)) (held after piece : List ℕ)
    (first second third : Option (List ℕ)) → used ≡ values → HasFed values a b held first second → Consumes b c piece
    → Advances used (held ++ piece) after second third
    → HasFed values a c after first third
fed-more values used a b c held after piece first second third same p reads q = record {
  read = p.read ++ piece;
  reads = Consumes-trans a b c p.read piece p.reads reads;
  advances = Advances-trans values (p.read ++ piece) (held ++ piece) after first second third
      (Advances-more values p.read held piece first second p.advances)
      (subst (λ v. Advances v (held ++ piece) after second third) same q);
}

-- a fault of the reader, or no end of the input
pub fed-read_fault : (values : Values) (a b c : Option (List ℕ)) (held : List ℕ) (old new : Option (List ℕ))
    → length held ≤ 257 → HasFed values a b held old new → Keeps b c → HasGoneOut values a c old new
fed-read_fault values a b c held old new few p keeps = record {
  read = p.read;
  held = held;
  reads = Consumes-kept a b c p.read p.reads keeps;
  few = few;
  advances = p.advances;
}

-- a fault of the writer at a piece
pub fed-write_fault : (values used : Values) (a b c : Option (List ℕ)) (held piece : List ℕ)
    (first second third : Option (List ℕ)) → used ≡ values → HasFed values a b held first second → Consumes b c piece
    → Stops used (held ++ piece) second third
    → StopsWithin values a c first third
fed-write_fault values used a b c held piece first second third same p reads q = record {
  read = p.read ++ piece;
  reads = Consumes-trans a b c p.read piece p.reads reads;
  stops = Stops-after values (p.read ++ piece) (held ++ piece) first second third
      (Advances-more values p.read held piece first second p.advances)
      (subst (λ v. Stops v (held ++ piece) second third) same q);
}

-- at the end of the input all of it was read
all-read : (xs read : List ℕ) (b c : Option (List ℕ)) (count : ℕ) (room : List ℕ) → Consumes (Some xs) b read
    → Consumes b c (take count room) × (count ≡ 0 → 0 < length room → IsAtEnd c) → count ≡ 0 → 0 < length room
    → xs ≡ read
all-read xs read None c count room p q none some = absurd p
all-read xs read (Some ys) None count room p q none some = absurd q.0
all-read xs read (Some ys) (Some zs) count room p q none some =
    let nothing : ys ≡ [] = q.0 ∙ ap (λ m. take m room ++ zs) none ∙ q.1 none some in
    p ∙ ap (λ l. read ++ l) nothing ∙ append-nil read

-- what came out, and what is held at the end
whole-out : (values : Values) (held : List ℕ) (old new : Option (List ℕ)) (read : List ℕ)
    → (p : Advances values read held old new) → p.written ++ substitution values held ≡ substitution values read
whole-out values held old new read p =
    ap (λ t. p.written ++ substitution values t) (sym (append-nil held)) ∙ sym (p.passes [])
    ∙ ap (substitution values) (append-nil read)

pub fed-end : (values used : Values) (a b c : Option (List ℕ)) (held : List ℕ) (count : ℕ) (room : List ℕ)
    (first second third : Option (List ℕ)) → used ≡ values → HasFed values a b held first second
    → Consumes b c (take count room) × (count ≡ 0 → 0 < length room → IsAtEnd c) → count ≡ 0 → 0 < length room
    → Appends second third (substitution used held) → Substitutes values a first third
fed-end values used None b c held count room first second third same p q none some out = tt
fed-end values used (Some xs) b c held count room first second third same p q none some out =
    subst (Appends first third)
    (whole-out values held first second p.read p.advances
    ∙ ap (substitution values) (sym (all-read xs p.read b c count room p.reads q none some)))
    (Appends-trans first second third p.advances.written (substitution values held) p.advances.appends
    (subst (λ v. Appends second third (substitution v held)) same out))

pub fed-end_fault : (values used : Values) (a b c : Option (List ℕ)) (held : List ℕ) (count : ℕ) (room : List ℕ)
    (first second third : Option (List ℕ)) → used ≡ values → HasFed values a b held first second
    → Consumes b c (take count room) × (count ≡ 0 → 0 < length room → IsAtEnd c) → count ≡ 0 → 0 < length room
    → AppendsPrefix second third (substitution used held) → StopsAtEnd values a first third
fed-end_fault values used None b c held count room first second third same p q none some out = tt
fed-end_fault values used (Some xs) b c held count room first second third same p q none some out =
    let whole = whole-out values held first second p.read p.advances
    ∙ ap (substitution values) (sym (all-read xs p.read b c count room p.reads q none some)) in
    let part : AppendsPrefix second third (substitution values held) =
    subst (λ v. AppendsPrefix second third (substitution v held)) same out in (
      length p.advances.written + part.0,
      subst (λ l. Appends first third (take (length p.advances.written + part.0) l)) whole
          (subst (Appends first third) (sym (take-append-add p.advances.written (substitution values held) part.0))
          (Appends-trans first second third p.advances.written _ p.advances.appends part.1)),
    )

-- the same variables and names replace alike
pub same-values : (vars vars' : List (List ℕ × List ℕ)) (only only' : Option (List (List ℕ))) → vars ≡ vars'
    → only ≡ only' → values_of vars only ≡ values_of vars' only'
same-values vars vars' only only' v o = ap (λ x. values_of x only) v ∙ ap (values_of vars') o

-- what a part of the text becomes has gone out, but for a block that is gathered and for what is held
pub record Gathers (values : Values) (text held : List ℕ) (old new : Option (List ℕ)) (block : List ℕ) : Type 0 where
  pub out : List ℕ
  pub appends : Appends old new out
  pub passes : (rest : List ℕ)
      → substitution values (text ++ rest) ≡ (out ++ block) ++ substitution values (held ++ rest)

-- a further part
pub Gathers-more : (values used : Values) (text held part after : List ℕ) (old new : Option (List ℕ))
    (block more : List ℕ) → used ≡ values → Gathers values text held old new block
    → Advances used (held ++ part) after (Some block) (Some more)
    → Gathers values (text ++ part) after old new more
Gathers-more values used text held part after old new block more same p q = record {
  out = p.out;
  appends = p.appends;
  passes = λ rest.
      let next : substitution values ((held ++ part) ++ rest) ≡ q.written ++ substitution values (after ++ rest) =
      subst (λ v. substitution v ((held ++ part) ++ rest) ≡ q.written ++ substitution v (after ++ rest)) same
      (q.passes rest) in
      rw (append_assoc text part rest, p.passes (part ++ rest), ← append_assoc held part rest, next, q.appends)
      (simp append_assoc);
}

-- the block goes out
pub Gathers-out : (values : Values) (text held : List ℕ) (first second third : Option (List ℕ)) (block none : List ℕ)
    → Gathers values text held first second block → Appends second third block → none ≡ []
    → Gathers values text held first third none
Gathers-out values text held first second third block none p q empty = record {
  out = p.out ++ block;
  appends = Appends-trans first second third p.out block p.appends q;
  passes = λ rest. p.passes rest
      ∙ ap (λ t. t ++ substitution values (held ++ rest))
      (sym (append-nil (p.out ++ block)) ∙ ap (λ t. (p.out ++ block) ++ t) (sym empty));
}

-- a prefix of the block goes out
pub Gathers-stops : (values : Values) (text held piece : List ℕ) (first second third : Option (List ℕ)) (block : List ℕ)
    → Gathers values text held first second block → AppendsPrefix second third block
    → Stops values (text ++ piece) first third
Gathers-stops values text held piece first second third block p q = record {
  written = p.out ++ take q.0 block;
  appends = Appends-trans first second third p.out (take q.0 block) p.appends q.1;
  prefix = λ rest. (
    drop q.0 block ++ substitution values (held ++ (piece ++ rest)),
    ap (substitution values) (append_assoc text piece rest) ∙ p.passes (piece ++ rest)
        ∙ ap (λ b. (p.out ++ b) ++ substitution values (held ++ (piece ++ rest))) (sym (take-append-drop q.0 block))
        ∙ simp append_assoc,
  );
}

-- the same, where the text is what is held and a piece of which so many bytes were taken
pub Gathers-stopped : (values : Values) (before held piece : List ℕ) (at : ℕ) (first second third : Option (List ℕ))
    (block : List ℕ) → Gathers values (before ++ take at piece) held first second block
    → AppendsPrefix second third block
    → Stops values (before ++ piece) first third
Gathers-stopped values before held piece at first second third block p q =
    subst (λ t. Stops values t first third)
    (append_assoc before (take at piece) (drop at piece) ∙ ap (λ l. before ++ l) (take-append-drop at piece))
    (Gathers-stops values (before ++ take at piece) held (drop at piece) first second third block p q)

pub Gathers-part : (values used : Values) (before held piece : List ℕ) (at len : ℕ) (after : List ℕ)
    (old new : Option (List ℕ)) (block more : List ℕ) → used ≡ values
    → Gathers values (before ++ take at piece) held old new block
    → Advances used (held ++ take (at + len - at) (drop at piece)) after (Some block) (Some more)
    → Gathers values (before ++ take (at + len) piece) after old new more
Gathers-part values used before held piece at len after old new block more same p q =
    let lens : at + len - at ≡ len = omega arith in
    let part = subst (λ k. Advances used (held ++ take k (drop at piece)) after (Some block) (Some more)) lens q in
    subst (λ t. Gathers values t after old new more)
    (append_assoc before (take at piece) (take len (drop at piece))
    ∙ ap (λ l. before ++ l) (sym (take-add at len piece)))
    (Gathers-more values used (before ++ take at piece) held
    (take len (drop at piece)) after old new block more same p part)

pub Gathers-piece : (values : Values) (before held piece : List ℕ) (at : ℕ) (first second third : Option (List ℕ))
    (block : List ℕ) → length piece ≤ at → Gathers values (before ++ take at piece) held first second block
    → Appends second third block
    → Advances values (before ++ piece) held first third
Gathers-piece values before held piece at first second third block past p q =
    subst (λ t. Advances values (before ++ t) held first third) (take_all at piece past)
    (record {
      written = p.out ++ block;
      appends = Appends-trans first second third p.out block p.appends q;
      passes =
          p.passes;
    })

-- what the writer took where a fault is reported before the end of the input
pub ends-within : (values : Values) (input left old new : Option (List ℕ)) (fault : ToolFault) → (fault ≡ ReadFault → ⊥)
    → StopsWithin values input left old new → EndsAs values input left old new (Err fault)
ends-within values input left old new ReadFault other p = absurd (other refl)
ends-within values input left old new WriteFault other p = inl p
ends-within values input left old new OutOfMemory other p = p

-- nothing was read, and nothing written
pub stops-unread : (values : Values) (input old : Option (List ℕ)) → StopsWithin values input input old old
stops-unread values input old = record {
  read = [];
  reads = Consumes-nil input;
  stops = record {
    written = [];
    appends = Appends-nil old;
    prefix = λ rest. (substitution values rest, refl);
  };
}

abbrev same_result : Result (Unit {0}) ToolFault → Result (Unit {0}) ToolFault → Type 0
same_result r s = r ≡ s

-- at the end of the input, what is still held is written
pub fed-finish : (values used : Values) (a b c : Option (List ℕ)) (held : List ℕ) (count : ℕ) (room : List ℕ)
    (first second third : Option (List ℕ)) (r : Result (Unit {0}) ToolFault) → used ≡ values
    → HasFed values a b held first second
    → Consumes b c (take count room) × (count ≡ 0 → 0 < length room → IsAtEnd c) → count ≡ 0 → 0 < length room
    → OnOk r (Appends second third (substitution used held))
    → OnErr r (AppendsPrefix second third (substitution used held)) → OnErr r (r ≡ Err WriteFault)
    → EndsAs values a c first third r
fed-finish values used a b c held count room first second third (Ok u) same p q none some ok prefix fault =
    fed-end values used a b c held count room first second third same p q none some ok
fed-finish values used a b c held count room first second third (Err ReadFault) same p q none some ok prefix fault =
    let wrong : same_result (Err ReadFault) (Err WriteFault) = fault in cc
fed-finish values used a b c held count room first second third (Err WriteFault) same p q none some ok prefix fault =
    inr (fed-end_fault values used a b c held count room first second third same p q none some prefix)
fed-finish values used a b c held count room first second third (Err OutOfMemory) same p q none some ok prefix fault =
    let wrong : same_result (Err OutOfMemory) (Err WriteFault) = fault in cc

-- each of so many calls of a reader, which had these bytes at first, gave one
pub data GaveEach : Option (List ℕ) → Option (List ℕ) → ℕ → Type 0 where
  unknown : {left : Option (List ℕ)} {calls : ℕ} → GaveEach None left calls
  known : {text rest : List ℕ} {calls : ℕ} → calls + length rest ≤ length text → GaveEach (Some text) (Some rest) calls

pub gave-none : (input : Option (List ℕ)) → GaveEach input input 0
gave-none None = unknown
gave-none (Some text) = known (omega arith)

pub gave-more : (a b c : Option (List ℕ)) (calls : ℕ) (piece : List ℕ) → GaveEach a b calls → Consumes b c piece
    → 0 < length piece → GaveEach a c (calls + 1)
gave-more a b c calls piece unknown reads some = unknown
gave-more a b None calls piece (known h) reads some = absurd reads
gave-more a b (Some left) calls piece (known h) reads some =
    let whole = ap length reads ∙ length-append piece left in known (omega (arith, h, whole, some))

pub gave-end : (a b : Option (List ℕ)) (calls before after : ℕ) → GaveEach a b calls → after ≡ before + calls + 1
    → IfSome a (λ text. after ≤ before + length text + 1)
gave-end a b calls before after unknown e = tt
gave-end a b calls before after (known h) e = omega (arith, h, e)

pub on-ok : {T E : Type 0} (r : Result T E) (P : Type 0) → P → OnOk r P
on-ok (Ok x) P p = p
on-ok (Err e) P p = tt

-- What a run of envsubst has written is what its text becomes, or after a fault a beginning of it.

is_replacement : (values : Values) (text result : List ℕ) → result ≡ substitution values text
    → Replaces values text result
is_replacement values text result is = (references_replaced values text result).0 is

took : (written : List ℕ) (old new : Option (List ℕ)) → Appends old new written → Took written old new
took written None new appends before is = cc
took written (Some bytes) None appends before is = absurd appends
took written (Some bytes) (Some more) appends before is =
    let same : bytes ≡ before = cc in ap Some (appends ∙ ap (λ b. b ++ written) same)

pub took_all : (values : Values) (text : List ℕ) (left old new : Option (List ℕ))
    → EndsAs values (Some text) left old new (Ok tt) → TookAll values text old new
took_all values text left old new ends =
    record {
      result = substitution values text;
      replaced = is_replacement values text _ refl;
      took =
          took _ old new ends;
    }

stopped : (values : Values) (read other : List ℕ) (old new : Option (List ℕ)) → Stops values read old new
    → TookBeginning values (read ++ other) old new
stopped values read other old new stops =
    let more = stops.prefix other in
    record {
      written = stops.written;
      rest = more.0;
      replaced = is_replacement values (read ++ other) _ (sym more.1);
      took =
          took _ old new stops.appends;
    }

stopped_within : (values : Values) (text : List ℕ) (left old new : Option (List ℕ))
    → StopsWithin values (Some text) left old new → TookBeginningOfRead values text left old new
stopped_within values text None old new within = absurd within.reads
stopped_within values text (Some rest) old new within = record {
  read = within.read;
  reads = λ other is. let same : rest ≡ other = cc in within.reads ∙ ap (λ r. within.read ++ r) same;
  took = λ other. stopped values within.read other old new within.stops;
}

within_read : (values : Values) (input left old new : Option (List ℕ)) → HasGoneOut values input left old new
    → StopsWithin values input left old new
within_read values input left old new out = record {
  read = out.read;
  reads = out.reads;
  stops = record {
    written = out.advances.written;
    appends = out.advances.appends;
    prefix = λ rest. (substitution values (out.held ++ rest), out.advances.passes rest);
  };
}

whole : (values : Values) (text : List ℕ) (left old new : Option (List ℕ)) → StopsWithin values (Some text) left old new
    → TookBeginning values text old new
whole values text None old new within = absurd within.reads
whole values text (Some rest) old new within =
    subst (λ t. TookBeginning values t old new) (sym within.reads)
    (stopped values within.read rest old new within.stops)

at_end : (values : Values) (text : List ℕ) (old new : Option (List ℕ)) → StopsAtEnd values (Some text) old new
    → TookBeginning values text old new
at_end values text old new ends = record {
  written = take ends.0 (substitution values text);
  rest = drop ends.0 (substitution values text);
  replaced = is_replacement values text _ (take-append-drop ends.0 (substitution values text));
  took = took _ old new ends.1;
}

pub took_beginning : (values : Values) (text : List ℕ) (left old new : Option (List ℕ)) (fault : ToolFault)
    → EndsAs values (Some text) left old new (Err fault) → TookBeginning values text old new
took_beginning values text left old new ReadFault ends =
    whole values text left old new (within_read values (Some text) left old new ends)
took_beginning values text left old new WriteFault ends = elim ends [
  | inl within ↦ whole values text left old new within
  | inr end ↦ at_end values text old new end
]
took_beginning values text left old new OutOfMemory ends = whole values text left old new ends

pub took_all_read : (values : Values) (text : List ℕ) (left old new : Option (List ℕ))
    → EndsAs values (Some text) left old new (Err ReadFault) → TookAllRead values text left old new
took_all_read values text None old new out = absurd out.reads
took_all_read values text (Some rest) old new out = record {
  read = out.read;
  reads = λ other is. let same : rest ≡ other = cc in out.reads ∙ ap (λ r. out.read ++ r) same;
  held = out.held;
  few = out.few;
  written = out.advances.written;
  took = took _ old new out.advances.appends;
  replaced = λ other result is.
      let held : result ≡ substitution values (out.held ++ other) =
      (references_replaced values (out.held ++ other) result).1 is in
      is_replacement values (out.read ++ other) _
      (ap (λ r. out.advances.written ++ r) held ∙ sym (out.advances.passes other));
}

pub took_of_read : (values : Values) (text : List ℕ) (left old new : Option (List ℕ))
    → EndsAs values (Some text) left old new (Err ReadFault) → TookBeginningOfRead values text left old new
took_of_read values text left old new ends =
    stopped_within values text left old new (within_read values (Some text) left old new ends)

pub took_of_read_memory : (values : Values) (text : List ℕ) (left old new : Option (List ℕ))
    → EndsAs values (Some text) left old new (Err OutOfMemory) → TookBeginningOfRead values text left old new
took_of_read_memory values text left old new ends = stopped_within values text left old new ends

-- variables are replaced, by the entries of an environment and the names in a SHELL-FORMAT
pub replaces : (entries : List (List ℕ) → Type 0) (input left old new : Option (List ℕ))
    (result : Result (Unit {0}) ToolFault)
    (environment : List (List ℕ)) (variables : List (Bor (List ℕ) × Bor (List ℕ)))
    (only : Option (Bor (List (Bor (List ℕ))))) (format : Option (List ℕ))
    → entries environment → pairs_in variables ≡ variables_of environment
    → names_given only ≡ option_map names_in format
    → EndsAs (values_of_slices variables only) input left old new result
    → RunsEnvsubst entries input left old new (replaced format) result
replaces entries input left old new result environment variables only format are pairs names ends =
    substituted environment are
    (subst (λ n. EndsAs (values_of (variables_of environment) n) input left old new result) names
    (subst (λ p. EndsAs (values_of p (names_given only)) input left old new result) pairs ends))
