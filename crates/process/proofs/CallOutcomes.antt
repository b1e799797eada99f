-- The calls that a function makes, joined to those of its caller, and what they come to.
use Rattle.process.proofs.Prelude.{AppendsPrefix, AreValues, Bool, CallLog, Does, Err, Holds, IfSome, List, MatchResult, None, Ok, OnErr, OnOk, Option, Puts, ReadsFile, Result, Some, SystemCall, Takes, WriterView, [], ap, append-nil, append_assoc, arith, called, false, inl, input_limit, inr, length, length-append, map, refl, subst, suc, sym, take, true, unread, ℕ, ◌&&◌, ◌++◌, ◌+◌, ◌==◌, ◌∙◌, ◌∷◌, ◌≡◌, ◌≢◌, ◌⊎◌}
use Rattle.std.specs.Io.KnownBytes.{Appends}
use Rattle.runs.specs.Inputs.{gives, refuses}
use Rattle.runs.specs.declared.inputs.InputFault.{InputFault}
use Rattle.runs.specs.declared.inputs.InputFault.TheVariants.{CannotOpen, OutOfMemory, ReadFault}
use Rattle.process.specs.Reading.{read as all_read}
use Rattle.std.proofs.lemmas.List.{length-map, map-append}
use Rattle.std.proofs.lemmas.Bool.{and_parts, eq-eqb, eqb-true, false≢true}
use Rattle.runs.specs.declared.output_files.Owner.{Owner}

called-twice : (first rest : List SystemCall) (log : CallLog)
    → called rest (called first log) ≡ called (first ++ rest) log
called-twice first rest None = refl
called-twice first rest (Some before) = ap Some (append_assoc before first rest)

called-none : (log : CallLog) → log ≡ called [] log
called-none None = refl
called-none (Some before) = ap Some (sym (append-nil before))

-- nothing is called
pub nothing : {log : CallLog} {Are : List SystemCall → Type 0} → Are [] → Does log log Are
nothing {log} are = record { calls = []; log = called-none log; are = are }

-- one call, and no other
pub once : {before after : CallLog} {Are : List SystemCall → Type 0} (call : SystemCall)
    → after ≡ called (call ∷ []) before → Are (call ∷ []) → Does before after Are
once call is are = record { calls = call ∷ []; log = is; are = are }

-- after one call come the others
pub then : {before mid after : CallLog} {Are : List SystemCall → Type 0} (call : SystemCall)
    → mid ≡ called (call ∷ []) before → Does mid after (λ rest. Are (call ∷ rest)) → Does before after Are
then {before} call began rest = record {
  calls = call ∷ rest.calls;
  log = rest.log ∙ ap (called rest.calls) began ∙ called-twice (call ∷ []) rest.calls before;
  are = rest.are;
}

-- what such calls are too
pub so : {before after : CallLog} {Are Were : List SystemCall → Type 0}
    → ((calls : List SystemCall) → Were calls → Are calls) → Does before after Were → Does before after Are
so for it = record { calls = it.calls; log = it.log; are = for it.calls it.are }

-- the calls by which a folder is held, so often as this
pub held_so : {before after : CallLog} {is_held : Bool} (left : ℕ) {most : ℕ} → suc left ≡ most
    → Does before after (Holds (suc left) is_held) → Does before after (Holds most is_held)
held_so {before} {after} {is_held} left same it = subst (λ n. Does before after (Holds n is_held)) same it

pub put : {T E : Type 0} (result : Result T E) (bytes : List ℕ) (before after : WriterView)
    → OnOk result (Appends before.bytes after.bytes bytes) → OnErr result (AppendsPrefix before.bytes after.bytes bytes)
    → OnOk result (after.failures ≡ before.failures) → OnErr result (after.failures ≡ before.failures + 1)
    → Puts bytes before after
put (Ok _) bytes before after all prefix none one = inl (record { all = all; no_failure = none })
put (Err _) bytes before after all prefix none one = inr (record { prefix = prefix; failure = one })

pub told : {T E : Type 0} (result : Result T E) (bytes : List ℕ) (before after : WriterView)
    → OnOk result (Appends before.bytes after.bytes bytes)
    → OnOk result (after.failures ≡ before.failures) → OnErr result (after.failures ≡ before.failures + 1)
    → Takes before after bytes ⊎ (after.failures ≡ before.failures + 1)
told (Ok _) bytes before after all none one = inl (record { all = all; no_failure = none })
told (Err _) bytes before after all none one = inr one

pub opened : {T : Type 0} {all : Option (List ℕ)} (opens : Option (Option (List ℕ)) → Type 0) (bytes : List ℕ)
    (result : Result T InputFault) → opens (Some all) → OnOk result (IfSome all (λ all. bytes ≡ take input_limit all))
    → result ≢ Err CannotOpen
    → MatchResult result (λ _. ReadsFile opens (gives bytes))
    (λ why. (why ≡ OutOfMemory) ⊎ ReadsFile opens (refuses why))
opened opens bytes (Ok _) is whole other = all_read is whole
opened opens bytes (Err CannotOpen) is whole other = absurd (other refl)
opened opens bytes (Err ReadFault) is whole other = inr (unread is)
opened opens bytes (Err OutOfMemory) is whole other = inl refl

values_then : (may_be : ℕ → Option (List ℕ) → Type 0) (first : ℕ) (texts : List (List ℕ)) (text : List ℕ)
    → AreValues may_be first texts → may_be (first + length texts) (Some text)
    → AreValues may_be first (texts ++ text ∷ [])
values_then may_be first [] text are is = (subst (λ n. may_be n (Some text)) (omega arith) is, _)
values_then may_be first (head ∷ texts) text are is =
    (are.0, values_then may_be (suc first) texts text are.1 (subst (λ n. may_be n (Some text)) (omega arith) is))

-- the same of what is pushed, from the index 0 on
pub values_pushed : {X : Type 0} (text_of : X → List ℕ) (may_be : ℕ → Option (List ℕ) → Type 0) (before after : List X)
    (x : X) (index : ℕ) → index ≡ length before → AreValues may_be 0 (map text_of before)
    → may_be index (Some (text_of x)) → after ≡ before ++ x ∷ []
    → (index + 1 ≡ length after) × AreValues may_be 0 (map text_of after)
values_pushed text_of may_be before after x index at are is more =
    let counted : index ≡ 0 + length (map text_of before) = omega (arith, at, length-map before text_of) in
    let mapped : map text_of after ≡ map text_of before ++ text_of x ∷ [] =
    ap (map text_of) more ∙ map-append text_of before (x ∷ []) in (
      omega (arith, at, ap length more, length-append before (x ∷ [])),
      rw (mapped) (values_then may_be 0 (map text_of before) (text_of x) are
          (subst (λ n. may_be n (Some (text_of x))) counted is)),
    )

-- the same after a head that is no value, from the index 1 on
pub values_pushed_after : {X : Type 0} (text_of : X → List ℕ) (may_be : ℕ → Option (List ℕ) → Type 0) (head : List ℕ)
    (before after : List X) (x : X)
    → (rest : List (List ℕ)) × (map text_of before ≡ head ∷ rest) × (length before ≡ 1 + length rest)
    × AreValues may_be 1 rest
    → may_be (length before) (Some (text_of x)) → after ≡ before ++ x ∷ []
    → (rest : List (List ℕ)) × (map text_of after ≡ head ∷ rest) × (length after ≡ 1 + length rest)
    × AreValues may_be 1 rest
values_pushed_after text_of may_be head before after x (rest, are, at, values) is more = (
  rest ++ text_of x ∷ [],
  ap (map text_of) more ∙ map-append text_of before (x ∷ []) ∙ ap (λ texts. texts ++ text_of x ∷ []) are,
  omega (arith, at, ap length more, length-append before (x ∷ []), length-append rest (text_of x ∷ [])),
  values_then may_be 1 rest (text_of x) values (subst (λ n. may_be n (Some (text_of x))) at is),
)

abbrev owner : (user group : ℕ) → Owner
owner user group = record { user = user; group = group }

pub same_owner : (a b : Owner) → (a.user == b.user && a.group == b.group) ≡ true → a ≡ b
same_owner a b is =
    let parts = and_parts _ _ is in
    let user : a.user ≡ b.user = eqb-true a.user b.user parts.0 in
    let group : a.group ≡ b.group = eqb-true a.group b.group parts.1 in
    ap (λ n. owner n a.group) user ∙ ap (λ n. owner b.user n) group

pub other_owner : (a b : Owner) → (a.user == b.user && a.group == b.group) ≡ false → a ≢ b
other_owner a b is same =
    let user : (a.user == b.user) ≡ true = eq-eqb a.user b.user (ap (λ (o : Owner). o.user) same) in
    let group : (a.group == b.group) ≡ true = eq-eqb a.group b.group (ap (λ (o : Owner). o.group) same) in
    false≢true (sym is ∙ rw (user, group) refl)
