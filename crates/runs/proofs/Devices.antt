-- What writers and readers do piece by piece, and a run that was written.
use Rattle.runs.proofs.Prelude.{Appends, Consumes, Err, Gives, GivesFirst, IfOk, IfSome, IsAllWritten, IsAtEnd, IsThere, List, MakesFile, None, Ok, OnErr, Option, OutputFault, OutputIs, ProgramFault, Result, RunView, Some, SystemView, Writes, WritesRun, [], ap, append-nil, arith, delivered, drop, drop-take, in_file, inl, inr, length, length-take-le, link_limit, on_standard_output, output_file, refl, subst, suc, sym, take, take-add, take-take, take_all, take_at, take_rest, to_file, unmade, unreported, written, zero, ℕ, ◌++◌, ◌+◌, ◌-◌, ◌<◌, ◌∙◌, ◌∷◌, ◌≡◌, ◌≤◌}
use Rattle.std.proofs.lemmas.List.{append_assoc}
use Rattle.std.proofs.KnownBytes.{Appends-trans, Consumes-trans}
use Rattle.runs.specs.OutputSystem.{cut, made}
use Rattle.runs.specs.ToolRuns.{unwritten}
use Rattle.runs.proofs.NewFileOutputs.{whole_outputs}

-- the first n + k of xs: the first n, then the first k of what `&xs[n..]` is
pub take-rest : (n k : ℕ) (xs : List ℕ) → take (n + k) xs ≡ take n xs ++ take k (take (length xs - n) (drop n xs))
take-rest n k xs = take-add n k xs ∙ ap (λ l. take n xs ++ take k l) (sym (take_rest xs n))

-- after the first n bytes the writer took the next k
pub Appends-rest : (a b c : Option (List ℕ)) (n k : ℕ) (xs : List ℕ) → Appends a b (take n xs)
    → Appends b c (take k (take (length xs - n) (drop n xs))) → Appends a c (take (n + k) xs)
Appends-rest a b c n k xs first next = subst (Appends a c) (sym (take-rest n k xs)) (Appends-trans a b c _ _ first next)

-- a reader that is asked for n bytes, and gave them, gave the first n
pub taken-full : (n : ℕ) (a b : Option (List ℕ)) (bs : List ℕ) → Consumes a b bs → length bs ≡ n
    → IfSome a (λ xs. bs ≡ take n xs)
taken-full n None b bs p e = tt
taken-full n (Some xs) None bs p e = absurd p
taken-full n (Some xs) (Some ys) bs p e = sym (ap (take n) p ∙ take_at bs ys n e)

-- one that has no more gave all, where that isn't too much
pub taken-end : (n : ℕ) (a b : Option (List ℕ)) (bs : List ℕ) → Consumes a b bs → IsAtEnd b → length bs ≤ n
    → IfSome a (λ xs. bs ≡ take n xs)
taken-end n None b bs p end l = tt
taken-end n (Some xs) None bs p end l = absurd p
taken-end n (Some xs) (Some ys) bs p end l =
    sym (ap (take n) (p ∙ ap (λ r. bs ++ r) end ∙ append-nil bs) ∙ take_all n bs l)

-- the first n bytes were filled, and then k more
pub filled-more : (a b c : Option (List ℕ)) (n k : ℕ) (xs ys : List ℕ) → Consumes a b (take n xs)
    → take n ys ≡ take n xs → Consumes b c (take k (drop n ys)) → Consumes a c (take (n + k) ys)
filled-more a b c n k xs ys before front next =
    subst (Consumes a c) (sym (take-add n k ys ∙ ap (λ l. l ++ take k (drop n ys)) front))
    (Consumes-trans a b c _ _ before next)

-- what stands after the first s bytes is as it was, where it is as far as there
pub front-after : (s n : ℕ) (xs ys : List ℕ) → take (s + n) ys ≡ take (s + n) xs
    → take n (drop s ys) ≡ take n (drop s xs)
front-after s n xs ys front = sym (drop-take s n ys) ∙ ap (drop s) front ∙ drop-take s n xs

-- and so is what stands before
pub front-before : (s n : ℕ) (xs ys : List ℕ) → take (s + n) ys ≡ take (s + n) xs → take s ys ≡ take s xs
front-before s n xs ys front =
    sym (take-take s (s + n) ys (omega arith)) ∙ ap (take s) front ∙ take-take s (s + n) xs (omega arith)

-- the first n bytes were filled, and the reader has no more
pub filled-end : (limit : ℕ) (a b c : Option (List ℕ)) (n k : ℕ) (xs ys : List ℕ) → Consumes a b (take n xs)
    → take n ys ≡ take n xs → Consumes b c (take k (drop n ys)) → k ≡ 0 → IsAtEnd c → n ≤ length ys → n ≤ limit
    → IfSome a (λ all. take n ys ≡ take limit all)
filled-end limit a b c n k xs ys before front next none end fits few =
    taken-end limit a c (take n ys)
    (subst (λ m. Consumes a c (take m ys)) (omega (arith, none)) (filled-more a b c n k xs ys before front next))
    end (omega (arith, length-take-le n ys fits))

-- what holds holds after an error
pub on-err : {T E : Type 0} (r : Result T E) (P : Type 0) → P → OnErr r P
on-err (Ok x) P p = tt
on-err (Err e) P p = p

-- the first call is given the whole piece
Gives-one : (xs : List (List ℕ)) (b c : Option (List (List ℕ))) (piece given : List ℕ) → given ≡ piece → b ≡ Some xs
    → Gives b c given → GivesFirst (Some xs) c piece
Gives-one xs None c piece given whole same is = cc
Gives-one xs (Some ys) None piece given whole same is = absurd is
Gives-one xs (Some ys) (Some zs) piece given whole same is =
    let before : ys ≡ xs = cc in
    ([], is ∙ ap (λ l. l ++ given ∷ []) before ∙ ap (λ p. xs ++ p ∷ []) whole)

-- the call for what is left of a piece after its first n bytes: the first such call is given the whole piece
pub Gives-next : (a b c : Option (List (List ℕ))) (n : ℕ) (piece : List ℕ) → (n ≡ 0 → b ≡ a)
    → (0 < n → GivesFirst a b piece)
    → Gives b c (take (length piece - n) (drop n piece)) → GivesFirst a c piece
Gives-next None b c n piece untouched first given = tt
Gives-next (Some xs) b c zero piece untouched first given =
    Gives-one xs b c piece _ (take_rest piece zero) (untouched refl) given
Gives-next (Some xs) None c (suc n) piece untouched first given = absurd (first (omega arith))
Gives-next (Some xs) (Some ys) None (suc n) piece untouched first given = absurd given
Gives-next (Some xs) (Some ys) (Some zs) (suc n) piece untouched first given =
    let before = first (omega arith) in (
      before.0 ++ take (length piece - suc n) (drop (suc n) piece) ∷ [],
      given ∙ ap (λ l. l ++ take (length piece - suc n) (drop (suc n) piece) ∷ []) before.1 ∙ append_assoc xs _ _,
    )

there : (run : RunView) (path : List ℕ) (before now : SystemView) → OutputIs run path before now None
    → IsThere run.output path before.files now.files
there run path before now output =
    let whole = whole_outputs run.output path link_limit output.course output.is in
    let done = sym output.fault_is in
    record {
      course = output.course;
      calls = output.log;
      to = whole.to;
      leads = λ files gives. elim (whole.leads files gives) [ inl leads ↦ leads | inr fault ↦ absurd (fault.0 done) ];
      whole = λ files gives. (whole.comes files gives).success done;
    }

file_written : {run : RunView} {path : List ℕ} {before now : SystemView} {why : Option OutputFault} → why ≡ None
    → now.out ≡ before.out → MakesFile run path before now why → IsAllWritten run before now (Some path)
file_written {run} {path} {before} {now} none same (made output messages) =
    in_file (there run path before now output) same messages.all
file_written none same (unreported output messages) = cc
file_written none same (unmade output messages) = cc

run_written : {run : RunView} {file : Option (List ℕ)} {before now : SystemView} {why : Option OutputFault} → why ≡ None
    → WritesRun run before now file why → IsAllWritten run before now file
run_written none (delivered same output messages) = on_standard_output same output.all messages.all
run_written none (cut same part) = cc
run_written none (to_file same makes) = file_written none same makes

written_all : {run : RunView} {output : List ℕ} {before now : SystemView} {result : Result ℕ ProgramFault}
    → Writes run output before now result
    → IfOk result (λ status. (status ≡ run.status) × IsAllWritten run before now (output_file run output))
written_all (written writes) = (refl, run_written refl writes)
written_all (unwritten fault) = tt

pub written_runs : (run : RunView) (output : List ℕ) (before now : SystemView) (status : ℕ)
    → Writes run output before now (Ok status)
    → (status ≡ run.status) × IsAllWritten run before now (output_file run output)
written_runs run output before now status writes = written_all writes
