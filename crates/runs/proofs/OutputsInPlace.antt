-- The calls by which an output is made, and one that is written in place or to an open stream.
use Rattle.runs.proofs.Prelude.{Always, Appends, AppendsPrefix, Bool, CannotCreate, Closes, Course, Destination, Each, Err, Exists, FileCall, FileLog, Files, Fills, Finishes, GivesAll, GivesNothingAway, HasAll, HasRights, IsErrAnd, IsNotOpening, IsWholeOrAsItWas, KeepsMode, List, NamesNoStream, NewFile, None, Ok, OnErr, OnOk, Option, OutOfMemory, OutputFault, Owner, PathState, Puts, Regular, Replaces, Result, Rights, Runs, Some, ToolFault, WritesFile, WritesInPlace, WritesStream, [], after, after_call, ap, append-nil, append_assoc, arith, asks, beside, bytes_eq, bytes_eq-Decides, calls_of, cases_Bool, closes, cond-false, cond-true, cut, eq-eqb, fails, fails_to_make, fails_to_open, false, fault_in, fault_of, file, file_at, first_mode, follows, inl, inr, is_ok, kept_mode, lacking, lacks_stream, late, link, link_target, logged, made, makes, ne_eqb, nothing, numbers, opened, opens, put, put_stream, reads_link, refl, sets_mode, sets_owner, stream_of, subst, sym, taken, takes_stream, true, unopened, unput, whole, with_bytes, with_rights, ℕ, ◌&&◌, ◌++◌, ◌+◌, ◌<◌, ◌==◌, ◌^◌, ◌∙◌, ◌∷◌, ◌≡◌, ◌≢◌, ◌⊎◌, ◌▸◌}
use Rattle.runs.specs.declared.output_files.MakeFault.{MakeFault}
use Rattle.runs.specs.OutputFiles.{done}
use Rattle.runs.specs.OutputWriting.{put as all_put, taken as stream_taken}

pub logged-twice : (first rest : List FileCall) (log : FileLog)
    → logged rest (logged first log) ≡ logged (first ++ rest) log
logged-twice first rest None = refl
logged-twice first rest (Some before) = ap Some (append_assoc before first rest)

logged-none : (log : FileLog) → log ≡ logged [] log
logged-none None = refl
logged-none (Some before) = ap Some (sym (append-nil before))

-- nothing more is done
pub is-done : {log : FileLog} {Is : Course → Type 0} → Is done → Runs log log None Is
is-done {log} is = record { course = done; log = logged-none log; fault_is = refl; is = is }

pub is-fault : {log : FileLog} {why : OutputFault} {Is : Course → Type 0} → Is (fails why) → Runs log log (Some why) Is
is-fault {log} {why} is = record { course = fails why; log = logged-none log; fault_is = refl; is = is }

-- the same where an allocation failed
pub is-no-memory : {T : Type 0} {log : FileLog} {Is : Course → Type 0} (result : Result T OutputFault)
    → IsErrAnd result (λ fault. fault ≡ OutOfMemory) → Is (fails OutOfMemory) → Runs log log (fault_in result) Is
is-no-memory (Ok _) is so = absurd is
is-no-memory (Err fault) is so = rw (is) (is-fault so)

-- after one call comes the rest
pub after-call : {before mid end : FileLog} {fault : Option OutputFault} {Is : Course → Type 0} (call : FileCall)
    → mid ≡ logged (call ∷ []) before → Runs mid end fault (λ rest. Is (call ▸ rest)) → Runs before end fault Is
after-call {before} call began rest = record {
  course = call ▸ rest.course;
  log = rest.log ∙ ap (logged (calls_of rest.course)) began ∙ logged-twice (call ∷ []) (calls_of rest.course) before;
  fault_is = rest.fault_is;
  is = rest.is;
}

-- what a callee does is done for its caller
pub done-for : {before end : FileLog} {fault : Option OutputFault} {P Q : Course → Type 0}
    → ((course : Course) → P course → Q course)
    → Runs before end fault P → Runs before end fault Q
done-for for it = record { course = it.course; log = it.log; fault_is = it.fault_is; is = for it.course it.is }

-- a new file is finished once it has its rights
pub after-rights : {output : List ℕ} {new : NewFile} {old : Rights} (owner : Option Owner) {bits : ℕ}
    {before owned kept end : FileLog} {fault : Option OutputFault}
    → owned ≡ logged (sets_owner old.owner owner ∷ []) before → bits ≡ kept_mode old owner
    → kept ≡ logged (sets_mode bits true ∷ []) owned → Runs kept end fault (Finishes output new)
    → Runs before end fault (Fills output new (Some old))
after-rights owner first bits-is second rest =
    after-call _ first (after-call _ (rw bits-is at second) (done-for (λ course are. with_rights are) rest))

-- what was put into a file that is closed then, and whether the system took all that was written
pub put-closed : {T : Type 0} (result : Result T ToolFault) (closed : Bool) {output : List ℕ}
    {before after : Option (List ℕ)} {old new : ℕ}
    → old ≡ 0 → OnOk result (Appends before after output) → OnErr result (AppendsPrefix before after output)
    → OnOk result (new ≡ old) → OnErr result (new ≡ old + 1)
    → Closes output before (closes after new closed) (closed && is_ok result)
put-closed (Ok _) true none all part same more = rw (same, none) (whole all)
put-closed (Ok _) false none all part same more = rw (same, none) (late all)
put-closed (Err _) true none all part same more = rw (more, none) (cut part)
put-closed (Err _) false none all part same more = rw (more, none) (cut part)

module _ {output path : List ℕ} {old : Option Rights} {tries bits : ℕ} (number : ℕ) {before tried end : FileLog}
    {fault : Option OutputFault} where
  -- a new file is filled once it is made
  pub after-made : {new filled : List ℕ} {its : Option (List ℕ)} → number < 2 ^ 32 → new ≡ beside path number
      → filled ≡ beside path number → bits ≡ first_mode old → tried ≡ logged (makes new bits its ∷ []) before
      → Runs tried end fault (Fills output (record { path = filled; target = path; made = its }) old)
      → Runs before end fault (λ rest. Replaces output path old tries (numbers number ▸ rest))
  after-made {its} few new-is filled-is bits-is makes-it fills =
      after-call (makes (beside path number) (first_mode old) its) (rw (new-is, bits-is) at makes-it)
      (done-for (λ course are. made few are) (rw filled-is at fills))

  -- another name is tried where one is taken
  pub after-taken : (less other : ℕ) {new : List ℕ} {named : FileLog} → less + 1 ≡ tries → new ≡ beside path number
      → bits ≡ first_mode old → tried ≡ logged (fails_to_make new bits Exists ∷ []) before
      → named ≡ logged (numbers other ∷ []) tried
      → Runs named end fault (λ rest. Replaces output path old less (numbers other ▸ rest))
      → Runs before end fault (λ rest. Replaces output path old tries (numbers number ▸ rest))
  after-taken less other more new-is bits-is fails-it next rest =
      subst (λ n. Runs before end fault (λ rest. Replaces output path old n (numbers number ▸ rest))) more
      (after-call (fails_to_make (beside path number) (first_mode old) Exists) (rw (new-is, bits-is) at fails-it)
      (done-for (λ course are. taken are) (after-call (numbers other) next rest)))

  -- none can be made
  pub after-unmade : {new : List ℕ} (why : MakeFault) → new ≡ beside path number → bits ≡ first_mode old
      → tried ≡ logged (fails_to_make new bits why ∷ []) before
      → Runs tried end fault (λ rest.
      Replaces output path old tries
      (numbers number ▸ fails_to_make (beside path number) (first_mode old) why ▸ rest))
      → Runs before end fault (λ rest. Replaces output path old tries (numbers number ▸ rest))
  after-unmade why new-is bits-is fails-it rest =
      after-call (fails_to_make (beside path number) (first_mode old) why) (rw (new-is, bits-is) at fails-it) rest

-- what a link leads to is written next
pub after-link : (old : Option Rights) {output path text copy target : List ℕ} {links less : ℕ}
    {before asked read end : FileLog} {fault : Option OutputFault}
    → NamesNoStream path → less + 1 ≡ links → copy ≡ text → target ≡ link_target path copy
    → asked ≡ logged (asks path (Regular old) ∷ []) before → read ≡ logged (reads_link path (Some text) ∷ []) asked
    → Runs read end fault (WritesFile output less target)
    → Runs before end fault (WritesFile output links path)
after-link old {output} {path} {text} {less} {before} {end} {fault} none more copy-is target-is first second rest =
    subst (λ n. Runs before end fault (WritesFile output n path)) more
    (after-call (asks path (Regular old)) first
    (after-call (reads_link path (Some text)) second
    (done-for (λ course are.
    follows none (subst (λ p. WritesFile output less p course) (target-is ∙ ap (link_target path) copy-is) are))
    rest)))

-- What the calls by which an output is made come to, one by one.

pub same_or_other : (p q : List ℕ) → (p ≡ q) ⊎ (p ≢ q)
same_or_other p q = elim (cases_Bool (bytes_eq p q)) [
  | inl e ↦ inl ((bytes_eq-Decides p q).0 e)
  | inr e ↦ inr (λ same. absurd (grind (arith, sym e ∙ (bytes_eq-Decides p q).1 same)))
]

pub put_there : (path : List ℕ) (state : PathState) (at : List ℕ → PathState) {p : List ℕ} → p ≡ path
    → put path state at p ≡ state
put_there path state at {p} is = cond-true (bytes_eq p path) state (at p) ((bytes_eq-Decides p path).1 is)

pub put_elsewhere : (path : List ℕ) (state : PathState) (at : List ℕ → PathState) {p : List ℕ} → p ≢ path
    → put path state at p ≡ at p
put_elsewhere path state at {p} other = elim (cases_Bool (bytes_eq p path)) [
  | inl e ↦ absurd (other ((bytes_eq-Decides p path).0 e))
  | inr e ↦ cond-false (bytes_eq p path) state (at p) e
]

pub no_fault : {X : Type 0} {why : OutputFault} → Some why ≡ None → X
no_fault e = absurd (grind (arith, e))

pub no_file : {X : Type 0} {number : ℕ} {path : List ℕ} → stream_of number ≡ file_at path → X
no_file e = absurd cc

pub same_path : {p q : List ℕ} → file_at p ≡ file_at q → p ≡ q
same_path e = cc

-- what an empty file holds that took all of an output
pub taken_all : {output : List ℕ} {before : Option (List ℕ)} (after : Option (List ℕ)) → Appends before after output
    → before ≡ Some []
    → after ≡ Some output
taken_all {output} None all empty = absurd (subst (λ b. Appends b None output) empty all)
taken_all {output} (Some bytes) all empty = ap Some (subst (λ b. Appends b (Some bytes) output) empty all)

-- other bytes leave a file its rights
pub same_rights : (bytes : Option (List ℕ)) (state : PathState) {mode : ℕ} {owner : Option Owner}
    → HasRights (with_bytes bytes state) mode owner
    → HasRights state mode owner
same_rights bytes nothing has = let e = has.1 in absurd cc
same_rights bytes (link text) has = let e = has.1 in absurd cc
same_rights bytes (file its mode owner) has = let e = has.1 in (its, cc)

pub as_it_was : {output : List ℕ} {to : Destination} (before now : Files)
    → ((path : List ℕ) → now.at path ≡ before.at path)
    → IsWholeOrAsItWas output to before now
as_it_was before now same path = inl (same path)

pub nothing_given : {to : Destination} (before now : Files) → ((path : List ℕ) → now.at path ≡ before.at path)
    → GivesNothingAway to before now
nothing_given before now same path mode owner has = inl (subst (λ s. HasRights s mode owner) (same path) has)

-- what these calls come to from now on, where it was otherwise before
pub record Ends (output : List ℕ) (to : Destination) (before : Files) (course : Course) (now : Files) : Type 0 where
  pub whole_or_as_it_was : Each IsNotOpening course → Always (IsWholeOrAsItWas output to before) course now
  pub nothing_given_away : Always (GivesNothingAway to before) course now
  pub success : fault_of course ≡ None → HasAll output to before (after course now)
  pub mode : (target : List ℕ) → to ≡ file_at target → fault_of course ≡ None → Each IsNotOpening course
      → KeepsMode (before.at target) ((after course now).at target)
  pub fault : Each IsNotOpening course → fault_of course ≢ None → (path : List ℕ)
      → (after course now).at path ≡ before.at path
  pub other_paths : (path : List ℕ) → to ≢ file_at path → (after course now).at path ≡ before.at path
  pub other_streams : (number : ℕ) → to ≢ stream_of number → (after course now).streams number ≡ before.streams number

module _ {output : List ℕ} {to : Destination} {before : Files} where
  -- one call, and then the rest
  pub next : {rest : Course} (call : FileCall) {now : Files} → IsWholeOrAsItWas output to before now
      → GivesNothingAway to before now
      → Ends output to before rest (after_call call now) → Ends output to before (call ▸ rest) now
  next call was gave it = record {
    whole_or_as_it_was = λ no. (was, it.whole_or_as_it_was no.1);
    nothing_given_away = (gave, it.nothing_given_away);
    success = it.success;
    mode = λ target is fine no. it.mode target is fine no.1;
    fault = λ no bad. it.fault no.1 bad;
    other_paths = it.other_paths;
    other_streams = it.other_streams;
  }

  -- a fault, where all is as it was
  pub stopped : (why : OutputFault) {now : Files} → ((path : List ℕ) → now.at path ≡ before.at path)
      → ((number : ℕ) → now.streams number ≡ before.streams number) → Ends output to before (fails why) now
  stopped why {now} same streams = record {
    whole_or_as_it_was = λ no. as_it_was before now same;
    nothing_given_away = nothing_given before now same;
    success = λ fine. no_fault fine;
    mode = λ target is fine no. no_fault fine;
    fault = λ no bad. same;
    other_paths = λ path other. same path;
    other_streams = λ number other. streams number;
  }

-- a call that changes nothing comes first
pub idle : {output : List ℕ} {to : Destination} {files : Files} {rest : Course} (call : FileCall)
    → after_call call files ≡ files → Ends output to files rest files → Ends output to files (call ▸ rest) files
idle {output} {to} {files} {rest} call same it =
    next call (as_it_was files files (λ path. refl)) (nothing_given files files (λ path. refl))
    (subst (Ends output to files rest) (sym same) it)

pub stop : {output : List ℕ} {to : Destination} {files : Files} (why : OutputFault)
    → Ends output to files (fails why) files
stop why = stopped why (λ path. refl) (λ number. refl)

-- What an output comes to that is written in place, or to an open stream.

-- the target is written in place
module _ {target : List ℕ} (files : Files) {mode : ℕ} {owner : Option Owner}
    (has : HasRights (files.at target) mode owner) where
  opened_at : List ℕ → PathState
  opened_at = put target (with_bytes None (files.at target)) files.at

  closed_at : Option (List ℕ) → List ℕ → PathState
  closed_at bytes = put target (with_bytes bytes (opened_at target)) opened_at

  opened_state : Files
  opened_state = record { at = opened_at; streams = files.streams; opened = file_at target }

  closed_state : Option (List ℕ) → Files
  closed_state bytes = record { at = closed_at bytes; streams = files.streams; opened = file_at target }

  opened_there : opened_at target ≡ file None mode owner
  unfolding opened_at
  opened_there = put_there target (with_bytes None (files.at target)) files.at refl ∙ ap (with_bytes None) has.1

  closed_there : (bytes : Option (List ℕ)) → closed_at bytes target ≡ file bytes mode owner
  unfolding closed_at
  closed_there bytes = put_there target (with_bytes bytes (opened_at target)) opened_at refl
      ∙ ap (with_bytes bytes) opened_there

  closed_elsewhere : (bytes : Option (List ℕ)) (path : List ℕ) → file_at target ≢ file_at path
      → closed_at bytes path ≡ files.at path
  unfolding closed_at opened_at
  closed_elsewhere bytes path other =
      let is : path ≢ target = λ same. other (ap file_at (sym same)) in
      put_elsewhere target (with_bytes bytes (opened_at target)) opened_at is
      ∙ put_elsewhere target (with_bytes None (files.at target)) files.at is

  rights_stay : (bytes : Option (List ℕ)) (at : List ℕ → PathState)
      → ((p : List ℕ) (m : ℕ) (o : Option Owner) → HasRights (at p) m o → HasRights (files.at p) m o)
      → (p : List ℕ) (m : ℕ) (o : Option Owner) → HasRights (put target (with_bytes bytes (at target)) at p) m o
      → HasRights (files.at p) m o
  rights_stay bytes at stay p m o now = elim (same_or_other p target) [
    | inl is ↦
        let there : HasRights (at target) m o =
        same_rights bytes (at target)
        (subst (λ s. HasRights s m o) (put_there target (with_bytes bytes (at target)) at is) now) in
        stay p m o (subst (λ q. HasRights (at q) m o) (sym is) there)
    | inr other ↦ stay p m o
        (subst (λ s. HasRights s m o) (put_elsewhere target (with_bytes bytes (at target)) at other) now)
  ]

  opened_rights : (p : List ℕ) (m : ℕ) (o : Option Owner) → HasRights (opened_at p) m o → HasRights (files.at p) m o
  unfolding opened_at
  opened_rights = rights_stay None files.at (λ p m o now. now)

  closed_rights : (bytes : Option (List ℕ)) (p : List ℕ) (m : ℕ) (o : Option Owner) → HasRights (closed_at bytes p) m o
      → HasRights (files.at p) m o
  unfolding closed_at
  closed_rights bytes = rights_stay bytes opened_at opened_rights

  -- after that nothing is given away
  given : (bytes : Option (List ℕ)) → GivesNothingAway (file_at target) files files
      × (GivesNothingAway (file_at target) files opened_state
      × GivesNothingAway (file_at target) files (closed_state bytes))
  unfolding opened_state closed_state
  given bytes = (
    λ p m o now. inl now,
    (λ p m o now. inl (opened_rights p m o now), λ p m o now. inl (closed_rights bytes p m o now)),
  )

  put_in_place : {output : List ℕ} {before : Option (List ℕ)} {rest : Course} → Puts output before rest
      → before ≡ Some []
      → Ends output (file_at target) files (opens target before ▸ rest) files
  unfolding opened_state closed_state opened_at closed_at
  put_in_place (all_put (whole {after = bytes} all)) empty = record {
    whole_or_as_it_was = λ no. absurd no.0;
    nothing_given_away = given bytes;
    success = λ fine. (mode, owner, closed_there bytes ∙ ap (λ b. file b mode owner) (taken_all bytes all empty));
    mode = λ to is fine no. absurd no.0;
    fault = λ no bad. absurd no.0;
    other_paths = closed_elsewhere bytes;
    other_streams = λ number other. refl;
  }
  put_in_place (unput (cut all)) empty = record {
    whole_or_as_it_was = λ no. absurd no.0;
    nothing_given_away = given None;
    success = λ fine. no_fault fine;
    mode = λ to is fine no. absurd no.0;
    fault = λ no bad. absurd no.0;
    other_paths = closed_elsewhere None;
    other_streams = λ number other. refl;
  }
  put_in_place (unput (late all)) empty = record {
    whole_or_as_it_was = λ no. absurd no.0;
    nothing_given_away = given None;
    success = λ fine. no_fault fine;
    mode = λ to is fine no. absurd no.0;
    fault = λ no bad. absurd no.0;
    other_paths = closed_elsewhere None;
    other_streams = λ number other. refl;
  }

pub writes_in_place : {output target : List ℕ} {course : Course} (files : Files) → GivesAll course files
    → WritesInPlace output target course → Ends output (file_at target) files course files
writes_in_place {target} files gives unopened = idle (fails_to_open target) refl (stop CannotCreate)
writes_in_place files gives (opened puts) = put_in_place files gives.0.0.2 puts gives.0.1

-- an open stream is written
module _ (files : Files) (number : ℕ) where
  other_stream : (bytes : Option (List ℕ)) (n : ℕ) → stream_of number ≢ stream_of n
      → put_stream number bytes files.streams n ≡ files.streams n
  other_stream bytes n other =
      cond-false (n == number) bytes (files.streams n) (ne_eqb n number (λ same. other (ap stream_of (sym same))))

  this_stream : (bytes : Option (List ℕ)) → put_stream number bytes files.streams number ≡ bytes
  this_stream bytes = cond-true (number == number) bytes (files.streams number) (eq-eqb number number refl)

  put_in_stream : {output : List ℕ} {before : Option (List ℕ)} {rest : Course} → Puts output before rest
      → before ≡ files.streams number
      → Ends output (stream_of number) files (takes_stream number before ▸ rest) files
  put_in_stream {output} {before} (all_put (whole {after = bytes} all)) was = record {
    whole_or_as_it_was = λ no. (λ path. inl refl, (λ path. inl refl, λ path. inl refl));
    nothing_given_away = (λ p m o now. inl now, (λ p m o now. inl now, λ p m o now. inl now));
    success = λ fine.
        let now : List ℕ → Type 0 = λ b. Appends before (put_stream number bytes files.streams number) b in
        let taken_now : now output = subst (λ b. Appends before b output) (sym (this_stream bytes)) all in
        subst (λ b. Appends b (put_stream number bytes files.streams number) output) was taken_now;
    mode = λ to is fine no. no_file is;
    fault = λ no bad path. refl;
    other_paths = λ path other. refl;
    other_streams = other_stream bytes;
  }
  put_in_stream (unput (cut all)) was = record {
    whole_or_as_it_was = λ no. (λ path. inl refl, (λ path. inl refl, λ path. inl refl));
    nothing_given_away = (λ p m o now. inl now, (λ p m o now. inl now, λ p m o now. inl now));
    success = λ fine. no_fault fine;
    mode = λ to is fine no. no_file is;
    fault = λ no bad path. refl;
    other_paths = λ path other. refl;
    other_streams = other_stream None;
  }
  put_in_stream (unput (late all)) was = record {
    whole_or_as_it_was = λ no. (λ path. inl refl, (λ path. inl refl, λ path. inl refl));
    nothing_given_away = (λ p m o now. inl now, (λ p m o now. inl now, λ p m o now. inl now));
    success = λ fine. no_fault fine;
    mode = λ to is fine no. no_file is;
    fault = λ no bad path. refl;
    other_paths = λ path other. refl;
    other_streams = other_stream None;
  }

pub writes_stream : {output : List ℕ} {number : ℕ} {course : Course} (files : Files) → GivesAll course files
    → WritesStream output number course → Ends output (stream_of number) files course files
writes_stream {number} files gives lacking = idle (lacks_stream number) refl (stop CannotCreate)
writes_stream {number} files gives (stream_taken puts) = put_in_stream files number puts gives.0
