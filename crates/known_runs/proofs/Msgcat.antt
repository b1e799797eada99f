-- What `msgcat a.po b.po -o c.po` comes to.
use Rattle.known_runs.proofs.Prelude.{AreInputs, AreMergeOptions, Asking, Contents, EndsInFile, IsMsgcatRun, IsTextOr, Lacks, Leaves, List, NamedFile, None, Option, ProgramFault, Reading, Result, RunView, RunsMsgcat, Some, SystemView, Writes, [], all_messages, ap, arith, bytes_at, codes, done, end, false, false≢true, gives, has_none, inl, inr, is_some, no_memory_to_plan, no_memory_to_read, or_zero, program_text, read, refl, refuses, runs, subst, suc, sym, two_files, unread, unwrap_or, zero, ℕ, ◌++◌, ◌∙◌, ◌∷◌, ◌≡◌}
use Rattle.msgcat.specs.Prelude.{HaveNoRun, IsRunOf}
use Rattle.msgcat.specs.declared.input.MergeOptions.{MergeOptions}
use Rattle.known_runs.specs.Prelude.{named}
use Rattle.known_runs.proofs.CommandRuns.{fails, run_ends}

-- the inputs are the two files
module _ (a b : List ℕ) (file : List ℕ → Reading → Type 0) (standard : Reading → Type 0)
    (is_a : (reading : Reading) → file (codes "a.po") reading → reading ≡ gives a)
    (is_b : (reading : Reading) → file (codes "b.po") reading → reading ≡ gives b) where
  second : {inputs : List NamedFile} {fault : Option (List ℕ)}
      → AreInputs file standard false (codes "b.po" ∷ []) inputs fault
      → (inputs ≡ record { name = codes "b.po"; bytes = b } ∷ []) × (fault ≡ None)
  second (read {bytes} reads done) =
      let e : gives bytes ≡ gives b = is_b _ reads in
      let same : bytes ≡ b = cc in (ap (λ t. record { name = codes "b.po"; bytes = t } ∷ []) same, refl)
  second (unread why reads) = let e : refuses why ≡ gives b = is_b _ reads in cc

  inputs_are : {inputs : List NamedFile} {fault : Option (List ℕ)}
      → AreInputs file standard false (codes "a.po" ∷ codes "b.po" ∷ []) inputs fault
      → (inputs ≡ two_files a b) × (fault ≡ None)
  inputs_are (read {bytes} {inputs} reads others) =
      let e : gives bytes ≡ gives a = is_a _ reads in
      let same : bytes ≡ a = cc in
      let rest = second others in (rw (same, rest.0) refl, rest.1)
  inputs_are (unread why reads) = let e : refuses why ≡ gives a = is_a _ reads in cc

-- neither name has a NUL
a_lacks : Lacks 0 (codes "a.po")
a_lacks zero d below is = cc
a_lacks (suc zero) d below is = cc
a_lacks (suc (suc zero)) d below is = cc
a_lacks (suc (suc (suc zero))) d below is = cc
a_lacks (suc (suc (suc (suc k)))) d below is = omega (arith, below)

b_lacks : Lacks 0 (codes "b.po")
b_lacks zero d below is = cc
b_lacks (suc zero) d below is = cc
b_lacks (suc (suc zero)) d below is = cc
b_lacks (suc (suc (suc zero))) d below is = cc
b_lacks (suc (suc (suc (suc k)))) d below is = omega (arith, below)

none_has_nul : (a b : List ℕ) (before : List NamedFile) (file : NamedFile) (after : List NamedFile)
    → two_files a b ≡ before ++ file ∷ after → Lacks 0 file.name
none_has_nul a b [] file after is =
    let e : file ≡ named (codes "a.po") a = cc in subst (λ (f : NamedFile). Lacks 0 f.name) (sym e) a_lacks
none_has_nul a b (first ∷ []) file after is =
    let e : file ≡ named (codes "b.po") b = cc in subst (λ (f : NamedFile). Lacks 0 f.name) (sym e) b_lacks
none_has_nul a b (first ∷ second ∷ []) file after is = cc
none_has_nul a b (first ∷ second ∷ third ∷ before) file after is = cc

-- files that were read have a run
run_there : (a b says : List ℕ) → HaveNoRun (two_files a b) None says → ⊥
run_there a b says (inl nul) = nul.nul (none_has_nul a b nul.before nul.file nul.after nul.order)
run_there a b says (inr (other, names, all_read)) = false≢true (ap is_some other)

-- no option merges all messages
options_are : (o : MergeOptions) → AreMergeOptions (λ name flag. flag ≡ false) (λ name n. n ≡ None) o → o ≡ all_messages
options_are o is =
    rw (is.more_than.value_is ∙ ap or_zero is.more_than.given_is, is.less_than, is.unique, is.use_first) refl

module _ (a b : List ℕ) (old new : Contents) (links : old.links ≡ []) (out : old.out ≡ []) (err : old.err ≡ [])
    {before after : SystemView}
    (source : Asking)
    (is_a : (reading : Reading) → source.file (codes "a.po") reading → reading ≡ gives a)
    (is_b : (reading : Reading) → source.file (codes "b.po") reading → reading ≡ gives b)
    (leaves : (run : RunView) (result : Result ℕ ProgramFault) → Writes run (codes "c.po") before after result
    → Leaves run (codes "c.po") old new result)
    (same : after ≡ before → new ≡ old) where
  abbrev Ends : Result ℕ ProgramFault → Type 0
  Ends result =
      EndsInFile (λ run. IsMsgcatRun (two_files a b) all_messages run) (codes "c.po") (bytes_at (codes "c.po") old.held)
      (end result (bytes_at (codes "c.po") new.held) new.out new.err)

  all_end : {result : Result ℕ ProgramFault}
      → RunsMsgcat source all_messages (codes "a.po" ∷ codes "b.po" ∷ []) (codes "c.po") before after result
      → Ends result
  all_end {result} (runs {inputs} {unread} {run} reads planned writes) =
      let these = inputs_are a b source.file source.standard is_a is_b reads.are in
      run_ends _ (codes "c.po") refl old new links out err run
      (subst (λ i. IsMsgcatRun i all_messages run) these.0
      (subst (λ u. IsRunOf all_messages inputs u run) these.1 planned).0)
      (leaves run result writes)
  all_end (has_none {inputs} {unread} {fault} reads none unchanged) =
      let these = inputs_are a b source.file source.standard is_a is_b reads.are in
      absurd (run_there a b (program_text fault)
      (subst (λ i. HaveNoRun i None (program_text fault)) these.0
      (subst (λ u. HaveNoRun inputs u (program_text fault)) these.1 none)))
  all_end (no_memory_to_read asks possible unchanged) =
      fails _ (codes "c.po") refl old new links out err _ (inl refl) (same unchanged)
  all_end (no_memory_to_plan reads nothing_read unchanged) =
      fails _ (codes "c.po") refl old new links out err _ (inl refl) (same unchanged)

  -- by the words of the command line
  pub line_ends : (given : List ℕ → Option (List ℕ)) → given (codes "output-file") ≡ Some (codes "c.po")
      → {o : MergeOptions} → AreMergeOptions (λ name flag. flag ≡ false) (λ name n. n ≡ None) o
      → {arguments : List (List ℕ)} {output : List ℕ} → arguments ≡ codes "a.po" ∷ codes "b.po" ∷ []
      → IsTextOr (λ name t. t ≡ given name) (codes "output-file") (codes "-") output
      → {result : Result ℕ ProgramFault} → RunsMsgcat source o arguments output before after result → Ends result
  line_ends given to {o} are {arguments} {output} files goes {result} ran =
      let there : output ≡ codes "c.po" = goes.value_is ∙ ap (λ t. unwrap_or t (codes "-")) (goes.given_is ∙ to) in
      all_end
      (subst (λ p. RunsMsgcat source p (codes "a.po" ∷ codes "b.po" ∷ []) (codes "c.po") before after result)
      (options_are o are)
      (subst (λ t. RunsMsgcat source o (codes "a.po" ∷ codes "b.po" ∷ []) t before after result) there
      (subst (λ l. RunsMsgcat source o l output before after result) files ran)))
