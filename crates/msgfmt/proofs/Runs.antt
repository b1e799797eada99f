-- A run of msgfmt, by the way in which it ends.
use Rattle.msgfmt.proofs.Prelude.{AreCollected, AreWrong, Bool, HaveNoRun, IsCompilation, IsCompileFault, IsMsgfmtRun, IsRefused, IsRunOf, List, LiveMessage, MsgfmtOptions, NamedFile, None, NoneRefused, Option, ProgramFault, ReadsText, RunView, Some, ap, arith, compile_options, false, inl, input_texts, inr, joined_entries, length, length-map, live_messages, option_map, program_text, refl, subst, sym, true, ⊎_elim, ◌∙◌, ◌≡◌, ◌≢◌, ◌⊎◌}
use Rattle.std.proofs.lemmas.Slice.Zip.{AllZip-long}
use Rattle.po_compile.specs.declared.options.Options.{Options}
use Rattle.runs.specs.declared.program_fault.ProgramFault.TheVariants.{OutOfMemory, WrongArguments}

-- each input is collected
pub collected-count : (use_fuzzy : Bool) (inputs : List NamedFile) (collected : List (List LiveMessage))
    → AreCollected use_fuzzy (input_texts inputs) collected → length collected ≡ length inputs
collected-count use_fuzzy inputs collected of =
    ap length of.held.messages ∙ length-map of.catalogues (live_messages use_fuzzy)
    ∙ AllZip-long ReadsText (input_texts inputs) of.catalogues of.read ∙ length-map inputs (λ file. file.bytes)

-- where no check is asked for, a run of status 0 is that of inputs that are compiled
pub taken : (inputs : List NamedFile) (o unchecked : MsgfmtOptions) (run : RunView) → unchecked.profile_check ≡ false
    → compile_options unchecked ≡ compile_options o
    → IsMsgfmtRun inputs unchecked run → run.status ≡ 0 → NoneRefused inputs o
taken inputs o unchecked run none same (inl refused) ok = let one : run.status ≡ 1 =
    ap (λ r. r.status) refused.run_is in absurd (omega (arith, one, ok))
taken inputs o unchecked run none same (inr (inl unfit)) ok = let wrong : true ≡ false = sym unfit.asked ∙ none in cc
taken inputs o unchecked run none same (inr (inr done)) ok =
    let Of : Options → Type 0 = λ options. IsCompilation options (joined_entries done.catalogues) done.compiled in
    inr (
      done.compiled,
      record
          { catalogues = done.catalogues; read = done.read; is_compiled = subst Of same done.is_compiled },
    )

-- and one of any other status is that of inputs that are refused
pub refused : (inputs : List NamedFile) (o unchecked : MsgfmtOptions) (run : RunView) → unchecked.profile_check ≡ false
    → compile_options unchecked ≡ compile_options o
    → IsMsgfmtRun inputs unchecked run → run.status ≢ 0 → IsRefused inputs o run
refused inputs o unchecked run none same (inl reported) bad =
    let Of : Options → Type 0 = λ options. IsCompileFault options (input_texts inputs) reported.error in
    record {
      error = reported.error;
      fault = subst Of same reported.fault;
      not_memory = reported.not_memory;
      run_is =
          reported.run_is;
    }
refused inputs o unchecked run none same (inr (inl unfit)) bad = let wrong : true ≡ false = sym unfit.asked ∙ none in cc
refused inputs o unchecked run none same (inr (inr done)) bad = absurd (bad (ap (λ r. r.status) done.run_is))

pub planned : (inputs : List NamedFile) (o : MsgfmtOptions) (run : RunView) (next : Option ProgramFault)
    → (next ≡ None → IsMsgfmtRun inputs o run) → (next ≢ None → IsRefused inputs o run)
    → (AreWrong inputs next → ⊥) → IsRunOf o inputs (option_map program_text next) run
planned inputs o run None whole refused right =
    ((λ wrong. right (⊎_elim (λ none. inl (none.0, refl)) (λ many. inr many) wrong)), whole refl)
planned inputs o run (Some fault) whole refused right =
    ((λ wrong. right (⊎_elim (λ none. absurd cc) (λ many. inr many) wrong)), refused (λ same. cc))

-- arguments are wrong by what is read alone, and not by what is wrong with the next input
wrong-texts : (inputs : List NamedFile) (next : Option ProgramFault) → AreWrong inputs next
    → AreWrong inputs (option_map program_text next)
wrong-texts inputs next (inl none) = inl (none.0, ap (option_map program_text) none.1)
wrong-texts inputs next (inr many) = inr many

-- why inputs have no run, by what planning them answers
pub no_run : (o : MsgfmtOptions) {inputs : List NamedFile} (next : Option ProgramFault) (reported : ProgramFault)
    → (reported ≡ OutOfMemory) ⊎ ((reported ≡ WrongArguments) × AreWrong inputs next)
    ⊎ ((next ≡ Some reported) × NoneRefused inputs o)
    → (reported ≡ OutOfMemory) ⊎ HaveNoRun o inputs (option_map program_text next) (program_text reported)
no_run o next reported (inl memory) = inl memory
no_run o next reported (inr (inl (wrong, arguments))) = inr (inl (ap program_text wrong, wrong-texts _ next arguments))
no_run o next reported (inr (inr (same, accepted))) = inr (inr (ap (option_map program_text) same, accepted))
