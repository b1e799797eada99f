-- What writing a run leaves in a known system.
use Rattle.known_system.proofs.Prelude.{Contents, Err, Folder, Holds, IsFileFault, Leaves, Left, Links, List, MakesFile, None, Ok, Option, OutputFault, OutputIs, Place, Result, RunView, Some, SystemView, Takes, WriterView, Writes, WritesRun, ap, arith, calls_of, contents, filed, folder, inl, inr, kept, left, link_limit, logged, nothing, option_and_then, output_fault_text, output_file, printed, program_text, refl, replay, subst, sym, whole, writer, ℕ, ◌++◌, ◌+◌, ◌∙◌, ◌≡◌}
use Rattle.std.specs.Io.KnownBytes.{Appends}
use Rattle.runs.specs.OutputSystem.{cut, delivered, made, to_file, unmade, unreported}
use Rattle.runs.specs.ToolRuns.{unwritten, written}
use Rattle.runs.specs.declared.output_files.OutputFault.TheVariants.{CannotCreate, OutOfMemory, WriteFault}
use Rattle.runs.specs.declared.program_fault.ProgramFault.{ProgramFault}
use Rattle.known_system.proofs.Calls.{left_by, replay_all}

fault_is : (argument : List ℕ) (why : OutputFault) → IsFileFault argument (output_fault_text argument why)
fault_is argument CannotCreate = inr (inl refl)
fault_is argument WriteFault = inr (inr refl)
fault_is argument OutOfMemory = inl refl

never : (n m : ℕ) → n ≡ m + 1 → n ≡ 0 → ⊥
never n m p q = omega (arith, p, q)

-- a writer took these bytes
told : (before after : WriterView) (old new bytes : List ℕ) → before ≡ writer (Some old) 0 → after ≡ writer (Some new) 0
    → Takes before after bytes → new ≡ old ++ bytes
told before after old new bytes was is takes =
    let b : before.bytes ≡ Some old = ap (λ (v : WriterView). v.bytes) was in
    let a : after.bytes ≡ Some new = ap (λ (v : WriterView). v.bytes) is in
    let e : Appends (Some old) (Some new) bytes =
    subst (λ x. Appends x (Some new) bytes) b (subst (λ x. Appends before.bytes x bytes) a takes.all) in e

same_writer : (before after : WriterView) (old new : List ℕ) → before ≡ writer (Some old) 0
    → after ≡ writer (Some new) 0
    → after ≡ before → new ≡ old
same_writer before after old new was is same =
    let e : Some new ≡ Some old = ap (λ (v : WriterView). v.bytes) (sym is ∙ same ∙ was) in cc

alike : {l l' : Links} {h h' : Place} {o o' e e' : List ℕ} → l ≡ l' → h ≡ h' → o ≡ o' → e ≡ e'
    → contents l h o e ≡ contents l' h' o' e'
alike l h o e = rw (l, h, o, e) refl

module _ {before after : SystemView} {old new : Contents} (was : Holds before old) (is : Holds after new) where
  same_folder : after.files ≡ before.files → folder new.links new.held is.fresh ≡ folder old.links old.held was.fresh
  same_folder same =
      let d : Some is.calls ≡ Some was.calls = sym is.files_are ∙ same ∙ was.files_are in
      let e : is.calls ≡ was.calls = cc in
      let f : Some (folder new.links new.held is.fresh) ≡ Some (folder old.links old.held was.fresh) =
      sym is.held_is ∙ ap (λ c. replay c nothing) e ∙ was.held_is in cc

  same_links : after.files ≡ before.files → new.links ≡ old.links
  same_links same = ap (λ (f : Folder). f.links) (same_folder same)

  same_files : after.files ≡ before.files → new.held ≡ old.held
  same_files same = ap (λ (f : Folder). f.held) (same_folder same)

  same_out : after.out ≡ before.out → new.out ≡ old.out
  same_out = same_writer before.out after.out old.out new.out was.out_is is.out_is

  same_err : after.err ≡ before.err → new.err ≡ old.err
  same_err = same_writer before.err after.err old.err new.err was.err_is is.err_is

  all_same : new.links ≡ old.links → new.held ≡ old.held → new.out ≡ old.out → new.err ≡ old.err → new ≡ old
  all_same l h o e = alike l h o e

  quiet_out : after.out.failures ≡ 0
  quiet_out = ap (λ (v : WriterView). v.failures) is.out_is

  quiet_err : after.err.failures ≡ 0
  quiet_err = ap (λ (v : WriterView). v.failures) is.err_is

  file_left : (run : RunView) (path : List ℕ) {why : Option OutputFault} → OutputIs run path before after why
      → Left run.output link_limit path old.links old.held (folder new.links new.held is.fresh) why
  file_left run path output =
      let more = calls_of output.course in
      let e : Some is.calls ≡ Some (was.calls ++ more) =
      sym is.files_are ∙ output.log ∙ ap (logged more) was.files_are in
      let f : is.calls ≡ was.calls ++ more = cc in
      let g : option_and_then (replay more) (Some (folder old.links old.held was.fresh))
      ≡ Some (folder new.links new.held is.fresh) =
      sym (replay_all was.calls more nothing ∙ ap (option_and_then (replay more)) was.held_is)
      ∙ ap (λ c. replay c nothing) (sym f) ∙ is.held_is in
      subst (Left run.output link_limit path old.links old.held (folder new.links new.held is.fresh))
      (sym output.fault_is) (left_by was.fresh (folder new.links new.held is.fresh) output.is g)

  makes_by : (run : RunView) (argument : List ℕ) {path : List ℕ} → output_file run argument ≡ Some path
      → new.out ≡ old.out → new.err ≡ old.err ++ run.messages
      → Left run.output link_limit path old.links old.held (folder new.links new.held is.fresh) None
      → Leaves run argument old new (Ok run.status)
  makes_by run argument names out err (whole leads free at links) = filed names leads free at links out err

  makes : (run : RunView) (argument : List ℕ) {path : List ℕ} → output_file run argument ≡ Some path
      → new.out ≡ old.out → MakesFile run path before after None → Leaves run argument old new (Ok run.status)
  makes run argument {path} names out (made output messages) =
      makes_by run argument names out
      (told before.err after.err old.err new.err run.messages was.err_is is.err_is messages) (file_left run path output)

  kept_by : {output path : List ℕ} {why : OutputFault} → new.out ≡ old.out → new.err ≡ old.err
      → Left output link_limit path old.links old.held (folder new.links new.held is.fresh) (Some why) → new ≡ old
  kept_by out err (kept same links) = all_same links same out err

  makes_none : (run : RunView) (path : List ℕ) {why : OutputFault} → new.out ≡ old.out
      → MakesFile run path before after (Some why) → new ≡ old
  makes_none run path out (unreported output messages) = absurd (never _ _ messages.failure quiet_err)
  makes_none run path out (unmade output same) = kept_by out (same_err same) (file_left run path output)

  written_leaves : (run : RunView) (argument : List ℕ) (file : Option (List ℕ)) → output_file run argument ≡ file
      → WritesRun run before after file None → Leaves run argument old new (Ok run.status)
  written_leaves run argument None names (delivered same output messages) =
      printed names (same_links same) (same_files same)
      (told before.out after.out old.out new.out run.output was.out_is is.out_is output)
      (told before.err after.err old.err new.err run.messages was.err_is is.err_is messages)
  written_leaves run argument (Some path) names (to_file same file_made) =
      makes run argument names (same_out same) file_made

  unwritten_leaves : (run : RunView) (argument : List ℕ) (file : Option (List ℕ)) → output_file run argument ≡ file
      → {why : OutputFault} → WritesRun run before after file (Some why) → {fault : ProgramFault}
      → IsFileFault argument (program_text fault) → Leaves run argument old new (Err fault)
  unwritten_leaves run argument None names (cut same part) wrong =
      absurd (never _ _ part.failure (rw (quiet_out, quiet_err) refl))
  unwritten_leaves run argument (Some path) names (to_file same file_made) wrong =
      left names wrong (makes_none run path (same_out same) file_made)

  pub leaves : (run : RunView) (argument : List ℕ) {result : Result ℕ ProgramFault}
      → Writes run argument before after result → Leaves run argument old new result
  leaves run argument (written writes) = written_leaves run argument _ refl writes
  leaves run argument (unwritten fault) =
      unwritten_leaves run argument _ refl fault.writes
      (subst (IsFileFault argument) (sym fault.text_is) (fault_is argument fault.why))
