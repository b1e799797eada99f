-- What `msgfmt a.po -o a.mo` comes to, also where its output may be a link.
use Rattle.known_runs.proofs.Prelude.{AreInputs, AreMsgfmtOptions, Asking, Bool, Compiled, Contents, End, EndsMsgfmt, EndsThroughLinks, Err, HaveNoRun, IsCompilation, IsCompileFault, IsCompiledFrom, IsFileFault, IsMsgfmtRun, IsRunOf, IsTextOr, Leads, Leaves, Links, List, Little, MsgfmtOptions, NamedFile, None, Ok, Option, OutOfMemory, Place, ProgramFault, Reading, Result, RunView, RunsMsgfmt, Some, SystemView, Writes, [], ap, arith, bytes_at, bytes_of, codes, compile_options, compiled, compiled_run, default_output, done, elsewhere, empty, end, false, false≢true, filed, follows, gives, has_none, if◌then◌else◌, inl, inr, is_free, is_some, is_standard, join_line, joined_entries, led, left, length, link_limit, link_target, ltb-false, ltb-true, nat_lt, no_memory_to_plan, no_memory_to_read, not, order_of, output_file, plain, printed, program_text, read, refl, refusal, refused, refuses, runs, subst, suc, sym, there as leads_there, true, unread, unwrap_or, zero, ℕ, ◌&&◌, ◌++◌, ◌∙◌, ◌∷◌, ◌≡◌, ◌≢◌, ◌⊎◌}
use Rattle.known_runs.specs.Msgfmt.{failed}
use Rattle.std.proofs.lemmas.Slice.Eq.{bytes_eq-Decides}
use Rattle.std.specs.Str.{bytes_eq}

-- the only input is the text
module _ (text : List ℕ) (file : List ℕ → Reading → Type 0) (standard : Reading → Type 0)
    (is : (reading : Reading) → file (codes "a.po") reading → reading ≡ gives text) where
  inputs_are : {inputs : List NamedFile} {fault : Option (List ℕ)}
      → AreInputs file standard false (codes "a.po" ∷ []) inputs fault
      → (inputs ≡ record { name = codes "a.po"; bytes = text } ∷ []) × (fault ≡ None)
  inputs_are (read {bytes} reads done) =
      let e : gives bytes ≡ gives text = is _ reads in
      let same : bytes ≡ text = cc in
      (ap (λ b. record { name = codes "a.po"; bytes = b } ∷ []) same, refl)
  inputs_are (unread why reads) = let e : refuses why ≡ gives text = is _ reads in cc

both : {x : Bool} → x ≡ true → x ≡ false → ⊥
both p q = false≢true (sym q ∙ p)

-- an input that was read has a run
run_there : (o : MsgfmtOptions) (text says : List ℕ)
    → HaveNoRun o (record { name = codes "a.po"; bytes = text } ∷ []) None says → ⊥
run_there o text says (inl (wrong, inl none)) = omega (arith, ap length none.0)
run_there o text says (inl (wrong, inr many)) = omega (arith, many)
run_there o text says (inr (other, none)) = false≢true (ap is_some other)

-- the options of a command line without any
pub record ArePlain (o : MsgfmtOptions) : Type 0 where
  pub options : compile_options o ≡ plain
  pub check : o.profile_check ≡ false
  pub statistics : o.statistics ≡ false

-- what the system holds at first, and what it holds at the end
module _ (text place : List ℕ) (old new : Contents)
    (leads_to : (target : List ℕ) → Leads old.links link_limit (codes "a.mo") target → target ≡ place)
    (out : old.out ≡ []) (err : old.err ≡ []) where
  abbrev a_mo : Place → Option (List ℕ)
  a_mo held = bytes_at place held

  abbrev now : Result ℕ ProgramFault → End
  now result = end result (a_mo new.held) new.out new.err

  ends : {result : Result ℕ ProgramFault} (file : Option (List ℕ)) (told : List ℕ) → a_mo new.held ≡ file → new.out ≡ []
      → new.err ≡ told → EndsMsgfmt text (a_mo old.held) (end result file [] told)
      → EndsMsgfmt text (a_mo old.held) (now result)
  ends file told f o e is = rw (f, o, e) is

  same_out : new.out ≡ old.out → new.out ≡ []
  same_out same = same ∙ out

  told : {messages : List ℕ} → new.err ≡ old.err ++ messages → new.err ≡ messages
  told same = same ∙ rw err refl

  fails : (fault : ProgramFault) → IsFileFault (codes "a.mo") (program_text fault) → new ≡ old
      → EndsMsgfmt text (a_mo old.held) (now (Err fault))
  fails fault why same =
      ends (a_mo old.held) [] (ap (λ (c : Contents). a_mo c.held) same) (same_out (ap (λ (c : Contents). c.out) same))
      (ap (λ (c : Contents). c.err) same ∙ err) (failed why)

  -- the text isn't compiled
  refusal_ends : (messages : List ℕ) {result : Result ℕ ProgramFault}
      → EndsMsgfmt text (a_mo old.held) (end (Ok 1) (a_mo old.held) [] messages)
      → Leaves (refusal messages) (codes "a.mo") old new result → EndsMsgfmt text (a_mo old.held) (now result)
  refusal_ends messages is (filed names leads free at stay o e) = cc
  refusal_ends messages is (printed names stay same o e) =
      ends (a_mo old.held) messages (ap a_mo same) (o ∙ rw out refl) (told e) is
  refusal_ends messages is (left {fault} names why same) = fails fault why same

  -- it is
  compiled_ends : (o : MsgfmtOptions) → o.statistics ≡ false → (c : Compiled) (some : Bool) → nat_lt 0 c.n ≡ some
      → IsCompiledFrom text c → {result : Result ℕ ProgramFault}
      → Leaves (compiled_run o c) (codes "a.mo") old new result → EndsMsgfmt text (a_mo old.held) (now result)
  compiled_ends o quiet c some none is (left {fault} names why same) = fails fault why same
  compiled_ends o quiet c false none is (filed names leads free at stay out_is e) =
      let no_output : output_file (compiled_run o c) (codes "a.mo") ≡ None = rw none refl in
      absurd (false≢true (ap is_some (sym no_output ∙ names)))
  compiled_ends o quiet c false none is (printed names stay same out_is e) =
      let nothing : (compiled_run o c).output ≡ [] = rw none refl in
      let silent : (compiled_run o c).messages ≡ [] = rw quiet refl in
      ends (a_mo old.held) [] (ap a_mo same) (out_is ∙ rw (out, nothing) refl) (told e ∙ silent)
      (empty is (omega (arith, ltb-false 0 c.n none)))
  compiled_ends o quiet c true some is (filed {path = p} {target} names leads free at stay out_is e) =
      let its_output : output_file (compiled_run o c) (codes "a.mo") ≡ Some (codes "a.mo") = rw some refl in
      let paths : Some p ≡ Some (codes "a.mo") = sym names ∙ its_output in
      let its_path : p ≡ codes "a.mo" = cc in
      let there : target ≡ place =
      leads_to target (subst (λ q. Leads old.links link_limit q target) its_path leads) in
      let all : (compiled_run o c).output ≡ c.bytes.items = rw some refl in
      let silent : (compiled_run o c).messages ≡ [] = rw quiet refl in
      let held : bytes_at place new.held ≡ Some (compiled_run o c).output =
      subst (λ q. bytes_at q new.held ≡ Some (compiled_run o c).output) there at in
      ends (Some c.bytes.items) [] (held ∙ ap Some all)
      (same_out out_is) (told e ∙ silent) (compiled is (omega (arith, ltb-true 0 c.n some)))
  compiled_ends o quiet c true some is (printed names stay same out_is e) =
      let its_output : output_file (compiled_run o c) (codes "a.mo") ≡ Some (codes "a.mo") = rw some refl in
      absurd (false≢true (ap is_some (sym names ∙ its_output)))

  run_ends : (o : MsgfmtOptions) → ArePlain o → (run : RunView)
      → IsMsgfmtRun (record { name = codes "a.po"; bytes = text } ∷ []) o run
      → {result : Result ℕ ProgramFault} → Leaves run (codes "a.mo") old new result
      → EndsMsgfmt text (a_mo old.held) (now result)
  run_ends o are run (inl r) {result} leaves =
      refusal_ends (join_line (codes "a.po" ∷ []) r.error)
      (refused (subst (λ p. IsCompileFault p (text ∷ []) r.error) are.options r.fault) r.not_memory)
      (subst (λ (v : RunView). Leaves v (codes "a.mo") old new result) r.run_is leaves)
  run_ends o are run (inr (inl r)) leaves = absurd (both r.asked are.check)
  run_ends o are run (inr (inr r)) {result} leaves =
      compiled_ends o are.statistics r.compiled (nat_lt 0 r.compiled.n) refl
      (record {
        catalogues = r.catalogues;
        read = r.read;
        is =
            subst (λ p. IsCompilation p (joined_entries r.catalogues) r.compiled) are.options r.is_compiled;
      })
      (subst (λ (v : RunView). Leaves v (codes "a.mo") old new result) r.run_is leaves)

  module _ {before after : SystemView} (source : Asking)
      (is : (reading : Reading) → source.file (codes "a.po") reading → reading ≡ gives text)
      (leaves : (run : RunView) (result : Result ℕ ProgramFault) → Writes run (codes "a.mo") before after result
      → Leaves run (codes "a.mo") old new result)
      (same : after ≡ before → new ≡ old) where
    all_end : (o : MsgfmtOptions) → ArePlain o → {result : Result ℕ ProgramFault}
        → RunsMsgfmt source o (codes "a.po" ∷ []) (codes "a.mo") before after result
        → EndsMsgfmt text (a_mo old.held) (now result)
    all_end o are {result} (runs {inputs} {unread} {run} reads planned writes) =
        let these = inputs_are text source.file source.standard is reads.are in
        run_ends o are run
        (subst (λ i. IsMsgfmtRun i o run) these.0 (subst (λ u. IsRunOf o inputs u run) these.1 planned).1)
        (leaves run result writes)
    all_end o are (has_none {inputs} {unread} {fault} reads none unchanged) =
        let these = inputs_are text source.file source.standard is reads.are in
        absurd (run_there o text (program_text fault)
        (subst (λ i. HaveNoRun o i None (program_text fault)) these.0
        (subst (λ u. HaveNoRun o inputs u (program_text fault)) these.1 none)))
    all_end o are (no_memory_to_read asks possible unchanged) = fails _ (inl refl) (same unchanged)
    all_end o are (no_memory_to_plan reads nothing_read unchanged) = fails _ (inl refl) (same unchanged)

    -- by the words of the command line
    pub line_ends : (o : MsgfmtOptions) (given : List ℕ → Option (List ℕ)) → given (codes "endianness") ≡ None
        → given (codes "output-file") ≡ Some (codes "a.mo")
        → AreMsgfmtOptions (λ name flag. flag ≡ false) (λ name t. t ≡ given name) o
        → (arguments : List (List ℕ)) (output : List ℕ) → arguments ≡ codes "a.po" ∷ []
        → IsTextOr (λ name t. t ≡ given name) (codes "output-file") default_output output
        → {result : Result ℕ ProgramFault} → RunsMsgfmt source o arguments output before after result
        → EndsMsgfmt text (a_mo old.held) (now result)
    line_ends o given no_order to are arguments output files goes {result} ran =
        let order_is : o.order ≡ Little = are.order.order_is ∙ ap order_of (are.order.name_is ∙ no_order) in
        let options : compile_options o ≡ plain = rw (are.use_fuzzy, order_is) refl in
        let there : output ≡ codes "a.mo" = goes.value_is ∙ ap (λ t. unwrap_or t default_output) (goes.given_is ∙ to) in
        all_end o (record { options = options; check = are.profile_check; statistics = are.statistics })
        (subst (λ t. RunsMsgfmt source o (codes "a.po" ∷ []) t before after result) there
        (subst (λ a. RunsMsgfmt source o a output before after result) files ran))

-- What msgfmt comes to where its output may be a link.

-- a path leads to one place
pub unique : {links : Links} {limit : ℕ} {path a b : List ℕ} → Leads links limit path a → Leads links limit path b
    → a ≡ b
unique (leads_there p) (leads_there q) = refl
unique (leads_there p) (follows q more) = cc
unique (follows p more) (leads_there q) = cc
unique {links} {path = path} {b = b} (follows {limit} {text = t} p more) (follows {text = u} q others) =
    let texts : Some t ≡ Some u = sym p ∙ q in
    let same : u ≡ t = cc in
    unique more (subst (λ v. Leads links limit (link_target path v) b) same others)

-- whether it leads to this one
decides : (a b : List ℕ) (same : Bool) → bytes_eq a b ≡ same → (a ≡ b) ⊎ (a ≢ b)
decides a b true is = inl ((bytes_eq-Decides a b).0 is)
decides a b false is = inr (λ e. let t = (bytes_eq-Decides a b).1 e in cc)

abbrev GoesOrNot : Links → ℕ → List ℕ → List ℕ → Type 0
GoesOrNot links limit path place = Leads links limit path place ⊎ (¬ Leads links limit path place)

no_link : {links : Links} {limit : ℕ} {path place : List ℕ} → bytes_of links path ≡ None
    → (path ≡ place) ⊎ (path ≢ place) → GoesOrNot links limit path place
no_link {links} {limit} {path} none (inl same) = inl (subst (Leads links limit path) same (leads_there none))
no_link none (inr other) = inr (λ leads. other (unique (leads_there none) leads))

too_many : {links : Links} {path place text : List ℕ} → bytes_of links path ≡ Some text
    → ¬ Leads links zero path place
too_many is (leads_there none) = cc

not_on : {links : Links} {limit : ℕ} {path place text : List ℕ} → bytes_of links path ≡ Some text
    → ¬ Leads links limit (link_target path text) place → ¬ Leads links (suc limit) path place
not_on is other (leads_there none) = cc
not_on {links} {path = path} {place = place} {text = t} is other (follows {limit} {text = u} q more) =
    let texts : Some u ≡ Some t = sym q ∙ is in
    let same : u ≡ t = cc in other (subst (λ v. Leads links limit (link_target path v) place) same more)

on : {links : Links} {limit : ℕ} {path place text : List ℕ} → bytes_of links path ≡ Some text
    → GoesOrNot links limit (link_target path text) place → GoesOrNot links (suc limit) path place
on is (inl leads) = inl (follows is leads)
on is (inr other) = inr (not_on is other)

goes : (links : Links) (limit : ℕ) (path place : List ℕ) (o : Option (List ℕ)) → bytes_of links path ≡ o
    → GoesOrNot links limit path place
goes links limit path place None none = no_link none (decides path place _ refl)
goes links zero path place (Some text) is = inr (too_many is)
goes links (suc limit) path place (Some text) is = on is (goes links limit (link_target path text) place _ refl)

not_there : (path bytes place : List ℕ) (b : Bool) → bytes_eq path place ≡ b → path ≢ place
    → bytes_at place (Some (path, bytes)) ≡ None
not_there path bytes place true is other = absurd (other ((bytes_eq-Decides path place).0 is))
not_there path bytes place false is other = rw is refl

-- where the output has gone elsewhere, nothing was and is at the place
none_there : (held : Place) (target place : List ℕ) → target ≢ place → is_free held target ≡ true
    → bytes_at place held ≡ None
none_there None target place other free = refl
none_there (Some file) target place other free =
    let at : file.0 ≡ target = (bytes_eq-Decides file.0 target).0 free in
    not_there file.0 file.1 place _ refl (λ same. other (sym at ∙ same))

at_by : (bytes : List ℕ) {all : List ℕ} (b : Bool) → (if b then Some bytes else None) ≡ Some all → b ≡ true
at_by bytes true is = refl
at_by bytes false is = cc

free_by : (held : Place) (target : List ℕ) {bytes : List ℕ} → bytes_at target held ≡ Some bytes
    → is_free held target ≡ true
free_by None target is = cc
free_by (Some file) target is = at_by file.1 (bytes_eq file.0 target) is

by_create : {path : List ℕ} (create : Bool)
    → (if create && not (is_standard (codes "a.mo")) then Some (codes "a.mo") else None) ≡ Some path
    → path ≡ codes "a.mo"
by_create true names = cc
by_create false names = cc

-- a run that is written to a file is written to the one that is named
named : (run : RunView) {path : List ℕ} → output_file run (codes "a.mo") ≡ Some path → path ≡ codes "a.mo"
named run names = by_create run.create names

module _ (place : List ℕ) (old new : Contents) (not_this : ¬ Leads old.links link_limit (codes "a.mo") place) where
  abbrev Kept : Type 0
  Kept = bytes_at place new.held ≡ bytes_at place old.held

  kept : {run : RunView} {result : Result ℕ ProgramFault} → Leaves run (codes "a.mo") old new result → Kept
  kept {run} (filed {path} {target} names leads free at stay o e) =
      let its_path : path ≡ codes "a.mo" = named run names in
      let other : target ≢ place =
      λ same. not_this (subst (λ p. Leads old.links link_limit p place) its_path
      (subst (Leads old.links link_limit path) same leads)) in
      none_there new.held target place other (free_by new.held target at)
      ∙ sym (none_there old.held target place other free)
  kept (printed names stay same o e) = ap (bytes_at place) same
  kept (left names why same) = ap (λ (c : Contents). bytes_at place c.held) same

  all_kept : {before after : SystemView} {source : Asking} {o : MsgfmtOptions} {arguments : List (List ℕ)}
      → ((run : RunView) (result : Result ℕ ProgramFault) → Writes run (codes "a.mo") before after result
      → Leaves run (codes "a.mo") old new result)
      → (after ≡ before → new ≡ old) → {result : Result ℕ ProgramFault}
      → RunsMsgfmt source o arguments (codes "a.mo") before after result → Kept
  all_kept leaves same (runs {run} reads planned writes) = kept (leaves run _ writes)
  all_kept leaves same (has_none reads none unchanged) = ap (λ (c : Contents). bytes_at place c.held) (same unchanged)
  all_kept leaves same (no_memory_to_read asks possible unchanged) =
      ap (λ (c : Contents). bytes_at place c.held) (same unchanged)
  all_kept leaves same (no_memory_to_plan reads nothing_read unchanged) =
      ap (λ (c : Contents). bytes_at place c.held) (same unchanged)

module _ (text place : List ℕ) (old new : Contents) (out : old.out ≡ []) (err : old.err ≡ [])
    {before after : SystemView} (source : Asking)
    (is : (reading : Reading) → source.file (codes "a.po") reading → reading ≡ gives text)
    (leaves : (run : RunView) (result : Result ℕ ProgramFault) → Writes run (codes "a.mo") before after result
    → Leaves run (codes "a.mo") old new result)
    (same : after ≡ before → new ≡ old) (o : MsgfmtOptions) (given : List ℕ → Option (List ℕ))
    (no_order : given (codes "endianness") ≡ None) (to : given (codes "output-file") ≡ Some (codes "a.mo"))
    (are : AreMsgfmtOptions (λ name flag. flag ≡ false) (λ name t. t ≡ given name) o)
    (arguments : List (List ℕ)) (output : List ℕ) (files : arguments ≡ codes "a.po" ∷ [])
    (goes_to : IsTextOr (λ name t. t ≡ given name) (codes "output-file") default_output output)
    {result : Result ℕ ProgramFault} (ran : RunsMsgfmt source o arguments output before after result) where
  abbrev Ends : Type 0
  Ends = EndsThroughLinks old.links place text (bytes_at place old.held)
      (end result (bytes_at place new.held) new.out new.err)

  by_goes : GoesOrNot old.links link_limit (codes "a.mo") place → Ends
  by_goes (inl leads) =
      led leads (line_ends text place old new (λ target other. unique other leads) out err source is leaves same o given
      no_order to are arguments output files goes_to ran)
  by_goes (inr other) =
      let named_so : output ≡ codes "a.mo" =
      goes_to.value_is ∙ ap (λ t. unwrap_or t default_output) (goes_to.given_is ∙ to) in
      elsewhere other (all_kept place old new other leaves same
      (subst (λ t. RunsMsgfmt source o arguments t before after result) named_so ran))

  pub through_links : Ends
  through_links = by_goes (goes old.links link_limit (codes "a.mo") place _ refl)

-- it isn't started
unstarted_by : (links : Links) (place text : List ℕ) (old : Option (List ℕ))
    → GoesOrNot links link_limit (codes "a.mo") place
    → EndsThroughLinks links place text old (end (Err OutOfMemory) old [] [])
unstarted_by links place text old (inl leads) = led leads (failed (inl refl))
unstarted_by links place text old (inr other) = elsewhere other refl

pub unstarted_so : (links : Links) (place text : List ℕ) (old : Option (List ℕ))
    → EndsThroughLinks links place text old (end (Err OutOfMemory) old [] [])
unstarted_so links place text old =
    unstarted_by links place text old (goes links link_limit (codes "a.mo") place _ refl)
