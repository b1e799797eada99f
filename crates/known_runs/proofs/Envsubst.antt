-- What envsubst comes to over a known standard input and a known environment.
use Rattle.known_runs.proofs.Prelude.{Answers, AnswersStatus, Asked, Bool, CommandLine, EndsAs, EndsSubstituted, EnvsubstUsage, Err, FileLog, HasGoneOut, IsStatusOrInputFault, List, None, Ok, Option, ProgramFault, Reached, Reading, Result, RunsEnvsubst, RunsEnvsubstLine, Some, StopsWithin, Substitutes, Values, WriterView, [], answers_of, ap, arith, cut, end, envsubst_usage, false, false≢true, is_some, line_of, names_in, no_envsubst, option_map, option_to_list, reached, reader_of, refl, runs_envsubst, subst, substituted, substitution, sym, system, values_by, values_of, variables_of, write_failures, writer, ℕ, ◌++◌, ◌+◌, ◌∙◌, ◌≡◌}
use Rattle.envsubst.specs.ByArguments.{named, substituted as replaced_all, unread}
use Rattle.envsubst.specs.Arguments.{replaced}
use Rattle.runs.specs.declared.tool_fault.ToolFault.{ToolFault}
use Rattle.runs.specs.declared.tool_fault.ToolFault.TheVariants.{OutOfMemory, ReadFault, WriteFault}

module _ (values : Values) (text : List ℕ) where
  -- what was written is a beginning of the whole
  abbrev Begins : List ℕ → Type 0
  Begins written = (rest : List ℕ) × (substitution values text ≡ written ++ rest)

  abbrev Wrote : List ℕ → Result (Unit {0}) ToolFault → Type 0
  Wrote written (Ok _) = written ≡ substitution values text
  Wrote written (Err why) = Begins written

  begins : (written more : List ℕ) (out : List ℕ) → out ≡ written → substitution values text ≡ written ++ more
      → Begins out
  begins written more out is all = (more, all ∙ ap (λ w. w ++ more) (sym is))

  gone_out : (left out : List ℕ) → HasGoneOut values (Some text) (Some left) (Some []) (Some out) → Begins out
  gone_out left out gone =
      let whole : text ≡ gone.read ++ left = gone.reads in
      begins gone.advances.written (substitution values (gone.held ++ left)) out gone.advances.appends
      (ap (substitution values) whole ∙ gone.advances.passes left)

  stopped : (left out : List ℕ) → StopsWithin values (Some text) (Some left) (Some []) (Some out) → Begins out
  stopped left out part =
      let whole : text ≡ part.read ++ left = part.reads in
      begins part.stops.written (part.stops.prefix left).0 out part.stops.appends
      (ap (substitution values) whole ∙ (part.stops.prefix left).1)

  at_end : (left out : List ℕ) (result : Result (Unit {0}) ToolFault)
      → EndsAs values (Some text) (Some left) (Some []) (Some out) result → 0 ≡ 0 + write_failures result
      → Wrote out result
  at_end left out (Ok _) is none = is
  at_end left out (Err ReadFault) is none = gone_out left out is
  at_end left out (Err WriteFault) is none = absurd (omega (arith, none))
  at_end left out (Err OutOfMemory) is none = stopped left out is

  -- by what it answers, and by what is told of that
  told : (out : List ℕ) (outcome : Result (Unit {0}) ToolFault) (result said : Result ℕ ProgramFault)
      → Wrote out outcome → AnswersStatus outcome result → IsStatusOrInputFault result said
      → EndsSubstituted values text (end said None out [])
  told out (Ok _) (Ok status) said is answer same =
      let ended : said ≡ Ok 0 = same ∙ answer in
      subst (λ s. EndsSubstituted values text (end s None out [])) (sym ended)
      (subst (λ o. EndsSubstituted values text (end (Ok 0) None o [])) (sym is) substituted)
  told out (Ok _) (Err fault) said is answer same = cc
  told out (Err why) (Ok status) said is answer same = absurd answer
  told out (Err why) (Err fault) (Ok status) is answer same = absurd same
  told out (Err why) (Err fault) (Err reported) is answer same = cut is.0 same is.1

-- the words are a SHELL-FORMAT, or none
usage_is : (format : Option (List ℕ)) (variables : Bool) (arguments : List (List ℕ)) → variables ≡ false
    → arguments ≡ option_to_list format → envsubst_usage variables arguments ≡ Some (replaced format)
usage_is None variables arguments v a = rw (v, a) refl
usage_is (Some format) variables arguments v a = rw (v, a) refl

-- nothing is told
quiet : (err : List ℕ) → writer (Some err) 0 ≡ writer (Some []) 0 → err ≡ []
quiet err same = let e : Some err ≡ Some [] = ap (λ (w : WriterView). w.bytes) same in cc

module _ (format : Option (List ℕ)) (environment : List (List ℕ)) (text left out err : List ℕ) where
  abbrev values : Values
  values = values_by format environment

  wrote : (entries : List (List ℕ) → Type 0) → ((e : List (List ℕ)) → entries e → e ≡ environment)
      → {usage : EnvsubstUsage} → usage ≡ replaced format → {outcome : Result (Unit {0}) ToolFault}
      → RunsEnvsubst entries (Some text) (Some left) (Some []) (Some out) usage outcome
      → 0 ≡ 0 + write_failures outcome → Wrote values text out outcome
  wrote entries is asks (named rest lines) none = cc
  wrote entries is asks {outcome} (replaced_all {format = f} there given ends) none =
      let same : f ≡ format = cc in
      let theirs : values_of (variables_of there) (option_map names_in f) ≡ values = rw (is there given, same) refl in
      at_end values text left out outcome
      (subst (λ v. EndsAs v (Some text) (Some left) (Some []) (Some out) outcome) theirs ends) none
  wrote entries is asks (unread rest same) none =
      let nothing : out ≡ [] = cc in
      (substitution values text, ap (λ w. w ++ substitution values text) (sym nothing))

  module _ (given : List ℕ → Option (List ℕ)) (operands : List (List ℕ))
      (operands_are : operands ≡ option_to_list format)
      (file : List ℕ → Reading → Type 0) (standard : Reading → Type 0) (variable : List ℕ → Option (List ℕ) → Type 0)
      (asked asked' : Option (List Asked)) (calls failures : ℕ) (files files' : FileLog) where
    abbrev Line : CommandLine
    Line = line_of (λ name flag. flag ≡ false) (λ name t. t ≡ given name) (λ name texts. texts ≡ operands)
        (λ name number. number ≡ None)

    abbrev There : Answers
    There = answers_of file standard variable (λ entries. entries ≡ environment)

    abbrev Before : Reached
    Before = reached asked (reader_of (Some text) 0 0) (system files (writer (Some []) 0) (writer (Some []) 0))

    abbrev After : Reached
    After = reached asked' (reader_of (Some left) calls failures)
        (system files' (writer (Some out) 0) (writer (Some err) 0))

    substitutes : {usage : EnvsubstUsage} {result said : Result ℕ ProgramFault} → usage ≡ replaced format
        → Substitutes There usage Before After result → IsStatusOrInputFault result said
        → EndsSubstituted values text (end said None out err)
    substitutes {usage} {result} {said} asks ran same =
        subst (λ e. EndsSubstituted values text (end said None out e)) (sym (quiet err ran.err))
        (told values text out ran.outcome result said
        (wrote (λ entries. entries ≡ environment) (λ e is. is) asks ran.runs ran.write_failures) ran.answer same)

    pub envsubst_ends : {result said : Result ℕ ProgramFault} → RunsEnvsubstLine Line There Before After result
        → IsStatusOrInputFault result said → EndsSubstituted values text (end said None out err)
    envsubst_ends (runs_envsubst {variables} {arguments} {usage} flag_is arguments_are fits ran) same =
        let asks : Some usage ≡ Some (replaced format) =
        sym fits ∙ usage_is format variables arguments flag_is (arguments_are ∙ operands_are) in
        let these : usage ≡ replaced format = cc in substitutes these ran same
    envsubst_ends (no_envsubst {variables} {arguments} flag_is arguments_are fits) same =
        absurd (false≢true (ap is_some
        (sym fits.none ∙ usage_is format variables arguments flag_is (arguments_are ∙ operands_are))))
