-- What a look-up in a catalogue comes to that is compiled from a text.
use Rattle.known_runs.proofs.Prelude.{Answers, AsksFor, Bool, CatalogView, CommandLine, Compiled, Contents, End, EndsLookUp, Err, IsCatalogView, IsCompiledFrom, Leaves, List, NamedFile, None, Ok, Option, OutOfMemory, ProgramFault, Query, Reached, Reading, Result, RunView, RunsLookUpLine, RunsTool, Some, Writes, [], a_form, a_message, and_parts, answered, answers_of, ap, append-nil, arith, chain_answered, codes, compiled_list, counted, end, false, false≢true, filed, fits_none, forms_found, gives, hello_mo, if◌then◌else◌, inl, inr, is_some, joined_entries, left, line_of, looks_up, ltb-true, meant, message, nat_lt, option_copied, option_map_or, plain, printed, refl, refuses, slice_index, status_or_memory, subst, suc, sym, take, true, untranslated, zero, ℕ, ◌&&◌, ◌++◌, ◌-◌, ◌<◌, ◌^◌, ◌∙◌, ◌∷◌, ◌≡◌}
use Rattle.known_runs.proofs.CommandRuns.{after_none}
use Rattle.std.proofs.lemmas.Str.{IsUtf8-from_ascii}
use Rattle.std.specs.Borrow.{Bor}
use Rattle.gettext.specs.Prelude.{AreCatalogues, AsksGettext, AsksNgettext, CommandView, GettextRequest, GettextUsage, GivenDomain, IsEnvironment, IsGettextRequest, IsLookUpRun, IsNgettextRequest, NgettextRequest, NgettextUsage, Opens, RunsLookUp, environment_view, gettext_output, gettext_usage, given_domain, ngettext_output, ngettext_usage, output_of, output_run, paths_of, searching, with_name}
use Rattle.gettext.specs.Catalogues.{done, found, skipped}
use Rattle.gettext.specs.Plan.{none, opened, refused}
use Rattle.gettext.specs.Arguments.{asks_messages, asks_plural_form, fits_no_gettext, fits_no_ngettext}
use Rattle.gettext.specs.WholeRun.{no_memory, runs}
use Rattle.gettext.specs.declared.candidates.Environment.{Environment}
use Rattle.locale_names.specs.Prelude.{before as part_before, candidates_of_name, from_first, is_c_locale, language_parts}
use Rattle.mo_file.specs.Prelude.{IsMoFile, NoFaultOfMoFile, OneMessageList}
use Rattle.mo_lookup.specs.Prelude.{answered as catalog_answered}
use Rattle.runs.specs.declared.tool.Tool.{Tool}
use Rattle.known_runs.specs.LookUps.{failed}

-- every byte is below 128
abbrev low : List ℕ → Bool
low [] = true
low (b ∷ bs) = nat_lt b 128 && low bs

ascii_by : (bs : List ℕ) → low bs ≡ true → (i : ℕ) → slice_index bs i < 128
ascii_by [] is i = omega arith
ascii_by (b ∷ bs) is zero = ltb-true b 128 (and_parts (nat_lt b 128) (low bs) is).0
ascii_by (b ∷ bs) is (suc i) = ascii_by bs (and_parts (nat_lt b 128) (low bs) is).1 i

-- the catalogue's path is the only one
paths_by : (all messages lang language domain folder : Option (Bor (List ℕ)))
    → option_copied all ≡ None → option_copied messages ≡ None → option_copied lang ≡ Some (codes "fr")
    → option_copied language ≡ None → option_copied folder ≡ None
    → paths_of (Some (codes "hello")) None
    (record {
      lc_all = all;
      lc_messages = messages;
      lang = lang;
      language = language;
      textdomain = domain;
      textdomaindir = folder;
    })
    ≡ hello_mo ∷ []
unfolding with_name part_before candidates_of_name from_first is_c_locale language_parts
paths_by (Some v) b c d e f p q r s t = cc
paths_by None (Some v) c d e f p q r s t = cc
paths_by None None None d e f p q r s t = cc
paths_by None None (Some v) (Some w) e f p q r s t = cc
paths_by None None (Some v) None e (Some w) p q r s t = cc
paths_by None None (Some v) None e None p q r s t =
    let is : v.now ≡ codes "fr" = cc in rw is refl

abbrev file_of : List ℕ → List ℕ → NamedFile
file_of name bytes = record { name = name; bytes = bytes }

alike : {n m b c : List ℕ} → n ≡ m → b ≡ c → file_of n b ≡ file_of m c
alike p q = rw (p, q) refl

-- a chain of one catalogue answers as that one
by_found : (catalog : CatalogView) (query : Query) (forms : Option (List (List ℕ)))
    → forms_found catalog.messages query ≡ forms → chain_answered (catalog ∷ []) query ≡ catalog_answered catalog query
by_found catalog query None is = rw is refl
by_found catalog query (Some forms) is =
    subst (λ f. option_map_or (λ c. catalog_answered c query) (if is_some f then Some catalog else None)
    (untranslated query)
    ≡ catalog_answered catalog query) (sym is) refl

chain_of_one : (catalog : CatalogView) (query : Query)
    → chain_answered (catalog ∷ []) query ≡ catalog_answered catalog query
chain_of_one catalog query = by_found catalog query _ refl

-- what gettext writes for one msgid without options
output_is : (chain : List CatalogView) (o : GettextRequest) (id : List ℕ) → o.arguments ≡ id ∷ [] → o.context ≡ None
    → o.expand ≡ false → o.shell ≡ false → gettext_output chain o ≡ (chain_answered chain (message id)).text
output_is chain o id arguments context expand shell =
    let e : gettext_output chain o ≡ (chain_answered chain (message id)).text ++ [] =
    rw (arguments, context, expand, shell) refl in e ∙ append-nil _

-- the words are one msgid in the domain `hello`
usage_is : (id : List ℕ) (shell : Bool) (arguments : List (List ℕ)) (usage : GettextUsage) → shell ≡ false
    → arguments ≡ codes "hello" ∷ id ∷ [] → gettext_usage shell arguments ≡ Some usage
    → usage ≡ record { domain = Some (codes "hello"); messages = id ∷ [] }
usage_is id shell arguments usage s a is =
    let e : Some usage ≡ Some (record { domain = Some (codes "hello"); messages = id ∷ [] }) =
    sym is ∙ rw (s, a) refl in cc

gettext_says : (id : List ℕ) (usage : GettextUsage) (o : GettextRequest) (given : List ℕ → Option (List ℕ))
    → given (codes "context") ≡ None
    → usage ≡ record { domain = Some (codes "hello"); messages = id ∷ [] }
    → IsGettextRequest (λ name flag. flag ≡ false) (λ name t. t ≡ given name) usage o
    → (chain : List CatalogView) → gettext_output chain o ≡ (chain_answered chain (message id)).text
gettext_says id usage o given no_context is request chain =
    output_is chain o id (request.messages ∙ ap (λ (u : GettextUsage). u.messages) is) (request.context ∙ no_context)
    request.expand request.shell

-- what ngettext writes without options
plural_output_is : (chain : List CatalogView) (o : NgettextRequest) (id plural count : List ℕ) → o.id ≡ id
    → o.plural ≡ plural → o.count ≡ count → o.context ≡ None → o.expand ≡ false
    → ngettext_output chain o ≡ (chain_answered chain (counted id plural count)).text
plural_output_is chain o id plural count is_id is_plural is_count context expand =
    rw (is_id, is_plural, is_count, context, expand) refl

-- the words are a msgid, its plural and a count in the domain `hello`
plural_usage_is : (id plural count : List ℕ) (arguments : List (List ℕ)) (usage : NgettextUsage)
    → arguments ≡ codes "hello" ∷ id ∷ plural ∷ count ∷ [] → ngettext_usage arguments ≡ Some usage
    → usage ≡ record { domain = Some (codes "hello"); id = id; plural = plural; count = count }
plural_usage_is id plural count arguments usage a is =
    let e : Some usage ≡ Some (record { domain = Some (codes "hello"); id = id; plural = plural; count = count }) =
    sym is ∙ rw a refl in cc

ngettext_says : (id plural count : List ℕ) (usage : NgettextUsage) (o : NgettextRequest)
    (given : List ℕ → Option (List ℕ)) → given (codes "context") ≡ None
    → usage ≡ record { domain = Some (codes "hello"); id = id; plural = plural; count = count }
    → IsNgettextRequest (λ name flag. flag ≡ false) (λ name t. t ≡ given name) usage o
    → (chain : List CatalogView) → ngettext_output chain o ≡ (chain_answered chain (counted id plural count)).text
ngettext_says id plural count usage o given no_context is request chain =
    plural_output_is chain o id plural count (request.id ∙ ap (λ (u : NgettextUsage). u.id) is)
    (request.plural ∙ ap (λ (u : NgettextUsage). u.plural) is) (request.count ∙ ap (λ (u : NgettextUsage). u.count) is)
    (request.context ∙ no_context) request.expand

-- by the words of the command line
module _ (text bytes : List ℕ) (made : Compiled) (from : IsCompiledFrom text made)
    (same_bytes : bytes ≡ made.bytes.items) (no_fault : NoFaultOfMoFile) (one_list : OneMessageList)
    (old new : Contents) (out : old.out ≡ []) (err : old.err ≡ []) (before after : Reached)
    (operands : List (List ℕ))
    (given : List ℕ → Option (List ℕ)) (no_context : given (codes "context") ≡ None)
    (no_domain : given (codes "domain") ≡ None) (variables : List ℕ → Option (List ℕ))
    (all : variables (codes "LC_ALL") ≡ None) (messages : variables (codes "LC_MESSAGES") ≡ None)
    (lang : variables (codes "LANG") ≡ Some (codes "fr")) (language : variables (codes "LANGUAGE") ≡ None)
    (folder : variables (codes "TEXTDOMAINDIR") ≡ None)
    (file : List ℕ → Reading → Type 0) (standard : Reading → Type 0) (entries : List (List ℕ) → Type 0)
    (is : (reading : Reading) → file hello_mo reading → reading ≡ gives bytes)
    (leaves : (run : RunView) (result : Result ℕ ProgramFault)
    → Writes run (codes "-") before.written after.written result
    → Leaves run (codes "-") old new result)
    (same : after.written ≡ before.written → new ≡ old) where
  abbrev Line : CommandLine
  Line = line_of (λ name flag. flag ≡ false) (λ name t. t ≡ given name) (λ name texts. texts ≡ operands)
      (λ name number. number ≡ None)

  abbrev There : Answers
  There = answers_of file standard (λ name value. value ≡ variables name) entries

  -- the catalogue's path is the only one, and its file is read there
  paths_are : (env : Environment) → IsEnvironment (λ name value. value ≡ variables name) (environment_view env)
      → paths_of (Some (codes "hello")) None env ≡ hello_mo ∷ []
  paths_are env read =
      paths_by env.lc_all env.lc_messages env.lang env.language env.textdomain env.textdomaindir
      (read.lc_all ∙ all) (read.lc_messages ∙ messages) (read.lang ∙ lang) (read.language ∙ language)
      (read.textdomaindir ∙ folder)

  catalogues_are : (catalogues : List NamedFile) → AreCatalogues file (hello_mo ∷ []) catalogues
      → catalogues ≡ record { name = hello_mo; bytes = bytes } ∷ []
  catalogues_are catalogues (found {catalogue} at done) =
      let e : gives catalogue.bytes ≡ gives bytes = is _ at.1 in
      let b : catalogue.bytes ≡ bytes = cc in ap (λ c. c ∷ []) (alike at.0 b)
  catalogues_are catalogues (skipped (inl other) done) =
      absurd (other (IsUtf8-from_ascii hello_mo (ascii_by hello_mo refl)))
  catalogues_are catalogues (skipped (inr fault) done) =
      let e : refuses fault.0 ≡ gives bytes = is _ fault.2 in cc

  module _ (query : Query) where
    -- what is printed where the catalogue is opened
    opens_answers : {tool : List ℕ} (chain : List CatalogView) (reported : List ℕ)
        → Opens tool (record { name = hello_mo; bytes = bytes } ∷ []) chain reported
        → EndsLookUp text query (end (Ok 0) None (chain_answered chain query).text reported)
    opens_answers chain reported (opened {catalog} order is view none) =
        let valid = subst (λ b. IsMoFile plain.order b from.is.laid_out.messages) (sym same_bytes) from.is.valid in
        let same : catalog.messages ≡ from.is.laid_out.messages = (one_list bytes order _ _ _ is valid).1 in
        let rule_is = from.is.means.rule catalog.rule (subst (λ m. IsCatalogView m catalog.rule) same view) in
        let says : (chain_answered (catalog ∷ []) query).text
        ≡ (meant (compiled_list false (joined_entries from.catalogues)) catalog.rule query).text =
        ap (λ a. a.text) (chain_of_one catalog query
        ∙ ap (λ m. catalog_answered (record { messages = m; rule = catalog.rule }) query) same
        ∙ from.is.means.answers catalog.rule query) in
        subst (λ o. EndsLookUp text query (end (Ok 0) None o [])) (sym says) (answered catalog.rule from.read rule_is)
    opens_answers chain reported (refused fault others) =
        absurd (no_fault bytes _ _ _
        (subst (λ b. IsMoFile plain.order b from.is.laid_out.messages) (sym same_bytes) from.is.valid) fault)

    abbrev now : Result ℕ ProgramFault → End
    now result = end (status_or_memory result) None new.out new.err

    ends : (result : Result ℕ ProgramFault) (shown told : List ℕ) → new.out ≡ shown → new.err ≡ told
        → EndsLookUp text query (end (status_or_memory result) None shown told) → EndsLookUp text query (now result)
    ends result shown told o e answers = rw (o, e) answers

    run_ends : (shown reported : List ℕ) → EndsLookUp text query (end (Ok 0) None shown reported)
        → {result : Result ℕ ProgramFault} → Leaves (output_run shown reported) (codes "-") old new result
        → EndsLookUp text query (now result)
    run_ends shown reported answers (printed names stay held o e) =
        ends (Ok 0) shown reported (after_none out o) (after_none err e) answers
    run_ends shown reported answers (filed names leads free at stay o e) = cc
    run_ends shown reported answers (left names why kept) = cc

    -- what the run of the catalogues comes to in the domain `hello`
    looked_up : (command : CommandView) → command.domain ≡ given_domain (Some (codes "hello")) None
        → ((chain : List CatalogView) → output_of chain command.request ≡ (chain_answered chain query).text)
        → (result : Result ℕ ProgramFault)
        → RunsLookUp (searching (λ name value. value ≡ variables name) file before.asked after.asked) command
        before.written after.written result
        → EndsLookUp text query (now result)
    looked_up command domain says result (runs {catalogues} {run} at is_run writes) =
        let paths : paths_of command.domain.argument command.domain.option at.environment ≡ hello_mo ∷ [] =
        ap (λ (d : GivenDomain). paths_of d.argument d.option at.environment) domain
        ∙ paths_are at.environment at.is_read in
        let these = catalogues_are catalogues (subst (λ p. AreCatalogues file p catalogues) paths at.are_read) in
        let ran : IsLookUpRun (record { name = hello_mo; bytes = bytes } ∷ []) command.request run =
        subst (λ c. IsLookUpRun (take (2 ^ 32 - 1) c) command.request run) these is_run in
        run_ends _ _ (opens_answers ran.chain ran.reported ran.opens)
        (subst (λ (v : RunView). Leaves v (codes "-") old new result)
        (ran.run_is ∙ ap (λ t. output_run t ran.reported) (says ran.chain)) (leaves run result writes))
    looked_up command domain says _ (no_memory unchanged) =
        ends (Err OutOfMemory) [] [] (ap (λ (c : Contents). c.out) (same unchanged) ∙ out)
        (ap (λ (c : Contents). c.err) (same unchanged) ∙ err) failed

  domain_is : (argument option : Option (List ℕ)) → argument ≡ Some (codes "hello") → option ≡ given (codes "domain")
      → given_domain argument option ≡ given_domain (Some (codes "hello")) None
  domain_is argument option names is = rw (names, is ∙ no_domain) refl

  gettext_ends : (id : List ℕ) → operands ≡ codes "hello" ∷ id ∷ [] → (result : Result ℕ ProgramFault)
      → RunsLookUpLine (AsksGettext Line.flag Line.text Line.texts) There before after result
      → EndsLookUp text (message id) (end (status_or_memory result) None new.out new.err)
  gettext_ends id operands_are result (looks_up (asks_messages {arguments} {option} {usage} {o} arguments_are fits
      option_is request) looks unread) =
      let u = usage_is id o.shell arguments usage request.shell (arguments_are ∙ operands_are) fits in
      looked_up (message id) _ (domain_is usage.domain option (ap (λ (u : GettextUsage). u.domain) u) option_is)
      (gettext_says id usage o given no_context u request) result looks
  gettext_ends id operands_are _ (fits_none (fits_no_gettext {shell} {arguments} shell_is arguments_are fits) same) =
      let e : gettext_usage shell arguments ≡ gettext_usage false (codes "hello" ∷ id ∷ []) =
      rw (shell_is, arguments_are ∙ operands_are) refl in
      absurd (false≢true (ap is_some (sym fits ∙ e)))

  ngettext_ends : (id plural count : List ℕ) → operands ≡ codes "hello" ∷ id ∷ plural ∷ count ∷ []
      → (result : Result ℕ ProgramFault)
      → RunsLookUpLine (AsksNgettext Line.flag Line.text Line.texts) There before after result
      → EndsLookUp text (counted id plural count) (end (status_or_memory result) None new.out new.err)
  ngettext_ends id plural count operands_are result (looks_up (asks_plural_form {arguments} {option} {usage} {o}
      arguments_are fits option_is request) looks unread) =
      let u = plural_usage_is id plural count arguments usage (arguments_are ∙ operands_are) fits in
      looked_up (counted id plural count) _
      (domain_is usage.domain option (ap (λ (u : NgettextUsage). u.domain) u) option_is)
      (ngettext_says id plural count usage o given no_context u request) result looks
  ngettext_ends id plural count operands_are _ (fits_none (fits_no_ngettext {arguments} arguments_are fits) same) =
      let e : ngettext_usage arguments ≡ ngettext_usage (codes "hello" ∷ id ∷ plural ∷ count ∷ []) =
      rw (arguments_are ∙ operands_are) refl in
      absurd (false≢true (ap is_some (sym fits ∙ e)))

  pub hello_ends : {tool : Tool} {query : Query} → AsksFor operands tool query → (result : Result ℕ ProgramFault)
      → RunsTool tool Line There ⊥ before after result
      → EndsLookUp text query (end (status_or_memory result) None new.out new.err)
  hello_ends (a_message is) result ran = gettext_ends _ is result ran
  hello_ends (a_form is) result ran = ngettext_ends _ _ _ is result ran
