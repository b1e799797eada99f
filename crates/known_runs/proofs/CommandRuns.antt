-- What is common to all commands: what a known system holds before a run and after it, and its one end.
use Rattle.known_runs.proofs.Prelude.{Bool, CataloguesAreOne, Compiled, Contents, End, EndsInFile, EndsLookUp, EndsMsgfmt, EndsOverFiles, EndsSubstituted, Err, HasStatus, Holds, IfSome, IsCompiledFrom, IsDone, IsFileFault, IsMsgfmtRun, Leads, Leaves, Links, List, Little, MsgfmtOptions, NamedFile, None, Ok, OneEnd, OneMsgfmtRun, Option, OutOfMemory, Place, ProgramFault, Query, ReaderView, Reading, ReadsAs, Result, RunView, RunsInMemory, RunsOverFiles, RunsTool, Some, SystemView, TextEntry, Values, [], answered, answers_in, ap, arith, bytes_at, bytes_of, codes, compiled, compiled_list, compiled_run, contents, cut, empty, end, failed, false, false≢true, folder, follows, gives, header_of, if◌then◌else◌, inl, inr, is_some, is_standard, join_line, joined_entries, left as leaves_it, line_in, links_by_path, ltb-false, meant, nat_lt, nothing, option_map, output_file, program_text, reached, reader_of, reading_of, refl, refusal, refused, refuses, replay, started, stats_of, stored, subst, substituted, sym, system, system_after, system_before, texts_by_name, there as link_there, true, unstarted, writer, ℕ, ◌++◌, ◌<◌, ◌∙◌, ◌∷◌, ◌≡◌, IsTextOr, unwrap_or, IsEither, IsMsgattribRun, IsSelection, all_as_they_are}
use Rattle.msgattrib.specs.declared.selection.Selection.{Selection}
use Rattle.known_system.proofs.Calls.{at_its_path}
use Rattle.runs.specs.declared.tool.Tool.{Tool}
use Rattle.known_system.specs.declared.files.KnownFiles.{KnownFiles}
use Rattle.known_system.specs.declared.source.KnownSource.{KnownSource}
use Rattle.known_runs.specs.declared.in_memory.Reached.{Reached}
use Rattle.known_runs.specs.declared.words.Words.{Words}
use Rattle.known_system.specs.Contents.{filed as filed_there, printed as printed_there}
use Rattle.known_runs.specs.Ends.{filed, printed}
use Rattle.plural_rule.specs.Prelude.{IsRuleOf, RuleView, expression_limit}
use Rattle.known_runs.specs.LookUps.{failed as no_memory}
use Rattle.known_runs.specs.Msgfmt.{failed as unwritten}
use Rattle.runs.specs.ToolRuns as tools

pub ran : (tool : Tool) (words : Words) (before after : KnownSource) (files : KnownFiles) (r : Reached)
    (result : Result ℕ ProgramFault) (input : ReaderView) (left : List ℕ) (calls failures : ℕ)
    (out err : List ℕ) (now : SystemView)
    → input ≡ reader_of (Some before.standard.now) 0 0 → out ≡ [] → err ≡ [] → system_after r ≡ now
    → RunsTool tool (line_in words) (answers_in before) ⊥
    (reached (Some before.asked.items) input
    (system (Some files.history.calls) (writer (Some out) 0) (writer (Some err) 0)))
    (reached (Some after.asked.items) (reader_of (Some left) calls failures) now) result
    → RunsInMemory tool words before after files r result
ran tool words before after files r result input left calls failures out err now starts no_out no_err is runs = record {
  left = left;
  calls = calls;
  failures = failures;
  runs =
      let Ran = λ (i : ReaderView) (o e : List ℕ) (v : SystemView). RunsTool tool (line_in words) (answers_in before) ⊥
      (reached (Some before.asked.items) i
      (system (Some files.history.calls) (writer (Some o) 0) (writer (Some e) 0)))
      (reached (Some after.asked.items) (reader_of (Some left) calls failures) v) result in
      subst (λ i. Ran i [] [] (system_after r)) starts (subst (Ran input [] []) (sym is)
      (subst (λ e. Ran input [] e now) no_err (subst (λ o. Ran input o err now) no_out runs)));
}

abbrev pub holds_now : Reached → Contents
holds_now r =
    contents (links_by_path r.files.links.now) (stored r.files.held) r.out.said.bytes r.err.said.bytes

pub holds_before : (files : KnownFiles) (links : Links) (held : Place)
    → replay files.history.calls nothing ≡ Some (folder links held None)
    → Holds (system_before files) (contents links held [] [])
holds_before files links held is = record {
  calls = files.history.calls;
  fresh = None;
  files_are = refl;
  held_is = is;
  out_is = refl;
  err_is = refl;
}

pub holds_after : (r : Reached) → Holds (system_after r) (holds_now r)
holds_after r = record {
  calls = r.files.history.calls;
  fresh = stored r.files.fresh;
  files_are = refl;
  held_is = r.files.tied;
  out_is = refl;
  err_is = refl;
}

-- what the file held at first, and what is read back at the end
abbrev pub held_at : List ℕ → Option (List ℕ) → Place
held_at place old = option_map (λ bytes. (place, bytes)) old

placed : {T : Type 0} (view : T → List ℕ) (path place : List ℕ) (held : Option T) → path ≡ place
    → option_map (λ b. (path, view b)) held ≡ held_at place (option_map view held)
placed view path place None is = refl
placed view path place (Some b) is = rw is refl

was_held : (place : List ℕ) (old : Option (List ℕ)) → bytes_at place (held_at place old) ≡ old
was_held place None = refl
was_held place (Some bytes) = at_its_path place bytes

read_back : (r : Reached) (path : List ℕ) (found : Option (List ℕ))
    → IfSome (replay r.files.history.calls nothing) (λ folder. found ≡ bytes_at path folder.held)
    → bytes_at path (stored r.files.held) ≡ found
read_back r path found back =
    sym (subst (λ folder. IfSome folder (λ f. found ≡ bytes_at path f.held)) r.files.tied back)

pub arrives : {T : Type 0} (view : T → List ℕ) (path place : List ℕ) (held : Option T) (r : Reached)
    {tool : Tool} {words : Words} {files : List (List ℕ × List ℕ)} {links : Links} {result : Result ℕ ProgramFault}
    {found : Option (List ℕ)} → path ≡ place
    → IfSome (replay r.files.history.calls nothing) (λ folder. found ≡ bytes_at place folder.held)
    → RunsOverFiles tool words files (contents links (option_map (λ b. (path, view b)) held) [] []) (holds_now r) result
    → EndsOverFiles tool words files links place (option_map view held)
    (end result found r.out.said.bytes r.err.said.bytes)
arrives view path place held r {tool} {words} {files} {links} {result} {found} names back is =
    subst (λ f. EndsOverFiles tool words files links place (option_map view held)
    (end result f r.out.said.bytes r.err.said.bytes)) (read_back r place found back)
    (started (subst (λ was. RunsOverFiles tool words files (contents links was [] []) (holds_now r) result)
    (placed view path place held names) is))

-- what a command comes to, by what it comes to where it runs and where it isn't started
pub ends_over : (Ends : Option (List ℕ) → End → Type 0) {tool : Tool} {words : Words}
    {files : List (List ℕ × List ℕ)} {links : Links} {place : List ℕ} {old : Option (List ℕ)}
    → Ends old (end (Err OutOfMemory) old [] [])
    → ((new : Contents) (result : Result ℕ ProgramFault)
    → RunsOverFiles tool words files (contents links (held_at place old) [] []) new result
    → Ends (bytes_at place (held_at place old)) (end result (bytes_at place new.held) new.out new.err))
    → {is : End} → EndsOverFiles tool words files links place old is → Ends old is
ends_over Ends {place = place} {old = old} none runs (started {new} {result} is) =
    subst (λ was. Ends was (end result (bytes_at place new.held) new.out new.err)) (was_held place old)
    (runs new result is)
ends_over Ends none runs unstarted = none

-- a file that is there gives its bytes
pub is_read : (source : KnownSource) {files : List (List ℕ × List ℕ)} → texts_by_name source.files.now ≡ files
    → (name : List ℕ) (reading : Reading) → reading ≡ reading_of (bytes_of (texts_by_name source.files.now) name)
    → reading ≡ reading_of (bytes_of files name)
is_read source same name reading read = read ∙ ap (λ f. reading_of (bytes_of f name)) same

-- What a command comes to that writes a file.

-- without links a path leads to itself
pub leads_there : (links : Links) → links ≡ [] → {limit : ℕ} {path target : List ℕ} → Leads links limit path target
    → target ≡ path
leads_there links none (link_there is) = refl
leads_there links none {path = path} (follows {text} is leads) =
    let e : None ≡ Some text = sym (ap (λ l. bytes_of l path) none) ∙ is in cc

-- what follows on nothing is all
pub after_none : {later before more : List ℕ} → before ≡ [] → later ≡ before ++ more → later ≡ more
after_none none same = same ∙ rw none refl

module _ (IsRun : RunView → Type 0) (path : List ℕ) (named : is_standard path ≡ false)
    (old new : Contents) (links : old.links ≡ []) (out : old.out ≡ []) (err : old.err ≡ []) where
  abbrev was : Option (List ℕ)
  was = bytes_at path old.held

  abbrev now : Result ℕ ProgramFault → End
  now result = end result (bytes_at path new.held) new.out new.err

  ends : {result : Result ℕ ProgramFault} (file : Option (List ℕ)) (shown told : List ℕ)
      → bytes_at path new.held ≡ file → new.out ≡ shown → new.err ≡ told
      → EndsInFile IsRun path was (end result file shown told) → EndsInFile IsRun path was (now result)
  ends file shown told f o e is = rw (f, o, e) is

  pub fails : (fault : ProgramFault) → IsFileFault path (program_text fault) → new ≡ old
      → EndsInFile IsRun path was (now (Err fault))
  fails fault why same =
      ends was [] [] (ap (λ (c : Contents). bytes_at path c.held) same) (ap (λ (c : Contents). c.out) same ∙ out)
      (ap (λ (c : Contents). c.err) same ∙ err) (failed why)

  by_create : (run : RunView) (some : Bool) → run.create ≡ some → IsRun run → {result : Result ℕ ProgramFault}
      → Leaves run path old new result → EndsInFile IsRun path was (now result)
  by_create run some makes is (leaves_it {fault} names why same) = fails fault why same
  by_create run false makes is (filed_there names leads free at stay o e) =
      let none : output_file run path ≡ None = rw makes refl in
      absurd (false≢true (ap is_some (sym none ∙ names)))
  by_create run false makes is (printed_there names stay same o e) =
      ends was run.output run.messages (ap (bytes_at path) same) (after_none out o) (after_none err e)
      (printed is makes)
  by_create run true makes is (filed_there {path = p} {target} names leads free at stay o e) =
      let its : output_file run path ≡ Some path = rw (makes, named) refl in
      let paths : Some p ≡ Some path = sym names ∙ its in
      let its_path : p ≡ path = cc in
      let link_there : target ≡ path = leads_there old.links links leads ∙ its_path in
      ends (Some run.output) [] run.messages (subst (λ q. bytes_at q new.held ≡ Some run.output) link_there at)
      (o ∙ out)
      (after_none err e) (filed is makes)
  by_create run true makes is (printed_there names stay same o e) =
      let its : output_file run path ≡ Some path = rw (makes, named) refl in
      absurd (false≢true (ap is_some (sym names ∙ its)))

  pub run_ends : (run : RunView) → IsRun run → {result : Result ℕ ProgramFault}
      → Leaves run path old new result → EndsInFile IsRun path was (now result)
  run_ends run = by_create run run.create refl

-- a tool of one input, whose text is known
module _ (IsRun : NamedFile → RunView → Type 0) (text input path : List ℕ) (named : is_standard path ≡ false)
    (from_file : is_standard input ≡ false) (old new : Contents) (links : old.links ≡ []) (out : old.out ≡ [])
    (err : old.err ≡ []) {before after : SystemView} (source : tools.Asking)
    (is : (reading : Reading) → source.file input reading → reading ≡ gives text)
    (leaves : (run : RunView) (result : Result ℕ ProgramFault) → tools.Writes run path before after result
    → Leaves run path old new result)
    (same : after ≡ before → new ≡ old) where
  abbrev OneEnds : Result ℕ ProgramFault → Type 0
  OneEnds result =
      EndsInFile (IsRun (record { name = input; bytes = text })) path (bytes_at path old.held)
      (end result (bytes_at path new.held) new.out new.err)

  one_ends : {result : Result ℕ ProgramFault} → tools.RunsInput source IsRun input path before after result
      → OneEnds result
  one_ends (tools.runs_one {bytes} {run} {result} reads planned writes) =
      let e : gives bytes ≡ gives text =
      is _ (subst (λ b. ReadsAs source.file source.standard input b false (gives bytes)) from_file reads) in
      let these : bytes ≡ text = cc in
      run_ends (IsRun (record { name = input; bytes = text })) path named old new links out err run
      (subst (λ b. IsRun (record { name = input; bytes = b }) run) these
      (subst (λ n. IsRun (record { name = n; bytes = bytes }) run) (rw from_file refl) planned))
      (leaves run result writes)
  one_ends (tools.unread fault unchanged) =
      let e : refuses fault.why ≡ gives text =
      is _ (subst (λ b. ReadsAs source.file source.standard input b false (refuses fault.why)) from_file fault.reads) in
      cc
  one_ends (tools.out_of_memory seen unchanged) =
      fails _ path named old new links out err _ (inl refl) (same unchanged)

  -- by the words of the command line
  pub line_ends : (given : List ℕ → Option (List ℕ)) → given (codes "FILE") ≡ Some input
      → given (codes "output-file") ≡ Some path → {argument output : List ℕ}
      → IsTextOr (λ name t. t ≡ given name) (codes "FILE") (codes "-") argument
      → IsTextOr (λ name t. t ≡ given name) (codes "output-file") (codes "-") output
      → {result : Result ℕ ProgramFault} → tools.RunsInput source IsRun argument output before after result
      → OneEnds result
  line_ends given from to {argument} {output} comes goes {result} ran =
      let there : output ≡ path = goes.value_is ∙ ap (λ t. unwrap_or t (codes "-")) (goes.given_is ∙ to) in
      let here : argument ≡ input = comes.value_is ∙ ap (λ t. unwrap_or t (codes "-")) (comes.given_is ∙ from) in
      one_ends
      (subst (λ a. tools.RunsInput source IsRun a path before after result) here
      (subst (λ t. tools.RunsInput source IsRun argument t before after result) there ran))

-- What `msgattrib a.po -o b.po` selects.

neither : {name other : List ℕ} {value : Bool} → IsEither (λ name flag. flag ≡ false) name other value → value ≡ false
neither is = is.either ∙ rw (is.first_is, is.second_is) refl

-- no flag keeps all as they are
pub selection_is : (s : Selection) → IsSelection (λ name flag. flag ≡ false) s → s ≡ all_as_they_are
selection_is s is =
    rw (
      is.translated,
      is.untranslated,
      is.no_fuzzy,
      neither is.only_fuzzy,
      is.no_obsolete,
      neither is.only_obsolete,
      is.set_fuzzy,
      neither is.clear_fuzzy,
      is.set_obsolete,
      neither is.clear_obsolete,
      is.clear_previous,
      is.empty,
    ) refl

pub all_selected : (s : Selection) → s ≡ all_as_they_are → (name text path : List ℕ) (old : Option (List ℕ)) (is : End)
    → EndsInFile (IsMsgattribRun name s text) path old is
    → EndsInFile (IsMsgattribRun name all_as_they_are text) path old is
all_selected s same name text path old is ends =
    subst (λ t. EndsInFile (IsMsgattribRun name t text) path old is) same ends

-- Commands have one end.

pub in_file : {IsRun : RunView → Type 0} → ((run other : RunView) → IsRun run → IsRun other → run ≡ other)
    → {path : List ℕ} {old : Option (List ℕ)} → OneEnd (EndsInFile IsRun path old)
in_file one first second (filed {run} is makes) (filed {run = other} so makes') there here =
    ap (λ (r : RunView). end (Ok r.status) (Some r.output) [] r.messages) (one run other is so)
in_file one first second (filed {run} is makes) (printed {run = other} so makes') there here =
    let e : true ≡ false = sym makes ∙ ap (λ (r : RunView). r.create) (one run other is so) ∙ makes' in cc
in_file one first second (printed {run} is makes) (filed {run = other} so makes') there here =
    let e : false ≡ true = sym makes ∙ ap (λ (r : RunView). r.create) (one run other is so) ∙ makes' in cc
in_file one {old = old} first second (printed {run} is makes) (printed {run = other} so makes') there here =
    ap (λ (r : RunView). end (Ok r.status) old r.output r.messages) (one run other is so)
in_file one first second (failed why) so (status, ends) here = cc
in_file one first second (filed is makes) (failed why) there (status, ends) = cc
in_file one first second (printed is makes) (failed why) there (status, ends) = cc

pub by_substitution : (values : Values) (text : List ℕ) → OneEnd (EndsSubstituted values text)
by_substitution values text first second substituted substituted there here = refl
by_substitution values text first second substituted (cut rest why all) there (status, ends) = cc
by_substitution values text first second (cut rest why all) so (status, ends) here = cc

-- msgfmt by its run
abbrev plainly : MsgfmtOptions
plainly = record { use_fuzzy = false; order = Little; statistics = false; profile_check = false }

abbrev a_po : List ℕ → List NamedFile
a_po text = record { name = codes "a.po"; bytes = text } ∷ []

abbrev ended_by : Option (List ℕ) → RunView → End
ended_by old run = end (Ok run.status) (if run.create then Some run.output else old) [] run.messages

abbrev counted : Compiled → List TextEntry → Compiled
counted made entries = record { bytes = made.bytes; n = made.n; stats = stats_of entries }

some_entries : (n : ℕ) (b : Bool) → nat_lt 0 n ≡ b → 0 < n → nat_lt 0 n ≡ true
some_entries n true is more = is
some_entries n false is more = absurd (omega (arith, more, ltb-false 0 n is))

with_file : (made : Compiled) (entries : List TextEntry) (old : Option (List ℕ)) → nat_lt 0 made.n ≡ true
    → end (Ok 0) (Some made.bytes.items) [] [] ≡ ended_by old (compiled_run plainly (counted made entries))
with_file made entries old some = rw some refl

without : (made : Compiled) (entries : List TextEntry) (old : Option (List ℕ)) → made.n ≡ 0
    → end (Ok 0) old [] [] ≡ ended_by old (compiled_run plainly (counted made entries))
without made entries old none = rw none refl

-- a compiled file is what a run is done with
done_with : {text : List ℕ} (made : Compiled) (from : IsCompiledFrom text made)
    → IsDone (a_po text) plainly (compiled_run plainly (counted made (joined_entries from.catalogues)))
done_with made from = record {
  catalogues = from.catalogues;
  read = from.read;
  compiled = counted made (joined_entries from.catalogues);
  is_compiled = record {
    laid_out = from.is.laid_out;
    bytes = from.is.bytes;
    valid = from.is.valid;
    means = from.is.means;
    count = from.is.count;
  };
  stats = refl;
  checked = λ asked. cc;
  run_is = refl;
}

has_run : {text : List ℕ} {old : Option (List ℕ)} {is : End} → EndsMsgfmt text old is → HasStatus is
    → (run : RunView) × IsMsgfmtRun (a_po text) plainly run × (is ≡ ended_by old run)
has_run {old = old} (compiled {made} from some) there = (
  _,
  inr (inr (done_with made from)),
  with_file made (joined_entries from.catalogues) old (some_entries made.n _ refl some),
)
has_run {old = old} (empty {made} from none) there =
    (_, inr (inr (done_with made from)), without made (joined_entries from.catalogues) old none)
has_run (refused {error} fault not_memory) there = (
  refusal (join_line (codes "a.po" ∷ []) error),
  inl (record { error = error; fault = fault; not_memory = not_memory; run_is = refl }),
  refl,
)
has_run (unwritten why) (status, ends) = cc

pub of_msgfmt : OneMsgfmtRun → (text : List ℕ) (old : Option (List ℕ)) → OneEnd (EndsMsgfmt text old)
of_msgfmt one text old first second is so there here =
    let x = has_run is there in
    let y = has_run so here in
    x.2 ∙ ap (ended_by old) (one (a_po text) plainly x.0 y.0 x.1 y.1) ∙ sym y.2

-- a look-up by what the entries mean
abbrev OneRule : Type 0
OneRule = (limit : ℕ) (header : List ℕ) (rule other : RuleView) → IsRuleOf limit header rule
    → IsRuleOf limit header other → rule ≡ other

module _ (one_list : CataloguesAreOne) (one_rule : OneRule) (text : List ℕ) (query : Query) where
  abbrev says : List (List TextEntry) → RuleView → End
  says catalogues rule =
      end (Ok 0) None (meant (compiled_list false (joined_entries catalogues)) rule query).text []

  abbrev RuleIn : RuleView → List (List TextEntry) → Type 0
  RuleIn rule catalogues =
      IsRuleOf expression_limit (header_of (compiled_list false (joined_entries catalogues))) rule

  pub of_look_up : OneEnd (EndsLookUp text query)
  of_look_up first second (answered {catalogues} rule read its) (answered {catalogues = others} other reads others_its)
      there here =
      let same : catalogues ≡ others = one_list (text ∷ []) catalogues others read reads in
      let rules : rule ≡ other =
      one_rule expression_limit _ rule other its (subst (RuleIn other) (sym same) others_its) in
      ap (λ c. says c rule) same ∙ ap (says others) rules
  of_look_up first second (answered rule read its) no_memory there (status, ends) = cc
  of_look_up first second no_memory so (status, ends) here = cc
