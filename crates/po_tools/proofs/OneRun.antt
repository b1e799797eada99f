-- A tool has one run of its inputs.
use Rattle.po_tools.proofs.Prelude.{All, AreAccepted, AreChecked, AreReadAs, CatalogView, FirstError, Follows, HasAdmittedCharset, HasNoDuplicate, InputEntry, IsCatalogView, IsCompilation, IsFirstDuplicate, IsMsgattribRun, IsMsgcatRun, IsMsgfmtRun, IsOtherFault, IsReadAs, IsTextFault, JoinError, List, Message, MessagesAreOne, MsgfmtOptions, NamedFile, NoFaultOfMoFile, NoFaultWhereUnformatted, None, OneFirstFault, OneMessageList, OneMsgattribRun, OneMsgcatRun, OneMsgfmtRun, OneMsgunfmtRun, OneResult, OneText, OneUnformatFault, Option, ReadsDistinct, Reported, RunView, Some, TextEntry, all_or_first, ap, ap₂, check_line, compile_once, compile_options, compiled_inputs, compiled_list, compiled_run, duplicates_once, error_line, fault_line, find, first_error, first_fault, first_form, follows_once, header_text, in_input, inl, input_names, input_texts, inr, is_header_entry, join_line, joined, joined_entries, layout, length, map, merged, mo_text, msgcat_line, not_both, one_error, one_result, one_value, other_of, output_run, refl, refusal, right, selected, stats_of, subst, sym, text_once, true, unformat_line, value_or_error, written_text, wrong, ℕ, ◌++◌, ◌∙◌, ◌∷◌, ◌≡◌}
use Rattle.msgfmt.proofs.CheckedMessages.{CheckedBy}
use Rattle.mo_file.specs.declared.fault.MoError.{MoError}
use Rattle.plural_rule.specs.Prelude.{IsRuleOf, RuleView, expression_limit}
use Rattle.po_compile.specs.declared.options.Compiled.{Compiled}
use Rattle.gettext.specs.Prelude.{IsLookUpRun, Opens, Request, output_of, output_run as look_up_output}
use Rattle.gettext.specs.Plan.Opens.{none, opened, refused as look_up_refused}
use Rattle.po_syntax.specs.declared.fault.PoError.{PoError}
use Rattle.po_syntax.specs.declared.fault.PoFault.TheVariants.{Duplicate, ForeignCharset}
use Rattle.msgcat.specs.Msgcat.{first_name}
use Rattle.msgunfmt.specs.declared.fault.UnformatError.{UnformatError}
use Rattle.po_entry.proofs.Headers.{all_settled, charset_settled}
use Rattle.po_entry.proofs.Duplicates.{entries_of_input}

abbrev OneRule : Type 0
OneRule = (limit : ℕ) (header : List ℕ) (rule other : RuleView) → IsRuleOf limit header rule
    → IsRuleOf limit header other → rule ≡ other

-- the files make one chain, and one text about those that are refused
module _ (unique : OneMessageList) (no_fault : NoFaultOfMoFile) (one_fault : OneFirstFault) (one_rule : OneRule) where
  same_rule : (messages others : List Message) (rule other : RuleView) → messages ≡ others → IsCatalogView messages rule
      → IsCatalogView others other → rule ≡ other
  same_rule messages others rule other same are also =
      one_rule expression_limit (header_text messages) rule other are.rule_of_header
      (subst (λ (list : List Message). IsRuleOf expression_limit (header_text list) other)
      (sym same) also.rule_of_header)

  one_chain : {tool : List ℕ} {files : List NamedFile} {chain other : List CatalogView} {reported also : List ℕ}
      → Opens tool files chain reported → Opens tool files other also → (chain ≡ other) × (reported ≡ also)
  one_chain none none = (refl, refl)
  one_chain (opened {file = file} {catalog = catalog} order is are opens)
      (opened {catalog = other} order' is' are' opens') =
      let messages : catalog.messages ≡ other.messages =
      (unique file.bytes order order' catalog.messages other.messages is is').1 in
      let rule = same_rule catalog.messages other.messages catalog.rule other.rule messages are are' in
      let head = ap₂ (λ m r. record { messages = m; rule = r }) messages rule in
      let rest = one_chain opens opens' in (ap₂ (λ (c : CatalogView) list. c ∷ list) head rest.0, rest.1)
  one_chain (opened {file = file} {catalog = catalog} order is are opens)
      (look_up_refused {fault = fault} first opens') =
      absurd (no_fault file.bytes order catalog.messages fault is first)
  one_chain (look_up_refused {fault = fault} first opens)
      (opened {file = file} {catalog = catalog} order is are opens') =
      absurd (no_fault file.bytes order catalog.messages fault is first)
  one_chain {tool = tool} (look_up_refused {file = file} {fault = fault} first opens)
      (look_up_refused {fault = other} also opens') =
      let fault_is = one_fault file.bytes fault other first also in
      let rest = one_chain opens opens' in
      (rest.0, ap₂ (λ (f : MoError) text. fault_line tool file.name 0 (mo_text f) ++ text) fault_is rest.1)

  pub look_up_once : (files : List NamedFile) (request : Request) (run other : RunView) → IsLookUpRun files request run
      → IsLookUpRun files request other → run ≡ other
  look_up_once files request run other is also =
      let same = one_chain is.opens also.opens in
      is.run_is ∙ ap₂ (λ chain reported. look_up_output (output_of chain request) reported) same.0 same.1
      ∙ sym also.run_is

check_once : OneRule → (entries : List InputEntry) (fault other : Option Reported) (found : Option InputEntry)
    → CheckedBy entries fault found
    → CheckedBy entries other found → fault ≡ other
check_once one_rule entries fault other None is also = is ∙ sym also
check_once one_rule entries fault other (Some header) is also =
    let rules = one_rule expression_limit (first_form header.entry.forms) is.0 also.0 is.1 also.1 in
    is.2 ∙ ap (λ (rule : RuleView). first_fault entries rule) rules ∙ sym also.2

-- entries are compiled to one file, with one number of messages and one statistics
same_compiled : MessagesAreOne → (o : MsgfmtOptions) (entries : List TextEntry) (a b : Compiled)
    → IsCompilation (compile_options o) entries a → IsCompilation (compile_options o) entries b
    → a.stats ≡ b.stats → compiled_run o a ≡ compiled_run o b
same_compiled one_list o entries a b is also stats =
    let messages : is.laid_out.messages ≡ also.laid_out.messages =
    one_list (compiled_list o.use_fuzzy entries) is.laid_out.messages also.laid_out.messages
    is.laid_out.are_messages also.laid_out.are_messages in
    let bytes : a.bytes.items ≡ b.bytes.items =
    is.bytes ∙ ap (λ (list : List Message). layout o.order list) messages ∙ sym also.bytes in
    let number : a.n ≡ b.n = is.count ∙ ap length messages ∙ sym also.count in
    rw (bytes, number, stats) refl

-- what comes of catalogues that are compiled: the check fails, or the file is written
data Comes (inputs : List NamedFile) (o : MsgfmtOptions) (catalogues : List (List TextEntry)) (run : RunView)
    : Type 0 where
  fails : (fault : Reported) → o.profile_check ≡ true → AreChecked o.use_fuzzy catalogues (Some fault)
      → run ≡ refusal (check_line (input_names inputs) fault) → Comes inputs o catalogues run
  done : (compiled : Compiled) → IsCompilation (compile_options o) (joined_entries catalogues) compiled
      → compiled.stats ≡ stats_of (joined_entries catalogues)
      → (o.profile_check ≡ true → AreChecked o.use_fuzzy catalogues None) → run ≡ compiled_run o compiled
      → Comes inputs o catalogues run

pub msgfmt_once : MessagesAreOne → OneRule → OneMsgfmtRun
msgfmt_once one_list one_rule inputs o run other is also =
    follows_once (compile_once (compile_options o) (input_texts inputs)) one run other (view run is)
    (view other also) where
      check : (catalogues : List (List TextEntry)) (fault other : Option Reported)
          → AreChecked o.use_fuzzy catalogues fault → AreChecked o.use_fuzzy catalogues other → fault ≡ other
      check catalogues fault other =
          let entries = compiled_inputs o.use_fuzzy (joined catalogues) in
          check_once one_rule entries fault other (find is_header_entry entries)

      one : (catalogues : List (List TextEntry))
          → AreAccepted (compile_options o) (input_texts inputs) catalogues → (r s : RunView)
          → Comes inputs o catalogues r → Comes inputs o catalogues s → r ≡ s
      one catalogues are r s (fails fault asked checked is) (fails other _ also was) =
          let same = check catalogues (Some fault) (Some other) checked also in
          let fault_is : fault ≡ other = cc in
          is ∙ ap (λ (f : Reported). refusal (check_line (input_names inputs) f)) fault_is ∙ sym was
      one catalogues are r s (fails fault asked checked is) (done _ _ _ also was) =
          let same = check catalogues (Some fault) None checked (also asked) in cc
      one catalogues are r s (done _ _ _ also was) (fails fault asked checked is) =
          let same = check catalogues (Some fault) None checked (also asked) in cc
      one catalogues are r s (done a of_a stats _ is) (done b of_b others _ was) =
          is ∙ same_compiled one_list o (joined_entries catalogues) a b of_a of_b (stats ∙ sym others) ∙ sym was

      view : (r : RunView) → IsMsgfmtRun inputs o r
          → Follows (AreAccepted (compile_options o) (input_texts inputs))
          (IsOtherFault (compile_options o) (input_texts inputs))
          (λ (e : JoinError). refusal (join_line (input_names inputs) e)) (Comes inputs o) r
      view r (inl is) = wrong (other_of (compile_options o) (input_texts inputs) is.error is.fault
          (λ memory. is.not_memory (ap (λ (e : JoinError). e.error.kind) memory))) is.run_is
      view r (inr (inl is)) = right (record { read = is.read; layout = is.is_compiled.laid_out })
          (fails is.fault is.asked is.checked is.run_is)
      view r (inr (inr is)) = right (record { read = is.read; layout = is.is_compiled.laid_out })
          (done is.compiled is.is_compiled is.stats is.checked is.run_is)

-- msgunfmt, msgattrib and msgcat have one run of their inputs.

pub msgunfmt_once : NoFaultWhereUnformatted → OneText → OneUnformatFault → OneMsgunfmtRun
msgunfmt_once no_fault one_text one_fault file run other (inl is) (inl also) =
    is.run_is ∙ ap (λ (e : UnformatError). refusal (unformat_line file.name e))
    (one_fault file.bytes is.error also.error is.fault also.fault is.not_memory also.not_memory) ∙ sym also.run_is
msgunfmt_once no_fault one_text one_fault file run other (inl is) (inr also) =
    absurd (is.not_memory (no_fault file.bytes also.text is.error also.unformatted is.fault))
msgunfmt_once no_fault one_text one_fault file run other (inr is) (inl also) =
    absurd (also.not_memory (no_fault file.bytes is.text also.error is.unformatted also.fault))
msgunfmt_once no_fault one_text one_fault file run other (inr is) (inr also) =
    is.run_is ∙ ap output_run (one_text file.bytes is.text also.text is.unformatted also.unformatted) ∙ sym also.run_is

pub msgattrib_once : OneMsgattribRun
msgattrib_once name text s run other is also =
    follows_once (text_once text) (λ entries _. follows_once
    (duplicates_once repeats (map (in_input 0) (selected s entries)) (selected s entries)
    (entries_of_input 0 (selected s entries))) (λ _ _ _ _ is was. is ∙ sym was))
    run other (view run is) (view other also) where
      refused : PoError → RunView
      refused error = refusal (error_line name error)

      repeats : InputEntry → InputEntry → PoError
      repeats first later = record { kind = Duplicate first.entry.line; line = 0 }

      view : (r : RunView) → IsMsgattribRun name s text r → Follows (ReadsDistinct text) (IsTextFault text) refused
          (λ entries. Follows {A = Unit {0}} (λ _. HasNoDuplicate (selected s entries))
          (λ e. (first later : InputEntry) × IsFirstDuplicate (map (in_input 0) (selected s entries)) first later
          × (e ≡ repeats first later)) refused (λ _ r. r ≡ output_run (written_text (selected s entries)))) r
      view r (inl is) = wrong is.fault is.run_is
      view r (inr (inl is)) = right is.read (wrong (is.first, is.later, is.duplicate, refl) is.run_is)
      view r (inr (inr is)) = right is.read (right is.distinct is.run_is)

-- a file is read as a catalogue or has a fault
file_once : (file : NamedFile) → OneResult (IsReadAs file) (IsTextFault file.bytes)
file_once file = one_result
    (elim (value_or_error (text_once file.bytes)) [
      | inl read ↦ inl (record { name = file.name; entries = read.0 }, record { name = refl; reads = read.1 })
      | inr fault ↦ inr fault
    ])
    (λ a b one other. ap₂ (λ n l. record { name = n; entries = l }) (one.name ∙ sym other.name)
    (one_value (text_once file.bytes) one.reads other.reads))
    (λ a e one fault. not_both (text_once file.bytes) one.reads fault)
    (λ e f one other. one_error (text_once file.bytes) one other)

-- what is read has charsets that are admitted, or it hasn't
admitted_once : (entries : List TextEntry)
    → OneResult {A = Unit {0}} {E = Unit {0}} (λ _. All HasAdmittedCharset entries)
    (λ _. All HasAdmittedCharset entries → ⊥)
admitted_once entries = one_result
    (elim (all_settled HasAdmittedCharset charset_settled entries)
    [ inl admitted ↦ inl (tt, admitted) | inr foreign ↦ inr (tt, foreign) ])
    (λ _ _ _ _. refl) (λ _ _ admitted foreign. foreign admitted) (λ _ _ _ _. refl)

pub msgcat_once : OneMsgcatRun
msgcat_once files o run other is also =
    follows_once (all_or_first IsReadAs (λ (file : NamedFile). IsTextFault file.bytes) file_once tell files)
    (λ inputs _. follows_once (admitted_once (merged o inputs)) (λ _ _ _ _ is was. is ∙ sym was))
    run other (view run is) (view other also) where
      tell : ℕ → NamedFile → PoError → List ℕ × PoError
      tell _ file error = (file.name, error)

      refused : List ℕ × PoError → RunView
      refused (name, error) = refusal (msgcat_line name error)

      foreign : PoError
      foreign = record { kind = ForeignCharset; line = 0 }

      view : (r : RunView) → IsMsgcatRun files o r
          → Follows (AreReadAs files) (FirstError IsReadAs (λ (file : NamedFile). IsTextFault file.bytes) tell files)
          refused
          (λ inputs. Follows {A = Unit {0}} {E = Unit {0}} (λ _. All HasAdmittedCharset (merged o inputs))
          (λ _. All HasAdmittedCharset (merged o inputs) → ⊥) (λ _. refused (first_name files, foreign))
          (λ _ r. r ≡ output_run (written_text (merged o inputs)))) r
      view r (inl is) = wrong
          (subst (λ list. FirstError IsReadAs (λ (file : NamedFile). IsTextFault file.bytes) tell list
          (is.fault.file.name, is.error)) (sym is.fault.order)
          (first_error IsReadAs (λ (file : NamedFile). IsTextFault file.bytes) tell is.fault.before is.fault.file
          is.fault.after is.fault.inputs is.error is.fault.read is.fault.fault))
          (is.run_is ∙ ap (λ n. refusal (msgcat_line n is.error)) is.fault.name_is)
      view r (inr (inl is)) = right is.read (wrong is.foreign is.run_is)
      view r (inr (inr is)) = right is.read (right is.admitted is.run_is)
