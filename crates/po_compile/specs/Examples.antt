-- What the definitions of this crate say of entries that were compiled by hand (manual, "Invoking the
-- msgfmt Program" and "The Format of GNU MO Files"). tests/mutants/po_compile/definitions has a wrong form
-- of each definition, which one of these refuses.
use Rattle.std.specs.Prelude.{◌≡◌, refl, ℕ, ◌<◌, ◌≤◌, true, false, List, [], ◌∷◌, Some, None, map, length, codes}
use Rattle.std.proofs.Common.{◌∙◌, arith, ap, inl, inr}
use Rattle.plural_rule.specs.declared.rule.Source.TheVariants.{Header}
use Rattle.plural_rule.specs.Evaluator.{Number}
use Rattle.plural_rule.specs.Prelude.{RuleView}
use Rattle.mo_file.specs.declared.byte_order.Order.TheVariants.{Little}
use Rattle.mo_file.specs.Prelude.{AreRising, keys, layout, Message}
use Rattle.mo_lookup.specs.Prelude.{answered, Query}
use Rattle.po_entry.specs.Prelude.{TextEntry, plain_entry, ReadsDistinct, IsTextFault, join_out_of_memory, in_input, joined_entries, stats_of}
use Rattle.po_syntax.specs.declared.fault.PoFault.TheVariants.{BadToken, Duplicate, TooLarge}
use Rattle.po_entry.specs.declared.duplicate.JoinError.{JoinError}
use Rattle.po_entry.specs.MessageExamples.{of_a_on, obsolete_of_a, first_duplicate}
use Rattle.po_compile.specs.Compiling.{is_compiled, compiled_list, plural_part, original_of, translation_of, message_of, AreMessagesOf, definition, header_of, meant, MeansEntries, HasSmallLayout, IsCompilation, HasLargeLayout}
use Rattle.po_compile.specs.Accepted.{AreRead, AreAccepted, AreCompiled, HasStatistics, HasJoinedDuplicate, IsReadingFault, IsCompileFault}
use Rattle.po_compile.specs.Headline.{LookUpMeansEntries, NoFaultWhereAccepted, AcceptedOrFault, OneCompileFault}
use Rattle.po_compile.specs.declared.options.Options.{Options}
use Rattle.po_compile.specs.declared.options.Compiled.{Compiled}

-- a header; msgid "a" with msgstr "b"; the same fuzzy; in the context "c" with a plural and two forms;
-- with an empty msgstr
abbrev pub header : TextEntry
header = plain_entry None [] None (codes "Language: de\n" ∷ [])

abbrev pub of_a : TextEntry
of_a = plain_entry None (codes "a") None (codes "b" ∷ [])

abbrev pub fuzzy_of_a : TextEntry
fuzzy_of_a = record of_a { fuzzy = true }

abbrev pub of_plural : TextEntry
of_plural = plain_entry (Some (codes "c")) (codes "a") (Some (codes "as")) (codes "x" ∷ codes "y" ∷ [])

abbrev pub untranslated_of_a : TextEntry
untranslated_of_a = plain_entry None (codes "a") None ([] ∷ codes "b" ∷ [])

abbrev pub several : List TextEntry
several =
    record header { fuzzy = true } ∷ of_a ∷ fuzzy_of_a ∷ record of_a { obsolete = true } ∷ untranslated_of_a ∷ of_plural
    ∷ []

pub entries_are_compiled : (map (is_compiled false) several ≡ true ∷ true ∷ false ∷ false ∷ false ∷ true ∷ [])
    × (map (is_compiled true) several ≡ true ∷ true ∷ true ∷ false ∷ false ∷ true ∷ [])
    × (compiled_list false several ≡ record header { fuzzy = true } ∷ of_a ∷ of_plural ∷ [])
entries_are_compiled = (refl, refl, refl)

pub message_of_entry : (plural_part None ∷ plural_part (Some (codes "as")) ∷ [] ≡ [] ∷ (0 ∷ 97 ∷ 115 ∷ []) ∷ [])
    × (original_of of_plural ∷ original_of of_a ∷ [] ≡ (99 ∷ 4 ∷ 97 ∷ 0 ∷ 97 ∷ 115 ∷ []) ∷ (97 ∷ []) ∷ [])
    × (translation_of of_plural ≡ 120 ∷ 0 ∷ 121 ∷ [])
    × (message_of of_a ≡ record { original = codes "a"; translation = codes "b" })
message_of_entry = (refl, refl, refl, refl)

pub keys_rise : (messages : List Message) → AreMessagesOf (of_a ∷ []) messages → AreRising (keys messages)
keys_rise messages are = are.rising

pub entries_mean : (definition several (Some (codes "c")) (codes "a") ∷ definition several None (codes "c")
    ∷ definition (record of_a { id = 4 ∷ [] } ∷ []) None (4 ∷ []) ∷ [] ≡ Some of_plural ∷ None ∷ None ∷ [])
    × (header_of (of_a ∷ header ∷ []) ∷ header_of (of_a ∷ []) ∷ [] ≡ codes "Language: de\n" ∷ [] ∷ [])
entries_mean = (refl, refl)

-- a rule that always selects form 1 of two
abbrev pub always_one : RuleView
always_one = record { source = Header; nplurals = 2; tree = Number 1 }

abbrev pub query_of_a : Query
query_of_a = record { context = None; id = codes "a"; plural = None }

abbrev pub query_in_c : Query
query_in_c = record { context = Some (codes "c"); id = codes "a"; plural = Some (codes "as", 3) }

pub answers_are_meant : map (meant (compiled_list false several) always_one) (query_of_a ∷ query_in_c ∷ [])
    ≡ record { text = codes "b"; found = true; steps = 0 } ∷ record { text = codes "y"; found = true; steps = 1 } ∷ []
answers_are_meant = refl

-- a file that means these entries answers with their forms
pub form_is_answered : (messages : List Message) (rule : RuleView) → MeansEntries (of_a ∷ []) messages
    → (answered (record { messages = messages; rule = rule }) query_of_a).text ≡ codes "b"
form_is_answered messages rule means = ap (λ answer. answer.text) (means.answers rule query_of_a)

pub layout_is_below_4_gib : (options : Options) (small : HasSmallLayout options (of_a ∷ []))
    → length (layout options.order small.messages) < 4294967296
layout_is_below_4_gib options small = small.small

abbrev pub without_fuzzy : Options
without_fuzzy = record { use_fuzzy = false; order = Little }

-- what is fuzzy isn't found in what is compiled
pub fuzzy_is_not_found : (compiled : Compiled) (rule : RuleView)
    (is : IsCompilation without_fuzzy (fuzzy_of_a ∷ []) compiled)
    → (answered (record { messages = is.laid_out.messages; rule = rule }) query_of_a).found ≡ false
fuzzy_is_not_found compiled rule is = ap (λ answer. answer.found) (is.means.answers rule query_of_a)

-- a message of two inputs
pub message_in_two_inputs : (texts : List (List ℕ)) → AreRead texts ((of_a ∷ []) ∷ (fuzzy_of_a ∷ []) ∷ []) → ⊥
message_in_two_inputs texts read = read.distinct 0 1 header (omega arith) (omega arith) (refl, refl)

pub layout_is_accepted : (options : Options) (texts : List (List ℕ))
    → AreAccepted options texts ((header ∷ []) ∷ (of_a ∷ []) ∷ [])
    → HasSmallLayout options (header ∷ of_a ∷ [])
layout_is_accepted options texts accepted = accepted.layout

pub joined_list_is_compiled : (options : Options) (texts : List (List ℕ)) (compiled : Compiled)
    (are : AreCompiled options texts compiled)
    → IsCompilation options (joined_entries are.catalogues) compiled
joined_list_is_compiled options texts compiled are = are.is_compiled

-- by the headline what is fuzzy isn't found in the layout of its messages
pub fuzzy_is_not_meant : (law : LookUpMeansEntries) (texts : List (List ℕ)) (messages : List Message) (rule : RuleView)
    → AreAccepted without_fuzzy texts ((fuzzy_of_a ∷ []) ∷ []) → AreMessagesOf [] messages
    → (answered (record { messages = messages; rule = rule }) query_of_a).found ≡ false
fuzzy_is_not_meant law texts messages rule accepted are =
    ap (λ answer. answer.found)
    ((law without_fuzzy texts ((fuzzy_of_a ∷ []) ∷ []) messages accepted are).1.answers rule query_of_a)

pub layout_of_4_gib : (options : Options) (large : HasLargeLayout options (of_a ∷ []))
    → 4294967296 ≤ length (layout options.order large.messages)
layout_of_4_gib options large = large.large

-- what is fuzzy counts, though it isn't compiled
pub all_are_counted : (texts : List (List ℕ)) (compiled : Compiled) (has : HasStatistics texts compiled)
    → has.catalogues ≡ (header ∷ of_a ∷ []) ∷ (header ∷ record of_plural { fuzzy = true } ∷ []) ∷ []
    → compiled.stats ≡ record { translated = 1; fuzzy = 1; untranslated = 0 }
all_are_counted texts compiled has are =
    has.stats ∙ ap (λ (catalogues : List (List TextEntry)). stats_of (joined_entries catalogues)) are

-- the second of three inputs has a fault; what the third has makes no difference
abbrev pub fault_on : ℕ → ℕ → JoinError
fault_on input line = record { input = input; first_input = input; error = record { kind = BadToken; line = line } }

pub second_is_reported : (a b c : List ℕ) → ReadsDistinct a (of_a ∷ []) → IsTextFault b (fault_on 1 3).error
    → IsReadingFault (a ∷ b ∷ c ∷ []) (fault_on 1 3)
second_is_reported a b c reads fault = inr (inl record {
  before = a ∷ [];
  text = b;
  after = c ∷ [];
  order = refl;
  catalogues = (of_a ∷ []) ∷ [];
  faultless = (reads, tt);
  input = refl;
  first_input = refl;
  fault = fault;
})

pub message_of_both : (a b : List ℕ) → ReadsDistinct a (of_a_on 2 ∷ obsolete_of_a ∷ [])
    → ReadsDistinct b (of_a_on 7 ∷ header ∷ [])
    → HasJoinedDuplicate (a ∷ b ∷ [])
    (record { input = 1; first_input = 0; error = record { kind = Duplicate 2; line = 7 } })
message_of_both a b reads others = record {
  catalogues = (of_a_on 2 ∷ obsolete_of_a ∷ []) ∷ (of_a_on 7 ∷ header ∷ []) ∷ [];
  each = (reads, (others, tt));
  first = in_input 0 (of_a_on 2);
  later = in_input 1 (of_a_on 7);
  duplicate = first_duplicate 0 1;
  error_is = refl;
}

pub large_is_reported : (options : Options) (texts : List (List ℕ)) (catalogues : List (List TextEntry))
    → AreRead texts catalogues → HasLargeLayout options (joined_entries catalogues)
    → IsCompileFault options texts
    (record { input = 0; first_input = 0; error = record { kind = TooLarge; line = 0 } })
large_is_reported options texts catalogues read large =
    inr record { catalogues = catalogues; read = read; large = large; error_is = refl }

-- what follows from the laws: texts that are accepted have no fault on line 3; those that have none are
-- accepted; two faults of an input are on one line
pub accepted_has_no_fault : (law : NoFaultWhereAccepted) (options : Options) (texts : List (List ℕ))
    (catalogues : List (List TextEntry)) → AreAccepted options texts catalogues
    → IsCompileFault options texts (fault_on 0 3) → ⊥
accepted_has_no_fault law options texts catalogues accepted fault =
    absurd (omega (
      arith,
      ap (λ (e : JoinError). e.error.line) (law options texts catalogues (fault_on 0 3) accepted fault),
    ))

pub faultless_is_accepted : (law : AcceptedOrFault) (options : Options) (texts : List (List ℕ))
    → ((error : JoinError) → IsCompileFault options texts error → error ≡ join_out_of_memory)
    → (catalogues : List (List TextEntry)) × AreAccepted options texts catalogues
faultless_is_accepted law options texts only =
    elim (law options texts) [ inl accepted ↦ accepted | inr fault ↦ absurd (fault.2 (only fault.0 fault.1)) ]

pub one_line_is_reported : (law : OneCompileFault) (options : Options) (texts : List (List ℕ)) (line other : ℕ)
    → IsCompileFault options texts (fault_on 1 line) → IsCompileFault options texts (fault_on 1 other) → line ≡ other
one_line_is_reported law options texts line other is is' =
    ap (λ (e : JoinError). e.error.line) (law options texts (fault_on 1 line) (fault_on 1 other) is is'
    (λ e. omega (arith, ap (λ (e : JoinError). e.input) e)) (λ e. omega (arith, ap (λ (e : JoinError). e.input) e)))
