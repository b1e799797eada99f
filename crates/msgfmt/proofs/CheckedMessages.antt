-- The check of messages is that of the entries that are compiled to them.
use Rattle.msgfmt.proofs.Prelude.{All, All-cons, All-filter, All-head, All-nil, All-tail, AreChecked, Bool, CompiledMessage, Default, Header, InputEntry, IsCatalogueEntry, IsChecked, IsEntry, IsRuleOf, List, MatchOption, NoHeader, None, Option, Reported, RuleView, Some, Source, TextEntry, TextsComeBack, [], ap, ap₂, checked_message, checked_messages, compiled_inputs, compiled_message, compiled_view, cond, count_fault, counts_below, entries_of, entry_fault, expression_limit, false, find, first_fault, first_form, first_some, forms, id_of, if◌then◌else◌, is_compiled, is_header_entry, is_plural, is_some, joined, joined_entries, key_of, map, option_or, original_of, plain_entry, plural_of, refl, rule_fault, subst, sym, taken_entry, translation_of, true, with_line, ℕ, ◌∙◌, ◌∷◌, ◌≡◌}
use Rattle.std.specs.Borrow.{Bor}
use Rattle.std.specs.Option.{option_map}
use Rattle.po_syntax.specs.Facts.Mapped.{find_map}

-- what the check sees of an entry
abbrev seen : InputEntry → InputEntry
seen e = record {
  input = e.input;
  entry =
      with_line e.entry.line (plain_entry e.entry.context e.entry.id e.entry.plural e.entry.forms);
}

-- the texts that are taken from the message of an entry are the entry's
taken_is_seen : TextsComeBack → (e : InputEntry) → IsEntry e.entry → taken_entry (compiled_message e) ≡ seen e
taken_is_seen come_back e valid =
    let back = come_back e.entry valid in
    let original = original_of e.entry in
    let Of : Option (List ℕ) → List ℕ → Option (List ℕ) → List (List ℕ)
    → InputEntry = λ context id plural all.
    record { input = e.input; entry = with_line e.entry.line (plain_entry context id plural all) } in
    ap (λ c. Of c (id_of (key_of original)) (plural_of original) (forms (translation_of e.entry))) back.context
    ∙ ap (λ i. Of e.entry.context i (plural_of original) (forms (translation_of e.entry))) back.id
    ∙ ap (λ p. Of e.entry.context e.entry.id p (forms (translation_of e.entry))) back.plural
    ∙ ap (Of e.entry.context e.entry.id e.entry.plural) back.forms_are

abbrev IsValid : InputEntry → Type 0
IsValid e = IsEntry e.entry

all_seen : TextsComeBack → (entries : List InputEntry) → All IsValid entries
    → map taken_entry (map compiled_message entries) ≡ map seen entries
all_seen come_back [] valid = refl
all_seen come_back (e ∷ entries) valid =
    ap₂ (λ x xs. x ∷ xs) (taken_is_seen come_back e (All-head IsValid e entries valid))
    (all_seen come_back entries (All-tail IsValid e entries valid))

views : (messages : List CompiledMessage) → checked_messages messages ≡ map taken_entry (map compiled_view messages)
views [] = refl
views (m ∷ messages) = ap (λ xs. checked_message m ∷ xs) (views messages)

found_seen : (test : InputEntry → Bool) → ((e : InputEntry) → test (seen e) ≡ test e) → (entries : List InputEntry)
    → find test (map seen entries) ≡ option_map seen (find test entries)
found_seen test same [] = refl
found_seen test same (e ∷ entries) =
    ap (λ b. cond b (Some (seen e)) (find test (map seen entries))) (same e)
    ∙ one (test e) (found_seen test same entries) where
      one : (b : Bool) → find test (map seen entries) ≡ option_map seen (find test entries)
          → cond b (Some (seen e)) (find test (map seen entries))
          ≡ option_map seen (cond b (Some e) (find test entries))
      one true more = refl
      one false more = more

faults_seen : (nplurals : ℕ) (entries : List InputEntry)
    → first_some (entry_fault nplurals) (map seen entries) ≡ first_some (entry_fault nplurals) entries
faults_seen nplurals [] = refl
faults_seen nplurals (e ∷ entries) = ap (option_or (entry_fault nplurals e)) (faults_seen nplurals entries)

rule_seen : (source : Source) (plural : Option InputEntry)
    → rule_fault source (option_map seen plural) ≡ rule_fault source plural
rule_seen source None = refl
rule_seen Header (Some e) = refl
rule_seen (Default reason) (Some e) = refl

some_seen : (plural : Option InputEntry) → is_some (option_map seen plural) ≡ is_some plural
some_seen None = refl
some_seen (Some e) = refl

module _ (entries : List InputEntry) (rule : RuleView) where
  abbrev in_order : Option Reported → Option Reported → Bool → Option Reported
  in_order of_rule of_entries has_plural =
      option_or of_rule (option_or of_entries
      (if has_plural then first_some (count_fault rule) (counts_below 1001) else None))

  fault_seen : first_fault (map seen entries) rule ≡ first_fault entries rule
  fault_seen =
      let f = entry_fault rule.nplurals in
      let plural = find is_plural entries in
      ap (λ p. in_order (rule_fault rule.source p) (first_some f (map seen entries)) (is_some p))
      (found_seen is_plural (λ e. refl) entries)
      ∙ ap (λ r. in_order r (first_some f (map seen entries)) (is_some (option_map seen plural)))
      (rule_seen rule.source plural)
      ∙ ap (λ r. in_order (rule_fault rule.source plural) r (is_some (option_map seen plural)))
      (faults_seen rule.nplurals entries)
      ∙ ap (in_order (rule_fault rule.source plural) (first_some f entries)) (some_seen plural)

-- what a header found or not found says of the check's fault
abbrev pub CheckedBy : List InputEntry → Option Reported → Option InputEntry → Type 0
CheckedBy entries fault header =
    MatchOption header (fault ≡ Some (0, NoHeader))
    (λ header. (rule : RuleView) × IsRuleOf expression_limit (first_form header.entry.forms) rule
    × (fault ≡ first_fault entries rule))

check_seen : (entries : List InputEntry) (fault : Option Reported) (header : Option InputEntry)
    → CheckedBy (map seen entries) fault (option_map seen header) → CheckedBy entries fault header
check_seen entries fault None h = h
check_seen entries fault (Some e) h = (h.0, h.1, h.2 ∙ fault_seen entries h.0)

all_entries : (entries : List InputEntry) → All IsCatalogueEntry (entries_of entries) → All IsValid entries
all_entries [] valid = All-nil IsValid
all_entries (e ∷ entries) valid =
    All-cons IsValid e entries (All-head IsCatalogueEntry e.entry (entries_of entries) valid).valid
    (all_entries entries (All-tail IsCatalogueEntry e.entry (entries_of entries) valid))

pub checked : TextsComeBack
    → (use_fuzzy : Bool) (catalogues : List (List TextEntry)) (messages : List CompiledMessage)
    (fault : Option Reported) → All IsCatalogueEntry (joined_entries catalogues)
    → map compiled_view messages ≡ map compiled_message (compiled_inputs use_fuzzy (joined catalogues))
    → IsChecked (checked_messages messages) fault → AreChecked use_fuzzy catalogues fault
checked come_back use_fuzzy catalogues messages fault valid made found =
    let entries = compiled_inputs use_fuzzy (joined catalogues) in
    let all : All IsValid entries =
    All-filter (λ e. is_compiled use_fuzzy e.entry) IsValid (joined catalogues)
    (all_entries (joined catalogues) valid) in
    let same : checked_messages messages ≡ map seen entries =
    views messages ∙ ap (map taken_entry) made ∙ all_seen come_back entries all in
    let of_seen : IsChecked (map seen entries) fault = subst (λ es. IsChecked es fault) same found in
    check_seen entries fault (find is_header_entry entries)
    (subst (CheckedBy (map seen entries) fault) (found_seen is_header_entry (λ e. refl) entries) of_seen)

-- the first message that passes a test is the first entry that does
pub found_checked : (p : InputEntry → Bool) (messages : List CompiledMessage) (found : Option (Bor CompiledMessage))
    → option_map (λ m. m.now) found ≡ find (λ m. p (checked_message m)) messages
    → option_map (λ m. checked_message m.now) found ≡ find p (checked_messages messages)
found_checked p messages found is =
    both found ∙ ap (option_map checked_message) is ∙ sym (find_map p checked_message messages) where
      both : (r : Option (Bor CompiledMessage))
          → option_map (λ m. checked_message m.now) r ≡ option_map checked_message (option_map (λ m. m.now) r)
      both None = refl
      both (Some m) = refl
