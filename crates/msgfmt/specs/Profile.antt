-- What `--profile-check` asks of the messages that are compiled: this project's own part of GNU msgfmt's
-- checks (manual, "Invoking the msgfmt Program": `--check-header`, `--check-format`; "Plural forms").
use Rattle.std.specs.Prelude.{◌≡◌, MatchOption, ℕ, ◌-◌, ◌==◌, slice_get, Bool, true, false, not, ◌&&◌, nat_lt, List, [], ◌∷◌, ◌++◌, length, find, map, Option, None, Some, if◌then◌else◌}
use Rattle.std.specs.List.{list_any, range_with_len}
use Rattle.std.specs.Option.{is_some, option_or, option_to_list, option_map_or}
use Rattle.mo_file.specs.Prelude.{key_of, context_of, forms, id_of, plural_of}
use Rattle.po_entry.specs.Prelude.{TextEntry, plain_entry, with_line, is_header, first_form, InputEntry}
use Rattle.po_compile.specs.Prelude.{CompiledView, compiled_view}
use Rattle.po_compile.specs.declared.messages.CompiledMessage.{CompiledMessage}
use Rattle.plural_rule.specs.Prelude.{value, RuleView, IsRuleOf, expression_limit}
use Rattle.plural_rule.specs.declared.rule.Source.{Source}
use Rattle.plural_rule.specs.declared.rule.Source.TheVariants.{Header, Default}
use Rattle.msgfmt.specs.declared.profile.End.{End}
use Rattle.msgfmt.specs.declared.profile.End.TheVariants.{Beginning, Ending}
use Rattle.msgfmt.specs.declared.profile.CheckFault.{CheckFault}
use Rattle.msgfmt.specs.declared.profile.CheckFault.TheVariants.{NoHeader, NoRule, FormCount, LeadingNewline, TrailingNewline, Undefined, IndexOutside}

-- the texts that are taken from the message of an entry, with its input and line
abbrev pub taken_entry : CompiledView → InputEntry
taken_entry m = record {
  input = m.input;
  entry =
      with_line m.line
      (plain_entry (context_of (key_of m.message.original)) (id_of (key_of m.message.original))
      (plural_of m.message.original) (forms m.message.translation));
}

abbrev pub checked_message : CompiledMessage → InputEntry
checked_message m = taken_entry (compiled_view m)

abbrev pub checked_messages : List CompiledMessage → List InputEntry
checked_messages messages = map checked_message messages

-- a fault, with the input that it is reported of, counted from 0; one that is of all inputs
-- together is reported of the first
abbrev pub Reported : Type 0
Reported = ℕ × CheckFault

-- the first that f gives for an element of a list, or none where it gives none
abbrev pub first_some : {A B : Type 0} → (A → Option B) → List A → Option B
first_some f [] = None
first_some f (x ∷ xs) = option_or (f x) (first_some f xs)

-- the entry has a plural
abbrev pub is_plural : InputEntry → Bool
is_plural e = is_some e.entry.plural

-- the entry is a header; of entries without a duplicate at most one is
abbrev pub is_header_entry : InputEntry → Bool
is_header_entry e = is_header e.entry

-- the fault of an entry with a plural, where the header has no readable rule
abbrev pub source_fault : Source → InputEntry → Option Reported
source_fault Header e = None
source_fault (Default reason) e = Some (e.input, NoRule e.entry.line reason)

-- reported of the first entry with a plural, a header too; without one no rule is asked for
abbrev pub rule_fault : Source → Option InputEntry → Option Reported
rule_fault source None = None
rule_fault source (Some e) = source_fault source e

-- the byte at an end of a text, where it has one
abbrev pub end_byte : End → List ℕ → Option ℕ
end_byte Beginning text = slice_get text 0
end_byte Ending text = slice_get text (length text - 1)

-- a text begins, or ends, with a newline (LF); an empty one doesn't
abbrev pub has_newline : End → List ℕ → Bool
has_newline end text = option_map_or (λ b. b == 10) (end_byte end text) false

-- one of two is true, and the other isn't
abbrev pub differ : Bool → Bool → Bool
differ true b = not b
differ false b = b

-- the plural or a form differs from the msgid in having a newline there
abbrev pub differs_from_msgid : End → TextEntry → Bool
differs_from_msgid end entry =
    list_any (λ text. differ (has_newline end entry.id) (has_newline end text))
    (option_to_list entry.plural ++ entry.forms)

-- the fault of an entry but the header: it has a plural, and not as many forms as the rule; or its
-- plural or a form differs from its msgid in having a newline at the beginning, or else at the end
abbrev pub entry_fault : ℕ → InputEntry → Option Reported
entry_fault nplurals e =
    if is_header_entry e then None
    else if is_plural e && not (length e.entry.forms == nplurals) then Some (e.input, FormCount e.entry.line)
    else if differs_from_msgid Beginning e.entry then Some (e.input, LeadingNewline e.entry.line)
    else if differs_from_msgid Ending e.entry then Some (e.input, TrailingNewline e.entry.line)
    else None

-- the fault of a rule's value at a count, which has to be defined and below nplurals
abbrev pub value_fault : ℕ → ℕ → Option ℕ → Option Reported
value_fault nplurals count None = Some (0, Undefined count)
value_fault nplurals count (Some index) = if nat_lt index nplurals then None else Some (0, IndexOutside count)

-- what is wrong with the rule's value at a count
abbrev pub count_fault : RuleView → ℕ → Option Reported
count_fault rule count = value_fault rule.nplurals count (value rule.tree count)

-- the counts from 0 to below the end
unfoldable pub counts_below : ℕ → List ℕ
counts_below end = range_with_len 0 end

-- The first fault of the messages that are compiled and have a header, with its rule: that of the
-- rule; that of an entry, in order; and where an entry has a plural, that of a value of the rule,
-- at the counts from 0 to 1,000.
abbrev pub first_fault : List InputEntry → RuleView → Option Reported
first_fault entries rule =
    let plural = find is_plural entries in
    option_or (rule_fault rule.source plural)
    (option_or (first_some (entry_fault rule.nplurals) entries)
    (if is_some plural then first_some (count_fault rule) (counts_below 1001) else None))

-- The first fault of the messages that are compiled, or none: that there is no header, or their
-- first fault by the rule of the header.
abbrev pub IsChecked : List InputEntry → Option Reported → Type 0
IsChecked entries fault =
    MatchOption (find is_header_entry entries) (fault ≡ Some (0, NoHeader))
    (λ header. (rule : RuleView) × IsRuleOf expression_limit (first_form header.entry.forms) rule
    × (fault ≡ first_fault entries rule))
