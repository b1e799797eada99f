-- What the check of a profile reports first, with a case for each fault (manual, "Invoking the
-- msgfmt Program": the checks of msgfmt).
use Rattle.std.specs.Prelude.{◌≡◌, ◌≢◌, ◌⊎◌, ℕ, ◌<◌, ◌≤◌, false, List, [], ◌∷◌, ◌++◌, length, All, Contains, None, Some}
use Rattle.std.specs.Option.{option_to_list}
use Rattle.po_entry.specs.Prelude.{TextEntry, is_header, InputEntry}
use Rattle.plural_rule.specs.Prelude.{value, RuleView}
use Rattle.plural_rule.specs.declared.rule.Reason.{Reason}
use Rattle.plural_rule.specs.declared.rule.Source.TheVariants.{Header, Default}
use Rattle.msgfmt.specs.declared.profile.End.{End}
use Rattle.msgfmt.specs.declared.profile.End.TheVariants.{Beginning, Ending}
use Rattle.msgfmt.specs.declared.profile.CheckFault.{CheckFault}
use Rattle.msgfmt.specs.declared.profile.CheckFault.TheVariants.{NoRule, FormCount, LeadingNewline, TrailingNewline}
use Rattle.msgfmt.specs.declared.profile.CheckFault.TheVariants.{Undefined, IndexOutside}
use Rattle.msgfmt.specs.Profile.{Reported}

-- the text begins, or ends, with a newline
abbrev pub HasNewline : End → List ℕ → Type 0
HasNewline Beginning text = (rest : List ℕ) × (text ≡ 10 ∷ rest)
HasNewline Ending text = (prefix : List ℕ) × (text ≡ prefix ++ 10 ∷ [])

-- one of two texts has a newline there, and the other has none
abbrev pub Differ : End → List ℕ → List ℕ → Type 0
Differ end a b = (HasNewline end a × (HasNewline end b → ⊥)) ⊎ ((HasNewline end a → ⊥) × HasNewline end b)

-- the plural or a form differs from the msgid in having a newline there
abbrev pub DiffersAt : End → TextEntry → Type 0
DiffersAt end entry =
    (text : List ℕ) × Contains (option_to_list entry.plural ++ entry.forms) text × Differ end entry.id text

-- the entry has a plural, and not so many forms
abbrev pub HasOtherCount : ℕ → TextEntry → Type 0
HasOtherCount nplurals entry = (entry.plural ≢ None) × (length entry.forms ≢ nplurals)

-- the fault of an entry, where the rule has so many forms: the first that holds
pub data EntryFault (nplurals : ℕ) (entry : TextEntry) : CheckFault → Type 0 where
  count : HasOtherCount nplurals entry → EntryFault nplurals entry (FormCount entry.line)
  leading : (HasOtherCount nplurals entry → ⊥) → DiffersAt Beginning entry
      → EntryFault nplurals entry (LeadingNewline entry.line)
  trailing : (HasOtherCount nplurals entry → ⊥) → (DiffersAt Beginning entry → ⊥) → DiffersAt Ending entry
      → EntryFault nplurals entry (TrailingNewline entry.line)

-- an entry other than the header has this fault, which is reported of its input
pub record HasProfileFault (nplurals : ℕ) (e : InputEntry) (reported : Reported) : Type 0 where
  pub no_header : is_header e.entry ≡ false
  pub fault : EntryFault nplurals e.entry reported.1
  pub input : reported.0 ≡ e.input

abbrev pub HasNoFault : ℕ → InputEntry → Type 0
HasNoFault nplurals e = (reported : Reported) → HasProfileFault nplurals e reported → ⊥

-- the fault of a rule's value at a count: it has none, or it is no index of a form
pub data CountFault (rule : RuleView) (n : ℕ) : CheckFault → Type 0 where
  undefined : value rule.tree n ≡ None → CountFault rule n (Undefined n)
  outside : {index : ℕ} → value rule.tree n ≡ Some index → rule.nplurals ≤ index → CountFault rule n (IndexOutside n)

abbrev pub HasNoCountFault : RuleView → ℕ → Type 0
HasNoCountFault rule n = (fault : CheckFault) → CountFault rule n fault → ⊥

abbrev pub HasPlural : InputEntry → Type 0
HasPlural e = e.entry.plural ≢ None

-- the first of a list of which this holds
pub record IsFirst {X : Type 0} (P : X → Type 0) (list : List X) (x : X) : Type 0 where
  pub before : List X
  pub after : List X
  pub whole : list ≡ before ++ x ∷ after
  pub holds : P x
  pub none_before : All (λ o. P o → ⊥) before

-- the header has a readable rule, or no entry has a plural
abbrev pub NeedsNoOtherRule : List InputEntry → RuleView → Type 0
NeedsNoOtherRule entries rule = (rule.source ≡ Header) ⊎ All (λ e. HasPlural e → ⊥) entries

-- The first fault of messages that have a header with this rule: no readable rule where an entry
-- has a plural; then the first entry's; then, where an entry has a plural, that of the least count
-- up to 1,000.
pub data FirstFault (entries : List InputEntry) (rule : RuleView) : Reported → Type 0 where
  no_rule : {e : InputEntry} {reason : Reason} → IsFirst HasPlural entries e → rule.source ≡ Default reason
      → FirstFault entries rule (e.input, NoRule e.entry.line reason)
  in_entry : {e : InputEntry} {reported : Reported} → NeedsNoOtherRule entries rule
      → IsFirst (λ o. (other : Reported) × HasProfileFault rule.nplurals o other) entries e
      → HasProfileFault rule.nplurals e reported → FirstFault entries rule reported
  at_count : {e : InputEntry} {fault : CheckFault} (least : ℕ) → IsFirst HasPlural entries e → rule.source ≡ Header
      → All (HasNoFault rule.nplurals) entries → least ≤ 1000
      → ((n : ℕ) → n < least → HasNoCountFault rule n) → CountFault rule least fault
      → FirstFault entries rule (0, fault)
