-- What one message of valid inputs is merged to.
use Rattle.msgcat.proofs.Prelude.{All, All-append, All-filter, All-head, All-map, All-nil, All-tail, All-weaker, Bool, CanBeMerged, Contains, FormsAreOfOne, IsDefinition, IsEntry, IsGroup, IsInput, List, MergeOptions, MergedAreEntries, MergedCanStand, Named, NamedEntry, OneDefinitionStays, TextEntry, [], all_entries, ap, arith, definitions, false, filter, first_translated, get_or, get_or-map, groups, has_translation, if◌then◌else◌, is_kept, is_live, joined_forms, length, length-map, list_any, map, merged_entry, merged_messages, messages, named, not, refl, subst, sym, translations, true, ℕ, ◌<◌, ◌∙◌, ◌∷◌, ◌≡◌}
use Rattle.msgcat.proofs.InputEntries.{definitions_more}
use Rattle.msgcat.proofs.ValidMerged.{first_with_keeps, merged_is_entry}
use Rattle.msgcat.proofs.MergedGroups.{definitions_valid, groups_valid, kept_one}
use Rattle.msgcat.proofs.OneDefinition.{one_definition}
use Rattle.msgcat.proofs.EntryLaws.{obsolete_where_none_is_live}
use Rattle.msgcat.proofs.GroupsByIndex.{group_valid, message_at, message_can}

inputs_valid : (inputs : List Named) → All IsInput inputs → All IsDefinition (all_entries inputs)
inputs_valid [] h = All-nil IsDefinition
inputs_valid (input ∷ inputs) h =
    let here = All-head IsInput input inputs h in
    All-append IsDefinition (map (named input.name) input.entries) (all_entries inputs)
    (definitions_more [] input.name input.entries (All-nil IsDefinition) here.name.utf8 here.name.no_nul here.entries)
    (inputs_valid inputs (All-tail IsInput input inputs h))

pub merged_entries : (o : MergeOptions) (inputs : List Named) → MergedAreEntries o inputs
merged_entries o inputs h =
    let all = groups_valid (all_entries inputs) (inputs_valid inputs h) in
    let valid : All IsGroup (messages inputs) =
    All-map IsGroup definitions (groups (all_entries inputs))
    (All-weaker IsGroup (λ g. IsGroup (definitions g)) definitions_valid (groups (all_entries inputs)) all) in
    let kept = filter (is_kept o) (messages inputs) in
    All-map IsEntry (merged_entry o) kept
    (All-weaker IsGroup (λ ds. IsEntry (merged_entry o ds)) (λ ds g. merged_is_entry o ds g.some g.valid) kept
    (All-filter (is_kept o) IsGroup (messages inputs) valid))

pub merged_can_stand : (o : MergeOptions) (inputs : List Named) → MergedCanStand o inputs
merged_can_stand o inputs h charsets =
    λ k d below. record { valid = merged_entries o inputs h k d below; charset = charsets k d below }

pub one_stays : (o : MergeOptions) (definition : NamedEntry) → OneDefinitionStays o definition
one_stays o definition = one_definition o definition

pub forms_of_one : (o : MergeOptions) (ds : List NamedEntry) → FormsAreOfOne o ds
forms_of_one o ds some apart =
    let forms_of : NamedEntry → List (List ℕ) = λ d. d.entry.forms in
    let among : All (λ d. Contains (map forms_of ds) d.entry.forms) ds =
    λ k d below. (
      k,
      omega (arith, below, length-map ds forms_of),
      get_or-map forms_of ds k d (forms_of (get_or ds k d)) below,
    ) in
    subst (λ (b : Bool). Contains (map forms_of ds)
    (if b then joined_forms (translations ds) else (first_translated ds).forms)) (sym apart)
    (first_with_keeps (λ e. Contains (map forms_of ds) e.forms) has_translation ds some among)

-- a message with one definition
module _ (o : MergeOptions) (message : List NamedEntry) (name : List ℕ) (entry : TextEntry)
    (is : message ≡ named name entry ∷ []) where
  pub only_kept : is_kept o (named name entry ∷ []) ≡ true → entry ∷ [] ≡ merged_messages o (message ∷ [])
  only_kept some =
      sym (ap (λ l. merged_messages o (l ∷ [])) is ∙ kept_one o (named name entry ∷ []) some
      ∙ ap (λ e. e ∷ []) (one_definition o (named name entry)))

  pub left_out : is_kept o (named name entry ∷ []) ≡ false → [] ≡ merged_messages o (message ∷ [])
  left_out none = rw (is, none) refl

module _ (read : List Named) (i : ℕ) (group : List NamedEntry) (inside : i < length (messages read))
    (is : group ≡ get_or (groups (all_entries read)) i []) where
  -- whether the entry is obsolete
  pub message_obsolete : (o : MergeOptions) → All CanBeMerged (all_entries read)
      → not (list_any (λ d. is_live d.entry) group) ≡ (merged_entry o (get_or (messages read) i [])).obsolete
  message_obsolete o can =
      sym (ap (λ l. (merged_entry o l).obsolete) (sym (message_at read i group inside is))
      ∙ obsolete_where_none_is_live o group (group_valid read i group inside is can).some)

  -- the definitions of a message that is kept
  module _ (kept : List NamedEntry) (are : kept ≡ definitions group) where
    pub kept_message : (o : MergeOptions) → is_kept o kept ≡ true
        → merged_entry o kept ∷ [] ≡ merged_messages o (get_or (messages read) i [] ∷ [])
    kept_message o some =
        sym (ap (λ l. merged_messages o (l ∷ [])) (sym (are ∙ message_at read i group inside is))
        ∙ kept_one o kept some)

    pub kept_can : All CanBeMerged (all_entries read) → All CanBeMerged kept
    kept_can can = subst (All CanBeMerged) (sym are) (message_can read i group inside is can)
