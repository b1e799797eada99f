-- The first catalogue of a chain that translates a query.
use Rattle.mo_lookup.proofs.Prelude.{AnswerView, Bool, CatalogView, ChainAsksAll, ChainAsksUpToFirst, List, Message, None, NoneHas, Option, Query, Some, [], answer, answered, answering_nodes, ap, arith, asked, can_be_key, cases_Bool, chain_answered, chain_bound, chain_comparisons, drop, drop_all, find, find_at, forms_found, get_or, inl, inr, is_some, length, length-append, min, option_map_or, position_or_len, refl, slice_get, slice_get-get_or, slice_get_past, suc, sym, take, translated, translates, true, untranslated, ℕ, ◌*◌, ◌++◌, ◌+◌, ◌<◌, ◌∙◌, ◌∷◌, ◌≡◌, ◌≤◌}
use Rattle.std.proofs.Common.{if◌then◌else◌}
use Rattle.std.proofs.Math.Seq.{drop-cons}
use Rattle.plural_rule.specs.Prelude.{RuleView, nodes}

translated-found : (fs : List (List ℕ)) (rule : RuleView) (plural : Option (List ℕ × ℕ)) →
    (translated fs rule plural).found ≡ true
translated-found fs rule None = refl
translated-found fs rule (Some plural) = refl

answer-found : (fs : Option (List (List ℕ))) (rule : RuleView) (query : Query) →
    (answer fs rule query).found ≡ is_some fs
answer-found None rule query = refl
answer-found (Some fs) rule query = translated-found fs rule query.plural

-- what a catalogue answers says whether it translates the query
pub found-translates : (catalog : CatalogView) (query : Query) (view : AnswerView) → view ≡ answered catalog query →
    translates query catalog ≡ view.found
found-translates catalog query view is = sym (ap (λ (a : AnswerView). a.found) is ∙ answer-found _ catalog.rule query)

-- the catalogues before an index don't translate the query, and each was asked once
pub record HaveNot (query : Query) (chain : List CatalogView) (index began counted : ℕ) : Type 0 where
  pub first : index + position_or_len (translates query) (drop index chain) ≡ position_or_len (translates query) chain
  pub compared : counted ≡ began + chain_comparisons (take index chain) query
  pub bound : counted ≤ began + chain_bound (take index chain)
  pub at_most_32_each : counted ≤ began + 32 * index

pub HaveNot-all : (query : Query) (chain : List CatalogView) (index began counted : ℕ) →
    HaveNot query chain index began counted → length chain ≤ index → index ≤ length chain →
    position_or_len (translates query) chain ≡ length chain
HaveNot-all query chain index began counted none end inside =
    omega (arith, none.first, ap (position_or_len (translates query)) (drop_all index chain end), end, inside)

-- where the test holds of the element at an index, and of none before, that index is the first
first-at : (test : CatalogView → Bool) (chain : List CatalogView) (index : ℕ) (catalog : CatalogView) →
    index + position_or_len test (drop index chain) ≡ position_or_len test chain → index < length chain →
    catalog ≡ get_or chain index catalog → test catalog ≡ true → index ≡ position_or_len test chain
first-at test chain index catalog first inside is holds =
    let cut : drop index chain ≡ catalog ∷ drop (suc index) chain =
    drop-cons chain index catalog inside ∙ ap (λ x. x ∷ drop (suc index) chain) (sym is) in
    let none : position_or_len test (drop index chain) ≡ 0 = rw (cut, holds) refl in
    omega arith

module _ (chain : List CatalogView) (query : Query) where
  -- where no catalogue translates it, none is found
  pub none-found : position_or_len (translates query) chain ≡ length chain → find (translates query) chain ≡ None
  none-found none =
      find_at (translates query) chain ∙ ap (slice_get chain) none ∙ slice_get_past chain (length chain) (omega arith)

  -- where one does, it is the first
  module _ (index began counted : ℕ) (catalog : CatalogView) (none : HaveNot query chain index began counted)
      (inside : index < length chain) (is : catalog ≡ get_or chain index catalog)
      (holds : translates query catalog ≡ true) where
    here : index ≡ position_or_len (translates query) chain
    here = first-at (translates query) chain index catalog none.first inside is holds

    pub first-found : find (translates query) chain ≡ Some catalog
    first-found =
        find_at (translates query) chain ∙ ap (slice_get chain) (sym here)
        ∙ slice_get-get_or chain index catalog inside ∙ ap (λ x. Some x) (sym is)

-- what a chain answers, by the catalogue that is found
pub chain_answered-is : (chain : List CatalogView) (query : Query) (found : Option CatalogView) →
    find (translates query) chain ≡ found →
    option_map_or (λ catalog. answered catalog query) found (untranslated query) ≡ chain_answered chain query
chain_answered-is chain query found is =
    sym (ap (λ c. option_map_or (λ catalog. answered catalog query) c (untranslated query)) is)

pub nodes-answering : (chain : List CatalogView) (query : Query) (catalog : CatalogView) →
    find (translates query) chain ≡ Some catalog → answering_nodes chain query ≡ nodes catalog.rule.tree
nodes-answering chain query catalog is = ap (λ c. option_map_or (λ catalog. nodes catalog.rule.tree) c 0) is

-- the catalogues before the first that has the message
first-of : (before after : List CatalogView) (catalog : CatalogView) (query : Query) (forms : List (List ℕ))
    → NoneHas before query → forms_found catalog.messages query ≡ Some forms
    → (find (translates query) (before ++ catalog ∷ after) ≡ Some catalog)
    × (position_or_len (translates query) (before ++ catalog ∷ after) ≡ length before)
first-of [] after catalog query forms none has = rw has (refl, refl)
first-of (b ∷ before) after catalog query forms none has =
    let rest = first-of before after catalog query forms (λ i c is. none (suc i) c is) has in
    rw (none 0 b refl) (rest.0, omega (arith, rest.1))

none-of : (chain : List CatalogView) (query : Query) → NoneHas chain query
    → (find (translates query) chain ≡ None) × (position_or_len (translates query) chain ≡ length chain)
none-of [] query none = (refl, refl)
none-of (b ∷ chain) query none =
    let rest = none-of chain query (λ i c is. none (suc i) c is) in
    rw (none 0 b refl) (rest.0, omega (arith, rest.1))

-- where a catalogue has the message, the query can be a key
key-of-found : (messages : List Message) (query : Query) (forms : List (List ℕ))
    → forms_found messages query ≡ Some forms → can_be_key query.context query.id ≡ true
key-of-found messages query forms has =
    elim (cases_Bool (can_be_key query.context query.id)) [
      | inl is ↦ is
      | inr cannot ↦ absurd (let none = rw cannot at has in cc)
    ]

asked-where : (chain : List CatalogView) (query : Query) → can_be_key query.context query.id ≡ true
    → asked chain query ≡ min (length chain) (position_or_len (translates query) chain + 1)
asked-where chain query key =
    ap (λ can. if can then min (length chain) (position_or_len (translates query) chain + 1) else 0) key

pub asks-up-to-first : ChainAsksUpToFirst
asks-up-to-first before after catalog query forms none has =
    let chain = before ++ catalog ∷ after in
    let first = first-of before after catalog query forms none has in
    let key = key-of-found catalog.messages query forms has in
    let long : length chain ≡ length before + suc (length after) = length-append before (catalog ∷ after) in (
      asked-where chain query key ∙ omega (arith, first.1, long),
      ap (λ found. option_map_or (λ catalog. answered catalog query) found (untranslated query)) first.0,
      ap (λ found. option_map_or (λ catalog. nodes catalog.rule.tree) found 0) first.0,
    )

pub asks-all : ChainAsksAll
asks-all chain query key none =
    let all = none-of chain query none in (
      asked-where chain query key ∙ omega (arith, all.1),
      ap (λ found. option_map_or (λ catalog. answered catalog query) found (untranslated query)) all.0,
      ap (λ found. option_map_or (λ catalog. nodes catalog.rule.tree) found 0) all.0,
    )
