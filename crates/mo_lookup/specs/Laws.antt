-- What is found under a key in a list of messages, and whom a chain asks (GNU gettext manual, "The
-- Format of GNU MO Files" and "Specifying a Priority List of Languages").
use Rattle.std.specs.Prelude.{◌≡◌, ◌≢◌, ◌↔◌, ℕ, ◌+◌, ◌<◌, List, ◌∷◌, ◌++◌, None, Some, true, false, length, slice_get}
use Rattle.plural_rule.specs.Prelude.{nodes}
use Rattle.mo_file.specs.Prelude.{Message, translations, AreRising, key_at, keys}
use Rattle.mo_lookup.specs.Query.{Query, can_be_key}
use Rattle.mo_lookup.specs.Answer.{untranslated}
use Rattle.mo_lookup.specs.CatalogView.{CatalogView, answered, forms_found, translation_under}
use Rattle.mo_lookup.specs.Chain.{answering_nodes, asked, chain_answered}

-- a text contains neither a NUL nor an EOT (4)
abbrev pub LacksNulAndEot : List ℕ → Type 0
LacksNulAndEot text = (i : ℕ) → (slice_get text i ≢ Some 0) × (slice_get text i ≢ Some 4)

-- exactly the texts that contain neither can be a key: the msgid, and the context where there is one
abbrev pub KeysLackNulAndEot : Type 0
KeysLackNulAndEot =
    ((id : List ℕ) → can_be_key None id ≡ true ↔ LacksNulAndEot id)
    × ((context id : List ℕ) → can_be_key (Some context) id ≡ true ↔ (LacksNulAndEot context × LacksNulAndEot id))

-- the key of a message finds the translation of that message, where the keys rise
abbrev pub EachKeyFindsItsTranslation : Type 0
EachKeyFindsItsTranslation =
    (messages : List Message) (i : ℕ) → AreRising (keys messages) → i < length (keys messages) →
    translation_under (key_at (keys messages) i) messages ≡ slice_get (translations messages) i

-- a key that no message has finds none
abbrev pub OtherKeysFindNone : Type 0
OtherKeysFindNone =
    (messages : List Message) (key : List ℕ) → ((i : ℕ) → i < length (keys messages) → key_at (keys messages) i ≢ key) →
    translation_under key messages ≡ None

-- no catalogue of a list has the message that a query asks for
abbrev pub NoneHas : List CatalogView → Query → Type 0
NoneHas chain query =
    (i : ℕ) (catalog : CatalogView) → slice_get chain i ≡ Some catalog → forms_found catalog.messages query ≡ None

-- a chain asks its catalogues up to the first that has the message, and that one answers
abbrev pub ChainAsksUpToFirst : Type 0
ChainAsksUpToFirst =
    (before after : List CatalogView) (catalog : CatalogView) (query : Query) (forms : List (List ℕ)) →
    NoneHas before query → forms_found catalog.messages query ≡ Some forms →
    (asked (before ++ catalog ∷ after) query ≡ length before + 1)
    × (chain_answered (before ++ catalog ∷ after) query ≡ answered catalog query)
    × (answering_nodes (before ++ catalog ∷ after) query ≡ nodes catalog.rule.tree)

-- it asks all where none has it, and then none answers
abbrev pub ChainAsksAll : Type 0
ChainAsksAll =
    (chain : List CatalogView) (query : Query) → can_be_key query.context query.id ≡ true → NoneHas chain query →
    (asked chain query ≡ length chain) × (chain_answered chain query ≡ untranslated query)
    × (answering_nodes chain query ≡ 0)

-- it asks none where the query can't be a key
abbrev pub ChainAsksNone : Type 0
ChainAsksNone =
    (chain : List CatalogView) (query : Query) → can_be_key query.context query.id ≡ false →
    (asked chain query ≡ 0) × (chain_answered chain query ≡ untranslated query)
