-- Laws of compiling: what is looked up in a compiled catalogue is what its entries mean (manual,
-- "Invoking the msgfmt Program" and "The Format of GNU MO Files").
use Rattle.std.specs.Prelude.{◌≡◌, ◌≢◌, ◌⊎◌, ℕ, List, All}
use Rattle.mo_file.specs.Prelude.{Message, layout, IsMoFile}
use Rattle.po_entry.specs.Prelude.{TextEntry, IsEntry, joined_entries, join_out_of_memory, IsTextFault, ReadsDistinct}
use Rattle.po_compile.specs.Compiling.{compiled_list, AreMessagesOf, MeansEntries}
use Rattle.po_entry.specs.declared.duplicate.JoinError.{JoinError}
use Rattle.po_syntax.specs.declared.fault.PoError.{PoError}
use Rattle.po_compile.specs.Accepted.{AreAccepted, AreRead, IsCompileFault}
use Rattle.po_compile.specs.declared.options.Options.{Options}

-- entries have one list of messages in rising order of keys
abbrev pub MessagesAreOne : Type 0
MessagesAreOne =
    (entries : List TextEntry) (messages others : List Message) → AreMessagesOf entries messages
    → AreMessagesOf entries others → messages ≡ others

-- the messages of entries mean these entries
abbrev pub MessagesMeanEntries : Type 0
MessagesMeanEntries =
    (entries : List TextEntry) (messages : List Message) → All IsEntry entries
    → AreMessagesOf entries messages → MeansEntries entries messages

-- For texts that are accepted: the layout of their messages is a valid file, and what is looked up
-- in it is what their entries mean.
abbrev pub LookUpMeansEntries : Type 0
LookUpMeansEntries =
    (options : Options) (texts : List (List ℕ)) (catalogues : List (List TextEntry)) (messages : List Message)
    → AreAccepted options texts catalogues
    → AreMessagesOf (compiled_list options.use_fuzzy (joined_entries catalogues)) messages
    → IsMoFile options.order (layout options.order messages) messages
    × MeansEntries (compiled_list options.use_fuzzy (joined_entries catalogues)) messages

-- Texts that are accepted have no fault; what may be reported in place of their file is out of
-- memory alone.
abbrev pub NoFaultWhereAccepted : Type 0
NoFaultWhereAccepted =
    (options : Options) (texts : List (List ℕ)) (catalogues : List (List TextEntry)) (error : JoinError)
    → AreAccepted options texts catalogues → IsCompileFault options texts error → error ≡ join_out_of_memory

-- Texts are accepted or have a fault, which is not out of memory.
abbrev pub AcceptedOrFault : Type 0
AcceptedOrFault =
    (options : Options) (texts : List (List ℕ))
    → ((catalogues : List (List TextEntry)) × AreAccepted options texts catalogues)
    ⊎ ((error : JoinError) × IsCompileFault options texts error × (error ≢ join_out_of_memory))

-- Texts have at most one fault, of one input on one line, beside out of memory.
abbrev pub OneCompileFault : Type 0
OneCompileFault =
    (options : Options) (texts : List (List ℕ)) (error other : JoinError)
    → IsCompileFault options texts error → IsCompileFault options texts other
    → error ≢ join_out_of_memory → other ≢ join_out_of_memory → error ≡ other

-- Texts are read as one list of catalogues.
abbrev pub CataloguesAreOne : Type 0
CataloguesAreOne =
    (texts : List (List ℕ)) (catalogues others : List (List TextEntry)) → AreRead texts catalogues
    → AreRead texts others → catalogues ≡ others

-- a text has at most one fault
abbrev pub OneTextFault : Type 0
OneTextFault = (text : List ℕ) (error other : PoError) → IsTextFault text error → IsTextFault text other → error ≡ other

-- a text that reads as entries without a duplicate has no fault
abbrev pub NoFaultWhereDistinct : Type 0
NoFaultWhereDistinct = (text : List ℕ) (entries : List TextEntry) (error : PoError) → ReadsDistinct text entries
    → IsTextFault text error → ⊥
