-- Which texts are accepted, and which fault is reported of those that aren't (manual, "The Format
-- of PO Files" and "Invoking the msgfmt Program").
use Rattle.std.specs.Prelude.{◌≡◌, ◌⊎◌, ℕ, List, ◌∷◌, ◌++◌, length}
use Rattle.std.specs.List.{AllZip}
use Rattle.po_syntax.specs.declared.fault.PoError.{PoError}
use Rattle.po_syntax.specs.declared.fault.PoFault.{PoFault}
use Rattle.po_syntax.specs.declared.fault.PoFault.TheVariants.{OutOfMemory}
use Rattle.po_entry.specs.Prelude.{TextEntry, InputEntry, joined, joined_entries, HasNoDuplicate, IsFirstDuplicate, duplicate_fault, join_out_of_memory, IsTextFault, ReadsDistinct, stats_of}
use Rattle.po_entry.specs.declared.duplicate.JoinError.{JoinError}
use Rattle.po_compile.specs.Compiling.{IsCompilation, HasLargeLayout, HasSmallLayout, layout_fault}
use Rattle.po_compile.specs.declared.options.Options.{Options}
use Rattle.po_compile.specs.declared.options.Compiled.{Compiled}

-- the texts read as these catalogues, in each of which and in whose joined list no two live entries
-- are of one message
pub record AreRead (texts : List (List ℕ)) (catalogues : List (List TextEntry)) : Type 0 where
  pub each : AllZip ReadsDistinct texts catalogues
  pub distinct : HasNoDuplicate (joined_entries catalogues)

-- Under these options (byte order, and whether fuzzy entries are compiled) the texts, which read as
-- these catalogues, are accepted. Texts from which no entry is compiled are too.
pub record AreAccepted (options : Options) (texts : List (List ℕ)) (catalogues : List (List TextEntry)) : Type 0 where
  pub read : AreRead texts catalogues
  pub layout : HasSmallLayout options (joined_entries catalogues)

-- this is what the joined list of these texts, which are accepted, is compiled to
pub record AreCompiled (options : Options) (texts : List (List ℕ)) (compiled : Compiled) : Type 0 where
  pub catalogues : List (List TextEntry)
  pub read : AreRead texts catalogues
  pub is_compiled : IsCompilation options (joined_entries catalogues) compiled

-- with the file go the statistics of all entries of the joined list of these texts, compiled or not
pub record HasStatistics (texts : List (List ℕ)) (compiled : Compiled) : Type 0 where
  pub catalogues : List (List TextEntry)
  pub read : AreRead texts catalogues
  pub stats : compiled.stats ≡ stats_of (joined_entries catalogues)

-- the input of a fault: out of memory is of no input
abbrev pub fault_input : ℕ → PoFault → ℕ
fault_input input OutOfMemory = 0
fault_input input _ = input

abbrev pub fault_of_input : ℕ → PoError → JoinError
fault_of_input input error =
    record { input = fault_input input error.kind; first_input = fault_input input error.kind; error = error }

-- the fault of a text, where it is the only input
abbrev pub fault_of_only_input : PoError → JoinError
fault_of_only_input error = record { input = 0; first_input = 0; error = error }

-- the first input with a fault, and that fault; the inputs after it may have any
pub record IsFaultOfInput (texts : List (List ℕ)) (error : JoinError) : Type 0 where
  pub before : List (List ℕ)
  pub text : List ℕ
  pub after : List (List ℕ)
  pub order : texts ≡ before ++ text ∷ after
  pub catalogues : List (List TextEntry)
  pub faultless : AllZip ReadsDistinct before catalogues
  pub input : error.input ≡ length before
  pub first_input : error.first_input ≡ length before
  pub fault : IsTextFault text error.error

-- the first duplicate across the inputs, each of which has none
pub record HasJoinedDuplicate (texts : List (List ℕ)) (error : JoinError) : Type 0 where
  pub catalogues : List (List TextEntry)
  pub each : AllZip ReadsDistinct texts catalogues
  pub first : InputEntry
  pub later : InputEntry
  pub duplicate : IsFirstDuplicate (joined catalogues) first later
  pub error_is : error ≡ duplicate_fault first later

-- why texts aren't read: a fault of an input, a duplicate across inputs, or out of memory, which
-- may come in place of any other
abbrev pub IsReadingFault : List (List ℕ) → JoinError → Type 0
IsReadingFault texts error = (error ≡ join_out_of_memory) ⊎ IsFaultOfInput texts error ⊎ HasJoinedDuplicate texts error

-- the layout of texts that are read is too large
pub record IsTooLarge (options : Options) (texts : List (List ℕ)) (error : JoinError) : Type 0 where
  pub catalogues : List (List TextEntry)
  pub read : AreRead texts catalogues
  pub large : HasLargeLayout options (joined_entries catalogues)
  pub error_is : error ≡ layout_fault

-- why texts aren't compiled: they aren't read, or their layout is too large
abbrev pub IsCompileFault : Options → List (List ℕ) → JoinError → Type 0
IsCompileFault options texts error = IsReadingFault texts error ⊎ IsTooLarge options texts error
