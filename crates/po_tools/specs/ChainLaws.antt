-- Laws of runs one after the other.
use Rattle.std.specs.Prelude.{◌≡◌, ℕ, All, Bool, List, [], ◌∷◌, ◌++◌, true, false, filter, map}
use Rattle.po_entry.specs.Prelude.{TextEntry, ReadsText, IsCatalogueEntry, AllDiffer, joined_entries}
use Rattle.mo_lookup.specs.Prelude.{CatalogView, chain_answered, Query}
use Rattle.msgcat.specs.Prelude.{Named, all_entries, keep_all, merged, IsMsgcatRun}
use Rattle.msgcat.specs.declared.input.MergeOptions.{MergeOptions}
use Rattle.po_writer.specs.Prelude.{written_text}
use Rattle.po_compile.specs.Prelude.{compiled_list, message_of}
use Rattle.msgattrib.specs.Prelude.{ChangesNothing, every_entry, is_kept, selected}
use Rattle.msgattrib.specs.declared.selection.Selection.{Selection}
use Rattle.msgfmt.specs.declared.options.MsgfmtOptions.{MsgfmtOptions}
use Rattle.msgfmt.specs.Prelude.{IsMsgfmtRun}
use Rattle.msgunfmt.specs.Prelude.{IsMsgunfmtRun}
use Rattle.po_syntax.specs.Prelude.{IsText, IsSmall}
use Rattle.runs.specs.Prelude.{NamedFile, RunView}

-- what msgfmt wrote, msgunfmt writes as a text, of which msgfmt writes the same bytes again
abbrev pub ThereAndBack : Type 0
ThereAndBack =
    (inputs : List NamedFile) (o again : MsgfmtOptions) (name other : List ℕ) (first text last : RunView)
    → IsMsgfmtRun inputs o first → first.create ≡ true
    → IsMsgunfmtRun (record { name = name; bytes = first.output }) text → IsSmall text.output
    → again.order ≡ o.order → again.profile_check ≡ false
    → IsMsgfmtRun (record { name = other; bytes = text.output } ∷ []) again last
    → (last.output ≡ first.output) × (last.create ≡ true) × (last.status ≡ 0)

-- what conditions alone keep compiles as what they keep of the compiled entries
abbrev pub KeptCompilesAlike : Type 0
KeptCompilesAlike =
    (s : Selection) (use_fuzzy : Bool) (entries : List TextEntry) → ChangesNothing s
    → compiled_list use_fuzzy (selected s entries) ≡ filter (is_kept s) (compiled_list use_fuzzy entries)

-- what msgattrib keeps with this option compiles as all does
abbrev pub CompilesAlike : Selection → Type 0
CompilesAlike option = (entries : List TextEntry)
    → compiled_list false (selected option entries) ≡ compiled_list false entries

-- with `--no-fuzzy`, `--no-obsolete` or `--translated` what msgattrib keeps compiles as all does
pub record CompiledAreKept : Type 0 where
  pub no_fuzzy : CompilesAlike (record every_entry { no_fuzzy = true })
  pub no_obsolete : CompilesAlike (record every_entry { no_obsolete = true })
  pub translated : CompilesAlike (record every_entry { translated = true })

-- what msgcat wrote, msgcat alone writes again, byte for byte
abbrev pub MsgcatAgain : Type 0
MsgcatAgain =
    (files : List NamedFile) (o : MergeOptions) (use_first : Bool) (name : List ℕ) (first again : RunView)
    → All (λ file. IsText file.name) files → IsMsgcatRun files o first → first.status ≡ 0 → IsSmall first.output
    → IsMsgcatRun (record { name = name; bytes = first.output } ∷ []) (keep_all use_first) again
    → (again.output ≡ first.output) × (again.status ≡ 0)

-- what msgcat writes of one text in which no message stands twice, has the same messages for msgfmt
abbrev pub MsgcatCompilesAlike : Type 0
MsgcatCompilesAlike =
    (input : Named) (use_first use_fuzzy : Bool) (read : List TextEntry) → All IsCatalogueEntry input.entries
    → AllDiffer input.entries → IsSmall (written_text (merged (keep_all use_first) (input ∷ [])))
    → ReadsText (written_text (merged (keep_all use_first) (input ∷ []))) read
    → map message_of (compiled_list use_fuzzy read) ≡ map message_of (compiled_list use_fuzzy input.entries)

-- what msgcat writes of several texts, among whose entries no message stands twice, has the messages that msgfmt has
-- of all of them
abbrev pub MsgcatOfSeveral : Type 0
MsgcatOfSeveral =
    (inputs : List Named) (use_first use_fuzzy : Bool) (read : List TextEntry)
    → All IsCatalogueEntry (map (λ d. d.entry) (all_entries inputs))
    → AllDiffer (map (λ d. d.entry) (all_entries inputs))
    → IsSmall (written_text (merged (keep_all use_first) inputs))
    → ReadsText (written_text (merged (keep_all use_first) inputs)) read
    → map message_of (compiled_list use_fuzzy read)
    ≡ map message_of (compiled_list use_fuzzy (joined_entries (map (λ input. input.entries) inputs)))

-- where a chain finds a translation, catalogues after its own change nothing
abbrev pub LongerChainAnswersAlike : Type 0
LongerChainAnswersAlike =
    (chain further : List CatalogView) (query : Query) → (chain_answered chain query).found ≡ true
    → chain_answered (chain ++ further) query ≡ chain_answered chain query
