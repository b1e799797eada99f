-- What holds of every entry, and of every entry of a catalogue (manual, "The Format of PO Files").
use Rattle.std.specs.Prelude.{◌≡◌, ◌≢◌, ◌⊎◌, ℕ, ◌<◌, false, List, [], None, All, IfSome, IsUtf8, length, codes}
use Rattle.po_entry.specs.TextEntry.{TextEntry, quoted_texts}
use Rattle.po_entry.specs.Texts.{Lacks, trimmed, AreDistinct}
use Rattle.po_syntax.specs.Prelude.{is_blank, IsText, IsComment, IsCommentOf}
use Rattle.po_syntax.specs.declared.item.CommentKind.TheVariants.{Translator}
use Rattle.po_syntax.specs.declared.fault.PoFault.{PoFault}
use Rattle.po_syntax.specs.declared.fault.PoError.{PoError}
use Rattle.po_syntax.specs.declared.fault.PoFault.TheVariants.{NotUtf8, ForbiddenByte, ForeignCharset, OutOfMemory}
use Rattle.po_entry.specs.Header.{HasAdmittedCharset}

-- a translator's comment, which begins with no character that marks another kind of line
abbrev pub IsTranslatorComment : List ℕ → Type 0
IsTranslatorComment text = IsCommentOf Translator text

-- a reference is an element between blanks, on one line
pub record IsReference (text : List ℕ) : Type 0 where
  pub valid : IsText text
  pub some_byte : text ≢ []
  pub no_blank : All (λ b. is_blank b ≡ false) text
  pub one_line : Lacks 10 text

-- a flag is a trimmed element between commas, other than `fuzzy`
pub record IsFlag (text : List ℕ) : Type 0 where
  pub valid : IsText text
  pub some_byte : text ≢ []
  pub no_blank_ends : trimmed text ≡ text
  pub no_comma : Lacks 44 text
  pub one_line : Lacks 10 text
  pub not_fuzzy : text ≢ codes "fuzzy"

-- what holds of every entry; nothing is said of the charset that a header names
pub record IsEntry (entry : TextEntry) : Type 0 where
  pub quoted_texts : All IsText (quoted_texts entry)
  pub comments : All IsTranslatorComment entry.comments
  pub extracted : All IsComment entry.extracted
  pub references : All IsReference entry.references
  pub flags : All IsFlag entry.flags
  pub distinct_flags : AreDistinct entry.flags
  pub context : IfSome entry.context (Lacks 4)
  pub id : Lacks 4 entry.id
  pub some_form : 0 < length entry.forms
  pub one_form : entry.plural ≡ None → length entry.forms ≡ 1

-- an entry that a catalogue may hold
pub record IsCatalogueEntry (entry : TextEntry) : Type 0 where
  pub valid : IsEntry entry
  pub charset : HasAdmittedCharset entry

-- No NUL in a text of the quoted strings, as an MO file ends each string with one, and no EOT (4)
-- in the entry's own context and msgid, as it stands between them there.
pub record IsClean (entry : TextEntry) : Type 0 where
  pub no_nul : All (Lacks 0) (quoted_texts entry)
  pub context : IfSome entry.context (Lacks 4)
  pub id : Lacks 4 entry.id

-- why an entry can't have these texts: one is not UTF-8; or all are, and one holds a byte that it
-- may not hold
pub data EntryTextFault (entry : TextEntry) : PoFault → Type 0 where
  not_utf8 : (All IsUtf8 (quoted_texts entry) → ⊥) → EntryTextFault entry NotUtf8
  forbidden : All IsUtf8 (quoted_texts entry) → (IsClean entry → ⊥) → EntryTextFault entry ForbiddenByte

-- The texts of the quoted strings can stand in an entry: each is UTF-8 after its strings are
-- joined, escapes too, and free of the bytes that the MO file needs.
pub record HasTexts (entry : TextEntry) : Type 0 where
  pub utf8 : All IsUtf8 (quoted_texts entry)
  pub clean : IsClean entry

-- a failed allocation, which has no line (0)
abbrev pub out_of_memory : PoError
out_of_memory = record { kind = OutOfMemory; line = 0 }

-- why a catalogue refuses an entry: it is a header whose charset is not admitted, which is reported
-- on its line; or an allocation failed
abbrev pub IsRefusedEntry : TextEntry → PoError → Type 0
IsRefusedEntry entry error =
    ((HasAdmittedCharset entry → ⊥) × (error ≡ record { kind = ForeignCharset; line = entry.line }))
    ⊎ (error ≡ out_of_memory)

-- why no entry is made of texts that are given: one can't stand in it, or an allocation failed;
-- there is no line
abbrev pub RefusesMessage : TextEntry → PoError → Type 0
RefusesMessage entry error = (error.line ≡ 0) × ((error.kind ≡ OutOfMemory) ⊎ EntryTextFault entry error.kind)
