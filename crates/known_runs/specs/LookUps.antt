-- What `gettext hello MSGID` and `ngettext hello MSGID MSGID-PLURAL COUNT` come to where the locale is
-- `fr` and the catalogue of `hello` is compiled from a text (manual, "Invoking the gettext program" and
-- "Invoking the ngettext program").
use Rattle.std.specs.Prelude.{ℕ, List, [], ◌∷◌, Some, None, Result, Ok, Err, codes, false}
use Rattle.gettext.specs.Prelude.{count_in}
use Rattle.mo_lookup.specs.Prelude.{Query}
use Rattle.plural_rule.specs.Prelude.{RuleView, IsRuleOf, expression_limit}
use Rattle.po_compile.specs.Prelude.{AreRead, compiled_list, header_of, meant}
use Rattle.po_entry.specs.Prelude.{TextEntry, joined_entries}
use Rattle.runs.specs.declared.program_fault.ProgramFault.{ProgramFault}
use Rattle.runs.specs.declared.program_fault.ProgramFault.TheVariants.{OutOfMemory}
use Rattle.known_runs.specs.Ends.{End, end}

-- where the catalogue is
abbrev pub hello_mo : List ℕ
hello_mo = codes "/usr/share/locale/fr/LC_MESSAGES/hello.mo"

-- a msgid alone
abbrev pub message : List ℕ → Query
message id = record { context = None; id = id; plural = None }

-- a msgid with its plural, at the count that COUNT gives
abbrev pub counted : (id plural count : List ℕ) → Query
counted id plural count = record { context = None; id = id; plural = Some (plural, count_in count) }

-- what a look-up comes to, by the text of the catalogue
pub data EndsLookUp (text : List ℕ) (query : Query) : End → Type 0 where
  -- what is written is what the text's entries define under their header's rule, and nothing is told
  answered : {catalogues : List (List TextEntry)} (rule : RuleView) → AreRead (text ∷ []) catalogues
      → IsRuleOf expression_limit (header_of (compiled_list false (joined_entries catalogues))) rule
      → EndsLookUp text query
      (end (Ok 0) None (meant (compiled_list false (joined_entries catalogues)) rule query).text [])
  -- there is too little memory, and nothing is written
  failed : EndsLookUp text query (end (Err OutOfMemory) None [] [])

-- a look-up has no fault but out of memory
abbrev pub status_or_memory : Result ℕ ProgramFault → Result ℕ ProgramFault
status_or_memory (Ok status) = Ok status
status_or_memory (Err fault) = Err OutOfMemory
