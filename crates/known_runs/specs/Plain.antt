-- What commands without options ask for.
use Rattle.std.specs.Prelude.{ℕ, List, [], ◌∷◌, None, false, codes}
use Rattle.msgcat.specs.declared.input.MergeOptions.{MergeOptions}
use Rattle.msgattrib.specs.declared.selection.Selection.{Selection}
use Rattle.runs.specs.Prelude.{NamedFile}

abbrev pub named : List ℕ → List ℕ → NamedFile
named name bytes = record { name = name; bytes = bytes }

-- msgattrib keeps all and changes nothing
abbrev pub all_as_they_are : Selection
all_as_they_are = record {
  translated = false;
  untranslated = false;
  no_fuzzy = false;
  only_fuzzy = false;
  no_obsolete = false;
  only_obsolete = false;
  set_fuzzy = false;
  clear_fuzzy = false;
  set_obsolete = false;
  clear_obsolete = false;
  clear_previous = false;
  empty = false;
}

-- msgcat merges all messages
abbrev pub all_messages : MergeOptions
all_messages = record { more_than = 0; less_than = None; unique = false; use_first = false }

-- the files `a.po` and `b.po`
abbrev pub two_files : List ℕ → List ℕ → List NamedFile
two_files a b = named (codes "a.po") a ∷ named (codes "b.po") b ∷ []
