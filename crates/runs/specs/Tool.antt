-- The tools that the program has, by their names.
use Rattle.std.specs.Prelude.{ℕ, List, [], ◌∷◌, codes}
use Rattle.runs.specs.declared.tool.Tool.{Tool}
use Rattle.runs.specs.declared.tool.Tool.TheVariants.{Msgfmt, Msgunfmt, Msgattrib, Msgcat, Gettext, Ngettext}
use Rattle.runs.specs.declared.tool.Tool.TheVariants.{Envsubst}

abbrev pub tool_name : Tool → List ℕ
tool_name Msgfmt = codes "msgfmt"
tool_name Msgunfmt = codes "msgunfmt"
tool_name Msgattrib = codes "msgattrib"
tool_name Msgcat = codes "msgcat"
tool_name Gettext = codes "gettext"
tool_name Ngettext = codes "ngettext"
tool_name Envsubst = codes "envsubst"

abbrev pub every_tool : List Tool
every_tool = Msgfmt ∷ Msgunfmt ∷ Msgattrib ∷ Msgcat ∷ Gettext ∷ Ngettext ∷ Envsubst ∷ []
