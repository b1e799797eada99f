-- The tip on an option or a tool that GNU gettext alone has, if clap's text of a usage fault names
-- one: this project's own words, since the manual leaves them open.
use Rattle.std.specs.Prelude.{ℕ, Bool, map, true, false, ◌==◌, if◌then◌else◌, List, [], ◌∷◌, ◌++◌, length, drop, Option, Some, None, option_and_then, nat_eq, codes}
use Rattle.std.specs.List.{before_first, list_any, starts_with}
use Rattle.std.specs.Option.{option_or}
use Rattle.std.specs.Str.{bytes_eq}
use Rattle.runs.specs.declared.tool.Tool.{Tool}
use Rattle.runs.specs.declared.tool.Tool.TheVariants.{Msgfmt, Msgunfmt, Msgattrib, Msgcat}
use Rattle.runs.specs.Prelude.{tool_name}

-- the tool's arguments are files
abbrev pub takes_files : Option Tool → Bool
takes_files (Some Msgfmt) = true
takes_files (Some Msgunfmt) = true
takes_files (Some Msgattrib) = true
takes_files (Some Msgcat) = true
takes_files tool = false

-- the tools that GNU's alone has
abbrev pub gnu_tools : List (List ℕ)
gnu_tools =
    codes "autopoint" ∷ codes "gettextize" ∷ codes "msgcmp" ∷ codes "msgcomm" ∷ codes "msgconv" ∷ codes "msgen"
    ∷ codes "msgexec" ∷ codes "msgfilter" ∷ codes "msggrep" ∷ codes "msginit" ∷ codes "msgmerge" ∷ codes "msguniq"
    ∷ codes "recode-sr-latin" ∷ codes "xgettext" ∷ []

-- the letters that are options of GNU's tool alone
abbrev pub gnu_letters : Option Tool → List ℕ
gnu_letters (Some Msgfmt) = codes "DLPadjklrv"
gnu_letters (Some Msgunfmt) = codes "Edeijlprsvw"
gnu_letters (Some Msgattrib) = codes "DEFPeinpsw"
gnu_letters (Some Msgcat) = codes "<>DEFPefinpstw"
gnu_letters tool = []

-- the long options that GNU's tool alone has
abbrev pub long_options : Option Tool → List (List ℕ)
long_options (Some Msgfmt) =
    codes "--alignment" ∷ codes "--csharp" ∷ codes "--csharp-resources" ∷ codes "--desktop"
    ∷ codes "--directory" ∷ codes "--java" ∷ codes "--java2" ∷ codes "--keyword" ∷ codes "--language"
    ∷ codes "--locale" ∷ codes "--no-convert" ∷ codes "--no-redundancy" ∷ codes "--properties-input"
    ∷ codes "--qt" ∷ codes "--resource" ∷ codes "--source" ∷ codes "--strict" ∷ codes "--stringtable-input"
    ∷ codes "--tcl" ∷ codes "--template" ∷ codes "--verbose" ∷ codes "--xml" ∷ []
long_options (Some Msgunfmt) =
    codes "--color" ∷ codes "--csharp" ∷ codes "--csharp-resources" ∷ codes "--escape" ∷ codes "--force-po"
    ∷ codes "--indent" ∷ codes "--java" ∷ codes "--locale" ∷ codes "--no-escape" ∷ codes "--properties-output"
    ∷ codes "--resource" ∷ codes "--sort-output" ∷ codes "--strict" ∷ codes "--stringtable-output"
    ∷ codes "--style" ∷ codes "--tcl" ∷ codes "--verbose" ∷ codes "--width" ∷ []
long_options (Some Msgattrib) =
    codes "--add-location" ∷ codes "--color" ∷ codes "--directory" ∷ codes "--escape" ∷ codes "--force-po"
    ∷ codes "--ignore-file" ∷ codes "--indent" ∷ codes "--no-escape" ∷ codes "--no-location"
    ∷ codes "--only-file" ∷ codes "--previous" ∷ codes "--properties-input" ∷ codes "--properties-output"
    ∷ codes "--sort-by-file" ∷ codes "--sort-output" ∷ codes "--strict" ∷ codes "--stringtable-input"
    ∷ codes "--stringtable-output" ∷ codes "--style" ∷ codes "--width" ∷ []
long_options (Some Msgcat) =
    codes "--add-location" ∷ codes "--color" ∷ codes "--directory" ∷ codes "--escape" ∷ codes "--files-from"
    ∷ codes "--force-po" ∷ codes "--indent" ∷ codes "--lang" ∷ codes "--no-escape" ∷ codes "--no-location"
    ∷ codes "--properties-input" ∷ codes "--properties-output" ∷ codes "--sort-by-file" ∷ codes "--sort-output"
    ∷ codes "--strict" ∷ codes "--stringtable-input" ∷ codes "--stringtable-output" ∷ codes "--style"
    ∷ codes "--to-code" ∷ codes "--width" ∷ []
long_options tool = []

-- a dash and the letter
abbrev pub short_option : ℕ → List ℕ
short_option letter = 45 ∷ letter ∷ []

-- the options that GNU's tool alone has
abbrev pub gnu_options : Option Tool → List (List ℕ)
gnu_options tool = map short_option (gnu_letters tool) ++ long_options tool

-- the options of GNU's msgfmt that check a text
abbrev pub gnu_checks : Option Tool → List (List ℕ)
gnu_checks (Some Msgfmt) =
    codes "-c" ∷ codes "-C" ∷ codes "--check" ∷ codes "--check-accelerators" ∷ codes "--check-compatibility"
    ∷ codes "--check-domain" ∷ codes "--check-format" ∷ codes "--check-header" ∷ []
gnu_checks tool = []

-- the options by which GNU's tools show their version
abbrev pub version_options : List (List ℕ)
version_options = codes "-V" ∷ codes "--version" ∷ []

-- one of the names is this word
abbrev pub is_among : List (List ℕ) → List ℕ → Bool
is_among names word = list_any (λ name. bytes_eq name word) names

-- what stands before the next quote
abbrev pub before_quote : List ℕ → List ℕ
before_quote text = before_first (λ b. b == 39) text

-- the word between this beginning of a text and the next quote
abbrev pub word_after : List ℕ → List ℕ → Option (List ℕ)
word_after beginning text =
    if starts_with nat_eq text beginning then Some (before_quote (drop (length beginning) text)) else None

-- the tip on an option that shows the version
abbrev pub version_tip : List ℕ
version_tip = codes "  tip: the first line of 'pokit --help' has the version\n\n"

-- the tip on a check of GNU's msgfmt
abbrev pub check_tip : List ℕ
check_tip =
    codes "  tip: '--profile-check' checks headers, plural forms and newlines; the msgfmt that\n"
    ++ codes "       'make install' puts into libexec/pokit takes GNU's checks\n\n"

-- the tip on anything else that GNU's alone has, with the manual that names it
abbrev pub tip_on : List ℕ → List ℕ → List ℕ → List ℕ
tip_on word kind manual =
    codes "  tip: '" ++ word ++ codes "' is " ++ kind ++ codes " of GNU gettext alone; see DIFFERENCES in the manual "
    ++ manual ++ codes "(1)\n\n"

-- the manual of a tool, or of the program
abbrev pub manual_of : Option Tool → List ℕ
manual_of (Some tool) = codes "pokit-" ++ tool_name tool
manual_of None = codes "pokit"

-- the tip on an option, if GNU's tool alone has it
abbrev pub option_tip : Option Tool → List ℕ → Option (List ℕ)
option_tip tool option =
    if is_among version_options option then Some version_tip
    else if is_among (gnu_checks tool) option then Some check_tip
    else if is_among (gnu_options tool) option then Some (tip_on option (codes "an option") (manual_of tool))
    else None

-- the tip on a tool, if GNU's alone has it
abbrev pub tool_tip : List ℕ → Option (List ℕ)
tool_tip name = if is_among gnu_tools name then Some (tip_on name (codes "a tool") (codes "pokit")) else None

-- the option that clap's text names as unknown
abbrev pub unknown_option : List ℕ → Option (List ℕ)
unknown_option text = word_after (codes "error: unexpected argument '") text

-- the tool that clap's text names as unknown
abbrev pub unknown_tool : List ℕ → Option (List ℕ)
unknown_tool text = word_after (codes "error: unrecognized subcommand '") text

-- the tip on what clap's text names as unknown
abbrev pub own_tip : Option Tool → List ℕ → Option (List ℕ)
own_tip tool text =
    option_or (option_and_then (option_tip tool) (unknown_option text)) (option_and_then tool_tip (unknown_tool text))
