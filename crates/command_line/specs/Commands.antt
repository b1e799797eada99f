-- The arguments and options that each tool takes (manual, "Invoking the msgfmt Program" and the like
-- for the other tools), how `clap` has one of them, and the command of the whole program, with those
-- of its tools.
use Rattle.std.specs.Prelude.{◌≡◌, ℕ, true, List, [], ◌∷◌, Some, pos, codes, ◌++◌, false, Option, None, map}
use Rattle.std.specs.Borrow.{Bor}
use Rattle.clap.specs.Lexer.{usize_max}
use Rattle.clap.specs.Simple.{new_rule, Shape, app_of, new_shape, on_top, shape_of}
use Rattle.clap.specs.Walk.{Rule, texts, is_empty}
use Rattle.clap.specs.declared.builder.action.ArgAction.TheVariants.{Append, SetTrue}
use Rattle.clap.specs.declared.builder.value_parser.ValueParser.TheVariants.{Names, Signed}
use Rattle.runs.specs.declared.tool.Tool.{Tool}
use Rattle.runs.specs.declared.tool.Tool.TheVariants.{Msgfmt, Msgunfmt, Msgattrib, Msgcat, Gettext, Ngettext, Envsubst}
use Rattle.std.specs.List.{AllZip}
use Rattle.clap.specs.declared.builder.command.Command.{Command}
use Rattle.clap.specs.declared.builder.command.Command.TheViews.{out-Command}
use Rattle.runs.specs.Prelude.{every_tool, tool_name}

-- an argument or an option, by the name by which it is read; a letter is its code
pub data Argument : Type 0 where
  -- one argument, which may be left out
  one : List ℕ → Argument
  -- arguments, one at least
  some : List ℕ → Argument
  -- arguments, or none
  any : List ℕ → Argument
  -- an option `--name`; also by a letter; by a letter alone
  flag : List ℕ → Argument
  flag_or_letter : List ℕ → ℕ → Argument
  letter : List ℕ → ℕ → Argument
  -- an option `--name VALUE`, or by a letter, with any text
  text : List ℕ → ℕ → Argument
  -- an option `--name N`, with a number of 32 bits
  number : List ℕ → Argument
  -- an option `--name ORDER`, with `little` or `big`
  byte_order : List ℕ → Argument

-- the output of a tool, and an option for compatibility
abbrev pub output : Argument
output = text (codes "output-file") 111

abbrev pub no_wrap : Argument
no_wrap = flag (codes "no-wrap")

-- the options that gettext and ngettext have in common
abbrev pub domain : Argument
domain = text (codes "domain") 100

abbrev pub context : Argument
context = text (codes "context") 99

abbrev pub expand : Argument
expand = letter (codes "expand") 101

abbrev pub no_expand : Argument
no_expand = letter (codes "no-expand") 69

-- what each tool takes, and nothing else
abbrev pub arguments_of : Tool → List Argument
arguments_of Msgfmt =
    some (codes "FILE") ∷ output ∷ flag_or_letter (codes "use-fuzzy") 102 ∷ flag (codes "statistics")
    ∷ byte_order (codes "endianness") ∷ flag (codes "no-hash") ∷ flag (codes "profile-check") ∷ []
arguments_of Msgunfmt = one (codes "FILE") ∷ output ∷ no_wrap ∷ []
arguments_of Msgattrib =
    one (codes "FILE") ∷ output ∷ no_wrap ∷ flag (codes "translated") ∷ flag (codes "untranslated")
    ∷ flag (codes "no-fuzzy") ∷ flag (codes "only-fuzzy") ∷ flag (codes "no-obsolete") ∷ flag (codes "only-obsolete")
    ∷ flag (codes "set-fuzzy") ∷ flag (codes "clear-fuzzy") ∷ flag (codes "set-obsolete")
    ∷ flag (codes "clear-obsolete") ∷ flag (codes "clear-previous") ∷ flag (codes "empty") ∷ flag (codes "fuzzy")
    ∷ flag (codes "obsolete") ∷ []
arguments_of Msgcat =
    some (codes "FILE") ∷ output ∷ no_wrap ∷ number (codes "more-than") ∷ number (codes "less-than")
    ∷ flag_or_letter (codes "unique") 117 ∷ flag (codes "use-first") ∷ []
arguments_of Gettext =
    domain ∷ context ∷ expand ∷ no_expand ∷ any (codes "MSGID") ∷ letter (codes "no-newline") 110
    ∷ letter (codes "shell") 115 ∷ []
arguments_of Ngettext = domain ∷ context ∷ expand ∷ no_expand ∷ any (codes "MSGID") ∷ []
arguments_of Envsubst = any (codes "SHELL-FORMAT") ∷ flag_or_letter (codes "variables") 118 ∷ []

-- `clap` has the argument by this rule
abbrev pub IsRuleOf : Argument → Rule → Type 0
IsRuleOf (one name) rule = rule ≡ new_rule name
IsRuleOf (some name) rule =
    rule
    ≡ record (new_rule name) {
      action = Some Append;
      range = Some (record { start_inclusive = 1; end_inclusive = usize_max });
      required = true;
    }
IsRuleOf (any name) rule =
    rule
    ≡ record (new_rule name) {
      action = Some Append;
      range = Some (record { start_inclusive = 0; end_inclusive = usize_max });
    }
IsRuleOf (flag name) rule = rule ≡ record (new_rule name) { long = Some name; action = Some SetTrue }
IsRuleOf (flag_or_letter name c) rule =
    rule ≡ record (new_rule name) { long = Some name; short = Some c; action = Some SetTrue }
IsRuleOf (letter name c) rule = rule ≡ record (new_rule name) { short = Some c; action = Some SetTrue }
IsRuleOf (text name c) rule = rule ≡ record (new_rule name) { long = Some name; short = Some c; value_names = 1 }
IsRuleOf (number name) rule =
    rule
    ≡ record (new_rule name) {
      long = Some name;
      value_names = 1;
      parser = Some (Signed (pos 0) (pos 4294967295));
    }
IsRuleOf (byte_order name) rule =
    (orders : Bor (List (Bor (List ℕ)))) × (texts orders.now ≡ codes "little" ∷ codes "big" ∷ [])
    × (rule ≡ record (new_rule name) { long = Some name; value_names = 1; parser = Some (Names orders) })

-- the command has these arguments more, after those that it has
pub record AddsArguments (arguments : List Argument) (old new : Command) : Type 0 where
  pub rules : List Rule
  pub are : AllZip IsRuleOf arguments rules
  pub shape : app_of new ≡ on_top (λ s. record s { rules = s.rules ++ rules }) (app_of old)
  pub global : (out-Command new).has_globals ≡ (out-Command old).has_globals

-- a command with this name and these arguments, and no other setting
pub record IsShapeOf (name : List ℕ) (arguments : List Argument) (shape : Shape) : Type 0 where
  pub rules : List Rule
  pub are : AllZip IsRuleOf arguments rules
  pub is : shape ≡ record (new_shape name) { rules = rules }

-- the tool's command has the tool's name and takes the tool's arguments
abbrev pub IsToolShape : Tool → Shape → Type 0
IsToolShape tool shape = IsShapeOf (tool_name tool) (arguments_of tool) shape

-- the command is that of the tool, alone
pub record IsToolCommand (tool : Tool) (command : Command) : Type 0 where
  pub shape : IsToolShape tool (shape_of command)
  pub global : (out-Command command).has_globals ≡ false

-- The program alone has no arguments. It shows no version and has no command `help` of `clap`'s, and
-- a tool has to be named.
abbrev pub top_of : List Shape → Shape
top_of tools =
    record (new_shape (codes "pokit")) {
      disable_version_flag = true;
      disable_help_subcommand = true;
      subcommand_required = true;
      is_leaf = is_empty tools;
    }

-- the program has the commands of these tools, in their order
pub record OffersTools (tools : List Tool) (program : Command) : Type 0 where
  pub shapes : List Shape
  pub are : AllZip IsToolShape tools shapes
  pub app : app_of program ≡ record { top = top_of shapes; subs = shapes }
  pub global : (out-Command program).has_globals ≡ false

-- the tools that are offered: all, or the one that is named
abbrev pub offered_tools : Option Tool → List Tool
offered_tools None = every_tool
offered_tools (Some tool) = tool ∷ []

-- the names of the tools that are offered: all, or the one that is named
abbrev pub offered : Option Tool → List (List ℕ)
offered None = map tool_name every_tool
offered (Some tool) = tool_name tool ∷ []
