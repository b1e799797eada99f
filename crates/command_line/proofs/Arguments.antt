-- Arguments and tools, as they are added one after another.
use Rattle.command_line.proofs.Prelude.{AddsArguments, AllZip, Argument, IsRuleOf, IsToolCommand, IsToolShape, List, None, OffersTools, Option, Some, [], ap, append_assoc, arguments_of, arith, false, get_or, length, map, map-append, offered, offered_tools, refl, suc, sym, take, take_more, top_of, ℕ, ◌++◌, ◌+◌, ◌<◌, ◌==◌, ◌||◌, ◌∙◌, ◌∷◌, ◌≡◌}
use Rattle.std.proofs.lemmas.Bool.Decides.{nat_tests}
use Rattle.std.proofs.Math.Bool.{or-false}
use Rattle.po_syntax.specs.Facts.Zips.{zip_more}
use Rattle.clap.specs.Built.{AddsArg, AddsSubcommand, subcommand_names}
use Rattle.clap.specs.Simple.{App, Shape, app_of, new_app, on_top, shape_of, with_rule, with_subcommand}
use Rattle.clap.specs.Walk.{is_empty, rule_of}
use Rattle.clap.specs.declared.builder.arg.Arg.{Arg}
use Rattle.clap.specs.declared.builder.command.Command.{Command}
use Rattle.clap.specs.declared.builder.command.Command.TheViews.{out-Command}
use Rattle.runs.specs.Prelude.{tool_name}
use Rattle.runs.specs.declared.tool.Tool.{Tool}

-- one item more of a list, as `f` has it
pub next_mapped : {X Y : Type 0} (f : X → Y) (xs : List X) (i : ℕ) (other : X) → i < length xs
    → map f (take i xs) ++ f (get_or xs i other) ∷ [] ≡ map f (take (i + 1) xs)
next_mapped f xs i other below =
    sym (ap (map f) (take_more xs i other below) ∙ map-append f (take i xs) (get_or xs i other ∷ []))

pub one_argument_more : (arguments : List Argument) (argument : Argument) (first old new : Command) (arg : Arg)
    → AddsArguments arguments first old → AddsArg old arg new → arg.global ≡ false → IsRuleOf argument (rule_of arg)
    → AddsArguments (arguments ++ argument ∷ []) first new
one_argument_more arguments argument first old new arg so_far adds local rule =
    let all = (app_of first).top.rules in
    let joined : (all ++ so_far.rules) ++ rule_of arg ∷ [] ≡ all ++ (so_far.rules ++ rule_of arg ∷ []) =
    simp append_assoc in
    record {
      rules = so_far.rules ++ rule_of arg ∷ [];
      are = zip_more IsRuleOf arguments so_far.rules argument (rule_of arg) so_far.are rule;
      shape =
          adds.shape local ∙ ap (λ app. with_rule app (rule_of arg)) so_far.shape
          ∙ ap (λ l. on_top (λ s. record s { rules = l }) (app_of first)) joined;
      global = adds.globals ∙ ap (λ b. (out-Command old).has_globals || b) local ∙ or-false _ ∙ so_far.global;
    }

pub tool_command : (tool : Tool) (command made : Command) → app_of command ≡ new_app (tool_name tool)
    → (out-Command command).has_globals ≡ false → AddsArguments (arguments_of tool) command made
    → IsToolCommand tool made
tool_command tool command made alone local adds = record {
  shape = record {
    rules = adds.rules;
    are = adds.are;
    is = ap (λ (app : App). app.top) adds.shape
        ∙ ap (λ (app : App). record app.top { rules = app.top.rules ++ adds.rules }) alone;
  };
  global = adds.global ∙ local;
}

eqb-suc-zero : (n : ℕ) → (suc n == 0) ≡ false
eqb-suc-zero n = grind (arith, nat_tests)

more_are_some : (shapes : List Shape) (shape : Shape) → false ≡ is_empty (shapes ++ shape ∷ [])
more_are_some [] shape = refl
more_are_some (first ∷ shapes) shape = sym (eqb-suc-zero (length (shapes ++ shape ∷ [])))

pub one_tool_more : (tools : List Tool) (tool : Tool) (old sub new : Command) → OffersTools tools old
    → IsToolCommand tool sub
    → AddsSubcommand old sub new → OffersTools (tools ++ tool ∷ []) new
one_tool_more tools tool old sub new so_far command adds = record {
  shapes = so_far.shapes ++ shape_of sub ∷ [];
  are = zip_more IsToolShape tools so_far.shapes tool (shape_of sub) so_far.are command.shape;
  app =
      adds.shape command.global ∙ ap (λ app. with_subcommand app (shape_of sub)) so_far.app
      ∙ ap (λ b. record {
        top = record (top_of so_far.shapes) { is_leaf = b };
        subs =
            so_far.shapes ++ shape_of sub ∷ [];
      }) (more_are_some so_far.shapes (shape_of sub));
  global = adds.globals ∙ ap (λ b. (out-Command old).has_globals || b) command.global ∙ or-false _ ∙ so_far.global;
}

-- the next of the tools that the program is to have
pub next_tool : (tools : List Tool) (i : ℕ) (other : Tool) (new : Command) → i < length tools
    → OffersTools (take i tools ++ get_or tools i other ∷ []) new → OffersTools (take (i + 1) tools) new
next_tool tools i other new below offers = rw (← take_more tools i other below) at offers

-- the names of what is offered
names_of_shapes : (tools : List Tool) (shapes : List Shape) → AllZip IsToolShape tools shapes
    → map (λ (s : Shape). s.name) shapes ≡ map tool_name tools
names_of_shapes [] [] all = refl
names_of_shapes [] (s ∷ shapes) all = absurd all
names_of_shapes (t ∷ tools) [] all = absurd all
names_of_shapes (t ∷ tools) (s ∷ shapes) all =
    let name : s.name ≡ tool_name t = ap (λ (x : Shape). x.name) all.0.is in
    let rest = names_of_shapes tools shapes all.1 in
    cc

offered_names : (first : Option Tool) → map tool_name (offered_tools first) ≡ offered first
offered_names None = refl
offered_names (Some tool) = refl

pub names_offered : (first : Option Tool) (program : Command) → OffersTools (offered_tools first) program
    → subcommand_names program ≡ offered first
names_offered first program offers =
    ap (λ (app : App). map (λ (s : Shape). s.name) app.subs) offers.app
    ∙ names_of_shapes (offered_tools first) offers.shapes offers.are ∙ offered_names first
