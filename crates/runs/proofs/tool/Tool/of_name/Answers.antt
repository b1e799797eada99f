use Rattle.runs.proofs.Prelude.{AllWithin, Bor, HoldsAt, List, MatchOption, None, Option, Some, arith, every_tool, length, option_copied, rules, tool_name, ℕ, ◌<◌, ◌≡◌, ◌≢◌}
use Rattle.std.proofs.lemmas.Iterator.{YieldsList-from_slice, first_from_find}
use Rattle.runs.specs.declared.tool.Tool.{Tool}
use Rattle.runs.specs.declared.tool.Tool.TheVariants.{Msgfmt, Msgunfmt, Msgattrib, Msgcat, Gettext, Ngettext, Envsubst}
use Rattle.runs.proofs.tool.Tool.of_name.Goals as goal

each : (P : Tool → Type 0) → AllWithin P every_tool 0 (length every_tool) → (tool : Tool) → P tool
each P all Msgfmt = all 0 Msgfmt (omega arith) (omega arith)
each P all Msgunfmt = all 1 Msgfmt (omega arith) (omega arith)
each P all Msgattrib = all 2 Msgfmt (omega arith) (omega arith)
each P all Msgcat = all 3 Msgfmt (omega arith) (omega arith)
each P all Gettext = all 4 Msgfmt (omega arith) (omega arith)
each P all Ngettext = all 5 Msgfmt (omega arith) (omega arith)
each P all Envsubst = all 6 Msgfmt (omega arith) (omega arith)

-- the tool of a name, or none
named : (name : List ℕ) (found : Option (Bor Tool))
    → MatchOption found (AllWithin (λ tool. name ≢ tool_name tool) every_tool 0 (length every_tool))
    (λ tool. (name ≡ tool_name tool.now) × (i : ℕ) × (i < length every_tool)
    × HoldsAt (λ other. other ≡ tool.now) every_tool i
    × AllWithin (λ other. name ≢ tool_name other) every_tool 0 i)
    → MatchOption (option_copied found) ((tool : Tool) → name ≢ tool_name tool) (λ tool. name ≡ tool_name tool)
named name None none = each (λ tool. name ≢ tool_name tool) none
named name (Some tool) found = found.0

pub returns : goal.returns
returns c =
    let name = c.args.name.now in
    rw c.copied.ensures
    (named name c.find.result
    (first_from_find _ _ c.find.result (λ (tool : Tool). name ≡ tool_name tool) (λ (tool : Tool). name ≢ tool_name tool)
    c.find.ensures.ran (YieldsList-from_slice every_tool c.iter.ensures.rest) (λ x q k. search rules)
    (λ x q k. search rules)))
