-- What the options of a command line mean (manual, "Invoking the msgfmt Program").
use Rattle.std.specs.Prelude.{◌≡◌, ℕ, Bool, if◌then◌else◌, List, Option, None, Some, codes, refl, [], ◌∷◌}
use Rattle.std.specs.Str.{bytes_eq}
use Rattle.mo_file.specs.declared.byte_order.Order.{Order}
use Rattle.mo_file.specs.declared.byte_order.Order.TheVariants.{Big, Little}
use Rattle.msgfmt.specs.declared.options.MsgfmtOptions.{MsgfmtOptions}

-- `--endianness=big`, and else little-endian
abbrev pub order_of : Option (List ℕ) → Order
order_of None = Little
order_of (Some name) = if bytes_eq name (codes "big") then Big else Little

-- the byte order that `--endianness` names
pub record IsOrder (text : List ℕ → Option (List ℕ) → Type 0) (order : Order) : Type 0 where
  pub name : Option (List ℕ)
  pub name_is : text (codes "endianness") name
  pub order_is : order ≡ order_of name

-- each option of msgfmt by its name
pub record AreMsgfmtOptions (flag : List ℕ → Bool → Type 0)
    (text : List ℕ → Option (List ℕ) → Type 0) (o : MsgfmtOptions) : Type 0 where
  pub use_fuzzy : flag (codes "use-fuzzy") o.use_fuzzy
  pub order : IsOrder text o.order
  pub statistics : flag (codes "statistics") o.statistics
  pub profile_check : flag (codes "profile-check") o.profile_check

-- the output where `-o` isn't given: `messages.mo`, this project's own; and the bytes of this name
abbrev pub default_output : List ℕ
default_output = codes "messages.mo"

pub default_output_is :
    default_output ≡ 109 ∷ 101 ∷ 115 ∷ 115 ∷ 97 ∷ 103 ∷ 101 ∷ 115 ∷ 46 ∷ 109 ∷ 111 ∷ []
default_output_is = refl

-- the byte order is little-endian where none is named
pub default_order : order_of None ≡ Little
default_order = refl
