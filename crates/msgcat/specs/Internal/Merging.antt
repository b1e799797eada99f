-- What the entry of a message is merged from, while it is made. Internal to this crate.
use Rattle.std.specs.Prelude.{Bool, ◌≡◌, ℕ, List, bytes_eq}
use Rattle.po_entry.specs.Prelude.{TextEntry, has_translation}
use Rattle.msgcat.specs.declared.definition.Part.{Part}
use Rattle.msgcat.specs.declared.definition.Part.TheVariants.{Translation, Previous, Plural}
use Rattle.msgcat.specs.Merged.{has_previous, has_plural}
use Rattle.std.specs.List.{list_any}

-- the parts that a merged entry takes from the first definition that has them
abbrev pub has_part : Part → TextEntry → Bool
has_part Translation e = has_translation e
has_part Previous e = has_previous e
has_part Plural e = has_plural e

-- what the one has, the other has
abbrev pub HaveSameTexts : List (List ℕ) → List (List ℕ) → Type 0
HaveSameTexts seen texts = (q : List ℕ) → list_any (bytes_eq q) seen ≡ list_any (bytes_eq q) texts
