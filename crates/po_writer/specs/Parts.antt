-- A written text in two parts, the live entries and the obsolete ones (manual, "The Format of PO
-- Files").
use Rattle.std.specs.Prelude.{◌≡◌, ℕ, ◌==◌, List, ◌∷◌, ◌++◌, length, not, filter, fold, if◌then◌else◌}
use Rattle.po_entry.specs.Prelude.{TextEntry}
use Rattle.po_writer.specs.WrittenText.{with_entry, in_order}
use Rattle.po_writer.specs.declared.parts.TextParts.{TextParts}

-- the live ones of the entries are written in one part, and the obsolete ones in the other
pub record AreParts (entries : List TextEntry) (parts : TextParts) : Type 0 where
  pub live : parts.live.items ≡ in_order (filter (λ e. not e.obsolete) entries)
  pub obsolete : parts.obsolete.items ≡ in_order (filter (λ e. e.obsolete) entries)

-- further entries stand after what the parts had: the live ones in one part, the obsolete ones in the other
pub record AreAdded (entries : List TextEntry) (old new : TextParts) : Type 0 where
  pub live : new.live.items ≡ fold with_entry old.live.items (filter (λ e. not e.obsolete) entries)
  pub obsolete : new.obsolete.items ≡ fold with_entry old.obsolete.items (filter (λ e. e.obsolete) entries)

-- two parts as one text, with an empty line between them where neither is empty
abbrev pub joined_parts : TextParts → List ℕ
joined_parts parts =
    if length parts.obsolete.items == 0 then parts.live.items
    else if length parts.live.items == 0 then parts.obsolete.items
    else parts.live.items ++ 10 ∷ parts.obsolete.items
