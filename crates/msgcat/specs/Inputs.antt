-- The entries of several inputs (manual, "Invoking the msgcat Program").
use Rattle.std.specs.Prelude.{ℕ, List, map}
use Rattle.std.specs.List.{flat_map}
use Rattle.po_entry.specs.Prelude.{TextEntry}
use Rattle.msgcat.specs.declared.definition.NamedEntry.{NamedEntry as BorrowedEntry}

-- an input: its name, and the entries of its catalogue
pub record Named : Type 0 where
  pub name : List ℕ
  pub entries : List TextEntry

-- an entry of one of several inputs, with that input's name
pub record NamedEntry : Type 0 where
  pub name : List ℕ
  pub entry : TextEntry

abbrev pub named : List ℕ → TextEntry → NamedEntry
named name entry = record { name = name; entry = entry }

-- the entries of all inputs, in order
abbrev pub all_entries : List Named → List NamedEntry
all_entries inputs = flat_map (λ input. map (named input.name) input.entries) inputs

-- What contracts see of entries that the code borrows, with the names of their inputs.

abbrev pub named_entry : BorrowedEntry → NamedEntry
named_entry definition = record { name = definition.name.now; entry = definition.entry }

abbrev pub named_entries : List BorrowedEntry → List NamedEntry
named_entries definitions = map named_entry definitions
