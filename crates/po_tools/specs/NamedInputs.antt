-- Catalogues that are merged, each under its name (manual, "Invoking the msgcat Program").
use Rattle.std.specs.Prelude.{◌≡◌, List, map}
use Rattle.po_entry.specs.Prelude.{TextEntry}
use Rattle.msgcat.specs.Prelude.{Named, all_entries, AreReadInputs, unnamed}
use Rattle.msgcat.specs.declared.input.ReadInput.{ReadInput}
use Rattle.po_tools.specs.declared.catalogues.Named.{Named as NamedCatalogue}

-- what contracts see of an input
abbrev pub input_view : NamedCatalogue → Named
input_view input = record { name = input.name.now; entries = input.catalogue }

abbrev pub inputs_view : List NamedCatalogue → List Named
inputs_view inputs = map input_view inputs

-- the entries of the inputs, one after another, and where those of each begin
pub record AreStored (inputs : List Named) (entries : List TextEntry) (read : List ReadInput) : Type 0 where
  pub known : AreReadInputs inputs read
  pub all : entries ≡ unnamed (all_entries inputs)
