-- Internal to this crate: what is gathered of inputs before they are compiled.
use Rattle.std.specs.Prelude.{◌≡◌, ◌<◌, ◌^◌, Bool, List, length, MatchResult}
use Rattle.po_compile.specs.Prelude.{IsReadingFault, AreCollected}
use Rattle.po_entry.specs.Prelude.{slice_texts}
use Rattle.msgfmt.specs.declared.plan.Gathered.{Gathered}
use Rattle.msgfmt.specs.Msgfmt.{input_names, input_texts}
use Rattle.runs.specs.Prelude.{NamedFile}

-- these are the names of the inputs, and the live entries of their texts, or why one isn't read
pub record IsGathered (use_fuzzy : Bool) (inputs : List NamedFile) (gathered : Gathered) : Type 0 where
  pub named : slice_texts gathered.names.items ≡ input_names inputs
  pub collects : MatchResult gathered.collected
      (λ collected. AreCollected use_fuzzy (input_texts inputs) collected.items) (IsReadingFault (input_texts inputs))
  pub few : length inputs < 2 ^ 32
