-- How the logic stores what a source of inputs was asked for.
use Rattle.std.specs.Prelude.{◌≡◌, ℕ, List, Option, Some, None, refl}
use Rattle.std.specs.Coded.{Coded, code_by, coded_ℕ, coded_list, coded_option}
use Rattle.runs.specs.Prelude.{Asked}
use Rattle.runs.specs.Inputs.{standard_input, file_of}

abbrev pub to_name : Asked → Option (List ℕ)
to_name standard_input = None
to_name (file_of name) = Some name

abbrev pub from_name : Option (List ℕ) → Asked
from_name None = standard_input
from_name (Some name) = file_of name

pub from_name-to_name : (asked : Asked) → from_name (to_name asked) ≡ asked
from_name-to_name standard_input = refl
from_name-to_name (file_of name) = refl

abbrev pub asked_code : Coded (List Asked)
asked_code =
    coded_list (code_by (Option (List ℕ)) (coded_option (coded_list coded_ℕ)) to_name from_name from_name-to_name)
