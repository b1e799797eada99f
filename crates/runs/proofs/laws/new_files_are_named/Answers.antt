use Rattle.runs.proofs.Prelude.{path_file_name, path_join, path_parent, path_with_file_name, refl, rsplit_once, split_last_component, trim_trailing}
use Rattle.runs.proofs.laws.new_files_are_named.Goals as goal

pub returns : goal.returns
unfolding path_with_file_name path_join path_file_name path_parent split_last_component rsplit_once trim_trailing
returns c = record {
  in_a_folder = λ number. refl;
  in_the_working_folder = λ number. refl;
  longest = λ number. refl;
  too_long = λ number. refl;
  unnamed = λ number. refl;
}
