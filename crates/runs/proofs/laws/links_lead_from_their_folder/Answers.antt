use Rattle.runs.proofs.Prelude.{cond-true, eq-eqb, path_file_name, path_join, path_parent, path_with_file_name, refl, rsplit_once, split_last_component, trim_trailing}
use Rattle.runs.proofs.laws.links_lead_from_their_folder.Goals as goal

pub returns : goal.returns
unfolding path_with_file_name path_join path_file_name path_parent split_last_component rsplit_once trim_trailing
returns c = record {
  from_the_root = λ path text is. cond-true _ text _ (eq-eqb _ 47 is);
  in_a_folder = refl;
  to_another_folder = refl;
  in_the_working_folder = refl;
}
