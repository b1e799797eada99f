use Rattle.mo_file.proofs.Prelude.{◌==◌}
use Rattle.mo_file.proofs.KeyComparison.{common_prefix_in, set_where}
use Rattle.mo_file.proofs.common_prefix.common_prefix_at.Goals as goal

pub returns : goal.returns
returns g c = common_prefix_in c.args.stop _ _ _
    (λ a b. set_where (a == b) (a == c.args.stop)) _ _ _ _ _ c.requires.first c.requires.second c.requires.lanes
    c.first_set.ensures
