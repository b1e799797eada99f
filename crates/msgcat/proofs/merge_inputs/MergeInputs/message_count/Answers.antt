use Rattle.msgcat.proofs.Prelude.{all_entries, arith, definitions, groups, length-map}
use Rattle.msgcat.proofs.GroupsByIndex.{groups_counted}
use Rattle.msgcat.proofs.merge_inputs.MergeInputs.message_count.Goals as goal

pub returns : goal.returns
returns c = λ read h.
    let all = all_entries read in
    omega (
      arith,
      c.len.ensures,
      c.args.self.now.links.firsts.ok.0,
      h.links.many,
      groups_counted all,
      length-map (groups all) definitions,
    )
