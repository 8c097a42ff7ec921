use Rattle.mps_assembly.proofs.Additions.{shaped-end}
use Rattle.mps_assembly.proofs.finishing.shape.Goals as goal

pub returns : goal.returns
returns c =
    shaped-end c.args.draft.now c.args.rights.now c.args.objective c.at.result c.neg.result c.add_columns.new.program c.set_constant.new.self c.requires.within c.requires.objective c.requires.rights c.at.ensures
    c.neg.ensures c.in_ok-add_columns.ensures c.set_constant.ensures
