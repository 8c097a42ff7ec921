use Rattle.std.proofs.Common.{◌∙◌}
use Rattle.mps_assembly.proofs.Programs.{assembled-end}
use Rattle.mps_assembly.proofs.EndFaults.{level_pairs}
use Rattle.mps_assembly.proofs.finishing.program_of.Goals as goal

pub returns : goal.returns
returns c = c.set_pairs.ensures ∙ assembled-end c.args.draft.now c.requires.sound.pairs (level_pairs c.args.draft.now c.requires.held)
