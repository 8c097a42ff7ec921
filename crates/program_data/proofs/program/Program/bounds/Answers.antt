use Rattle.std.specs.Prelude.{None}
use Rattle.program_law.specs.Program.{bounds_of}
use Rattle.program_data.proofs.Found.{part_found}
use Rattle.program_data.proofs.program.Program.bounds.Goals as goal

pub returns : goal.returns
returns c = part_found bounds_of c.args.self.now.columns c.args.j c.column-column.result (record { low = None; high = None }) c.column-column.ensures
