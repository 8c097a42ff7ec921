use Rattle.std.specs.Prelude.{false}
use Rattle.program_law.specs.declared.Column.{Column}
use Rattle.program_data.proofs.Found.{part_found}
use Rattle.program_data.proofs.program.Program.is_marked.Goals as goal

pub returns : goal.returns
returns c = part_found (λ (column : Column). column.whole) c.args.self.now.columns c.args.j c.column.result false c.column.ensures
