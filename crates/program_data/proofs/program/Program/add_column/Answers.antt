use Rattle.program_data.specs.Kept.{kept}
use Rattle.program_data.proofs.KeptLemmas.{column_added}
use Rattle.program_data.proofs.program.Program.add_column.Goals as goal

pub invariant_of-self-2 : goal.invariant_of-self-2
invariant_of-self-2 c =
    rw (c.in_ok-put.ensures.things, c.in_ok-put.ensures.numbers, c.into_bytes.ensures.bytes)
    (column_added (kept c.self.inside) _ c.args.name c.args.column c.self.view_is c.self.invariant c.into_bytes.ensures.name c.in_ok-place.ensures.1 c.in_ok-place.ensures.2).1

pub returns-clause-ok : goal.returns-clause-ok
returns-clause-ok c =
    rw (c.in_ok-put.ensures.things, c.in_ok-put.ensures.numbers, c.into_bytes.ensures.bytes)
    (column_added (kept c.self.inside) _ c.args.name c.args.column c.self.view_is c.self.invariant c.into_bytes.ensures.name c.in_ok-place.ensures.1 c.in_ok-place.ensures.2).0
