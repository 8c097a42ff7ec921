use Rattle.std.proofs.Common.{refl, arith}
use Rattle.std.proofs.lemmas.List.{length-map}
use Rattle.program_data.proofs.Rows.{place_set}
use Rattle.program_data.proofs.grid.Grid.set.Goals as goal

pub returns : goal.returns
returns c =
    let i = c.args.i in
    let rows = c.self.inside.rows.items in
    let there = rw (← c.self.view_is) at c.requires.row in
    rw (← c.self.view_is) (place_set rows i c.args.j c.args.value c.index_mut-row.result.now _ (omega (arith, there, length-map rows (λ row. row.items))) c.index_mut-row.ensures.value refl)
