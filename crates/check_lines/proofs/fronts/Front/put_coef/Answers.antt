use Rattle.std.proofs.Common.{List, ap, arith}
use Rattle.program_law.specs.declared.Square.{Square}
use Rattle.cert_text_law.specs.Told.{with_coef}
use Rattle.check_lines.specs.Fronts.{told}
use Rattle.check_lines.proofs.LastSet.{last_set}
use Rattle.check_lines.proofs.fronts.Front.put_coef.Goals as goal

pub returns-then-count-gt0-clause-told : goal.returns-then-count-gt0-clause-told
returns-then-count-gt0-clause-told c =
    let f = c.args.self.now in
    ap (λ (qs : List Square). record (told f) { squares = qs })
    (last_set (with_coef c.args.column c.args.value) f.squares.items _ _ _ c.index_mut.ensures.value (omega (arith, c.len-count.ensures, c.if-count-gt0.true)) c.put_coef.ensures)
