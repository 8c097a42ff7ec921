use Rattle.certificate_law.specs.Fits.{IsColumnVector}
use Rattle.cert_grammar.specs.Text.{square_lines}
use Rattle.cert_writer.proofs.Appended.{extends_then, extends_by, stopped, one_more, lines_step, all_at}
use Rattle.cert_writer.proofs.writing.write_squares.Goals as goal

pub returns-in_err-write_square : goal.returns-in_err-write_square
returns-in_err-write_square c = stopped _ c.loop-k.out.items _ _ _ c.from_residual.ensures.0 c.loop-k.invariant.extends c.in_err-write_square.ensures

pub loop-k-preserved : goal.loop-k-preserved
loop-k-preserved c =
    let step = lines_step (square_lines c.args.p.now) c.args.squares.now c.loop-k.k _ c.get.ensures in
    record {
      extends = extends_then _ _ _ c.loop-k.invariant.extends (extends_by _ _ _ c.in_ok-write_square.ensures);
      whole = one_more _ _ _ _ _ _ c.loop-k.invariant.whole step c.in_ok-write_square.ensures;
    }

pub write_square-requires : goal.write_square-requires
write_square-requires c = all_at (λ s. IsColumnVector c.args.p.now s.coef) c.args.squares.now c.loop-k.k _ c.requires c.get.ensures
