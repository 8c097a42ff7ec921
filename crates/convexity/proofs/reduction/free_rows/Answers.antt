use Rattle.std.specs.Prelude.{◌≡◌, ◌+◌, List, drop, length}
use Rattle.std.proofs.Common.{ap, sym, ◌∙◌, arith}
use Rattle.std.proofs.Math.ListN.{length-set}
use Rattle.rational.specs.Rational.{ℚ}
use Rattle.rational.specs.Vectors.{row_at}
use Rattle.symmetric_half.specs.Chain.{row_answered}
use Rattle.convexity.specs.ReductionCalculation.{less_product}
use Rattle.convexity.proofs.Steps.{entry_is, tail_is, half_width, freed_more, freed_end}
use Rattle.convexity.proofs.reduction.free_rows.Goals as goal

pub loop-k-preserved : goal.loop-k-preserved
loop-k-preserved c =
    let i = c.loop-k.invariant in let k = c.loop-k.k in let j = c.args.j in
    let wide : length c.row.result.now ≡ length c.args.v.now = omega (arith, c.row.ensures.width, i.size, c.requires.width) in
    let e =
    ap (λ (f : ℚ). row_answered (less_product f (drop k c.args.v.now) (row_at c.loop-k.half (j + k)))) (sym (entry_is c.row.result.now k c.index-row-k.result c.index-row-k.is (omega (arith, wide, c.loop-k-test.true))))
    ∙ ap (λ (v : List ℚ). row_answered (less_product c.index-row-k.result v (row_at c.loop-k.half (j + k)))) (sym (tail_is c.args.v.now k)) ∙ c.in_ok-free_row.ensures.row in
    let more = freed_more j k c.args.v.now c.row.result.now c.loop-k.half c.free_row.new.half (row_at c.free_row.new.half (j + k)) c.loop-k.auto.k
    (omega (arith, wide, c.loop-k-test.true)) c.loop-k-test.true (omega (arith, c.loop-k-test.true, c.requires.width, i.size)) c.row.ensures.row e c.free_row.ensures.rest in
    record {
      freed = more.0 ∙ i.freed;
      row = more.1 ∙ i.row;
      size = ap (λ (r : List (List ℚ)). length r) c.free_row.ensures.rest ∙ length-set c.loop-k.half (j + k) (row_at c.free_row.new.half (j + k)) ∙ i.size;
    }

pub returns-clause-rows : goal.returns-clause-rows
returns-clause-rows c =
    let i = c.loop-k.invariant in
    let w : c.args.j + length (row_at c.args.half.now c.args.j) ≡ length c.args.half.now =
    half_width c.size-size.result c.args.half.now c.args.j c.size-size.ensures.half (omega (arith, c.requires.place, c.size-size.ensures.size)) ∙ c.size-size.ensures.size in
    sym i.freed
    ∙ freed_end c.args.j c.loop-k.k c.args.v.now (row_at c.args.half.now c.args.j) c.loop-k.half (omega (arith, w, c.requires.width, c.loop-k-test.false))
    (omega (arith, i.size, c.requires.width, c.loop-k-test.false)) (sym i.row)
