use Rattle.std.proofs.Common.{sym, ◌∙◌, ap, rules, arith, pos, ◌+ℤ◌, FitsSigned, to_z, of_z}
use Rattle.std.specs.Int.{w128}
use Rattle.std.specs.Prelude.{slice_index_or}
use Rattle.std.proofs.lemmas.Int.{to_z-of_z}
use Rattle.algebra.proofs.Integers.{integers}
use Rattle.row_arithmetic.proofs.Products.{sum_more, sum_end}
use Rattle.row_arithmetic.proofs.row.sum_products.Goals as goal

pub loop-k-preserved : goal.loop-k-preserved
loop-k-preserved c =
    let xs = c.args.xs.now in
    let ys = c.args.ys.now in
    let k = c.loop-k.k in
    let x = slice_index_or xs k (pos 0) in
    let y = slice_index_or ys k (pos 0) in
    let t = c.in_ok-total.total in
    let fx : FitsSigned w128 x = search rules in
    let fy : FitsSigned w128 y = search rules in
    let ft : FitsSigned w128 t = search rules in
    sum_more xs ys k (to_z w128 c.loop-k.total-bits) (to_z w128 (of_z w128 t)) (to_z w128 (of_z w128 x)) (to_z w128 (of_z w128 y)) (omega arith) (let e = c.requires in omega (arith, e)) c.loop-k.invariant
    (to_z-of_z w128 t ft ∙ c.in_ok-total.ensures) (to_z-of_z w128 x fx) (to_z-of_z w128 y fy)

pub returns : goal.returns
returns c =
    let total = to_z w128 c.loop-k.total-bits in
    sym (integers.add_zero total) ∙ ap (λ z. total +ℤ z) (sym (sum_end c.args.xs.now c.args.ys.now c.loop-k.k (omega arith))) ∙ c.loop-k.invariant
