use Rattle.std.proofs.Common.{◌≡◌, ◌+◌, ◌+ℤ◌, ◌*ℤ◌, pos, rules, FitsSigned, arith, to_z, of_z}
use Rattle.std.specs.Prelude.{slice_index_or}
use Rattle.std.specs.Int.{w128}
use Rattle.std.proofs.lemmas.Int.{to_z-of_z}
use Rattle.row_arithmetic.proofs.Products.{product_more}
use Rattle.row_arithmetic.proofs.row.product.Goals as goal

pub loop-equation-preserved : goal.loop-equation-preserved
loop-equation-preserved c =
    let numbers = c.args.numbers.now in
    let column = c.args.column.now in
    let k = c.loop-equation.equation-index in
    let e = slice_index_or column k (0, pos 0) in
    let x = slice_index_or numbers (e.0 + 1) (pos 0) in
    let t = c.in_ok-total.total in
    let fx : FitsSigned w128 x = search rules in
    let fv : FitsSigned w128 e.1 = search rules in
    let ft : FitsSigned w128 t = search rules in
    let sum : t ≡ to_z w128 c.loop-equation.total-bits +ℤ to_z w128 (of_z w128 x) *ℤ to_z w128 (of_z w128 e.1) = c.in_ok-total.ensures in
    rw (to_z-of_z w128 t ft)
    (product_more numbers column k (0, pos 0) (to_z w128 c.loop-equation.total-bits) t (to_z w128 (of_z w128 x)) (to_z w128 (of_z w128 e.1)) (omega arith) c.loop-equation.invariant sum (to_z-of_z w128 x fx) (to_z-of_z w128 e.1 fv))
