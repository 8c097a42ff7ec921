use Rattle.std.proofs.Common.{◌≡◌, ◌+ℤ◌, drop}
use Rattle.row_arithmetic.specs.Products.{sum_products}
use Rattle.row_arithmetic.proofs.row.sum_products.Given as goal

-- the sum so far and what is left give the whole
abbrev pub invariant-loop-k : goal.invariant-loop-k
invariant-loop-k l = l.total +ℤ sum_products (drop l.k l.xs) (drop l.k l.ys) ≡ sum_products l.xs l.ys
