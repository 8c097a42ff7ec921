use Rattle.std.proofs.Common.{◌≡◌, ◌+ℤ◌, drop}
use Rattle.row_arithmetic.specs.Products.{product}
use Rattle.row_arithmetic.proofs.row.product.Given as goal

-- the sum so far and what is left give the whole
abbrev pub invariant-loop-equation : goal.invariant-loop-equation
invariant-loop-equation l = l.total +ℤ product l.numbers (drop l.equation-index l.column) ≡ product l.numbers l.column
