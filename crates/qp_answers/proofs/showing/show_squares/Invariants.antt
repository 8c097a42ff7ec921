use Rattle.std.proofs.Common.{drop}
use Rattle.std.specs.List.{AllByRecursion}
use Rattle.cert_grammar.specs.Writable.{SquareFits}
use Rattle.qp_answers.proofs.showing.show_squares.Given as goal

-- the rest of them suffices
abbrev pub invariant-loop-k : goal.invariant-loop-k
invariant-loop-k l = AllByRecursion SquareFits (drop l.k l.squares) → AllByRecursion SquareFits l.squares
