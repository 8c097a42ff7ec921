use Rattle.std.proofs.Common.{drop}
use Rattle.std.specs.List.{AllByRecursion}
use Rattle.rational.specs.Rational.{Fits}
use Rattle.frac_core.specs.Parts.{max_part}
use Rattle.qp_answers.proofs.showing.show_list.Given as goal

-- the rest of them suffices
abbrev pub invariant-loop-k : goal.invariant-loop-k
invariant-loop-k l = AllByRecursion (Fits max_part) (drop l.k l.numbers) → AllByRecursion (Fits max_part) l.numbers
