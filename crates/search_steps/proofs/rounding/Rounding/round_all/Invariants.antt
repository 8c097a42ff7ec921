use Rattle.search_steps.specs.Roundings.{HasRounded}
use Rattle.search_steps.proofs.rounding.Rounding.round_all.Given as goal

-- rounding has come to this column
abbrev pub invariant-loop-j : goal.invariant-loop-j
invariant-loop-j l = HasRounded l.p l.j l.self
