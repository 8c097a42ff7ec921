use Rattle.std.proofs.Common.{◌≡◌, drop}
use Rattle.frac_core.specs.Dot.{dot_from, dot_of}
use Rattle.frac_core.specs.Parts.{max_part}
use Rattle.rational.specs.Vectors.{rows_dot}
use Rattle.form_problems.proofs.price.curvature.Given as goal

-- the sum so far and what is left give the whole
abbrev pub invariant-loop-j : goal.invariant-loop-j
invariant-loop-j l =
    dot_from max_part l.total (drop l.j l.d) (drop l.j (rows_dot l.f.form.quadratic l.d)) ≡ dot_of max_part l.d (rows_dot l.f.form.quadratic l.d)
