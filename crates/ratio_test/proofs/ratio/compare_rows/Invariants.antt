use Rattle.std.proofs.Common.{◌≡◌, drop}
use Rattle.ratio_test.specs.Ratio.{compare_quotients}
use Rattle.ratio_test.proofs.ratio.compare_rows.Given as goal

-- what is left decides
abbrev pub invariant-loop-i : goal.invariant-loop-i
invariant-loop-i l = compare_quotients l.s l.t (drop l.i l.row) (drop l.i l.other) ≡ compare_quotients l.s l.t l.row l.other
