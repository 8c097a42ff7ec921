use Rattle.std.proofs.Common.{◌≡◌, ℕ, ◌<◌, false, get_or}
use Rattle.program_law.specs.declared.Row.{Row}
use Rattle.program_regions.specs.Regions.{is_crossed}
use Rattle.program_regions.proofs.regions.first_crossed.Given as goal

-- no column before is crossed
abbrev pub invariant-loop-j : goal.invariant-loop-j
invariant-loop-j l = (k : ℕ) (d : Row) → k < l.j → is_crossed (get_or l.bounds k d) ≡ false
