use Rattle.std.proofs.Common.{◌≡◌, ◌++◌, map, take}
use Rattle.program_regions.specs.Descents.{cuts_of}
use Rattle.search_steps.proofs.trails.Trail.path.Given as goal

-- the path of the cuts so far
abbrev pub invariant-loop-i : goal.invariant-loop-i
invariant-loop-i l = l.path ≡ l.self.turns ++ map (λ c. c.note) (take l.i (cuts_of l.self.walk.before))
