-- What a step leaves, as what is kept.
use Rattle.std.proofs.Common.{◌≡◌, Bool, List, Option, Result, Ok, Err, refl, sym}
use Rattle.rational.specs.Rational.{ℚ}
use Rattle.program_law.specs.Region.{Region}
use Rattle.program_regions.specs.Descents.{Descended}
use Rattle.cert_check_law.specs.declared.Event.{Event}
use Rattle.check_nodes.specs.Walk.{StepLeaves}
use Rattle.check_lines.specs.Checks.{waiting_in}

pub leaves_itself : (left : Result Bool Event) (walk : Descended (Option ℚ)) → StepLeaves left walk (waiting_in left walk)
leaves_itself (Ok more) walk = refl
leaves_itself (Err e) walk = refl

pub leaves_is : (left : Result Bool Event) (walk : Descended (Option ℚ)) (step : Result (List Region) Event) → StepLeaves left walk step → waiting_in left walk ≡ step
leaves_is (Ok more) walk step h = sym h
leaves_is (Err e) walk step h = sym h
