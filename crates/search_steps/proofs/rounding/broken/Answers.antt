use Rattle.rational.proofs.Rounding.{IsFloor-floor_of}
use Rattle.search_steps.proofs.Bounded.{not_whole}
use Rattle.search_steps.proofs.rounding.broken.Goals as goal

pub returns-in-Some-clause-broken : goal.returns-in-Some-clause-broken
returns-in-Some-clause-broken c =
    record { value = c.in-Some.x; there = c.in-Some.is; fractional = not_whole c.in-Some.x c.if-not-is_whole.ensures.1; floor = IsFloor-floor_of c.in-Some.x }
