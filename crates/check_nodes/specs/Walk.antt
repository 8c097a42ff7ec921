-- The walk over a tree: the region at hand, and those that wait, told by the cuts on the way to it, the newest first. A cut notes
-- what the low bound is to be cut to in the right half, where that still waits.
use Rattle.std.specs.Prelude.{◌≡◌, ℕ, List, [], ◌∷◌, Option, Some, None, Bool, true, false, Result, Ok, Err}
use Rattle.rational.specs.Rational.{ℚ}
use Rattle.program_law.specs.Region.{Region, cut_low}
use Rattle.program_regions.specs.declared.descents.Cut.{Cut}
use Rattle.program_regions.specs.Descents.{Descended}
use Rattle.cert_check_law.specs.declared.Event.{Event}
use Rattle.cert_check_law.specs.Chain.{◌>>=◌}

-- the right half of a region before the others, where it still waits
abbrev pub with_right : Option ℚ → ℕ → Region → List Region → List Region
with_right None j before rest = rest
with_right (Some above) j before rest = cut_low before j above ∷ rest

-- each cut gives back the region before it, whose right half waits or doesn't
abbrev pub waiting_of : List (Cut (Option ℚ) × Region) → List Region
waiting_of [] = []
waiting_of (c ∷ cs) = with_right c.0.note c.0.column c.1 (waiting_of cs)

-- the regions that wait, the one at hand first; none where nothing is at hand
abbrev pub at_hand : Bool → Descended (Option ℚ) → List Region
at_hand false walk = []
at_hand true walk = walk.region ∷ waiting_of walk.before

-- the regions that wait behind a leaf that is tested
abbrev pub behind_leaf : Result (Unit {0}) Event → List Region → Result (List Region) Event
behind_leaf test waiting = test >>= λ _. Ok waiting

-- a step leaves these regions, or ends with the call's event
abbrev pub StepLeaves : Result Bool Event → Descended (Option ℚ) → Result (List Region) Event → Type 0
StepLeaves (Ok more) walk step = step ≡ Ok (at_hand more walk)
StepLeaves (Err e) walk step = step ≡ Err e
