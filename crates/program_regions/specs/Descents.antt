-- A region, and the regions that it was cut from.
use Rattle.std.specs.Prelude.{ℕ, ◌<◌, List, [], ◌∷◌, map, reverse, slice_set}
use Rattle.program_law.specs.Region.{Region}
use Rattle.program_regions.specs.declared.descents.Cut.{Cut}
use Rattle.program_regions.specs.declared.descents.Kept.{Kept}

-- the region at hand, the region before each cut with the newest first, and how many cuts there is room for
pub record Descended (T : Type 0) : Type 0 where
  pub region : Region
  pub before : List (Cut T × Region)
  pub room : ℕ

-- the bounds that a cut's column had give back the region before it
abbrev pub regions_before : {T : Type 0} → Region → List (Kept T) → List (Cut T × Region)
regions_before region [] = []
regions_before region (c ∷ cs) =
    (c.cut, slice_set region c.cut.column c.before) ∷ regions_before (slice_set region c.cut.column c.before) cs

-- the cuts on the way, the first one first
abbrev pub cuts_of : {T : Type 0} → List (Cut T × Region) → List (Cut T)
cuts_of before = reverse (map (λ c. c.0) before)

-- the cuts' columns are among so many
abbrev pub AreWithin : {T : Type 0} → ℕ → List (Kept T) → Type 0
AreWithin n [] = Unit {0}
AreWithin n (c ∷ cs) = (c.cut.column < n) × AreWithin n cs
