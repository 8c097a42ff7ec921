-- The whole values that a region leaves to the marked columns, and how many there are.
use Rattle.std.specs.Prelude.{ℕ, zero, suc, ◌*◌, ℤ, pos, negsuc, ◌-ℤ◌, List, [], ◌∷◌, ◌++◌, Option, Some, None, Bool, IsSome, if◌then◌else◌}
use Rattle.rational.specs.Rational.{ℚ, whole}
use Rattle.rational.specs.Rounding.{floor_of, ceiling_of}
use Rattle.program_law.specs.Region.{Region, bounds_at}
use Rattle.program_law.specs.Program.{Program}
use Rattle.program_law.specs.Point.{IsWithin}
use Rattle.certificate_law.specs.declared.Node.{Node}
use Rattle.certificate_law.specs.declared.Node.TheVariants.{Branch, Bound, Farkas, Cross}
use Rattle.branching_law.specs.declared.Turn.{Turn}
use Rattle.branching_law.specs.Paths.{below, above}
use Rattle.branching_law.specs.Rounding.{IsMarkedAt}

-- the whole numbers z, one for each column, lie within the region's bounds wherever the column is marked
abbrev pub HoldsWholes : Program → Region → (ℕ → ℤ) → Type 0
HoldsWholes p region z = (j : ℕ) → IsMarkedAt p j → IsWithin (bounds_at region j) (whole (z j))

-- some whole values of the marked columns lie in the region
abbrev pub HasWholes : Program → Region → Type 0
HasWholes p region = (z : ℕ → ℤ) × HoldsWholes p region z

-- none lie in both regions
abbrev pub AreApart : Program → Region → Region → Type 0
AreApart p one other = (z : ℕ → ℤ) → HoldsWholes p one z → HoldsWholes p other z → ⊥

-- the paths to the leaves of a tree: those of its leaves, and the open ones
abbrev pub leaf_paths : List (List Turn) → List Node → List (List Turn)
leaf_paths waiting [] = waiting
leaf_paths [] (n ∷ ns) = []
leaf_paths (path ∷ waiting) (Branch j k ∷ ns) = leaf_paths ((path ++ below j k ∷ []) ∷ (path ++ above j k ∷ []) ∷ waiting) ns
leaf_paths (path ∷ waiting) (Bound x y ∷ ns) = path ∷ leaf_paths waiting ns
leaf_paths (path ∷ waiting) (Farkas y ∷ ns) = path ∷ leaf_paths waiting ns
leaf_paths (path ∷ waiting) (Cross j ∷ ns) = path ∷ leaf_paths waiting ns

-- ---- how many there are

-- each marked column has both bounds
abbrev pub AreBounded : Program → Region → Type 0
AreBounded p region = (j : ℕ) → IsMarkedAt p j → IsSome (bounds_at region j).low × IsSome (bounds_at region j).high

-- how many whole numbers there are from one up to another, by their difference
abbrev pub count_to : ℤ → ℕ
count_to (pos n) = suc n
count_to (negsuc n) = zero

-- how many whole numbers lie within two bounds
abbrev pub wholes_between : Option ℚ → Option ℚ → ℕ
wholes_between None h = zero
wholes_between (Some l) None = zero
wholes_between (Some l) (Some h) = count_to (floor_of h -ℤ ceiling_of l)

-- the product of these numbers over the marked columns
abbrev pub choices : List Bool → Region → ℕ
choices [] bs = 1
choices (m ∷ ms) [] = 1
choices (m ∷ ms) (b ∷ bs) = if m then wholes_between b.low b.high * choices ms bs else choices ms bs
