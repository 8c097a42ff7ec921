-- Good trees: a branch stands on a marked column, and each leaf is good on its region.
use Rattle.std.specs.Prelude.{◌≡◌, ℕ, List, [], ◌∷◌, Option, Some, None, true}
use Rattle.rational.specs.Rational.{ℚ}
use Rattle.program_law.specs.Region.{Region, left_of, right_of, IsCrossedAt}
use Rattle.program_law.specs.Program.{Program, marks, is_marked}
use Rattle.certificate_law.specs.declared.Node.{Node}
use Rattle.certificate_law.specs.declared.Node.TheVariants.{Branch, Bound, Farkas, Cross}
use Rattle.certificate_law.specs.Leaf.{IsGoodBound, IsGoodFarkas}

-- a BOUND leaf is good for a value; where no value is given there is to be no BOUND leaf
abbrev pub IsGoodFor : Program → Option ℚ → Region → List ℚ → List ℚ → Type 0
IsGoodFor p None region w y = ⊥
IsGoodFor p (Some v) region w y = IsGoodBound p v region w y

-- The nodes in preorder are good trees, one for each region that waits. A branch takes the first region, and its two
-- halves wait in its place; a leaf takes the first region.
abbrev pub AreGood : Program → Option ℚ → List Region → List Node → Type 0
AreGood p v [] [] = Unit {0}
AreGood p v [] (n ∷ ns) = ⊥
AreGood p v (region ∷ waiting) [] = ⊥
AreGood p v (region ∷ waiting) (Branch j k ∷ ns) =
    (is_marked (marks p) j ≡ true) × AreGood p v (left_of region j k ∷ right_of region j k ∷ waiting) ns
AreGood p v (region ∷ waiting) (Bound w y ∷ ns) = IsGoodFor p v region w y × AreGood p v waiting ns
AreGood p v (region ∷ waiting) (Farkas y ∷ ns) = IsGoodFarkas p region y × AreGood p v waiting ns
AreGood p v (region ∷ waiting) (Cross j ∷ ns) = IsCrossedAt region j × AreGood p v waiting ns

-- a good tree on a region
abbrev pub IsGoodTree : Program → Option ℚ → Region → List Node → Type 0
IsGoodTree p v region nodes = AreGood p v (region ∷ []) nodes
