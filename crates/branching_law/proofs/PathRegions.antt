-- Regions behind paths: as long as the first one, with all its bounds, and inside it.
use Rattle.std.specs.Prelude.{◌≡◌, ℕ, zero, suc, ℤ, List, [], ◌∷◌, ◌++◌, length, Option, Some, None, IfSome, true, false}
use Rattle.std.proofs.Common.{refl, ◌∙◌, ap, cond}
use Rattle.rational.specs.Rational.{ℚ}
use Rattle.rational.specs.Order.{◌≤ℚ◌}
use Rattle.rational.proofs.Order.{lt_le}
use Rattle.rational.proofs.OrderLaws.{le_trans}
use Rattle.rational.specs.Tests.{is_le}
use Rattle.program_law.proofs.Numbers.{le_tested, lt_tested}
use Rattle.program_law.specs.Region.{Region, smaller, larger, cut_high, cut_low}
use Rattle.program_law.specs.Columns.{AllWithin}
use Rattle.equational_law.specs.Solutions.{HasItsBounds}
use Rattle.quad_solve_law.proofs.RegionRays.{has_itself, cut_high_has, cut_low_has}
use Rattle.branching_law.specs.declared.Cut.{Cut}
use Rattle.branching_law.specs.declared.Cut.TheVariants.{Below, Above}
use Rattle.branching_law.specs.declared.Turn.{Turn}
use Rattle.branching_law.specs.Paths.{half_of, behind, region_behind}

pub behind_last : (region : Region) (path : List Turn) (t : Turn) → region_behind region (path ++ t ∷ []) ≡ behind (region_behind region path) t
behind_last region [] t = refl
behind_last region (u ∷ path) t = behind_last (behind region u) path t

-- ---- as long

length-cut_high : (region : Region) (j : ℕ) (k : ℚ) → length (cut_high region j k) ≡ length region
length-cut_high [] j k = refl
length-cut_high (b ∷ bs) zero k = refl
length-cut_high (b ∷ bs) (suc j) k = ap suc (length-cut_high bs j k)

length-cut_low : (region : Region) (j : ℕ) (k : ℚ) → length (cut_low region j k) ≡ length region
length-cut_low [] j k = refl
length-cut_low (b ∷ bs) zero k = refl
length-cut_low (b ∷ bs) (suc j) k = ap suc (length-cut_low bs j k)

length-half : (c : Cut) (region : Region) (j : ℕ) (k : ℤ) → length (half_of c region j k) ≡ length region
length-half Below region j k = length-cut_high region j _
length-half Above region j k = length-cut_low region j _

pub length-behind : (region : Region) (path : List Turn) → length (region_behind region path) ≡ length region
length-behind region [] = refl
length-behind region (t ∷ path) = length-behind (behind region t) path ∙ length-half t.cut region t.column t.k

-- ---- with all bounds

pub has_all : (one two three : Region) → HasItsBounds one two → HasItsBounds two three → HasItsBounds one three
has_all [] [] [] h k = tt
has_all [] [] (c ∷ cs) h k = absurd k
has_all [] (b ∷ bs) cs h k = absurd h
has_all (a ∷ more) [] cs h k = absurd h
has_all (a ∷ more) (b ∷ bs) [] h k = absurd k
has_all (a ∷ more) (b ∷ bs) (c ∷ cs) h k = ((λ s. k.0 (h.0 s)), (λ s. k.1 (h.1 s)), has_all more bs cs h.2 k.2)

half_has : (c : Cut) (region : Region) (j : ℕ) (k : ℤ) → HasItsBounds region (half_of c region j k)
half_has Below region j k = cut_high_has region j _
half_has Above region j k = cut_low_has region j _

pub behind_has : (region : Region) (path : List Turn) → HasItsBounds region (region_behind region path)
behind_has region [] = has_itself region
behind_has region (t ∷ path) = has_all region (behind region t) (region_behind (behind region t) path) (half_has t.cut region t.column t.k) (behind_has (behind region t) path)

-- ---- inside

pub of_smaller : (o : Option ℚ) (k x : ℚ) → IfSome (smaller o k) (λ h. x ≤ℚ h) → IfSome o (λ h. x ≤ℚ h)
of_smaller None k x w = tt
of_smaller (Some h) k x w = by (is_le h k) refl w
  where
    by : (b : _) → is_le h k ≡ b → x ≤ℚ cond b h k → x ≤ℚ h
    by true e w = w
    by false e w = le_trans w (lt_le k h (lt_tested h k e))

pub of_larger : (o : Option ℚ) (k x : ℚ) → IfSome (larger o k) (λ l. l ≤ℚ x) → IfSome o (λ l. l ≤ℚ x)
of_larger None k x w = tt
of_larger (Some l) k x w = by (is_le l k) refl w
  where
    by : (b : _) → is_le l k ≡ b → cond b k l ≤ℚ x → l ≤ℚ x
    by true e w = le_trans (le_tested l k e) w
    by false e w = w

of_cut_high : (region : Region) (j : ℕ) (k : ℚ) (x : List ℚ) → AllWithin (cut_high region j k) x → AllWithin region x
of_cut_high [] j k x w = w
of_cut_high (b ∷ bs) zero k [] w = absurd w
of_cut_high (b ∷ bs) zero k (x ∷ xs) w = (record { low = w.0.low; high = of_smaller b.high k x w.0.high }, w.1)
of_cut_high (b ∷ bs) (suc j) k [] w = absurd w
of_cut_high (b ∷ bs) (suc j) k (x ∷ xs) w = (w.0, of_cut_high bs j k xs w.1)

of_cut_low : (region : Region) (j : ℕ) (k : ℚ) (x : List ℚ) → AllWithin (cut_low region j k) x → AllWithin region x
of_cut_low [] j k x w = w
of_cut_low (b ∷ bs) zero k [] w = absurd w
of_cut_low (b ∷ bs) zero k (x ∷ xs) w = (record { low = of_larger b.low k x w.0.low; high = w.0.high }, w.1)
of_cut_low (b ∷ bs) (suc j) k [] w = absurd w
of_cut_low (b ∷ bs) (suc j) k (x ∷ xs) w = (w.0, of_cut_low bs j k xs w.1)

of_half : (c : Cut) (region : Region) (j : ℕ) (k : ℤ) (x : List ℚ) → AllWithin (half_of c region j k) x → AllWithin region x
of_half Below region j k x w = of_cut_high region j _ x w
of_half Above region j k x w = of_cut_low region j _ x w

pub inside : (region : Region) (path : List Turn) (x : List ℚ) → AllWithin (region_behind region path) x → AllWithin region x
inside region [] x w = w
inside region (t ∷ path) x w = of_half t.cut region t.column t.k x (inside (behind region t) path x w)
