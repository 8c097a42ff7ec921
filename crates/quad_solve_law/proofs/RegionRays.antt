-- Rays of regions with the same bounds, whatever their numbers.
use Rattle.std.proofs.Common.{◌≡◌, refl, ℕ, zero, suc, List, [], ◌∷◌, length}
use Rattle.std.specs.Prelude.{IsSome, Option, Some, None}
use Rattle.rational.specs.Rational.{ℚ}
use Rattle.program_law.specs.Region.{Region, cut_high, cut_low, smaller, larger}
use Rattle.program_law.specs.Program.{Program, IsProgram}
use Rattle.equational_law.specs.Form.{form_of, direction_of}
use Rattle.equational_law.specs.Solutions.{IsFormRay, HasItsBounds}
use Rattle.equational_law.proofs.Rays.{ray_back, ray_of, ray_from, fewer_bounds}

pub no_ray_within : (p : Program) (region other : Region) → IsProgram p → length region ≡ length p.columns → length other ≡ length p.columns
    → HasItsBounds region other → ((d : List ℚ) → ¬ (IsFormRay (form_of p region) d)) → (d : List ℚ) → ¬ (IsFormRay (form_of p other) d)
no_ray_within p region other is wide long has none d ray =
    none (ray_of p region (direction_of other d))
    (ray_from p region (direction_of other d) is wide (fewer_bounds p region other (direction_of other d) has (ray_back p other d is long ray))).0

pub has_itself : (region : Region) → HasItsBounds region region
has_itself [] = tt
has_itself (b ∷ bs) = ((λ h. h), (λ h. h), has_itself bs)

some_smaller : (h : Option ℚ) (k : ℚ) → IsSome h → IsSome (smaller h k)
some_smaller None k s = refl
some_smaller (Some h) k s = refl

some_larger : (l : Option ℚ) (k : ℚ) → IsSome l → IsSome (larger l k)
some_larger None k s = refl
some_larger (Some l) k s = refl

pub cut_high_has : (region : Region) (j : ℕ) (k : ℚ) → HasItsBounds region (cut_high region j k)
cut_high_has [] j k = tt
cut_high_has (b ∷ bs) zero k = ((λ h. h), some_smaller b.high k, has_itself bs)
cut_high_has (b ∷ bs) (suc j) k = ((λ h. h), (λ h. h), cut_high_has bs j k)

pub cut_low_has : (region : Region) (j : ℕ) (k : ℚ) → HasItsBounds region (cut_low region j k)
cut_low_has [] j k = tt
cut_low_has (b ∷ bs) zero k = (some_larger b.low k, (λ h. h), has_itself bs)
cut_low_has (b ∷ bs) (suc j) k = ((λ h. h), (λ h. h), cut_low_has bs j k)
