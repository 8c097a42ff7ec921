-- Rays of a program are rays of its rounded region, and the other way round.
use Rattle.std.specs.Prelude.{◌≡◌, ℕ, zero, suc, ℤ, pos, List, [], ◌∷◌, Option, Some, None, IsSome, OnSome}
use Rattle.std.proofs.Common.{refl, sym, ◌∙◌, subst}
use Rattle.algebra.proofs.Polynomial.{◌⊗◌, ◌≐◌, ◌≼◌, ◌≺◌, minus, lit}
use Rattle.algebra.proofs.Certificate.{prove, given, scaled, ◌⊠◌, ◌⇐◌}
use Rattle.rational.specs.Rational.{ℚ, zero_ℚ, neg_ℚ, whole, reciprocal, ◌*ℚ◌}
use Rattle.rational.specs.Order.{◌≤ℚ◌, ◌<ℚ◌}
use Rattle.rational.specs.Vectors.{dot, scale, rows_dot}
use Rattle.rational.proofs.Field.{mul-reciprocal}
use Rattle.rational.proofs.Order.{ordered_rationals, lt_le}
use Rattle.rational.proofs.OrderLaws.{reciprocal_positive, ne_of_lt}
use Rattle.rational.proofs.Vectors.{dot-scale_right, rows_dot-scale}
use Rattle.program_law.specs.declared.Row.{Row}
use Rattle.program_law.specs.Region.{Region, bounds_at}
use Rattle.program_law.specs.Program.{Program, bounds, sides}
use Rattle.certificate_law.specs.Ray.{KeepsSides, AllKeepSides, AreZero, IsRay}
use Rattle.equational_law.specs.Solutions.{IsRegionRay, HasItsBounds}
use Rattle.equational_law.proofs.Rays.{fewer_bounds}
use Rattle.quad_solve_law.proofs.RegionRays.{has_itself}
use Rattle.branching_law.specs.declared.Cut.{Cut}
use Rattle.branching_law.specs.declared.Cut.TheVariants.{Below, Above}
use Rattle.branching_law.specs.declared.Turn.{Turn}
use Rattle.branching_law.specs.Paths.{half_of, behind, region_behind, region_of}
use Rattle.branching_law.specs.Rounding.{Rounds, AreRoundingTurns}
use Rattle.branching_law.proofs.PathRegions.{has_all}

-- ---- rounding adds no bound

there : (o : Option ℚ) (v : ℚ) → o ≡ Some v → IsSome o
there o v e = subst IsSome (sym e) refl

half_adds_none : (c : Cut) (bs : Region) (j : ℕ) (k : ℤ) → Rounds c k (bounds_at bs j) → HasItsBounds (half_of c bs j k) bs
half_adds_none Below [] j k r = tt
half_adds_none Above [] j k r = tt
half_adds_none Below (b ∷ bs) zero k r = ((λ s. s), (λ s. there b.high r.1.value r.1.there), has_itself bs)
half_adds_none Above (b ∷ bs) zero k r = ((λ s. there b.low r.value r.there), (λ s. s), has_itself bs)
half_adds_none Below (b ∷ bs) (suc j) k r = ((λ s. s), (λ s. s), half_adds_none Below bs j k r)
half_adds_none Above (b ∷ bs) (suc j) k r = ((λ s. s), (λ s. s), half_adds_none Above bs j k r)

pub rounding_adds_none : (p : Program) (region : Region) (turns : List Turn) → AreRoundingTurns p region turns → HasItsBounds (region_behind region turns) region
rounding_adds_none p region [] r = has_itself region
rounding_adds_none p region (t ∷ turns) r =
    has_all (region_behind (behind region t) turns) (behind region t) region (rounding_adds_none p (behind region t) turns r.1) (half_adds_none t.cut region t.column t.k r.0.rounds)

-- ---- a ray with the product -1

kept_scaled : (k : ℚ) → zero_ℚ ≤ℚ k → (s : Row) (d : ℚ) → KeepsSides s d → KeepsSides s (k *ℚ d)
kept_scaled k up s d h = record { low = low_of s.low h.low; high = high_of s.high h.high }
  where
    low_of : (o : Option ℚ) → OnSome o (zero_ℚ ≤ℚ d) → OnSome o (zero_ℚ ≤ℚ (k *ℚ d))
    low_of None a = a
    low_of (Some l) a = prove ordered_rationals (k ∷ d ∷ []) (λ k d. lit 0 ≼ k ⊗ d ⇐ given (lit 0 ≼ k) ⊠ given (lit 0 ≼ d)) refl up a

    high_of : (o : Option ℚ) → OnSome o (d ≤ℚ zero_ℚ) → OnSome o ((k *ℚ d) ≤ℚ zero_ℚ)
    high_of None a = a
    high_of (Some l) a = prove ordered_rationals (k ∷ d ∷ []) (λ k d. k ⊗ d ≼ lit 0 ⇐ given (lit 0 ≼ k) ⊠ given (d ≼ lit 0)) refl up a

all_scaled : (k : ℚ) → zero_ℚ ≤ℚ k → (ss : List Row) (ds : List ℚ) → AllKeepSides ss ds → AllKeepSides ss (scale k ds)
all_scaled k up [] [] h = h
all_scaled k up [] (d ∷ ds) h = absurd h
all_scaled k up (s ∷ ss) [] h = absurd h
all_scaled k up (s ∷ ss) (d ∷ ds) h = (kept_scaled k up s d h.0, all_scaled k up ss ds h.1)

zero_scaled : (k : ℚ) (xs : List ℚ) → AreZero xs → AreZero (scale k xs)
zero_scaled k [] h = h
zero_scaled k (x ∷ xs) h = (prove ordered_rationals (k ∷ x ∷ []) (λ k x. k ⊗ x ≐ lit 0 ⇐ scaled k x (lit 0)) refl h.0, zero_scaled k xs h.1)

pub unit_ray : (p : Program) (d : List ℚ) → IsRay p d → (e : List ℚ) × IsRegionRay p (bounds p) e
unit_ray p d h =
    let c = dot p.costs d in
    let up : whole (pos 0) <ℚ neg_ℚ c = prove ordered_rationals (c ∷ []) (λ c. lit 0 ≺ minus c ⇐ given (c ≺ lit 0)) refl h.falls in
    let k = reciprocal (neg_ℚ c) in
    let positive : whole (pos 0) <ℚ k = reciprocal_positive up in
    let one : neg_ℚ c *ℚ k ≡ whole (pos 1) = mul-reciprocal (neg_ℚ c) (ne_of_lt up) in (
      scale k d,
      record {
        rows = subst (AllKeepSides (sides p)) (sym (rows_dot-scale p.entries k d)) (all_scaled k (lt_le _ _ positive) (sides p) (rows_dot p.entries d) h.rows);
        columns = all_scaled k (lt_le _ _ positive) (bounds p) d h.columns;
        flat = subst AreZero (sym (rows_dot-scale p.pairs k d)) (zero_scaled k (rows_dot p.pairs d) h.flat);
        falls = dot-scale_right p.costs k d ∙ prove ordered_rationals (c ∷ k ∷ []) (λ c k. k ⊗ c ≐ minus (lit 1) ⇐ scaled (minus (lit 1)) (minus c ⊗ k) (lit 1)) refl one;
      },
    )

-- a ray of the program gives one of its rounded region
pub rounded_ray : (p : Program) (turns : List Turn) (d : List ℚ) → AreRoundingTurns p (bounds p) turns → IsRay p d → (e : List ℚ) × IsRegionRay p (region_of p turns) e
rounded_ray p turns d r h =
    let u = unit_ray p d h in
    (u.0, fewer_bounds p (region_of p turns) (bounds p) u.0 (rounding_adds_none p (bounds p) turns r) u.1)
