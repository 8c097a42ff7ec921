-- Whole numbers above 0, without their common factors.
use Rattle.std.proofs.Common.{◌≡◌, refl, sym, subst, ap, ℕ, ◌<◌, ℤ, pos, ◌*ℤ◌, [], ◌∷◌, arith}
use Rattle.std.specs.Prelude.{◌<ℤ◌, unsigned_abs}
use Rattle.std.proofs.lemmas.Int.{ints}
use Rattle.std.proofs.Math.Nat.{eq-one_of_dvd-one}
use Rattle.algebra.proofs.Polynomial.{◌⊗◌, ◌≐◌, ◌≺◌, lit}
use Rattle.algebra.proofs.Certificate.{prove, given, scaled, ◌⊞◌, ◌⊠◌, ◌⇐◌}
use Rattle.algebra.proofs.IntegerOrder.{ordered_integers, mul-lt_cancel}
use Rattle.rational.specs.Divisors.{gcd_of, IsGcd-gcd_of}

pub size_positive : (b : ℤ) → pos 0 <ℤ b → 0 < unsigned_abs b
size_positive b h = grind (arith, ints)

pub size_of : (d : ℤ) → pos 0 <ℤ d → pos (unsigned_abs d) ≡ d
size_of d h = grind (arith, ints)

pub positive_part : (p bottom : ℤ) (g : ℕ) → 0 < g → pos 0 <ℤ bottom → p *ℤ pos g ≡ bottom → pos 0 <ℤ p
positive_part p bottom g g_pos positive whole =
    mul-lt_cancel (pos 0) p (pos g) (omega (arith, ints)) (
    prove ordered_integers (p ∷ pos g ∷ bottom ∷ []) (λ p g b. lit 0 ⊗ g ≺ p ⊗ g ⇐ given (lit 0 ≺ b) ⊞ given (b ≐ p ⊗ g)) refl positive (sym whole))

pub positive_product : (x y z : ℤ) → pos 0 <ℤ x → pos 0 <ℤ y → z ≡ x *ℤ y → pos 0 <ℤ z
positive_product x y z h k e = subst (λ z. pos 0 <ℤ z) (sym e) (prove ordered_integers (x ∷ y ∷ []) (λ x y. lit 0 ≺ x ⊗ y ⇐ given (lit 0 ≺ x) ⊠ given (lit 0 ≺ y)) refl h k)

-- ---- the least common multiple

-- one number without its common factors, times the other
pub common_product : (part x y t : ℤ) (g h : ℕ) → part *ℤ pos g ≡ x → t ≡ part *ℤ y → g ≡ h → t *ℤ pos h ≡ x *ℤ y
common_product part x y t g h whole product e =
    subst (λ h. t *ℤ pos h ≡ x *ℤ y) e
    (prove ordered_integers (part ∷ pos g ∷ x ∷ y ∷ t ∷ []) (λ p g x y t. t ⊗ g ≐ x ⊗ y ⇐ scaled g t (p ⊗ y) ⊞ scaled y (p ⊗ g) x) refl product whole)

-- one of two numbers, where the other is 1
pub common_one : (x y : ℤ) → y ≡ pos 1 → x *ℤ pos (gcd_of (unsigned_abs y) (unsigned_abs x)) ≡ x *ℤ y
common_one x y e =
    subst (λ y. x *ℤ pos (gcd_of (unsigned_abs y) (unsigned_abs x)) ≡ x *ℤ y) (sym e)
    (ap (λ (g : ℕ). x *ℤ pos g) (eq-one_of_dvd-one (IsGcd-gcd_of 1 (unsigned_abs x)).0))
