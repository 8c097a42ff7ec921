-- Texts of worked programs.
use Rattle.std.specs.Prelude.{◌≡◌, ℕ, pos, neg_ℤ, [], ◌∷◌, Some, None, false, codes}
use Rattle.std.proofs.Common.{refl}
use Rattle.std.specs.Fmt.{digits}
use Rattle.rational.specs.Divisors.{gcd_of}
use Rattle.rational.specs.Rational.{ℚ, whole, ratio, ◌+ℚ◌, neg_ℚ}
use Rattle.program_law.specs.Program.{Program}
use Rattle.mps_writer_law.specs.Canonical.{text_of_program}

abbrev minus : ℕ → ℚ
minus k = whole (neg_ℤ (pos k))

-- x + x^2 + xy + y^2 with 3 ≤ x + y ≤ 5, x ≥ 0, y ≤ -1
abbrev ranged : Program
ranged =
    record {
      objective = codes "obj";
      rows = (codes "e1", record { low = Some (whole (pos 3)); high = Some (whole (pos 5)) }) ∷ [];
      columns = (codes "x", record { low = Some (whole (pos 0)); high = None; whole = false }) ∷ (codes "y", record { low = None; high = Some (minus 1); whole = false }) ∷ [];
      entries = (whole (pos 1) ∷ whole (pos 1) ∷ []) ∷ [];
      costs = whole (pos 1) ∷ whole (pos 0) ∷ [];
      constant = whole (pos 0);
      pairs = (whole (pos 2) ∷ whole (pos 1) ∷ []) ∷ (whole (pos 1) ∷ whole (pos 2) ∷ []) ∷ [];
    }

ranged_text : text_of_program ranged ≡ codes "NAME\nROWS\n N obj\n G e1\nCOLUMNS\n x obj 1\n x e1 1\n y obj 0\n y e1 1\nRHS\n RHS e1 3\nRANGES\n RNG e1 2\nBOUNDS\n MI BND y\n UP BND y -1\nQUADOBJ\n x x 2\n x y 1\n y y 2\nENDATA\n"
unfolding whole ratio gcd_of digits ◌+ℚ◌ neg_ℚ
ranged_text = refl
