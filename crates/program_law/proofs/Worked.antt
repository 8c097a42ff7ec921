-- Worked programs. Names are single letters here, as bytes: 'o' for the objective, 'a', 'b' for rows, 'x', 'y' for columns.
use Rattle.std.specs.Prelude.{ℕ, pos, neg_ℤ, [], ◌∷◌, Some, None, true, false}
use Rattle.rational.specs.Rational.{ℚ, whole, fraction}
use Rattle.program_law.specs.Program.{Program}

abbrev pub n : ℕ → ℚ
n k = whole (pos k)

abbrev pub minus : ℕ → ℚ
minus k = whole (neg_ℤ (pos k))

-- x^2 + 4y^2 - 32y + 64 with x + y ≤ 7, -x + 2y ≤ 4, x ≥ 0, 0 ≤ y ≤ 4
abbrev pub first : Program
first =
    record {
      objective = 111 ∷ [];
      rows = (97 ∷ [], record { low = None; high = Some (n 7) }) ∷ (98 ∷ [], record { low = None; high = Some (n 4) }) ∷ [];
      columns = (120 ∷ [], record { low = Some (n 0); high = None; whole = false }) ∷ (121 ∷ [], record { low = Some (n 0); high = Some (n 4); whole = false }) ∷ [];
      entries = (n 1 ∷ n 1 ∷ []) ∷ (minus 1 ∷ n 2 ∷ []) ∷ [];
      costs = n 0 ∷ minus 32 ∷ [];
      constant = n 64;
      pairs = (n 2 ∷ n 0 ∷ []) ∷ (n 0 ∷ n 8 ∷ []) ∷ [];
    }

-- nothing to minimise, with x ≤ 1 and x ≥ 2
abbrev pub apart : Program
apart =
    record {
      objective = 111 ∷ [];
      rows = (97 ∷ [], record { low = None; high = Some (n 1) }) ∷ (98 ∷ [], record { low = Some (n 2); high = None }) ∷ [];
      columns = (120 ∷ [], record { low = Some (n 0); high = None; whole = false }) ∷ [];
      entries = (n 1 ∷ []) ∷ (n 1 ∷ []) ∷ [];
      costs = n 0 ∷ [];
      constant = n 0;
      pairs = (n 0 ∷ []) ∷ [];
    }

-- x^2 - x + 1/4 with x whole and at least 0
abbrev pub between : Program
between =
    record {
      objective = 111 ∷ [];
      rows = [];
      columns = (120 ∷ [], record { low = Some (n 0); high = None; whole = true }) ∷ [];
      entries = [];
      costs = minus 1 ∷ [];
      constant = fraction (pos 1) 4;
      pairs = (n 2 ∷ []) ∷ [];
    }

-- x + x^2 + xy + y^2 with 3 ≤ x + y ≤ 5, x ≥ 0, y ≤ -1
abbrev pub ranged : Program
ranged =
    record {
      objective = 111 ∷ [];
      rows = (97 ∷ [], record { low = Some (n 3); high = Some (n 5) }) ∷ [];
      columns = (120 ∷ [], record { low = Some (n 0); high = None; whole = false }) ∷ (121 ∷ [], record { low = None; high = Some (minus 1); whole = false }) ∷ [];
      entries = (n 1 ∷ n 1 ∷ []) ∷ [];
      costs = n 1 ∷ n 0 ∷ [];
      constant = n 0;
      pairs = (n 2 ∷ n 1 ∷ []) ∷ (n 1 ∷ n 2 ∷ []) ∷ [];
    }
