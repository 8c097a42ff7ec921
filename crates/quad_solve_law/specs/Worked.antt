-- Worked programs. Names are single letters here, as bytes.
use Rattle.std.specs.Prelude.{ℕ, pos, neg_ℤ, [], ◌∷◌, Some, None, false}
use Rattle.rational.specs.Rational.{ℚ, whole, fraction}
use Rattle.program_law.specs.Program.{Program}

abbrev pub n : ℕ → ℚ
n k = whole (pos k)

abbrev pub minus : ℕ → ℚ
minus k = whole (neg_ℤ (pos k))

-- x^2 + 4y^2 - 32y + 64 with x + y ≤ 7, -x + 2y ≤ 4, x ≥ 0, 0 ≤ y ≤ 4
abbrev pub hill : Program
hill = record {
  objective = 111 ∷ [];
  rows = (97 ∷ [], record { low = None; high = Some (n 7) }) ∷ (98 ∷ [], record { low = None; high = Some (n 4) }) ∷ [];
  columns = (120 ∷ [], record { low = Some (n 0); high = None; whole = false }) ∷ (121 ∷ [], record { low = Some (n 0); high = Some (n 4); whole = false }) ∷ [];
  entries = (n 1 ∷ n 1 ∷ []) ∷ (minus 1 ∷ n 2 ∷ []) ∷ [];
  costs = n 0 ∷ minus 32 ∷ [];
  constant = n 64;
  pairs = (n 2 ∷ n 0 ∷ []) ∷ (n 0 ∷ n 8 ∷ []) ∷ [];
}

-- p / q
abbrev pub over : ℕ → ℕ → ℚ
over p q = fraction (pos p) q

-- -(p / q)
abbrev pub minus_over : ℕ → ℕ → ℚ
minus_over p q = fraction (neg_ℤ (pos p)) q

-- 4a^2 + 2b^2 + c^2 with a + b + c = 1, 10a + 6b + 4c ≥ 7, and a, b, c ≥ 0
abbrev pub portfolio : Program
portfolio = record {
  objective = 111 ∷ [];
  rows = (117 ∷ [], record { low = Some (n 1); high = Some (n 1) }) ∷ (118 ∷ [], record { low = Some (n 7); high = None }) ∷ [];
  columns = (97 ∷ [], record { low = Some (n 0); high = None; whole = false }) ∷ (98 ∷ [], record { low = Some (n 0); high = None; whole = false })
      ∷ (99 ∷ [], record { low = Some (n 0); high = None; whole = false }) ∷ [];
  entries = (n 1 ∷ n 1 ∷ n 1 ∷ []) ∷ (n 10 ∷ n 6 ∷ n 4 ∷ []) ∷ [];
  costs = n 0 ∷ n 0 ∷ n 0 ∷ [];
  constant = n 0;
  pairs = (n 8 ∷ n 0 ∷ n 0 ∷ []) ∷ (n 0 ∷ n 4 ∷ n 0 ∷ []) ∷ (n 0 ∷ n 0 ∷ n 2 ∷ []) ∷ [];
}

-- (x + y - 2)^2 with x ≥ 0, y ≥ 0
abbrev pub valley : Program
valley = record {
  objective = 111 ∷ [];
  rows = [];
  columns = (120 ∷ [], record { low = Some (n 0); high = None; whole = false }) ∷ (121 ∷ [], record { low = Some (n 0); high = None; whole = false }) ∷ [];
  entries = [];
  costs = minus 4 ∷ minus 4 ∷ [];
  constant = n 4;
  pairs = (n 2 ∷ n 2 ∷ []) ∷ (n 2 ∷ n 2 ∷ []) ∷ [];
}

-- -x with x ≥ 0
abbrev pub slope : Program
slope = record {
  objective = 111 ∷ [];
  rows = [];
  columns = (120 ∷ [], record { low = Some (n 0); high = None; whole = false }) ∷ [];
  entries = [];
  costs = minus 1 ∷ [];
  constant = n 0;
  pairs = (n 0 ∷ []) ∷ [];
}
