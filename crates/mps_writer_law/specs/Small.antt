-- The numbers of a program.
use Rattle.std.specs.Prelude.{ℕ, IfSome}
use Rattle.rational.specs.Rational.{Fits}
use Rattle.frac_core.specs.Parts.{max_part}
use Rattle.program_law.specs.declared.Row.{Row}
use Rattle.rational.specs.Sums.{entry}
use Rattle.rational.specs.Vectors.{row_at}
use Rattle.program_law.specs.Program.{Program}
use Rattle.mps_writer_law.specs.Canonical.{sides_at, bounds_at}

-- the sides that are there have both parts at most 2^127 - 1 in size
pub record HasSmallSides (s : Row) : Type 0 where
  pub low : IfSome s.low (λ q. Fits max_part q)
  pub high : IfSome s.high (λ q. Fits max_part q)

-- so have all numbers of a program
pub record HasSmallNumbers (p : Program) : Type 0 where
  pub entries : (i j : ℕ) → Fits max_part (entry (row_at p.entries i) j)
  pub costs : (j : ℕ) → Fits max_part (entry p.costs j)
  pub constant : Fits max_part p.constant
  pub pairs : (j k : ℕ) → Fits max_part (entry (row_at p.pairs j) k)
  pub sides : (i : ℕ) → HasSmallSides (sides_at p i)
  pub bounds : (j : ℕ) → HasSmallSides (bounds_at p j)
