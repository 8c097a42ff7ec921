-- Regions: a low and a high bound for each column, each of which may be absent.
use Rattle.std.specs.Prelude.{◌≡◌, ℕ, zero, suc, List, [], ◌∷◌, Option, Some, None, ℤ, pos, ◌+ℤ◌, Bool, false, not, if◌then◌else◌, slice_index_or}
use Rattle.rational.specs.Rational.{ℚ, whole}
use Rattle.rational.specs.Order.{◌<ℚ◌}
use Rattle.rational.specs.Tests.{is_le}
use Rattle.program_law.specs.declared.Row.{Row}

abbrev pub Region : Type 0
Region = List Row

-- the bounds at a column; none where there is no such column
abbrev pub bounds_at : Region → ℕ → Row
bounds_at region j = slice_index_or region j (record { low = None; high = None })

-- the smaller of a high bound and k
abbrev pub smaller : Option ℚ → ℚ → Option ℚ
smaller None k = Some k
smaller (Some h) k = Some (if is_le h k then h else k)

-- the larger of a low bound and k
abbrev pub larger : Option ℚ → ℚ → Option ℚ
larger None k = Some k
larger (Some l) k = Some (if is_le l k then k else l)

-- the region with its high bound at column j cut to k
abbrev pub cut_high : Region → ℕ → ℚ → Region
cut_high [] j k = []
cut_high (b ∷ bs) zero k = record { low = b.low; high = smaller b.high k } ∷ bs
cut_high (b ∷ bs) (suc j) k = b ∷ cut_high bs j k

-- the region with its low bound at column j cut to k
abbrev pub cut_low : Region → ℕ → ℚ → Region
cut_low [] j k = []
cut_low (b ∷ bs) zero k = record { low = larger b.low k; high = b.high } ∷ bs
cut_low (b ∷ bs) (suc j) k = b ∷ cut_low bs j k

-- the left region of a branch at column j and the whole number k: at most k
abbrev pub left_of : Region → ℕ → ℤ → Region
left_of region j k = cut_high region j (whole k)

-- the right region: at least k + 1
abbrev pub right_of : Region → ℕ → ℤ → Region
right_of region j k = cut_low region j (whole (k +ℤ pos 1))

-- a low bound above a high one, both there, as a test
abbrev pub is_above : Option ℚ → Option ℚ → Bool
is_above None h = false
is_above (Some l) None = false
is_above (Some l) (Some h) = not (is_le l h)

-- a low bound above the high one
pub record IsCrossed (b : Row) : Type 0 where
  pub low : ℚ
  pub high : ℚ
  pub has_low : b.low ≡ Some low
  pub has_high : b.high ≡ Some high
  pub above : high <ℚ low

-- the region's low bound at column j is above its high bound
abbrev pub IsCrossedAt : Region → ℕ → Type 0
IsCrossedAt [] j = ⊥
IsCrossedAt (b ∷ bs) zero = IsCrossed b
IsCrossedAt (b ∷ bs) (suc j) = IsCrossedAt bs j

-- a region is crossed where some low bound is above its high bound
pub record IsCrossedRegion (region : Region) : Type 0 where
  pub column : ℕ
  pub crossed : IsCrossedAt region column
