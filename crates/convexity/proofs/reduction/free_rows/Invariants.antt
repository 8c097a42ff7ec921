use Rattle.std.proofs.Common.{◌≡◌, ◌+◌, take, drop, length}
use Rattle.rational.specs.Vectors.{row_at}
use Rattle.convexity.specs.Places.{freed_onto}
use Rattle.convexity.proofs.reduction.free_rows.Given as goal

-- the rows that are freed so far and those that are left give the whole; the row itself stays
abbrev pub invariant-loop-k : goal.invariant-loop-k
invariant-loop-k l = record {
  freed : freed_onto (take (l.j + l.k) l.half) (drop l.k (row_at l.half l.j)) (drop l.k l.v) (drop (l.j + l.k) l.half)
      ≡ freed_onto (take (l.j + 1) l.initial.half) (drop 1 (row_at l.initial.half l.j)) (drop 1 l.v) (drop (l.j + 1) l.initial.half);
  row : row_at l.half l.j ≡ row_at l.initial.half l.j;
  size : length l.half ≡ length l.initial.half;
}
