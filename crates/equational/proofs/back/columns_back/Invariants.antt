use Rattle.std.proofs.Common.{◌≡◌, ◌≤◌, ◌+◌, length, drop, take}
use Rattle.equational_law.specs.Standing.{parts}
use Rattle.equational.specs.Back.{columns_in, with_rest}
use Rattle.equational.proofs.back.columns_back.Given as goal

-- the numbers so far and the rest give the whole, and the rest has its columns of the form
abbrev pub invariant-loop-j : goal.invariant-loop-j
invariant-loop-j l = record {
  whole : with_rest (take l.j l.columns) (columns_in l.carried (drop l.j l.region) (drop l.place l.z)) ≡ columns_in l.carried l.region l.z;
  size : length l.columns ≡ length l.region;
  room : l.place + parts (drop l.j l.region) ≤ length l.z;
}
